-- What the code finds of a budget by numbers is what the definitions say by names.
use Rattle.std.specs.Prelude.{◌≡◌, ℕ, ◌+◌, ◌<◌, ◌≤◌, Bool, true, false, if◌then◌else◌, is_some, List, [], ◌∷◌, ◌++◌, map, drop, length, get_or, All, Result, Ok, Err, refl}
use Rattle.std.specs.List.{AllByRecursion}
use Rattle.std.specs.Result.{IsErrAnd}
use Rattle.std.specs.Option.{ok_or}
use Rattle.std.proofs.Common.{sym, ◌∙◌, ap, ap₂, subst}
use Rattle.std.proofs.lemmas.List.{append_assoc, append-nil, drop_more, drop_all, length-map}
use Rattle.std.proofs.lemmas.List.Elements.{All-from_recursion}
use Rattle.exact_law.specs.Renaming.{EachOf}
use Rattle.fixed_interval.specs.Interval.{Interval}
use Rattle.covariance.specs.Gradients.{Spans, Gradient, sensitivity, found_at}
use Rattle.covariance.specs.Groups.{Group, IsRegular as GroupIsRegular, AreRegular as GroupsAreRegular, group_of, members}
use Rattle.covariance.specs.declared.group.Group.{Group as CodeGroup}
use Rattle.covariance.specs.Models.{EachMember}
use Rattle.covariance.specs.Renaming.{renamed_group}
use Rattle.covariance.proofs.Renamed.{group_variance-renamed, meets-renamed}
use Rattle.budget_table.specs.declared.part.BudgetInput.{BudgetInput}
use Rattle.budget_table.specs.declared.part.GroupPart.{GroupPart}
use Rattle.sheet_rows.specs.Rows.{Sheet}
use Rattle.sheet_rows.specs.Sheets.{has_quantity, IsStanding}
use Rattle.sheet_model.specs.Quantities.{quantities}
use Rattle.sheet_model.specs.Numbering.{number_in, number_among, AreAllKept}
use Rattle.sheet_model.specs.Budgets.{NamedGroup, variances, named_groups, group_names}
use Rattle.sheet_model.specs.declared.numbering.Numbered.{Numbered}
use Rattle.sheet_model.specs.declared.variances.InputVariance.{InputVariance}
use Rattle.sheet_model.proofs.Budgeted.{groups_are_named}
use Rattle.sheet_model.proofs.KeptSheet.{number_is}
use Rattle.sheet_model.proofs.Names.{there-is_quantity}
use Rattle.sheet_model.proofs.Walking.{quantities_in_order}
use Rattle.edit_session.specs.Replies.{Found, and_then, in_range, all_found, value_in, input_in, part_by, parts_in}
use Rattle.edit_session.specs.Asking.{StopsAt, Finds, AddsTo, goes_on, numbered_parts, IsGradientIn, AreGroupsIn}
use Rattle.edit_session.specs.declared.stop.Stop.{Stop as CodeStop}
use Rattle.edit_session.proofs.Budgeting.{inputs_quantities}
use Rattle.edit_session.proofs.Found.{stops_on, stops_then}
use Rattle.edit_session.proofs.LawNumbers.{members_agree}
use Rattle.edit_session.proofs.Needed.{gradient_by}

-- ---- lists that are found
pub adds_stop : {A : Type 0} (r : Result Unit CodeStop) (stop : CodeStop) (old new : List A) (found : Found (List A)) → IsErrAnd r (λ s. s ≡ stop) → StopsAt stop found
    → AddsTo r old new found
adds_stop (Ok done) stop old new found h k = absurd h
adds_stop (Err s) stop old new found h k = subst (λ t. StopsAt t found) (sym h) k

pub finds_stop : {A : Type 0} (r : Result A CodeStop) (stop : CodeStop) (found : Found A) → IsErrAnd r (λ s. s ≡ stop) → StopsAt stop found → Finds r found
finds_stop (Ok x) stop found h k = absurd h
finds_stop (Err s) stop found h k = subst (λ t. StopsAt t found) (sym h) k

-- one more is found, with these others behind it
more_found : {A : Type 0} (r rest : Found (List A)) (old new : List A) → goes_on old r ≡ Ok new
    → goes_on new rest ≡ goes_on old (and_then r (λ ys. and_then rest (λ zs. Ok (ys ++ zs))))
more_found (Err stop) rest old new e = absurd (cc)
more_found {A} (Ok ys) rest old new e =
    let same : old ++ ys ≡ new = cc in
    subst (λ xs. goes_on xs rest ≡ goes_on old (and_then rest (λ zs. Ok (ys ++ zs)))) same (again rest)
  where
    again : (r : Found (List A)) → goes_on (old ++ ys) r ≡ goes_on old (and_then r (λ zs. Ok (ys ++ zs)))
    again (Ok zs) = ap Ok (append_assoc old ys zs)
    again (Err stop) = refl

stops_more : {A : Type 0} (stop : CodeStop) (r rest : Found (List A)) (old : List A) → StopsAt stop r
    → StopsAt stop (goes_on old (and_then r (λ ys. and_then rest (λ zs. Ok (ys ++ zs)))))
stops_more stop r rest old h = stops_then stop (and_then r (λ ys. and_then rest (λ zs. Ok (ys ++ zs)))) (λ ys. Ok (old ++ ys)) (stops_then stop r (λ ys. and_then rest (λ zs. Ok (ys ++ zs))) h)

-- ---- inputs
left_more : {A : Type 0} (xs : List A) (k : ℕ) (x : A) → x ≡ get_or xs k x → k < length xs → drop k xs ≡ x ∷ drop (k + 1) xs
left_more xs k x is lt = drop_more xs k x lt ∙ ap (λ first. first ∷ drop (k + 1) xs) (sym is)

pub item_quantity : (sheet : Sheet) (items : List InputVariance) (k : ℕ) (i : InputVariance) → i ≡ get_or items k i → k < length items → items ≡ variances sheet
    → has_quantity sheet i.name ≡ true
item_quantity sheet items k i is lt e =
    ap (λ (j : InputVariance). has_quantity sheet j.name) is
    ∙ subst (All (λ (j : InputVariance). has_quantity sheet j.name ≡ true)) (sym e) (inputs_quantities sheet) k i lt

module _ (sheet : Sheet) (dy : Spans (List ℕ)) (items : List InputVariance) (k : ℕ) (i : InputVariance) (is : i ≡ get_or items k i) (lt : k < length items) where
  pub inputs_on : (old new : List BudgetInput) → goes_on old (input_in sheet dy i) ≡ Ok new
      → goes_on new (all_found (input_in sheet dy) (drop (k + 1) items)) ≡ goes_on old (all_found (input_in sheet dy) (drop k items))
  inputs_on old new e =
      more_found (input_in sheet dy i) (all_found (input_in sheet dy) (drop (k + 1) items)) old new e
      ∙ ap (λ xs. goes_on old (all_found (input_in sheet dy) xs)) (sym (left_more items k i is lt))

  pub inputs_stop : (stop : CodeStop) (old : List BudgetInput) → StopsAt stop (input_in sheet dy i)
      → StopsAt stop (goes_on old (all_found (input_in sheet dy) (drop k items)))
  inputs_stop stop old h =
      subst (λ xs. StopsAt stop (goes_on old (all_found (input_in sheet dy) xs))) (sym (left_more items k i is lt))
      (stops_more stop (input_in sheet dy i) (all_found (input_in sheet dy) (drop (k + 1) items)) old h)

pub inputs_end : (sheet : Sheet) (dy : Spans (List ℕ)) (items : List InputVariance) (k : ℕ) (found : List BudgetInput) → length items ≤ k
    → goes_on found (all_found (input_in sheet dy) (drop k items)) ≡ Ok found
inputs_end sheet dy items k found past =
    ap (λ xs. goes_on found (all_found (input_in sheet dy) xs)) (drop_all k items past) ∙ ap Ok (append-nil found)

-- an input by its number
module _ (sheet : Sheet) (h : IsStanding sheet) (kept : Numbered) (are : AreAllKept (quantities sheet) kept) (i : InputVariance) (there : has_quantity sheet i.name ≡ true)
    (id : ℕ) (number : id ≡ number_in kept.names.keys i.name) (n : List ℕ) (y : Gradient) (g : IsGradientIn sheet n y) where
  found_same : found_at y id ≡ gradient_by sheet n i.name
  found_same =
      ap (found_at y) (number ∙ number_is (quantities sheet) kept (quantities_in_order sheet h) are i.name)
      ∙ g.each i.name (there-is_quantity sheet.rows i.name ∙ there)

  abbrev found_input : Found (List BudgetInput)
  found_input =
      and_then (value_in sheet i.name) (λ value. and_then (in_range (ok_or i.variance (record {})))
      (λ v. Ok (record { name = i.name; value = value; variance = v; sens = sensitivity (gradient_by sheet n) i.name } ∷ [])))

  by_test : (t : Bool) → is_some (found_at y id) ≡ t → input_in sheet (gradient_by sheet n) i ≡ (if t then found_input else Ok [])
  by_test t e = ap (λ b. if b then found_input else Ok []) (ap is_some (sym found_same) ∙ e)

  pub input_outside : (old : List BudgetInput) → is_some (found_at y id) ≡ false → goes_on old (input_in sheet (gradient_by sheet n) i) ≡ Ok old
  input_outside old e = ap (goes_on old) (by_test false e) ∙ ap Ok (append-nil old)

  pub input_without_value : (stop : CodeStop) → is_some (found_at y id) ≡ true → StopsAt stop (value_in sheet i.name)
      → StopsAt stop (input_in sheet (gradient_by sheet n) i)
  input_without_value stop e k =
      subst (StopsAt stop) (sym (by_test true e)) (stops_then stop (value_in sheet i.name) _ k)

  pub input_without_variance : (stop : CodeStop) (value : Interval) → is_some (found_at y id) ≡ true → value_in sheet i.name ≡ Ok value
      → StopsAt stop (in_range (ok_or i.variance (record {}))) → StopsAt stop (input_in sheet (gradient_by sheet n) i)
  input_without_variance stop value e f k =
      subst (StopsAt stop) (sym (by_test true e))
      (stops_on stop (value_in sheet i.name) value _ f (stops_then stop (in_range (ok_or i.variance (record {}))) _ k))

  pub input_inside : (old : List BudgetInput) (value v sens : Interval) → is_some (found_at y id) ≡ true → value_in sheet i.name ≡ Ok value
      → in_range (ok_or i.variance (record {})) ≡ Ok v → sens ≡ sensitivity (found_at y) id
      → goes_on old (input_in sheet (gradient_by sheet n) i) ≡ Ok (old ++ record { name = i.name; value = value; variance = v; sens = sens } ∷ [])
  input_inside old value v sens e f k s =
      let same : sens ≡ sensitivity (gradient_by sheet n) i.name = s ∙ ap (λ o. sensitivity (λ m. o) id) found_same in
      ap (goes_on old)
      (by_test true e
      ∙ ap (λ r. and_then r (λ w. and_then (in_range (ok_or i.variance (record {}))) (λ u. Ok (record { name = i.name; value = w; variance = u; sens = sensitivity (gradient_by sheet n) i.name } ∷ [])))) f
      ∙ ap (λ r. and_then r (λ u. Ok (record { name = i.name; value = value; variance = u; sens = sensitivity (gradient_by sheet n) i.name } ∷ []))) k)
      ∙ ap (λ t. Ok (old ++ record { name = i.name; value = value; variance = v; sens = t } ∷ [])) (sym same)

-- ---- groups
part_renamed : (f : List ℕ → ℕ) (g : Group (List ℕ)) (dy : Spans (List ℕ)) (y : Spans ℕ) (name : List ℕ) → EachOf (λ k. y (f k) ≡ dy k) (members g)
    → part_by y name (renamed_group f g) ≡ part_by dy name g
part_renamed f g dy y name o =
    ap₂ (λ t v. if t then and_then (in_range (ok_or v (record {}))) (λ s. Ok (record { name = name; variance = s } ∷ [])) else Ok [])
    (meets-renamed f g dy y o) (group_variance-renamed f g dy y o)

parts_renamed : (f : List ℕ → ℕ) (dy : Spans (List ℕ)) (y : Spans ℕ) (gs : List NamedGroup) → EachMember (λ k. y (f k) ≡ dy k) (map (λ (g : NamedGroup). g.group) gs)
    → numbered_parts y (map (λ (g : NamedGroup). g.name) gs) (map (renamed_group f) (map (λ (g : NamedGroup). g.group) gs))
    ≡ all_found (λ (g : NamedGroup). part_by dy g.name g.group) gs
parts_renamed f dy y [] o = refl
parts_renamed f dy y (g ∷ gs) o =
    ap₂ (λ r rest. and_then r (λ ys. and_then rest (λ zs. Ok (ys ++ zs)))) (part_renamed f g.group dy y g.name o.0) (parts_renamed f dy y gs o.1)

module _ (sheet : Sheet) (h : IsStanding sheet) (ns : List (List ℕ)) (gs : List (Group ℕ)) (names : ns ≡ group_names sheet) (are : AreGroupsIn sheet gs) where
  groups_are : gs ≡ map (renamed_group (number_among (quantities sheet))) (map (λ (g : NamedGroup). g.group) (named_groups sheet))
  groups_are = are.are ∙ ap (map (renamed_group (number_among (quantities sheet)))) (sym (groups_are_named sheet))

  pub parts_by_numbers : (n : List ℕ) (y : Gradient) → IsGradientIn sheet n y → numbered_parts (found_at y) ns gs ≡ parts_in sheet (gradient_by sheet n)
  parts_by_numbers n y is =
      ap₂ (numbered_parts (found_at y)) names groups_are
      ∙ parts_renamed (number_among (quantities sheet)) (gradient_by sheet n) (found_at y) (named_groups sheet)
      (subst (EachMember (λ k. found_at y (number_among (quantities sheet) k) ≡ gradient_by sheet n k)) (sym (groups_are_named sheet)) (members_agree sheet h n y is))

  as_many : length ns ≡ length gs
  as_many =
      ap length names ∙ length-map (named_groups sheet) (λ (g : NamedGroup). g.name)
      ∙ sym (ap length groups_are ∙ length-map (map (λ (g : NamedGroup). g.group) (named_groups sheet)) (renamed_group (number_among (quantities sheet)))
      ∙ length-map (named_groups sheet) (λ (g : NamedGroup). g.group))

  -- each group that the code has found has a name
  pub named_within : (items : List CodeGroup) (k : ℕ) → map group_of items ≡ gs → k < length items → k < length ns
  named_within items k e lt = subst (λ m. k < m) (sym (length-map items group_of) ∙ ap length e ∙ sym as_many) lt

-- the code's groups are regular, each of them
regular_each : (items : List CodeGroup) → GroupsAreRegular (map group_of items) → AllByRecursion (λ g. GroupIsRegular (group_of g)) items
regular_each [] h = tt
regular_each (g ∷ gs) h = (h.0, regular_each gs h.1)

pub regular_at : (items : List CodeGroup) (k : ℕ) (g : CodeGroup) → g ≡ get_or items k g → k < length items → GroupsAreRegular (map group_of items) → GroupIsRegular (group_of g)
regular_at items k g is lt h =
    subst (λ x. GroupIsRegular (group_of x)) (sym is) (All-from_recursion (λ x. GroupIsRegular (group_of x)) items (regular_each items h) k g lt)

module _ (dy : Spans ℕ) (names : List (List ℕ)) (k : ℕ) (n : List ℕ) (is : n ≡ get_or names k n) (lt : k < length names) (g : Group ℕ) (gs : List (Group ℕ)) where
  first_named : numbered_parts dy (drop k names) (g ∷ gs) ≡ and_then (part_by dy n g) (λ ys. and_then (numbered_parts dy (drop (k + 1) names) gs) (λ zs. Ok (ys ++ zs)))
  first_named = ap (λ ns. numbered_parts dy ns (g ∷ gs)) (left_more names k n is lt)

  pub parts_on : (old new : List GroupPart) → goes_on old (part_by dy n g) ≡ Ok new
      → goes_on new (numbered_parts dy (drop (k + 1) names) gs) ≡ goes_on old (numbered_parts dy (drop k names) (g ∷ gs))
  parts_on old new e =
      more_found (part_by dy n g) (numbered_parts dy (drop (k + 1) names) gs) old new e ∙ ap (goes_on old) (sym first_named)

  pub parts_stop : (stop : CodeStop) (old : List GroupPart) → StopsAt stop (part_by dy n g) → StopsAt stop (goes_on old (numbered_parts dy (drop k names) (g ∷ gs)))
  parts_stop stop old h =
      subst (λ r. StopsAt stop (goes_on old r)) (sym first_named) (stops_more stop (part_by dy n g) (numbered_parts dy (drop (k + 1) names) gs) old h)

pub parts_end : (dy : Spans ℕ) (ns : List (List ℕ)) (found : List GroupPart) → goes_on found (numbered_parts dy ns []) ≡ Ok found
parts_end dy [] found = ap Ok (append-nil found)
parts_end dy (n ∷ ns) found = ap Ok (append-nil found)
