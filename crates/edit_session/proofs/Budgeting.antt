-- Budgets: what the lines say is so of the exact law, and their names are known.
use Rattle.std.specs.Prelude.{◌≡◌, ℕ, Bool, true, false, if◌then◌else◌, is_some, bytes_eq, List, [], ◌∷◌, ◌++◌, map, All, Contains, get_or, Option, Some, None, IfSome, Ok, IfOk}
use Rattle.std.specs.List.{AllByRecursion}
use Rattle.std.specs.Option.{ok_or, option_map}
use Rattle.std.proofs.Common.{sym, ◌∙◌, subst}
use Rattle.std.proofs.lemmas.List.{get_or_default}
use Rattle.std.proofs.lemmas.List.Elements.{All-nil, All-cons, All-append, recursion_from_All}
use Rattle.exact_law.specs.Law.{part_of}
use Rattle.fixed_interval.specs.Interval.{Interval, Encloses}
use Rattle.fixed_interval.specs.Sums.{Holds}
use Rattle.covariance.specs.Gradients.{Spans, sensitivity}
use Rattle.covariance.specs.Groups.{AreRegular as GroupsAreRegular, exact_group}
use Rattle.covariance.specs.Models.{IsInput, EachMember}
use Rattle.covariance.specs.Variances.{group_variance_span, meets}
use Rattle.covariance.proofs.Models.{members_are_inputs, part_holds}
use Rattle.budget_table.specs.Budgets.{budget_lines, contribution, group_line, input_line, own_span}
use Rattle.budget_table.specs.declared.line.BudgetLine.{BudgetLine}
use Rattle.budget_table.specs.declared.line.BudgetLine.TheVariants.{Input as InputLine}
use Rattle.budget_table.specs.declared.part.BudgetInput.{BudgetInput}
use Rattle.budget_table.specs.declared.part.GroupPart.{GroupPart}
use Rattle.budget_table.proofs.Lines.{all_lines, own_holds}
use Rattle.sheet_rows.specs.Rows.{Sheet}
use Rattle.sheet_rows.specs.Sheets.{has_quantity, has_input, IsStanding}
use Rattle.value_cache.specs.Model.{HasValueIn}
use Rattle.sheet_model.specs.Quantities.{quantities}
use Rattle.sheet_model.specs.Groups.{groups}
use Rattle.sheet_model.specs.Budgets.{NamedGroup, IsEnclosed, variances, named_groups}
use Rattle.sheet_model.specs.declared.variances.InputVariance.{InputVariance}
use Rattle.sheet_model.proofs.Budgeted.{names_are_there, variances_enclose, groups_are_named}
use Rattle.sheet_model.proofs.Formulas.{same_names}
use Rattle.sheet_model.proofs.Inputs.{sheet_input, input_there}
use Rattle.sheet_model.proofs.Names.{there-is_quantity}
use Rattle.sheet_model.proofs.SheetGroups.{sheet_groups}
use Rattle.edit_session.specs.Replies.{Found, and_then, in_range, all_found, value_in, input_in, inputs_in, part_by, parts_in}
use Rattle.edit_session.specs.Sound.{model_in, exact_value_in, slope_in, input_variance_in, IsLineIn}
use Rattle.edit_session.proofs.Found.{if_then, of_ok, IsKnown, known_then, known_range}
use Rattle.edit_session.proofs.Lawful.{gradient_by, HasSlopes, value_holds}

-- ---- what holds of all that is found
all_known : {A B : Type 0} (f : A → Found (List B)) (xs : List A) → AllByRecursion (λ x. IsKnown (f x)) xs → IsKnown (all_found f xs)
all_known f [] h = tt
all_known f (x ∷ xs) h =
    known_then (f x) (λ ys. and_then (all_found f xs) (λ zs. Ok (ys ++ zs))) h.0
    (λ ys. known_then (all_found f xs) (λ zs. Ok (ys ++ zs)) (all_known f xs h.1) (λ zs. tt))

all_of_found : {A B : Type 0} (f : A → Found (List B)) (Q : B → Type 0) (xs : List A) → AllByRecursion (λ x. IfOk (f x) (All Q)) xs → IfOk (all_found f xs) (All Q)
all_of_found f Q [] h = All-nil Q
all_of_found f Q (x ∷ xs) h =
    if_then (f x) (λ ys. and_then (all_found f xs) (λ zs. Ok (ys ++ zs))) (All Q)
    (λ ys e. if_then (all_found f xs) (λ zs. Ok (ys ++ zs)) (All Q)
    (λ zs k. All-append Q ys zs (of_ok (f x) (All Q) h.0 ys e) (of_ok (all_found f xs) (All Q) (all_of_found f Q xs h.1) zs k)))

each_of : {A : Type 0} (P Q R : A → Type 0) → ((x : A) → P x → Q x → R x) → (xs : List A) → AllByRecursion P xs → AllByRecursion Q xs → AllByRecursion R xs
each_of P Q R f [] h k = tt
each_of P Q R f (x ∷ xs) h k = (f x h.0 k.0, each_of P Q R f xs h.1 k.1)

each_contained : {A : Type 0} (xs : List A) → All (Contains xs) xs
each_contained xs k d lt = (k, lt, get_or_default xs k (get_or xs k d) d lt)

-- ---- names
abbrev IsThere : Sheet → InputVariance → Type 0
IsThere sheet i = has_input sheet i.name ≡ true

are_there : (sheet : Sheet) → AllByRecursion (IsThere sheet) (variances sheet)
are_there sheet = recursion_from_All (IsThere sheet) (variances sheet) (names_are_there sheet)

pub input_quantity : (sheet : Sheet) (n : List ℕ) → has_input sheet n ≡ true → has_quantity sheet n ≡ true
input_quantity sheet n e = sym (there-is_quantity sheet.rows n) ∙ input_there sheet n e

-- the inputs of the sheet are quantities
pub inputs_quantities : (sheet : Sheet) → All (λ (i : InputVariance). has_quantity sheet i.name ≡ true) (variances sheet)
inputs_quantities sheet k d lt = input_quantity sheet _ (names_are_there sheet k d lt)

input_known : (sheet : Sheet) (dy : Spans (List ℕ)) (i : InputVariance) → IsKnown (value_in sheet i.name) → IsKnown (input_in sheet dy i)
input_known sheet dy i k = by (is_some (dy i.name)) where
  found : Found (List BudgetInput)
  found =
      and_then (value_in sheet i.name) (λ value. and_then (in_range (ok_or i.variance (record {})))
      (λ v. Ok (record { name = i.name; value = value; variance = v; sens = sensitivity dy i.name } ∷ [])))

  by : (t : Bool) → IsKnown (if t then found else Ok [])
  by true =
      known_then (value_in sheet i.name) _ k
      (λ value. known_then (in_range (ok_or i.variance (record {}))) _ (known_range (ok_or i.variance (record {}))) (λ v. tt))
  by false = tt

pub inputs_known : (sheet : Sheet) (dy : Spans (List ℕ)) → ((x : List ℕ) → has_quantity sheet x ≡ true → IsKnown (value_in sheet x)) → IsKnown (inputs_in sheet dy)
inputs_known sheet dy known =
    all_known (input_in sheet dy) (variances sheet)
    (each_of (IsThere sheet) (IsThere sheet) (λ i. IsKnown (input_in sheet dy i)) (λ i e f. input_known sheet dy i (known i.name (input_quantity sheet i.name e)))
    (variances sheet) (are_there sheet) (are_there sheet))

part_known : (dy : Spans (List ℕ)) (g : NamedGroup) → IsKnown (part_by dy g.name g.group)
part_known dy g = by (meets dy g.group) where
  found : Found (List GroupPart)
  found = and_then (in_range (ok_or (group_variance_span dy g.group) (record {}))) (λ v. Ok (record { name = g.name; variance = v } ∷ []))

  by : (t : Bool) → IsKnown (if t then found else Ok [])
  by true = known_then (in_range (ok_or (group_variance_span dy g.group) (record {}))) _ (known_range (ok_or (group_variance_span dy g.group) (record {}))) (λ v. tt)
  by false = tt

pub parts_known : (sheet : Sheet) (dy : Spans (List ℕ)) → IsKnown (parts_in sheet dy)
parts_known sheet dy = all_known (λ (g : NamedGroup). part_by dy g.name g.group) (named_groups sheet) (each (named_groups sheet)) where
  each : (gs : List NamedGroup) → AllByRecursion (λ (g : NamedGroup). IsKnown (part_by dy g.name g.group)) gs
  each [] = tt
  each (g ∷ gs) = (part_known dy g, each gs)

-- ---- lines
module _ (sheet : Sheet) (h : IsStanding sheet) (y : List ℕ) (s : HasSlopes sheet y) where
  abbrev dy : Spans (List ℕ)
  dy = gradient_by sheet y

  -- the line of an input
  abbrev HasLine : BudgetInput → Type 0
  HasLine i = IfSome (input_line i) (IsLineIn sheet y)

  line_holds : (x : List ℕ) (value v : Interval) → has_input sheet x ≡ true → Encloses value (exact_value_in sheet x) → Encloses v (input_variance_in sheet x)
      → HasLine (record { name = x; value = value; variance = v; sens = sensitivity dy x })
  line_holds x value v there value_holds variance_holds =
      by (own_span input) (own_holds input (slope_in sheet y x) (input_variance_in sheet x) slope variance_holds)
    where
      input : BudgetInput
      input = record { name = x; value = value; variance = v; sens = sensitivity dy x }

      slope : Encloses (sensitivity dy x) (slope_in sheet y x)
      slope =
          let given = sheet_input sheet h x there in
          s x given.estimate given.is

      by : (o : Option Interval) → Holds o (contribution (slope_in sheet y x) (input_variance_in sheet x))
          → IfSome (option_map (λ own. InputLine x value v (sensitivity dy x) own) o) (IsLineIn sheet y)
      by None own = tt
      by (Some t) own = record {
        is_input = there;
        has_value = value_holds;
        has_variance = variance_holds;
        has_sensitivity = slope;
        has_own = own;
      }

  input_holds : (i : InputVariance) → IsThere sheet i → IsEnclosed sheet i → IfOk (input_in sheet dy i) (All HasLine)
  input_holds i there enclosed = by (is_some (dy i.name)) where
    found : Found (List BudgetInput)
    found =
        and_then (value_in sheet i.name) (λ value. and_then (in_range (ok_or i.variance (record {})))
        (λ v. Ok (record { name = i.name; value = value; variance = v; sens = sensitivity dy i.name } ∷ [])))

    some_encloses : (o : Option Interval) → IfSome o (λ t. Encloses t (input_variance_in sheet i.name))
        → IfOk (in_range (ok_or o (record {}))) (λ t. Encloses t (input_variance_in sheet i.name))
    some_encloses None k = tt
    some_encloses (Some t) k = k

    by : (t : Bool) → IfOk (if t then found else Ok []) (All HasLine)
    by false = All-nil HasLine
    by true =
        if_then (value_in sheet i.name) _ (All HasLine)
        (λ value e. if_then (in_range (ok_or i.variance (record {}))) _ (All HasLine)
        (λ v f. All-cons HasLine _ []
        (line_holds i.name value v there (of_ok (value_in sheet i.name) (HasValueIn bytes_eq (quantities sheet) i.name) (value_holds sheet h i.name) value e).enclosed
        (of_ok (in_range (ok_or i.variance (record {}))) (λ t. Encloses t (input_variance_in sheet i.name)) (some_encloses i.variance enclosed) v f)) (All-nil HasLine)))

  inputs_hold : IfOk (inputs_in sheet dy) (All HasLine)
  inputs_hold =
      all_of_found (input_in sheet dy) HasLine (variances sheet)
      (each_of (IsThere sheet) (IsEnclosed sheet) (λ i. IfOk (input_in sheet dy i) (All HasLine)) input_holds (variances sheet) (are_there sheet)
      (recursion_from_All (IsEnclosed sheet) (variances sheet) (variances_enclose sheet h)))

  -- the line of a group
  abbrev HasPart : GroupPart → Type 0
  HasPart g = IsLineIn sheet y (group_line g)

  parts_hold_of : (gs : List NamedGroup) → GroupsAreRegular (map (λ (g : NamedGroup). g.group) gs)
      → EachMember (IsInput bytes_eq (model_in sheet)) (map (λ (g : NamedGroup). g.group) gs) → AllByRecursion (Contains (named_groups sheet)) gs
      → AllByRecursion (λ (g : NamedGroup). IfOk (part_by dy g.name g.group) (All HasPart)) gs
  parts_hold_of [] regular inputs among = tt
  parts_hold_of (g ∷ gs) regular inputs among = (by (meets dy g.group), parts_hold_of gs regular.1 inputs.1 among.1) where
    found : Found (List GroupPart)
    found = and_then (in_range (ok_or (group_variance_span dy g.group) (record {}))) (λ v. Ok (record { name = g.name; variance = v } ∷ []))

    part : (o : Option Interval) → Holds o (part_of bytes_eq (model_in sheet) (exact_group g.group) y)
        → IfOk (in_range (ok_or o (record {}))) (λ t. Encloses t (part_of bytes_eq (model_in sheet) (exact_group g.group) y))
    part None k = tt
    part (Some t) k = k

    by : (t : Bool) → IfOk (if t then found else Ok []) (All HasPart)
    by false = All-nil HasPart
    by true =
        if_then (in_range (ok_or (group_variance_span dy g.group) (record {}))) _ (All HasPart)
        (λ v e. All-cons HasPart _ []
        (record {
          group = g.group;
          of_row = among.0;
          enclosed =
              of_ok (in_range (ok_or (group_variance_span dy g.group) (record {}))) (λ t. Encloses t (part_of bytes_eq (model_in sheet) (exact_group g.group) y))
              (part (group_variance_span dy g.group) (part_holds bytes_eq (model_in sheet) g.group regular.0 inputs.0 y dy s)) v e;
        }) (All-nil HasPart))

  parts_hold : IfOk (parts_in sheet dy) (All HasPart)
  parts_hold =
      all_of_found (λ (g : NamedGroup). part_by dy g.name g.group) HasPart (named_groups sheet)
      (parts_hold_of (named_groups sheet) (subst GroupsAreRegular (sym (groups_are_named sheet)) (sheet_groups sheet h).regular)
      (subst (EachMember (IsInput bytes_eq (model_in sheet))) (sym (groups_are_named sheet))
      (members_are_inputs bytes_eq same_names (model_in sheet) (groups sheet) (sheet_groups sheet h)))
      (recursion_from_All (Contains (named_groups sheet)) (named_groups sheet) (each_contained (named_groups sheet))))

  lines_hold : (inputs : List BudgetInput) (parts : List GroupPart) → inputs_in sheet dy ≡ Ok inputs → parts_in sheet dy ≡ Ok parts
      → IfSome (budget_lines inputs parts) (All (IsLineIn sheet y))
  lines_hold inputs parts e f =
      all_lines (IsLineIn sheet y) inputs parts (of_ok (inputs_in sheet dy) (All HasLine) inputs_hold inputs e)
      (of_ok (parts_in sheet dy) (All HasPart) parts_hold parts f)

  pub budget_holds : (inputs : List BudgetInput) (parts : List GroupPart) → inputs_in sheet dy ≡ Ok inputs → parts_in sheet dy ≡ Ok parts
      → (lines : List BudgetLine) → in_range (ok_or (budget_lines inputs parts) (record {})) ≡ Ok lines → All (IsLineIn sheet y) lines
  budget_holds inputs parts e f lines k = by (budget_lines inputs parts) (lines_hold inputs parts e f) k where
    by : (o : Option (List BudgetLine)) → IfSome o (All (IsLineIn sheet y)) → in_range (ok_or o (record {})) ≡ Ok lines → All (IsLineIn sheet y) lines
    by None g e = absurd (cc)
    by (Some found) g e =
        let same : found ≡ lines = cc in
        subst (All (IsLineIn sheet y)) same g
