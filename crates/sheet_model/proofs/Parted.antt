-- The groups of a sheet that stands part its inputs, and are sound.
use Rattle.std.specs.Prelude.{◌≡◌, ℕ, ◌^◌, ◌≤◌, Bool, true, false, ◌&&◌, ◌||◌, not, is_some, if◌then◌else◌, List, [], ◌∷◌, ◌++◌, map, Ok, ℤ, pos, negsuc, ◌*ℤ◌, ◌≤ℤ◌, unsigned_abs, bytes_eq, refl}
use Rattle.std.specs.List.{list_any, list_all, flat_map}
use Rattle.std.proofs.Common.{sym, ap, ◌∙◌, arith}
use Rattle.std.proofs.lemmas.Bool.{true≢false, and_parts, leb-true}
use Rattle.std.proofs.lemmas.Int.{ints}
use Rattle.std.proofs.lemmas.List.{length-map}
use Rattle.std.proofs.lemmas.List.Folds.{list_any-append}
use Rattle.exact_fraction.specs.Number.{of_ℤ, neg_ℚ, ◌≤ℚ◌}
use Rattle.exact_fraction.specs.NumberLaws.{≤ℚ_trans, ≤ℚ_same, of_ℤ-neg}
use Rattle.decimal18.specs.Bound.{Bound, scaled, value_of}
use Rattle.decimal18.proofs.Values.{value-shifted, value-rises, value-whole}
use Rattle.exact_law.specs.Law.{stand_in, AllGroups, IsSoundFor, PartTheInputs, all_members}
use Rattle.type_b.specs.declared.shape.Shape.{Shape}
use Rattle.type_b.specs.Shapes.{checked}
use Rattle.type_b.specs.Variances.{states_deviation}
use Rattle.sheet_rows.specs.Rows.{Row, Given, Readings, Joint, Correlation, Formula, Tolerance, Sheet, name_of, column_name, correlated_names, correlates, is_correlatable, are_infinite}
use Rattle.sheet_rows.specs.Regular.{AreRegular, is_coefficient}
use Rattle.sheet_rows.specs.Sheets.{is_named, is_among, are_named_once, is_correlatable_in, repeated_name, are_correlatable, IsStanding}
use Rattle.sheet_rows.proofs.Tests.{same_name}
use Rattle.sheet_rows.proofs.Named.{once_head, once_tail, has_none}
use Rattle.covariance.specs.Groups.{Group, exact_group, AreRegular as GroupsAreRegular, IsRegular as GroupIsRegular, Single}
use Rattle.covariance.proofs.Exact.{regular-sound}
use Rattle.sheet_model.specs.Groups.{inputs, is_correlated, shape_of_row, shape_in, row_groups, groups, exact_groups}
use Rattle.sheet_model.proofs.Counts.{count, later, stand_each, stand_none, stand_parts}
use Rattle.sheet_model.proofs.Members.{is_input_of, is_in, input_names, inputs_are, own_names, member_names, members_are, holds_of_all, one_input, one_member, correlatable_is_input}

-- ---- each input is a member once
earlier : (a b : Bool) → a ≡ true → (a || b) ≡ true
earlier true b e = refl
earlier false b e = absurd (true≢false (sym e))

inputs_stand : (members : List (List ℕ)) (xs : List Row) → ((n : List ℕ) → is_in xs n ≡ true → count n members ≡ 1)
    → stand_in bytes_eq members (flat_map input_names xs) ≡ true
inputs_stand members [] h = stand_none members
inputs_stand members (x ∷ xs) h =
    stand_each members (input_names x) (flat_map input_names xs) (λ n e. h n (earlier (is_input_of n x) (is_in xs n) e))
    (inputs_stand members xs (λ n e. h n (later (is_input_of n x) (is_in xs n) e)))

-- ---- each member is an input once
own_by : (t : Bool) (n name : List ℕ) → list_any (bytes_eq n) (if t then [] else name ∷ []) ≡ true → (bytes_eq n name || false) ≡ true
own_by true n name e = absurd (true≢false (sym e))
own_by false n name e = e

own_input : (rows : List Row) (n : List ℕ) (row : Row) → list_any (bytes_eq n) (own_names rows row) ≡ true → is_input_of n row ≡ true
own_input rows n (Given name estimate shape dof) e = own_by (is_correlated rows name) n name e
own_input rows n (Readings name table) e = e
own_input rows n (Joint name columns table) e = e
own_input rows n (Correlation name first second coefficient) e = e
own_input rows n (Formula name f) e = e
own_input rows n (Tolerance name rule) e = e

-- a member that a row puts into a group is an input of the row, or one that may be correlated
member_by : (rows : List Row) (row : Row) (n : List ℕ) (P : Type 0) → are_correlatable rows row ≡ true → (is_input_of n row ≡ true → P)
    → (is_correlatable_in rows n ≡ true → P) → list_any (bytes_eq n) (member_names rows row) ≡ true → P
member_by rows row n P may own pair e = by (list_any (bytes_eq n) (own_names rows row)) refl where
  by : (t : Bool) → list_any (bytes_eq n) (own_names rows row) ≡ t → P
  by true g = own (own_input rows n row g)
  by false g =
      let names = and_parts (list_all (is_correlatable_in rows) (correlated_names row)) (not (is_some (repeated_name row))) may in
      pair
      (holds_of_all (is_correlatable_in rows) n (correlated_names row) names.0
      (sym (ap (λ b. b || correlates row n) g) ∙ sym (list_any-append (bytes_eq n) (own_names rows row) (correlated_names row)) ∙ e))

members_stand : (rows : List Row) (ns : List (List ℕ)) (xs : List Row) → ((n : List ℕ) → is_in xs n ≡ true → count n ns ≡ 1)
    → ((n : List ℕ) → is_correlatable_in rows n ≡ true → count n ns ≡ 1) → list_all (are_correlatable rows) xs ≡ true
    → stand_in bytes_eq ns (flat_map (member_names rows) xs) ≡ true
members_stand rows ns [] h k c = stand_none ns
members_stand rows ns (x ∷ xs) h k c =
    let both = and_parts (are_correlatable rows x) (list_all (are_correlatable rows) xs) c in
    stand_each ns (member_names rows x) (flat_map (member_names rows) xs)
    (λ n. member_by rows x n (count n ns ≡ 1) both.0 (λ e. h n (earlier (is_input_of n x) (is_in xs n) e)) (k n))
    (members_stand rows ns xs (λ n e. h n (later (is_input_of n x) (is_in xs n) e)) k both.1)

pub parted : (sheet : Sheet) → IsStanding sheet → PartTheInputs bytes_eq (inputs sheet) (exact_groups sheet)
parted sheet h = record {
  inputs_in_groups = rw (inputs_are sheet.rows, members_are sheet.rows sheet.rows) (inputs_stand (flat_map (member_names sheet.rows) sheet.rows) sheet.rows members_once);
  members_in_inputs =
      rw (inputs_are sheet.rows, members_are sheet.rows sheet.rows)
      (members_stand sheet.rows (flat_map input_names sheet.rows) sheet.rows inputs_once (λ n e. inputs_once n (correlatable_is_input n sheet.rows e)) h.well_formed.correlatable);
} where
  members_once : (n : List ℕ) → is_in sheet.rows n ≡ true → count n (flat_map (member_names sheet.rows) sheet.rows) ≡ 1
  members_once n e = one_member sheet.rows h.regular h.well_formed.once h.well_formed.correlatable h.well_formed.apart n e

  inputs_once : (n : List ℕ) → is_in sheet.rows n ≡ true → count n (flat_map input_names sheet.rows) ≡ 1
  inputs_once n e = one_input n sheet.rows h.regular h.well_formed.once e

-- ---- regular groups
abbrev States : Shape → Type 0
States s = (checked s ≡ Ok (record {})) × (states_deviation s ≡ true)

stated_by : (n : List ℕ) (x : Row) (xs : List Row) (t u : Bool) → is_named n x ≡ t → is_correlatable x ≡ u → is_among xs (name_of x) ≡ false
    → AreRegular (x ∷ xs) → ((t && u) || is_correlatable_in xs n) ≡ true → (is_correlatable_in xs n ≡ true → States (shape_in xs n))
    → States (if t then shape_of_row x else shape_in xs n)
stated_by n (Given name estimate shape dof) xs true true e f new h g rest = (h.0.3, (and_parts (states_deviation shape) (are_infinite dof) f).0)
stated_by n (Readings name table) xs true true e f new h g rest = absurd (true≢false (sym f))
stated_by n (Joint name columns table) xs true true e f new h g rest = absurd (true≢false (sym f))
stated_by n (Correlation name first second coefficient) xs true true e f new h g rest = absurd (true≢false (sym f))
stated_by n (Formula name k) xs true true e f new h g rest = absurd (true≢false (sym f))
stated_by n (Tolerance name rule) xs true true e f new h g rest = absurd (true≢false (sym f))
stated_by n x xs true false e f new h g rest =
    absurd (true≢false (sym g ∙ has_none is_correlatable n xs (ap (is_among xs) (same_name n (name_of x) e) ∙ new)))
stated_by n x xs false u e f new h g rest = rest g

stated : (n : List ℕ) (xs : List Row) → are_named_once xs ≡ true → AreRegular xs → is_correlatable_in xs n ≡ true → States (shape_in xs n)
stated n [] once h g = absurd (true≢false (sym g))
stated n (x ∷ xs) once h g =
    stated_by n x xs (is_named n x) (is_correlatable x) refl refl (once_head x xs once) h g (stated n xs (once_tail x xs once) h.1)

at_most : (c : ℤ) (t : ℕ) → unsigned_abs c ≤ t → c ≤ℤ (pos 1 *ℤ pos t)
at_most (pos a) t h = omega (arith, ints, h)
at_most (negsuc a) t h = omega (arith, ints, h)

at_least : (c : ℤ) (t : ℕ) → unsigned_abs c ≤ t → (negsuc 0 *ℤ pos t) ≤ℤ c
at_least (pos a) t h = omega (arith, ints, h)
at_least (negsuc a) t h = omega (arith, ints, h)

whole_at : (z : ℤ) (p : ℕ) → value_of (scaled (z *ℤ pos (10 ^ p)) p) ≡ of_ℤ z
whole_at z p = ap (λ n. value_of (scaled (z *ℤ pos (10 ^ p)) n)) (omega arith) ∙ value-shifted z 0 p ∙ value-whole z

within_one : (r : Bound) → is_coefficient r ≡ true → (neg_ℚ (of_ℤ (pos 1)) ≤ℚ value_of r) × (value_of r ≤ℚ of_ℤ (pos 1))
within_one r h =
    let size : unsigned_abs r.coefficient ≤ 10 ^ r.places = leb-true (unsigned_abs r.coefficient) (10 ^ r.places) h in (
      ≤ℚ_trans _ _ _ (≤ℚ_same _ _ (sym (whole_at (negsuc 0) r.places ∙ of_ℤ-neg (pos 1))))
          (value-rises (negsuc 0 *ℤ pos (10 ^ r.places)) r.coefficient r.places (at_least r.coefficient (10 ^ r.places) size)),
      ≤ℚ_trans _ _ _ (value-rises r.coefficient (pos 1 *ℤ pos (10 ^ r.places)) r.places (at_most r.coefficient (10 ^ r.places) size))
          (≤ℚ_same _ _ (whole_at (pos 1) r.places)),
    )

alone_regular : (t : Bool) (name : List ℕ) (g : Group (List ℕ)) (gs : List (Group (List ℕ))) → GroupIsRegular g → GroupsAreRegular gs
    → GroupsAreRegular ((if t then [] else g ∷ []) ++ gs)
alone_regular true name g gs h k = k
alone_regular false name g gs h k = (h, k)

groups_regular : (rows xs : List Row) → are_named_once rows ≡ true → AreRegular rows → list_all (are_correlatable rows) xs ≡ true → AreRegular xs
    → GroupsAreRegular (flat_map (row_groups rows) xs)
groups_regular rows [] once regular c h = tt
groups_regular rows (Given name estimate shape dof ∷ xs) once regular c h =
    alone_regular (is_correlated rows name) name (Single name shape dof) (flat_map (row_groups rows) xs) h.0.3 (groups_regular rows xs once regular c h.1)
groups_regular rows (Readings name table ∷ xs) once regular c h = (sym h.0.2, groups_regular rows xs once regular c h.1)
groups_regular rows (Joint name columns table ∷ xs) once regular c h =
    (length-map columns (column_name name) ∙ sym h.0.3, groups_regular rows xs once regular c h.1)
groups_regular rows (Correlation name first second r ∷ xs) once regular c h =
    let row : Row = Correlation name first second r in
    let both = and_parts (are_correlatable rows row) (list_all (are_correlatable rows) xs) c in
    let names = and_parts (is_correlatable_in rows first && (is_correlatable_in rows second && true)) (not (is_some (repeated_name row))) both.0 in
    let each = and_parts (is_correlatable_in rows first) (is_correlatable_in rows second && true) names.0 in
    let one = stated first rows once regular each.0 in
    let two = stated second rows once regular (and_parts (is_correlatable_in rows second) true each.1).0 in
    let within = within_one r h.0.4 in
    ((one.0, one.1, two.0, two.1, within.0, within.1), groups_regular rows xs once regular both.1 h.1)
groups_regular rows (Formula name f ∷ xs) once regular c h = groups_regular rows xs once regular c h.1
groups_regular rows (Tolerance name rule ∷ xs) once regular c h = groups_regular rows xs once regular c h.1

pub regular_groups : (sheet : Sheet) → IsStanding sheet → GroupsAreRegular (groups sheet)
regular_groups sheet h = groups_regular sheet.rows sheet.rows h.well_formed.once h.regular h.well_formed.correlatable h.regular

-- ---- sound groups
all_sound : (ns : List (List ℕ)) (gs : List (Group (List ℕ))) → GroupsAreRegular gs → stand_in bytes_eq ns (all_members (map exact_group gs)) ≡ true
    → AllGroups (IsSoundFor bytes_eq ns) (map exact_group gs)
unfolding AllGroups all_members
all_sound ns [] h k = tt
all_sound ns (g ∷ gs) h k =
    let parts = stand_parts ns _ _ k in
    (record { sound = regular-sound g h.0; in_inputs = parts.0 }, all_sound ns gs h.1 parts.1)

pub sound_groups : (sheet : Sheet) → IsStanding sheet → AllGroups (IsSoundFor bytes_eq (inputs sheet)) (exact_groups sheet)
sound_groups sheet h = all_sound (inputs sheet) (groups sheet) (regular_groups sheet h) (parted sheet h).members_in_inputs
