-- What the other rows are left with where a row is set.
use Rattle.std.proofs.Common.{◌≡◌, ℕ, Bool, true, false, ◌||◌, ◌&&◌, cond, not, List, [], ◌∷◌, Some, Ok, is_some, refl, sym, ap, ◌∙◌, true≢false}
use Rattle.std.specs.Prelude.{find, bytes_eq}
use Rattle.std.specs.List.{list_any, list_all}
use Rattle.std.specs.Option.{option_map}
use Rattle.std.proofs.Math.Bool.{or-false}
use Rattle.std.proofs.lemmas.Bool.{and_parts, and_from, and_right, not_from_true, not_from_false}
use Rattle.sheet_rows.specs.Regular.{IsRegular, AreRegular}
use Rattle.sheet_rows.specs.Rows.{Row, Sheet, Given, Readings, Joint, Correlation, Formula, Tolerance, name_of, row_part, used_names, gives, is_table, correlated_names, correlates, is_correlatable}
use Rattle.sheet_rows.specs.declared.edit_fault.EditFault.TheVariants.{InUse}
use Rattle.sheet_rows.specs.Sheets.{IsWellFormed, is_named, has_row, is_quantity_in, is_correlatable_in, repeated_name, are_known, are_correlatable}
use Rattle.sheet_edits.specs.Verdicts.{rows_with, set_row, unless, is_left_without, unless_left}
use Rattle.sheet_edits.specs.Places.{is_left_by, loses, loses_nothing}
use Rattle.sheet_rows.proofs.Tests.{all_more, all_two, found_of_none, same_name, named_itself, both_ways_same}
use Rattle.sheet_edits.proofs.Correlated.{correlatable_more, all_set}
use Rattle.sheet_rows.proofs.Named.{holds, has_found}
use Rattle.sheet_rows.proofs.RegularRows.{regular_found}
use Rattle.sheet_rows.proofs.Quantities.{gives_part, quantity_found}
use Rattle.sheet_edits.proofs.Verdicts.{set_known, set_correlatable, found_any, found_named}

-- ---- one name that passes another test
-- what passed passes still
kept_by : (g q : List ℕ → Bool) (own n : List ℕ) (t : Bool) → bytes_eq n own ≡ t → (g own || not (q own)) ≡ true → q n ≡ true → cond t (g n) (q n) ≡ true
kept_by g q own n true e k h =
    let at : (g n || not (q n)) ≡ true = ap (λ m. g m || not (q m)) (same_name n own e) ∙ k in
    sym (or-false (g n)) ∙ ap (λ b. g n || not b) (sym h) ∙ at
kept_by g q own n false e k h = h

-- all of the names pass, but that one
module _ (p q g : List ℕ → Bool) (own : List ℕ) (one : (n : List ℕ) → q n ≡ cond (bytes_eq n own) (g n) (p n)) where
  no_more : (b any : Bool) → (b && not (not b && any)) ≡ not (not b && true)
  no_more true any = refl
  no_more false any = refl

  lost_by : (u : List ℕ) (t rest any : Bool) → bytes_eq own u ≡ t → p u ≡ true → rest ≡ not (not (g own) && any) → (q u && rest) ≡ not (not (g own) && (t || any))
  lost_by u true rest any e h ih =
      let here : q u ≡ g own = one u ∙ ap (λ s. cond s (g u) (p u)) (both_ways_same u own ∙ e) ∙ ap g (sym (same_name own u e)) in
      (λ j. here j && ih j) ∙ no_more (g own) any
  lost_by u false rest any e h ih =
      let here : q u ≡ true = one u ∙ ap (λ s. cond s (g u) (p u)) (both_ways_same u own ∙ e) ∙ h in
      ap (λ b. b && rest) here ∙ ih

  lost : (us : List (List ℕ)) → list_all p us ≡ true → list_all q us ≡ not (not (g own) && list_any (bytes_eq own) us)
  lost [] h = sym (ap not (and_right (not (g own)) false refl))
  lost (u ∷ us) h =
      let both = and_parts (p u) (list_all p us) h in
      lost_by u (bytes_eq own u) (list_all q us) (list_any (bytes_eq own) us) refl both.0 (lost us both.1)

not_both : (x y : Bool) → not (not x && not y) ≡ (x || y)
not_both true y = refl
not_both false true = refl
not_both false false = refl

module _ (old row : Row) where
  -- a row without columns loses no other name than its own
  sole_name : (n name : List ℕ) → (gives row name || not (bytes_eq name name || false)) ≡ true → ((bytes_eq n name || false) && not (gives row n)) ≡ false
  sole_name n name k = by (bytes_eq n name) refl where
    still : gives row name ≡ true
    still = sym (or-false (gives row name)) ∙ sym (ap (λ b. gives row name || not (b || false)) (named_itself name)) ∙ k

    by : (t : Bool) → bytes_eq n name ≡ t → ((t || false) && not (gives row n)) ≡ false
    by true e = ap not (ap (gives row) (same_name n name e) ∙ still)
    by false e = refl

lossless : (old row : Row) (n : List ℕ) → not (is_table old) ≡ true → (gives row (name_of old) || not (gives old (name_of old))) ≡ true
    → loses old (Some row) n ≡ false
lossless (Given name estimate shape dof) row n h k = sole_name (Given name estimate shape dof) row n name k
lossless (Readings name table) row n h k = sole_name (Readings name table) row n name k
lossless (Joint name columns table) row n h k = absurd (true≢false (sym h))
lossless (Correlation name first second coefficient) row n h k = refl
lossless (Formula name formula) row n h k = sole_name (Formula name formula) row n name k
lossless (Tolerance name rule) row n h k = refl

not_any : (a b : Bool) → (not a && not b) ≡ not (a || b)
not_any true b = refl
not_any false b = refl

module _ (sheet : Sheet) (old row : Row) (whole : IsWellFormed sheet) (regular : AreRegular sheet.rows) (regular_row : IsRegular row)
    (found : find (is_named (name_of row)) sheet.rows ≡ Some old) where
  abbrev own : List ℕ
  own = name_of row

  there : has_row sheet own ≡ true
  there = sym (found_any (is_named own) sheet.rows) ∙ ap is_some found

  old_named : own ≡ name_of old
  old_named = found_named own sheet.rows old found

  old_correlatable : is_correlatable_in sheet.rows own ≡ is_correlatable old
  old_correlatable = has_found is_correlatable own sheet.rows whole.once ∙ ap (holds is_correlatable own) found

  abbrev edited_rows : List Row
  edited_rows = rows_with row sheet.rows

  abbrev is_left : Row → Bool
  is_left other = is_left_without (set_row row sheet) row other

  itself_not_left : is_left row ≡ false
  itself_not_left = ap (λ t. not t && not (are_known edited_rows row && are_correlatable edited_rows row)) (named_itself own)

  -- ---- a quantity that was there
  known_by : (u : List ℕ) (t g : Bool) → is_named (row_part u) row ≡ t → gives old u ≡ g → is_quantity_in sheet.rows u ≡ true
      → cond t (gives row u) (is_quantity_in sheet.rows u) ≡ not (g && not (gives row u))
  known_by u true g e f h =
      let same : row_part u ≡ own = same_name (row_part u) own e in
      let given : gives old u ≡ true =
      sym (quantity_found sheet.rows u regular whole.once ∙ ap (λ m. holds (λ r. gives r u) m (find (is_named m) sheet.rows)) same
      ∙ ap (holds (λ r. gives r u) own) found) ∙ h in
      sym (ap (λ b. not (b && not (gives row u))) (sym f ∙ given) ∙ not_not (gives row u))
    where
      not_not : (b : Bool) → not (not b) ≡ b
      not_not true = refl
      not_not false = refl
  known_by u false true e f h =
      let part : is_named (row_part u) row ≡ true = ap (bytes_eq (row_part u)) old_named ∙ gives_part old u (regular_found (is_named own) sheet.rows old regular found) f in
      absurd (true≢false (sym part ∙ e))
  known_by u false false e f h = h

  known_one : (u : List ℕ) → is_quantity_in sheet.rows u ≡ true → is_quantity_in edited_rows u ≡ not (loses old (Some row) u)
  known_one u h =
      set_known sheet row regular regular_row whole.once there u ∙ known_by u (is_named (row_part u) row) (gives old u) refl refl h

  known_all : (us : List (List ℕ)) → list_all (is_quantity_in sheet.rows) us ≡ true
      → list_all (is_quantity_in edited_rows) us ≡ not (list_any (loses old (Some row)) us)
  known_all [] h = refl
  known_all (u ∷ us) h =
      let both = and_parts (is_quantity_in sheet.rows u) (list_all (is_quantity_in sheet.rows) us) h in
      (λ j. known_one u both.0 j && known_all us both.1 j) ∙ not_any (loses old (Some row) u) (list_any (loses old (Some row)) us)

  -- ---- where nothing is lost
  pub none_left : loses_nothing old row ≡ true → unless_left (set_row row sheet) row ≡ Ok (set_row row sheet)
  none_left h =
      let parts = and_parts (not (is_table old)) _ h in
      let kept = and_parts (gives row (name_of old) || not (gives old (name_of old))) (is_correlatable row || not (is_correlatable old)) parts.1 in
      let known = all_more (are_known sheet.rows) (are_known edited_rows)
      (λ o. all_more (is_quantity_in sheet.rows) (is_quantity_in edited_rows)
      (λ n k. known_one n k ∙ ap not (lossless old row n parts.0 kept.0)) (used_names o)) sheet.rows whole.known in
      let still : (is_correlatable row || not (is_correlatable_in sheet.rows own)) ≡ true = ap (λ b. is_correlatable row || not b) old_correlatable ∙ kept.1 in
      let correlatable = all_more (are_correlatable sheet.rows) (are_correlatable edited_rows)
      (correlatable_more sheet.rows edited_rows
      (λ n k. set_correlatable sheet row whole.once there n ∙ kept_by (λ m. is_correlatable row) (is_correlatable_in sheet.rows) own n (bytes_eq n own) refl still k)) sheet.rows whole.correlatable in
      let others = all_two (are_known edited_rows) (are_correlatable edited_rows) (λ o. not (is_left o))
      (λ o k c. not_from_false (is_left o)
      (and_right (not (is_named own o)) (not (are_known edited_rows o && are_correlatable edited_rows o))
      (not_from_true (are_known edited_rows o && are_correlatable edited_rows o) (and_from (are_known edited_rows o) (are_correlatable edited_rows o) k c))))
      sheet.rows known correlatable in
      ap (λ found. unless (option_map name_of found) InUse (Ok (set_row row sheet)))
      (found_of_none is_left edited_rows (all_set row (λ o. not (is_left o)) sheet.rows (not_from_false (is_left row) itself_not_left) others))

  -- ---- by the old row
  left_same : (o : Row) → are_known sheet.rows o ≡ true → are_correlatable sheet.rows o ≡ true → is_left o ≡ is_left_by old row o
  left_same o k c =
      let both = and_parts (list_all (is_correlatable_in sheet.rows) (correlated_names o)) (not (is_some (repeated_name o))) c in
      let lost_names = list_any (loses old (Some row)) (used_names o) in
      let known : are_known edited_rows o ≡ not lost_names = known_all (used_names o) k in
      let correlatable : are_correlatable edited_rows o ≡ not (not (is_correlatable row) && correlates o own) =
      (λ j. lost (is_correlatable_in sheet.rows) (is_correlatable_in edited_rows) (λ n. is_correlatable row) own
      (set_correlatable sheet row whole.once there) (correlated_names o) both.0 j && both.1 j)
      ∙ and_true (not (not (is_correlatable row) && correlates o own)) in
      ap (λ b. not (is_named own o) && b)
      ((λ j. not (known j && correlatable j)) ∙ not_both lost_names (not (is_correlatable row) && correlates o own))
    where
      and_true : (b : Bool) → (b && true) ≡ b
      and_true true = refl
      and_true false = refl

  left_rest : (rest : List Row) → list_all (are_known sheet.rows) rest ≡ true → list_all (are_correlatable sheet.rows) rest ≡ true
      → find is_left rest ≡ find (is_left_by old row) rest
  left_rest [] k c = refl
  left_rest (r ∷ rs) k c =
      let known = and_parts (are_known sheet.rows r) (list_all (are_known sheet.rows) rs) k in
      let correlatable = and_parts (are_correlatable sheet.rows r) (list_all (are_correlatable sheet.rows) rs) c in
      let first = left_same r known.0 correlatable.0 in
      let rest = left_rest rs known.1 correlatable.1 in
      λ j. cond (first j) (Some r) (rest j)

  left_by : (t : Bool) (r : Row) (rs rs' : List Row) → is_named own r ≡ t → is_left r ≡ is_left_by old row r
      → find is_left rs ≡ find (is_left_by old row) rs → find is_left rs' ≡ find (is_left_by old row) rs
      → find is_left (cond t (row ∷ rs) (r ∷ rs')) ≡ find (is_left_by old row) (r ∷ rs)
  left_by true r rs rs' e same rest later =
      let past : is_left_by old row r ≡ false =
      ap (λ t. not t && (list_any (loses old (Some row)) (used_names r) || (not (is_correlatable row) && correlates r own))) e in
      ap (λ b. cond b (Some row) (find is_left rs)) itself_not_left ∙ rest ∙ sym (ap (λ b. cond b (Some r) (find (is_left_by old row) rs)) past)
  left_by false r rs rs' e same rest later = λ j. cond (same j) (Some r) (later j)

  left_found : (rest : List Row) → list_all (are_known sheet.rows) rest ≡ true → list_all (are_correlatable sheet.rows) rest ≡ true
      → find is_left (rows_with row rest) ≡ find (is_left_by old row) rest
  left_found [] k c = refl
  left_found (r ∷ rs) k c =
      let known = and_parts (are_known sheet.rows r) (list_all (are_known sheet.rows) rs) k in
      let correlatable = and_parts (are_correlatable sheet.rows r) (list_all (are_correlatable sheet.rows) rs) c in
      left_by (is_named own r) r rs (rows_with row rs) refl (left_same r known.0 correlatable.0) (left_rest rs known.1 correlatable.1)
      (left_found rs known.1 correlatable.1)

  pub left_by_name : unless_left (set_row row sheet) row ≡ unless (option_map name_of (find (is_left_by old row) sheet.rows)) InUse (Ok (set_row row sheet))
  left_by_name =
      ap (λ found. unless (option_map name_of found) InUse (Ok (set_row row sheet))) (left_found sheet.rows whole.known whole.correlatable)
