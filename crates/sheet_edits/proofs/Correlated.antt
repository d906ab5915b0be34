-- Correlations: the inputs that may be correlated, and that no two correlations have a name in common.
use Rattle.std.proofs.Common.{◌≡◌, ℕ, Bool, true, false, ◌||◌, ◌&&◌, cond, not, List, [], ◌∷◌, ◌++◌, Option, None, Some, is_some, refl, sym, ap, ◌∙◌, true≢false}
use Rattle.std.specs.Prelude.{find, bytes_eq}
use Rattle.std.specs.List.{list_any, list_all}
use Rattle.std.specs.Option.{option_or}
use Rattle.std.proofs.Math.Bool.{or-false}
use Rattle.std.proofs.lemmas.Bool.{and_parts, and_from}
use Rattle.std.proofs.lemmas.List.Folds.{list_any-append, list_all-append}
use Rattle.sheet_rows.specs.Rows.{Row, Sheet, Given, Readings, Joint, Correlation, Formula, Tolerance, name_of, used_names, correlated_names, correlates}
use Rattle.sheet_rows.specs.Sheets.{is_named, is_correlatable_in, repeated_name, are_correlatable, is_correlated_apart, are_apart}
use Rattle.sheet_edits.specs.Verdicts.{rows_with, rows_without, first_not_correlatable, first_correlated}
use Rattle.sheet_rows.proofs.Tests.{none_all, all_none, all_more, all_two, all_true, all_pairs, none_passes, none_found, found_of_none, list_all_agree, named_itself, other_way, both_ways_same}

-- ---- a correlation uses its names
pub correlated_used : (row : Row) (p : List ℕ → Bool) → list_any p (used_names row) ≡ false → list_any p (correlated_names row) ≡ false
correlated_used (Given name estimate shape dof) p h = refl
correlated_used (Readings name table) p h = refl
correlated_used (Joint name columns table) p h = refl
correlated_used (Correlation name first second coefficient) p h = h
correlated_used (Formula name formula) p h = refl
correlated_used (Tolerance name rule) p h = refl

-- ---- the refusals are where a clause fails
or_none : (a b : Option (List ℕ)) → option_or a b ≡ None → (a ≡ None) × (b ≡ None)
or_none None b h = (refl, h)
or_none (Some n) b h = absurd (true≢false (ap is_some h))

not_there : (o : Option (List ℕ)) → not (is_some o) ≡ true → o ≡ None
not_there None h = refl
not_there (Some n) h = absurd (true≢false (sym h))

pub correlatable_allowed : (edited : Sheet) (row : Row) → first_not_correlatable edited row ≡ None → are_correlatable edited.rows row ≡ true
correlatable_allowed edited row h =
    let both = or_none (find (λ n. not (is_correlatable_in edited.rows n)) (correlated_names row)) (repeated_name row) h in
    and_from (list_all (is_correlatable_in edited.rows) (correlated_names row)) (not (is_some (repeated_name row)))
    (none_all (is_correlatable_in edited.rows) (correlated_names row) both.0) (ap (λ o. not (is_some o)) both.1)

pub allowed_correlatable : (edited : Sheet) (row : Row) → are_correlatable edited.rows row ≡ true → first_not_correlatable edited row ≡ None
allowed_correlatable edited row h =
    let both = and_parts (list_all (is_correlatable_in edited.rows) (correlated_names row)) (not (is_some (repeated_name row))) h in
    let names = all_none (is_correlatable_in edited.rows) (correlated_names row) both.0 in
    let repeated = not_there (repeated_name row) both.1 in
    λ j. option_or (names j) (repeated j)

pub apart_allowed : (edited : Sheet) (row : Row) → first_correlated edited row ≡ None → are_apart edited.rows row ≡ true
apart_allowed edited row h = none_found (is_correlated_apart edited.rows row) (correlated_names row) h

pub allowed_apart : (edited : Sheet) (row : Row) → are_apart edited.rows row ≡ true → first_correlated edited row ≡ None
allowed_apart edited row h = found_of_none (is_correlated_apart edited.rows row) (correlated_names row) h

-- ---- where more inputs may be correlated
pub correlatable_more : (a b : List Row) → ((n : List ℕ) → is_correlatable_in a n ≡ true → is_correlatable_in b n ≡ true)
    → (row : Row) → are_correlatable a row ≡ true → are_correlatable b row ≡ true
correlatable_more a b more row h =
    let both = and_parts (list_all (is_correlatable_in a) (correlated_names row)) (not (is_some (repeated_name row))) h in
    and_from (list_all (is_correlatable_in b) (correlated_names row)) (not (is_some (repeated_name row)))
    (all_more (is_correlatable_in a) (is_correlatable_in b) more (correlated_names row) both.0) both.1

-- ---- the row itself is not another
pub apart_added : (rows : List Row) (row : Row) (n : List ℕ) → is_correlated_apart (rows ++ row ∷ []) row n ≡ is_correlated_apart rows row n
apart_added rows row n =
    list_any-append (λ other. not (is_named (name_of row) other) && correlates other n) rows (row ∷ [])
    ∙ ap (λ b. is_correlated_apart rows row n || ((not b && correlates row n) || false)) (named_itself (name_of row))
    ∙ or-false (is_correlated_apart rows row n)

apart_by : (row r : Row) (rs rs' : List Row) (n : List ℕ) (t : Bool) → is_named (name_of row) r ≡ t
    → is_correlated_apart rs' row n ≡ is_correlated_apart rs row n
    → is_correlated_apart (cond t (row ∷ rs) (r ∷ rs')) row n ≡ is_correlated_apart (r ∷ rs) row n
apart_by row r rs rs' n true e h =
    ap (λ b. (not b && correlates row n) || is_correlated_apart rs row n) (named_itself (name_of row))
    ∙ sym (ap (λ b. (not b && correlates r n) || is_correlated_apart rs row n) e)
apart_by row r rs rs' n false e h = ap (λ b. (not (is_named (name_of row) r) && correlates r n) || b) h

pub apart_set : (rows : List Row) (row : Row) (n : List ℕ) → is_correlated_apart (rows_with row rows) row n ≡ is_correlated_apart rows row n
apart_set [] row n = refl
apart_set (r ∷ rs) row n = apart_by row r rs (rows_with row rs) n (is_named (name_of row) r) refl (apart_set rs row n)

-- ---- rows with no name in common
-- two rows of different names correlate different inputs
abbrev is_apart_from : Row → Row → Bool
is_apart_from a b = list_all (λ n. not (not (is_named (name_of a) b) && correlates b n)) (correlated_names a)

pub apart_each : (rows : List Row) (row : Row) → are_apart rows row ≡ list_all (is_apart_from row) rows
apart_each rows row =
    list_all_agree (λ n. not (is_correlated_apart rows row n)) (λ n. list_all (λ b. not (not (is_named (name_of row) b) && correlates b n)) rows)
    (λ n. none_passes (λ b. not (is_named (name_of row) b) && correlates b n) rows) (correlated_names row)
    ∙ all_pairs (λ n b. not (not (is_named (name_of row) b) && correlates b n)) (correlated_names row) rows

none_common : (us vs : List (List ℕ)) → list_all (λ u. not (list_any (bytes_eq u) vs)) us ≡ list_all (λ v. not (list_any (bytes_eq v) us)) vs
none_common us vs =
    list_all_agree (λ u. not (list_any (bytes_eq u) vs)) (λ u. list_all (λ v. not (bytes_eq u v)) vs) (λ u. none_passes (bytes_eq u) vs) us
    ∙ all_pairs (λ u v. not (bytes_eq u v)) us vs
    ∙ list_all_agree (λ v. list_all (λ u. not (bytes_eq u v)) us) (λ v. not (list_any (bytes_eq v) us))
    (λ v. list_all_agree (λ u. not (bytes_eq u v)) (λ u. not (bytes_eq v u)) (λ u. ap not (both_ways_same u v)) us ∙ sym (none_passes (bytes_eq v) us)) vs

other_apart_by : (a b : Row) (t : Bool) → is_named (name_of b) a ≡ t → is_apart_from a b ≡ true
    → list_all (λ n. not (not t && correlates a n)) (correlated_names b) ≡ true
other_apart_by a b true e h = all_true (correlated_names b)
other_apart_by a b false e h =
    none_common (correlated_names b) (correlated_names a)
    ∙ sym (ap (λ t. list_all (λ n. not (not t && correlates b n)) (correlated_names a)) (other_way (name_of b) (name_of a) e)) ∙ h

pub other_apart : (a b : Row) → is_apart_from a b ≡ true → is_apart_from b a ≡ true
other_apart a b h = other_apart_by a b (is_named (name_of b) a) refl h

-- ---- no two correlations with a name in common, after an edit
module _ (row : Row) where
  -- the row is apart from each of these: they from it
  apart_of_two : (a b : List Row) → ((r : Row) → is_apart_from r row ≡ true → list_all (is_apart_from r) a ≡ true → list_all (is_apart_from r) b ≡ true)
      → (rest : List Row) → list_all (are_apart a) rest ≡ true → list_all (is_apart_from row) rest ≡ true → list_all (are_apart b) rest ≡ true
  apart_of_two a b more rest h g =
      all_two (are_apart a) (is_apart_from row) (are_apart b)
      (λ r k m. apart_each b r ∙ more r (other_apart row r m) (sym (apart_each a r) ∙ k)) rest h g

  pub apart_after_added : (rows : List Row) → list_all (are_apart rows) rows ≡ true → are_apart (rows ++ row ∷ []) row ≡ true
      → list_all (are_apart (rows ++ row ∷ [])) (rows ++ row ∷ []) ≡ true
  apart_after_added rows h own =
      let both = sym (list_all-append (is_apart_from row) rows (row ∷ [])) ∙ sym (apart_each (rows ++ row ∷ []) row) ∙ own in
      let from = (and_parts (list_all (is_apart_from row) rows) (is_apart_from row row && true) both).0 in
      list_all-append (are_apart (rows ++ row ∷ [])) rows (row ∷ [])
      ∙ and_from (list_all (are_apart (rows ++ row ∷ [])) rows) (are_apart (rows ++ row ∷ []) row && true)
      (apart_of_two rows (rows ++ row ∷ [])
      (λ r k m. list_all-append (is_apart_from r) rows (row ∷ [])
      ∙ and_from (list_all (is_apart_from r) rows) (is_apart_from r row && true) m (and_from (is_apart_from r row) true k refl)) rows h from)
      (and_from (are_apart (rows ++ row ∷ []) row) true own refl)

  set_by : (p : Row → Bool) (t : Bool) (r : Row) (rs rs' : List Row) → p row ≡ true → list_all p (r ∷ rs) ≡ true → list_all p rs' ≡ true
      → list_all p (cond t (row ∷ rs) (r ∷ rs')) ≡ true
  set_by p true r rs rs' own h g = and_from (p row) (list_all p rs) own (and_parts (p r) (list_all p rs) h).1
  set_by p false r rs rs' own h g = and_from (p r) (list_all p rs') (and_parts (p r) (list_all p rs) h).0 g

  -- each passes, and the row that is set
  pub all_set : (p : Row → Bool) (rows : List Row) → p row ≡ true → list_all p rows ≡ true → list_all p (rows_with row rows) ≡ true
  all_set p [] own h = refl
  all_set p (r ∷ rs) own h =
      set_by p (is_named (name_of row) r) r rs (rows_with row rs) own h (all_set p rs own (and_parts (p r) (list_all p rs) h).1)

  pub apart_after_set : (rows : List Row) → list_all (are_apart rows) rows ≡ true → are_apart (rows_with row rows) row ≡ true
      → list_all (are_apart (rows_with row rows)) (rows_with row rows) ≡ true
  apart_after_set rows h own =
      let same = list_all_agree (λ n. not (is_correlated_apart (rows_with row rows) row n)) (λ n. not (is_correlated_apart rows row n))
      (λ n. ap not (apart_set rows row n)) (correlated_names row) in
      let from = sym (apart_each rows row) ∙ sym same ∙ own in
      all_set (are_apart (rows_with row rows)) rows own
      (apart_of_two rows (rows_with row rows) (λ r k m. all_set (is_apart_from r) rows k m) rows h from)

-- ---- the rows that are left
module _ (n : List ℕ) where
  part_by : (p : Row → Bool) (t : Bool) (r : Row) (rs : List Row) → list_all p (r ∷ rs) ≡ true → list_all p (rows_without n rs) ≡ true
      → list_all p (cond t rs (r ∷ rows_without n rs)) ≡ true
  part_by p true r rs h g = (and_parts (p r) (list_all p rs) h).1
  part_by p false r rs h g = and_from (p r) (list_all p (rows_without n rs)) (and_parts (p r) (list_all p rs) h).0 g

  pub part : (p : Row → Bool) (xs : List Row) → list_all p xs ≡ true → list_all p (rows_without n xs) ≡ true
  part p [] h = refl
  part p (r ∷ rs) h = part_by p (is_named n r) r rs h (part p rs (and_parts (p r) (list_all p rs) h).1)

  pub apart_after_removed : (rows : List Row) → list_all (are_apart rows) rows ≡ true → list_all (are_apart (rows_without n rows)) (rows_without n rows) ≡ true
  apart_after_removed rows h =
      part (are_apart (rows_without n rows)) rows
      (all_more (are_apart rows) (are_apart (rows_without n rows))
      (λ r k. apart_each (rows_without n rows) r ∙ part (is_apart_from r) rows (sym (apart_each rows r) ∙ k)) rows h)
