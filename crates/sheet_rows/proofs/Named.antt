-- The row of a name, where it has a property: it is the only one of its name.
use Rattle.std.proofs.Common.{◌≡◌, ℕ, zero, suc, Bool, true, false, ◌||◌, ◌&&◌, cond, not, List, [], ◌∷◌, ◌++◌, take, Option, None, Some, refl, sym, ap, ◌∙◌}
use Rattle.std.specs.Prelude.{find}
use Rattle.std.specs.List.{list_any}
use Rattle.std.proofs.Math.Bool.{or-false}
use Rattle.std.proofs.lemmas.Bool.{and_parts, and_right, or_parts, not-true}
use Rattle.std.proofs.lemmas.List.Folds.{list_any-append}
use Rattle.sheet_rows.specs.Rows.{Row, name_of}
use Rattle.sheet_rows.specs.Sheets.{is_named, is_among, are_named_once}
use Rattle.sheet_rows.proofs.Tests.{same_name}

pub once_head : (r : Row) (rs : List Row) → are_named_once (r ∷ rs) ≡ true → is_among rs (name_of r) ≡ false
once_head r rs h = not-true (is_among rs (name_of r)) (and_parts (not (is_among rs (name_of r))) (are_named_once rs) h).0

pub once_tail : (r : Row) (rs : List Row) → are_named_once (r ∷ rs) ≡ true → are_named_once rs ≡ true
once_tail r rs h = (and_parts (not (is_among rs (name_of r))) (are_named_once rs) h).1

module _ (p : Row → Bool) (n : List ℕ) where
  abbrev pub has : List Row → Bool
  has rows = list_any (λ r. is_named n r && p r) rows

  pub has_none : (rows : List Row) → is_among rows n ≡ false → has rows ≡ false
  has_none [] h = refl
  has_none (r ∷ rs) h =
      let first = (or_parts (is_named n r) (is_among rs n) h).0 in
      let rest = has_none rs (or_parts (is_named n r) (is_among rs n) h).1 in
      λ j. (first j && p r) || rest j

  -- no row after one of the name
  pub none_after : (r : Row) (rs : List Row) → is_named n r ≡ true → is_among rs (name_of r) ≡ false → has rs ≡ false
  none_after r rs e new = has_none rs (ap (is_among rs) (same_name n (name_of r) e) ∙ new)

  -- ---- by the row that is found
  abbrev pub holds : Option Row → Bool
  holds None = false
  holds (Some r) = p r

  found_by : (t : Bool) (r : Row) (rs : List Row) → is_named n r ≡ t → is_among rs (name_of r) ≡ false → has rs ≡ holds (find (is_named n) rs)
      → ((t && p r) || has rs) ≡ holds (cond t (Some r) (find (is_named n) rs))
  found_by true r rs e new h = ap (λ b. p r || b) (none_after r rs e new) ∙ or-false (p r)
  found_by false r rs e new h = h

  pub has_found : (rows : List Row) → are_named_once rows ≡ true → has rows ≡ holds (find (is_named n) rows)
  has_found [] h = refl
  has_found (r ∷ rs) h = found_by (is_named n r) r rs refl (once_head r rs h) (has_found rs (once_tail r rs h))

  -- ---- before a place
  before_by : (t : Bool) (r : Row) (rs : List Row) (k : ℕ) → is_named n r ≡ t → is_among rs (name_of r) ≡ false
      → has (take k rs) ≡ (is_among (take k rs) n && has rs)
      → ((t && p r) || has (take k rs)) ≡ ((t || is_among (take k rs) n) && ((t && p r) || has rs))
  before_by true r rs k e new h =
      let none = none_after r rs e new in
      ap (λ b. p r || b) (h ∙ and_right (is_among (take k rs) n) (has rs) none) ∙ sym (ap (λ b. p r || b) none)
  before_by false r rs k e new h = h

  pub has_before : (rows : List Row) (at : ℕ) → are_named_once rows ≡ true → has (take at rows) ≡ (is_among (take at rows) n && has rows)
  has_before [] zero h = refl
  has_before [] (suc k) h = refl
  has_before (r ∷ rs) zero h = refl
  has_before (r ∷ rs) (suc k) h = before_by (is_named n r) r rs k refl (once_head r rs h) (has_before rs k (once_tail r rs h))

  -- ---- with a row more
  added_by : (row : Row) (rows : List Row) (u : Bool) → is_named n row ≡ u → is_among rows (name_of row) ≡ false
      → (has rows || ((u && p row) || false)) ≡ cond u (p row) (has rows)
  added_by row rows true e new = ap (λ b. b || (p row || false)) (none_after row rows e new) ∙ or-false (p row)
  added_by row rows false e new = or-false (has rows)

  pub has_added : (rows : List Row) (row : Row) → is_among rows (name_of row) ≡ false → has (rows ++ row ∷ []) ≡ cond (is_named n row) (p row) (has rows)
  has_added rows row new = list_any-append (λ r. is_named n r && p r) rows (row ∷ []) ∙ added_by row rows (is_named n row) refl new
