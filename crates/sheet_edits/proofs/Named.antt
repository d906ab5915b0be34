-- The row of a name, where it has a property, after a row was set or taken out.
use Rattle.std.proofs.Common.{◌≡◌, ℕ, Bool, true, false, ◌||◌, ◌&&◌, cond, List, [], ◌∷◌, refl, sym, ap, ◌∙◌, true≢false}
use Rattle.std.specs.Prelude.{bytes_eq}
use Rattle.std.proofs.Math.Bool.{or-false}
use Rattle.sheet_rows.specs.Rows.{Row, name_of}
use Rattle.sheet_rows.specs.Sheets.{is_named, is_among, are_named_once}
use Rattle.sheet_rows.proofs.Tests.{same_name}
use Rattle.sheet_rows.proofs.Named.{once_head, once_tail, has as has_named, none_after}
use Rattle.sheet_edits.specs.Verdicts.{rows_with, rows_without}

module _ (p : Row → Bool) (n : List ℕ) where
  abbrev has : List Row → Bool
  has rows = has_named p n rows

  -- ---- with another row in the place of that of its name
  set_by : (row r : Row) (rs : List Row) (t u : Bool) → is_named (name_of row) r ≡ t → is_named n row ≡ u → is_among rs (name_of r) ≡ false
      → (is_among rs (name_of row) ≡ true → has (rows_with row rs) ≡ cond u (p row) (has rs)) → (t || is_among rs (name_of row)) ≡ true
      → has (cond t (row ∷ rs) (r ∷ rows_with row rs)) ≡ cond u (p row) (has (r ∷ rs))
  set_by row r rs true true e f new rest there =
      let same : is_named n r ≡ true = ap (λ m. bytes_eq m (name_of r)) (same_name n (name_of row) f) ∙ e in
      ap (λ b. (b && p row) || has rs) f ∙ ap (λ b. p row || b) (none_after p n r rs same new) ∙ or-false (p row)
  set_by row r rs true false e f new rest there =
      let apart : is_named n r ≡ false = ap (bytes_eq n) (sym (same_name (name_of row) (name_of r) e)) ∙ f in
      ap (λ b. (b && p row) || has rs) f ∙ sym (ap (λ b. (b && p r) || has rs) apart)
  set_by row r rs false true e f new rest there =
      let apart : is_named n r ≡ false = ap (λ m. bytes_eq m (name_of r)) (same_name n (name_of row) f) ∙ e in
      ap (λ b. (b && p r) || has (rows_with row rs)) apart ∙ rest there
  set_by row r rs false false e f new rest there = ap (λ b. (is_named n r && p r) || b) (rest there)

  pub has_set : (rows : List Row) (row : Row) → are_named_once rows ≡ true → is_among rows (name_of row) ≡ true
      → has (rows_with row rows) ≡ cond (is_named n row) (p row) (has rows)
  has_set [] row h there = absurd (true≢false (sym there))
  has_set (r ∷ rs) row h there =
      set_by row r rs (is_named (name_of row) r) (is_named n row) refl refl (once_head r rs h) (has_set rs row (once_tail r rs h)) there

  -- ---- without the row of another name
  removed_by : (m : List ℕ) (t : Bool) (r : Row) (rs : List Row) → is_named m r ≡ t → bytes_eq n m ≡ false → has (rows_without m rs) ≡ has rs
      → has (cond t rs (r ∷ rows_without m rs)) ≡ has (r ∷ rs)
  removed_by m true r rs e f h = sym (ap (λ b. (b && p r) || has rs) (ap (bytes_eq n) (sym (same_name m (name_of r) e)) ∙ f))
  removed_by m false r rs e f h = ap (λ b. (is_named n r && p r) || b) h

  pub has_removed : (rows : List Row) (m : List ℕ) → bytes_eq n m ≡ false → has (rows_without m rows) ≡ has rows
  has_removed [] m f = refl
  has_removed (r ∷ rs) m f = removed_by m (is_named m r) r rs refl f (has_removed rs m f)
