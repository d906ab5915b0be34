-- Regular rows, in lists of rows, and their names.
use Rattle.std.proofs.Common.{◌≡◌, ℕ, Bool, true, false, ◌||◌, cond, List, [], ◌∷◌, ◌++◌, Some, refl, sym, ap, subst, ◌∙◌, true≢false}
use Rattle.std.specs.Prelude.{find, unwrap_or}
use Rattle.formula_ast.specs.Names.{is_plain_name}
use Rattle.sheet_rows.specs.Rows.{Row, Given, Readings, Joint, Correlation, Formula, Tolerance, name_of}
use Rattle.sheet_rows.specs.Regular.{IsRegular, AreRegular}
use Rattle.sheet_rows.specs.Sheets.{is_named, is_among}
use Rattle.sheet_rows.proofs.Tests.{same_name}

pub regular_added : (rows : List Row) (row : Row) → AreRegular rows → IsRegular row → AreRegular (rows ++ row ∷ [])
regular_added [] row h g = (g, tt)
regular_added (r ∷ rs) row h g = (h.0, regular_added rs row h.1 g)

pub regular_found : (p : Row → Bool) (rows : List Row) (row : Row) → AreRegular rows → find p rows ≡ Some row → IsRegular row
regular_found p [] row h e = absurd (cc)
regular_found p (r ∷ rs) row h e = by (p r) e (regular_found p rs row h.1) where
  by : (t : Bool) → cond t (Some r) (find p rs) ≡ Some row → (find p rs ≡ Some row → IsRegular row) → IsRegular row
  by true f rest = subst IsRegular (ap (λ o. unwrap_or o r) f) h.0
  by false f rest = rest f

-- ---- names
pub plain_row : (row : Row) → IsRegular row → is_plain_name (name_of row) ≡ true
plain_row (Given name estimate shape dof) h = h.0
plain_row (Readings name table) h = h.0
plain_row (Joint name columns table) h = h.0
plain_row (Correlation name first second coefficient) h = h.0
plain_row (Formula name formula) h = h.0
plain_row (Tolerance name rule) h = h.0

-- a name that is not plain is that of no row
pub no_row : (rows : List Row) (n : List ℕ) → AreRegular rows → is_plain_name n ≡ false → is_among rows n ≡ false
no_row [] n h e = refl
no_row (r ∷ rs) n h e = by (is_named n r) refl (no_row rs n h.1 e) where
  by : (t : Bool) → is_named n r ≡ t → is_among rs n ≡ false → is_among (r ∷ rs) n ≡ false
  by true f rest = absurd (true≢false (sym (ap is_plain_name (same_name n (name_of r) f) ∙ plain_row r h.0) ∙ e))
  by false f rest = λ j. f j || rest j
