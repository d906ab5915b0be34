-- Regular rows, after a row was set or taken out.
use Rattle.std.proofs.Common.{ℕ, zero, suc, Bool, true, false, cond, List, [], ◌∷◌, take}
use Rattle.sheet_rows.specs.Rows.{Row, name_of}
use Rattle.sheet_rows.specs.Regular.{IsRegular, AreRegular}
use Rattle.sheet_rows.specs.Sheets.{is_named}
use Rattle.sheet_edits.specs.Verdicts.{rows_with, rows_without}

cond_regular : (t : Bool) (a b : List Row) → AreRegular a → AreRegular b → AreRegular (cond t a b)
cond_regular true a b h g = h
cond_regular false a b h g = g

pub regular_set : (rows : List Row) (row : Row) → AreRegular rows → IsRegular row → AreRegular (rows_with row rows)
regular_set [] row h g = tt
regular_set (r ∷ rs) row h g = cond_regular (is_named (name_of row) r) (row ∷ rs) (r ∷ rows_with row rs) (g, h.1) (h.0, regular_set rs row h.1 g)

pub regular_removed : (rows : List Row) (n : List ℕ) → AreRegular rows → AreRegular (rows_without n rows)
regular_removed [] n h = tt
regular_removed (r ∷ rs) n h = cond_regular (is_named n r) rs (r ∷ rows_without n rs) h.1 (h.0, regular_removed rs n h.1)

pub regular_taken : (k : ℕ) (rows : List Row) → AreRegular rows → AreRegular (take k rows)
regular_taken zero rows h = tt
regular_taken (suc k) [] h = tt
regular_taken (suc k) (r ∷ rs) h = (h.0, regular_taken k rs h.1)
