-- Tables of one column, and their readings.
use Rattle.std.proofs.Common.{◌≡◌, suc, [], ◌∷◌, length, refl, ap, arith, None}
use Rattle.type_a.specs.Tables.{Table, width_of, refusal}
use Rattle.type_a.specs.Tables.{single}
use Rattle.sheet_rows.specs.Regular.{AreDecimals, AllAreDecimals}
use Rattle.row_text.specs.Printing.{one_column}
use Rattle.row_text.proofs.Widths.{AreOfWidth, are_of_width}

rest_again : (t : Table) → AreOfWidth 1 t → single (one_column t) ≡ t
rest_again [] h = refl
rest_again ([] ∷ rs) h = let none : 0 ≡ 1 = h.0 in absurd (omega (arith, none))
rest_again ((b ∷ []) ∷ rs) h = ap (λ t. (b ∷ []) ∷ t) (rest_again rs h.1)
rest_again ((b ∷ c ∷ r) ∷ rs) h = let more : suc (suc (length r)) ≡ 1 = h.0 in absurd (omega (arith, more))

decimals_of : (t : Table) → AreOfWidth 1 t → AllAreDecimals t → AreDecimals (one_column t)
decimals_of [] h k = tt
decimals_of ([] ∷ rs) h k = let none : 0 ≡ 1 = h.0 in absurd (omega (arith, none))
decimals_of ((b ∷ r) ∷ rs) h k = (k.0.0, decimals_of rs h.1 k.1)

pub table_again : (t : Table) → refusal t ≡ None → width_of t ≡ 1 → single (one_column t) ≡ t
table_again t taken width = rest_again t (are_of_width 1 t taken width)

pub column_decimals : (t : Table) → refusal t ≡ None → width_of t ≡ 1 → AllAreDecimals t → AreDecimals (one_column t)
column_decimals t taken width k = decimals_of t (are_of_width 1 t taken width) k
