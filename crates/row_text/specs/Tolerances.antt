-- What the words after `tol` are as a rule of conformity (ILAC-G8:09/2019, 4.2.2, 4.2.3): its name, its limits, how many
-- expanded uncertainties its guard band is wide, and `four` for a statement of four outcomes. Only when all words are read
-- is it looked at whether the guard factor is in range, and then whether the limits are in order.
use Rattle.std.specs.Prelude.{ℕ, ◌+◌, ◌&&◌, ◌||◌, Bool, if◌then◌else◌, List, [], ◌∷◌, Option, None, Some, is_some, Ok, Err, bytes_eq, codes}
use Rattle.decimal18.specs.Bound.{Bound}
use Rattle.line_text.specs.Words.{Word}
use Rattle.guard_band.specs.declared.rule.Form.{Form}
use Rattle.guard_band.specs.declared.rule.Form.TheVariants.{Binary, Four}
use Rattle.sheet_rows.specs.Rows.{Row, Tolerance}
use Rattle.sheet_rows.specs.Regular.{is_guard, are_ordered}
use Rattle.sheet_rows.specs.declared.fault.RowFault.TheVariants.{Syntax, GuardRange, LimitOrder}
use Rattle.row_text.specs.Parts.{Read, then_read, Parsed, plain_word, number_word, ended}

-- the limit after this word, where that is the next one
abbrev pub limit_word : List ℕ → ℕ → List Word → Read (Parsed (Option Bound))
limit_word keyword end [] = Ok (record { item = None; rest = [] })
limit_word keyword end (w ∷ ws) =
    if bytes_eq w.text keyword then then_read (number_word end ws) (λ limit. Ok (record { item = Some limit.item; rest = limit.rest }))
    else Ok (record { item = None; rest = w ∷ ws })

-- `guard` with its factor, which stands only after a limit
abbrev pub guard_word : Bool → ℕ → List Word → Read (Parsed Bound)
guard_word limited end [] = Err (Syntax (end + 1))
guard_word limited end (w ∷ ws) = if limited && bytes_eq w.text (codes "guard") then number_word end ws else Err (Syntax (w.place + 1))

-- a statement has two outcomes where no word is left
abbrev pub form_word : List Word → Read (Parsed Form)
form_word [] = Ok (record { item = Binary; rest = [] })
form_word (w ∷ ws) = if bytes_eq w.text (codes "four") then Ok (record { item = Four; rest = ws }) else Err (Syntax (w.place + 1))

-- ---- refusals without a place
abbrev pub guard_checked : Bound → Read Bound
guard_checked guard = if is_guard guard then Ok guard else Err GuardRange

abbrev pub order_checked : Option Bound → Option Bound → Read (Unit {0})
order_checked lower upper = if are_ordered lower upper then Ok tt else Err LimitOrder

-- ---- `NAME`, then `lower` and `upper` with a limit each, of which one may be missing, then `guard FACTOR`, and `four` or
-- nothing
abbrev pub tolerance_of : ℕ → List Word → Read Row
tolerance_of end ws =
    then_read (plain_word end ws) (λ name.
    then_read (limit_word (codes "lower") end name.rest) (λ lower.
    then_read (limit_word (codes "upper") end lower.rest) (λ upper.
    then_read (guard_word (is_some lower.item || is_some upper.item) end upper.rest) (λ guard.
    then_read (form_word guard.rest) (λ form.
    then_read (ended form.rest) (λ done.
    then_read (guard_checked guard.item) (λ factor.
    then_read (order_checked lower.item upper.item) (λ fine.
    Ok (Tolerance name.item (record { lower = lower.item; upper = upper.item; guard = factor; form = form.item }))))))))))
