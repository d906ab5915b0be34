-- Regular rows, which are those that lines give: the name is plain, the numbers are bounds in canonical form, the
-- shape states an uncertainty and its degrees of freedom are in range (JCGM 100:2008, 4.3, G.4.2), the readings are
-- taken and stand in as many columns as have names, the correlation coefficient is from -1 to 1 (5.2.2), the printed
-- formula is read as the formula again, and the rule of conformity has a limit, its limits in order and a guard factor in
-- range.
use Rattle.std.specs.Prelude.{◌≡◌, ◌^◌, ◌&&◌, ◌||◌, nat_le, unsigned_abs, Bool, true, List, [], ◌∷◌, length, Option, None, Some, is_some, IfSome, Ok, pos}
use Rattle.exact_fraction.specs.Number.{of_ℤ, is_at_most_ℚ}
use Rattle.decimal18.specs.Bound.{Bound, IsDecimal, value_of}
use Rattle.formula_ast.specs.Names.{is_plain_name, is_name}
use Rattle.formula_ast.specs.Printing.{print}
use Rattle.formula_ast.specs.Reading.{reading_of}
use Rattle.type_b.specs.Shapes.{HasDecimals, checked, IsDegrees}
use Rattle.type_a.specs.Tables.{Record, Table, width_of, refusal}
use Rattle.table_records.specs.Header.{is_header}
use Rattle.guard_band.specs.declared.rule.Rule.{Rule}
use Rattle.sheet_rows.specs.Rows.{Row, Given, Readings, Joint, Correlation, Formula, Tolerance}

-- its readings are bounds in canonical form
abbrev pub AreDecimals : Record → Type 0
AreDecimals [] = Unit {0}
AreDecimals (b ∷ bs) = IsDecimal b × AreDecimals bs

abbrev pub AllAreDecimals : Table → Type 0
AllAreDecimals [] = Unit {0}
AllAreDecimals (r ∷ rs) = AreDecimals r × AllAreDecimals rs

-- a number from -1 to 1 has a coefficient of at most the power of ten by which it is divided
abbrev pub is_coefficient : Bound → Bool
is_coefficient r = nat_le (unsigned_abs r.coefficient) (10 ^ r.places)

-- ---- rules of conformity
abbrev pub HasDecimalNumbers : Rule → Type 0
HasDecimalNumbers rule = IfSome rule.lower IsDecimal × IfSome rule.upper IsDecimal × IsDecimal rule.guard

-- a guard factor: from 0 to 3, with at most three decimals, by limits of our own
abbrev pub is_guard : Bound → Bool
is_guard r = nat_le r.places 3 && (is_at_most_ℚ (of_ℤ (pos 0)) (value_of r) && is_at_most_ℚ (value_of r) (of_ℤ (pos 3)))

-- where there are two limits, the lower one is not above the upper one
abbrev pub are_ordered : Option Bound → Option Bound → Bool
are_ordered None upper = true
are_ordered (Some lower) None = true
are_ordered (Some lower) (Some upper) = is_at_most_ℚ (value_of lower) (value_of upper)

pub record IsRegularRule (rule : Rule) : Type 0 where
  pub limit : (is_some rule.lower || is_some rule.upper) ≡ true
  pub guard : is_guard rule.guard ≡ true
  pub order : are_ordered rule.lower rule.upper ≡ true

-- ---- rows
abbrev pub IsRegular : Row → Type 0
IsRegular (Given name estimate shape dof) =
    (is_plain_name name ≡ true) × IsDecimal estimate × HasDecimals shape × (checked shape ≡ Ok (record {})) × IsDegrees dof
IsRegular (Readings name table) = (is_plain_name name ≡ true) × AllAreDecimals table × (width_of table ≡ 1) × (refusal table ≡ None)
IsRegular (Joint name columns table) =
    (is_plain_name name ≡ true) × (is_header columns ≡ true) × AllAreDecimals table × (width_of table ≡ length columns) × (refusal table ≡ None)
IsRegular (Correlation name first second r) =
    (is_plain_name name ≡ true) × (is_name first ≡ true) × (is_name second ≡ true) × IsDecimal r × (is_coefficient r ≡ true)
IsRegular (Formula name f) = (is_plain_name name ≡ true) × (reading_of (print f) ≡ Ok f)
IsRegular (Tolerance name rule) = (is_plain_name name ≡ true) × HasDecimalNumbers rule × IsRegularRule rule

abbrev pub AreRegular : List Row → Type 0
AreRegular [] = Unit {0}
AreRegular (row ∷ rows) = IsRegular row × AreRegular rows
