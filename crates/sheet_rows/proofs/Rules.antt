-- Rules of conformity: those of regular rows are rules by which statements can be made.
use Rattle.std.proofs.Common.{◌≡◌, ℕ, Bool, ◌&&◌, List, Option, None, Some, refl, ap, subst}
use Rattle.std.specs.Prelude.{find, nat_le, option_and_then, unwrap_or, pos}
use Rattle.std.proofs.lemmas.Bool.{and_parts}
use Rattle.exact_fraction.specs.Number.{of_ℤ, is_at_most_ℚ}
use Rattle.decimal18.specs.Bound.{value_of}
use Rattle.guard_band.specs.declared.rule.Rule.{Rule}
use Rattle.guard_band.specs.Statements.{IsRule}
use Rattle.sheet_rows.specs.Rows.{Row, Given, Readings, Joint, Correlation, Formula, Tolerance, row_rule}
use Rattle.sheet_rows.specs.Regular.{IsRegular, AreRegular, IsRegularRule}
use Rattle.sheet_rows.specs.Sheets.{is_named, rule_in}
use Rattle.sheet_rows.proofs.RegularRows.{regular_found}

pub regular_is_rule : (rule : Rule) → IsRegularRule rule → IsRule rule
regular_is_rule rule h =
    let low : Bool = is_at_most_ℚ (of_ℤ (pos 0)) (value_of rule.guard) in
    let high : Bool = is_at_most_ℚ (value_of rule.guard) (of_ℤ (pos 3)) in
    let within = and_parts low high (and_parts (nat_le rule.guard.places 3) (low && high) h.guard).1 in
    record { limit = h.limit; least = record { holds = within.0 }; most = record { holds = within.1 } }

-- ---- the rule of a row
of_row : (row : Row) (rule : Rule) → IsRegular row → row_rule row ≡ Some rule → IsRegularRule rule
of_row (Given name estimate shape dof) rule h e = absurd (cc)
of_row (Readings name table) rule h e = absurd (cc)
of_row (Joint name columns table) rule h e = absurd (cc)
of_row (Correlation name first second coefficient) rule h e = absurd (cc)
of_row (Formula name formula) rule h e = absurd (cc)
of_row (Tolerance name own) rule h e = subst IsRegularRule (ap (λ r. unwrap_or r own) e) h.2

-- a rule of regular rows is regular
pub rule_regular : (rows : List Row) (n : List ℕ) (rule : Rule) → AreRegular rows → rule_in rows n ≡ Some rule → IsRegularRule rule
rule_regular rows n rule h e = by (find (is_named n) rows) refl e where
  by : (o : Option Row) → find (is_named n) rows ≡ o → option_and_then row_rule o ≡ Some rule → IsRegularRule rule
  by None f g = absurd (cc)
  by (Some row) f g = of_row row rule (regular_found (is_named n) rows row h f) g

pub rule_stands : (rows : List Row) (n : List ℕ) (rule : Rule) → AreRegular rows → rule_in rows n ≡ Some rule → IsRule rule
rule_stands rows n rule h e = regular_is_rule rule (rule_regular rows n rule h e)
