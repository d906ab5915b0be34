use Rattle.std.proofs.Common.{refl}
use Rattle.std.specs.Fmt.{digits}
use Rattle.csv.proofs.OnLiterals.{csv_on_literals}
use std.Quotient.{/_rec, /_rec₂}
use Rattle.exact_fraction.specs.Fraction as fraction
use Rattle.exact_fraction.specs.Fraction.{◌⊕◌, ◌⊗◌, inverse, floor, is_at_most}
use Rattle.exact_fraction.specs.Number.{◌+ℚ◌, ◌*ℚ◌, inv_ℚ, neg_ℚ, is_zero_ℚ, is_at_most_ℚ, floor_ℚ, min_ℚ, max_ℚ}
use Rattle.exact_fraction.specs.Sums.{total, below}
use Rattle.exact_law.specs.Law.{mean, joint}
use Rattle.decimal18.specs.Bound.{value_of}
use Rattle.decimal18.specs.Down.{is_in_range, cut_off, down, up}
use Rattle.decimal18.specs.Literal.{parsed}
use Rattle.fixed_interval.specs.Extremes.{lesser, greater}
use Rattle.fixed_interval.specs.Interval.{outward}
use Rattle.fixed_interval.specs.Rules.{quotient, holds_zero}
use Rattle.fixed_interval.specs.Powers.{power_span}
use Rattle.formula_ast.specs.Reading.{reading_of}
use Rattle.formula_box.specs.Values.{span_of}
use Rattle.formula_box.specs.Slopes.{partial_of}
use Rattle.type_a.specs.Tables.{refusal}
use Rattle.table_records.specs.Tables.{records_read}
use Rattle.row_text.specs.Reading.{row_read}
use Rattle.row_text.specs.Tables.{table_read}
use Rattle.value_cache.specs.Evaluations.{evaluation_of}
use Rattle.covariance.specs.Variances.{group_variance_span, group_covariance_span}
use Rattle.adjoint_pass.specs.Sweep.{is_in_cone, sensitivity}
use Rattle.adjoint_pass.specs.Sensitivities.{sensitivity_of}
use Rattle.budget_table.specs.Budgets.{budget_lines}
use Rattle.script_lines.specs.Blocks.{opens_block, ends_block}
use Rattle.script_lines.specs.Commands.{line_read, block_read}
use Rattle.gum_cli.proofs.worked.worked_budgets.Goals as goal

pub returns-clause-first : goal.returns-clause-first
unfolding budget_lines is_zero_ℚ csv_on_literals records_read power_span digits opens_block ends_block line_read block_read row_read table_read refusal reading_of parsed sensitivity_of sensitivity is_in_cone evaluation_of span_of partial_of group_variance_span group_covariance_span mean joint total below outward quotient holds_zero lesser greater min_ℚ max_ℚ up down cut_off is_in_range value_of ◌+ℚ◌ ◌*ℚ◌ inv_ℚ neg_ℚ is_at_most_ℚ floor_ℚ floor is_at_most inverse ◌⊕◌ ◌⊗◌ fraction.negated /_rec₂ /_rec
returns-clause-first c = refl

pub returns-clause-none : goal.returns-clause-none
unfolding budget_lines is_zero_ℚ csv_on_literals records_read power_span digits opens_block ends_block line_read block_read row_read table_read refusal reading_of parsed sensitivity_of sensitivity is_in_cone evaluation_of span_of partial_of group_variance_span group_covariance_span mean joint total below outward quotient holds_zero lesser greater min_ℚ max_ℚ up down cut_off is_in_range value_of ◌+ℚ◌ ◌*ℚ◌ inv_ℚ neg_ℚ is_at_most_ℚ floor_ℚ floor is_at_most inverse ◌⊕◌ ◌⊗◌ fraction.negated /_rec₂ /_rec
returns-clause-none c = refl

pub returns-clause-pair : goal.returns-clause-pair
unfolding budget_lines is_zero_ℚ csv_on_literals records_read power_span digits opens_block ends_block line_read block_read row_read table_read refusal reading_of parsed sensitivity_of sensitivity is_in_cone evaluation_of span_of partial_of group_variance_span group_covariance_span mean joint total below outward quotient holds_zero lesser greater min_ℚ max_ℚ up down cut_off is_in_range value_of ◌+ℚ◌ ◌*ℚ◌ inv_ℚ neg_ℚ is_at_most_ℚ floor_ℚ floor is_at_most inverse ◌⊕◌ ◌⊗◌ fraction.negated /_rec₂ /_rec
returns-clause-pair c = refl

pub returns-clause-table : goal.returns-clause-table
unfolding budget_lines is_zero_ℚ csv_on_literals records_read power_span digits opens_block ends_block line_read block_read row_read table_read refusal reading_of parsed sensitivity_of sensitivity is_in_cone evaluation_of span_of partial_of group_variance_span group_covariance_span mean joint total below outward quotient holds_zero lesser greater min_ℚ max_ℚ up down cut_off is_in_range value_of ◌+ℚ◌ ◌*ℚ◌ inv_ℚ neg_ℚ is_at_most_ℚ floor_ℚ floor is_at_most inverse ◌⊕◌ ◌⊗◌ fraction.negated /_rec₂ /_rec
returns-clause-table c = refl

pub returns-clause-faults : goal.returns-clause-faults
unfolding budget_lines is_zero_ℚ csv_on_literals records_read power_span digits opens_block ends_block line_read block_read row_read table_read refusal reading_of parsed sensitivity_of sensitivity is_in_cone evaluation_of span_of partial_of group_variance_span group_covariance_span mean joint total below outward quotient holds_zero lesser greater min_ℚ max_ℚ up down cut_off is_in_range value_of ◌+ℚ◌ ◌*ℚ◌ inv_ℚ neg_ℚ is_at_most_ℚ floor_ℚ floor is_at_most inverse ◌⊕◌ ◌⊗◌ fraction.negated /_rec₂ /_rec
returns-clause-faults c = refl
