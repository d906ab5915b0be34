use Rattle.std.proofs.Common.{refl}
use Rattle.std.specs.Fmt.{digits}
use Rattle.csv.proofs.OnLiterals.{csv_on_literals}
use std.Quotient.{/_rec, /_rec₂}
use Rattle.exact_fraction.specs.Fraction as fraction
use Rattle.exact_fraction.specs.Fraction.{◌⊕◌, ◌⊗◌, inverse, floor, is_at_most}
use Rattle.exact_fraction.specs.Number.{◌+ℚ◌, ◌*ℚ◌, inv_ℚ, neg_ℚ, is_zero_ℚ, is_at_most_ℚ, floor_ℚ, min_ℚ, max_ℚ}
use Rattle.exact_fraction.specs.Powers.{power}
use Rattle.exact_fraction.specs.Sums.{total, below}
use Rattle.exact_law.specs.Degrees.{row, first_row, later_rows, infinite_row, thousandths, row_at, row_of}
use Rattle.exact_law.specs.Rounding.{ten_to, scaled_square, at_place}
use Rattle.exact_law.specs.Law.{mean, joint}
use Rattle.decimal18.specs.Bound.{value_of}
use Rattle.decimal18.specs.Down.{is_in_range, cut_off, down, up}
use Rattle.decimal18.specs.Literal.{parsed}
use Rattle.decimal18.specs.Order.{compare_ℚ}
use Rattle.fixed_interval.specs.Extremes.{lesser, greater}
use Rattle.fixed_interval.specs.Interval.{outward}
use Rattle.fixed_interval.specs.Rules.{quotient, holds_zero, greatest_share}
use Rattle.fixed_interval.specs.Powers.{power_span}
use Rattle.formula_ast.specs.Reading.{reading_of}
use Rattle.formula_box.specs.Values.{span_of}
use Rattle.formula_box.specs.Slopes.{partial_of}
use Rattle.type_a.specs.Tables.{refusal}
use Rattle.table_records.specs.Tables.{records_read}
use Rattle.row_text.specs.Reading.{row_read}
use Rattle.row_text.specs.Tables.{table_read}
use Rattle.value_cache.specs.Evaluations.{evaluation_of}
use Rattle.covariance.specs.Variances.{group_variance_span, group_covariance_span}
use Rattle.adjoint_pass.specs.Sweep.{is_in_cone, sensitivity}
use Rattle.adjoint_pass.specs.Sensitivities.{sensitivity_of}
use Rattle.round_out.specs.Searches.{digits_of_span}
use Rattle.round_out.specs.Reports.{reported_of, expanded_of}
use Rattle.eff_dof.specs.Degrees.{known_degrees}
use Rattle.eff_dof.specs.GroupParts.{known_degrees_of}
use Rattle.script_lines.specs.Blocks.{opens_block, ends_block}
use Rattle.script_lines.specs.Commands.{line_read, block_read}
use Rattle.gum_cli.proofs.worked.worked_reports.Goals as goal

pub returns-clause-readings : goal.returns-clause-readings
unfolding row first_row later_rows infinite_row thousandths row_at row_of compare_ℚ reported_of expanded_of digits_of_span known_degrees_of known_degrees greatest_share is_zero_ℚ power ten_to scaled_square at_place csv_on_literals records_read power_span digits opens_block ends_block line_read block_read row_read table_read refusal reading_of parsed sensitivity_of sensitivity is_in_cone evaluation_of span_of partial_of group_variance_span group_covariance_span mean joint total below outward quotient holds_zero lesser greater min_ℚ max_ℚ up down cut_off is_in_range value_of ◌+ℚ◌ ◌*ℚ◌ inv_ℚ neg_ℚ is_at_most_ℚ floor_ℚ floor is_at_most inverse ◌⊕◌ ◌⊗◌ fraction.negated /_rec₂ /_rec
returns-clause-readings c = refl

pub returns-clause-degrees : goal.returns-clause-degrees
unfolding row first_row later_rows infinite_row thousandths row_at row_of compare_ℚ reported_of expanded_of digits_of_span known_degrees_of known_degrees greatest_share is_zero_ℚ power ten_to scaled_square at_place csv_on_literals records_read power_span digits opens_block ends_block line_read block_read row_read table_read refusal reading_of parsed sensitivity_of sensitivity is_in_cone evaluation_of span_of partial_of group_variance_span group_covariance_span mean joint total below outward quotient holds_zero lesser greater min_ℚ max_ℚ up down cut_off is_in_range value_of ◌+ℚ◌ ◌*ℚ◌ inv_ℚ neg_ℚ is_at_most_ℚ floor_ℚ floor is_at_most inverse ◌⊕◌ ◌⊗◌ fraction.negated /_rec₂ /_rec
returns-clause-degrees c = refl

pub returns-clause-hundred : goal.returns-clause-hundred
unfolding row first_row later_rows infinite_row thousandths row_at row_of compare_ℚ reported_of expanded_of digits_of_span known_degrees_of known_degrees greatest_share is_zero_ℚ power ten_to scaled_square at_place csv_on_literals records_read power_span digits opens_block ends_block line_read block_read row_read table_read refusal reading_of parsed sensitivity_of sensitivity is_in_cone evaluation_of span_of partial_of group_variance_span group_covariance_span mean joint total below outward quotient holds_zero lesser greater min_ℚ max_ℚ up down cut_off is_in_range value_of ◌+ℚ◌ ◌*ℚ◌ inv_ℚ neg_ℚ is_at_most_ℚ floor_ℚ floor is_at_most inverse ◌⊕◌ ◌⊗◌ fraction.negated /_rec₂ /_rec
returns-clause-hundred c = refl

pub returns-clause-correlated : goal.returns-clause-correlated
unfolding row first_row later_rows infinite_row thousandths row_at row_of compare_ℚ reported_of expanded_of digits_of_span known_degrees_of known_degrees greatest_share is_zero_ℚ power ten_to scaled_square at_place csv_on_literals records_read power_span digits opens_block ends_block line_read block_read row_read table_read refusal reading_of parsed sensitivity_of sensitivity is_in_cone evaluation_of span_of partial_of group_variance_span group_covariance_span mean joint total below outward quotient holds_zero lesser greater min_ℚ max_ℚ up down cut_off is_in_range value_of ◌+ℚ◌ ◌*ℚ◌ inv_ℚ neg_ℚ is_at_most_ℚ floor_ℚ floor is_at_most inverse ◌⊕◌ ◌⊗◌ fraction.negated /_rec₂ /_rec
returns-clause-correlated c = refl

pub returns-clause-impedance : goal.returns-clause-impedance
unfolding row first_row later_rows infinite_row thousandths row_at row_of compare_ℚ reported_of expanded_of digits_of_span known_degrees_of known_degrees greatest_share is_zero_ℚ power ten_to scaled_square at_place csv_on_literals records_read power_span digits opens_block ends_block line_read block_read row_read table_read refusal reading_of parsed sensitivity_of sensitivity is_in_cone evaluation_of span_of partial_of group_variance_span group_covariance_span mean joint total below outward quotient holds_zero lesser greater min_ℚ max_ℚ up down cut_off is_in_range value_of ◌+ℚ◌ ◌*ℚ◌ inv_ℚ neg_ℚ is_at_most_ℚ floor_ℚ floor is_at_most inverse ◌⊕◌ ◌⊗◌ fraction.negated /_rec₂ /_rec
returns-clause-impedance c = refl

pub returns-clause-unsettled : goal.returns-clause-unsettled
unfolding row first_row later_rows infinite_row thousandths row_at row_of compare_ℚ reported_of expanded_of digits_of_span known_degrees_of known_degrees greatest_share is_zero_ℚ power ten_to scaled_square at_place csv_on_literals records_read power_span digits opens_block ends_block line_read block_read row_read table_read refusal reading_of parsed sensitivity_of sensitivity is_in_cone evaluation_of span_of partial_of group_variance_span group_covariance_span mean joint total below outward quotient holds_zero lesser greater min_ℚ max_ℚ up down cut_off is_in_range value_of ◌+ℚ◌ ◌*ℚ◌ inv_ℚ neg_ℚ is_at_most_ℚ floor_ℚ floor is_at_most inverse ◌⊕◌ ◌⊗◌ fraction.negated /_rec₂ /_rec
returns-clause-unsettled c = refl

pub returns-clause-levels : goal.returns-clause-levels
unfolding row first_row later_rows infinite_row thousandths row_at row_of compare_ℚ reported_of expanded_of digits_of_span known_degrees_of known_degrees greatest_share is_zero_ℚ power ten_to scaled_square at_place csv_on_literals records_read power_span digits opens_block ends_block line_read block_read row_read table_read refusal reading_of parsed sensitivity_of sensitivity is_in_cone evaluation_of span_of partial_of group_variance_span group_covariance_span mean joint total below outward quotient holds_zero lesser greater min_ℚ max_ℚ up down cut_off is_in_range value_of ◌+ℚ◌ ◌*ℚ◌ inv_ℚ neg_ℚ is_at_most_ℚ floor_ℚ floor is_at_most inverse ◌⊕◌ ◌⊗◌ fraction.negated /_rec₂ /_rec
returns-clause-levels c = refl

pub returns-clause-equal_degrees : goal.returns-clause-equal_degrees
unfolding row first_row later_rows infinite_row thousandths row_at row_of compare_ℚ reported_of expanded_of digits_of_span known_degrees_of known_degrees greatest_share is_zero_ℚ power ten_to scaled_square at_place csv_on_literals records_read power_span digits opens_block ends_block line_read block_read row_read table_read refusal reading_of parsed sensitivity_of sensitivity is_in_cone evaluation_of span_of partial_of group_variance_span group_covariance_span mean joint total below outward quotient holds_zero lesser greater min_ℚ max_ℚ up down cut_off is_in_range value_of ◌+ℚ◌ ◌*ℚ◌ inv_ℚ neg_ℚ is_at_most_ℚ floor_ℚ floor is_at_most inverse ◌⊕◌ ◌⊗◌ fraction.negated /_rec₂ /_rec
returns-clause-equal_degrees c = refl

pub returns-clause-calibration : goal.returns-clause-calibration
unfolding row first_row later_rows infinite_row thousandths row_at row_of compare_ℚ reported_of expanded_of digits_of_span known_degrees_of known_degrees greatest_share is_zero_ℚ power ten_to scaled_square at_place csv_on_literals records_read power_span digits opens_block ends_block line_read block_read row_read table_read refusal reading_of parsed sensitivity_of sensitivity is_in_cone evaluation_of span_of partial_of group_variance_span group_covariance_span mean joint total below outward quotient holds_zero lesser greater min_ℚ max_ℚ up down cut_off is_in_range value_of ◌+ℚ◌ ◌*ℚ◌ inv_ℚ neg_ℚ is_at_most_ℚ floor_ℚ floor is_at_most inverse ◌⊕◌ ◌⊗◌ fraction.negated /_rec₂ /_rec
returns-clause-calibration c = refl
