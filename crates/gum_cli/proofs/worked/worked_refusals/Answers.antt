use Rattle.std.proofs.Common.{refl}
use Rattle.std.specs.Fmt.{digits}
use Rattle.csv.proofs.OnLiterals.{csv_on_literals}
use std.Quotient.{/_rec, /_rec₂}
use Rattle.exact_fraction.specs.Fraction as fraction
use Rattle.exact_fraction.specs.Fraction.{◌⊕◌, ◌⊗◌, inverse, floor, is_at_most}
use Rattle.exact_fraction.specs.Number.{◌+ℚ◌, ◌*ℚ◌, inv_ℚ, neg_ℚ, is_at_most_ℚ, floor_ℚ, min_ℚ, max_ℚ}
use Rattle.decimal18.specs.Bound.{value_of}
use Rattle.decimal18.specs.Down.{is_in_range, cut_off, down, up}
use Rattle.decimal18.specs.Literal.{parsed}
use Rattle.fixed_interval.specs.Interval.{outward}
use Rattle.fixed_interval.specs.Rules.{quotient, holds_zero}
use Rattle.fixed_interval.specs.Powers.{power_span}
use Rattle.formula_ast.specs.Reading.{reading_of}
use Rattle.formula_box.specs.Values.{span_of}
use Rattle.table_records.specs.Tables.{records_read}
use Rattle.row_text.specs.Reading.{row_read}
use Rattle.value_cache.specs.Evaluations.{evaluation_of}
use Rattle.script_lines.specs.Blocks.{opens_block, ends_block}
use Rattle.script_lines.specs.Commands.{line_read, block_read}
use Rattle.gum_cli.proofs.worked.worked_refusals.Goals as goal

pub returns-clause-number_range : goal.returns-clause-number_range
unfolding digits opens_block ends_block line_read row_read reading_of parsed span_of evaluation_of outward quotient power_span holds_zero min_ℚ max_ℚ up down cut_off is_in_range value_of ◌+ℚ◌ ◌*ℚ◌ inv_ℚ neg_ℚ is_at_most_ℚ floor_ℚ floor is_at_most inverse ◌⊕◌ ◌⊗◌ fraction.negated /_rec₂ /_rec
returns-clause-number_range c = refl

pub returns-clause-unknown_function : goal.returns-clause-unknown_function
unfolding digits opens_block ends_block line_read row_read reading_of parsed span_of evaluation_of outward quotient power_span holds_zero min_ℚ max_ℚ up down cut_off is_in_range value_of ◌+ℚ◌ ◌*ℚ◌ inv_ℚ neg_ℚ is_at_most_ℚ floor_ℚ floor is_at_most inverse ◌⊕◌ ◌⊗◌ fraction.negated /_rec₂ /_rec
returns-clause-unknown_function c = refl

pub returns-clause-syntax : goal.returns-clause-syntax
unfolding digits opens_block ends_block line_read row_read reading_of parsed span_of evaluation_of outward quotient power_span holds_zero min_ℚ max_ℚ up down cut_off is_in_range value_of ◌+ℚ◌ ◌*ℚ◌ inv_ℚ neg_ℚ is_at_most_ℚ floor_ℚ floor is_at_most inverse ◌⊕◌ ◌⊗◌ fraction.negated /_rec₂ /_rec
returns-clause-syntax c = refl

pub returns-clause-not_number : goal.returns-clause-not_number
unfolding digits opens_block ends_block line_read row_read reading_of parsed span_of evaluation_of outward quotient power_span holds_zero min_ℚ max_ℚ up down cut_off is_in_range value_of ◌+ℚ◌ ◌*ℚ◌ inv_ℚ neg_ℚ is_at_most_ℚ floor_ℚ floor is_at_most inverse ◌⊕◌ ◌⊗◌ fraction.negated /_rec₂ /_rec
returns-clause-not_number c = refl

pub returns-clause-rules : goal.returns-clause-rules
unfolding digits opens_block ends_block line_read row_read reading_of parsed span_of evaluation_of outward quotient power_span holds_zero min_ℚ max_ℚ up down cut_off is_in_range value_of ◌+ℚ◌ ◌*ℚ◌ inv_ℚ neg_ℚ is_at_most_ℚ floor_ℚ floor is_at_most inverse ◌⊕◌ ◌⊗◌ fraction.negated /_rec₂ /_rec
returns-clause-rules c = refl

pub returns-clause-negative : goal.returns-clause-negative
unfolding digits opens_block ends_block line_read row_read reading_of parsed span_of evaluation_of outward quotient power_span holds_zero min_ℚ max_ℚ up down cut_off is_in_range value_of ◌+ℚ◌ ◌*ℚ◌ inv_ℚ neg_ℚ is_at_most_ℚ floor_ℚ floor is_at_most inverse ◌⊕◌ ◌⊗◌ fraction.negated /_rec₂ /_rec
returns-clause-negative c = refl

pub returns-clause-block : goal.returns-clause-block
unfolding csv_on_literals records_read block_read digits opens_block ends_block line_read row_read reading_of parsed span_of evaluation_of outward quotient power_span holds_zero min_ℚ max_ℚ up down cut_off is_in_range value_of ◌+ℚ◌ ◌*ℚ◌ inv_ℚ neg_ℚ is_at_most_ℚ floor_ℚ floor is_at_most inverse ◌⊕◌ ◌⊗◌ fraction.negated /_rec₂ /_rec
returns-clause-block c = refl

pub returns-clause-open_table : goal.returns-clause-open_table
unfolding digits opens_block ends_block line_read row_read reading_of parsed span_of evaluation_of outward quotient power_span holds_zero min_ℚ max_ℚ up down cut_off is_in_range value_of ◌+ℚ◌ ◌*ℚ◌ inv_ℚ neg_ℚ is_at_most_ℚ floor_ℚ floor is_at_most inverse ◌⊕◌ ◌⊗◌ fraction.negated /_rec₂ /_rec
returns-clause-open_table c = refl

pub returns-clause-early_block : goal.returns-clause-early_block
unfolding digits opens_block ends_block line_read row_read reading_of parsed span_of evaluation_of outward quotient power_span holds_zero min_ℚ max_ℚ up down cut_off is_in_range value_of ◌+ℚ◌ ◌*ℚ◌ inv_ℚ neg_ℚ is_at_most_ℚ floor_ℚ floor is_at_most inverse ◌⊕◌ ◌⊗◌ fraction.negated /_rec₂ /_rec
returns-clause-early_block c = refl

pub returns-clause-shapes : goal.returns-clause-shapes
unfolding digits opens_block ends_block line_read row_read reading_of parsed span_of evaluation_of outward quotient power_span holds_zero min_ℚ max_ℚ up down cut_off is_in_range value_of ◌+ℚ◌ ◌*ℚ◌ inv_ℚ neg_ℚ is_at_most_ℚ floor_ℚ floor is_at_most inverse ◌⊕◌ ◌⊗◌ fraction.negated /_rec₂ /_rec
returns-clause-shapes c = refl

pub returns-clause-degrees : goal.returns-clause-degrees
unfolding digits opens_block ends_block line_read row_read reading_of parsed span_of evaluation_of outward quotient power_span holds_zero min_ℚ max_ℚ up down cut_off is_in_range value_of ◌+ℚ◌ ◌*ℚ◌ inv_ℚ neg_ℚ is_at_most_ℚ floor_ℚ floor is_at_most inverse ◌⊕◌ ◌⊗◌ fraction.negated /_rec₂ /_rec
returns-clause-degrees c = refl
