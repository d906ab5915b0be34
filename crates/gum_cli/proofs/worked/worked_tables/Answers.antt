use Rattle.std.proofs.Common.{refl}
use Rattle.std.specs.Fmt.{digits}
use Rattle.csv.proofs.OnLiterals.{csv_on_literals}
use std.Quotient.{/_rec, /_rec₂}
use Rattle.exact_fraction.specs.Fraction as fraction
use Rattle.exact_fraction.specs.Fraction.{◌⊕◌, ◌⊗◌, inverse, floor, is_at_most}
use Rattle.exact_fraction.specs.Sums.{total, below}
use Rattle.exact_law.specs.Law.{mean}
use Rattle.type_a.specs.Tables.{refusal}
use Rattle.exact_fraction.specs.Number.{◌+ℚ◌, ◌*ℚ◌, inv_ℚ, neg_ℚ, is_at_most_ℚ, floor_ℚ, min_ℚ, max_ℚ}
use Rattle.decimal18.specs.Bound.{value_of}
use Rattle.decimal18.specs.Down.{is_in_range, cut_off, down, up}
use Rattle.decimal18.specs.Literal.{parsed}
use Rattle.fixed_interval.specs.Interval.{outward}
use Rattle.fixed_interval.specs.Rules.{quotient, holds_zero}
use Rattle.fixed_interval.specs.Powers.{power_span}
use Rattle.formula_ast.specs.Reading.{reading_of}
use Rattle.formula_box.specs.Values.{span_of}
use Rattle.table_records.specs.Tables.{records_read}
use Rattle.row_text.specs.Reading.{row_read}
use Rattle.value_cache.specs.Evaluations.{evaluation_of}
use Rattle.script_lines.specs.Blocks.{opens_block, ends_block}
use Rattle.script_lines.specs.Commands.{line_read, block_read}
use Rattle.gum_cli.proofs.worked.worked_tables.Goals as goal

pub returns-clause-means : goal.returns-clause-means
unfolding csv_on_literals records_read block_read digits opens_block ends_block line_read row_read reading_of parsed refusal span_of evaluation_of outward quotient power_span holds_zero total below mean min_ℚ max_ℚ up down cut_off is_in_range value_of ◌+ℚ◌ ◌*ℚ◌ inv_ℚ neg_ℚ is_at_most_ℚ floor_ℚ floor is_at_most inverse ◌⊕◌ ◌⊗◌ fraction.negated /_rec₂ /_rec
returns-clause-means c = refl

pub returns-clause-dumped : goal.returns-clause-dumped
unfolding csv_on_literals records_read block_read digits opens_block ends_block line_read row_read reading_of parsed refusal span_of evaluation_of outward quotient power_span holds_zero total below mean min_ℚ max_ℚ up down cut_off is_in_range value_of ◌+ℚ◌ ◌*ℚ◌ inv_ℚ neg_ℚ is_at_most_ℚ floor_ℚ floor is_at_most inverse ◌⊕◌ ◌⊗◌ fraction.negated /_rec₂ /_rec
returns-clause-dumped c = refl

pub returns-clause-refused : goal.returns-clause-refused
unfolding csv_on_literals records_read block_read digits opens_block ends_block line_read row_read reading_of parsed refusal span_of evaluation_of outward quotient power_span holds_zero total below mean min_ℚ max_ℚ up down cut_off is_in_range value_of ◌+ℚ◌ ◌*ℚ◌ inv_ℚ neg_ℚ is_at_most_ℚ floor_ℚ floor is_at_most inverse ◌⊕◌ ◌⊗◌ fraction.negated /_rec₂ /_rec
returns-clause-refused c = refl

pub returns-clause-used : goal.returns-clause-used
unfolding csv_on_literals records_read block_read digits opens_block ends_block line_read row_read reading_of parsed refusal span_of evaluation_of outward quotient power_span holds_zero total below mean min_ℚ max_ℚ up down cut_off is_in_range value_of ◌+ℚ◌ ◌*ℚ◌ inv_ℚ neg_ℚ is_at_most_ℚ floor_ℚ floor is_at_most inverse ◌⊕◌ ◌⊗◌ fraction.negated /_rec₂ /_rec
returns-clause-used c = refl
