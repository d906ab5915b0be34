use Rattle.std.proofs.Common.{refl}
use Rattle.std.specs.Fmt.{digits}
use std.Quotient.{/_rec, /_rec₂}
use Rattle.exact_fraction.specs.Fraction as fraction
use Rattle.exact_fraction.specs.Fraction.{◌⊕◌, ◌⊗◌, inverse, floor, is_at_most}
use Rattle.exact_fraction.specs.Number.{◌+ℚ◌, ◌*ℚ◌, inv_ℚ, neg_ℚ, is_at_most_ℚ, floor_ℚ, min_ℚ, max_ℚ}
use Rattle.decimal18.specs.Bound.{value_of}
use Rattle.decimal18.specs.Down.{is_in_range, cut_off, down, up}
use Rattle.decimal18.specs.Literal.{parsed}
use Rattle.fixed_interval.specs.Interval.{outward}
use Rattle.fixed_interval.specs.Rules.{quotient, holds_zero}
use Rattle.formula_ast.specs.Reading.{reading_of}
use Rattle.formula_box.specs.Values.{span_of}
use Rattle.formula_box.specs.Slopes.{partial_of}
use Rattle.row_text.specs.Reading.{row_read}
use Rattle.value_cache.specs.Evaluations.{evaluation_of}
use Rattle.adjoint_pass.specs.Sweep.{is_in_cone, sensitivity}
use Rattle.adjoint_pass.specs.Sensitivities.{sensitivity_of}
use Rattle.script_lines.specs.Blocks.{opens_block, ends_block}
use Rattle.script_lines.specs.Commands.{line_read}
use Rattle.gum_cli.proofs.worked.worked_sensitivities.Goals as goal

pub returns-clause-shared : goal.returns-clause-shared
unfolding digits opens_block ends_block line_read row_read reading_of parsed sensitivity_of sensitivity is_in_cone evaluation_of span_of partial_of outward quotient holds_zero min_ℚ max_ℚ up down cut_off is_in_range value_of ◌+ℚ◌ ◌*ℚ◌ inv_ℚ neg_ℚ is_at_most_ℚ floor_ℚ floor is_at_most inverse ◌⊕◌ ◌⊗◌ fraction.negated /_rec₂ /_rec
returns-clause-shared c = refl

pub returns-clause-third : goal.returns-clause-third
unfolding digits opens_block ends_block line_read row_read reading_of parsed sensitivity_of sensitivity is_in_cone evaluation_of span_of partial_of outward quotient holds_zero min_ℚ max_ℚ up down cut_off is_in_range value_of ◌+ℚ◌ ◌*ℚ◌ inv_ℚ neg_ℚ is_at_most_ℚ floor_ℚ floor is_at_most inverse ◌⊕◌ ◌⊗◌ fraction.negated /_rec₂ /_rec
returns-clause-third c = refl

pub returns-clause-overflow : goal.returns-clause-overflow
unfolding digits opens_block ends_block line_read row_read reading_of parsed sensitivity_of sensitivity is_in_cone evaluation_of span_of partial_of outward quotient holds_zero min_ℚ max_ℚ up down cut_off is_in_range value_of ◌+ℚ◌ ◌*ℚ◌ inv_ℚ neg_ℚ is_at_most_ℚ floor_ℚ floor is_at_most inverse ◌⊕◌ ◌⊗◌ fraction.negated /_rec₂ /_rec
returns-clause-overflow c = refl

pub returns-clause-elsewhere : goal.returns-clause-elsewhere
unfolding digits opens_block ends_block line_read row_read reading_of parsed sensitivity_of sensitivity is_in_cone evaluation_of span_of partial_of outward quotient holds_zero min_ℚ max_ℚ up down cut_off is_in_range value_of ◌+ℚ◌ ◌*ℚ◌ inv_ℚ neg_ℚ is_at_most_ℚ floor_ℚ floor is_at_most inverse ◌⊕◌ ◌⊗◌ fraction.negated /_rec₂ /_rec
returns-clause-elsewhere c = refl

pub returns-clause-value_fault : goal.returns-clause-value_fault
unfolding digits opens_block ends_block line_read row_read reading_of parsed sensitivity_of sensitivity is_in_cone evaluation_of span_of partial_of outward quotient holds_zero min_ℚ max_ℚ up down cut_off is_in_range value_of ◌+ℚ◌ ◌*ℚ◌ inv_ℚ neg_ℚ is_at_most_ℚ floor_ℚ floor is_at_most inverse ◌⊕◌ ◌⊗◌ fraction.negated /_rec₂ /_rec
returns-clause-value_fault c = refl

pub returns-clause-names : goal.returns-clause-names
unfolding digits opens_block ends_block line_read row_read reading_of parsed sensitivity_of sensitivity is_in_cone evaluation_of span_of partial_of outward quotient holds_zero min_ℚ max_ℚ up down cut_off is_in_range value_of ◌+ℚ◌ ◌*ℚ◌ inv_ℚ neg_ℚ is_at_most_ℚ floor_ℚ floor is_at_most inverse ◌⊕◌ ◌⊗◌ fraction.negated /_rec₂ /_rec
returns-clause-names c = refl
