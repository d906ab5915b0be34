use Rattle.std.proofs.Common.{refl}
use std.Quotient.{/_rec₂}
use Rattle.exact_fraction.specs.Fraction.{is_at_most}
use Rattle.exact_fraction.specs.Number.{is_at_most_ℚ}
use Rattle.decimal18.specs.Bound.{value_of}
use Rattle.decimal18.specs.Literal.{parsed}
use Rattle.row_text.specs.Reading.{row_read}
use Rattle.row_text.proofs.worked.worked_tolerances.Goals as goal

pub returns-clause-both : goal.returns-clause-both
unfolding row_read parsed value_of is_at_most_ℚ /_rec₂ is_at_most
returns-clause-both c = refl

pub returns-clause-lower : goal.returns-clause-lower
unfolding row_read parsed value_of is_at_most_ℚ /_rec₂ is_at_most
returns-clause-lower c = refl

pub returns-clause-upper : goal.returns-clause-upper
unfolding row_read parsed value_of is_at_most_ℚ /_rec₂ is_at_most
returns-clause-upper c = refl

pub returns-clause-equal : goal.returns-clause-equal
unfolding row_read parsed value_of is_at_most_ℚ /_rec₂ is_at_most
returns-clause-equal c = refl

pub returns-clause-no_limit : goal.returns-clause-no_limit
unfolding row_read parsed value_of is_at_most_ℚ /_rec₂ is_at_most
returns-clause-no_limit c = refl

pub returns-clause-no_guard : goal.returns-clause-no_guard
unfolding row_read parsed value_of is_at_most_ℚ /_rec₂ is_at_most
returns-clause-no_guard c = refl

pub returns-clause-other_order : goal.returns-clause-other_order
unfolding row_read parsed value_of is_at_most_ℚ /_rec₂ is_at_most
returns-clause-other_order c = refl

pub returns-clause-other_word : goal.returns-clause-other_word
unfolding row_read parsed value_of is_at_most_ℚ /_rec₂ is_at_most
returns-clause-other_word c = refl

pub returns-clause-word_more : goal.returns-clause-word_more
unfolding row_read parsed value_of is_at_most_ℚ /_rec₂ is_at_most
returns-clause-word_more c = refl

pub returns-clause-number : goal.returns-clause-number
unfolding row_read parsed value_of is_at_most_ℚ /_rec₂ is_at_most
returns-clause-number c = refl

pub returns-clause-name : goal.returns-clause-name
unfolding row_read parsed value_of is_at_most_ℚ /_rec₂ is_at_most
returns-clause-name c = refl

pub returns-clause-above : goal.returns-clause-above
unfolding row_read parsed value_of is_at_most_ℚ /_rec₂ is_at_most
returns-clause-above c = refl

pub returns-clause-below : goal.returns-clause-below
unfolding row_read parsed value_of is_at_most_ℚ /_rec₂ is_at_most
returns-clause-below c = refl

pub returns-clause-decimals : goal.returns-clause-decimals
unfolding row_read parsed value_of is_at_most_ℚ /_rec₂ is_at_most
returns-clause-decimals c = refl

pub returns-clause-word_first : goal.returns-clause-word_first
unfolding row_read parsed value_of is_at_most_ℚ /_rec₂ is_at_most
returns-clause-word_first c = refl

pub returns-clause-guard_first : goal.returns-clause-guard_first
unfolding row_read parsed value_of is_at_most_ℚ /_rec₂ is_at_most
returns-clause-guard_first c = refl

pub returns-clause-order : goal.returns-clause-order
unfolding row_read parsed value_of is_at_most_ℚ /_rec₂ is_at_most
returns-clause-order c = refl
