use Rattle.std.proofs.Common.{refl}
use Rattle.decimal18.specs.Literal.{parsed}
use Rattle.row_text.specs.Reading.{row_read}
use Rattle.row_text.proofs.worked.worked_refusals.Goals as goal

pub returns-clause-word_first : goal.returns-clause-word_first
unfolding row_read parsed
returns-clause-word_first c = refl

pub returns-clause-level_first : goal.returns-clause-level_first
unfolding row_read parsed
returns-clause-level_first c = refl

pub returns-clause-negative_first : goal.returns-clause-negative_first
unfolding row_read parsed
returns-clause-negative_first c = refl

pub returns-clause-zero_k : goal.returns-clause-zero_k
unfolding row_read parsed
returns-clause-zero_k c = refl

pub returns-clause-beta : goal.returns-clause-beta
unfolding row_read parsed
returns-clause-beta c = refl

pub returns-clause-level : goal.returns-clause-level
unfolding row_read parsed
returns-clause-level c = refl

pub returns-clause-nothing : goal.returns-clause-nothing
unfolding row_read parsed
returns-clause-nothing c = refl

pub returns-clause-above : goal.returns-clause-above
unfolding row_read parsed
returns-clause-above c = refl

pub returns-clause-long : goal.returns-clause-long
unfolding row_read parsed
returns-clause-long c = refl

pub returns-clause-percent : goal.returns-clause-percent
unfolding row_read parsed
returns-clause-percent c = refl

pub returns-clause-long_percent : goal.returns-clause-long_percent
unfolding row_read parsed
returns-clause-long_percent c = refl
