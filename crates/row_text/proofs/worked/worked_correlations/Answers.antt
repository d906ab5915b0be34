use Rattle.std.proofs.Common.{refl}
use Rattle.decimal18.specs.Literal.{parsed}
use Rattle.row_text.specs.Reading.{row_read}
use Rattle.row_text.proofs.worked.worked_correlations.Goals as goal

pub returns-clause-row : goal.returns-clause-row
unfolding row_read parsed
returns-clause-row c = refl

pub returns-clause-least : goal.returns-clause-least
unfolding row_read parsed
returns-clause-least c = refl

pub returns-clause-most : goal.returns-clause-most
unfolding row_read parsed
returns-clause-most c = refl

pub returns-clause-above : goal.returns-clause-above
unfolding row_read parsed
returns-clause-above c = refl

pub returns-clause-below : goal.returns-clause-below
unfolding row_read parsed
returns-clause-below c = refl

pub returns-clause-word_first : goal.returns-clause-word_first
unfolding row_read parsed
returns-clause-word_first c = refl

pub returns-clause-number : goal.returns-clause-number
unfolding row_read parsed
returns-clause-number c = refl

pub returns-clause-no_number : goal.returns-clause-no_number
unfolding row_read parsed
returns-clause-no_number c = refl

pub returns-clause-name : goal.returns-clause-name
unfolding row_read parsed
returns-clause-name c = refl

pub returns-clause-other_name : goal.returns-clause-other_name
unfolding row_read parsed
returns-clause-other_name c = refl
