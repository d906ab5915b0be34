use Rattle.std.proofs.Common.{refl}
use Rattle.row_text.specs.Reading.{row_read}
use Rattle.row_text.proofs.worked.worked_other_kinds.Goals as goal

pub returns-clause-table : goal.returns-clause-table
unfolding row_read
returns-clause-table c = refl

pub returns-clause-other : goal.returns-clause-other
unfolding row_read
returns-clause-other c = refl
