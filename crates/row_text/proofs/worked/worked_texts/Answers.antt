use Rattle.std.proofs.Common.{refl}
use Rattle.std.specs.Fmt.{digits}
use Rattle.row_text.proofs.worked.worked_texts.Goals as goal

pub returns-clause-infinite : goal.returns-clause-infinite
unfolding digits
returns-clause-infinite c = refl

pub returns-clause-whole : goal.returns-clause-whole
unfolding digits
returns-clause-whole c = refl

pub returns-clause-relative : goal.returns-clause-relative
unfolding digits
returns-clause-relative c = refl

pub returns-clause-readings : goal.returns-clause-readings
unfolding digits
returns-clause-readings c = refl

pub returns-clause-correlation : goal.returns-clause-correlation
unfolding digits
returns-clause-correlation c = refl

pub returns-clause-table : goal.returns-clause-table
unfolding digits
returns-clause-table c = refl

pub returns-clause-one_column : goal.returns-clause-one_column
unfolding digits
returns-clause-one_column c = refl

pub returns-clause-limits : goal.returns-clause-limits
unfolding digits
returns-clause-limits c = refl

pub returns-clause-limit : goal.returns-clause-limit
unfolding digits
returns-clause-limit c = refl
