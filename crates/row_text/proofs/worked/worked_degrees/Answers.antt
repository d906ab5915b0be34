use Rattle.std.proofs.Common.{refl}
use Rattle.decimal18.specs.Literal.{parsed}
use Rattle.row_text.specs.Reading.{row_read}
use Rattle.row_text.proofs.worked.worked_degrees.Goals as goal

pub returns-clause-infinite : goal.returns-clause-infinite
unfolding row_read parsed
returns-clause-infinite c = refl

pub returns-clause-dof : goal.returns-clause-dof
unfolding row_read parsed
returns-clause-dof c = refl

pub returns-clause-most : goal.returns-clause-most
unfolding row_read parsed
returns-clause-most c = refl

pub returns-clause-rel : goal.returns-clause-rel
unfolding row_read parsed
returns-clause-rel c = refl
