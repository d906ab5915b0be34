use Rattle.std.proofs.Common.{refl}
use Rattle.decimal18.specs.Literal.{parsed}
use Rattle.row_text.specs.Reading.{row_read}
use Rattle.row_text.proofs.worked.worked_shapes.Goals as goal

pub returns-clause-exact : goal.returns-clause-exact
unfolding row_read parsed
returns-clause-exact c = refl

pub returns-clause-std : goal.returns-clause-std
unfolding row_read parsed
returns-clause-std c = refl

pub returns-clause-exp : goal.returns-clause-exp
unfolding row_read parsed
returns-clause-exp c = refl

pub returns-clause-norm_95 : goal.returns-clause-norm_95
unfolding row_read parsed
returns-clause-norm_95 c = refl

pub returns-clause-rect : goal.returns-clause-rect
unfolding row_read parsed
returns-clause-rect c = refl

pub returns-clause-tri : goal.returns-clause-tri
unfolding row_read parsed
returns-clause-tri c = refl

pub returns-clause-trap : goal.returns-clause-trap
unfolding row_read parsed
returns-clause-trap c = refl

pub returns-clause-arcsine : goal.returns-clause-arcsine
unfolding row_read parsed
returns-clause-arcsine c = refl

pub returns-clause-norm_90 : goal.returns-clause-norm_90
unfolding row_read parsed
returns-clause-norm_90 c = refl

pub returns-clause-norm_99 : goal.returns-clause-norm_99
unfolding row_read parsed
returns-clause-norm_99 c = refl
