use Rattle.std.proofs.Common.{refl}
use Rattle.std.specs.Fmt.{digits}
use Rattle.script_lines.proofs.worked.worked_decisions.Goals as goal

pub returns-clause-pass : goal.returns-clause-pass
unfolding digits
returns-clause-pass c = refl

pub returns-clause-conditional_pass : goal.returns-clause-conditional_pass
unfolding digits
returns-clause-conditional_pass c = refl

pub returns-clause-conditional_fail : goal.returns-clause-conditional_fail
unfolding digits
returns-clause-conditional_fail c = refl

pub returns-clause-fail : goal.returns-clause-fail
unfolding digits
returns-clause-fail c = refl

pub returns-clause-guarded : goal.returns-clause-guarded
unfolding digits
returns-clause-guarded c = refl

pub returns-clause-inside : goal.returns-clause-inside
unfolding digits
returns-clause-inside c = refl

pub returns-clause-near : goal.returns-clause-near
unfolding digits
returns-clause-near c = refl
