use Rattle.std.proofs.Common.{refl}
use Rattle.std.specs.Fmt.{digits}
use Rattle.script_maker.specs.Scripts.{rounds}
use Rattle.script_maker.proofs.laws.worked_script.Goals as goal

pub returns : goal.returns
unfolding digits rounds
returns c = refl
