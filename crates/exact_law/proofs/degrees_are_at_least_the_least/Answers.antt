use Rattle.exact_law.proofs.Welch.{degrees-above}
use Rattle.exact_law.proofs.degrees_are_at_least_the_least.Goals as goal

pub returns : goal.returns
returns g c = degrees-above
