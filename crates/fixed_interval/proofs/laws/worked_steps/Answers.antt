use Rattle.std.proofs.Common.{refl}
use Rattle.fixed_interval.specs.Powers.{power_steps}
use Rattle.fixed_interval.proofs.laws.worked_steps.Goals as goal

pub returns : goal.returns
unfolding power_steps
returns c = record {
  first = refl;
  square = refl;
  ninth = refl;
  inverse = refl;
  inverse_of_ninth = refl;
}
