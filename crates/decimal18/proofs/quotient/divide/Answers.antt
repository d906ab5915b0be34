use Rattle.std.proofs.Common.{arith, refl}
use Rattle.decimal18.proofs.Quotients.{step_split, step_below}
use Rattle.decimal18.proofs.quotient.divide.Goals as goal

pub loop-rest-preserved : goal.loop-rest-preserved
loop-rest-preserved c =
    let held = c.loop-rest.invariant in
    record {
      split = step_split c.args.size c.loop-rest.shift c.loop-rest.digits c.args.divisor c.loop-rest.rest _ _ held.split refl refl;
      below = step_below c.args.divisor _ _ c.requires.positive refl;
      near = omega arith;
      none = omega (arith, held.none);
      small = held.small;
    }
