use Rattle.decimal18.proofs.Zeros.{power_positive, few_after}
use Rattle.decimal18.proofs.magnitude.Magnitude.shortened.Goals as goal

pub nonzero_rem-self : goal.nonzero_rem-self
nonzero_rem-self c = power_positive _ _ c.requires.power

pub returns-then-self-power-eq0-clause-few : goal.returns-then-self-power-eq0-clause-few
returns-then-self-power-eq0-clause-few c =
    few_after c.args.self.digits c.args.self.places c.args.zeros c.args.power c.requires.power c.if-zeros-self.true c.if-self-power-eq0.true
