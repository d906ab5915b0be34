use Rattle.std.proofs.Common.{◌∙◌, ap}
use Rattle.exact_fraction.specs.Number.{◌+ℚ◌}
use Rattle.decimal18.specs.Bound.{value_of}
use Rattle.decimal18.specs.Digits.{rounded}
use Rattle.decimal18.proofs.Upward.{value-negated}
use Rattle.decimal18.proofs.sum.difference.Goals as goal

pub returns : goal.returns
returns c = c.sum.ensures ∙ ap (λ b. rounded c.args.direction (value_of c.args.a +ℚ value_of b)) c.negated.ensures
    ∙ ap (λ x. rounded c.args.direction (value_of c.args.a +ℚ x)) (value-negated c.args.b)
