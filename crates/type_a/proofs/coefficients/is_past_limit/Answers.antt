use Rattle.std.specs.Prelude.{nat_le}
use Rattle.std.proofs.Common.{◌∙◌, ap, arith}
use Rattle.type_a.proofs.Sizes.{past_limit_far, past_limit_near}
use Rattle.type_a.proofs.coefficients.is_past_limit.Goals as goal

pub returns-then-exponent-gt15 : goal.returns-then-exponent-gt15
returns-then-exponent-gt15 c = past_limit_far c.args.size c.args.exponent c.if-exponent-gt15.true

pub returns : goal.returns
returns c = ap (λ n. nat_le n c.args.size) c.power_of_ten.ensures.value ∙ past_limit_near c.args.size c.args.exponent (omega (arith, c.if-exponent-gt15.false))
