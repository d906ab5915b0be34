use Rattle.std.proofs.Common.{arith}
use Rattle.std.proofs.lemmas.Int.{to_z-of_z}
use Rattle.fixed_interval.proofs.ExactSpans.{sum_value}
use Rattle.fixed_interval.proofs.exact.exact_sum.Goals as goal

pub returns-clause-value : goal.returns-clause-value
returns-clause-value c =
    sum_value c.args.a c.args.b _ _ c.new.result (omega (arith, c.places.ensures.value, c.places-2.ensures.value, c.if-places.false)) (grind (arith, to_z-of_z, c.coefficient.ensures.value, c.coefficient-2.ensures.value)) c.places-3.ensures.value
    c.new.ensures.value
