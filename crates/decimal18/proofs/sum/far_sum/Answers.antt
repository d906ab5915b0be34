use Rattle.std.proofs.Common.{◌∙◌, ap, arith, sym, subst, ◌<◌, ◌*◌, ◌^◌, ◌-◌, ◌≡◌, ◌+◌, ◌≤◌, inr}
use Rattle.std.proofs.Math.Nat.{mul-le-mul_right}
use Rattle.std.specs.Prelude.{Bool}
use Rattle.decimal18.specs.Digits.{rounded, signed, joined, IsPart}
use Rattle.decimal18.proofs.Sums.{far_value, far_cut, far_enough}
use Rattle.decimal18.proofs.sum.far_sum.Goals as goal

pub round-requires-clause-enough : goal.round-requires-clause-enough
round-requires-clause-enough c =
    record {
      reason = inr (inr (far_enough c.differ.result c.size.result c.size-2.result c.power_of_ten.result c.power_of_ten-unit.result c.joined-part.result.digits
          (c.places-2.result - (c.places.result + 18)) c.joined-part.result.lost (omega (arith, c.requires.positive, c.size.ensures.value)) c.size-2.ensures.digits
          c.power_of_ten.ensures.value c.power_of_ten-unit.ensures.value (omega arith) c.joined-part.ensures));
    }

pub returns : goal.returns
returns c =
    let lead = c.size.result * c.power_of_ten.result in
    let unit = c.power_of_ten-unit.result in
    let k = c.places-2.result - (c.places.result + 18) in
    let at : (c.args.a.places + 18) + k ≡ c.args.b.places = omega arith in
    let at_round : (c.places.result + 18) + k ≡ c.args.b.places = omega arith in
    let one : 1 * 10 ^ 18 ≤ c.size.result * 10 ^ 18 = mul-le-mul_right {m = 1} (10 ^ 18) (omega (arith, c.requires.positive, c.size.ensures.value)) in
    let below : c.size-2.result < lead =
    subst (λ n. c.size-2.result < c.size.result * n) (sym c.power_of_ten.ensures.value) (omega (arith, c.size-2.ensures.digits)) in
    let part : IsPart (joined _ (lead * unit) c.size-2.result) unit c.joined-part.result.digits c.joined-part.result.lost =
    subst (λ (t : Bool). IsPart (joined t (lead * unit) c.size-2.result) unit c.joined-part.result.digits c.joined-part.result.lost) c.differ.ensures c.joined-part.ensures in
    c.round.ensures _ (far_cut _ unit c.joined-part.result.digits (c.places.result + 18) c.args.b.places k c.joined-part.result.lost c.power_of_ten-unit.ensures.value at_round part)
    ∙ ap (rounded c.args.direction) (far_value c.args.a.coefficient c.args.b.coefficient c.is_negative-negative.result c.is_negative.result
    c.size.result c.size-2.result c.power_of_ten.result unit c.args.a.places c.args.b.places k
    (c.is_negative-negative.ensures ∙ ap (signed c.is_negative-negative.result) (sym c.size.ensures.value))
    (c.is_negative.ensures ∙ ap (signed c.is_negative.result) (sym c.size-2.ensures.value))
    c.power_of_ten.ensures.value c.power_of_ten-unit.ensures.value at below c.power_of_ten-unit.ensures.positive)
