use Rattle.std.proofs.Common.{◌∙◌, ◌≡◌, ◌+◌, ap, sym, arith, to_z, of_z}
use Rattle.std.specs.Int.{w128}
use Rattle.std.proofs.lemmas.Int.{ints}
use Rattle.decimal18.specs.Digits.{rounded, signed}
use Rattle.decimal18.proofs.Quotients.{quotient_cut, ratio_at}
use Rattle.decimal18.proofs.quotient.scaled_ratio.Goals as goal

pub returns : goal.returns
returns c =
    let q = c.divide-quotient.result in
    let z = c.num-num.result in
    let e : to_z w128 (of_z w128 z) ≡ z = omega (arith, ints) in
    let signs : c.args.q.num ≡ signed c.is_negative.result c.unsigned_abs.result =
    sym c.num-num.ensures ∙ sym e ∙ c.is_negative.ensures ∙ ap (signed c.is_negative.result) (sym c.unsigned_abs.ensures.value) in
    c.round.ensures _ (quotient_cut c.unsigned_abs.result c.den.result 0 c.args.places (c.args.places + q.shift) q.shift q.digits c.den.ensures.positive q.lost
    (omega arith) c.divide-quotient.ensures.digits)
    ∙ ap (rounded c.args.direction) (ratio_at c.args.q.num c.is_negative.result c.unsigned_abs.result c.den.result c.args.q.den c.args.places
    c.den.ensures.positive c.args.q.positive signs c.den.ensures.value)
