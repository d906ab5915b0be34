use Rattle.std.proofs.Common.{◌∙◌, ap, arith, sym}
use Rattle.decimal18.specs.Digits.{rounded, signed}
use Rattle.decimal18.proofs.CutOff.{exact_cut_at}
use Rattle.decimal18.proofs.Sums.{near_sum}
use Rattle.decimal18.proofs.sum.near_sum.Goals as goal

pub returns : goal.returns
returns c =
    c.round.ensures _ (exact_cut_at c.signed_sum-sum.result.size c.args.b.places _ c.places-places.ensures.value)
    ∙ ap (rounded c.args.direction) (near_sum c.args.a.coefficient c.args.b.coefficient c.is_negative.result c.is_negative-2.result
    c.signed_sum-sum.result.negative c.size.result c.size-2.result _ _ c.args.a.places c.args.b.places _
    (c.is_negative.ensures ∙ ap (signed c.is_negative.result) (sym c.size.ensures.value))
    (c.is_negative-2.ensures ∙ ap (signed c.is_negative-2.result) (sym c.size-2.ensures.value))
    c.short_power_of_ten-power.ensures.value (omega arith) c.signed_sum-sum.ensures.sum)
