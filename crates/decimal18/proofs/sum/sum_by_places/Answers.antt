use Rattle.std.proofs.Common.{◌∙◌, ap, arith, ◌≡◌, sym, ◌-◌}
use Rattle.std.specs.Prelude.{unsigned_abs}
use Rattle.decimal18.specs.Digits.{rounded, signed}
use Rattle.decimal18.proofs.CutOff.{exact_cut_at}
use Rattle.decimal18.proofs.Sums.{zero_sum}
use Rattle.decimal18.proofs.sum.sum_by_places.Goals as goal

pub returns-then-size-eq0 : goal.returns-then-size-eq0
returns-then-size-eq0 c =
    let zero : unsigned_abs c.args.a.coefficient ≡ 0 = omega (arith, c.size.ensures.value, c.if-size-eq0.true) in
    c.round.ensures _ (exact_cut_at c.size-then-size-eq0.result c.args.b.places _ c.places-then-size-eq0.ensures.value)
    ∙ ap (rounded c.args.direction) (zero_sum c.args.a.coefficient c.args.b.coefficient c.args.a.places c.args.b.places (c.args.b.places - c.args.a.places) c.is_negative.result
    c.size-then-size-eq0.result zero (c.is_negative.ensures ∙ ap (signed c.is_negative.result) (sym c.size-then-size-eq0.ensures.value)) (omega (arith, c.requires)))
