use Rattle.std.proofs.Common.{◌∙◌}
use Rattle.fixed_interval.proofs.Sides.{point_product, products_turned}
use Rattle.fixed_interval.proofs.corners.products.Goals as goal

pub returns-then-is_point-2 : goal.returns-then-is_point-2
returns-then-is_point-2 c =
    c.product.ensures
    ∙ rw (c.lo.ensures.value, c.lo-then-is_point-2.ensures.value)
    (point_product c.args.a.now c.args.b.now (c.is_point.ensures c.if-is_point.true) (c.is_point-then-is_point.ensures c.if-is_point-2.true))

pub returns-then-is_not_negative-2 : goal.returns-then-is_not_negative-2
returns-then-is_not_negative-2 c = c.products_rising-then-is_not_negative-2.ensures ∙ products_turned c.args.a.now c.args.b.now

pub returns-then-is_not_positive-2 : goal.returns-then-is_not_positive-2
returns-then-is_not_positive-2 c = c.products_falling-then-is_not_positive-2.ensures ∙ products_turned c.args.a.now c.args.b.now
