use Rattle.plain_law.proofs.Jets.{product_jet}
use Rattle.plain_law.proofs.jet.product.Goals as goal

pub returns : goal.returns
returns c v d known f g h i =
    product_jet v d known f g c.args.a c.args.b _ c.in_ok-left.left c.in_ok-right.right h i c.in_ok-value.ensures c.in_ok-left.ensures
    c.in_ok-right.ensures c.in_ok-slope.ensures
