use Rattle.plain_law.proofs.Jets.{quotient_jet}
use Rattle.plain_law.proofs.jet.quotient_of.Goals as goal

pub returns : goal.returns
returns c v d known f g h i =
    quotient_jet v d known f g c.args.a c.args.b _ c.in_ok-shared.shared c.in_ok-minus.field-0 h i c.in_ok-value.ensures.divisor
    c.in_ok-value.ensures.quotient c.in_ok-shared.ensures c.in_ok-minus.ensures c.in_ok-slope.ensures.quotient
