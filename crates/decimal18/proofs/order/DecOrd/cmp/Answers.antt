use Rattle.std.proofs.Common.{◌∙◌, ap, sym}
use Rattle.std.specs.Ordering.{ordering_reverse}
use Rattle.decimal18.specs.Bound.{value_of}
use Rattle.decimal18.specs.OrderLaws.{compare_ℚ-total, order-by_value}
use Rattle.decimal18.proofs.Canonical.{one_canonical}
use Rattle.decimal18.proofs.order.DecOrd.cmp.Goals as goal

pub returns-then-places : goal.returns-then-places
returns-then-places c =
    c.compare_level.ensures
    ∙ sym (order-by_value c.args.self.now c.args.other.now (one_canonical c.args.self.now c.args.other.now c.places.ensures.canonical c.places-2.ensures.canonical))

pub returns-then-places-2 : goal.returns-then-places-2
returns-then-places-2 c =
    c.compare.ensures
    ∙ sym (order-by_value c.args.self.now c.args.other.now (one_canonical c.args.self.now c.args.other.now c.places.ensures.canonical c.places-2.ensures.canonical))

pub returns-else-places-2 : goal.returns-else-places-2
returns-else-places-2 c =
    c.reverse.ensures ∙ ap ordering_reverse c.compare-else-places-2.ensures
    ∙ sym (compare_ℚ-total.antisymm (value_of c.args.self.now) (value_of c.args.other.now))
    ∙ sym (order-by_value c.args.self.now c.args.other.now (one_canonical c.args.self.now c.args.other.now c.places.ensures.canonical c.places-2.ensures.canonical))
