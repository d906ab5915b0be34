use Rattle.std.proofs.Common.{◌∙◌, ap}
use Rattle.exact_fraction.specs.NumberLaws.{+ℚ_comm}
use Rattle.decimal18.specs.Bound.{value_of}
use Rattle.decimal18.specs.Digits.{rounded}
use Rattle.decimal18.proofs.sum.sum.Goals as goal

pub returns-else-places-2 : goal.returns-else-places-2
returns-else-places-2 c = c.sum_by_places-else-places-2.ensures ∙ ap (rounded c.args.direction) (+ℚ_comm (value_of c.args.b) (value_of c.args.a))
