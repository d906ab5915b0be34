use Rattle.std.proofs.Common.{◌≡◌}
use Rattle.std.specs.Prelude.{pos}
use Rattle.plain_law.specs.DigitViews.{HasUnit}
use Rattle.plain_law.proofs.place.Place.left_of_ones.Given as goal

abbrev pub invariant-loop-step : goal.invariant-loop-step
invariant-loop-step l = (l.place.exponent ≡ pos l._step) × HasUnit l.place
