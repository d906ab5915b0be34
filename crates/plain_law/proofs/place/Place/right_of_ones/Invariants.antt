use Rattle.std.proofs.Common.{◌≡◌}
use Rattle.std.specs.Prelude.{neg_ℤ, pos}
use Rattle.plain_law.specs.DigitViews.{HasUnit}
use Rattle.plain_law.proofs.place.Place.right_of_ones.Given as goal

abbrev pub invariant-loop-step : goal.invariant-loop-step
invariant-loop-step l = (l.place.exponent ≡ neg_ℤ (pos l._step)) × HasUnit l.place
