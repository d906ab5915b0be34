use Rattle.exact_fraction.specs.Number.{◌<ℚ◌}
use Rattle.exact_law.specs.Rounding.{scaled_square}
use Rattle.plain_law.specs.Numbers.{number}
use Rattle.plain_law.specs.DigitViews.{HasUnit}
use Rattle.plain_law.proofs.digits.place_going_right.Given as goal

abbrev pub invariant-loop-step : goal.invariant-loop-step
invariant-loop-step l = record { unit : HasUnit l.place; high : number l.scaled <ℚ scaled_square 199 l.place.exponent }
