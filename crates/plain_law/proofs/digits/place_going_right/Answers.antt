use Rattle.plain_law.specs.Numbers.{number}
use Rattle.plain_law.proofs.PlaceLemmas.{at_most_by, high_previous}
use Rattle.plain_law.proofs.digits.place_going_right.Goals as goal

pub returns-then-branch : goal.returns-then-branch
returns-then-branch c = record {
  unit = c.in_ok-place.ensures.unit;
  low = rw (← c.in_ok-scaled_square.ensures)
      (at_most_by (number c.in_ok-scaled_square.field-0) (number c.args.scaled) c.in_ok-at_most.field-0 c.in_ok-at_most.ensures (cc));
  high = high_previous (number c.args.scaled) c.loop-step.place c.in_ok-place.place c.in_ok-place.ensures.exponent c.loop-step.invariant.high;
}
