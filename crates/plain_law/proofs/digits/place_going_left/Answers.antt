use Rattle.plain_law.specs.Numbers.{number}
use Rattle.plain_law.proofs.PlaceLemmas.{at_most_by, low_next}
use Rattle.plain_law.proofs.digits.place_going_left.Goals as goal

pub loop-step-preserved : goal.loop-step-preserved
loop-step-preserved c = record {
  unit = c.in_ok-place.ensures.unit;
  low = low_next (number c.args.scaled) c.loop-step.place c.in_ok-place.place c.in_ok-place.ensures.exponent
      (rw (← c.in_ok-scaled_square.ensures)
      (at_most_by (number c.in_ok-scaled_square.field-0) (number c.args.scaled) c.in_ok-at_most.field-0 c.in_ok-at_most.ensures (cc)));
}
