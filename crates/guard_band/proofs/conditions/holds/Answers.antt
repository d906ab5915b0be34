use Rattle.guard_band.proofs.Joined.{inside_is, guarded_is, near_is}
use Rattle.guard_band.proofs.conditions.holds.Goals as goal

pub returns-in-Guarded : goal.returns-in-Guarded
returns-in-Guarded c =
    rw c.in-Guarded.is (guarded_is c.args.band.now c.zero.result c.at_most-inside.result c.at_most.result c.both.result c.args.distance.now
    c.zero.ensures.span c.at_most-inside.ensures.answer c.at_most.ensures.answer c.both.ensures)

pub returns-in-Inside : goal.returns-in-Inside
returns-in-Inside c =
    rw c.in-Inside.is (inside_is c.zero.result c.at_most-inside.result c.args.distance.now c.zero.ensures.span c.at_most-inside.ensures.answer)

pub returns-in-Near : goal.returns-in-Near
returns-in-Near c =
    rw c.in-Near.is (near_is c.args.band.now c.zero.result c.at_most-inside.result c.at_most-in-Near.result c.either.result c.args.distance.now
    c.zero.ensures.span c.at_most-inside.ensures.answer c.at_most-in-Near.ensures.answer c.either.ensures)
