use Rattle.std.proofs.Common.{rules}
use Rattle.plain_law.proofs.PlaceLemmas.{HasUnit-next}
use Rattle.plain_law.proofs.place.Place.next.Goals as goal

pub returns-clause-unit : goal.returns-clause-unit
returns-clause-unit c =
    HasUnit-next c.args.self _ c.requires.unit (search rules) (rw (← c.whole.ensures) c.in_ok-times.ensures)
