use Rattle.std.proofs.Common.{refl}
use Rattle.plain_law.proofs.PlaceLemmas.{HasUnit-ones}
use Rattle.plain_law.proofs.place.Place.ones.Goals as goal

pub returns-clause-unit : goal.returns-clause-unit
returns-clause-unit c = HasUnit-ones _ refl c.whole.ensures
