use Rattle.value_cache.proofs.Sound.{values_enclosed}
use Rattle.value_cache.proofs.laws.values_are_enclosed.Goals as goal

pub returns : goal.returns
returns g c = λ same qs h n s e. values_enclosed same qs h n s e
