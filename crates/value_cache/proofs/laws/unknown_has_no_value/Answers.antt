use Rattle.value_cache.proofs.Sound.{no_value}
use Rattle.value_cache.proofs.laws.unknown_has_no_value.Goals as goal

pub returns : goal.returns
returns g c = λ same qs n s unknown. no_value same qs n s unknown
