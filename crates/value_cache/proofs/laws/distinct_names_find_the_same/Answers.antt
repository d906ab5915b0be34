use Rattle.value_cache.proofs.Names.{find-distinct_keys}
use Rattle.value_cache.proofs.laws.distinct_names_find_the_same.Goals as goal

pub returns : goal.returns
returns g c = λ p key ns. find-distinct_keys p key ns
