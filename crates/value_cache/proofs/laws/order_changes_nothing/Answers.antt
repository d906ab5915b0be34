use Rattle.value_cache.proofs.Evaluable.{evaluations_same}
use Rattle.value_cache.proofs.laws.order_changes_nothing.Goals as goal

pub returns : goal.returns
returns g c = λ same qs others len bodies n. evaluations_same same qs others len bodies n
