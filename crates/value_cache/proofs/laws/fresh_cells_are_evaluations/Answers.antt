use Rattle.value_cache.proofs.Orders.{right-evaluation}
use Rattle.value_cache.proofs.laws.fresh_cells_are_evaluations.Goals as goal

pub returns : goal.returns
returns c = λ nodes bodies cells graph right n cell is. right-evaluation nodes bodies cells graph right n cell is
