use Rattle.value_cache.specs.Slots.{bodies_of, cells_of}
use Rattle.value_cache.proofs.Filling.{IsFilled}
use Rattle.value_cache.proofs.cache.Cache.fill.Given as goal

abbrev pub invariant-loop-at : goal.invariant-loop-at
invariant-loop-at g l = IsFilled (bodies_of l.fn.self) (cells_of l.fn.self) l.fn.list l.fn.steps l.at (bodies_of l.self) (cells_of l.self) l.steps
