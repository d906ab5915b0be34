use Rattle.std.proofs.Common.{◌≡◌, drop}
use Rattle.value_cache.specs.Rules.{fault_among}
use Rattle.value_cache.specs.Slots.{cells_of}
use Rattle.value_cache.proofs.cache.Cache.first_fault.Given as goal

abbrev pub invariant-loop-id : goal.invariant-loop-id
invariant-loop-id l = fault_among (cells_of l.self) (drop l.id-index l.id-items) ≡ fault_among (cells_of l.self) l.id-items
