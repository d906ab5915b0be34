use Rattle.std.proofs.Common.{◌≡◌, drop}
use Rattle.value_cache.specs.Slots.{id_of}
use Rattle.value_cache.proofs.through.number_of.Given as goal

abbrev pub invariant-loop-at : goal.invariant-loop-at
invariant-loop-at l = id_of (drop l.at l.fn.names) (drop l.at l.fn.ids) l.fn.name ≡ id_of l.fn.names l.fn.ids l.fn.name
