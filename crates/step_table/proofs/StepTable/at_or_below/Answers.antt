use Rattle.std.proofs.Common.{rules, leb}
use Rattle.std.proofs.lemmas.List.Sorted.{IsPartitionPoint-from_clause}
use Rattle.step_table.proofs.Places.{parted_by, IsParted, IsParted-from, place_of, place_within, none_of}
use Rattle.step_table.proofs.StepTable.at_or_below.Goals as goal

parted : (g : _) (c : goal.After-checked_sub g) → IsParted c.self.inside.keys c.args.key c.partition_point.result
parted g c =
    IsParted-from _ _ _ c.partition_point.ensures.bound
    (IsPartitionPoint-from_clause (λ each. leb each c.args.key) _ _ c.partition_point.ensures.partitioned
    (parted_by _ _ c.self.invariant) (λ a r f h. search rules))

pub returns-clause-place : goal.returns-clause-place
returns-clause-place g c = rw (← c.self.view_is) (place_of _ _ _ _ (parted g c) c.checked_sub.ensures)

pub returns-clause-within : goal.returns-clause-within
returns-clause-within g c = rw (← c.self.told) (place_within _ _ _ _ (parted g c) c.checked_sub.ensures)

pub returns-clause-none : goal.returns-clause-none
returns-clause-none g c = rw (← c.self.view_is) (none_of _ _ _ _ (parted g c) c.checked_sub.ensures)
