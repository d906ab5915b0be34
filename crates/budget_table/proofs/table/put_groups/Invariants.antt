use Rattle.std.specs.Prelude.{◌≡◌, ◌++◌, map, drop}
use Rattle.budget_table.specs.Budgets.{group_line}
use Rattle.budget_table.proofs.table.put_groups.Given as goal

abbrev pub invariant-loop-group : goal.invariant-loop-group
invariant-loop-group l = record {
  found : l.lines ++ map group_line (drop l.group-index l.groups) ≡ l.initial.lines ++ map group_line l.groups;
}
