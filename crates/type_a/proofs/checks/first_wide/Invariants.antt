use Rattle.std.proofs.Common.{◌≡◌, ◌+◌, drop}
use Rattle.std.specs.List.{position_from}
use Rattle.type_a.specs.Tables.{has_wide, table_of}
use Rattle.type_a.proofs.checks.first_wide.Given as goal

abbrev pub invariant-loop-i : goal.invariant-loop-i
invariant-loop-i l = position_from (has_wide l.places) (1 + l.i) (table_of (drop l.i l.rows)) ≡ position_from (has_wide l.places) 1 (table_of l.rows)
