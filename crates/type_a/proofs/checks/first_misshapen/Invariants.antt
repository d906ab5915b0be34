use Rattle.std.proofs.Common.{◌≡◌, ◌+◌, drop}
use Rattle.std.specs.List.{position_from}
use Rattle.type_a.specs.Tables.{is_misshapen, table_of}
use Rattle.type_a.proofs.checks.first_misshapen.Given as goal

abbrev pub invariant-loop-i : goal.invariant-loop-i
invariant-loop-i l = position_from (is_misshapen l.width) (1 + l.i) (table_of (drop l.i l.rows)) ≡ position_from (is_misshapen l.width) 1 (table_of l.rows)
