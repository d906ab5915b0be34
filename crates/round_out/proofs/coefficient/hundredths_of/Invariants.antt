use Rattle.std.proofs.Common.{◌≤◌, ◌*◌, ◌-◌}
use Rattle.round_out.proofs.coefficient.hundredths_of.Given as goal

abbrev pub invariant-loop-m : goal.invariant-loop-m
invariant-loop-m l = record { low : (2 * l.m - 1) * (2 * l.m - 1) * l.unit ≤ l.size }
