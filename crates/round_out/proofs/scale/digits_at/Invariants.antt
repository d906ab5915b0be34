use Rattle.std.proofs.Common.{◌≤◌, ◌*◌}
use Rattle.exact_law.specs.Rounding.{least_root}
use Rattle.round_out.proofs.scale.digits_at.Given as goal

abbrev pub invariant-loop-m : goal.invariant-loop-m
invariant-loop-m l = record { least : 10 ≤ l.m; low : least_root l.m * least_root l.m * l.place.unit ≤ l.place.size }
