use Rattle.std.proofs.Common.{◌≡◌, ◌≤◌, ◌*◌, ◌^◌, ◌-◌}
use Rattle.round_out.proofs.scale.place_of.Given as goal

abbrev pub invariant-loop-unit : goal.invariant-loop-unit
invariant-loop-unit l = record { unit : l.unit ≡ 100 ^ l.turns; low : 199 * 199 * l.unit ≤ l.scale.size; few : l.turns ≤ 9 }

abbrev pub decreases-loop-unit : goal.decreases-loop-unit
decreases-loop-unit l = 10 - l.turns
