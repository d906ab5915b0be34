use Rattle.std.specs.Prelude.{◌≡◌, drop, is_some}
use Rattle.std.specs.List.{list_any}
use Rattle.covariance.specs.Gradients.{found_at}
use Rattle.covariance.specs.Groups.{members, group_of}
use Rattle.covariance.specs.Variances.{meets}
use Rattle.covariance.proofs.variances.meets.Given as goal

abbrev pub invariant-loop-i : goal.invariant-loop-i
invariant-loop-i l =
    list_any (λ k. is_some (found_at l.y k)) (drop l.i (members (group_of l.group))) ≡ meets (found_at l.y) (group_of l.group)
