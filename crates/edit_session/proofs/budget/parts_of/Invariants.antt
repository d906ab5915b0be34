use Rattle.std.proofs.Common.{◌≡◌, map, drop}
use Rattle.covariance.specs.Gradients.{found_at}
use Rattle.covariance.specs.Groups.{group_of}
use Rattle.edit_session.specs.Asking.{goes_on, numbered_parts}
use Rattle.edit_session.proofs.budget.parts_of.Given as goal

abbrev pub invariant-loop-place : goal.invariant-loop-place
invariant-loop-place g l =
    goes_on l.found (numbered_parts (found_at l.y) (drop l.place l.names) (map group_of (drop l.place l.group-items)))
    ≡ numbered_parts (found_at l.y) l.names (map group_of l.group-items)
