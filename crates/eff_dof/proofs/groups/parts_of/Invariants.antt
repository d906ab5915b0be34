use Rattle.std.specs.Prelude.{◌≡◌, ◌+◌, ◌*◌, ◌≤◌, map, drop}
use Rattle.covariance.specs.Gradients.{found_at}
use Rattle.covariance.specs.Groups.{group_of, AreRegular}
use Rattle.covariance.specs.Variances.{meets}
use Rattle.covariance.specs.Costs.{pairs_of}
use Rattle.eff_dof.specs.GroupParts.{HaveDegrees, put_before, parts_of}
use Rattle.eff_dof.proofs.groups.parts_of.Given as goal

abbrev pub invariant-loop-group : goal.invariant-loop-group
invariant-loop-group g l = record {
  found : put_before l.parts.items (parts_of (found_at l.y) (map group_of (drop l.group-index l.groups)))
      ≡ parts_of (found_at l.y) (map group_of l.groups);
  ticks : l.steps + 16 * pairs_of (meets (found_at l.y)) (map group_of (drop l.group-index l.groups))
      ≤ l.fn.steps + 16 * pairs_of (meets (found_at l.y)) (map group_of l.groups);
  regular : AreRegular (map group_of (drop l.group-index l.groups));
  degrees : HaveDegrees (map group_of (drop l.group-index l.groups));
}
