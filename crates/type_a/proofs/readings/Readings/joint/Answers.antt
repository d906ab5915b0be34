use Rattle.std.proofs.Common.{rules}
use Rattle.type_a.specs.Tables.{table_of}
use Rattle.type_a.specs.Statistics.{exact_joint}
use Rattle.fixed_interval.proofs.Sums.{never_fails}
use Rattle.type_a.proofs.InRange.{joint_in_range}
use Rattle.type_a.proofs.readings.Readings.joint.Goals as goal

pub unreachable-requires : goal.unreachable-requires
unreachable-requires g c =
    never_fails _ (exact_joint (table_of c.as_slice.result.now) c.args.a c.args.b) c.ratio.result _ c.in_default.field-0 c.ratio.ensures.span c.in_default.is c.joint-joint.ensures
    (joint_in_range (table_of c.as_slice.result.now) (search rules) c.args.a c.args.b (search rules) (search rules))
