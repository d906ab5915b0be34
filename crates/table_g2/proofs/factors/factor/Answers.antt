use Rattle.std.proofs.Common.{subst, rules}
use Rattle.table_g2.specs.Known.{AreDegrees}
use Rattle.table_g2.proofs.Enclosed.{encloses, without_finite, upper_at_least_one, ends_ordered}
use Rattle.table_g2.proofs.factors.factor.Goals as goal

pub least_factor-least-requires : goal.least_factor-least-requires
least_factor-least-requires g c = upper_at_least_one c.in-Range.lo c.in-Range.hi (subst AreDegrees c.in-Range.is c.requires.degrees)

pub ends-requires : goal.ends-requires
ends-requires g c = record {
  ordered = rw (c.least_factor-least.ensures, c.finite_factor-greatest.ensures)
      (ends_ordered c.args.level c.in-Range.lo c.in-Range.hi (subst AreDegrees c.in-Range.is c.requires.degrees));
}

pub returns-in-Range-clause-encloses : goal.returns-in-Range-clause-encloses
returns-in-Range-clause-encloses g c = encloses c.args.nu.now c.args.level c.ends.result (search rules)

pub returns-in-None-clause-span : goal.returns-in-None-clause-span
returns-in-None-clause-span g c = without_finite c.args.nu.now c.args.level _ _ c.in-None.is c.infinite_factor.ensures c.point.ensures.span

pub returns-in-None-clause-encloses : goal.returns-in-None-clause-encloses
returns-in-None-clause-encloses g c = encloses c.args.nu.now c.args.level c.point.result (returns-in-None-clause-span g c)
