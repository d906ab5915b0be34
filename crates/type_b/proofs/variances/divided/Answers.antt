use Rattle.std.proofs.Common.{◌∙◌, ap}
use Rattle.fixed_interval.specs.Interval.{point_span}
use Rattle.fixed_interval.specs.Rules.{quotient, quotient_span}
use Rattle.type_b.proofs.Quotients.{mapped, quotient_by}
use Rattle.type_b.proofs.variances.divided.Goals as goal

pub returns-clause-span : goal.returns-clause-span
returns-clause-span g c =
    mapped (quotient_span c.args.a.now (point_span c.args.by)) _ _ _
    (c.div.ensures.span ∙ ap (quotient c.args.a.now) c.point-divisor.ensures.span ∙ quotient_by c.args.a.now c.args.by c.requires)
    c.map_err.ensures.cases
