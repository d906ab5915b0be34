use Rattle.std.specs.Prelude.{pos}
use Rattle.std.proofs.Common.{rules, ◌≡◌, ◌∙◌, ap}
use Rattle.decimal18.specs.Bound.{scaled}
use Rattle.fixed_interval.specs.Interval.{point_span}
use Rattle.fixed_interval.specs.Rules.{quotient, quotient_span}
use Rattle.type_b.proofs.Quotients.{mapped, quotient_by}
use Rattle.eff_dof.proofs.Exact.{whole_not_zero}
use Rattle.eff_dof.proofs.term.over_whole.Goals as goal

pub returns-clause-span : goal.returns-clause-span
returns-clause-span g c =
    let divisor : c.point-divisor.result ≡ point_span (scaled (pos c.args.number) 0) = search rules in
    mapped (quotient_span c.args.a.now (point_span (scaled (pos c.args.number) 0))) _ _ _
    (c.div.ensures.span ∙ ap (quotient c.args.a.now) divisor ∙ quotient_by c.args.a.now (scaled (pos c.args.number) 0) (whole_not_zero c.args.number c.requires.least))
    c.map_err.ensures.cases
