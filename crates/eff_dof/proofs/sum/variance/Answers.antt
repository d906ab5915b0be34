use Rattle.std.specs.Prelude.{◌+◌, List, [], ◌∷◌, drop, Some}
use Rattle.std.proofs.Common.{rules, sym}
use Rattle.fixed_interval.proofs.SumLoops.{refused_sum, sum_there}
use Rattle.eff_dof.specs.declared.part.Part.{Part}
use Rattle.eff_dof.specs.Degrees.{variances}
use Rattle.eff_dof.proofs.Sums.{variances-next, variances-end}
use Rattle.eff_dof.proofs.sum.variance.Goals as goal

pub returns-in_err-sum-clause-span : goal.returns-in_err-sum-clause-span
returns-in_err-sum-clause-span g c =
    let ps : List Part = c.args.parts.now in
    refused_sum _ c.from_residual.ensures.0 c.loop-part.sum (variances (drop c.loop-part.part-index ps)) (Some c.part-item.result.variance ∷ [])
    (variances (drop (c.loop-part.part-index + 1) ps)) (variances ps)
    (variances-next ps c.loop-part.part-index c.part-item.result (search rules) (sym c.part-item.is)) c.loop-part.invariant.rest c.in_err-sum.ensures.sum

pub returns-clause-span : goal.returns-clause-span
returns-clause-span g c =
    let ps : List Part = c.args.parts.now in
    sum_there c.loop-part.sum c.unwrap_or.result (variances (drop c.loop-part.part-index ps)) (variances ps)
    (variances-end ps c.loop-part.part-index (search rules)) c.loop-part.invariant.rest (search rules)
