use Rattle.std.specs.Prelude.{◌+◌, List, drop}
use Rattle.std.proofs.Common.{rules, sym}
use Rattle.fixed_interval.specs.Interval.{Interval}
use Rattle.fixed_interval.specs.Sums.{term_if}
use Rattle.fixed_interval.proofs.SumLoops.{refused_sum, sum_there}
use Rattle.eff_dof.specs.declared.part.Part.{Part}
use Rattle.eff_dof.specs.Degrees.{counts, term, terms}
use Rattle.eff_dof.proofs.Sums.{terms-next, terms-end}
use Rattle.eff_dof.proofs.sum.inverse.Goals as goal

pub returns-in_err-sum-clause-span : goal.returns-in_err-sum-clause-span
returns-in_err-sum-clause-span g c =
    let ps : List Part = c.args.parts.now in
    let v : Interval = c.args.whole.now in
    refused_sum _ c.from_residual.ensures.0 c.loop-part.sum (terms v (drop c.loop-part.part-index ps)) (term_if (counts c.part-item.result) (term v c.part-item.result))
    (terms v (drop (c.loop-part.part-index + 1) ps)) (terms v ps)
    (terms-next v ps c.loop-part.part-index c.part-item.result (search rules) (sym c.part-item.is)) c.loop-part.invariant.rest c.in_err-sum.ensures.sum

pub returns-clause-span : goal.returns-clause-span
returns-clause-span g c =
    let ps : List Part = c.args.parts.now in
    let v : Interval = c.args.whole.now in
    sum_there c.loop-part.sum c.unwrap_or.result (terms v (drop c.loop-part.part-index ps)) (terms v ps)
    (terms-end v ps c.loop-part.part-index (search rules)) c.loop-part.invariant.rest (search rules)
