use Rattle.std.proofs.Common.{rules, sym, ◌∙◌}
use Rattle.adjoint_pass.proofs.Rows.{beside_later, beside_none}
use Rattle.adjoint_pass.proofs.sweep.name_beside.Goals as goal

pub loop-at-preserved : goal.loop-at-preserved
loop-at-preserved c =
    beside_later c.args.names.now c.args.ids.now c.loop-at.at c.args.n c.index-ids-at.result c.loop-at-test.true c.index-ids-at.is (search rules) ∙ c.loop-at.invariant

pub returns : goal.returns
returns c = sym (beside_none c.args.names.now c.args.ids.now c.loop-at.at c.args.n c.loop-at-test.false) ∙ c.loop-at.invariant
