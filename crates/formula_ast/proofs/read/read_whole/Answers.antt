use Rattle.std.proofs.Common.{◌-◌, length, sym, ◌∙◌}
use Rattle.formula_ast.specs.States.{stage_of, outside}
use Rattle.formula_ast.proofs.FirstTokenSteps.{passed}
use Rattle.formula_ast.proofs.ReadLoop.{not_empty, read_first, read_ruled, read_more}
use Rattle.formula_ast.proofs.read.read_whole.Goals as goal

pub loop-rest-init : goal.loop-rest-init
loop-rest-init c =
    rw (c.new-outer.ensures.items, c.first-state.ensures)
    (read_first c.args.text.now c.skip_blanks-rest.result.now (rw c.skip_blanks-rest.ensures.is (passed c.args.text.now)))

pub returns-in-Some : goal.returns-in-Some
returns-in-Some c = λ told.
    (read_ruled c.args.text.now c.loop-rest.rest.now c.split_token-token.result.1.now (stage_of c.loop-rest.state c.loop-rest.outer.items)
    c.loop-rest.nodes c.loop-rest.end c.split_token-token.result.0.len c.split_token-token.result.0.kind c.opens.result c.in-Some.fault
    c.loop-rest.invariant
    (not_empty (length c.loop-rest.rest.now) c.is_empty.result c.is_empty.ensures c.loop-rest-test.true)
    c.split_token-token.ensures.first
    (c.opens.ensures (length c.args.text.now - length c.split_token-token.result.1.now))
    (sym c.in-Some.is ∙ c.refusal-refused.ensures (outside c.loop-rest.outer.items)))

pub loop-rest-preserved : goal.loop-rest-preserved
loop-rest-preserved c =
    let told = c.in_ok-next.ensures in
    rw (c.node_count-count.ensures.is (outside c.loop-rest.outer.items))
    (read_more c.args.text.now c.loop-rest.rest.now c.split_token-token.result.1.now (stage_of c.loop-rest.state c.loop-rest.outer.items)
    (stage_of c.in-Some-2.next c.step.new.outer.items) c.loop-rest.nodes c.loop-rest.end c.split_token-token.result.0.len
    c.split_token-token.result.0.kind c.opens.result c.loop-rest.invariant
    (not_empty (length c.loop-rest.rest.now) c.is_empty.result c.is_empty.ensures c.loop-rest-test.true)
    c.split_token-token.ensures.first c.split_token-token.ensures.tight
    (c.opens.ensures (length c.args.text.now - length c.split_token-token.result.1.now))
    (sym c.in_default.is ∙ c.refusal-refused.ensures (outside c.loop-rest.outer.items))
    (sym (rw c.in-Some-2.is at told)))
