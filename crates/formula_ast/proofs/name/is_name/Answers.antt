use Rattle.std.proofs.Common.{sym}
use Rattle.formula_ast.proofs.NameBytes.{two_points}
use Rattle.formula_ast.proofs.name.is_name.Goals as goal

pub returns-in-Some-others : goal.returns-in-Some-others
returns-in-Some-others c =
    let e = c.cut.ensures.parts in
    let f = c.cut-2.ensures.parts in
    sym (two_points c.args.text.now c.cut.result.0.now c.cut-2.result.0.now c.in-Some.rest.now c.in-Some-others.field-0.now
    (rw c.in-Some.is at e) (rw c.in-Some-others.is at f))
