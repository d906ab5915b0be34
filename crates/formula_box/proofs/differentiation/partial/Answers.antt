use Rattle.std.proofs.Common.{rules}
use Rattle.formula_box.proofs.Parting.{partial_there, partial_fault}
use Rattle.formula_ast.specs.Views.{tree_of}
use Rattle.formula_box.proofs.differentiation.partial.Goals as goal

pub returns-in_err-whole-clause-span : goal.returns-in_err-whole-clause-span
returns-in_err-whole-clause-span g c =
    partial_fault (g.E.Env.given c.args.env.now) c.args.by.now (tree_of c.args.f.now) c.in_err-whole.field-0.0 c.from_residual.result (search rules) c.in_err-whole.ensures.part

pub returns-clause-span : goal.returns-clause-span
returns-clause-span g c =
    partial_there (g.E.Env.given c.args.env.now) c.args.by.now (tree_of c.args.f.now) c.in_ok-whole.whole c.ok_or.result c.in_ok-whole.ensures.part c.ok_or.ensures.value
