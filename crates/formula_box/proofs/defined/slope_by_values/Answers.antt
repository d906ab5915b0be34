use Rattle.formula_ast.specs.Views.{tree_of}
use Rattle.formula_box.proofs.Shortcuts.{absent_part, part_there}
use Rattle.formula_box.proofs.defined.slope_by_values.Goals as goal

pub returns-then-not-occurs-clause-slope : goal.returns-then-not-occurs-clause-slope
returns-then-not-occurs-clause-slope g c =
    absent_part (g.E.Env.given c.args.env.now) c.args.by.now (tree_of c.args.f.now) c.absent.result c.occurs.result c.occurs.ensures c.if-not-occurs.true
    c.absent.ensures.used c.absent.ensures.span

pub unwrap-requires : goal.unwrap-requires
unwrap-requires g c =
    part_there (g.E.Env.given c.args.env.now) c.args.by.now (tree_of c.args.f.now) c.requires.defined c.part_from.result c.part_from.ensures.part
