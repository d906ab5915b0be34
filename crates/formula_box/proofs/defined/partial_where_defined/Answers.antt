use Rattle.formula_ast.specs.Views.{tree_of}
use Rattle.formula_box.proofs.Parting.{all_values}
use Rattle.formula_box.proofs.Shortcuts.{whole_slope}
use Rattle.formula_box.proofs.defined.partial_where_defined.Goals as goal

pub slope_in-requires-clause-defined : goal.slope_in-requires-clause-defined
slope_in-requires-clause-defined g c = all_values (g.E.Env.given c.args.env.now) (tree_of c.args.f.now) c.requires.defined

pub returns-clause-span : goal.returns-clause-span
returns-clause-span g c =
    whole_slope (g.E.Env.given c.args.env.now) c.args.by.now (tree_of c.args.f.now) c.slope_in.result c.ok_or.result c.requires.defined
    c.slope_in.ensures.slope c.ok_or.ensures.value
