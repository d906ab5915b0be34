use Rattle.std.proofs.Common.{rules, sym, ap, ◌∙◌}
use Rattle.eff_dof.specs.Degrees.{degrees_down}
use Rattle.eff_dof.proofs.Counted.{percent_down}
use Rattle.eff_dof.proofs.least.degrees_down.Goals as goal

pub returns-in-Rel : goal.returns-in-Rel
returns-in-Rel c =
    percent_down c.in-Rel.percent c.whole-in-Rel.result c.whole-in-Rel-2.result (search rules) (search rules) c.div_down.result c.div_down.ensures.exact
    ∙ ap degrees_down (sym c.in-Rel.is)
