use Rattle.std.specs.Prelude.{All, IfSome}
use Rattle.std.proofs.Common.{rules, subst}
use Rattle.budget_table.specs.Budgets.{EnclosesOwn}
use Rattle.budget_table.proofs.Lines.{lines_found, lines_enclose}
use Rattle.budget_table.proofs.table.budget.Goals as goal

pub returns-clause-encloses : goal.returns-clause-encloses
returns-clause-encloses g c =
    subst (λ o. IfSome o (All EnclosesOwn))
    (lines_found c.args.inputs.now c.args.groups.now c.in-Ok.lines c.put_inputs.new.lines c.put_groups.new.lines (search rules)
    c.in_ok-put_inputs.ensures.ok c.in_ok-put_groups.ensures.ok)
    (lines_enclose c.args.inputs.now c.args.groups.now)
