use Rattle.std.proofs.Common.{sym, ◌∙◌}
use Rattle.sheet_model.proofs.KeptSheet.{cell_evaluates}
use Rattle.sheet_model.proofs.numbering.Numbered.cell.Goals as goal

pub returns-clause-evaluation : goal.returns-clause-evaluation
returns-clause-evaluation g c =
    cell_evaluates c.args.self.now.graph c.args.self.now.cache c.refresh.new.self c.requires.graph c.in_ok-refresh.ensures.bodies c.peek.ensures.right
    c.args.id c.unwrap.result (sym c.peek.ensures.cell ∙ c.unwrap.ensures)
