use Rattle.std.proofs.Common.{◌∙◌, sym}
use Rattle.sheet_edits.proofs.Verdicts.{remove_unknown}
use Rattle.sheet_edits.proofs.sheet.Sheet.place_to_remove.Goals as goal

pub returns-in_default-clause-verdict : goal.returns-in_default-clause-verdict
returns-in_default-clause-verdict c = sym (remove_unknown c.args.self.now c.args.name.now (sym c.place_of.ensures ∙ c.in_default.is))
