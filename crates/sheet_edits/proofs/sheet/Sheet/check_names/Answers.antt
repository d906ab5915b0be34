use Rattle.std.proofs.Common.{subst, sym}
use Rattle.sheet_rows.specs.Rows.{row_of}
use Rattle.sheet_rows.specs.declared.edit_fault.EditFault.TheVariants.{NotCorrelatable, AlreadyCorrelated}
use Rattle.sheet_edits.specs.Verdicts.{unless, first_correlated}
use Rattle.sheet_edits.specs.Places.{IsChecked, first_not_correlatable_with}
use Rattle.sheet_edits.proofs.sheet.Sheet.check_names.Goals as goal

pub returns : goal.returns
returns c =
    let sheet = c.args.self.now in
    let row = row_of c.args.row.now in
    λ rest.
    subst (IsChecked c.check_correlated.result rest)
    (sym (c.in_ok-check_uses.ensures (unless (first_not_correlatable_with sheet row) NotCorrelatable (unless (first_correlated sheet row) AlreadyCorrelated rest))))
    (c.check_correlated.ensures rest)
