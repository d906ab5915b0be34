use Rattle.std.proofs.Common.{Ok, sym, ap, ◌∙◌}
use Rattle.std.specs.Prelude.{find}
use Rattle.std.specs.Option.{option_map}
use Rattle.sheet_rows.specs.Rows.{row_of, name_of}
use Rattle.sheet_rows.specs.declared.edit_fault.EditFault.TheVariants.{InUse}
use Rattle.sheet_edits.specs.Verdicts.{is_user_of, removed, unless}
use Rattle.sheet_edits.proofs.Keeping.{remove_stands}
use Rattle.sheet_edits.proofs.Verdicts.{remove_by_users, never_nowhere}
use Rattle.sheet_edits.proofs.sheet.Sheet.check_removed.Goals as goal

pub returns-in_default-clause-verdict : goal.returns-in_default-clause-verdict
returns-in_default-clause-verdict c = absurd (never_nowhere c.args.self.now c.args.name.now c.args.at c.requires c.in_default.ensures.row)

pub returns-in_default-clause-standing : goal.returns-in_default-clause-standing
returns-in_default-clause-standing c = absurd (never_nowhere c.args.self.now c.args.name.now c.args.at c.requires c.in_default.ensures.row)

pub returns-in-Some-first_user-clause-verdict : goal.returns-in-Some-first_user-clause-verdict
returns-in-Some-first_user-clause-verdict c =
    let sheet = c.args.self.now in
    let n = c.args.name.now in
    let row = row_of c.in-Some.row.now.value in
    let same = ap (λ r. option_map name_of (find (is_user_of (row_of r)) sheet.rows)) (sym c.deref.ensures) in
    let users = same ∙ ap (λ rows. option_map name_of (find (is_user_of (row_of c.deref.result.now)) rows)) (sym c.rows-rows.ensures.rows) ∙ sym c.first_user.ensures in
    sym (remove_by_users sheet n row (sym c.in-Some.ensures.row) ∙ ap (λ u. unless u InUse (Ok (removed n sheet))) (users ∙ c.in-Some-first_user.is))

pub returns-in-None-clause-verdict : goal.returns-in-None-clause-verdict
returns-in-None-clause-verdict c =
    let sheet = c.args.self.now in
    let n = c.args.name.now in
    let row = row_of c.in-Some.row.now.value in
    let same = ap (λ r. option_map name_of (find (is_user_of (row_of r)) sheet.rows)) (sym c.deref.ensures) in
    let users = same ∙ ap (λ rows. option_map name_of (find (is_user_of (row_of c.deref.result.now)) rows)) (sym c.rows-rows.ensures.rows) ∙ sym c.first_user.ensures in
    sym (remove_by_users sheet n row (sym c.in-Some.ensures.row) ∙ ap (λ u. unless u InUse (Ok (removed n sheet))) (users ∙ c.in-None.is))

pub returns-in-None-clause-standing : goal.returns-in-None-clause-standing
returns-in-None-clause-standing c =
    let sheet = c.args.self.now in
    let n = c.args.name.now in
    remove_stands sheet (removed n sheet) n c.rows-rows.ensures.standing (sym (returns-in-None-clause-verdict c))
