use Rattle.std.proofs.Common.{◌++◌, map, sym, ◌∙◌, ap}
use Rattle.std.specs.List.{flat_map}
use Rattle.std.proofs.lemmas.List.{append-nil}
use Rattle.sheet_rows.specs.Rows.{row_of, sheet_of}
use Rattle.sheet_model.specs.Budgets.{row_names}
use Rattle.sheet_model.proofs.Budgeted.{names_of_groups}
use Rattle.sheet_model.proofs.Walking.{none_left}
use Rattle.sheet_model.proofs.groups.group_names.Goals as goal

pub returns : goal.returns
returns c =
    let rows = map (λ row. row_of row.value) c.args.rows.now in
    sym (append-nil c.loop-row.found)
    ∙ ap (λ left. c.loop-row.found ++ flat_map (row_names rows) left)
    (sym (none_left (λ row. row_of row.value) c.args.rows.now c.loop-row.row-index c.loop-row-test.false))
    ∙ c.loop-row.invariant ∙ names_of_groups (sheet_of rows)
