use Rattle.std.proofs.Common.{◌≡◌, [], map, ◌++◌, sym, subst}
use Rattle.sheet_rows.specs.Rows.{row_of, sheet_of, quantities_of, correlated_names}
use Rattle.sheet_rows.specs.Regular.{IsRegular}
use Rattle.sheet_model.specs.Grouping.{AreAmong, AreGrouped}
use Rattle.sheet_model.proofs.Walking.{left_next, none_left}
use Rattle.sheet_model.proofs.Grouping.{grouping_begins, grouped_on, grouping_ends, grouped_regular}
use Rattle.sheet_model.proofs.numbering.Numbered.groups.Goals as goal

pub of-requires : goal.of-requires
of-requires c = c.requires.standing.well_formed.once

pub loop-row-init : goal.loop-row-init
loop-row-init c =
    let rows = map (λ row. row_of row.value) c.args.rows.now in
    let none : c.in_ok-groups.groups ≡ [] = cc c.in_ok-groups.ensures in
    subst (AreGrouped c.args.self.now.names.keys rows rows) (sym none)
    (grouping_begins (sheet_of rows) c.args.self.now.names.keys c.requires.standing c.requires.names)

pub add_group-requires-clause-regular : goal.add_group-requires-clause-regular
add_group-requires-clause-regular c =
    let are = subst (λ left. AreGrouped c.args.self.now.names.keys (map (λ row. row_of row.value) c.args.rows.now) left c.loop-row.groups)
    (left_next (λ row. row_of row.value) c.args.rows.now c.loop-row.row-index c.row-item.result c.row-item.is c.loop-row-test.true)
    c.loop-row.invariant in
    subst (λ row. IsRegular (row_of row)) (sym c.deref.ensures) are.can.0.0

pub add_group-requires-clause-there : goal.add_group-requires-clause-there
add_group-requires-clause-there c =
    let are = subst (λ left. AreGrouped c.args.self.now.names.keys (map (λ row. row_of row.value) c.args.rows.now) left c.loop-row.groups)
    (left_next (λ row. row_of row.value) c.args.rows.now c.loop-row.row-index c.row-item.result c.row-item.is c.loop-row-test.true)
    c.loop-row.invariant in
    subst (λ row. AreAmong c.args.self.now.names.keys (quantities_of (row_of row) ++ correlated_names (row_of row))) (sym c.deref.ensures) are.can.0.1

pub loop-row-preserved : goal.loop-row-preserved
loop-row-preserved c =
    let rows = map (λ row. row_of row.value) c.args.rows.now in
    let are = subst (λ left. AreGrouped c.args.self.now.names.keys rows left c.loop-row.groups)
    (left_next (λ row. row_of row.value) c.args.rows.now c.loop-row.row-index c.row-item.result c.row-item.is c.loop-row-test.true)
    c.loop-row.invariant in
    grouped_on c.args.self.now.names.keys rows _ (row_of c.row-item.result.value) c.loop-row.groups c.add_group.new.groups are
    (rw c.deref.ensures at c.in_ok-add_group.ensures rows c.in_ok-stated.ensures)

pub returns-clause-groups : goal.returns-clause-groups
returns-clause-groups c =
    let rows = map (λ row. row_of row.value) c.args.rows.now in
    grouping_ends (sheet_of rows) c.args.self.now.names.keys c.loop-row.groups c.requires.names
    (subst (λ left. AreGrouped c.args.self.now.names.keys rows left c.loop-row.groups)
    (none_left (λ row. row_of row.value) c.args.rows.now c.loop-row.row-index c.loop-row-test.false) c.loop-row.invariant)

pub returns-clause-regular : goal.returns-clause-regular
returns-clause-regular c =
    let rows = map (λ row. row_of row.value) c.args.rows.now in
    grouped_regular (sheet_of rows) c.loop-row.groups c.requires.standing
    (grouping_ends (sheet_of rows) c.args.self.now.names.keys c.loop-row.groups c.requires.names
    (subst (λ left. AreGrouped c.args.self.now.names.keys rows left c.loop-row.groups)
    (none_left (λ row. row_of row.value) c.args.rows.now c.loop-row.row-index c.loop-row-test.false) c.loop-row.invariant))
