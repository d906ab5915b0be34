use Rattle.std.proofs.Common.{◌≡◌, ◌+◌, true, ◌∷◌, ◌++◌, [], bytes_eq, map, drop, sym, ◌∙◌, ap, subst}
use Rattle.std.specs.List.{list_any}
use Rattle.std.proofs.lemmas.List.{append_assoc}
use Rattle.sheet_rows.specs.Rows.{column_name, column_names}
use Rattle.sheet_model.specs.Numbering.{number_in}
use Rattle.sheet_model.specs.Grouping.{AreAmong}
use Rattle.sheet_model.proofs.Walking.{left_next}
use Rattle.sheet_model.proofs.Grouping.{first_among}
use Rattle.sheet_model.proofs.numbering.Numbered.column_numbers.Goals as goal

pub loop-column-init : goal.loop-column-init
loop-column-init c =
    let all = map (number_in c.args.self.now.names.keys) (column_names c.args.table.now c.args.columns.now) in
    let none : c.in_ok-ids.ids ≡ [] = cc c.in_ok-ids.ensures in
    (c.requires.there, ap (λ ids. ids ++ all) none)

pub number-requires : goal.number-requires
number-requires c =
    let left = subst (AreAmong c.args.self.now.names.keys)
    (left_next (column_name c.args.table.now) c.args.columns.now c.loop-column.column-index c.column-item.result c.column-item.is c.loop-column-test.true)
    c.loop-column.invariant.0 in
    subst (λ n. list_any (bytes_eq n) c.args.self.now.names.keys ≡ true) (sym c.column_name.ensures)
    (first_among c.args.self.now.names.keys (column_name c.args.table.now c.column-item.result) (column_names c.args.table.now (drop (c.loop-column.column-index + 1) c.args.columns.now)) left).0

pub loop-column-preserved : goal.loop-column-preserved
loop-column-preserved c =
    let next = left_next (column_name c.args.table.now) c.args.columns.now c.loop-column.column-index c.column-item.result c.column-item.is
    c.loop-column-test.true in
    let left = column_names c.args.table.now (drop (c.loop-column.column-index + 1) c.args.columns.now) in
    let rest = map (number_in c.args.self.now.names.keys) left in
    let k = number_in c.args.self.now.names.keys (column_name c.args.table.now c.column-item.result) in (
      (first_among c.args.self.now.names.keys (column_name c.args.table.now c.column-item.result) left
          (subst (AreAmong c.args.self.now.names.keys) next c.loop-column.invariant.0)).1,
      ap (λ ids. ids ++ rest)
          (c.in_ok-push.ensures.ok
          ∙ ap (λ n. c.loop-column.ids ++ n ∷ []) (c.number.ensures ∙ ap (number_in c.args.self.now.names.keys) c.column_name.ensures))
          ∙ append_assoc c.loop-column.ids (k ∷ []) rest
          ∙ ap (λ ns. c.loop-column.ids ++ map (number_in c.args.self.now.names.keys) ns) (sym next) ∙ c.loop-column.invariant.1,
    )
