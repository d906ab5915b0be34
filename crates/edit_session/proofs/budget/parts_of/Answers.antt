use Rattle.std.proofs.Common.{◌+◌, map, drop, sym, ◌∙◌, ap, subst}
use Rattle.covariance.specs.Gradients.{found_at}
use Rattle.covariance.specs.Groups.{AreRegular, group_of}
use Rattle.sheet_rows.specs.Rows.{sheet_of}
use Rattle.sheet_model.specs.Budgets.{group_names}
use Rattle.sheet_model.proofs.Walking.{left_next, none_left}
use Rattle.edit_session.specs.Asking.{StopsAt, goes_on, numbered_parts}
use Rattle.edit_session.proofs.BudgetNumbers.{finds_stop, parts_by_numbers, named_within, regular_at, parts_on, parts_stop, parts_end}
use Rattle.edit_session.proofs.budget.parts_of.Goals as goal

pub bounds-names-place : goal.bounds-names-place
bounds-names-place g c =
    let names = c.as_slice-names.ensures ∙ c.in_ok-named.ensures ∙ ap (λ rows. group_names (sheet_of rows)) c.rows.ensures.rows in
    named_within c.args.sheet.now c.rows.ensures.standing c.as_slice-names.result.now c.args.groups.now names c.requires c.as_slice-group-items.result.now c.loop-place.place c.as_slice-group-items.ensures c.loop-place-test.true

pub add_part-requires : goal.add_part-requires
add_part-requires g c =
    regular_at c.as_slice-group-items.result.now c.loop-place.place c.group-item.result c.group-item.is c.loop-place-test.true
    (subst AreRegular (sym c.as_slice-group-items.ensures) c.requires.regular)

pub returns-in_err-add_part : goal.returns-in_err-add_part
returns-in_err-add_part g c = λ n is.
    let names = c.as_slice-names.ensures ∙ c.in_ok-named.ensures ∙ ap (λ rows. group_names (sheet_of rows)) c.rows.ensures.rows in
    let items = c.as_slice-group-items.result.now in
    let y = found_at c.args.y.now in
    let stop = c.in_err-add_part.field-0.0 in
    finds_stop c.from_residual-in_err-add_part.result stop _ c.from_residual-in_err-add_part.ensures.1
    (subst (StopsAt stop)
    (c.loop-place.invariant ∙ ap (numbered_parts y c.as_slice-names.result.now) c.as_slice-group-items.ensures
    ∙ parts_by_numbers c.args.sheet.now c.rows.ensures.standing c.as_slice-names.result.now c.args.groups.now names c.requires n c.args.y.now is)
    (subst (λ gs. StopsAt stop (goes_on c.loop-place.found (numbered_parts y (drop c.loop-place.place c.as_slice-names.result.now) gs)))
    (sym (left_next group_of items c.loop-place.place c.group-item.result c.group-item.is c.loop-place-test.true))
    (parts_stop y c.as_slice-names.result.now c.loop-place.place c.index-names-place.result c.index-names-place.is
    (named_within c.args.sheet.now c.rows.ensures.standing c.as_slice-names.result.now c.args.groups.now names c.requires c.as_slice-group-items.result.now c.loop-place.place c.as_slice-group-items.ensures c.loop-place-test.true) (group_of c.group-item.result)
    (map group_of (drop (c.loop-place.place + 1) items)) stop c.loop-place.found c.in_err-add_part.ensures)))

pub loop-place-preserved : goal.loop-place-preserved
loop-place-preserved g c =
    let names = c.as_slice-names.ensures ∙ c.in_ok-named.ensures ∙ ap (λ rows. group_names (sheet_of rows)) c.rows.ensures.rows in
    let items = c.as_slice-group-items.result.now in
    let y = found_at c.args.y.now in
    parts_on y c.as_slice-names.result.now c.loop-place.place c.index-names-place.result c.index-names-place.is
    (named_within c.args.sheet.now c.rows.ensures.standing c.as_slice-names.result.now c.args.groups.now names c.requires c.as_slice-group-items.result.now c.loop-place.place c.as_slice-group-items.ensures c.loop-place-test.true) (group_of c.group-item.result)
    (map group_of (drop (c.loop-place.place + 1) items)) c.loop-place.found c.add_part.new.found c.in_ok-add_part.ensures
    ∙ ap (λ gs. goes_on c.loop-place.found (numbered_parts y (drop c.loop-place.place c.as_slice-names.result.now) gs))
    (sym (left_next group_of items c.loop-place.place c.group-item.result c.group-item.is c.loop-place-test.true))
    ∙ c.loop-place.invariant

pub returns : goal.returns
returns g c = λ n is.
    let names = c.as_slice-names.ensures ∙ c.in_ok-named.ensures ∙ ap (λ rows. group_names (sheet_of rows)) c.rows.ensures.rows in
    let items = c.as_slice-group-items.result.now in
    let y = found_at c.args.y.now in
    sym (c.loop-place.invariant ∙ ap (numbered_parts y c.as_slice-names.result.now) c.as_slice-group-items.ensures
    ∙ parts_by_numbers c.args.sheet.now c.rows.ensures.standing c.as_slice-names.result.now c.args.groups.now names c.requires n c.args.y.now is)
    ∙ ap (λ gs. goes_on c.loop-place.found (numbered_parts y (drop c.loop-place.place c.as_slice-names.result.now) gs))
    (none_left group_of items c.loop-place.place c.loop-place-test.false)
    ∙ parts_end y (drop c.loop-place.place c.as_slice-names.result.now) c.loop-place.found
