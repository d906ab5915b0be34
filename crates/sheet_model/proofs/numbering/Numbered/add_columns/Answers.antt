use Rattle.std.proofs.Common.{◌++◌, ◌<◌, arith, sym, ap, subst}
use Rattle.type_a.specs.Tables.{width_of}
use Rattle.value_cache.specs.Quantities.{Column}
use Rattle.value_cache.specs.declared.body.Body.TheVariants.{Column as CodeColumn}
use Rattle.sheet_model.specs.Numbering.{number_among, CanAdd, StandsFor}
use Rattle.sheet_model.specs.Quantities.{column_quantity}
use Rattle.sheet_model.proofs.Columns.{next_first, column_stands, columns_begin, column_next, columns_on, columns_end}
use Rattle.sheet_model.proofs.numbering.Numbered.add_columns.Goals as goal

pub loop-place-init : goal.loop-place-init
loop-place-init c = λ all before are next.
    columns_begin all before c.args.table.now c.args.readings.now.value c.args.columns.now c.args.self.now are next

pub add-requires : goal.add-requires
add-requires c =
    let can = c.requires.next in
    let place = c.loop-place.place in
    let column = c.index-columns-place.result in
    let walked = c.loop-place.invariant can.all can.before can.are can.next in
    let table = c.args.readings.now.value in
    let next = column_next can.all can.before c.args.table.now table c.args.columns.now place column c.loop-place.self walked c.loop-place-test.true c.index-columns-place.is in
    let within : place < width_of c.in_ok-clone.field-0.value = subst (λ t. place < width_of t) (sym c.in_ok-clone.ensures.cases) (omega (arith, c.requires.regular.3, c.loop-place-test.true)) in
    subst (λ name. CanAdd c.loop-place.self name (CodeColumn c.in_ok-clone.field-0 place)) (sym c.column_name.ensures)
    (record {
      quantity = column_quantity c.args.table.now table (place, column);
      can = record {
        all = can.all;
        before = can.before ++ walked.done;
        are = walked.are;
        next = next_first can.all (can.before ++ walked.done) _ (column_quantity c.args.table.now table (place, column)) next;
      };
      stands = column_stands (number_among can.all) c.args.table.now table place column (CodeColumn c.in_ok-clone.field-0 place) (ap (λ t. Column t place) c.in_ok-clone.ensures.cases) within;
    })

pub loop-place-preserved : goal.loop-place-preserved
loop-place-preserved c = λ all before are next.
    let place = c.loop-place.place in
    let column = c.index-columns-place.result in
    let table = c.args.readings.now.value in
    let within : place < width_of c.in_ok-clone.field-0.value = subst (λ t. place < width_of t) (sym c.in_ok-clone.ensures.cases) (omega (arith, c.requires.regular.3, c.loop-place-test.true)) in
    columns_on all before c.args.table.now table c.args.columns.now place column c.loop-place.self c.add.new.self
    (c.loop-place.invariant all before are next) c.loop-place-test.true c.index-columns-place.is
    (λ done held following.
    c.in_ok-add.ensures all done (column_quantity c.args.table.now table (place, column)) held following
    (subst (λ name. StandsFor (number_among all) (column_quantity c.args.table.now table (place, column)) name (CodeColumn c.in_ok-clone.field-0 place)) (sym c.column_name.ensures)
    (column_stands (number_among all) c.args.table.now table place column (CodeColumn c.in_ok-clone.field-0 place) (ap (λ t. Column t place) c.in_ok-clone.ensures.cases) within)))

pub returns : goal.returns
returns c = λ all before are next.
    columns_end all before c.args.table.now c.args.readings.now.value c.args.columns.now c.loop-place.place c.loop-place.self
    (c.loop-place.invariant all before are next) c.loop-place-test.false
