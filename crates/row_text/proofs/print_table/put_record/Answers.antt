use Rattle.std.proofs.Common.{◌<◌, ◌≤◌, [], length, get_or, ◌∙◌, arith}
use Rattle.type_a.proofs.Accepted.{length_of_record}
use Rattle.row_text.proofs.JoinedTexts.{number_put, numbers_put}
use Rattle.row_text.proofs.print_table.put_record.Goals as goal

pub loop-column-preserved : goal.loop-column-preserved
loop-column-preserved c =
    let r = get_or c.args.readings.now c.args.row [] in
    let width = length_of_record c.args.readings.now c.requires.taken c.args.row c.requires.row in
    let within : c.loop-column.column < length r = omega (arith, width, c.loop-column-test.true, c.width-column-end.ensures) in
    number_put c.loop-column.out c.put_number-in-loop-column.new.out r c.loop-column.column c.value_at-in-loop-column.result
    c.in_ok-put_number-2.ensures within c.value_at-in-loop-column.ensures
    ∙ c.loop-column.invariant

pub returns : goal.returns
returns c =
    let r = get_or c.args.readings.now c.args.row [] in
    let width = length_of_record c.args.readings.now c.requires.taken c.args.row c.requires.row in
    let past : length r ≤ c.loop-column.column = omega (arith, width, c.loop-column-test.false, c.width-column-end.ensures) in
    numbers_put c.args.out.now c.put_number.new.out c.loop-column.out r c.loop-column.column c.value_at.result
    (omega (arith, width, c.requires.some)) c.value_at.ensures c.in_ok-put_number.ensures past c.loop-column.invariant
