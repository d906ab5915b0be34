use Rattle.std.proofs.Common.{rules, ◌≡◌, ◌<◌, ◌^◌, length, arith}
use Rattle.type_a.specs.Tables.{table_of}
use Rattle.type_a.specs.declared.readings.ReadingsFault.TheVariants.{Shape, Wide}
use Rattle.type_a.proofs.Accepted.{length_table}
use Rattle.row_text.proofs.Places.{shape_within, wide_within}
use Rattle.row_text.proofs.read_joint.read_below.Goals as goal

pub overflow_add-result : goal.overflow_add-result
overflow_add-result c =
    let same : c.in-Err-Shape.field-0 ≡ Shape c.in-Err-Shape.place = search rules in
    let told = c.in-Err-Shape.ensures (λ e. cc (e, same)) in
    let count : length c.args.rows.now < 2 ^ 63 = search rules in
    omega (arith, shape_within (table_of c.args.rows.now) c.in-Err-Shape.field-0 c.in-Err-Shape.place same told, length_table c.args.rows.now, count)

pub overflow_add-result-in-Err-Wide : goal.overflow_add-result-in-Err-Wide
overflow_add-result-in-Err-Wide c =
    let same : c.in-Err-Wide.field-0 ≡ Wide c.in-Err-Wide.place = search rules in
    let told = c.in-Err-Wide.ensures (λ e. cc (e, same)) in
    let count : length c.args.rows.now < 2 ^ 63 = search rules in
    omega (arith, wide_within (table_of c.args.rows.now) c.in-Err-Wide.field-0 c.in-Err-Wide.place same told, length_table c.args.rows.now, count)
