use Rattle.std.proofs.Common.{sym}
use Rattle.csv.specs.Records.{fields_of}
use Rattle.csv.proofs.RecordFacts.{field-there, field-get}
use Rattle.table_records.proofs.fields.field_at.Goals as goal

pub unreachable-requires : goal.unreachable-requires
unreachable-requires c =
    field-there (fields_of c.args.fields.now) c.args.i c.requires (sym (rw c.in-None.is at c.get.ensures.value))

pub returns : goal.returns
returns c =
    let there = field-get (fields_of c.args.fields.now) c.args.i c.in-Some.field.now (sym (rw c.in-Some.is at c.get.ensures.value)) in
    rw there c.trimmed.ensures
