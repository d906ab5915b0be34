use Rattle.std.proofs.Common.{◌≡◌, ◌∙◌, ap, subst, map, List}
use Rattle.csv.specs.Records.{fields_of}
use Rattle.line_text.specs.Memory.{GivesBy}
use Rattle.table_records.specs.Records.{Record, records_of}
use Rattle.table_records.specs.declared.fault.RecordsFault.TheVariants.{OutOfMemory}
use Rattle.table_records.specs.Tables.{table_of, table_in, records_read}
use Rattle.table_records.proofs.TablesRead.{gives_table}
use Rattle.table_records.proofs.records.read_records.Goals as goal

pub returns-clause-exact : goal.returns-clause-exact
unfolding records_read
returns-clause-exact c =
    let all : map fields_of c.as_slice.result.now ≡ records_of c.args.block.now = ap (map fields_of) c.as_slice.ensures.value ∙ c.in_ok-records.ensures in
    subst (λ (rs : List Record). GivesBy table_of OutOfMemory c.table_in.result (table_in rs)) all c.table_in.ensures

pub returns-clause-table : goal.returns-clause-table
returns-clause-table c = gives_table (map fields_of c.as_slice.result.now) c.table_in.result c.table_in.ensures
