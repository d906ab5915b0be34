use Rattle.std.proofs.Common.{◌<◌, length, rules}
use Rattle.type_a.proofs.Accepted.{column_in, reading_is, reading_narrow}
use Rattle.type_a.proofs.taken.reading_at.Goals as goal

pub index-requires : goal.index-requires
index-requires c =
    let there : c.args.column < length c.index-records-row.result.items =
    column_in c.args.records.now c.args.row c.args.column c.index-records-row.result c.requires.taken c.requires.row c.index-records-row.is c.requires.column in
    search rules

pub returns-clause-value : goal.returns-clause-value
returns-clause-value c =
    reading_is c.args.records.now c.args.row c.args.column c.index-records-row.result c.index.result.now c.requires.taken c.requires.row c.index-records-row.is c.requires.column
    c.index.ensures

pub returns-clause-narrow : goal.returns-clause-narrow
returns-clause-narrow c =
    reading_narrow c.args.records.now c.args.row c.args.column c.index.result.now c.requires.taken c.requires.row c.requires.column
    (reading_is c.args.records.now c.args.row c.args.column c.index-records-row.result c.index.result.now c.requires.taken c.requires.row c.index-records-row.is c.requires.column
    c.index.ensures)
