use Rattle.std.proofs.Common.{rules}
use Rattle.sheet_rows.specs.Rows.{row_of, names_used}
use Rattle.sheet_edits.proofs.Verdicts.{refused_second}
use Rattle.sheet_edits.proofs.sheet.Sheet.check_uses.Goals as goal

pub returns-in-Some-first_not_earlier : goal.returns-in-Some-first_not_earlier
returns-in-Some-first_not_earlier c =
    λ rest memory.
    refused_second c.args.self.now (row_of c.args.row.now) (names_used (row_of c.args.row.now))
    c.as_slice.result.now c.as_slice-2.result.now c.args.at c.first_unknown.result c.first_not_earlier.result c.in-Some-first_not_earlier.name rest
    (search rules) (search rules) c.first_unknown.ensures c.in_default.is c.first_not_earlier.ensures c.in-Some-first_not_earlier.is
