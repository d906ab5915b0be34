use Rattle.std.proofs.Common.{ap}
use Rattle.std.specs.Prelude.{option_and_then}
use Rattle.sheet_rows.specs.Rows.{row_rule}
use Rattle.sheet_edits.proofs.sheet.Sheet.rule.Goals as goal

pub returns-in-Some : goal.returns-in-Some
returns-in-Some c = rw (c.rule.ensures, c.deref.ensures) (ap (option_and_then row_rule) c.in-Some.ensures.row)

pub returns-in-None : goal.returns-in-None
returns-in-None c = ap (option_and_then row_rule) c.in-None.ensures.row
