use Rattle.std.proofs.Common.{refl}
use std.Quotient.{/_rec₂}
use Rattle.exact_fraction.specs.Fraction.{is_at_most}
use Rattle.exact_fraction.specs.Number.{is_at_most_ℚ}
use Rattle.decimal18.specs.Bound.{value_of}
use Rattle.csv.proofs.OnLiterals.{csv_on_literals}
use Rattle.table_records.specs.Tables.{records_read}
use Rattle.decimal18.specs.Literal.{parsed}
use Rattle.formula_ast.specs.Reading.{reading_of}
use Rattle.row_text.specs.Reading.{row_read}
use Rattle.type_a.specs.Tables.{refusal}
use Rattle.script_lines.specs.Commands.{line_read, block_read}
use Rattle.script_lines.proofs.worked.worked_commands.Goals as goal

pub returns-clause-empty : goal.returns-clause-empty
unfolding line_read row_read reading_of parsed
returns-clause-empty c = refl

pub returns-clause-set : goal.returns-clause-set
unfolding line_read row_read reading_of parsed
returns-clause-set c = refl

pub returns-clause-add : goal.returns-clause-add
unfolding line_read row_read reading_of parsed
returns-clause-add c = refl

pub returns-clause-blank : goal.returns-clause-blank
unfolding line_read row_read reading_of parsed
returns-clause-blank c = refl

pub returns-clause-undo : goal.returns-clause-undo
unfolding line_read row_read reading_of parsed
returns-clause-undo c = refl

pub returns-clause-redo : goal.returns-clause-redo
unfolding line_read row_read reading_of parsed
returns-clause-redo c = refl

pub returns-clause-mark : goal.returns-clause-mark
unfolding line_read row_read reading_of parsed
returns-clause-mark c = refl

pub returns-clause-restore : goal.returns-clause-restore
unfolding line_read row_read reading_of parsed
returns-clause-restore c = refl

pub returns-clause-remove : goal.returns-clause-remove
unfolding line_read row_read reading_of parsed
returns-clause-remove c = refl

pub returns-clause-readings : goal.returns-clause-readings
unfolding line_read row_read reading_of parsed refusal
returns-clause-readings c = refl

pub returns-clause-correlation : goal.returns-clause-correlation
unfolding line_read row_read reading_of parsed refusal
returns-clause-correlation c = refl

pub returns-clause-table : goal.returns-clause-table
unfolding csv_on_literals block_read records_read parsed refusal
returns-clause-table c = refl

pub returns-clause-set_table : goal.returns-clause-set_table
unfolding csv_on_literals block_read records_read parsed refusal
returns-clause-set_table c = refl

pub returns-clause-tolerance : goal.returns-clause-tolerance
unfolding line_read row_read parsed value_of is_at_most_ℚ /_rec₂ is_at_most
returns-clause-tolerance c = refl
