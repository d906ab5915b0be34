use Rattle.std.proofs.Common.{refl}
use std.Quotient.{/_rec₂}
use Rattle.exact_fraction.specs.Fraction.{is_at_most}
use Rattle.exact_fraction.specs.Number.{is_at_most_ℚ}
use Rattle.decimal18.specs.Bound.{value_of}
use Rattle.csv.proofs.OnLiterals.{csv_on_literals}
use Rattle.type_a.specs.Tables.{refusal}
use Rattle.table_records.specs.Tables.{records_read}
use Rattle.decimal18.specs.Literal.{parsed}
use Rattle.formula_ast.specs.Reading.{reading_of}
use Rattle.row_text.specs.Reading.{row_read}
use Rattle.script_lines.specs.Commands.{line_read, block_read}
use Rattle.script_lines.proofs.worked.worked_refusals.Goals as goal

pub returns-clause-long : goal.returns-clause-long
unfolding line_read row_read reading_of parsed
returns-clause-long c = refl

pub returns-clause-returned : goal.returns-clause-returned
unfolding line_read row_read reading_of parsed
returns-clause-returned c = refl

pub returns-clause-superfluous : goal.returns-clause-superfluous
unfolding line_read row_read reading_of parsed
returns-clause-superfluous c = refl

pub returns-clause-counted : goal.returns-clause-counted
unfolding line_read row_read reading_of parsed
returns-clause-counted c = refl

pub returns-clause-missing : goal.returns-clause-missing
unfolding line_read row_read reading_of parsed
returns-clause-missing c = refl

pub returns-clause-no_name : goal.returns-clause-no_name
unfolding line_read row_read reading_of parsed
returns-clause-no_name c = refl

pub returns-clause-no_row : goal.returns-clause-no_row
unfolding line_read row_read reading_of parsed
returns-clause-no_row c = refl

pub returns-clause-other_word : goal.returns-clause-other_word
unfolding line_read row_read reading_of parsed
returns-clause-other_word c = refl

pub returns-clause-column : goal.returns-clause-column
unfolding line_read row_read reading_of parsed
returns-clause-column c = refl

pub returns-clause-unknown : goal.returns-clause-unknown
unfolding line_read row_read reading_of parsed
returns-clause-unknown c = refl

pub returns-clause-long_table : goal.returns-clause-long_table
unfolding line_read row_read reading_of parsed
returns-clause-long_table c = refl

pub returns-clause-unclosed : goal.returns-clause-unclosed
unfolding line_read row_read reading_of parsed
returns-clause-unclosed c = refl

pub returns-clause-no_second : goal.returns-clause-no_second
unfolding line_read row_read reading_of parsed
returns-clause-no_second c = refl

pub returns-clause-shape : goal.returns-clause-shape
unfolding csv_on_literals block_read records_read parsed refusal
returns-clause-shape c = refl

pub returns-clause-wide : goal.returns-clause-wide
unfolding csv_on_literals block_read records_read parsed refusal
returns-clause-wide c = refl

pub returns-clause-few : goal.returns-clause-few
unfolding csv_on_literals block_read records_read parsed refusal
returns-clause-few c = refl

pub returns-clause-no_table_name : goal.returns-clause-no_table_name
unfolding csv_on_literals block_read records_read parsed refusal
returns-clause-no_table_name c = refl

pub returns-clause-table_column : goal.returns-clause-table_column
unfolding csv_on_literals block_read records_read parsed refusal
returns-clause-table_column c = refl

pub returns-clause-no_block : goal.returns-clause-no_block
unfolding line_read
returns-clause-no_block c = refl

pub returns-clause-no_limit : goal.returns-clause-no_limit
unfolding line_read row_read parsed
returns-clause-no_limit c = refl

pub returns-clause-guard : goal.returns-clause-guard
unfolding line_read row_read parsed value_of is_at_most_ℚ /_rec₂ is_at_most
returns-clause-guard c = refl

pub returns-clause-limits : goal.returns-clause-limits
unfolding line_read row_read parsed value_of is_at_most_ℚ /_rec₂ is_at_most
returns-clause-limits c = refl
