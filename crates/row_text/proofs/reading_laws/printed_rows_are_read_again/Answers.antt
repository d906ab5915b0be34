use Rattle.std.proofs.Common.{refl}
use Rattle.row_text.proofs.PrintedRows.{read_again}
use Rattle.row_text.proofs.PrintedTables.{table_read_again}
use Rattle.row_text.proofs.RegularRows.{what_is_read_is_regular, what_a_table_is_is_regular}
use Rattle.row_text.proofs.reading_laws.printed_rows_are_read_again.Goals as goal

pub returns-clause-again : goal.returns-clause-again
returns-clause-again c = read_again

pub returns-clause-table : goal.returns-clause-table
returns-clause-table c = table_read_again

pub returns-clause-table_text : goal.returns-clause-table_text
returns-clause-table_text c = λ name columns t. refl

pub returns-clause-read : goal.returns-clause-read
returns-clause-read c = what_is_read_is_regular

pub returns-clause-read_table : goal.returns-clause-read_table
returns-clause-read_table c = what_a_table_is_is_regular
