use Rattle.row_text.proofs.NoMemory.{never_memory, never_table_memory}
use Rattle.row_text.proofs.reading_laws.rows_are_never_out_of_memory.Goals as goal

pub returns-clause-line : goal.returns-clause-line
returns-clause-line c = never_memory

pub returns-clause-table : goal.returns-clause-table
returns-clause-table c = never_table_memory
