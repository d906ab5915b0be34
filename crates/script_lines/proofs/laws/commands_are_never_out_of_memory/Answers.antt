use Rattle.script_lines.proofs.NoMemory.{never_memory, never_row_memory}
use Rattle.script_lines.proofs.laws.commands_are_never_out_of_memory.Goals as goal

pub returns-clause-line : goal.returns-clause-line
returns-clause-line c = never_memory

pub returns-clause-row : goal.returns-clause-row
returns-clause-row c = never_row_memory
