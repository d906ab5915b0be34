-- How the program ends: its exit status, and what it says on standard error.
use Rattle.std.specs.Prelude.{ℕ, List, Option, Some, None, codes}
use Rattle.gum_cli.specs.declared.run.Status.TheVariants.{Done, Usage, ReadFault, WriteFault, InputLimit, OutOfMemory}
use Rattle.gum_cli.specs.declared.exit.Ending.{Ending}
use Rattle.gum_cli.specs.declared.exit.Ending.TheVariants.{Ran, NoWords}

-- the exit status, 0 for a run that is done and no other
abbrev pub exit_code_of : Ending → ℕ
exit_code_of (Ran Done) = 0
exit_code_of (Ran Usage) = 2
exit_code_of (Ran ReadFault) = 3
exit_code_of (Ran WriteFault) = 4
exit_code_of (Ran InputLimit) = 5
exit_code_of (Ran OutOfMemory) = 6
exit_code_of NoWords = 7

-- the line on standard error, without its end; a run that is done has none
abbrev pub message_of : Ending → Option (List ℕ)
message_of (Ran Done) = None
message_of (Ran Usage) = Some (codes "usage: gumtree run | make --rows N --start S")
message_of (Ran ReadFault) = Some (codes "read fault")
message_of (Ran WriteFault) = Some (codes "write fault")
message_of (Ran InputLimit) = Some (codes "input too long")
message_of (Ran OutOfMemory) = Some (codes "out of memory")
message_of NoWords = Some (codes "no words")
