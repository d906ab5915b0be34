use Rattle.gum_cli.proofs.Rooms.{room_to_run}
use Rattle.gum_cli.proofs.tests.run_in_memory.Goals as goal

pub run-requires-clause-room : goal.run-requires-clause-room
run-requires-clause-room g c = room_to_run c.in_ok-words.field-0.items _ _ c.in_ok-words.ensures c.requires.room
