use Rattle.gum_cli.proofs.Rooms.{no_bound}
use Rattle.gum_cli.proofs.run_tests.run_on.Goals as goal

pub run-requires-clause-room : goal.run-requires-clause-room
run-requires-clause-room g c = no_bound _ _
