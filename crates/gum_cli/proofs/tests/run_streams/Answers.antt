use Rattle.gum_cli.proofs.Rooms.{no_bound}
use Rattle.gum_cli.proofs.tests.run_streams.Goals as goal

pub run-status-requires-clause-room : goal.run-status-requires-clause-room
run-status-requires-clause-room g c = no_bound _ _
