use Rattle.gum_cli.proofs.Rooms.{room_to_make}
use Rattle.gum_cli.proofs.make_tests.made_into.Goals as goal

pub run_at-status-requires-clause-room : goal.run_at-status-requires-clause-room
run_at-status-requires-clause-room c = room_to_make c.in_ok-words.words.items _ _ c.in_ok-words.ensures c.in_ok-sink.ensures.room
