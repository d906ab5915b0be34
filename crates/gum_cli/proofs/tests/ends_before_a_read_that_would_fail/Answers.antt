use Rattle.std.proofs.Common.{rules, ◌≡◌}
use Rattle.std.specs.Prelude.{codes}
use Rattle.gum_cli.proofs.Rooms.{room_for_reply}
use Rattle.gum_cli.proofs.tests.ends_before_a_read_that_would_fail.Goals as goal

pub run_in_memory-requires-clause-room : goal.run_in_memory-requires-clause-room
run_in_memory-requires-clause-room g c =
    let script : c.in_ok-to_vec.field-0.items ≡ codes "value X\n" = search rules in
    room_for_reply _ _ c.in_ok-to_vec.field-0.items c.in_ok-sink.ensures.room c.new-source.ensures.left script
