use Rattle.std.proofs.Common.{◌-◌, ◌≤◌, length, take}
use Rattle.byte_io.specs.Sink.{HasRoom, Wrote}
use Rattle.byte_io.proofs.writes.write_all.Given as goal

abbrev pub invariant-writes : goal.invariant-writes
invariant-writes g l =
    let K = g.K.Sink in
    record {
      within : l.at ≤ length l.bytes;
      enough : HasRoom (K.room l.sink) (length l.bytes - l.at);
      wrote : Wrote (K.written l.fn.sink) (K.written l.sink) (K.room l.fn.sink) (K.room l.sink) (take l.at l.bytes);
      never_falls : K.faults l.fn.sink ≤ K.faults l.sink;
    }

abbrev pub decreases-writes : goal.decreases-writes
decreases-writes g l = length l.initial.bytes - l.at
