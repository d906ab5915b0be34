use Rattle.std.proofs.Common.{◌+◌, ◌-◌, ◌*◌, ◌≤◌, List, ℕ}
use Rattle.byte_io.specs.Source.{Took}
use Rattle.byte_io.specs.Sink.{HasRoom, Wrote}
use Rattle.byte_io.proofs.tests.copy.Given as goal

abbrev pub invariant-pieces : goal.invariant-pieces
invariant-pieces g l =
    let S = g.S.Source in
    let K = g.K.Sink in
    record {
      few : S.count l.source ≤ S.count l.fn.source + 4 * l.counter;
      enough : HasRoom (K.room l.sink) (4 * (l.turns - l.counter));
      moved : (bytes : List ℕ)
          × (Took (S.count l.fn.source) (S.count l.source) (S.taken l.fn.source) (S.taken l.source) (S.left l.fn.source) (S.left l.source) bytes)
          × (Wrote (K.written l.fn.sink) (K.written l.sink) (K.room l.fn.sink) (K.room l.sink) bytes);
      source_faults : S.faults l.fn.source ≤ S.faults l.source;
      sink_faults : K.faults l.fn.sink ≤ K.faults l.sink;
    }
