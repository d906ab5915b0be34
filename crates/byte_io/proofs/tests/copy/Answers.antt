use Rattle.std.proofs.Common.{◌+◌, ◌*◌, ◌-◌, ◌++◌, take, arith}
use Rattle.std.proofs.lemmas.List.{length-take-le}
use Rattle.byte_io.proofs.SourceLemmas.{Took-more}
use Rattle.byte_io.proofs.SinkLemmas.{Wrote-trans, Wrote-room}
use Rattle.byte_io.proofs.tests.copy.Goals as goal

pub pieces-preserved : goal.pieces-preserved
pieces-preserved g c =
    let K = g.K.Sink in
    let piece = c.read.new.piece in
    let count = c.in_ok-count.count in
    let gave = c.in_ok-count.ensures in
    let wrote = c.in_ok-write_all.ensures.whole in
    let moved = c.pieces.invariant.moved in
    let left = c.args.turns - c.pieces.counter in
    let within = gave.bound.0 in
    let used = length-take-le count piece within in
    record {
      few = omega arith;
      enough = Wrote-room (4 * left) (4 * (c.args.turns - (c.pieces.counter + 1))) _ _ (K.room c.pieces.sink) (K.room c.write_all.new.sink) (take count piece)
          wrote c.pieces.invariant.enough (omega arith);
      moved = (moved.0 ++ take count piece, Took-more _ _ _ count _ _ _ _ _ _ moved.0 piece moved.1 within gave.count gave.taken gave.left.0, Wrote-trans moved.2 wrote);
      source_faults = omega arith;
      sink_faults = omega arith;
    }
