use Rattle.std.proofs.Common.{◌≤◌, ◌-◌, length, arith, ap}
use Rattle.std.proofs.lemmas.List.{take_rest, length-drop}
use Rattle.byte_io.proofs.SinkLemmas.{HasRoom-falls, Wrote-more}
use Rattle.byte_io.proofs.writes.write_all.Goals as goal

pub writes-preserved : goal.writes-preserved
writes-preserved g c =
    let K = g.K.Sink in
    let at = c.writes.at in
    let count = c.in_ok-at.field-0 in
    let bytes = c.args.bytes.now in
    let took = c.in_ok-at.ensures in
    let few : count ≤ length bytes - at = omega (arith, took.bound, ap length (take_rest bytes at), length-drop at bytes) in
    record {
      within = omega arith;
      enough = HasRoom-falls (K.room c.writes.sink) (K.room c.write.new.self) count (length bytes - at) _ c.writes.invariant.enough took.room (omega arith);
      wrote = Wrote-more at count _ _ _ _ _ _ bytes _ c.writes.invariant.wrote (take_rest bytes at) took.bound took.written took.room;
      never_falls = omega arith;
    }
