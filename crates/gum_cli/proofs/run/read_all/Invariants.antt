use Rattle.std.proofs.Common.{◌+◌, ◌-◌, ◌≤◌, vec_len}
use Rattle.byte_io.specs.Source.{Took}
use Rattle.gum_cli.specs.Run.{script_limit}
use Rattle.gum_cli.proofs.run.read_all.Given as goal

abbrev pub invariant-pieces : goal.invariant-pieces
invariant-pieces g l =
    let S = g.S.Source in
    record {
      took : Took (S.count l.fn.source) (S.count l.source) (S.taken l.fn.source) (S.taken l.source) (S.left l.fn.source) (S.left l.source) l.script.items;
      short : vec_len l.script ≤ script_limit;
      never_falls : S.faults l.fn.source ≤ S.faults l.source;
    }

abbrev pub decreases-pieces : goal.decreases-pieces
decreases-pieces g l = script_limit + 1 - vec_len l.script
