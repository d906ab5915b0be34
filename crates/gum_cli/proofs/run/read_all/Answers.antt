use Rattle.std.proofs.Common.{◌++◌, take}
use Rattle.byte_io.proofs.SourceLemmas.{Took-more}
use Rattle.gum_cli.proofs.run.read_all.Goals as goal

-- what the read that went too far gave was taken too
pub returns-then-len-count-gt-SCRIPT_LIMIT-clause-part :
    goal.returns-then-len-count-gt-SCRIPT_LIMIT-clause-part
returns-then-len-count-gt-SCRIPT_LIMIT-clause-part g c =
    let piece = c.read.new.piece in
    let count = c.in-Ok.count in
    let gave = c.in-Ok.ensures in (
      c.pieces.script.items ++ take count piece,
      Took-more _ _ _ count _ _ _ _ _ _ c.pieces.script.items piece c.pieces.invariant.took gave.bound.0 gave.count gave.taken gave.left.0,
    )

pub returns-then-is_err-clause-part : goal.returns-then-is_err-clause-part
returns-then-is_err-clause-part g c =
    let piece = c.read.new.piece in
    let count = c.in-Ok.count in
    let gave = c.in-Ok.ensures in (
      c.pieces.script.items ++ take count piece,
      Took-more _ _ _ count _ _ _ _ _ _ c.pieces.script.items piece c.pieces.invariant.took gave.bound.0 gave.count gave.taken gave.left.0,
    )
