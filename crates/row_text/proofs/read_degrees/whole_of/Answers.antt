use Rattle.std.proofs.Common.{arith}
use Rattle.std.proofs.Math.Dec.{lit≤}
use Rattle.std.proofs.Math.Nat.{pow-le-pow_right}
use Rattle.row_text.proofs.read_degrees.whole_of.Goals as goal

pub returns-then-word-most-clause-below : goal.returns-then-word-most-clause-below
returns-then-word-most-clause-below c = omega (arith, pow-le-pow_right {n = 10} (lit≤ tt) c.if-word-most.true)
