use Rattle.std.proofs.Common.{arith}
use Rattle.std.proofs.lemmas.Nat.Gcd.{IsGcd-from_zero, IsGcd-from_mod}
use Rattle.plain_law.proofs.Quotient.{positive_divisor}
use Rattle.plain_law.proofs.divisor.gcd.Goals as goal

pub loop-rest-preserved : goal.loop-rest-preserved
loop-rest-preserved c g h = c.loop-rest.invariant g (IsGcd-from_mod _ _ g h)

pub returns-clause-greatest : goal.returns-clause-greatest
returns-clause-greatest c = c.loop-rest.invariant _ (IsGcd-from_zero _ _ (omega arith))

pub returns-clause-positive : goal.returns-clause-positive
returns-clause-positive c b0 = positive_divisor _ _ (c.loop-rest.invariant _ (IsGcd-from_zero _ _ (omega arith))).1 b0
