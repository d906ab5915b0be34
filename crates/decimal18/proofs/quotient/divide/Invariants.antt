use Rattle.std.proofs.Common.{◌≡◌, ◌+◌, ◌-◌, ◌*◌, ◌^◌, ◌<◌}
use Rattle.decimal18.proofs.quotient.divide.Given as goal

abbrev pub invariant-loop-rest : goal.invariant-loop-rest
invariant-loop-rest l = record {
  split : l.fn.size * 10 ^ l.shift ≡ l.digits * l.divisor + l.rest;
  below : l.rest < l.divisor;
  near : l.shift < l.most + 18;
  none : l.most ≡ 0 → l.shift ≡ 0;
  small : l.divisor < 2 ^ 64;
}

abbrev pub decreases-loop-rest : goal.decreases-loop-rest
decreases-loop-rest l = l.most - l.shift
