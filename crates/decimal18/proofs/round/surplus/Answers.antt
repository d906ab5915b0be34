use Rattle.std.proofs.Common.{arith, subst, ◌≡◌, ◌≤◌, ◌+◌, ◌-◌, ◌^◌}
use Rattle.decimal18.proofs.Counting.{powers_rise}
use Rattle.decimal18.proofs.round.surplus.Goals as goal

pub returns-clause-below : goal.returns-clause-below
returns-clause-below c =
    let f : 10 ^ c.count_digits.result ≤ 10 ^ (18 + c.saturating_sub.result) =
    powers_rise c.count_digits.result (18 + c.saturating_sub.result) (omega (arith, c.saturating_sub.ensures)) in
    omega (arith, c.count_digits.ensures.below, f)

pub returns-clause-reached : goal.returns-clause-reached
returns-clause-reached c = λ above.
    let same : c.count_digits.result - 1 ≡ 17 + c.saturating_sub.result = omega (arith, c.saturating_sub.ensures) in
    subst (λ i. 10 ^ i ≤ c.args.digits) same (c.count_digits.ensures.reached (omega (arith, c.saturating_sub.ensures)))
