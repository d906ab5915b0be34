use Rattle.std.proofs.Common.{◌≡◌, ◌+◌, ◌-◌, ◌*◌, ◌/◌, ◌<◌, ◌≤◌, ◌^◌, ◌⊎◌, arith, inl, inr}
use Rattle.std.proofs.lemmas.Bool.{cases_lt}
use Rattle.std.proofs.Math.Nat.{div-mul-le_self}
use Rattle.decimal18.proofs.Quotients.{exponent_below, widened_fits, enough_digits}
use Rattle.decimal18.proofs.quotient.divide_once.Goals as goal

pub overflow_mul-widened : goal.overflow_mul-widened
overflow_mul-widened c =
    let i = c.ilog10-2.result in
    let j = c.ilog10.result in
    let first : i < 18 = exponent_below c.args.size i c.ilog10-2.ensures.power_le c.requires.size in
    let second : j < 18 = exponent_below c.args.divisor j c.ilog10.ensures.power_le c.requires.divisor in
    let shift : i + c.min-shift.result ≤ 18 + j = omega arith in
    let fits = widened_fits c.args.size i j c.min-shift.result c.power_of_ten.result c.ilog10-2.ensures.next_power_gt c.power_of_ten.ensures.value shift second in
    omega (arith, fits)

pub overflow_mul-digits : goal.overflow_mul-digits
overflow_mul-digits c =
    let fits = overflow_mul-widened c in
    omega (arith, fits, div-mul-le_self (c.args.size * c.power_of_ten.result) c.args.divisor)

-- the quotient of that many zeros has 18 digits
long : (c : goal.After-has_more) → (c.min-shift.result < 18 + c.ilog10.result - c.ilog10-2.result) ⊎ (18 + c.ilog10.result - c.ilog10-2.result ≤ c.min-shift.result)
    → (10 ^ 17 ≤ c.args.size * c.power_of_ten.result / c.args.divisor) ⊎ (c.args.most ≤ c.min-shift.result)
long c (inl h) = inr (omega arith)
long c (inr h) =
    let i = c.ilog10-2.result in
    let j = c.ilog10.result in
    let first : i < 18 = exponent_below c.args.size i c.ilog10-2.ensures.power_le c.requires.size in
    let same : i + c.min-shift.result ≡ 18 + j = omega arith in
    inl (enough_digits c.args.size c.args.divisor i j c.min-shift.result c.power_of_ten.result c.requires.positive c.ilog10-2.ensures.power_le c.ilog10.ensures.next_power_gt
    c.power_of_ten.ensures.value same)

pub returns-clause-enough : goal.returns-clause-enough
returns-clause-enough c = inr (long c (cases_lt c.min-shift.result (18 + c.ilog10.result - c.ilog10-2.result)))

pub returns-clause-least : goal.returns-clause-least
returns-clause-least c = elim (long c (cases_lt c.min-shift.result (18 + c.ilog10.result - c.ilog10-2.result))) as
    (λ _. (10 ^ 17 ≤ c.args.size * c.power_of_ten.result / c.args.divisor) ⊎ (c.args.least ≤ c.min-shift.result)) [
      | inl h ↦ inl h
      | inr h ↦ inr (omega arith)
    ]
