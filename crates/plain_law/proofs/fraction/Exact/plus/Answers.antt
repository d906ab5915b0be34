use Rattle.std.specs.Prelude.{◌≡◌, ◌*◌, ◌/◌, pos, ◌+ℤ◌}
use Rattle.std.proofs.Common.{◌∙◌, ap₂}
use Rattle.std.proofs.Math.Nat.{mul-pos}
use Rattle.exact_fraction.specs.Number.{of_ℤ, ◌/ℚ◌}
use Rattle.plain_law.specs.Numbers.{number, signed}
use Rattle.plain_law.proofs.Quotient.{sum, positive_part}
use Rattle.plain_law.proofs.fraction.Exact.plus.Goals as goal

pub reduced-requires : goal.reduced-requires
reduced-requires c =
    let a = c.args.self in
    let b = c.args.other in
    let e : c.in_ok-denominator.denominator ≡ a.denominator * (b.denominator / c.gcd-divisor.result) = c.in_ok-denominator.ensures.1 in
    rw e (mul-pos a.positive (positive_part c.gcd-divisor.result b.denominator c.gcd-divisor.ensures.greatest.1 b.positive))

pub returns : goal.returns
unfolding number
returns c =
    let a = c.args.self in
    let b = c.args.other in
    let g = c.gcd-divisor.result in
    c.reduced.ensures
    ∙ ap₂ (λ z d. of_ℤ z /ℚ of_ℤ (pos d))
    (c.in_ok-sum.ensures ∙ ap₂ (λ m n. signed a.negative m +ℤ signed b.negative n) c.in_ok-checked_mul.ensures.1 c.in_ok-checked_mul-2.ensures.1)
    c.in_ok-denominator.ensures.1
    ∙ sum a.negative b.negative a.numerator b.numerator a.denominator b.denominator g a.positive b.positive
    (mul-pos a.positive (positive_part g b.denominator c.gcd-divisor.ensures.greatest.1 b.positive))
    c.gcd-divisor.ensures.greatest.0 c.gcd-divisor.ensures.greatest.1
