use Rattle.std.specs.Prelude.{pos}
use Rattle.std.proofs.Common.{◌∙◌, ap, ap₂}
use Rattle.std.proofs.Math.Nat.{mul-pos}
use Rattle.exact_fraction.specs.Number.{of_ℤ, ◌*ℚ◌, ◌/ℚ◌}
use Rattle.plain_law.specs.Numbers.{number, signed, differ}
use Rattle.plain_law.proofs.Quotient.{product, crossed}
use Rattle.plain_law.proofs.fraction.Exact.times.Goals as goal

pub returns : goal.returns
unfolding number
returns c =
    let a = c.args.self in
    let b = c.args.other in
    let l = c.reduced-left.result in
    let r = c.reduced-right.result in
    ap (λ s. of_ℤ (signed s c.in_ok-numerator.numerator) /ℚ of_ℤ (pos c.in_ok-denominator.denominator)) c.differ.ensures
    ∙ ap₂ (λ n d. of_ℤ (signed (differ l.negative r.negative) n) /ℚ of_ℤ (pos d)) c.in_ok-numerator.ensures.1 c.in_ok-denominator.ensures.1
    ∙ product l.negative r.negative l.numerator r.numerator l.denominator r.denominator l.positive r.positive (mul-pos l.positive r.positive)
    ∙ ap₂ ◌*ℚ◌ c.reduced-left.ensures c.reduced-right.ensures
    ∙ crossed (of_ℤ (signed a.negative a.numerator)) (of_ℤ (pos a.denominator)) (of_ℤ (signed b.negative b.numerator)) (of_ℤ (pos b.denominator))
