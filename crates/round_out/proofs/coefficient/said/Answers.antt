use Rattle.std.specs.Prelude.{◌≡◌, ◌⊎◌, pos, ◌≤ℤ◌}
use Rattle.std.proofs.Common.{rules, subst, sym, inl, inr}
use Rattle.exact_fraction.specs.Number.{of_ℤ, ◌≤ℚ◌}
use Rattle.exact_fraction.specs.NumberLaws.{≤ℚ_trans}
use Rattle.exact_law.specs.Rounding.{IsHundredths}
use Rattle.decimal18.specs.Bound.{value_of}
use Rattle.round_out.specs.Correlations.{IsSettled}
use Rattle.round_out.proofs.Said.{plus, minus, ends_differ, no_sign}
use Rattle.round_out.proofs.coefficient.said.Goals as goal
use Rattle.round_out.proofs.coefficient.said.Goals.{then-size-eq0-via-then-size-eq0, then-size-eq0-via-else-size-eq0+then-coefficient-ge0}

pub hundredths_of-size-requires-clause-at_most_one : goal.hundredths_of-size-requires-clause-at_most_one
hundredths_of-size-requires-clause-at_most_one c =
    subst (λ b. value_of b ≤ℚ of_ℤ (pos 1)) (sym c.lo.ensures.value) (≤ℚ_trans _ _ _ c.lo.ensures.ordered.ordered c.requires.high)

pub hundredths_of-requires-clause-not_negative : goal.hundredths_of-requires-clause-not_negative
hundredths_of-requires-clause-not_negative c =
    subst (λ b. of_ℤ (pos 0) ≤ℚ value_of b) (sym c.hi.ensures.value) (≤ℚ_trans _ _ _ c.requires.low c.lo.ensures.ordered.ordered)

pub returns-then-size-hundredths_of : goal.returns-then-size-hundredths_of
returns-then-size-hundredths_of c =
    ends_differ c.args.c.now c.args.square.now c.hundredths_of-size.result c.hundredths_of.result (search rules) (search rules) (search rules)

pub returns-then-size-eq0 : goal.returns-then-size-eq0
returns-then-size-eq0 c =
    let low : IsHundredths (value_of c.args.square.now.lo) c.hundredths_of-size.result = search rules in
    let high : IsHundredths (value_of c.args.square.now.hi) c.hundredths_of-size.result = search rules in
    let sign : (c.hundredths_of-size.result ≡ 0) ⊎ (pos 0 ≤ℤ c.args.c.now.lo.coefficient) =
    elim c.then-size-eq0.branch [
      | then-size-eq0-via-then-size-eq0 w ↦ inl (search rules)
      | then-size-eq0-via-else-size-eq0+then-coefficient-ge0 w ↦ inr (search rules)
    ] in
    subst (λ d. IsSettled c.args.c.now c.args.square.now d) (search rules) (plus c.args.c.now c.args.square.now c.hundredths_of-size.result low high sign)

pub returns-then-coefficient-le0 : goal.returns-then-coefficient-le0
returns-then-coefficient-le0 c =
    let low : IsHundredths (value_of c.args.square.now.lo) c.hundredths_of-size.result = search rules in
    let high : IsHundredths (value_of c.args.square.now.hi) c.hundredths_of-size.result = search rules in
    subst (λ d. IsSettled c.args.c.now c.args.square.now d) (search rules)
    (minus c.args.c.now c.args.square.now c.hundredths_of-size.result low high (search rules) (search rules))

pub returns : goal.returns
returns c =
    let low : IsHundredths (value_of c.args.square.now.lo) c.hundredths_of-size.result = search rules in
    no_sign c.args.c.now c.args.square.now c.hundredths_of-size.result low (search rules) (search rules) (search rules)
