use Rattle.std.specs.Prelude.{refl, ◌≡◌, ◌+◌, ◌/◌, ◌<◌}
use Rattle.std.proofs.Common.{arith, sym, ap, ◌∙◌}
use Rattle.fixed_interval.specs.Rules.{square_span}
use Rattle.fixed_interval.specs.Powers.{power_span, power_steps, then_span}
use Rattle.fixed_interval.proofs.Halving.{power_one, steps_one, even_answer, odd_answer, steps_even, steps_odd, steps_of_square, none_after_half, none_of_half, some_of_ok, none_of_err, anyway}
use Rattle.fixed_interval.proofs.products.+whole_power.Goals as goal

pub returns-then-k-eq1-clause-span : goal.returns-then-k-eq1-clause-span
returns-then-k-eq1-clause-span g t c = let h = c.if-k-eq1.true in rw (h, power_one c.args.a.now) refl

pub returns-then-k-eq1-clause-ticks : goal.returns-then-k-eq1-clause-ticks
returns-then-k-eq1-clause-ticks g t c = let h = c.if-k-eq1.true in rw (h, steps_one) (omega arith)

pub returns-in_default-clause-span : goal.returns-in_default-clause-span
returns-in_default-clause-span g t c =
    let above : 1 < c.args.k = omega arith in
    let none = none_of_err (power_span c.args.a.now (c.args.k / 2)) _ _ (sym c.in_default.is ∙ c.whole_power.ensures.span) in
    rw (none_of_half c.args.a.now c.args.k above none) refl

pub returns-in_default-clause-most_ticks : goal.returns-in_default-clause-most_ticks
returns-in_default-clause-most_ticks g t c =
    let above : 1 < c.args.k = omega arith in
    omega (arith, steps_of_square c.args.k above, c.whole_power.ensures.most_ticks)

pub returns-in_default-sqr-clause-span : goal.returns-in_default-sqr-clause-span
returns-in_default-sqr-clause-span g t c =
    let above : 1 < c.args.k = omega arith in
    let half = some_of_ok (power_span c.args.a.now (c.args.k / 2)) _ c.in-Ok.half (sym c.in-Ok.is ∙ c.whole_power.ensures.span) in
    let none = none_of_err (square_span c.in-Ok.half) _ _ (sym c.in_default-sqr.is ∙ c.sqr.ensures.span) in
    rw (none_after_half c.args.a.now c.args.k above (ap (λ o. then_span o square_span) half ∙ none)) refl

pub returns-in_default-sqr-clause-most_ticks : goal.returns-in_default-sqr-clause-most_ticks
returns-in_default-sqr-clause-most_ticks g t c =
    let above : 1 < c.args.k = omega arith in
    omega (arith, steps_of_square c.args.k above, c.whole_power.ensures.most_ticks, c.sqr.ensures.ticks)

pub returns-then-k-eq0-clause-span : goal.returns-then-k-eq0-clause-span
returns-then-k-eq0-clause-span g t c =
    let above : 1 < c.args.k = omega arith in
    let half = some_of_ok (power_span c.args.a.now (c.args.k / 2)) _ c.in-Ok.half (sym c.in-Ok.is ∙ c.whole_power.ensures.span) in
    let even = some_of_ok (square_span c.in-Ok.half) _ c.in-Ok-sqr.even (sym c.in-Ok-sqr.is ∙ c.sqr.ensures.span) in
    rw (even_answer c.args.a.now c.in-Ok.half c.in-Ok-sqr.even c.args.k above c.if-k-eq0.true half even) refl

pub returns-then-k-eq0-clause-ticks : goal.returns-then-k-eq0-clause-ticks
returns-then-k-eq0-clause-ticks g t c =
    let above : 1 < c.args.k = omega arith in
    omega (arith, steps_even c.args.k above c.if-k-eq0.true, c.in-Ok.ensures.ticks, c.sqr.ensures.ticks)

pub returns-then-k-eq0-clause-most_ticks : goal.returns-then-k-eq0-clause-most_ticks
returns-then-k-eq0-clause-most_ticks g t c = let e = returns-then-k-eq0-clause-ticks g t c in omega arith

pub returns-clause-span : goal.returns-clause-span
returns-clause-span g t c =
    let above : 1 < c.args.k = omega arith in
    let half = some_of_ok (power_span c.args.a.now (c.args.k / 2)) _ c.in-Ok.half (sym c.in-Ok.is ∙ c.whole_power.ensures.span) in
    let even = some_of_ok (square_span c.in-Ok.half) _ c.in-Ok-sqr.even (sym c.in-Ok-sqr.is ∙ c.sqr.ensures.span) in
    rw (odd_answer c.args.a.now c.in-Ok.half c.in-Ok-sqr.even c.args.k above c.if-k-eq0.false half even) c.mul.ensures.span

pub returns-clause-ticks : goal.returns-clause-ticks
returns-clause-ticks g t c =
    let above : 1 < c.args.k = omega arith in
    let ticks : c.mul.new.steps ≡ c.args.steps.now + power_steps c.args.k =
    omega (arith, steps_odd c.args.k above c.if-k-eq0.false, c.in-Ok.ensures.ticks, c.sqr.ensures.ticks, c.mul.ensures.ticks) in
    anyway c.mul.result (λ _. c.mul.new.steps ≡ c.args.steps.now + power_steps c.args.k) (λ _. ticks)

pub returns-clause-most_ticks : goal.returns-clause-most_ticks
returns-clause-most_ticks g t c =
    let above : 1 < c.args.k = omega arith in
    omega (arith, steps_odd c.args.k above c.if-k-eq0.false, c.in-Ok.ensures.ticks, c.sqr.ensures.ticks, c.mul.ensures.ticks)
