use Rattle.std.specs.Prelude.{refl}
use Rattle.std.proofs.Common.{arith, sym, ◌∙◌, eq-eqb}
use Rattle.std.proofs.lemmas.Bool.{true≢false, ne_eqb}
use Rattle.plain_law.specs.Numbers.{number}
use Rattle.plain_law.proofs.Quotient.{inverted, zero_test}
use Rattle.plain_law.proofs.fraction.Exact.inverse.Goals as goal

pub returns-then-self-eq0-clause-undefined : goal.returns-then-self-eq0-clause-undefined
unfolding number
returns-then-self-eq0-clause-undefined c =
    let e = c.args.self in
    (λ _. sym (zero_test e.negative e.numerator e.denominator e.positive) ∙ eq-eqb e.numerator 0 (omega arith), λ _. refl)

pub returns-clause-undefined : goal.returns-clause-undefined
unfolding number
returns-clause-undefined c =
    let e = c.args.self in (
      λ h. absurd (true≢false h),
      λ h. absurd (true≢false (sym h ∙ sym (zero_test e.negative e.numerator e.denominator e.positive) ∙ ne_eqb e.numerator 0 (λ k. omega arith))),
    )

pub returns-clause-inverse : goal.returns-clause-inverse
unfolding number
returns-clause-inverse c = inverted c.args.self.negative c.args.self.numerator c.args.self.denominator c.args.self.positive (omega arith)

pub returns-clause-not_zero : goal.returns-clause-not_zero
unfolding number
returns-clause-not_zero c =
    let e = c.args.self in
    sym (zero_test e.negative e.numerator e.denominator e.positive) ∙ ne_eqb e.numerator 0 (λ k. omega arith)
