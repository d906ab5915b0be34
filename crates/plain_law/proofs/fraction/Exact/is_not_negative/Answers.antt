use Rattle.std.specs.Prelude.{◌||◌, not, nat_eq}
use Rattle.std.proofs.Common.{sym, ◌∙◌, ap}
use Rattle.plain_law.specs.Numbers.{number}
use Rattle.plain_law.proofs.Quotient.{sign_test}
use Rattle.plain_law.proofs.fraction.Exact.is_not_negative.Goals as goal

pub returns-then-self : goal.returns-then-self
unfolding number
returns-then-self c =
    let e = c.args.self in
    ap (λ b. not b || nat_eq e.numerator 0) (sym c.if-self.true) ∙ sign_test e.negative e.numerator e.denominator e.positive

pub returns : goal.returns
unfolding number
returns c =
    let e = c.args.self in
    ap (λ b. not b || nat_eq e.numerator 0) (sym c.if-self.false) ∙ sign_test e.negative e.numerator e.denominator e.positive
