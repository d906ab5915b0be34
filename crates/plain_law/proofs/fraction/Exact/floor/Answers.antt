use Rattle.std.proofs.Common.{sym, ◌∙◌, arith, inl, inr}
use Rattle.std.proofs.lemmas.Bool.{true≢false}
use Rattle.plain_law.specs.Numbers.{number}
use Rattle.plain_law.proofs.Floor.{floor_negative, floor_not_negative}
use Rattle.plain_law.proofs.fraction.Exact.floor.Goals as goal

pub returns-then-self-gt0 : goal.returns-then-self-gt0
unfolding number
returns-then-self-gt0 c =
    c.of_size.ensures
    ∙ floor_negative c.args.self.negative c.args.self.numerator c.args.self.denominator c.args.self.positive c.if-self.true c.if-self-gt0.true

pub returns : goal.returns
unfolding number
returns c =
    c.of_size-2.ensures
    ∙ floor_not_negative c.args.self.negative c.args.self.numerator c.args.self.denominator c.args.self.positive
    (λ h. elim c.else-self.either [ inl w ↦ omega (arith, w.1) | inr w ↦ absurd (true≢false (sym h ∙ w)) ])
