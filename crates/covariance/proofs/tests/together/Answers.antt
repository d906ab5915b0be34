use Rattle.std.specs.Prelude.{ℕ, pos, refl}
use Rattle.std.proofs.Common.{sym, subst}
use std.Quotient.{/_rec, /_rec₂}
use Rattle.exact_fraction.specs.Fraction as fraction
use Rattle.exact_fraction.specs.Fraction.{is_at_most}
use Rattle.exact_fraction.specs.Number.{neg_ℚ, is_at_most_ℚ}
use Rattle.decimal18.specs.Bound.{scaled, value_of}
use Rattle.type_b.specs.declared.shape.Shape.TheVariants.{Std}
use Rattle.covariance.specs.Groups.{IsRegular, Pair}
use Rattle.covariance.proofs.tests.together.Goals as goal

-- the pair where the number is 1
of_one : IsRegular {K = ℕ} (Pair 1 (Std (scaled (pos 1) 0)) 2 (Std (scaled (pos 1) 0)) (scaled (pos 1) 0))
unfolding is_at_most_ℚ is_at_most neg_ℚ fraction.negated value_of /_rec₂ /_rec
of_one = (refl, refl, refl, refl, record { holds = refl }, record { holds = refl })

pub returns : goal.returns
returns c = subst (λ d. IsRegular {K = ℕ} (Pair 1 (Std d) 2 (Std d) d)) (sym c.whole-one.ensures) of_one
