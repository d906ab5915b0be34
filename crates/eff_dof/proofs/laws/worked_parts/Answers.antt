use Rattle.std.specs.Prelude.{refl}
use Rattle.std.proofs.lemmas.Bool.{false≢true}
use std.Quotient.{/_rec, /_rec₂}
use Rattle.exact_fraction.specs.Fraction.{is_at_most}
use Rattle.exact_fraction.specs.Number.{is_at_most_ℚ}
use Rattle.decimal18.specs.Bound.{value_of}
use Rattle.decimal18.specs.OrderLaws.{not_at_most}
use Rattle.eff_dof.proofs.laws.worked_parts.Goals as goal

pub returns-clause-part : goal.returns-clause-part
unfolding is_at_most_ℚ is_at_most value_of /_rec₂ /_rec
returns-clause-part c = (
  record { not_negative = record { holds = refl }; degrees = refl },
  (record { not_negative = record { holds = refl }; degrees = refl }, tt),
)

pub returns-clause-negative : goal.returns-clause-negative
unfolding is_at_most_ℚ is_at_most value_of /_rec₂ /_rec
returns-clause-negative c = λ h. not_at_most _ _ refl (h.0).not_negative

pub returns-clause-percent : goal.returns-clause-percent
returns-clause-percent c = λ h. false≢true (h.0).degrees

pub returns-clause-within : goal.returns-clause-within
unfolding is_at_most_ℚ is_at_most value_of /_rec₂ /_rec
returns-clause-within c =
    (record { variance = record { low = record { holds = refl }; high = record { holds = refl } }; degrees = refl }, tt)

pub returns-clause-greater : goal.returns-clause-greater
unfolding is_at_most_ℚ is_at_most value_of /_rec₂ /_rec
returns-clause-greater c = λ h. not_at_most _ _ refl (h.0).variance.high

pub returns-clause-fewer : goal.returns-clause-fewer
returns-clause-fewer c = λ h. h
