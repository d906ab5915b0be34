use Rattle.std.specs.Prelude.{refl}
use Rattle.std.proofs.lemmas.Bool.{false≢true}
use std.Quotient.{/_rec, /_rec₂}
use Rattle.exact_fraction.specs.Fraction as fraction
use Rattle.exact_fraction.specs.Fraction.{◌⊕◌, ◌⊗◌, is_at_most}
use Rattle.exact_fraction.specs.Number.{◌+ℚ◌, ◌*ℚ◌, neg_ℚ, is_at_most_ℚ}
use Rattle.exact_law.specs.WrittenRule.{above_lower, below_upper, distances, guard_square, is_inside, is_guarded, is_near, all_of, stated_by, stated_at, stated}
use Rattle.decimal18.specs.Bound.{value_of}
use Rattle.decimal18.specs.OrderLaws.{not_at_most}
use Rattle.guard_band.proofs.laws.worked_rules.Goals as goal

pub returns : goal.returns
unfolding above_lower below_upper distances guard_square is_inside is_guarded is_near all_of stated_by stated_at stated value_of ◌+ℚ◌ ◌*ℚ◌ neg_ℚ is_at_most_ℚ ◌⊕◌ ◌⊗◌ fraction.negated is_at_most /_rec₂ /_rec
returns c = record {
  between = record { limit = refl; least = record { holds = refl }; most = record { holds = refl } };
  lower = record { limit = refl; least = record { holds = refl }; most = record { holds = refl } };
  upper = record { limit = refl; least = record { holds = refl }; most = record { holds = refl } };
  no_limit = λ h. false≢true h.limit;
  below_zero = λ h. not_at_most _ _ refl h.least;
  above_three = λ h. not_at_most _ _ refl h.most;
  exact = refl;
  exact_upper = refl;
  exact_lower = refl;
  exact_binary = refl;
}
