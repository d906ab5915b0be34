use Rattle.std.proofs.Common.{refl}
use std.Quotient.{/_rec, /_rec₂}
use Rattle.exact_fraction.specs.Fraction.{◌⊕◌, ◌⊗◌, negated, inverse, is_at_most, floor}
use Rattle.exact_fraction.specs.Number.{◌+ℚ◌, ◌*ℚ◌, neg_ℚ, inv_ℚ, is_at_most_ℚ, floor_ℚ}
use Rattle.exact_fraction.specs.Sums.{total, below}
use Rattle.exact_law.specs.Law.{mean}
use Rattle.decimal18.specs.Bound.{value_of}
use Rattle.decimal18.specs.Down.{is_in_range, cut_off, down, up}
use Rattle.fixed_interval.specs.Interval.{outward}
use Rattle.value_cache.specs.Evaluations.{evaluation_of}
use Rattle.value_cache.proofs.laws.worked_columns.Goals as goal

pub returns-clause-five : goal.returns-clause-five
unfolding ◌⊕◌ ◌⊗◌ negated inverse is_at_most floor ◌+ℚ◌ ◌*ℚ◌ neg_ℚ inv_ℚ is_at_most_ℚ floor_ℚ total below mean value_of is_in_range cut_off down up outward evaluation_of /_rec₂ /_rec
returns-clause-five c = refl

pub returns-clause-eleven : goal.returns-clause-eleven
unfolding ◌⊕◌ ◌⊗◌ negated inverse is_at_most floor ◌+ℚ◌ ◌*ℚ◌ neg_ℚ inv_ℚ is_at_most_ℚ floor_ℚ total below mean value_of is_in_range cut_off down up outward evaluation_of /_rec₂ /_rec
returns-clause-eleven c = refl
