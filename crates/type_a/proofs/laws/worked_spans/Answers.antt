use Rattle.std.proofs.Common.{refl}
use std.Quotient.{/_rec, /_rec₂}
use Rattle.exact_fraction.specs.Fraction.{◌⊕◌, ◌⊗◌, negated, inverse, is_at_most, floor}
use Rattle.exact_fraction.specs.Number.{◌+ℚ◌, ◌*ℚ◌, neg_ℚ, inv_ℚ, is_at_most_ℚ, floor_ℚ}
use Rattle.exact_fraction.specs.Sums.{total, below}
use Rattle.exact_law.specs.Law.{mean, joint}
use Rattle.decimal18.specs.Bound.{value_of}
use Rattle.decimal18.specs.Down.{is_in_range, cut_off, down, up}
use Rattle.fixed_interval.specs.Interval.{outward}
use Rattle.type_a.proofs.laws.worked_spans.Goals as goal

pub returns-clause-voltage : goal.returns-clause-voltage
unfolding ◌⊕◌ ◌⊗◌ negated inverse is_at_most floor ◌+ℚ◌ ◌*ℚ◌ neg_ℚ inv_ℚ is_at_most_ℚ floor_ℚ total below mean joint value_of is_in_range cut_off down up outward /_rec₂ /_rec
returns-clause-voltage c = refl

pub returns-clause-current : goal.returns-clause-current
unfolding ◌⊕◌ ◌⊗◌ negated inverse is_at_most floor ◌+ℚ◌ ◌*ℚ◌ neg_ℚ inv_ℚ is_at_most_ℚ floor_ℚ total below mean joint value_of is_in_range cut_off down up outward /_rec₂ /_rec
returns-clause-current c = refl

pub returns-clause-variance_of_voltage : goal.returns-clause-variance_of_voltage
unfolding ◌⊕◌ ◌⊗◌ negated inverse is_at_most floor ◌+ℚ◌ ◌*ℚ◌ neg_ℚ inv_ℚ is_at_most_ℚ floor_ℚ total below mean joint value_of is_in_range cut_off down up outward /_rec₂ /_rec
returns-clause-variance_of_voltage c = refl

pub returns-clause-variance_of_current : goal.returns-clause-variance_of_current
unfolding ◌⊕◌ ◌⊗◌ negated inverse is_at_most floor ◌+ℚ◌ ◌*ℚ◌ neg_ℚ inv_ℚ is_at_most_ℚ floor_ℚ total below mean joint value_of is_in_range cut_off down up outward /_rec₂ /_rec
returns-clause-variance_of_current c = refl

pub returns-clause-covariance : goal.returns-clause-covariance
unfolding ◌⊕◌ ◌⊗◌ negated inverse is_at_most floor ◌+ℚ◌ ◌*ℚ◌ neg_ℚ inv_ℚ is_at_most_ℚ floor_ℚ total below mean joint value_of is_in_range cut_off down up outward /_rec₂ /_rec
returns-clause-covariance c = refl

pub returns-clause-mean_of_eleven : goal.returns-clause-mean_of_eleven
unfolding ◌⊕◌ ◌⊗◌ negated inverse is_at_most floor ◌+ℚ◌ ◌*ℚ◌ neg_ℚ inv_ℚ is_at_most_ℚ floor_ℚ total below mean joint value_of is_in_range cut_off down up outward /_rec₂ /_rec
returns-clause-mean_of_eleven c = refl

pub returns-clause-variance_of_eleven : goal.returns-clause-variance_of_eleven
unfolding ◌⊕◌ ◌⊗◌ negated inverse is_at_most floor ◌+ℚ◌ ◌*ℚ◌ neg_ℚ inv_ℚ is_at_most_ℚ floor_ℚ total below mean joint value_of is_in_range cut_off down up outward /_rec₂ /_rec
returns-clause-variance_of_eleven c = refl
