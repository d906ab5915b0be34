use Rattle.std.specs.Prelude.{pos}
use Rattle.std.proofs.Common.{rules, sym, subst}
use Rattle.exact_fraction.specs.Number.{of_ℤ, ◌≤ℚ◌}
use Rattle.decimal18.specs.Bound.{value_of}
use Rattle.round_out.proofs.Tens.{none_below}
use Rattle.round_out.proofs.tests.variance.Goals as goal

pub returns : goal.returns
returns g c = subst (λ s. of_ℤ (pos 0) ≤ℚ value_of s.lo) (sym c.point.ensures.span) (none_below _ (search rules))
