-- Parts of a variance, each with its degrees of freedom (JCGM 100:2008, G.4.1), and which exact ones they may be.
use Rattle.std.specs.Prelude.{◌≡◌, List, [], ◌∷◌, pos}
use Rattle.exact_fraction.specs.Number.{of_ℤ, ◌≤ℚ◌}
use Rattle.exact_fraction.specs.Sums.{total}
use Rattle.decimal18.specs.Bound.{value_of}
use Rattle.fixed_interval.specs.Interval.{Interval, Encloses, IsOrdered}
use Rattle.type_b.specs.Shapes.{IsDegrees, inverse_degrees}
use Rattle.exact_law.specs.Degrees.{Share, Degrees, effective}
use Rattle.eff_dof.specs.declared.part.Part.{Part}

abbrev pub AllParts : (Part → Type 0) → List Part → Type 0
AllParts P [] = Unit {0}
AllParts P (p ∷ ps) = P p × AllParts P ps

-- the variance is not negative, and the degrees are in their range
pub record IsPart (p : Part) : Type 0 where
  pub not_negative : of_ℤ (pos 0) ≤ℚ value_of p.variance.lo
  pub degrees : IsDegrees p.dof

abbrev pub AreParts : List Part → Type 0
AreParts ps = AllParts IsPart ps

-- what every span is
abbrev pub AreOrdered : List Part → Type 0
AreOrdered ps = AllParts (λ p. IsOrdered p.variance) ps

-- a part of which a whole with this span can be the sum
pub record IsPartOf (whole : Interval) (p : Part) : Type 0 where
  pub part : IsPart p
  pub within : value_of p.variance.lo ≤ℚ value_of whole.hi

-- ---- exact parts
pub record IsShareOf (p : Part) (s : Share) : Type 0 where
  pub variance : Encloses p.variance s.part
  pub degrees : s.inverse_degrees ≡ inverse_degrees p.dof

-- the parts may be these
abbrev pub AreSharesOf : List Part → List Share → Type 0
AreSharesOf [] [] = Unit {0}
AreSharesOf [] (s ∷ ss) = ⊥
AreSharesOf (p ∷ ps) [] = ⊥
AreSharesOf (p ∷ ps) (s ∷ ss) = IsShareOf p s × AreSharesOf ps ss

-- the effective degrees of freedom of their sum
abbrev pub exact_degrees : List Share → Degrees
exact_degrees ss = effective (total (λ s. s.part) ss) ss
