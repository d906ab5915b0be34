-- Sensitivities (JCGM 100:2008, 5.1.3) as spans, by the keys of the quantities to which they are.
use Rattle.std.specs.Prelude.{ℕ, List, Option, nat_eq}
use Rattle.std.specs.Map.{lookup}
use Rattle.std.specs.Option.{unwrap_or}
use Rattle.exact_fraction.specs.Number.{ℚ}
use Rattle.fixed_interval.specs.Interval.{Interval, Encloses}
use Rattle.fixed_interval.specs.Sums.{zero_span}

-- the spans that there are. A key without one is outside the cone of the quantity, which does not depend on it
abbrev pub Spans : Type 0 → Type 0
Spans K = K → Option Interval

-- the span of the sensitivity to k: the point 0 outside the cone
abbrev pub sensitivity : {K : Type 0} → Spans K → K → Interval
sensitivity y k = unwrap_or (y k) zero_span

-- each span encloses the exact sensitivity
abbrev pub AllEnclose : {K : Type 0} → Spans K → (K → ℚ) → Type 0
AllEnclose y u = (k : _) → Encloses (sensitivity y k) (u k)

-- what the code keeps: numbers of quantities, each with its span
abbrev pub Gradient : Type 0
Gradient = List (ℕ × Interval)

abbrev pub found_at : Gradient → Spans ℕ
found_at y n = lookup (nat_eq n) y
