-- Small inputs and groups, by which the definitions can be read.
use Rattle.std.specs.Prelude.{codes, ℤ, pos, negsuc}
use Rattle.decimal18.specs.Bound.{scaled}
use Rattle.fixed_interval.specs.Interval.{Interval, point_span}
use Rattle.budget_table.specs.declared.part.BudgetInput.{BudgetInput}
use Rattle.budget_table.specs.declared.part.GroupPart.{GroupPart}

abbrev pub whole : ℤ → Interval
whole z = point_span (scaled z 0)

abbrev pub from_to : ℤ → ℤ → Interval
from_to a b = record { lo = scaled a 0; hi = scaled b 0 }

-- X is 5 with the variance 4, and the sensitivity to it is -3
abbrev pub known : BudgetInput
known = record { name = codes "X"; value = whole (pos 5); variance = whole (pos 4); sens = whole (negsuc 2) }

-- Z is from 1 to 2 with a variance from 4 to 5, and the sensitivity to it is from -3 to 2
abbrev pub wide : BudgetInput
wide = record { name = codes "Z"; value = from_to (pos 1) (pos 2); variance = from_to (pos 4) (pos 5); sens = from_to (negsuc 2) (pos 2) }

-- an input with too great a variance, and one with too great a sensitivity
abbrev pub great : BudgetInput
great = record { name = codes "X"; value = whole (pos 5); variance = whole (pos 999999999999999999); sens = whole (pos 2) }

abbrev pub steep : BudgetInput
steep = record { name = codes "Z"; value = whole (pos 5); variance = whole (pos 0); sens = whole (pos 1000000000) }

-- two groups
abbrev pub first : GroupPart
first = record { name = codes "G"; variance = whole (pos 36) }

abbrev pub second : GroupPart
second = record { name = codes "H"; variance = from_to (pos 0) (pos 45) }
