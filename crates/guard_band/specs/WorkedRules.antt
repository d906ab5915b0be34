-- Rules and spans of the worked statements.
use Rattle.std.specs.Prelude.{Option, None, Some, ℤ, pos}
use Rattle.exact_law.specs.WrittenRule.{Decision}
use Rattle.decimal18.specs.Bound.{scaled}
use Rattle.fixed_interval.specs.Interval.{Interval, point_span}
use Rattle.guard_band.specs.declared.rule.Form.{Form}
use Rattle.guard_band.specs.declared.rule.Form.TheVariants.{Four}
use Rattle.guard_band.specs.declared.rule.Rule.{Rule}
use Rattle.guard_band.specs.Statements.{decision_over}

-- the limits 0 and 20, and a guard band of half an expanded uncertainty
abbrev pub between : Form → Rule
between form = record { lower = Some (scaled (pos 0) 0); upper = Some (scaled (pos 20) 0); guard = scaled (pos 5) 1; form = form }

-- one of these limits alone
abbrev pub lower_alone : Rule
lower_alone = record { lower = Some (scaled (pos 0) 0); upper = None; guard = scaled (pos 5) 1; form = Four }

abbrev pub upper_alone : Rule
upper_alone = record { lower = None; upper = Some (scaled (pos 20) 0); guard = scaled (pos 5) 1; form = Four }

-- the limits without a guard band
abbrev pub without_guard : Rule
without_guard = record { lower = Some (scaled (pos 0) 0); upper = Some (scaled (pos 20) 0); guard = scaled (pos 0) 0; form = Four }

abbrev pub whole : ℤ → Interval
whole z = point_span (scaled z 0)

abbrev pub from_to : ℤ → ℤ → Interval
from_to a b = record { lo = scaled a 0; hi = scaled b 0 }

-- what is decided of an estimate with the variance 4 and the factor 3: by half an expanded uncertainty the guard band is 3
abbrev pub decided_of : Rule → Interval → Option Decision
decided_of rule y = decision_over rule y (whole (pos 4)) (whole (pos 3))
