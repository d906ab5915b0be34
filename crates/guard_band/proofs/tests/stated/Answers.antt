use Rattle.std.specs.Prelude.{◌≡◌, pos, refl}
use std.Quotient.{/_rec, /_rec₂}
use Rattle.exact_fraction.specs.Fraction.{is_at_most}
use Rattle.exact_fraction.specs.Number.{of_ℤ, is_at_most_ℚ, ◌≤ℚ◌, ◌<ℚ◌}
use Rattle.decimal18.specs.Bound.{Bound, scaled, value_of}
use Rattle.fixed_interval.specs.Interval.{Interval, point_span}
use Rattle.guard_band.proofs.tests.stated.Goals as goal

not_below_zero : (b : Bound) → b ≡ scaled (pos 1) 0 → of_ℤ (pos 0) ≤ℚ value_of b
unfolding is_at_most_ℚ is_at_most value_of /_rec₂ /_rec
not_below_zero b e = rw e (record { holds = refl })

not_above_three : (b : Bound) → b ≡ scaled (pos 1) 0 → value_of b ≤ℚ of_ℤ (pos 3)
unfolding is_at_most_ℚ is_at_most value_of /_rec₂ /_rec
not_above_three b e = rw e (record { holds = refl })

low_not_below_zero : (s : Interval) (b : Bound) → s ≡ point_span b → b ≡ scaled (pos 1) 0 → of_ℤ (pos 0) ≤ℚ value_of s.lo
low_not_below_zero s b e f = rw e (not_below_zero b f)

low_above_zero : (s : Interval) (b : Bound) → s ≡ point_span b → b ≡ scaled (pos 2) 0 → of_ℤ (pos 0) <ℚ value_of s.lo
unfolding is_at_most_ℚ is_at_most value_of /_rec₂ /_rec
low_above_zero s b e f = rw (e, f) (record { not_above = refl })

pub statement-requires : goal.statement-requires
statement-requires g c = record {
  rule = record { limit = refl; least = not_below_zero c.whole-3.result c.whole-3.ensures; most = not_above_three c.whole-3.result c.whole-3.ensures };
  variance = low_not_below_zero c.point-v.result c.whole-5.result c.point-v.ensures.span c.whole-5.ensures;
  factor = low_above_zero c.point-k.result c.whole-6.result c.point-k.ensures.span c.whole-6.ensures;
}
