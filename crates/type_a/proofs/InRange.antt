-- The mean and the covariance of the means are in the range of bounds.
use Rattle.std.specs.Prelude.{◌≡◌, ℕ, zero, suc, ◌-◌, ◌*◌, ◌^◌, ◌<◌, ◌≤◌, false, None, ℤ, pos, negsuc, ◌*ℤ◌, neg_ℤ, ◌≤ℤ◌, unsigned_abs, length, refl}
use std.Quotient.{/_rec, /_rec₂}
use Rattle.std.proofs.Common.{subst, arith}
use Rattle.std.proofs.Math.Dec.{lit≤, lit<}
use Rattle.std.proofs.Math.Nat.{one-le-pow, le_trans}
use Rattle.std.proofs.Math.Pow.{pow-add}
use Rattle.std.proofs.lemmas.Int.{ints}
use Rattle.exact_fraction.specs.Fraction.{Fraction, ◌⊗◌, negated, is_at_most}
use Rattle.exact_fraction.specs.Number.{ℚ, number_of, of_ℤ, ◌*ℚ◌, neg_ℚ, ◌≤ℚ◌, is_at_most_ℚ}
use Rattle.exact_fraction.specs.NumberLaws.{≤ℚ_trans, *ℚ_comm, ≤ℚ-of_≼}
use Rattle.exact_fraction.proofs.Quotients.{positive_not_zero}
use Rattle.exact_fraction.proofs.Signs.{whole-not_negative}
use Rattle.exact_fraction.proofs.Within.{Within, within_quotient, within_as, within_total}
use Rattle.exact_law.specs.Law.{mean}
use Rattle.exact_law.proofs.JointMeans.{within_joint}
use Rattle.decimal18.specs.Bound.{Bound, fraction_of, value_of}
use Rattle.decimal18.specs.Down.{IsInRange, top}
use Rattle.type_a.specs.Tables.{Table, width_of, finest, reading_at, is_wide, refusal}
use Rattle.type_a.specs.Statistics.{exact_reading, exact_mean, exact_joint}
use Rattle.type_a.proofs.Sizes.{great_not, small_coefficient, size_of_coefficient}
use Rattle.type_a.proofs.Accepted.{narrow_at, at_least_two}

-- ---- a reading
-- the greatest magnitude of a reading: 10^9 less 10^-6
most_fraction : Fraction
most_fraction = record { num = pos 999999999999999; den = 1000000; positive = lit< tt }

most : ℚ
unfolding most_fraction
most = number_of most_fraction

-- in units of 10^-6, where t is 10 to the number of places
sizes : (n t : ℕ) → n < 10 ^ 15 → n < 10 ^ 9 * t → n * 1000000 ≤ 999999999999999 * t
sizes n t h g = omega (arith, h, g)

low_by : (c : ℤ) (t : ℕ) → unsigned_abs c * 1000000 ≤ 999999999999999 * t → (neg_ℤ (pos 999999999999999) *ℤ pos t) ≤ℤ (c *ℤ pos 1000000)
low_by (pos a) t h = omega (arith, ints)
low_by (negsuc a) t h = omega (arith, ints)

high_by : (c : ℤ) (t : ℕ) → unsigned_abs c * 1000000 ≤ 999999999999999 * t → (c *ℤ pos 1000000) ≤ℤ (pos 999999999999999 *ℤ pos t)
high_by (pos a) t h = omega (arith, ints)
high_by (negsuc a) t h = omega (arith, ints)

within_by : (b : Bound) → unsigned_abs b.coefficient * 1000000 ≤ 999999999999999 * 10 ^ b.places → Within (value_of b) most
unfolding value_of most most_fraction neg_ℚ negated /_rec
within_by b h = record {
  low = ≤ℚ-of_≼ (negated most_fraction) (fraction_of b) (record { at_most = low_by b.coefficient (10 ^ b.places) h });
  high = ≤ℚ-of_≼ (fraction_of b) most_fraction (record { at_most = high_by b.coefficient (10 ^ b.places) h });
}

no_larger : (n t : ℕ) → 0 < t → n ≤ n * t
no_larger n zero h = absurd (omega (arith, h))
no_larger n (suc t) h = omega arith

value_within : (p : ℕ) (b : Bound) → is_wide p b ≡ false → Within (value_of b) most
value_within p b h =
    let k = p - b.places in
    let small : unsigned_abs b.coefficient * 10 ^ k < 10 ^ 15 = subst (λ n. n < 10 ^ 15) (size_of_coefficient p b) (small_coefficient p b h) in
    let less : unsigned_abs b.coefficient ≤ unsigned_abs b.coefficient * 10 ^ k = no_larger (unsigned_abs b.coefficient) (10 ^ k) (one-le-pow k 10 (lit≤ tt)) in
    let digits : unsigned_abs b.coefficient < 10 ^ 15 = omega (arith, small, less) in
    let size : unsigned_abs b.coefficient < 10 ^ 9 * 10 ^ b.places = subst (λ n. unsigned_abs b.coefficient < n) (pow-add 10 9 b.places) (great_not p b h) in
    within_by b (sizes (unsigned_abs b.coefficient) (10 ^ b.places) digits size)

reading_within : (t : Table) → refusal t ≡ None → (column : ℕ) → column < width_of t → (row : ℕ) → row < length t → Within (exact_reading t column row) most
reading_within t h column k row l = value_within (finest t) (reading_at t row column) (narrow_at t h row column l k)

-- ---- the range of bounds
most_low : of_ℤ (neg_ℤ top) ≤ℚ neg_ℚ most
unfolding most most_fraction neg_ℚ negated is_at_most_ℚ is_at_most /_rec /_rec₂
most_low = record { holds = refl }

most_high : most ≤ℚ of_ℤ top
unfolding most most_fraction is_at_most_ℚ is_at_most /_rec /_rec₂
most_high = record { holds = refl }

square_low : of_ℤ (neg_ℤ top) ≤ℚ neg_ℚ (most *ℚ most)
unfolding most most_fraction ◌*ℚ◌ ◌⊗◌ neg_ℚ negated is_at_most_ℚ is_at_most /_rec /_rec₂
square_low = record { holds = refl }

square_high : (most *ℚ most) ≤ℚ of_ℤ top
unfolding most most_fraction ◌*ℚ◌ ◌⊗◌ is_at_most_ℚ is_at_most /_rec /_rec₂
square_high = record { holds = refl }

within_range : (x k : ℚ) → of_ℤ (neg_ℤ top) ≤ℚ neg_ℚ k → k ≤ℚ of_ℤ top → Within x k → IsInRange x
within_range x k l h g = record { low = ≤ℚ_trans _ _ _ l g.low; high = ≤ℚ_trans _ _ _ g.high h }

pub mean_in_range : (t : Table) → refusal t ≡ None → (column : ℕ) → column < width_of t → IsInRange (exact_mean t column)
unfolding mean
mean_in_range t h column k =
    let n = length t in
    within_range _ most most_low most_high
    (within_quotient _ most (of_ℤ (pos n)) (whole-not_negative n) (positive_not_zero n (le_trans (lit≤ tt) (at_least_two t h)))
    (within_as _ (of_ℤ (pos n) *ℚ most) _ (*ℚ_comm (of_ℤ (pos n)) most) (within_total (exact_reading t column) most n (reading_within t h column k))))

pub joint_in_range : (t : Table) → refusal t ≡ None → (a b : ℕ) → a < width_of t → b < width_of t → IsInRange (exact_joint t a b)
joint_in_range t h a b k m =
    within_range _ (most *ℚ most) square_low square_high
    (within_joint (exact_reading t a) (exact_reading t b) most (length t) (at_least_two t h) (reading_within t h a k) (reading_within t h b m))
