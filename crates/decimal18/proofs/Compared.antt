-- The order of decimal numbers of different places.
use Rattle.std.specs.Prelude.{◌≡◌, ◌⊎◌, ℕ, zero, suc, ◌+◌, ◌*◌, ◌^◌, ◌<◌, ◌≤◌, min, ℤ, pos, negsuc, ◌*ℤ◌, ◌≤ℤ◌, ◌<ℤ◌, neg_ℤ, unsigned_abs}
use Rattle.std.proofs.Common.{sym, ap, subst, ◌∙◌, arith, inl, inr}
use Rattle.std.proofs.Math.Nat.{mul-le-mul_right, mul-le-mul_left}
use Rattle.std.proofs.lemmas.Int.{ints}
use Rattle.std.proofs.lemmas.Bool.{cases_lt}
use Rattle.std.proofs.lemmas.Cmp.{ranked}
use Rattle.std.specs.declared.cmp.Ordering.{Ordering}
use Rattle.std.specs.declared.cmp.Ordering.TheVariants.{Less, Equal, Greater}
use Rattle.std.specs.Ordering.{MatchOrdering, nat_cmp}
use Rattle.exact_fraction.specs.Ratio.{IsOrderOf}
use Rattle.decimal18.specs.Bound.{scaled, value_of}
use Rattle.decimal18.specs.Order.{compare_ℚ}
use Rattle.decimal18.specs.OrderLaws.{compare_ℚ-is}
use Rattle.decimal18.proofs.Values.{value-shifted}
use Rattle.decimal18.proofs.CutOff.{value-order}
use Rattle.decimal18.proofs.Counting.{powers_rise}

-- at one number of places the values are ordered as the coefficients are
same_places : (u v : ℤ) (q : ℕ) (r : Ordering) → MatchOrdering r (u <ℤ v) (u ≡ v) (v <ℤ u) → IsOrderOf r (value_of (scaled u q)) (value_of (scaled v q))
same_places u v q Less h = λ g. let f = value-order v u q g in absurd (omega (arith, ints))
same_places u v q Equal h = ap (λ z. value_of (scaled z q)) h
same_places u v q Greater h = λ g. let f = value-order u v q g in absurd (omega (arith, ints))

-- the answer for c at p places and d at q, where the first has k places less
pub compared : (c d : ℤ) (p q k : ℕ) (r : Ordering) → p + k ≡ q → MatchOrdering r ((c *ℤ pos (10 ^ k)) <ℤ d) ((c *ℤ pos (10 ^ k)) ≡ d) (d <ℤ (c *ℤ pos (10 ^ k)))
    → r ≡ compare_ℚ (value_of (scaled c p)) (value_of (scaled d q))
compared c d p q k r e h =
    let f : value_of (scaled (c *ℤ pos (10 ^ k)) q) ≡ value_of (scaled c p) = ap (λ n. value_of (scaled (c *ℤ pos (10 ^ k)) n)) (sym e) ∙ value-shifted c p k in
    sym (compare_ℚ-is (value_of (scaled c p)) (value_of (scaled d q)) r
    (subst (λ x. IsOrderOf r x (value_of (scaled d q))) f (same_places (c *ℤ pos (10 ^ k)) d q r h)))

pub level : (c d : ℤ) (p q : ℕ) (r : Ordering) → p ≡ q → MatchOrdering r (c <ℤ d) (c ≡ d) (d <ℤ c) → r ≡ compare_ℚ (value_of (scaled c p)) (value_of (scaled d q))
level c d p q r e h =
    sym (compare_ℚ-is (value_of (scaled c p)) (value_of (scaled d q)) r
    (subst (λ i. IsOrderOf r (value_of (scaled c p)) (value_of (scaled d i))) e (same_places c d p r h)))

-- ---- sizes: more than 19 zeros order no other way than 19
record IsSameOrder (m t n u : ℕ) : Type 0 where
  less : m * t < n → m * u < n
  equal : m * t ≡ n → m * u ≡ n
  greater : n < m * t → n < m * u

same_order : (m n k t : ℕ) → t ≡ 10 ^ min k 19 → n < 10 ^ 18 → IsSameOrder m t n (10 ^ k)
same_order m n k t e small = by (cases_lt 19 k) where
  by : (19 < k) ⊎ (k ≤ 19) → IsSameOrder m t n (10 ^ k)
  by (inr h) =
      let all : min k 19 ≡ k = omega arith in
      let same : t ≡ 10 ^ k = e ∙ ap (λ i. 10 ^ i) all in
      record {
        less = λ g. subst (λ i. m * i < n) same g;
        equal = λ g. ap (λ i. m * i) (sym same) ∙ g;
        greater = λ g. subst (λ i. n < m * i) same g;
      }
  by (inl h) = let nineteen : min k 19 ≡ 19 = omega arith in far m (10 ^ k) (e ∙ ap (λ i. 10 ^ i) nineteen) (powers_rise 19 k (omega arith)) where
    far : (m u : ℕ) → t ≡ 10 ^ 19 → 10 ^ 19 ≤ u → IsSameOrder m t n u
    far zero u et h = record { less = λ g. omega arith; equal = λ g. omega arith; greater = λ g. absurd (omega arith) }
    far (suc m) u et h =
        let a : 1 * t ≤ suc m * t = mul-le-mul_right {m = 1} t (omega arith) in
        let b : suc m * t ≤ suc m * u = mul-le-mul_left (suc m) (omega arith) in
        record { less = λ g. absurd (omega arith); equal = λ g. absurd (omega arith); greater = λ g. omega arith }

-- ---- by signs
pub both_above : (c d : ℤ) (m n p q k t : ℕ) (r : Ordering) → p + k ≡ q → t ≡ 10 ^ min k 19 → n < 10 ^ 18 → m ≡ unsigned_abs c → n ≡ unsigned_abs d
    → pos 0 ≤ℤ c → pos 0 ≤ℤ d → r ≡ nat_cmp (m * t) n → r ≡ compare_ℚ (value_of (scaled c p)) (value_of (scaled d q))
both_above (negsuc a) d m n p q k t r e et small em en c0 d0 h = absurd (omega (arith, ints))
both_above (pos a) (negsuc b) m n p q k t r e et small em en c0 d0 h = absurd (omega (arith, ints))
both_above (pos a) (pos b) m n p q k t r e et small em en c0 d0 h = compared (pos a) (pos b) p q k r e (by r (ranked (m * t) n r h)) where
  same : IsSameOrder m t n (10 ^ k)
  same = same_order m n k t et small

  by : (r : Ordering) → MatchOrdering r (m * t < n) (m * t ≡ n) (n < m * t) → MatchOrdering r (pos (a * 10 ^ k) <ℤ pos b) (pos (a * 10 ^ k) ≡ pos b) (pos b <ℤ pos (a * 10 ^ k))
  by Less g = let f = subst (λ i. i * 10 ^ k < n) em (same.less g) in omega (arith, ints)
  by Equal g = ap pos (ap (λ i. i * 10 ^ k) (sym em) ∙ same.equal g ∙ en)
  by Greater g = let f = subst (λ i. n < i * 10 ^ k) em (same.greater g) in omega (arith, ints)

pub both_below : (c d : ℤ) (m n p q k t : ℕ) (r : Ordering) → p + k ≡ q → t ≡ 10 ^ min k 19 → n < 10 ^ 18 → m ≡ unsigned_abs c → n ≡ unsigned_abs d
    → c <ℤ pos 0 → d <ℤ pos 0 → r ≡ nat_cmp n (m * t) → r ≡ compare_ℚ (value_of (scaled c p)) (value_of (scaled d q))
both_below (pos a) d m n p q k t r e et small em en c0 d0 h = absurd (omega (arith, ints))
both_below (negsuc a) (pos b) m n p q k t r e et small em en c0 d0 h = absurd (omega (arith, ints))
both_below (negsuc a) (negsuc b) m n p q k t r e et small em en c0 d0 h = compared (negsuc a) (negsuc b) p q k r e (by r (ranked n (m * t) r h)) where
  same : IsSameOrder m t n (10 ^ k)
  same = same_order m n k t et small

  by : (r : Ordering) → MatchOrdering r (n < m * t) (n ≡ m * t) (m * t < n)
      → MatchOrdering r (neg_ℤ (pos (suc a * 10 ^ k)) <ℤ negsuc b) (neg_ℤ (pos (suc a * 10 ^ k)) ≡ negsuc b) (negsuc b <ℤ neg_ℤ (pos (suc a * 10 ^ k)))
  by Less g = let f = subst (λ i. n < i * 10 ^ k) em (same.greater g) in omega (arith, ints)
  by Equal g = ap (λ i. neg_ℤ (pos i)) (ap (λ i. i * 10 ^ k) (sym em) ∙ same.equal (sym g) ∙ en)
  by Greater g = let f = subst (λ i. i * 10 ^ k < n) em (same.less g) in omega (arith, ints)

times_above : (c : ℤ) (t : ℕ) → pos 0 ≤ℤ c → pos 0 ≤ℤ (c *ℤ pos t)
times_above (pos a) t h = omega (arith, ints)
times_above (negsuc a) t h = absurd (omega (arith, ints))

times_below : (c : ℤ) (t : ℕ) → 0 < t → c <ℤ pos 0 → (c *ℤ pos t) <ℤ pos 0
times_below (pos a) t t0 h = absurd (omega (arith, ints))
times_below (negsuc a) t t0 h = omega (arith, ints)

pub first_below : (c d : ℤ) (p q k : ℕ) → p + k ≡ q → c <ℤ pos 0 → pos 0 ≤ℤ d → Less ≡ compare_ℚ (value_of (scaled c p)) (value_of (scaled d q))
first_below c d p q k e c0 d0 = let f = times_below c (10 ^ k) (powers_rise 0 k (omega arith)) c0 in compared c d p q k Less e (omega (arith, ints))

pub second_below : (c d : ℤ) (p q k : ℕ) → p + k ≡ q → pos 0 ≤ℤ c → d <ℤ pos 0 → Greater ≡ compare_ℚ (value_of (scaled c p)) (value_of (scaled d q))
second_below c d p q k e c0 d0 = let f = times_above c (10 ^ k) c0 in compared c d p q k Greater e (omega (arith, ints))
