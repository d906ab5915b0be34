-- `down` and `up` answer the greatest bound not above and the least bound not below, and each number
-- has one such bound.
use Rattle.std.specs.Prelude.{◌≡◌, ℕ, zero, suc, ◌+◌, ◌-◌, ◌^◌, ◌<◌, ◌≤◌, Bool, true, false, cond, ℤ, pos, negsuc, ◌*ℤ◌, ◌≤ℤ◌, neg_ℤ, unsigned_abs, None, Some, refl, ◌⊎◌}
use Rattle.std.proofs.Math.Nat.{mul-le-mul_right}
use Rattle.std.proofs.Common.{sym, ap, subst, ◌∙◌, arith, inl, inr}
use Rattle.std.proofs.Math.Nat.{one-le-pow}
use Rattle.std.proofs.Math.Dec.{lit≤}
use Rattle.std.proofs.lemmas.Bool.{ltb-true, ltb-false, lt-ltb, cases_lt, and_parts, and_from, cond_both, cond-true, cond-false, false_from_ne_true}
use Rattle.std.proofs.lemmas.Option.{cond_some, none-some}
use lib.Signed.{≤ℤ_refl}
use Rattle.std.proofs.lemmas.Int.{ints}
use Rattle.exact_fraction.specs.Number.{ℚ, of_ℤ, ◌≤ℚ◌, is_at_most_ℚ}
use Rattle.exact_fraction.specs.NumberLaws.{≤ℚ_trans, ≤ℚ_antisym, ≤ℚ_same, ≤ℤ-of_≤ℚ}
use Rattle.decimal18.specs.Bound.{Bound, scaled, value_of, canonical, IsBound, IsCanonical}
use Rattle.decimal18.specs.Down.{IsDown, IsInRange, top, is_in_range, floor_at, fits_18_digits, cut_off, down}
use Rattle.decimal18.proofs.Values.{value-shifted, value-rises, value-whole, under_floor, under_value}
use Rattle.decimal18.proofs.Canonical.{IsReduced-canonical, one_canonical}

-- ---- the greatest
-- the floor at more places is not below
coarser : (x : ℚ) (m : ℤ) (s k : ℕ) → value_of (scaled m s) ≤ℚ x
    → value_of (scaled m s) ≤ℚ value_of (scaled (floor_at x (s + k)) (s + k))
coarser x m s k h =
    let e = value-shifted m s k in
    let g = under_floor (m *ℤ pos (10 ^ k)) (s + k) x (≤ℚ_trans _ _ _ (≤ℚ_same _ _ e) h) in
    ≤ℚ_trans _ _ _ (≤ℚ_same _ _ (sym e)) (value-rises _ _ (s + k) g)

small_times : (m : ℤ) (t : ℕ) → 0 < t → unsigned_abs m < 10 ^ 18 → m ≤ℤ (pos (10 ^ 18) *ℤ pos t)
small_times (pos a) t t0 h = omega (arith, ints)
small_times (negsuc a) t t0 h = omega (arith, ints)

pub times_bottom : (c : ℤ) (t : ℕ) → 0 < t → unsigned_abs c < 10 ^ 18 → (neg_ℤ top *ℤ pos t) ≤ℤ c
times_bottom (pos a) t t0 h = omega (arith, ints)
times_bottom (negsuc a) t t0 h = let g = mul-le-mul_right {m = 1} {n = t} (10 ^ 18 - 1) t0 in omega (arith, ints)

-- where one place more would make the floor too large, the floor has 18 digits
finer_high : (x : ℚ) (m : ℤ) (p k : ℕ) → unsigned_abs m < 10 ^ 18 → pos (10 ^ 18) ≤ℤ floor_at x (p + 1)
    → value_of (scaled m ((p + 1) + k)) ≤ℚ value_of (scaled (floor_at x p) p)
finer_high x m p k small large =
    let top_shifted = value-shifted (pos (10 ^ 18)) (p + 1) k in
    let tenth : value_of (scaled (pos (10 ^ 18)) (p + 1)) ≡ value_of (scaled (pos (10 ^ 17)) p) = value-shifted (pos (10 ^ 17)) p 1 in
    let below : pos (10 ^ 17) ≤ℤ floor_at x p =
    under_floor (pos (10 ^ 17)) p x (≤ℚ_trans _ _ _ (≤ℚ_same _ _ (sym tenth)) (under_value (pos (10 ^ 18)) (p + 1) x large)) in
    ≤ℚ_trans _ _ _ (value-rises m (pos (10 ^ 18) *ℤ pos (10 ^ k)) ((p + 1) + k) (small_times m (10 ^ k) (one-le-pow k 10 (lit≤ tt)) small))
    (≤ℚ_trans _ _ _ (≤ℚ_same _ _ (top_shifted ∙ tenth)) (value-rises (pos (10 ^ 17)) (floor_at x p) p below))

-- where one place more would make the floor too small, no bound with more places is not above
pub finer_low : (x : ℚ) (m : ℤ) (p k : ℕ) → unsigned_abs m < 10 ^ 18 → floor_at x (p + 1) ≤ℤ neg_ℤ (pos (10 ^ 18))
    → value_of (scaled m ((p + 1) + k)) ≤ℚ x → ⊥
finer_low x m p k small low h =
    let g : value_of (scaled (neg_ℤ top) (p + 1)) ≤ℚ x =
    ≤ℚ_trans _ _ _ (≤ℚ_same _ _ (sym (value-shifted (neg_ℤ top) (p + 1) k)))
    (≤ℚ_trans _ _ _ (value-rises (neg_ℤ top *ℤ pos (10 ^ k)) m ((p + 1) + k) (times_bottom m (10 ^ k) (one-le-pow k 10 (lit≤ tt)) small)) h) in
    let f : neg_ℤ top ≤ℤ floor_at x (p + 1) = under_floor (neg_ℤ top) (p + 1) x g in
    omega (arith, ints)

-- no more places would do: there are 36, or the floor at one more has more than 18 digits
pub IsLong : ℚ → ℕ → Type 0
IsLong x p = (p ≡ 36) ⊎ (fits_18_digits (floor_at x (p + 1)) ≡ false)

pub long-of_36 : (x : ℚ) (p : ℕ) → p ≡ 36 → IsLong x p
unfolding IsLong
long-of_36 x p e = inl e

pub long-of_unfit : (x : ℚ) (p : ℕ) → fits_18_digits (floor_at x (p + 1)) ≡ false → IsLong x p
unfolding IsLong
long-of_unfit x p e = inr e

too_long : (z : ℤ) → fits_18_digits z ≡ false → (pos (10 ^ 18) ≤ℤ z) ⊎ (z ≤ℤ neg_ℤ (pos (10 ^ 18)))
too_long (pos a) h = let g = ltb-false _ _ h in inl (omega (arith, ints))
too_long (negsuc a) h = let g = ltb-false _ _ h in inr (omega (arith, ints))

fewer_places : (x : ℚ) (p : ℕ) (b : Bound) → value_of b ≤ℚ x → b.places ≤ p
    → value_of b ≤ℚ value_of (scaled (floor_at x p) p)
fewer_places x p b below h =
    let e : b.places + (p - b.places) ≡ p = omega arith in
    subst (λ n. value_of b ≤ℚ value_of (scaled (floor_at x n) n)) e (coarser x b.coefficient b.places (p - b.places) below)

more_places : (x : ℚ) (m : ℤ) (p k : ℕ) → unsigned_abs m < 10 ^ 18 → value_of (scaled m ((p + 1) + k)) ≤ℚ x
    → (pos (10 ^ 18) ≤ℤ floor_at x (p + 1)) ⊎ (floor_at x (p + 1) ≤ℤ neg_ℤ (pos (10 ^ 18)))
    → value_of (scaled m ((p + 1) + k)) ≤ℚ value_of (scaled (floor_at x p) p)
more_places x m p k small below (inl large) = finer_high x m p k small large
more_places x m p k small below (inr low) = absurd (finer_low x m p k small low below)

by_places : (x : ℚ) (p : ℕ) (b : Bound) → IsBound b → value_of b ≤ℚ x → IsLong x p → (p < b.places) ⊎ (b.places ≤ p)
    → value_of b ≤ℚ value_of (scaled (floor_at x p) p)
unfolding IsLong
by_places x p b bound below long (inr h) = fewer_places x p b below h
by_places x p b bound below (inl e) (inl h) = absurd (omega (arith, bound.most))
by_places x p b bound below (inr e) (inl h) =
    let k : (p + 1) + (b.places - (p + 1)) ≡ b.places = omega arith in
    subst (λ n. value_of (scaled b.coefficient n) ≤ℚ value_of (scaled (floor_at x p) p)) k
    (more_places x b.coefficient p (b.places - (p + 1)) bound.digits (rw k below) (too_long (floor_at x (p + 1)) e))

-- the floor at the most places that leave 18 digits is the greatest bound not above
pub greatest_at : (x : ℚ) (p : ℕ) → p ≤ 36 → fits_18_digits (floor_at x p) ≡ true → IsLong x p → IsDown x (canonical (floor_at x p) p)
greatest_at x p most short long =
    let c = floor_at x p in
    let reduced = IsReduced-canonical c p in
    let digits : unsigned_abs c < 10 ^ 18 = ltb-true _ _ short in
    record {
      bound = record { digits = omega (arith, reduced.smaller); most = omega (arith, reduced.fewer) };
      not_above = ≤ℚ_trans _ _ _ (≤ℚ_same _ _ reduced.same) (under_value c p x (≤ℤ_refl c));
      greatest = λ b bound below. ≤ℚ_trans _ _ _ (by_places x p b bound below long (cases_lt p b.places)) (≤ℚ_same _ _ (sym reduced.same));
    }

-- ---- the range
whole_floor : (x : ℚ) → IsInRange x → fits_18_digits (floor_at x 0) ≡ true
whole_floor x range =
    let low : neg_ℤ top ≤ℤ floor_at x 0 = under_floor (neg_ℤ top) 0 x (≤ℚ_trans _ _ _ (≤ℚ_same _ _ (value-whole (neg_ℤ top))) range.low) in
    let below : of_ℤ (floor_at x 0) ≤ℚ of_ℤ top =
    ≤ℚ_trans _ _ _ (≤ℚ_same _ _ (sym (value-whole (floor_at x 0))))
    (≤ℚ_trans _ _ _ (under_value (floor_at x 0) 0 x (≤ℤ_refl (floor_at x 0))) range.high) in
    short (floor_at x 0) low (≤ℤ-of_≤ℚ _ _ below) where
      short : (z : ℤ) → neg_ℤ top ≤ℤ z → z ≤ℤ top → fits_18_digits z ≡ true
      short (pos a) h k = lt-ltb _ _ (omega (arith, ints))
      short (negsuc a) h k = lt-ltb _ _ (omega (arith, ints))

pub is_in_range-true : (x : ℚ) → is_in_range x ≡ true → IsInRange x
unfolding is_in_range
is_in_range-true x h =
    let parts = and_parts (is_at_most_ℚ (of_ℤ (neg_ℤ top)) x) (is_at_most_ℚ x (of_ℤ top)) h in
    record { low = record { holds = parts.0 }; high = record { holds = parts.1 } }

pub IsInRange-is_in_range : (x : ℚ) → IsInRange x → is_in_range x ≡ true
unfolding is_in_range
IsInRange-is_in_range x h = and_from (is_at_most_ℚ (of_ℤ (neg_ℤ top)) x) (is_at_most_ℚ x (of_ℤ top)) h.low.holds h.high.holds

-- ---- the function
cut_off_step : (x : ℚ) (p : ℕ) (t : Bool) → fits_18_digits (floor_at x (suc p)) ≡ t → suc p ≤ 36 → IsLong x (suc p)
    → (IsLong x p → IsDown x (cut_off x p))
    → IsDown x (cond t (canonical (floor_at x (suc p)) (suc p)) (cut_off x p))
unfolding IsLong
cut_off_step x p true e most long rest = greatest_at x (suc p) most e long
cut_off_step x p false e most long rest = rest (inr (subst (λ n. fits_18_digits (floor_at x n) ≡ false) (omega arith) e))

IsDown-cut_off : (x : ℚ) (p : ℕ) → IsInRange x → p ≤ 36 → IsLong x p → IsDown x (cut_off x p)
unfolding cut_off
IsDown-cut_off x zero range most long = greatest_at x 0 most (whole_floor x range) long
IsDown-cut_off x (suc p) range most long =
    cut_off_step x p (fits_18_digits (floor_at x (suc p))) refl most long (IsDown-cut_off x p range (omega arith))

IsCanonical-cut_off : (x : ℚ) (p : ℕ) → IsCanonical (cut_off x p)
unfolding cut_off
IsCanonical-cut_off x zero = (IsReduced-canonical (floor_at x 0) 0).canonical
IsCanonical-cut_off x (suc p) =
    cond_both (fits_18_digits (floor_at x (suc p))) _ _ IsCanonical
    (λ _. (IsReduced-canonical (floor_at x (suc p)) (suc p)).canonical) (λ _. IsCanonical-cut_off x p)

-- the answer of `down` to a number in range
down_within : (x : ℚ) → IsInRange x → IsDown x (cut_off x 36)
unfolding IsLong
down_within x range = IsDown-cut_off x 36 range (omega arith) (inl refl)

one_down : (x : ℚ) (a b : Bound) → IsDown x a → IsDown x b → IsCanonical a → IsCanonical b → a ≡ b
one_down x a b h k canonical_a canonical_b =
    one_canonical a b canonical_a canonical_b (≤ℚ_antisym _ _ (k.greatest a h.bound h.not_above) (h.greatest b k.bound k.not_above))

pub down_some : (x : ℚ) (b : Bound) → down x ≡ Some b → IsInRange x × IsDown x b × IsCanonical b
unfolding down
down_some x b h =
    let parts = cond_some (is_in_range x) (cut_off x 36) b h in
    let range = is_in_range-true x parts.0 in
    (range, subst (IsDown x) parts.1 (down_within x range), subst IsCanonical parts.1 (IsCanonical-cut_off x 36))

pub some_down : (x : ℚ) (b : Bound) → IsInRange x → IsDown x b → IsCanonical b → down x ≡ Some b
unfolding down
some_down x b range h canonical_b =
    cond-true (is_in_range x) _ _ (IsInRange-is_in_range x range)
    ∙ ap Some (one_down x (cut_off x 36) b (down_within x range) h (IsCanonical-cut_off x 36) canonical_b)

pub down_none : (x : ℚ) → down x ≡ None → IsInRange x → ⊥
unfolding down
down_none x h range =
    let e : cond (is_in_range x) (Some (cut_off x 36)) None ≡ Some (cut_off x 36) = cond-true (is_in_range x) _ _ (IsInRange-is_in_range x range) in
    none-some (cut_off x 36) (sym h ∙ e)

pub none_down : (x : ℚ) → (IsInRange x → ⊥) → down x ≡ None
unfolding down
none_down x h = cond-false (is_in_range x) _ _ (false_from_ne_true (is_in_range x) (λ t. h (is_in_range-true x t)))
