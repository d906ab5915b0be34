-- A decimal number in units of a place.
use Rattle.std.specs.Prelude.{◌≡◌, ℕ, ◌+◌, ◌*◌, ◌/◌, ◌<◌, ◌≤◌, ◌^◌, ℤ, pos, negsuc, ◌+ℤ◌, ◌*ℤ◌, ◌≤ℤ◌, ◌<ℤ◌, unsigned_abs, refl, [], ◌∷◌}
use Rattle.std.specs.Int.{int_div_euclid}
use Rattle.std.proofs.Common.{sym, ◌∙◌, ap, subst, arith}
use Rattle.std.proofs.Math.Dec.{lit≤}
use Rattle.std.proofs.Math.Nat.{div-eq_of_lt, pow-le-pow_right, mul-le-mul}
use Rattle.std.proofs.lemmas.Int.{ints, unsigned_abs-mul}
use std.Quotient.{/_rec, /_rec₂}
use Rattle.exact_fraction.specs.Fraction.{◌⊕◌, ◌⊗◌, inverse, floor, floor_of}
use Rattle.exact_fraction.specs.Number.{of_ℤ, ◌+ℚ◌, ◌*ℚ◌, ◌/ℚ◌, inv_ℚ, floor_ℚ}
use Rattle.exact_fraction.specs.Powers.{power}
use Rattle.exact_fraction.specs.NumberLaws.{of_ℤ-*}
use Rattle.exact_fraction.proofs.Comparisons.{floor_is}
use Rattle.exact_fraction.proofs.Quotients.{*ℚ_cancel, ≡-/ℚ}
use Rattle.exact_fraction.proofs.Ring.{Whole, ◌:*◌, x0, x1, x2, x3, ring}
use Rattle.exact_law.specs.Rounding.{ten_to, at_place}
use Rattle.decimal18.specs.Bound.{Bound, scaled, value_of}
use Rattle.decimal18.proofs.Canonical.{power_positive}
use Rattle.decimal18.proofs.Values.{value-whole}
use Rattle.round_out.proofs.Tens.{power_not_zero, ten_to-plus, ten_to-not_zero, left_place, value_times}

-- ---- whole parts
pub by_division : (r x z : ℤ) (n : ℕ) → r ≡ x → x ≡ int_div_euclid z (pos n) → r ≡ floor_of z n
by_division r x z n e h = e ∙ h ∙ sym (floor_is z n)

floor_zero : (z : ℤ) (n : ℕ) → pos 0 ≤ℤ z → z <ℤ pos n → floor_of z n ≡ pos 0
floor_zero (pos a) n h k = let below : a < n = omega (arith, ints) in ap pos (div-eq_of_lt below)
floor_zero (negsuc a) n h k = absurd (omega (arith, ints))

floor_half : (z : ℤ) → floor_of ((z *ℤ pos 2) +ℤ pos 1) 2 ≡ z
floor_half (pos a) =
    let e : ((pos a *ℤ pos 2) +ℤ pos 1) ≡ pos (a * 2 + 1) = omega (arith, ints) in
    let d : (a * 2 + 1) / 2 ≡ a = omega arith in
    ap (λ t. floor_of t 2) e ∙ ap pos d
floor_half (negsuc a) =
    let e : ((negsuc a *ℤ pos 2) +ℤ pos 1) ≡ negsuc (a * 2) = omega (arith, ints) in
    let d : a * 2 / 2 ≡ a = omega arith in
    ap (λ t. floor_of t 2) e ∙ ap negsuc d

-- c / 10^s, rounded
half_more : (c : ℤ) (s : ℕ) → floor_ℚ (value_of (scaled c s) +ℚ of_ℤ (pos 1) /ℚ of_ℤ (pos 2)) ≡ floor_of ((c *ℤ pos 2) +ℤ (pos 1 *ℤ pos (10 ^ s))) (10 ^ s * 2)
unfolding value_of ◌+ℚ◌ ◌*ℚ◌ inv_ℚ floor_ℚ ◌⊕◌ ◌⊗◌ inverse floor /_rec /_rec₂
half_more c s = refl

rounded : (c : ℤ) (s : ℕ) → floor_ℚ (value_of (scaled c s) +ℚ of_ℤ (pos 1) /ℚ of_ℤ (pos 2)) ≡ floor_of ((c *ℤ pos 2) +ℤ pos (10 ^ s)) (10 ^ s * 2)
rounded c s = half_more c s ∙ ap (λ t. floor_of ((c *ℤ pos 2) +ℤ t) (10 ^ s * 2)) (one_time (10 ^ s)) where
  one_time : (t : ℕ) → (pos 1 *ℤ pos t) ≡ pos t
  one_time t = omega (arith, ints)

-- ---- the number of units
in_units : (c : ℤ) (p s : ℕ) (e : ℤ) → (e +ℤ pos p) ≡ pos s → value_of (scaled c p) /ℚ ten_to e ≡ value_of (scaled c s)
in_units c p s e h =
    sym ((≡-/ℚ (value_of (scaled c s)) (value_of (scaled c p)) (ten_to e) (ten_to-not_zero e)).1
    (*ℚ_cancel _ _ (of_ℤ (pos (10 ^ p))) (power_not_zero p)
    (ring (value_of (scaled c s) ∷ ten_to e ∷ of_ℤ (pos (10 ^ p)) ∷ []) ((x0 :* x1) :* x2) (x0 :* (x1 :* x2)) refl
    ∙ ap (λ t. value_of (scaled c s) *ℚ t) (sym (ten_to-plus e p) ∙ ap ten_to h ∙ left_place s)
    ∙ value_times c s ∙ sym (value_times c p))))

whole_units : (c : ℤ) (p k : ℕ) (e : ℤ) → ((e +ℤ pos p) +ℤ pos k) ≡ pos 0 → value_of (scaled c p) /ℚ ten_to e ≡ value_of (scaled (c *ℤ pos (10 ^ k)) 0)
unfolding ten_to power
whole_units c p k e h =
    sym ((≡-/ℚ _ (value_of (scaled c p)) (ten_to e) (ten_to-not_zero e)).1
    (ap (λ t. t *ℚ ten_to e) (value-whole (c *ℤ pos (10 ^ k)) ∙ of_ℤ-* c (pos (10 ^ k)))
    ∙ *ℚ_cancel _ _ (of_ℤ (pos (10 ^ p))) (power_not_zero p)
    (ring (of_ℤ c ∷ of_ℤ (pos (10 ^ k)) ∷ ten_to e ∷ of_ℤ (pos (10 ^ p)) ∷ []) (((x0 :* x1) :* x2) :* x3) (x0 :* ((x2 :* x3) :* x1)) refl
    ∙ ap (λ t. of_ℤ c *ℚ t) (ap (λ t. t *ℚ of_ℤ (pos (10 ^ k))) (sym (ten_to-plus e p)) ∙ sym (ten_to-plus (e +ℤ pos p) k) ∙ ap ten_to h)
    ∙ ring (of_ℤ c ∷ []) (x0 :* Whole (pos 1)) x0 refl ∙ sym (value_times c p))))

at_right : (c : ℤ) (p s : ℕ) (e : ℤ) → (e +ℤ pos p) ≡ pos s → at_place (value_of (scaled c p)) e ≡ floor_of ((c *ℤ pos 2) +ℤ pos (10 ^ s)) (10 ^ s * 2)
unfolding at_place
at_right c p s e h = ap (λ t. floor_ℚ (t +ℚ of_ℤ (pos 1) /ℚ of_ℤ (pos 2))) (in_units c p s e h) ∙ rounded c s

at_left : (c : ℤ) (p k : ℕ) (e : ℤ) → ((e +ℤ pos p) +ℤ pos k) ≡ pos 0 → at_place (value_of (scaled c p)) e ≡ (c *ℤ pos (10 ^ k))
unfolding at_place
at_left c p k e h =
    ap (λ t. floor_ℚ (t +ℚ of_ℤ (pos 1) /ℚ of_ℤ (pos 2))) (whole_units c p k e h) ∙ rounded (c *ℤ pos (10 ^ k)) 0 ∙ floor_half (c *ℤ pos (10 ^ k))

-- ---- the three cases
pub few_digits : (c : ℤ) (n k t : ℕ) → unsigned_abs c < 10 ^ 18 → k ≤ 19 → t ≡ 10 ^ k → unsigned_abs (c *ℤ pos t) < 10 ^ 38
few_digits c n k t h m e =
    let size : unsigned_abs (c *ℤ pos t) ≡ unsigned_abs c * t = unsigned_abs-mul c (pos t) in
    let most : 10 ^ k ≤ 10 ^ 19 = pow-le-pow_right {n = 10} (lit≤ tt) m in
    let factor : t ≤ 10 ^ 19 = subst (λ x. x ≤ 10 ^ 19) (sym e) most in
    let digits : unsigned_abs c ≤ 10 ^ 18 = omega arith in
    let both : unsigned_abs c * t ≤ 10 ^ 18 * 10 ^ 19 = mul-le-mul digits factor in
    omega arith

pub whole_at : (b : Bound) (r after e : ℤ) (p n t : ℕ) → p ≡ b.places → after ≡ (pos p +ℤ e) → after ≤ℤ pos 0 → n ≡ unsigned_abs after → t ≡ 10 ^ n
    → r ≡ (b.coefficient *ℤ pos t) → r ≡ at_place (value_of b) e
whole_at b r after e p n t h i low m f g =
    g ∙ ap (λ x. b.coefficient *ℤ pos x) f
    ∙ sym (at_left b.coefficient b.places n e (ap (λ x. (e +ℤ pos x) +ℤ pos n) (sym h) ∙ back after e p n i low m)) where
      back : (after e : ℤ) (p n : ℕ) → after ≡ (pos p +ℤ e) → after ≤ℤ pos 0 → n ≡ unsigned_abs after → ((e +ℤ pos p) +ℤ pos n) ≡ pos 0
      back after e p n i low m = omega (arith, ints)

pub rounded_at : (b : Bound) (r after e : ℤ) (p n t : ℕ) → p ≡ b.places → after ≡ (pos p +ℤ e) → pos 0 ≤ℤ after → n ≡ unsigned_abs after → t ≡ 10 ^ n
    → r ≡ floor_of ((b.coefficient *ℤ pos 2) +ℤ pos t) (t * 2) → r ≡ at_place (value_of b) e
rounded_at b r after e p n t h i low m f g =
    g ∙ ap (λ x. floor_of ((b.coefficient *ℤ pos 2) +ℤ pos x) (x * 2)) f
    ∙ sym (at_right b.coefficient b.places n e (ap (λ x. e +ℤ pos x) (sym h) ∙ on after e p n i low m)) where
      on : (after e : ℤ) (p n : ℕ) → after ≡ (pos p +ℤ e) → pos 0 ≤ℤ after → n ≡ unsigned_abs after → (e +ℤ pos p) ≡ pos n
      on after e p n i low m = omega (arith, ints)

-- a number below half a unit is rounded to 0
pub far_at : (b : Bound) (after e : ℤ) (p : ℕ) → p ≡ b.places → after ≡ (pos p +ℤ e) → pos 18 <ℤ after → unsigned_abs b.coefficient < 10 ^ 18
    → pos 0 ≡ at_place (value_of b) e
far_at b (pos n) e p h i high few =
    let far : 19 ≤ n = omega (arith, ints) in
    let most : 10 ^ 19 ≤ 10 ^ n = pow-le-pow_right {n = 10} (lit≤ tt) far in
    sym (at_right b.coefficient b.places n e (ap (λ x. e +ℤ pos x) (sym h) ∙ turned e p n i)
    ∙ floor_zero _ _ (low b.coefficient (10 ^ n) few most) (below b.coefficient (10 ^ n) few most)) where
      turned : (e : ℤ) (p n : ℕ) → pos n ≡ (pos p +ℤ e) → (e +ℤ pos p) ≡ pos n
      turned e p n i = omega (arith, ints)

      low : (c : ℤ) (t : ℕ) → unsigned_abs c < 10 ^ 18 → 10 ^ 19 ≤ t → pos 0 ≤ℤ ((c *ℤ pos 2) +ℤ pos t)
      low c t h k = omega (arith, ints)

      below : (c : ℤ) (t : ℕ) → unsigned_abs c < 10 ^ 18 → 10 ^ 19 ≤ t → ((c *ℤ pos 2) +ℤ pos t) <ℤ pos (t * 2)
      below c t h k = omega (arith, ints)
far_at b (negsuc n) e p h i high few = absurd (omega (arith, ints))

pub power_within : (n k t : ℕ) → t ≡ 10 ^ n → n ≤ k → (0 < t) × (t ≤ 10 ^ k)
power_within n k t e h =
    (subst (λ x. 0 < x) (sym e) (power_positive n), subst (λ x. x ≤ 10 ^ k) (sym e) (pow-le-pow_right {n = 10} (lit≤ tt) h))
