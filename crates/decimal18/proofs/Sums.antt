-- Sums of decimal numbers.
use Rattle.std.specs.Prelude.{◌≡◌, ◌↔◌, ◌⊎◌, ℕ, suc, ◌+◌, ◌-◌, ◌*◌, ◌/◌, ◌^◌, ◌<◌, ◌≤◌, Bool, true, false, ℤ, pos, negsuc, ◌+ℤ◌, ◌*ℤ◌, unsigned_abs, refl}
use Rattle.std.proofs.Common.{sym, ap, subst, ◌∙◌, arith, inl, inr}
use Rattle.std.proofs.Math.Nat.{mul-le-mul_right, div-le_self}
use Rattle.std.proofs.lemmas.Bool.{cases_lt, true≢false}
use Rattle.std.proofs.lemmas.Int.{ints}
use Rattle.std.proofs.Math.Pow.{pow-add}
use std.Quotient.{eq/, /_rec, /_rec₂}
use Rattle.exact_fraction.specs.Whole.{diff_of, diff_same, push}
use Rattle.exact_fraction.specs.Fraction.{◌⊕◌}
use Rattle.exact_fraction.specs.Number.{◌+ℚ◌}
use Rattle.decimal18.specs.Bound.{scaled, fraction_of, value_of}
use Rattle.decimal18.specs.Digits.{signed, signed_ℚ, differ, joined, IsCutOff, IsPart}
use Rattle.decimal18.proofs.Values.{value-shifted}
use Rattle.decimal18.proofs.Zeros.{signed_times}
use Rattle.decimal18.proofs.Counting.{powers_rise}
use Rattle.decimal18.proofs.CutOff.{part_cut, exact_cut, value-signed}

at_one_place : (m n : ℤ) (t : ℕ) → (((m *ℤ pos t) +ℤ (n *ℤ pos t)) *ℤ pos t) ≡ ((m +ℤ n) *ℤ pos (t * t))
at_one_place m n t = rw (← diff_of m, ← diff_of n) (simp push (diff_same _ _ _ _ (omega arith)))

-- at one number of places the coefficients are added
pub value-sum : (m n : ℤ) (p : ℕ) → value_of (scaled m p) +ℚ value_of (scaled n p) ≡ value_of (scaled (m +ℤ n) p)
unfolding value_of ◌+ℚ◌ ◌⊕◌ /_rec₂ /_rec
value-sum m n p = eq/ (fraction_of (scaled m p) ⊕ fraction_of (scaled n p)) (fraction_of (scaled (m +ℤ n) p)) (record { same = at_one_place m n (10 ^ p) })

pub level_sum : (c d s : ℤ) (negative : Bool) (n p q : ℕ) → s ≡ c +ℤ d → s ≡ signed negative n → p ≡ q
    → signed_ℚ negative (value_of (scaled (pos n) q)) ≡ value_of (scaled c p) +ℚ value_of (scaled d q)
level_sum c d s negative n p q es en ep =
    value-signed negative n q ∙ ap (λ z. value_of (scaled z q)) (sym en ∙ es) ∙ sym (value-sum c d q)
    ∙ ap (λ k. value_of (scaled c k) +ℚ value_of (scaled d q)) (sym ep)

-- the sum at the places of the second
pub near_value : (c d : ℤ) (p q k : ℕ) → p + k ≡ q → value_of (scaled c p) +ℚ value_of (scaled d q) ≡ value_of (scaled ((c *ℤ pos (10 ^ k)) +ℤ d) q)
near_value c d p q k e =
    ap (λ x. x +ℚ value_of (scaled d q)) (sym (value-shifted c p k) ∙ ap (λ n. value_of (scaled (c *ℤ pos (10 ^ k)) n)) e)
    ∙ value-sum (c *ℤ pos (10 ^ k)) d q

-- the signed sum of sizes at the places of the second
pub near_sum : (c d : ℤ) (na nb nr : Bool) (m n r t : ℕ) (p q k : ℕ) → c ≡ signed na m → d ≡ signed nb n → t ≡ 10 ^ k → p + k ≡ q
    → signed nr r ≡ (signed na (m * t) +ℤ signed nb n)
    → signed_ℚ nr (value_of (scaled (pos r) q)) ≡ value_of (scaled c p) +ℚ value_of (scaled d q)
near_sum c d na nb nr m n r t p q k ec ed et ep h =
    let f : (c *ℤ pos (10 ^ k)) ≡ signed na (m * t) = ap (λ z. z *ℤ pos (10 ^ k)) ec ∙ signed_times na m (10 ^ k) ∙ ap (λ n. signed na (m * n)) (sym et) in
    value-signed nr r q ∙ ap (λ z. value_of (scaled z q)) (h ∙ ap (λ z. z +ℤ signed nb n) (sym f) ∙ ap (λ z. (c *ℤ pos (10 ^ k)) +ℤ z) (sym ed))
    ∙ sym (near_value c d p q k ep)

pub zero_sum : (c d : ℤ) (p q k : ℕ) (nb : Bool) (n : ℕ) → unsigned_abs c ≡ 0 → d ≡ signed nb n → p + k ≡ q
    → signed_ℚ nb (value_of (scaled (pos n) q)) ≡ value_of (scaled c p) +ℚ value_of (scaled d q)
zero_sum c d p q k nb n ec ed ep =
    near_sum c d false nb nb 0 n n (10 ^ k) p q k (zero c ec) ed refl ep (plain (signed nb n)) where
      zero : (c : ℤ) → unsigned_abs c ≡ 0 → c ≡ pos 0
      zero (pos a) e = ap pos e
      zero (negsuc a) e = absurd (omega arith)

      plain : (z : ℤ) → z ≡ (pos (0 * 10 ^ k) +ℤ z)
      plain z = omega (arith, ints)

-- ---- sums of numbers whose places are far from each other
signed_joined : (na nb : Bool) (m n : ℕ) → n ≤ m → (signed na m +ℤ signed nb n) ≡ signed na (joined (differ na nb) m n)
signed_joined true true m n h = omega (arith, ints)
signed_joined true false m n h = omega (arith, ints)
signed_joined false true m n h = omega (arith, ints)
signed_joined false false m n h = omega (arith, ints)

pub far_value : (c d : ℤ) (na nb : Bool) (m n ten unit : ℕ) (p q k : ℕ) → c ≡ signed na m → d ≡ signed nb n → ten ≡ 10 ^ 18 → unit ≡ 10 ^ k
    → (p + 18) + k ≡ q → n < m * ten → 0 < unit
    → signed_ℚ na (value_of (scaled (pos (joined (differ na nb) ((m * ten) * unit) n)) q)) ≡ value_of (scaled c p) +ℚ value_of (scaled d q)
far_value c d na nb m n ten unit p q k ec ed et eu ep h u0 =
    let one : 1 * (m * ten) ≤ unit * (m * ten) = mul-le-mul_right (m * ten) u0 in
    let t : (m * ten) * unit ≡ m * 10 ^ (18 + k) =
    ap (λ a. (m * a) * unit) et ∙ ap (λ a. (m * 10 ^ 18) * a) eu ∙ grouped m (10 ^ 18) (10 ^ k) ∙ ap (λ a. m * a) (sym (pow-add 10 18 k)) in
    ap (λ a. signed_ℚ na (value_of (scaled (pos (joined (differ na nb) a n)) q))) t
    ∙ near_sum c d na nb na m n (joined (differ na nb) (m * 10 ^ (18 + k)) n) (10 ^ (18 + k)) p q (18 + k) ec ed refl (omega arith)
    (sym (signed_joined na nb (m * 10 ^ (18 + k)) n (subst (λ a. n ≤ a) t (omega arith)))) where
      grouped : (a b c : ℕ) → (a * b) * c ≡ a * (b * c)
      grouped a b c = omega arith

pub far_cut : (n unit d p q k : ℕ) (lost : Bool) → unit ≡ 10 ^ k → p + k ≡ q → IsPart n unit d lost → IsCutOff (value_of (scaled (pos n) q)) d p lost
far_cut n unit d p q k lost eu ep h =
    subst (λ a. IsCutOff (value_of (scaled (pos n) a)) d p lost) ep
    (part_cut (value_of (scaled (pos n) (p + k))) n p k false d h.rest lost (exact_cut n (p + k))
    (subst (λ a. n ≡ d * a + h.rest) eu h.split) (subst (λ a. h.rest < a) eu h.below) ((λ e. (refl, h.all.0 e)), (λ e. h.all.1 e.1)))

-- ten units and more are above 18 digits
pub far_enough : (apart : Bool) (m n ten unit d k : ℕ) (lost : Bool) → 0 < m → n < 10 ^ 18 → ten ≡ 10 ^ 18 → unit ≡ 10 ^ k → 0 < k
    → IsPart (joined apart ((m * ten) * unit) n) unit d lost → 10 ^ 17 ≤ d
far_enough apart m n ten unit d k lost m0 small et eu k0 h = by (cases_lt d (10 ^ 17)) where
  ten_units : 10 ≤ unit
  ten_units = let f : 10 ^ 1 ≤ 10 ^ k = powers_rise 1 k k0 in omega arith

  least : (t : Bool) (a b : ℕ) → a ≤ joined t a b + b
  least true a b = omega arith
  least false a b = omega arith

  by : (d < 10 ^ 17) ⊎ (10 ^ 17 ≤ d) → 10 ^ 17 ≤ d
  by (inr g) = g
  by (inl g) =
      let a : suc d * unit ≤ 10 ^ 17 * unit = mul-le-mul_right unit g in
      let b : 10 ^ 18 ≤ m * ten = rw et (mul-le-mul_right (10 ^ 18) m0) in
      let e : 10 ^ 18 * unit ≤ (m * ten) * unit = mul-le-mul_right unit b in
      let f = least apart ((m * ten) * unit) n in
      let s = h.split in
      let r = h.below in
      let u = ten_units in
      absurd (omega arith)

-- ---- parts
pub joined_part : (lead size unit : ℕ) (lost : Bool) → 0 < unit → (lost ≡ false) ↔ ((false ≡ false) × (size - size / unit * unit ≡ 0))
    → IsPart (lead * unit + size) unit (lead + size / unit) lost
joined_part lead size unit lost u0 h = record {
  rest = size - size / unit * unit;
  split = omega arith;
  below = omega arith;
  all = (λ e. (h.0 e).1, λ e. h.1 (refl, e));
}

pub apart_even : (lead size unit : ℕ) → 0 < unit → size < lead → size - size / unit * unit ≡ 0 → IsPart (lead * unit - size) unit (lead - size / unit) false
apart_even lead size unit u0 below z =
    let q : size / unit ≤ size = div-le_self size unit in
    record {
      rest = 0;
      split = difference lead (size / unit) unit (lead - size / unit) size (omega arith) (omega arith);
      below = u0;
      all = (λ _. refl, λ _. refl);
    } where
      difference : (lead q unit m size : ℕ) → lead ≡ m + q → size ≡ q * unit → lead * unit - size ≡ m * unit + 0
      difference lead q unit m size e f = let g = ap (λ n. n * unit) e in omega arith

pub apart_odd : (lead size unit : ℕ) → 0 < unit → size < lead → (size - size / unit * unit ≡ 0 → ⊥) → IsPart (lead * unit - size) unit (lead - size / unit - 1) true
apart_odd lead size unit u0 below z =
    let q : size / unit ≤ size = div-le_self size unit in
    record {
      rest = unit - (size - size / unit * unit);
      split = difference lead (size / unit) unit (lead - size / unit - 1) size (size - size / unit * unit) (omega arith) (omega arith) (omega arith);
      below = omega arith;
      all = (λ e. absurd (true≢false e), λ e. absurd (omega arith));
    } where
      difference : (lead q unit m size r : ℕ) → lead ≡ m + q + 1 → size ≡ q * unit + r → r ≤ unit → lead * unit - size ≡ m * unit + (unit - r)
      difference lead q unit m size r e f b = let g = ap (λ n. n * unit) e in omega arith

-- the same of either, by the test for a rest
pub apart_part : (lead size unit borrowed : ℕ) (lost : Bool) → 0 < unit → size < lead → (lost ≡ false) ↔ ((false ≡ false) × (size - size / unit * unit ≡ 0))
    → (lost ≡ true → borrowed ≡ 1) → (lost ≡ false → borrowed ≡ 0)
    → IsPart (lead * unit - size) unit (lead - size / unit - borrowed) lost
apart_part lead size unit borrowed true u0 below h one none =
    subst (λ n. IsPart (lead * unit - size) unit (lead - size / unit - n) true) (sym (one refl))
    (apart_odd lead size unit u0 below (λ z. true≢false (h.1 (refl, z))))
apart_part lead size unit borrowed false u0 below h one none =
    subst (λ n. IsPart (lead * unit - size) unit n false) (same (lead - size / unit) borrowed (none refl))
    (apart_even lead size unit u0 below (h.0 refl).1) where
      same : (n b : ℕ) → b ≡ 0 → n ≡ n - b
      same n b e = omega arith
