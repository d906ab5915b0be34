-- Powers by products and inverses.
use Rattle.std.specs.Prelude.{◌≡◌, ℕ, zero, suc, Bool, true, false, ℤ, pos, negsuc, ◌+◌, ◌≤ℤ◌, ◌<ℤ◌, unsigned_abs, refl, [], ◌∷◌}
use Rattle.std.proofs.Common.{sym, ◌∙◌, ap, arith}
use Rattle.std.proofs.lemmas.Int.{ints}
use Rattle.std.proofs.lemmas.Bool.{true≢false}
use Rattle.exact_fraction.specs.Number.{ℚ, of_ℤ, ◌*ℚ◌, inv_ℚ, is_zero_ℚ}
use Rattle.exact_fraction.specs.Powers.{power, whole_power}
use Rattle.exact_fraction.proofs.Quotients.{is_zero_ℚ-≡, ≡-is_zero_ℚ}
use Rattle.exact_fraction.proofs.Ring.{Whole, ◌:*◌, x0, x1, x2, ring}

pub power-zero : (x : ℚ) → power x 0 ≡ of_ℤ (pos 1)
unfolding power
power-zero x = refl

pub power-suc : (x : ℚ) (k : ℕ) → power x (suc k) ≡ power x k *ℚ x
unfolding power
power-suc x k = refl

pub power-next : (x : ℚ) (k : ℕ) → power x k *ℚ x ≡ power x (k + 1)
power-next x k =
    let e : suc k ≡ k + 1 = omega arith in
    sym (power-suc x k) ∙ ap (power x) e

pub power-one : (x : ℚ) → power x 1 ≡ x
unfolding power
power-one x = ring (x ∷ []) (Whole (pos 1) :* x0) x0 refl

pub power-+ : (x : ℚ) (j k : ℕ) → power x (j + k) ≡ power x j *ℚ power x k
power-+ x j zero =
    let e : j + 0 ≡ j = omega arith in
    ap (power x) e ∙ ring (power x j ∷ []) x0 (x0 :* Whole (pos 1)) refl ∙ ap (λ t. power x j *ℚ t) (sym (power-zero x))
power-+ x j (suc k) =
    let e : j + suc k ≡ suc (j + k) = omega arith in
    ap (power x) e ∙ power-suc x (j + k) ∙ ap (λ t. t *ℚ x) (power-+ x j k)
    ∙ ring (power x j ∷ power x k ∷ x ∷ []) (x0 :* x1 :* x2) (x0 :* (x1 :* x2)) refl
    ∙ ap (λ t. power x j *ℚ t) (sym (power-suc x k))

-- ---- powers that are 0
pub zero_power : (x : ℚ) (m : ℕ) → is_zero_ℚ x ≡ true → is_zero_ℚ (power x (suc m)) ≡ true
zero_power x m h =
    ≡-is_zero_ℚ (power x (suc m)) (power-suc x m ∙ ap (λ t. power x m *ℚ t) (is_zero_ℚ-≡ x h)
    ∙ ring (power x m ∷ []) (x0 :* Whole (pos 0)) (Whole (pos 0)) refl)

-- a power above 0 that is not 0 has a base that is not
pub base_not_zero : (x : ℚ) (m : ℕ) → is_zero_ℚ (power x (suc m)) ≡ false → is_zero_ℚ x ≡ false
base_not_zero x m h = by (is_zero_ℚ x) refl where
  by : (b : Bool) → is_zero_ℚ x ≡ b → b ≡ false
  by true e = absurd (true≢false (sym (zero_power x m e) ∙ h))
  by false e = refl

-- ---- whole exponents
pub whole_power-pos : (x : ℚ) (n : ℕ) → whole_power x (pos n) ≡ power x n
unfolding whole_power
whole_power-pos x n = refl

pub whole_power-negsuc : (x : ℚ) (n : ℕ) → whole_power x (negsuc n) ≡ inv_ℚ (power x (suc n))
unfolding whole_power
whole_power-negsuc x n = refl

pub power_up : (x y : ℚ) (z : ℤ) (n : ℕ) → pos 0 ≤ℤ z → n ≡ unsigned_abs z → y ≡ power x n → y ≡ whole_power x z
unfolding whole_power
power_up x y (pos m) n h e f = f ∙ ap (power x) e
power_up x y (negsuc m) n h e f = absurd (omega (arith, ints))

pub power_down : (x y : ℚ) (z : ℤ) (n : ℕ) → z <ℤ pos 0 → n ≡ unsigned_abs z → y ≡ power x n → inv_ℚ y ≡ whole_power x z
unfolding whole_power
power_down x y (pos m) n h e f = absurd (omega (arith, ints))
power_down x y (negsuc m) n h e f = ap inv_ℚ (f ∙ ap (power x) e)
