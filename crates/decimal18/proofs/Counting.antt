-- How many digits are cut off.
use Rattle.std.specs.Prelude.{◌≡◌, ◌↔◌, ◌⊎◌, ℕ, ◌+◌, ◌-◌, ◌*◌, ◌/◌, ◌^◌, ◌<◌, ◌≤◌, max, Bool, false, refl}
use Rattle.std.proofs.Common.{sym, ap, subst, ◌∙◌, arith, inl, inr, lit<}
use Rattle.std.proofs.Math.Nat.{le-div_iff_mul-le, div-lt_iff_lt-mul, pow-le-pow_right}
use Rattle.std.proofs.Math.Pow.{pow-add}
use Rattle.std.proofs.lemmas.Bool.{cases_lt}
use Rattle.decimal18.specs.Digits.{IsFirst}

pub powers_rise : (i j : ℕ) → i ≤ j → 10 ^ i ≤ 10 ^ j
powers_rise i j h = pow-le-pow_right (lit< tt) h

-- the digits that are kept are 18 at most
pub kept_fit : (n t s c : ℕ) → t ≡ 10 ^ c → 0 < t → n < 10 ^ (18 + s) → s ≤ c → n / t < 10 ^ 18
kept_fit n t s c e t0 below h =
    let f : 10 ^ (18 + s) ≤ 10 ^ (18 + c) = powers_rise (18 + s) (18 + c) (omega arith) in
    let g : 10 ^ (18 + c) ≡ 10 ^ 18 * t = pow-add 10 18 c ∙ ap (λ m. 10 ^ 18 * m) (sym e) in
    (div-lt_iff_lt-mul {k = t} {x = n} {y = 10 ^ 18} t0).1 (omega arith)

pub first_of : (n p s c t : ℕ) (lost more : Bool) → t ≡ 10 ^ c → 0 < t → n < 10 ^ (18 + s) → (0 < s → 10 ^ (17 + s) ≤ n)
    → c ≡ max s (p - 36) → c ≤ p → (more ≡ false) ↔ ((lost ≡ false) × (n - n / t * t ≡ 0)) → IsFirst n p lost (n / t) (p - c) more
first_of n p s c t lost more e t0 below reached most h all = record {
  count = c;
  rest = n - n / t * t;
  at_places = omega arith;
  split = subst (λ m. n ≡ n / t * m + (n - n / t * t)) e (parts n t t0);
  below = subst (λ m. n - n / t * t < m) e (rest_below n t t0);
  all = all;
  most_digits = kept_fit n t s c e t0 below (omega arith);
  most_places = omega arith;
  as_many = by (cases_lt 0 s) (cases_lt (p - 36) s);
} where
  parts : (n t : ℕ) → 0 < t → n ≡ n / t * t + (n - n / t * t)
  parts n t t0 = omega arith

  rest_below : (n t : ℕ) → 0 < t → n - n / t * t < t
  rest_below n t t0 = omega arith

  by : (0 < s) ⊎ (s ≤ 0) → ((p - 36) < s) ⊎ (s ≤ (p - 36)) → (c ≡ 0) ⊎ ((36 ≤ p - c) ⊎ (10 ^ 17 ≤ n / t))
  by (inl s0) (inl g) =
      let same : c ≡ s = omega arith in
      let f : 10 ^ (17 + s) ≡ 10 ^ 17 * t = pow-add 10 17 s ∙ ap (λ m. 10 ^ 17 * m) (ap (λ m. 10 ^ m) (sym same) ∙ sym e) in
      inr (inr ((le-div_iff_mul-le {k = t} {x = 10 ^ 17} {y = n} t0).1 (omega (arith, reached s0))))
  by k (inr g) = elim (cases_lt 36 p) as (λ _. (c ≡ 0) ⊎ ((36 ≤ p - c) ⊎ (10 ^ 17 ≤ n / t))) [
    | inl b ↦ inr (inl (omega arith))
    | inr b ↦ inl (omega arith)
  ]
  by (inr z) (inl g) = inl (omega arith)

-- digits that are few enough are kept, all of them
pub all_kept : (n p : ℕ) (lost : Bool) → n < 10 ^ 18 → p ≤ 36 → IsFirst n p lost n p lost
all_kept n p lost digits places = record {
  count = 0;
  rest = 0;
  at_places = omega arith;
  split = omega arith;
  below = omega arith;
  all = (λ e. (e, refl), λ e. e.0);
  most_digits = digits;
  most_places = places;
  as_many = inl refl;
}
