-- The values of decimal numbers: zeros at the end change none, the order of coefficients at one
-- number of places is the order of values, and a floor is the greatest coefficient not above.
use Rattle.std.specs.Prelude.{◌≡◌, ◌≢◌, ℕ, ◌+◌, ◌*◌, ◌^◌, ℤ, pos, ◌*ℤ◌, ◌≤ℤ◌, refl}
use Rattle.std.proofs.Common.{subst, ap, ◌∙◌, arith}
use Rattle.std.proofs.Math.Pow.{pow-add}
use lib.Dec.{T_prop}
use mathlib.Core.HLevel.{Π_prop}
use std.Quotient.{eq/, /_rec, /_rec₂, /_elim_prop}
use Rattle.exact_fraction.specs.Whole.{diff_of, diff_same, push, le_from}
use Rattle.exact_fraction.specs.Fraction.{◌⊗◌, whole}
use Rattle.exact_fraction.specs.Floor.{times_one}
use Rattle.exact_fraction.specs.Number.{ℚ, of_ℤ, ◌*ℚ◌, ◌≤ℚ◌}
use Rattle.exact_fraction.specs.NumberLaws.{≤ℚ-of_≼, ≼-of_≤ℚ, ≤ℚ_prop, ≤floor_ℚ, floor_ℚ-≤}
use Rattle.decimal18.specs.Bound.{Bound, scaled, fraction_of, value_of}
use Rattle.decimal18.specs.Down.{floor_at}

shifted : (m : ℤ) (k s n : ℕ) → n ≡ s * k → ((m *ℤ pos k) *ℤ pos s) ≡ (m *ℤ pos n)
shifted m k s n e = rw (e, ← diff_of m) (simp push (diff_same _ _ _ _ (omega arith)))

-- k zeros more after the last digit
pub value-shifted : (m : ℤ) (s k : ℕ) → value_of (scaled (m *ℤ pos (10 ^ k)) (s + k)) ≡ value_of (scaled m s)
unfolding value_of
value-shifted m s k =
    eq/ (fraction_of (scaled (m *ℤ pos (10 ^ k)) (s + k))) (fraction_of (scaled m s)) (record { same = shifted m (10 ^ k) (10 ^ s) (10 ^ (s + k)) (pow-add 10 s k) })

-- at one number of places the coefficients order the values
pub value-rises : (m n : ℤ) (p : ℕ) → m ≤ℤ n → value_of (scaled m p) ≤ℚ value_of (scaled n p)
unfolding value_of
value-rises m n p h = ≤ℚ-of_≼ _ _ (record { at_most = times_power m n (10 ^ p) h }) where
  times_power : (m n : ℤ) (t : ℕ) → m ≤ℤ n → (m *ℤ pos t) ≤ℤ (n *ℤ pos t)
  times_power m n t h = le_from t _ _ _ _ h (rw (← diff_of m, ← diff_of n) (simp push (diff_same _ _ _ _ (omega arith))))

-- a whole number
pub value-whole : (z : ℤ) → value_of (scaled z 0) ≡ of_ℤ z
unfolding value_of
value-whole z = eq/ (fraction_of (scaled z 0)) (whole z) (record { same = refl })

≤ℤ_prop : (a b : ℤ) → IsProp (a ≤ℤ b)
≤ℤ_prop a b = hlevel T_prop

to_whole : (m n : ℤ) (d t : ℕ) → (m *ℤ pos d) ≤ℤ (n *ℤ pos t) → (m *ℤ pos (d * 1)) ≤ℤ ((n *ℤ pos t) *ℤ pos 1)
to_whole m n d t h = rw (times_one (n *ℤ pos t)) (subst (λ k. (m *ℤ pos k) ≤ℤ (n *ℤ pos t)) (omega arith) h)

from_whole : (m n : ℤ) (d t : ℕ) → (m *ℤ pos (d * 1)) ≤ℤ ((n *ℤ pos t) *ℤ pos 1) → (m *ℤ pos d) ≤ℤ (n *ℤ pos t)
from_whole m n d t h =
    let g : (m *ℤ pos (d * 1)) ≤ℤ (n *ℤ pos t) = rw (times_one (n *ℤ pos t)) at h in
    subst (λ k. (m *ℤ pos k) ≤ℤ (n *ℤ pos t)) (omega arith) g

pub under_floor : (m : ℤ) (p : ℕ) (x : ℚ) → value_of (scaled m p) ≤ℚ x → m ≤ℤ floor_at x p
unfolding value_of ◌*ℚ◌ ◌⊗◌ /_rec₂ /_rec
under_floor m p =
    /_elim_prop (λ x. value_of (scaled m p) ≤ℚ x → m ≤ℤ floor_at x p) (λ x. Π_prop (λ _. ≤ℤ_prop _ _))
    (λ q h. ≤floor_ℚ m _ (≤ℚ-of_≼ (whole m) (q ⊗ whole (pos (10 ^ p)))
    (record { at_most = to_whole m q.num q.den (10 ^ p) (≼-of_≤ℚ (fraction_of (scaled m p)) q h).at_most })))

pub under_value : (m : ℤ) (p : ℕ) (x : ℚ) → m ≤ℤ floor_at x p → value_of (scaled m p) ≤ℚ x
unfolding value_of ◌*ℚ◌ ◌⊗◌ /_rec₂ /_rec
under_value m p =
    /_elim_prop (λ x. m ≤ℤ floor_at x p → value_of (scaled m p) ≤ℚ x) (λ x. Π_prop (λ _. ≤ℚ_prop _ _))
    (λ q h. ≤ℚ-of_≼ (fraction_of (scaled m p)) q (record {
      at_most = from_whole m q.num q.den (10 ^ p)
          (≼-of_≤ℚ (whole m) (q ⊗ whole (pos (10 ^ p))) (floor_ℚ-≤ m _ h)).at_most;
    }))

value-zero : (c : ℤ) (p : ℕ) → c ≡ pos 0 → value_of (scaled c p) ≡ of_ℤ (pos 0)
unfolding value_of
value-zero c p e = eq/ (fraction_of (scaled c p)) (whole (pos 0)) (record { same = ap (λ z. z *ℤ pos 1) e ∙ nothing (10 ^ p) }) where
  nothing : (t : ℕ) → pos 0 ≡ (pos 0 *ℤ pos t)
  nothing t = ap pos (omega arith)

-- what is not 0 has a coefficient that is not 0
pub coefficient_not_zero : (b : Bound) → value_of b ≢ of_ℤ (pos 0) → b.coefficient ≢ pos 0
coefficient_not_zero b h e = h (value-zero b.coefficient b.places e)
