-- Lemmas on the inverse: equal fractions have equal inverses, and a fraction that is not 0 times its
-- inverse is 1.
use Rattle.std.specs.Prelude.{◌≡◌, ℕ, zero, suc, ◌*◌, ◌<◌, ℤ, pos, negsuc, ◌*ℤ◌, neg_ℤ, refl, false}
use Rattle.std.proofs.Common.{arith, ap}
use Rattle.std.proofs.lemmas.Bool.{true≢false}
use Rattle.std.proofs.lemmas.Int.{ints}
use Rattle.exact_fraction.specs.Fraction.{Fraction, ◌≈◌, ◌⊗◌, whole, inverse, inverse_of, is_zero_ℤ}
use Rattle.exact_fraction.specs.FractionLaws.{≈_refl}
use Rattle.exact_fraction.specs.Whole.{diff_same, push}

crossed : (a b k m : ℕ) → a * m ≡ b * k → (neg_ℤ (pos k) *ℤ pos b) ≡ (neg_ℤ (pos m) *ℤ pos a)
crossed a b k m h = simp push (diff_same _ _ _ _ (omega arith))

inverse_same : (a b : ℤ) (k m : ℕ) → 0 < k → 0 < m → (a *ℤ pos m) ≡ (b *ℤ pos k) → inverse_of a k ≈ inverse_of b m
inverse_same (pos zero) (pos zero) k m k0 m0 h = ≈_refl _
inverse_same (pos zero) (pos (suc b)) k m k0 m0 h = absurd (omega (arith, ints))
inverse_same (pos zero) (negsuc b) k m k0 m0 h = absurd (omega (arith, ints))
inverse_same (pos (suc a)) (pos zero) k m k0 m0 h = absurd (omega (arith, ints))
inverse_same (pos (suc a)) (pos (suc b)) k m k0 m0 h = record { same = ap pos (omega (arith, ints)) }
inverse_same (pos (suc a)) (negsuc b) k m k0 m0 h = absurd (omega (arith, ints))
inverse_same (negsuc a) (pos zero) k m k0 m0 h = absurd (omega (arith, ints))
inverse_same (negsuc a) (pos (suc b)) k m k0 m0 h = absurd (omega (arith, ints))
inverse_same (negsuc a) (negsuc b) k m k0 m0 h = record { same = crossed (suc a) (suc b) k m (omega (arith, ints)) }

pub inverse-same : (q r : Fraction) → q ≈ r → inverse q ≈ inverse r
unfolding inverse
inverse-same q r h = inverse_same q.num r.num q.den r.den q.positive r.positive h.same

is_zero_same : (a b : ℤ) (k m : ℕ) → 0 < k → 0 < m → (a *ℤ pos m) ≡ (b *ℤ pos k) → is_zero_ℤ a ≡ is_zero_ℤ b
is_zero_same (pos zero) (pos zero) k m k0 m0 h = refl
is_zero_same (pos zero) (pos (suc b)) k m k0 m0 h = absurd (omega (arith, ints))
is_zero_same (pos zero) (negsuc b) k m k0 m0 h = absurd (omega (arith, ints))
is_zero_same (pos (suc a)) (pos zero) k m k0 m0 h = absurd (omega (arith, ints))
is_zero_same (pos (suc a)) (pos (suc b)) k m k0 m0 h = refl
is_zero_same (pos (suc a)) (negsuc b) k m k0 m0 h = refl
is_zero_same (negsuc a) (pos zero) k m k0 m0 h = absurd (omega (arith, ints))
is_zero_same (negsuc a) (pos (suc b)) k m k0 m0 h = refl
is_zero_same (negsuc a) (negsuc b) k m k0 m0 h = refl

pub is_zero-same : (q r : Fraction) → q ≈ r → is_zero_ℤ q.num ≡ is_zero_ℤ r.num
is_zero-same q r h = is_zero_same q.num r.num q.den r.den q.positive r.positive h.same

negatives : (a k : ℕ) → (negsuc a *ℤ neg_ℤ (pos k)) ≡ pos (suc a * k)
negatives a k = simp push (diff_same _ _ _ _ (omega arith))

times_inverse : (a : ℤ) (k : ℕ) → is_zero_ℤ a ≡ false
    → ((a *ℤ (inverse_of a k).num) *ℤ pos 1) ≡ (pos 1 *ℤ pos (k * (inverse_of a k).den))
times_inverse (pos zero) k h = absurd (true≢false h)
times_inverse (pos (suc a)) k h = ap pos (omega arith)
times_inverse (negsuc a) k h = rw (negatives a k) (ap pos (omega arith))

pub ⊗-inverse : (q : Fraction) → is_zero_ℤ q.num ≡ false → q ⊗ inverse q ≈ whole (pos 1)
unfolding inverse ◌⊗◌
⊗-inverse q h = record { same = times_inverse q.num q.den h }
