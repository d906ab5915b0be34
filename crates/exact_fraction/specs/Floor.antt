-- Lemmas on the floor of a fraction: a whole number is at most the fraction exactly where it is at
-- most the floor, so equal fractions have one floor.
use Rattle.std.specs.Prelude.{◌≡◌, ℕ, suc, ◌*◌, ◌<◌, ℤ, pos, negsuc, ◌*ℤ◌, ◌≤ℤ◌, refl}
use Rattle.std.proofs.Common.{arith, ap, sym, subst}
use Rattle.std.proofs.lemmas.Int.{ints}
use lib.Signed.{≤ℤ_refl}
use Rattle.std.proofs.Math.Nat.{le-div_iff_mul-le, div-lt_iff_lt-mul}
use Rattle.exact_fraction.specs.Fraction.{Fraction, ◌≈◌, ◌≼◌, whole, floor_of, floor}
use Rattle.exact_fraction.specs.FractionLaws.{≈_sym, ≼_trans, ≼-of_≈}
use Rattle.exact_fraction.specs.Whole.{le_both}

not_above : (z n : ℤ) (d : ℕ) → 0 < d → (z *ℤ pos d) ≤ℤ n → z ≤ℤ floor_of n d
not_above (pos c) (pos n) d d0 h = let g = (le-div_iff_mul-le {k = d} {x = c} {y = n} d0).1 (omega (arith, ints)) in omega (arith, ints)
not_above (pos c) (negsuc n) d d0 h = absurd (omega (arith, ints))
not_above (negsuc c) (pos n) d d0 h = omega (arith, ints)
not_above (negsuc c) (negsuc n) d d0 h = let g = (div-lt_iff_lt-mul {k = d} {x = n} {y = suc c} d0).1 (omega (arith, ints)) in omega (arith, ints)

below_floor : (z n : ℤ) (d : ℕ) → 0 < d → z ≤ℤ floor_of n d → (z *ℤ pos d) ≤ℤ n
below_floor (pos c) (pos n) d d0 h = let g = (le-div_iff_mul-le {k = d} {x = c} {y = n} d0).0 (omega (arith, ints)) in omega (arith, ints)
below_floor (pos c) (negsuc n) d d0 h = absurd (omega (arith, ints))
below_floor (negsuc c) (pos n) d d0 h = omega (arith, ints)
below_floor (negsuc c) (negsuc n) d d0 h = let g = (div-lt_iff_lt-mul {k = d} {x = n} {y = suc c} d0).0 (omega (arith, ints)) in omega (arith, ints)

pub times_one : (z : ℤ) → (z *ℤ pos 1) ≡ z
times_one (pos n) = ap pos (omega arith)
times_one (negsuc n) = let e : suc n * 1 ≡ suc n = omega arith in rw e refl

pub ≤floor : (z : ℤ) (q : Fraction) → whole z ≼ q → z ≤ℤ floor q
unfolding floor
≤floor z q h =
    let g : (z *ℤ pos q.den) ≤ℤ q.num = subst (λ n. (z *ℤ pos q.den) ≤ℤ n) (times_one q.num) h.at_most in
    not_above z q.num q.den q.positive g

pub floor-≤ : (z : ℤ) (q : Fraction) → z ≤ℤ floor q → whole z ≼ q
unfolding floor
floor-≤ z q h = record { at_most = subst (λ n. (z *ℤ pos q.den) ≤ℤ n) (sym (times_one q.num)) (below_floor z q.num q.den q.positive h) }

floor-rises : (q r : Fraction) → q ≼ r → floor q ≤ℤ floor r
floor-rises q r h = ≤floor (floor q) r (≼_trans _ q r (floor-≤ (floor q) q (≤ℤ_refl _)) h)

pub floor-same : (q r : Fraction) → q ≈ r → floor q ≡ floor r
floor-same q r h = le_both _ _ (floor-rises q r (≼-of_≈ q r h)) (floor-rises r q (≼-of_≈ r q (≈_sym q r h)))
