-- How a fraction compares with a whole number: by the whole part, and then by the remainder.
use Rattle.std.specs.Prelude.{◌≡◌, ℕ, suc, ◌+◌, ◌-◌, ◌*◌, ◌/◌, ◌%◌, ◌<◌, neg_ℤ, ℤ, pos, negsuc, ◌+ℤ◌, ◌*ℤ◌, ◌≤ℤ◌, ◌<ℤ◌, refl}
use Rattle.std.proofs.Common.{arith, subst}
use Rattle.std.proofs.lemmas.Int.{ints}
use Rattle.std.specs.Int.{int_div_euclid, int_rem_euclid}
use Rattle.std.specs.Ordering.{int_cmp, ordering_then, MatchOrdering}
use Rattle.std.specs.Cmp.{int_ranks}
use Rattle.std.specs.declared.cmp.Ordering.{Ordering}
use Rattle.std.specs.declared.cmp.Ordering.TheVariants.{Less, Equal, Greater}
use std.Quotient.{eq/, /_rec}
use Rattle.exact_fraction.specs.Fraction.{Fraction, whole, floor, floor_of}
use Rattle.exact_fraction.specs.Floor.{times_one}
use Rattle.exact_fraction.specs.Number.{number_of, of_ℤ, ◌≤ℚ◌, floor_ℚ}
use Rattle.exact_fraction.specs.NumberLaws.{≤floor_ℚ, floor_ℚ-≤, ≼-of_≤ℚ, ≤ℤ-of_≤ℚ, ≤ℚ_trans}
use lib.Signed.{≤ℤ_refl}
use Rattle.exact_fraction.specs.Ratio.{IsOrderOf}

negative_parts : (n m k d : ℕ) → m + k ≡ n + d → k < d → negsuc n ≡ (neg_ℤ (pos m) +ℤ pos ((d - 1) - k))
negative_parts n m k d e h = omega (arith, ints)

-- the quotient and the remainder
divided : (n : ℤ) (d : ℕ) → 0 < d → n ≡ ((int_div_euclid n (pos d) *ℤ pos d) +ℤ int_rem_euclid n (pos d))
divided (pos n) d d0 = omega (arith, ints)
divided (negsuc n) d d0 = negative_parts n (suc (n / d) * d) (n % d) d (omega arith) (omega arith)

not_negative : (n : ℤ) (d : ℕ) → pos 0 ≤ℤ int_rem_euclid n (pos d)
not_negative (pos n) d = omega (arith, ints)
not_negative (negsuc n) d = omega (arith, ints)

pub floor_is : (n : ℤ) (d : ℕ) → floor_of n d ≡ int_div_euclid n (pos d)
floor_is (pos n) d = refl
floor_is (negsuc n) d = refl

floor_ℚ_is : (q : Fraction) → floor_ℚ (number_of q) ≡ int_div_euclid q.num (pos q.den)
unfolding floor_ℚ floor /_rec
floor_ℚ_is q = floor_is q.num q.den

below : (q : Fraction) (b : ℤ) → int_div_euclid q.num (pos q.den) <ℤ b → ¬ (of_ℤ b ≤ℚ number_of q)
below q b h k =
    let floor_above : b ≤ℤ floor_ℚ (number_of q) = ≤floor_ℚ b (number_of q) k in
    let g : b ≤ℤ int_div_euclid q.num (pos q.den) = subst (λ z. b ≤ℤ z) (floor_ℚ_is q) floor_above in
    omega (arith, ints)

above : (q : Fraction) (b : ℤ) → b <ℤ int_div_euclid q.num (pos q.den) → ¬ (number_of q ≤ℚ of_ℤ b)
above q b h k =
    let g = ≤ℤ-of_≤ℚ (floor_ℚ (number_of q)) b (≤ℚ_trans _ _ _ (floor_ℚ-≤ (floor_ℚ (number_of q)) (number_of q) (≤ℤ_refl _)) k) in
    let f : int_div_euclid q.num (pos q.den) ≤ℤ b = subst (λ z. z ≤ℤ b) (floor_ℚ_is q) g in
    omega (arith, ints)

same_parts : (n b w r : ℤ) (d : ℕ) → n ≡ ((w *ℤ pos d) +ℤ r) → w ≡ b → r ≡ pos 0 → (n *ℤ pos 1) ≡ (b *ℤ pos d)
same_parts n b w r d e f g = rw (times_one n, e, f, g) (omega (arith, ints))

same : (q : Fraction) (b : ℤ) → int_div_euclid q.num (pos q.den) ≡ b → int_rem_euclid q.num (pos q.den) ≡ pos 0 → number_of q ≡ of_ℤ b
same q b h k =
    eq/ q (whole b) (record {
      same = same_parts q.num b (int_div_euclid q.num (pos q.den)) (int_rem_euclid q.num (pos q.den)) q.den (divided q.num q.den q.positive) h k;
    })

more_parts : (n b w r : ℤ) (d : ℕ) → n ≡ ((w *ℤ pos d) +ℤ r) → w ≡ b → pos 0 <ℤ r → (n *ℤ pos 1) ≤ℤ (b *ℤ pos d) → ⊥
more_parts n b w r d e f g h =
    let k : n ≤ℤ (b *ℤ pos d) = rw (times_one n) at h in
    let j : n ≡ ((b *ℤ pos d) +ℤ r) = rw (← f) e in
    omega (arith, ints)

just_above : (q : Fraction) (b : ℤ) → int_div_euclid q.num (pos q.den) ≡ b → pos 0 <ℤ int_rem_euclid q.num (pos q.den) → ¬ (number_of q ≤ℚ of_ℤ b)
just_above q b h k j =
    more_parts q.num b (int_div_euclid q.num (pos q.den)) (int_rem_euclid q.num (pos q.den)) q.den (divided q.num q.den q.positive) h k
    (≼-of_≤ℚ q (whole b) j).at_most

by_parts : (q : Fraction) (b : ℤ) (s t : Ordering)
    → MatchOrdering s (int_div_euclid q.num (pos q.den) <ℤ b) (int_div_euclid q.num (pos q.den) ≡ b) (b <ℤ int_div_euclid q.num (pos q.den))
    → MatchOrdering t (int_rem_euclid q.num (pos q.den) <ℤ pos 0) (int_rem_euclid q.num (pos q.den) ≡ pos 0) (pos 0 <ℤ int_rem_euclid q.num (pos q.den))
    → IsOrderOf (ordering_then s t) (number_of q) (of_ℤ b)
by_parts q b Less t h k = below q b h
by_parts q b Greater t h k = above q b h
by_parts q b Equal Equal h k = same q b h k
by_parts q b Equal Greater h k = just_above q b h k
by_parts q b Equal Less h k = let g = not_negative q.num q.den in absurd (omega (arith, ints))

-- by the quotient and the remainder of the division
pub compared : (q : Fraction) (b : ℤ) (s t o : Ordering) → s ≡ int_cmp (int_div_euclid q.num (pos q.den)) b
    → t ≡ int_cmp (int_rem_euclid q.num (pos q.den)) (pos 0) → o ≡ ordering_then s t → IsOrderOf o (number_of q) (of_ℤ b)
compared q b s t o e f g =
    rw (g, e, f) (by_parts q b _ _ (int_ranks (int_div_euclid q.num (pos q.den)) b) (int_ranks (int_rem_euclid q.num (pos q.den)) (pos 0)))
