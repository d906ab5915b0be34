-- Readings that are too wide, by their size and by their power of ten; and those that are not.
use Rattle.std.specs.Prelude.{◌≡◌, ℕ, zero, suc, ◌+◌, ◌-◌, ◌*◌, ◌^◌, ◌<◌, ◌≤◌, false, nat_le, nat_lt, ℤ, pos, ◌*ℤ◌, unsigned_abs, refl}
use Rattle.std.proofs.Common.{sym, ◌∙◌, ap, subst, arith, mul-le-mul_right}
use Rattle.std.proofs.Math.IntN.{zero-*ℤ}
use Rattle.std.proofs.Math.Nat.{le_of_mul-le-mul_right, pow-le-pow_right, one-le-pow}
use Rattle.std.proofs.Math.Pow.{pow-add}
use Rattle.std.proofs.Math.Dec.{lit≤}
use Rattle.std.proofs.lemmas.Bool.{le-leb, leb-true, or_parts}
use Rattle.std.specs.Cmp.{both_ways}
use Rattle.std.proofs.lemmas.Bool.Decides.{nat_tests}
use Rattle.std.proofs.lemmas.Int.{ints, unsigned_abs-mul}
use Rattle.type_a.specs.Tables.{coefficient_at, is_wide}
use Rattle.decimal18.specs.Bound.{Bound}

not_at_most : (a b : ℕ) → b < a → nat_le a b ≡ false
not_at_most a b h = grind (arith, nat_tests)

pub never_great : (size places : ℕ) → size < 10 ^ 18 → 8 < places → false ≡ nat_le (10 ^ (9 + places)) size
never_great size places h far =
    let over : 18 ≤ 9 + places = omega (arith, far) in
    let power : 10 ^ 18 ≤ 10 ^ (9 + places) = pow-le-pow_right {n = 10} (lit≤ tt) over in
    sym (not_at_most (10 ^ (9 + places)) size (omega (arith, power, h)))

-- a size times a power of ten above the limit is past it unless it is 0
pub past_limit_far : (size exponent : ℕ) → 15 < exponent → nat_lt 0 size ≡ nat_le (10 ^ 15) (size * 10 ^ exponent)
past_limit_far zero exponent far = grind (arith, nat_tests)
past_limit_far (suc n) exponent far =
    let over : 15 ≤ exponent = omega (arith, far) in
    let power : 10 ^ 15 ≤ 10 ^ exponent = pow-le-pow_right {n = 10} (lit≤ tt) over in
    let whole : 10 ^ exponent ≤ suc n * 10 ^ exponent = omega arith in
    let big : 10 ^ 15 ≤ suc n * 10 ^ exponent = omega (arith, power, whole) in
    grind (arith, nat_tests)

-- and for a lower power it is past the limit from the limit's quotient on
same_test : (a b c d : ℕ) → (a ≤ b → c ≤ d) → (c ≤ d → a ≤ b) → nat_le a b ≡ nat_le c d
same_test a b c d f g = both_ways _ _ (λ h. le-leb c d (f (leb-true a b h))) (λ h. le-leb a b (g (leb-true c d h)))

pub past_limit_near : (size exponent : ℕ) → exponent ≤ 15 → nat_le (10 ^ (15 - exponent)) size ≡ nat_le (10 ^ 15) (size * 10 ^ exponent)
past_limit_near size exponent near =
    let parts : 15 ≡ (15 - exponent) + exponent = omega (arith, near) in
    let split : 10 ^ 15 ≡ 10 ^ (15 - exponent) * 10 ^ exponent =
    ap (λ k. 10 ^ k) parts ∙ pow-add 10 (15 - exponent) exponent in
    same_test (10 ^ (15 - exponent)) size (10 ^ 15) (size * 10 ^ exponent)
    (λ h. let m : 10 ^ (15 - exponent) * 10 ^ exponent ≤ size * 10 ^ exponent = mul-le-mul_right (10 ^ exponent) h in omega (arith, m, split))
    (λ h. le_of_mul-le-mul_right (omega (arith, h, split)) (one-le-pow exponent 10 (lit≤ tt)))

-- ---- a reading that is not too wide
pub size_of_coefficient : (p : ℕ) (b : Bound) → unsigned_abs (coefficient_at p b) ≡ unsigned_abs b.coefficient * 10 ^ (p - b.places)
size_of_coefficient p b = unsigned_abs-mul b.coefficient (pos (10 ^ (p - b.places)))

pub great_not : (p : ℕ) (b : Bound) → is_wide p b ≡ false → unsigned_abs b.coefficient < 10 ^ (9 + b.places)
great_not p b h =
    let parts = or_parts (nat_le (10 ^ (9 + b.places)) (unsigned_abs b.coefficient)) (nat_le (10 ^ 15) (unsigned_abs (coefficient_at p b))) h in
    let test : nat_le (10 ^ (9 + b.places)) (unsigned_abs b.coefficient) ≡ false = parts.0 in
    grind (arith, nat_tests)

pub small_coefficient : (p : ℕ) (b : Bound) → is_wide p b ≡ false → unsigned_abs (coefficient_at p b) < 10 ^ 15
small_coefficient p b h =
    let parts = or_parts (nat_le (10 ^ (9 + b.places)) (unsigned_abs b.coefficient)) (nat_le (10 ^ 15) (unsigned_abs (coefficient_at p b))) h in
    let test : nat_le (10 ^ 15) (unsigned_abs (coefficient_at p b)) ≡ false = parts.1 in
    grind (arith, nat_tests)

no_size : (c : ℤ) → unsigned_abs c ≡ 0 → c ≡ pos 0
no_size c h = omega (arith, ints, h)

too_far : (n t : ℕ) → n * t < 10 ^ 15 → 10 ^ 15 ≤ t → n ≡ 0
too_far zero t h k = refl
too_far (suc n) t h k = absurd (let whole : t ≤ suc n * t = omega arith in omega (arith, h, k, whole))

-- and far from its last place there is only 0
pub zero_from_far : (p : ℕ) (b : Bound) → is_wide p b ≡ false → 15 < p - b.places → pos 0 ≡ coefficient_at p b
zero_from_far p b h far =
    let over : 15 ≤ p - b.places = omega (arith, far) in
    let power : 10 ^ 15 ≤ 10 ^ (p - b.places) = pow-le-pow_right {n = 10} (lit≤ tt) over in
    let none : unsigned_abs b.coefficient ≡ 0 =
    too_far (unsigned_abs b.coefficient) (10 ^ (p - b.places)) (subst (λ n. n < 10 ^ 15) (size_of_coefficient p b) (small_coefficient p b h)) power in
    sym (zero-*ℤ (pos (10 ^ (p - b.places)))) ∙ ap (λ c. c *ℤ pos (10 ^ (p - b.places))) (sym (no_size b.coefficient none))

pub power_small : (exponent n : ℕ) → exponent < 18 → n ≡ 10 ^ exponent → n < 10 ^ 18
power_small exponent n h e =
    let over : exponent ≤ 17 = omega (arith, h) in
    let power : 10 ^ exponent ≤ 10 ^ 17 = pow-le-pow_right {n = 10} (lit≤ tt) over in
    omega (arith, power, e)
