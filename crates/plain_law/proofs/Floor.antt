-- The floor of a quotient by the division of its sizes.
use Rattle.std.specs.Prelude.{◌≡◌, ℕ, suc, ◌+◌, ◌-◌, ◌/◌, ◌<◌, Bool, true, false, ℤ, pos, refl}
use Rattle.std.proofs.Common.{sym, ◌∙◌, ap, arith}
use Rattle.std.proofs.lemmas.Bool.{true≢false}
use std.Quotient.{/_rec}
use Rattle.exact_fraction.specs.Fraction.{floor}
use Rattle.exact_fraction.specs.Number.{number_of, of_ℤ, ◌/ℚ◌, floor_ℚ}
use Rattle.exact_fraction.proofs.Quotients.{number_of-parts}
use Rattle.plain_law.specs.Numbers.{signed}
use Rattle.plain_law.proofs.Quotient.{part}

floor_part : (s : Bool) (n d : ℕ) (d0 : 0 < d) (z : ℤ) → floor_ℚ (number_of (part (signed s n) d d0)) ≡ z
    → of_ℤ z ≡ of_ℤ (floor_ℚ (of_ℤ (signed s n) /ℚ of_ℤ (pos d)))
floor_part s n d d0 z h = ap of_ℤ (sym h ∙ ap floor_ℚ (number_of-parts (part (signed s n) d d0)))

up : (n d : ℕ) (d0 : 0 < d) → floor_ℚ (number_of (part (signed false n) d d0)) ≡ signed false (n / d)
unfolding floor_ℚ /_rec floor
up n d d0 = refl

down : (n d : ℕ) (d0 : 0 < d) → floor_ℚ (number_of (part (signed true (suc n)) d d0)) ≡ signed true (suc (n / d))
unfolding floor_ℚ /_rec floor
down n d d0 = refl

floor_up : (n d : ℕ) → 0 < d → of_ℤ (signed false (n / d)) ≡ of_ℤ (floor_ℚ (of_ℤ (signed false n) /ℚ of_ℤ (pos d)))
floor_up n d d0 = floor_part false n d d0 (signed false (n / d)) (up n d d0)

floor_suc : (n m d : ℕ) → 0 < d → n ≡ suc m
    → of_ℤ (signed true (suc (m / d))) ≡ of_ℤ (floor_ℚ (of_ℤ (signed true n) /ℚ of_ℤ (pos d)))
floor_suc n m d d0 e =
    floor_part true (suc m) d d0 (signed true (suc (m / d))) (down m d d0)
    ∙ ap (λ t. of_ℤ (floor_ℚ (of_ℤ (signed true t) /ℚ of_ℤ (pos d)))) (sym e)

pub floor_negative : (s : Bool) (n d : ℕ) → 0 < d → s ≡ true → 0 < n
    → of_ℤ (signed true ((n - 1) / d + 1)) ≡ of_ℤ (floor_ℚ (of_ℤ (signed s n) /ℚ of_ℤ (pos d)))
floor_negative false n d d0 h n0 = absurd (true≢false (sym h))
floor_negative true n d d0 h n0 =
    let e : n ≡ suc (n - 1) = omega arith in
    let f : (n - 1) / d + 1 ≡ suc ((n - 1) / d) = omega arith in
    ap (λ t. of_ℤ (signed true t)) f ∙ floor_suc n (n - 1) d d0 e

pub floor_not_negative : (s : Bool) (n d : ℕ) → 0 < d → (s ≡ true → n ≡ 0)
    → of_ℤ (signed false (n / d)) ≡ of_ℤ (floor_ℚ (of_ℤ (signed s n) /ℚ of_ℤ (pos d)))
floor_not_negative false n d d0 h = floor_up n d d0
floor_not_negative true n d d0 h =
    floor_up n d d0 ∙ ap (λ t. of_ℤ (floor_ℚ (of_ℤ t /ℚ of_ℤ (pos d)))) (ap (λ t. signed false t) (h refl) ∙ sym (ap (λ t. signed true t) (h refl)))
