-- Products and negatives of decimal numbers.
use Rattle.std.specs.Prelude.{◌≡◌, ℕ, ◌+◌, ◌*◌, Bool, true, false, ℤ, pos, ◌*ℤ◌, refl}
use Rattle.std.proofs.Common.{sym, ap, ◌∙◌, arith}
use Rattle.std.proofs.Math.Pow.{pow-add}
use std.Quotient.{eq/, /_rec, /_rec₂}
use Rattle.exact_fraction.specs.Whole.{diff_same, push}
use Rattle.exact_fraction.specs.Fraction.{◌⊗◌}
use Rattle.exact_fraction.specs.Number.{◌*ℚ◌}
use Rattle.decimal18.specs.Bound.{scaled, fraction_of, value_of}
use Rattle.decimal18.specs.Digits.{signed, signed_ℚ, differ}
use Rattle.decimal18.proofs.CutOff.{value-signed}

-- the coefficients are multiplied, and the places added
pub value-product : (m n : ℤ) (p q : ℕ) → value_of (scaled m p) *ℚ value_of (scaled n q) ≡ value_of (scaled (m *ℤ n) (p + q))
unfolding value_of ◌*ℚ◌ ◌⊗◌ /_rec₂ /_rec
value-product m n p q =
    eq/ (fraction_of (scaled m p) ⊗ fraction_of (scaled n q)) (fraction_of (scaled (m *ℤ n) (p + q)))
    (record { same = ap (λ t. (m *ℤ n) *ℤ pos t) (pow-add 10 p q) })

pub signed_product : (na nb : Bool) (m n : ℕ) → (signed na m *ℤ signed nb n) ≡ signed (differ na nb) (m * n)
signed_product true true m n = simp push (diff_same _ _ _ _ (omega arith))
signed_product true false m n = simp push (diff_same _ _ _ _ (omega arith))
signed_product false true m n = simp push (diff_same _ _ _ _ (omega arith))
signed_product false false m n = refl

pub product_is : (c d : ℤ) (na nb : Bool) (m n p q : ℕ) → c ≡ signed na m → d ≡ signed nb n
    → signed_ℚ (differ na nb) (value_of (scaled (pos (m * n)) (p + q))) ≡ value_of (scaled c p) *ℚ value_of (scaled d q)
product_is c d na nb m n p q ec ed =
    value-signed (differ na nb) (m * n) (p + q)
    ∙ ap (λ z. value_of (scaled z (p + q))) (sym (signed_product na nb m n) ∙ ap (λ z. z *ℤ signed nb n) (sym ec) ∙ ap (λ z. c *ℤ z) (sym ed))
    ∙ sym (value-product c d p q)

-- the same, at places that are known to be those
pub product_at : (c d : ℤ) (na nb : Bool) (m n p q pr qr : ℕ) → c ≡ signed na m → d ≡ signed nb n → pr ≡ p → qr ≡ q
    → signed_ℚ (differ na nb) (value_of (scaled (pos (m * n)) (pr + qr))) ≡ value_of (scaled c p) *ℚ value_of (scaled d q)
product_at c d na nb m n p q pr qr ec ed ep eq =
    ap (λ i. signed_ℚ (differ na nb) (value_of (scaled (pos (m * n)) (i + qr)))) ep ∙ ap (λ i. signed_ℚ (differ na nb) (value_of (scaled (pos (m * n)) (p + i)))) eq
    ∙ product_is c d na nb m n p q ec ed
