-- What both ends of a span are rounded to, and that all numbers between them are rounded to it.
use Rattle.std.specs.Prelude.{◌≡◌, ℕ, Option, None, Some, IfSome, ℤ, pos, ◌≤ℤ◌, refl}
use Rattle.std.proofs.Common.{sym, ◌∙◌, ap, ap₂, subst}
use Rattle.exact_fraction.specs.Number.{ℚ, of_ℤ, ◌≤ℚ◌}
use Rattle.exact_fraction.specs.NumberLaws.{≤ℚ_antisym, ≤ℚ_trans}
use Rattle.exact_fraction.proofs.OrderLaws.{≤ℚ_left, ≤ℚ_right}
use Rattle.exact_law.specs.Rounding.{Digits as ExactDigits, Zero as ExactZero, Two, AreDigitsOf, IsTwoDigits}
use Rattle.exact_law.proofs.RoundingLaws.{two_digits-between}
use Rattle.exact_law.proofs.DigitLaws.{digits-unique}
use Rattle.decimal18.specs.Bound.{value_of}
use Rattle.fixed_interval.specs.Interval.{Interval, IsOrdered, Encloses}
use Rattle.round_out.specs.Settled.{HaveDigits, AreSettledDigits, stated_digits}
use Rattle.round_out.specs.declared.digits.Rounded.{Rounded}
use Rattle.round_out.specs.declared.digits.Rounded.TheVariants.{Zero, Digits, Unsettled}
use Rattle.round_out.proofs.Tens.{none_above, not_zero}

-- ---- digits
pub digits-between : (x z y : ℚ) (d : ExactDigits) → x ≤ℚ z → z ≤ℚ y → AreDigitsOf x d → AreDigitsOf y d → AreDigitsOf z d
unfolding AreDigitsOf
digits-between x z y ExactZero h k d e = ≤ℚ_antisym _ _ (≤ℚ_right _ _ _ e k) (≤ℚ_left _ _ _ (sym d) h)
digits-between x z y (Two m p) h k d e = two_digits-between x z y m p h k d e

pub all_between : (v : Interval) (o : Option ExactDigits) → AreSettledDigits v o → (x : ℚ) → Encloses v x → IfSome o (AreDigitsOf x)
all_between v None h x e = tt
all_between v (Some d) h x e = digits-between _ x _ d e.low e.high h.low h.high

pub ends_zero : (v : Interval) → v.hi.coefficient ≤ℤ pos 0 → of_ℤ (pos 0) ≤ℚ value_of v.lo → IsOrdered v → HaveDigits v ExactZero
unfolding AreDigitsOf
ends_zero v h k o =
    let high : value_of v.hi ≡ of_ℤ (pos 0) = ≤ℚ_antisym _ _ (none_above v.hi h) (≤ℚ_trans _ _ _ k o.ordered) in
    record { low = ≤ℚ_antisym _ _ (≤ℚ_right _ _ _ high o.ordered) k; high = high }

pub have_two : (v : Interval) (m : ℕ) (e : ℤ) → IsTwoDigits (value_of v.lo) m e → IsTwoDigits (value_of v.hi) m e → HaveDigits v (Two m e)
unfolding AreDigitsOf
have_two v m e h k = record { low = h; high = k }

-- two ends with different digits have none in common
pub apart : (v : Interval) (a b : ExactDigits) → AreDigitsOf (value_of v.lo) a → AreDigitsOf (value_of v.hi) b → (a ≡ b → ⊥) → AreSettledDigits v None
apart v a b h k differ = λ d g. differ (digits-unique _ a d h g.low ∙ digits-unique _ d b g.high k)

pub apart_two : (v : Interval) (m n : ℕ) (e f : ℤ) → IsTwoDigits (value_of v.lo) m e → IsTwoDigits (value_of v.hi) n f → (m ≡ n → e ≡ f → ⊥)
    → AreSettledDigits v None
unfolding AreDigitsOf
apart_two v m n e f h k differ = apart v (Two m e) (Two n f) h k (λ g. differ (cc) (cc))

-- a lower end 0 and an upper one above it
pub from_zero : (v : Interval) → (v.hi.coefficient ≤ℤ pos 0 → ⊥) → of_ℤ (pos 0) ≤ℚ value_of v.lo → v.lo.coefficient ≤ℤ pos 0 → AreSettledDigits v None
unfolding AreDigitsOf
from_zero v h k l = λ d g. not_zero v.hi h (zero_of d g) where
  zero : AreDigitsOf (value_of v.lo) ExactZero
  zero = ≤ℚ_antisym _ _ (none_above v.lo l) k

  zero_of : (d : ExactDigits) → HaveDigits v d → AreDigitsOf (value_of v.hi) ExactZero
  zero_of d g = subst (λ t. AreDigitsOf (value_of v.hi) t) (digits-unique (value_of v.lo) d ExactZero g.low zero) g.high

-- ---- one answer
pub settled-unique : (v : Interval) (o p : Option ExactDigits) → AreSettledDigits v o → AreSettledDigits v p → o ≡ p
settled-unique v None None h k = refl
settled-unique v None (Some d) h k = absurd (h d k)
settled-unique v (Some d) None h k = absurd (k d h)
settled-unique v (Some d) (Some e) h k = ap Some (digits-unique _ d e h.low k.low)

same_stated : (r s : Rounded) → stated_digits r ≡ stated_digits s → r ≡ s
same_stated Zero Zero h = refl
same_stated Zero (Digits n f) h = cc
same_stated Zero Unsettled h = cc
same_stated (Digits m e) Zero h = cc
same_stated (Digits m e) (Digits n f) h =
    let same : (m ≡ n) × (e ≡ f) = (cc, cc) in
    ap₂ Digits same.0 same.1
same_stated (Digits m e) Unsettled h = cc
same_stated Unsettled Zero h = cc
same_stated Unsettled (Digits n f) h = cc
same_stated Unsettled Unsettled h = refl

pub stated-unique : (v : Interval) (r s : Rounded) → AreSettledDigits v (stated_digits r) → AreSettledDigits v (stated_digits s) → r ≡ s
stated-unique v r s h k = same_stated r s (settled-unique v _ _ h k)
