-- The range of the degrees by the span of 1/ν.
use Rattle.std.specs.Prelude.{◌≡◌, ◌⊎◌, Bool, true, false, if◌then◌else◌, [], ◌∷◌, Option, None, Some, IfSome, pos, neg_ℤ, refl}
use Rattle.std.proofs.Common.{sym, ◌∙◌, ap, arith, inl, inr}
use Rattle.std.proofs.lemmas.Bool.{true≢false}
use Rattle.std.proofs.lemmas.Int.{ints}
use Rattle.exact_fraction.specs.Number.{ℚ, of_ℤ, ◌*ℚ◌, ◌/ℚ◌, is_zero_ℚ, is_at_most_ℚ, ◌≤ℚ◌}
use Rattle.exact_fraction.specs.NumberLaws.{≤ℚ_refl, ≤ℚ_trans, ≤ℚ_antisym, ≤ℚ_same, ≤ℚ_total, ≤ℚ-turned, of_ℤ-≤ℚ}
use Rattle.exact_fraction.proofs.Quotients.{≢-is_zero_ℚ}
use Rattle.exact_fraction.proofs.OrderLaws.{≤ℚ_left, ≤ℚ_right, ≤ℚ-/ℚ, /ℚ-≤ℚ_iff, *ℚ-≤ℚ_left}
use Rattle.exact_fraction.proofs.Ring.{ring, Whole, ◌:*◌, x0}
use Rattle.decimal18.specs.Bound.{Bound, scaled, value_of}
use Rattle.decimal18.specs.Down.{down, up, top, IsInRange}
use Rattle.decimal18.proofs.Values.{value-whole}
use Rattle.decimal18.proofs.Rounding.{down_some, down_none}
use Rattle.decimal18.proofs.Upward.{up_some}
use Rattle.fixed_interval.specs.Interval.{Interval, Encloses}
use Rattle.fixed_interval.specs.Extremes.{greater}
use Rattle.fixed_interval.proofs.Inclusions.{zero_ℚ}
use Rattle.fixed_interval.proofs.Least.{lesser_cases, greater_cases, lesser-≤_left, greater-≥_left}
use Rattle.type_b.specs.Shapes.{is_zero}
use Rattle.table_g2.specs.Known.{told_apart, IsRange, IsBelow}
use Rattle.eff_dof.specs.Degrees.{most, at_most, inverse_by, lower_end, upper_end}
use Rattle.eff_dof.proofs.Exact.{not_zero_by, zero_value}

-- ---- an end that is 10^9 at most
most_below : (x : ℚ) → ¬ IsInRange x → zero_ℚ ≤ℚ x → value_of most ≤ℚ x
most_below x h x0 = by (≤ℚ_total (value_of most) x) where
  by : (value_of most ≤ℚ x) ⊎ (x ≤ℚ value_of most) → value_of most ≤ℚ x
  by (inl g) = g
  by (inr g) =
      absurd (h (record {
        low = ≤ℚ_trans _ _ _ (of_ℤ-≤ℚ (neg_ℤ top) (pos 0) (omega (arith, ints))) x0;
        high = ≤ℚ_trans _ _ _ g (≤ℚ_left _ _ _ (value-whole (pos told_apart)) (of_ℤ-≤ℚ (pos told_apart) top (omega (arith, ints))));
      }))

low_rounded : (x : ℚ) → zero_ℚ ≤ℚ x → (o : Option Bound) → down x ≡ o → value_of (at_most o) ≤ℚ x
low_rounded x x0 None e = most_below x (down_none x e) x0
low_rounded x x0 (Some b) e = ≤ℚ_trans _ _ _ (lesser-≤_left b most) (down_some x b e).1.not_above

most_told : of_ℤ (pos told_apart) ≤ℚ value_of most
most_told = ≤ℚ_same _ _ (sym (value-whole (pos told_apart)))

high_rounded : (x : ℚ) → (o : Option Bound) → up x ≡ o → IsBelow x (at_most o)
high_rounded x None e = inr most_told
high_rounded x (Some b) e = lesser_cases b most (IsBelow x) (λ _. inl (up_some x b e).1.not_below) (λ _. inr most_told)

-- ---- inverses: x is 1 over t
inverse_under : (x t : ℚ) (b : Bound) → zero_ℚ ≤ℚ x → zero_ℚ ≤ℚ t → x *ℚ t ≡ of_ℤ (pos 1) → t ≤ℚ value_of b
    → value_of (inverse_by down b) ≤ℚ x
inverse_under x t b x_low t_low e h = by (is_zero b) refl where
  not_zero : is_zero_ℚ (value_of b) ≡ false
  not_zero = ≢-is_zero_ℚ _ (λ z. not_zero_by x t e (≤ℚ_antisym _ _ (≤ℚ_trans _ _ _ h (≤ℚ_same _ _ z)) t_low))

  b0 : zero_ℚ ≤ℚ value_of b
  b0 = ≤ℚ_trans _ _ _ t_low h

  inverse0 : zero_ℚ ≤ℚ of_ℤ (pos 1) /ℚ value_of b
  inverse0 =
      (≤ℚ-/ℚ zero_ℚ (of_ℤ (pos 1)) (value_of b) b0 not_zero).1
      (≤ℚ_left _ zero_ℚ _ (ring (value_of b ∷ []) (Whole (pos 0) :* x0) (Whole (pos 0)) refl) (of_ℤ-≤ℚ (pos 0) (pos 1) (omega (arith, ints))))

  under : of_ℤ (pos 1) /ℚ value_of b ≤ℚ x
  under = (/ℚ-≤ℚ_iff (of_ℤ (pos 1)) x (value_of b) b0 not_zero).1 (≤ℚ_left _ _ _ (sym e) (*ℚ-≤ℚ_left t (value_of b) x x_low h))

  by : (z : Bool) → is_zero b ≡ z → value_of (if z then most else at_most (down (of_ℤ (pos 1) /ℚ value_of b))) ≤ℚ x
  by true z = absurd (true≢false (sym z ∙ zero_value b ∙ not_zero))
  by false z = ≤ℚ_trans _ _ _ (low_rounded _ inverse0 (down (of_ℤ (pos 1) /ℚ value_of b)) refl) under

below_more : (x y : ℚ) (b : Bound) → x ≤ℚ y → IsBelow y b → IsBelow x b
below_more x y b h (inl g) = inl (≤ℚ_trans _ _ _ h g)
below_more x y b h (inr g) = inr g

inverse_over : (x t : ℚ) (b : Bound) → zero_ℚ ≤ℚ x → x *ℚ t ≡ of_ℤ (pos 1) → value_of b ≤ℚ t → is_at_most_ℚ (value_of b) zero_ℚ ≡ false
    → IsBelow x (inverse_by up b)
inverse_over x t b x0 e h f = by (is_zero b) refl where
  b0 : zero_ℚ ≤ℚ value_of b
  b0 = ≤ℚ-turned _ _ f

  not_zero : is_zero_ℚ (value_of b) ≡ false
  not_zero = ≢-is_zero_ℚ _ (λ z. true≢false (sym (≤ℚ_same _ _ z).holds ∙ f))

  over : x ≤ℚ of_ℤ (pos 1) /ℚ value_of b
  over = (≤ℚ-/ℚ x (of_ℤ (pos 1)) (value_of b) b0 not_zero).1 (≤ℚ_right _ _ _ e (*ℚ-≤ℚ_left (value_of b) t x x0 h))

  by : (z : Bool) → is_zero b ≡ z → IsBelow x (if z then most else at_most (up (of_ℤ (pos 1) /ℚ value_of b)))
  by true z = inr most_told
  by false z = below_more x _ _ over (high_rounded _ (up (of_ℤ (pos 1) /ℚ value_of b)) refl)

-- ---- the ends
pub greater_right : (b c : Bound) → value_of c ≤ℚ value_of (greater b c)
greater_right b c = greater_cases b c (λ d. value_of c ≤ℚ value_of d) (λ h. h) (λ _. ≤ℚ_refl _)

pub greater_under : (b c : Bound) (x : ℚ) → value_of b ≤ℚ x → value_of c ≤ℚ x → value_of (greater b c) ≤ℚ x
greater_under b c x h k = greater_cases b c (λ d. value_of d ≤ℚ x) (λ _. h) (λ _. k)

below_greater : (x : ℚ) (b c : Bound) → IsBelow x b → IsBelow x (greater b c)
below_greater x b c (inl h) = inl (≤ℚ_trans _ _ _ h (greater-≥_left b c))
below_greater x b c (inr h) = inr (≤ℚ_trans _ _ _ h (greater-≥_left b c))

pub lower_holds : (x t : ℚ) (s : Interval) (least : Bound) → zero_ℚ ≤ℚ x → zero_ℚ ≤ℚ t → x *ℚ t ≡ of_ℤ (pos 1) → Encloses s t → value_of least ≤ℚ x
    → value_of (lower_end s least) ≤ℚ x
lower_holds x t s least x0 t0 e h l = greater_under (inverse_by down s.hi) least x (inverse_under x t s.hi x0 t0 e h.high) l

pub upper_holds : (x t : ℚ) (s : Interval) (lo : Bound) → zero_ℚ ≤ℚ x → x *ℚ t ≡ of_ℤ (pos 1) → Encloses s t → is_at_most_ℚ (value_of s.lo) zero_ℚ ≡ false
    → IsBelow x (greater (inverse_by up s.lo) lo)
upper_holds x t s lo x0 e h f = below_greater x (inverse_by up s.lo) lo (inverse_over x t s.lo x0 e h.low f)

pub is_range : (s : Interval) (least : Bound) → of_ℤ (pos 1) ≤ℚ value_of least → IsRange (lower_end s least) (upper_end s (lower_end s least))
is_range s least h = record {
  at_least_one = ≤ℚ_trans _ _ _ h (greater_right (inverse_by down s.hi) least);
  ordered = by (is_at_most_ℚ (value_of s.lo) zero_ℚ);
} where
  by : (b : Bool) → IfSome (if b then None else Some (greater (inverse_by up s.lo) (lower_end s least))) (λ c. value_of (lower_end s least) ≤ℚ value_of c)
  by true = tt
  by false = greater_right (inverse_by up s.lo) (lower_end s least)

-- ---- by what the calls answered
pub inverse_is : (rounded : ℚ → Option Bound) (b one : Bound) (z : Bool) → z ≡ is_zero b → z ≡ false → one ≡ scaled (pos 1) 0
    → (o : Option Bound) → o ≡ rounded (value_of one /ℚ value_of b) → (r : Bound) → r ≡ at_most o → r ≡ inverse_by rounded b
inverse_is rounded b one z h k e o f r g =
    g ∙ ap at_most (f ∙ ap (λ x. rounded (x /ℚ value_of b)) (ap value_of e ∙ value-whole (pos 1)))
    ∙ ap (λ (t : Bool). if t then most else at_most (rounded (of_ℤ (pos 1) /ℚ value_of b))) (sym k ∙ h)

pub above_is : (b zero : Bound) (t : Bool) → zero ≡ scaled (pos 0) 0 → t ≡ is_at_most_ℚ (value_of b) (value_of zero) → t ≡ is_at_most_ℚ (value_of b) zero_ℚ
above_is b zero t e h = h ∙ ap (is_at_most_ℚ (value_of b)) (ap value_of e ∙ value-whole (pos 0))
