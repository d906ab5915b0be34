-- The lesser and the greater of two decimal numbers: their values, and what they are for rounded numbers.
use Rattle.std.specs.Prelude.{◌≡◌, Bool, true, false, cond, Some, refl}
use Rattle.std.proofs.Common.{sym, ap, ◌∙◌}
use Rattle.std.proofs.lemmas.Bool.{cond-true, cond-false}
use Rattle.exact_fraction.specs.Number.{ℚ, ◌≤ℚ◌, is_at_most_ℚ, min_ℚ, max_ℚ}
use Rattle.exact_fraction.specs.NumberLaws.{≤ℚ_refl, ≤ℚ_trans, ≤ℚ_antisym, ≤ℚ-turned}
use Rattle.exact_fraction.proofs.Extremes.{min_cases, max_cases}
use Rattle.decimal18.specs.Bound.{Bound, value_of, IsCanonical}
use Rattle.decimal18.specs.Down.{down, up}
use Rattle.decimal18.proofs.Rounding.{down_some}
use Rattle.decimal18.proofs.Upward.{up_some}
use Rattle.decimal18.proofs.Canonical.{one_canonical}
use Rattle.std.specs.Ordering.{is_le}
use Rattle.std.specs.declared.cmp.Ordering.TheVariants.{Less, Equal, Greater}
use Rattle.decimal18.specs.Order.{compare_ℚ, order}
use Rattle.decimal18.specs.OrderLaws.{order-by_value}
use Rattle.fixed_interval.specs.Extremes.{lesser, greater}

-- ---- one of the two
pub lesser_cases : (b c : Bound) (P : Bound → Type 0) → (value_of b ≤ℚ value_of c → P b) → (value_of c ≤ℚ value_of b → P c) → P (lesser b c)
unfolding lesser
lesser_cases b c P f g = by (is_at_most_ℚ (value_of b) (value_of c)) refl where
  by : (t : Bool) → is_at_most_ℚ (value_of b) (value_of c) ≡ t → P (cond t b c)
  by true e = f (record { holds = e })
  by false e = g (≤ℚ-turned _ _ e)

pub greater_cases : (b c : Bound) (P : Bound → Type 0) → (value_of c ≤ℚ value_of b → P b) → (value_of b ≤ℚ value_of c → P c) → P (greater b c)
unfolding greater
greater_cases b c P f g = by (is_at_most_ℚ (value_of b) (value_of c)) refl where
  by : (t : Bool) → is_at_most_ℚ (value_of b) (value_of c) ≡ t → P (cond t c b)
  by true e = g (record { holds = e })
  by false e = f (≤ℚ-turned _ _ e)

-- ---- rounding does not fall: the lesser is rounded to the lesser answer
down_rises : (x y : ℚ) (b c : Bound) → down x ≡ Some b → down y ≡ Some c → x ≤ℚ y → value_of b ≤ℚ value_of c
down_rises x y b c e f h = (down_some y c f).1.greatest b (down_some x b e).1.bound (≤ℚ_trans _ _ _ (down_some x b e).1.not_above h)

up_rises : (x y : ℚ) (b c : Bound) → up x ≡ Some b → up y ≡ Some c → x ≤ℚ y → value_of b ≤ℚ value_of c
up_rises x y b c e f h = (up_some x b e).1.least c (up_some y c f).1.bound (≤ℚ_trans _ _ _ h (up_some y c f).1.not_below)

lesser_is_left : (b c : Bound) → IsCanonical b → IsCanonical c → value_of b ≤ℚ value_of c → b ≡ lesser b c
lesser_is_left b c m n h = lesser_cases b c (λ d. b ≡ d) (λ _. refl) (λ k. one_canonical b c m n (≤ℚ_antisym _ _ h k))

lesser_is_right : (b c : Bound) → IsCanonical b → IsCanonical c → value_of c ≤ℚ value_of b → c ≡ lesser b c
lesser_is_right b c m n h = lesser_cases b c (λ d. c ≡ d) (λ k. one_canonical c b n m (≤ℚ_antisym _ _ h k)) (λ _. refl)

greater_is_left : (b c : Bound) → IsCanonical b → IsCanonical c → value_of c ≤ℚ value_of b → b ≡ greater b c
greater_is_left b c m n h = greater_cases b c (λ d. b ≡ d) (λ _. refl) (λ k. one_canonical b c m n (≤ℚ_antisym _ _ k h))

greater_is_right : (b c : Bound) → IsCanonical b → IsCanonical c → value_of b ≤ℚ value_of c → c ≡ greater b c
greater_is_right b c m n h = greater_cases b c (λ d. c ≡ d) (λ k. one_canonical c b n m (≤ℚ_antisym _ _ k h)) (λ _. refl)

pub down-min : (x y : ℚ) (b c : Bound) → down x ≡ Some b → down y ≡ Some c → down (min_ℚ x y) ≡ Some (lesser b c)
down-min x y b c e f =
    let m = (down_some x b e).2 in
    let n = (down_some y c f).2 in
    min_cases x y (λ z. down z ≡ Some (lesser b c))
    (λ h. e ∙ ap Some (lesser_is_left b c m n (down_rises x y b c e f h)))
    (λ h. f ∙ ap Some (lesser_is_right b c m n (down_rises y x c b f e h)))

pub up-max : (x y : ℚ) (b c : Bound) → up x ≡ Some b → up y ≡ Some c → up (max_ℚ x y) ≡ Some (greater b c)
up-max x y b c e f =
    let m = (up_some x b e).2 in
    let n = (up_some y c f).2 in
    max_cases x y (λ z. up z ≡ Some (greater b c))
    (λ h. e ∙ ap Some (greater_is_left b c m n (up_rises y x c b f e h)))
    (λ h. f ∙ ap Some (greater_is_right b c m n (up_rises x y b c e f h)))

-- ---- by the test
pub lesser_true : (b c : Bound) → is_at_most_ℚ (value_of b) (value_of c) ≡ true → b ≡ lesser b c
unfolding lesser
lesser_true b c e = sym (cond-true _ _ _ e)

pub lesser_false : (b c : Bound) → is_at_most_ℚ (value_of b) (value_of c) ≡ false → c ≡ lesser b c
unfolding lesser
lesser_false b c e = sym (cond-false _ _ _ e)

pub greater_true : (b c : Bound) → is_at_most_ℚ (value_of b) (value_of c) ≡ true → c ≡ greater b c
unfolding greater
greater_true b c e = sym (cond-true _ _ _ e)

pub greater_false : (b c : Bound) → is_at_most_ℚ (value_of b) (value_of c) ≡ false → b ≡ greater b c
unfolding greater
greater_false b c e = sym (cond-false _ _ _ e)

-- ---- the ends of a span that covers others
pub lesser-≤_left : (b c : Bound) → value_of (lesser b c) ≤ℚ value_of b
lesser-≤_left b c = lesser_cases b c (λ d. value_of d ≤ℚ value_of b) (λ _. ≤ℚ_refl _) (λ h. h)

pub greater-≥_left : (b c : Bound) → value_of b ≤ℚ value_of (greater b c)
greater-≥_left b c = greater_cases b c (λ d. value_of b ≤ℚ value_of d) (λ _. ≤ℚ_refl _) (λ h. h)

-- the values of the lesser and of the greater
pub value-lesser : (b c : Bound) → value_of (lesser b c) ≡ min_ℚ (value_of b) (value_of c)
unfolding lesser min_ℚ
value-lesser b c = by (is_at_most_ℚ (value_of b) (value_of c)) where
  by : (t : Bool) → value_of (cond t b c) ≡ cond t (value_of b) (value_of c)
  by true = refl
  by false = refl

pub value-greater : (b c : Bound) → value_of (greater b c) ≡ max_ℚ (value_of b) (value_of c)
unfolding greater max_ℚ
value-greater b c = by (is_at_most_ℚ (value_of b) (value_of c)) where
  by : (t : Bool) → value_of (cond t c b) ≡ cond t (value_of c) (value_of b)
  by true = refl
  by false = refl

-- ---- the order of the code
is_le_compared : (x y : ℚ) → is_le (compare_ℚ x y) ≡ is_at_most_ℚ x y
unfolding compare_ℚ
is_le_compared x y = by (is_at_most_ℚ x y) (is_at_most_ℚ y x) where
  by : (t u : Bool) → is_le (cond t (cond u Equal Less) Greater) ≡ t
  by true true = refl
  by true false = refl
  by false u = refl

pub is_le_order : (b c : Bound) → IsCanonical b → IsCanonical c → is_le (order b c) ≡ is_at_most_ℚ (value_of b) (value_of c)
is_le_order b c m n = ap is_le (order-by_value b c (one_canonical b c m n)) ∙ is_le_compared (value_of b) (value_of c)
