-- The lesser and the greater of two numbers: one of the two, and the bounds of both.
use Rattle.std.specs.Prelude.{◌≡◌, Bool, true, false, cond, refl}
use Rattle.exact_fraction.specs.Number.{ℚ, ◌≤ℚ◌, is_at_most_ℚ, min_ℚ, max_ℚ}
use Rattle.exact_fraction.specs.NumberLaws.{≤ℚ_refl, ≤ℚ_trans, ≤ℚ-turned}

-- ---- one of the two
pub min_cases : (x y : ℚ) (P : ℚ → Type 0) → (x ≤ℚ y → P x) → (y ≤ℚ x → P y) → P (min_ℚ x y)
unfolding min_ℚ
min_cases x y P f g = by (is_at_most_ℚ x y) refl where
  by : (b : Bool) → is_at_most_ℚ x y ≡ b → P (cond b x y)
  by true e = f (record { holds = e })
  by false e = g (≤ℚ-turned x y e)

pub max_cases : (x y : ℚ) (P : ℚ → Type 0) → (y ≤ℚ x → P x) → (x ≤ℚ y → P y) → P (max_ℚ x y)
unfolding max_ℚ
max_cases x y P f g = by (is_at_most_ℚ x y) refl where
  by : (b : Bool) → is_at_most_ℚ x y ≡ b → P (cond b y x)
  by true e = g (record { holds = e })
  by false e = f (≤ℚ-turned x y e)

-- ---- bounds of both
pub min-≤_left : (x y : ℚ) → min_ℚ x y ≤ℚ x
min-≤_left x y = min_cases x y (λ m. m ≤ℚ x) (λ h. ≤ℚ_refl x) (λ h. h)

pub min-≤_right : (x y : ℚ) → min_ℚ x y ≤ℚ y
min-≤_right x y = min_cases x y (λ m. m ≤ℚ y) (λ h. h) (λ h. ≤ℚ_refl y)

pub ≤-min : (z x y : ℚ) → z ≤ℚ x → z ≤ℚ y → z ≤ℚ min_ℚ x y
≤-min z x y h k = min_cases x y (λ m. z ≤ℚ m) (λ _. h) (λ _. k)

pub max-≥_left : (x y : ℚ) → x ≤ℚ max_ℚ x y
max-≥_left x y = max_cases x y (λ m. x ≤ℚ m) (λ h. ≤ℚ_refl x) (λ h. h)

pub max-≥_right : (x y : ℚ) → y ≤ℚ max_ℚ x y
max-≥_right x y = max_cases x y (λ m. y ≤ℚ m) (λ h. h) (λ h. ≤ℚ_refl y)

pub max-≤ : (z x y : ℚ) → x ≤ℚ z → y ≤ℚ z → max_ℚ x y ≤ℚ z
max-≤ z x y h k = max_cases x y (λ m. m ≤ℚ z) (λ _. h) (λ _. k)

-- ---- the order of the lesser, and of the greater
pub min-≤-min : (x y z w : ℚ) → x ≤ℚ y → z ≤ℚ w → min_ℚ x z ≤ℚ min_ℚ y w
min-≤-min x y z w h k = ≤-min _ y w (≤ℚ_trans _ _ _ (min-≤_left x z) h) (≤ℚ_trans _ _ _ (min-≤_right x z) k)

pub max-≤-max : (x y z w : ℚ) → x ≤ℚ y → z ≤ℚ w → max_ℚ x z ≤ℚ max_ℚ y w
max-≤-max x y z w h k = max-≤ _ x z (≤ℚ_trans _ _ _ h (max-≥_left y w)) (≤ℚ_trans _ _ _ k (max-≥_right y w))
