-- The order of the numbers by differences: x ≤ℚ y is had from a number d that is not negative with
-- x +ℚ d ≡ y (`≤ℚ_by`), where the equation is one call of `ring`.
use Rattle.std.specs.Prelude.{◌≡◌, false, [], ◌∷◌, ℤ, pos, ◌⊎◌, ◌↔◌, refl}
use Rattle.std.proofs.Common.{sym, ◌∙◌, ap, subst, inl, inr}
use Rattle.std.proofs.lemmas.Bool.{true≢false}
use lib.Signed.{≤ℤ_refl}
use Rattle.exact_fraction.specs.Number.{ℚ, of_ℤ, ◌+ℚ◌, ◌*ℚ◌, ◌/ℚ◌, neg_ℚ, inv_ℚ, is_zero_ℚ, ◌≤ℚ◌, floor_ℚ}
use Rattle.exact_fraction.specs.Whole.{le_both}
use Rattle.exact_fraction.specs.NumberLaws.{+ℚ-≤ℚ, *ℚ_comm, *ℚ-≤ℚ, *ℚ-inv, ≤ℚ_refl, ≤ℚ_trans, ≤ℚ_same, ≤ℚ_total, ≤ℤ-of_≤ℚ, ≤floor_ℚ, floor_ℚ-≤}
use Rattle.exact_fraction.proofs.Quotients.{≡-is_zero_ℚ, ≢-is_zero_ℚ, /ℚ-*ℚ, *ℚ-/ℚ}
use Rattle.exact_fraction.proofs.Ring.{Whole, ◌:+◌, ◌:-◌, ◌:*◌, Minus, x0, x1, x2, ring}

-- ---- along equations
pub ≤ℚ_left : (x x' y : ℚ) → x ≡ x' → x' ≤ℚ y → x ≤ℚ y
≤ℚ_left x x' y e h = subst (λ t. t ≤ℚ y) (sym e) h

pub ≤ℚ_right : (x y y' : ℚ) → y ≡ y' → x ≤ℚ y → x ≤ℚ y'
≤ℚ_right x y y' e h = subst (λ t. x ≤ℚ t) e h

-- ---- differences
pub ≤ℚ-difference : (x y : ℚ) → x ≤ℚ y → of_ℤ (pos 0) ≤ℚ y +ℚ neg_ℚ x
≤ℚ-difference x y h =
    ≤ℚ_left _ (x +ℚ neg_ℚ x) _ (ring (x ∷ []) (Whole (pos 0)) (x0 :- x0) refl) (+ℚ-≤ℚ x y (neg_ℚ x) h)

pub ≤ℚ_by : (x y d : ℚ) → x +ℚ d ≡ y → of_ℤ (pos 0) ≤ℚ d → x ≤ℚ y
≤ℚ_by x y d e d0 =
    ≤ℚ_right x (d +ℚ x) y (ring (x ∷ d ∷ []) (x1 :+ x0) (x0 :+ x1) refl ∙ e)
    (≤ℚ_left x (of_ℤ (pos 0) +ℚ x) (d +ℚ x) (ring (x ∷ []) x0 (Whole (pos 0) :+ x0) refl) (+ℚ-≤ℚ (of_ℤ (pos 0)) d x d0))

pub ≤ℚ-of_difference : (x y : ℚ) → of_ℤ (pos 0) ≤ℚ y +ℚ neg_ℚ x → x ≤ℚ y
≤ℚ-of_difference x y h = ≤ℚ_by x y (y +ℚ neg_ℚ x) (ring (x ∷ y ∷ []) (x0 :+ (x1 :- x0)) x1 refl) h

-- a difference is what makes up the sum
pub ≡-difference : (d x y : ℚ) → (d ≡ x +ℚ neg_ℚ y) ↔ (d +ℚ y ≡ x)
≡-difference d x y = (
  λ h. ap (λ t. t +ℚ y) h ∙ ring (x ∷ y ∷ []) ((x0 :- x1) :+ x1) x0 refl,
  λ h. ring (d ∷ y ∷ []) x0 ((x0 :+ x1) :- x1) refl ∙ ap (λ t. t +ℚ neg_ℚ y) h,
)

-- ---- what is not negative
pub +ℚ-not_negative : (x y : ℚ) → of_ℤ (pos 0) ≤ℚ x → of_ℤ (pos 0) ≤ℚ y → of_ℤ (pos 0) ≤ℚ x +ℚ y
+ℚ-not_negative x y h k = ≤ℚ_trans _ x _ h (≤ℚ_by x (x +ℚ y) y refl k)

pub *ℚ-not_negative : (x y : ℚ) → of_ℤ (pos 0) ≤ℚ x → of_ℤ (pos 0) ≤ℚ y → of_ℤ (pos 0) ≤ℚ x *ℚ y
*ℚ-not_negative x y h k =
    ≤ℚ_left _ (of_ℤ (pos 0) *ℚ y) _ (ring (y ∷ []) (Whole (pos 0)) (Whole (pos 0) :* x0) refl) (*ℚ-≤ℚ (of_ℤ (pos 0)) x y k h)

neg_ℚ-not_negative : (x : ℚ) → x ≤ℚ of_ℤ (pos 0) → of_ℤ (pos 0) ≤ℚ neg_ℚ x
neg_ℚ-not_negative x h =
    ≤ℚ_right _ (of_ℤ (pos 0) +ℚ neg_ℚ x) _ (ring (x ∷ []) (Whole (pos 0) :- x0) (Minus x0) refl) (≤ℚ-difference x _ h)

pub square-not_negative : (x : ℚ) → of_ℤ (pos 0) ≤ℚ x *ℚ x
square-not_negative x = by (≤ℚ_total (of_ℤ (pos 0)) x) where
  by : (of_ℤ (pos 0) ≤ℚ x) ⊎ (x ≤ℚ of_ℤ (pos 0)) → of_ℤ (pos 0) ≤ℚ x *ℚ x
  by (inl h) = *ℚ-not_negative x x h h
  by (inr h) =
      ≤ℚ_right _ (neg_ℚ x *ℚ neg_ℚ x) _ (ring (x ∷ []) (Minus x0 :* Minus x0) (x0 :* x0) refl)
      (*ℚ-not_negative (neg_ℚ x) (neg_ℚ x) (neg_ℚ-not_negative x h) (neg_ℚ-not_negative x h))

-- ---- products and the order
pub *ℚ-≤ℚ_left : (x y z : ℚ) → of_ℤ (pos 0) ≤ℚ z → x ≤ℚ y → z *ℚ x ≤ℚ z *ℚ y
*ℚ-≤ℚ_left x y z z0 h =
    ≤ℚ_left (z *ℚ x) (x *ℚ z) _ (*ℚ_comm z x) (≤ℚ_right (x *ℚ z) (y *ℚ z) _ (*ℚ_comm y z) (*ℚ-≤ℚ x y z z0 h))

-- by a factor that is not positive
pub *ℚ-≤ℚ_turned : (x y z : ℚ) → z ≤ℚ of_ℤ (pos 0) → x ≤ℚ y → y *ℚ z ≤ℚ x *ℚ z
*ℚ-≤ℚ_turned x y z z0 h =
    ≤ℚ_by (y *ℚ z) (x *ℚ z) ((y +ℚ neg_ℚ x) *ℚ neg_ℚ z)
    (ring (x ∷ y ∷ z ∷ []) (x1 :* x2 :+ (x1 :- x0) :* Minus x2) (x0 :* x2) refl)
    (*ℚ-not_negative _ _ (≤ℚ-difference x y h) (neg_ℚ-not_negative z z0))

-- the products of the two sides
pub *ℚ-≤ℚ_both : (x y z w : ℚ) → of_ℤ (pos 0) ≤ℚ x → x ≤ℚ y → of_ℤ (pos 0) ≤ℚ z → z ≤ℚ w → x *ℚ z ≤ℚ y *ℚ w
*ℚ-≤ℚ_both x y z w low h z0 k =
    ≤ℚ_trans _ (y *ℚ z) _ (*ℚ-≤ℚ x y z z0 h) (*ℚ-≤ℚ_left z w y (≤ℚ_trans _ x y low h) k)

-- a product lies between the products of the ends, in their order or in the other
pub *ℚ-between : (x z y w : ℚ) → x ≤ℚ z → z ≤ℚ y
    → (((x *ℚ w) ≤ℚ (z *ℚ w)) × ((z *ℚ w) ≤ℚ (y *ℚ w))) ⊎ (((y *ℚ w) ≤ℚ (z *ℚ w)) × ((z *ℚ w) ≤ℚ (x *ℚ w)))
*ℚ-between x z y w h k = by (≤ℚ_total (of_ℤ (pos 0)) w) where
  by : (of_ℤ (pos 0) ≤ℚ w) ⊎ (w ≤ℚ of_ℤ (pos 0))
      → (((x *ℚ w) ≤ℚ (z *ℚ w)) × ((z *ℚ w) ≤ℚ (y *ℚ w))) ⊎ (((y *ℚ w) ≤ℚ (z *ℚ w)) × ((z *ℚ w) ≤ℚ (x *ℚ w)))
  by (inl w0) = inl (*ℚ-≤ℚ x z w w0 h, *ℚ-≤ℚ z y w w0 k)
  by (inr w0) = inr (*ℚ-≤ℚ_turned z y w w0 k, *ℚ-≤ℚ_turned x z w w0 h)

-- ---- inverses
inv_ℚ_zero : (x : ℚ) → is_zero_ℚ x ≡ false → inv_ℚ x ≡ of_ℤ (pos 0) → x ≡ of_ℤ (pos 0)
inv_ℚ_zero x n h =
    sym (/ℚ-*ℚ x x n) ∙ ap (λ t. (x *ℚ t) *ℚ x) h
    ∙ ring (x ∷ []) (x0 :* Whole (pos 0) :* x0) (Whole (pos 0)) refl

pub inv_ℚ-not_zero : (x : ℚ) → is_zero_ℚ x ≡ false → is_zero_ℚ (inv_ℚ x) ≡ false
inv_ℚ-not_zero x n =
    ≢-is_zero_ℚ (inv_ℚ x) (λ h. true≢false (sym (≡-is_zero_ℚ x (inv_ℚ_zero x n h)) ∙ n))

pub inv_ℚ-not_negative : (x : ℚ) → of_ℤ (pos 0) ≤ℚ x → is_zero_ℚ x ≡ false → of_ℤ (pos 0) ≤ℚ inv_ℚ x
inv_ℚ-not_negative x h n =
    ≤ℚ_right _ (x *ℚ (inv_ℚ x *ℚ inv_ℚ x)) (inv_ℚ x)
    (ring (x ∷ inv_ℚ x ∷ []) (x0 :* (x1 :* x1)) (x1 :* (x0 :* x1)) refl ∙ ap (λ t. inv_ℚ x *ℚ t) (*ℚ-inv x n)
    ∙ ring (inv_ℚ x ∷ []) (x0 :* Whole (pos 1)) x0 refl)
    (*ℚ-not_negative x (inv_ℚ x *ℚ inv_ℚ x) h (square-not_negative (inv_ℚ x)))

-- a positive factor is cancelled
pub ≤ℚ_cancel : (x y z : ℚ) → of_ℤ (pos 0) ≤ℚ z → is_zero_ℚ z ≡ false → x *ℚ z ≤ℚ y *ℚ z → x ≤ℚ y
≤ℚ_cancel x y z z0 n h =
    ≤ℚ_left x ((x *ℚ z) /ℚ z) y (sym (*ℚ-/ℚ x z n))
    (≤ℚ_right _ ((y *ℚ z) /ℚ z) y (*ℚ-/ℚ y z n) (*ℚ-≤ℚ (x *ℚ z) (y *ℚ z) (inv_ℚ z) (inv_ℚ-not_negative z z0 n) h))

-- ---- quotients
pub /ℚ-≤ℚ : (x y z : ℚ) → of_ℤ (pos 0) ≤ℚ z → is_zero_ℚ z ≡ false → x ≤ℚ y → x /ℚ z ≤ℚ y /ℚ z
/ℚ-≤ℚ x y z z0 n h = *ℚ-≤ℚ x y (inv_ℚ z) (inv_ℚ-not_negative z z0 n) h

-- a positive divisor goes to the other side as a factor
pub ≤ℚ-/ℚ : (x y z : ℚ) → of_ℤ (pos 0) ≤ℚ z → is_zero_ℚ z ≡ false → (x ≤ℚ y /ℚ z) ↔ (x *ℚ z ≤ℚ y)
≤ℚ-/ℚ x y z z0 n = (
  λ h. ≤ℚ_right _ ((y /ℚ z) *ℚ z) y (/ℚ-*ℚ y z n) (*ℚ-≤ℚ x (y /ℚ z) z z0 h),
  λ h. ≤ℚ_left x ((x *ℚ z) /ℚ z) _ (sym (*ℚ-/ℚ x z n)) (/ℚ-≤ℚ (x *ℚ z) y z z0 n h),
)

pub /ℚ-≤ℚ_iff : (x y z : ℚ) → of_ℤ (pos 0) ≤ℚ z → is_zero_ℚ z ≡ false → (x /ℚ z ≤ℚ y) ↔ (x ≤ℚ y *ℚ z)
/ℚ-≤ℚ_iff x y z z0 n = (
  λ h. ≤ℚ_left x ((x /ℚ z) *ℚ z) _ (sym (/ℚ-*ℚ x z n)) (*ℚ-≤ℚ (x /ℚ z) y z z0 h),
  λ h. ≤ℚ_right _ ((y *ℚ z) /ℚ z) y (*ℚ-/ℚ y z n) (/ℚ-≤ℚ x (y *ℚ z) z z0 n h),
)

-- ---- whole numbers and the floor
pub of_ℤ-injective : (a b : ℤ) → of_ℤ a ≡ of_ℤ b → a ≡ b
of_ℤ-injective a b h =
    le_both a b (≤ℤ-of_≤ℚ a b (≤ℚ_same _ _ h)) (≤ℤ-of_≤ℚ b a (≤ℚ_same _ _ (sym h)))

pub floor_ℚ-of_ℤ : (z : ℤ) → floor_ℚ (of_ℤ z) ≡ z
floor_ℚ-of_ℤ z =
    le_both (floor_ℚ (of_ℤ z)) z
    (≤ℤ-of_≤ℚ (floor_ℚ (of_ℤ z)) z (floor_ℚ-≤ (floor_ℚ (of_ℤ z)) (of_ℤ z) (≤ℤ_refl _)))
    (≤floor_ℚ z (of_ℤ z) (≤ℚ_refl (of_ℤ z)))

pub floor_ℚ-not_above : (x : ℚ) → of_ℤ (floor_ℚ x) ≤ℚ x
floor_ℚ-not_above x = floor_ℚ-≤ (floor_ℚ x) x (≤ℤ_refl _)
