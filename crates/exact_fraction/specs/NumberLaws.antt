-- Lemmas on the numbers: a commutative ring with inverses, a total order that sums and products
-- respect, whole numbers among them, and the floor.
use Rattle.std.specs.Prelude.{◌≡◌, ℕ, ◌*◌, Bool, true, false, ℤ, pos, negsuc, ◌+ℤ◌, ◌*ℤ◌, ◌≤ℤ◌, neg_ℤ, refl, ◌⊎◌}
use Rattle.std.proofs.Common.{sym, ◌∙◌, ap, arith, inl, inr, subst}
use Rattle.std.proofs.lemmas.Bool.{true≢false}
use Rattle.std.proofs.lemmas.Int.{ints}
use Rattle.std.proofs.Math.Bool.{Bool-set}
use Rattle.std.proofs.Math.IntN.{zero-*ℤ}
use borrow.Author.Differences.{up, down}
use lib.Dec.{T_prop}
use mathlib.Core.HLevel.{Π_prop}
use std.Quotient.{cls, eq/, /_set, /_rec, /_rec₂, /_elim_prop, /_elim_prop₂, /_elim_prop₃, effective}
use Rattle.exact_fraction.specs.Whole.{diff_of, diff_same, diff, diff_le, le_diff, push, le_from}
use Rattle.exact_fraction.specs.Fraction.{Fraction, ◌≈◌, ◌≼◌, ◌⊕◌, ◌⊗◌, negated, whole, is_at_most}
use Rattle.exact_fraction.specs.FractionLaws.{≈_prop, ≈-IsEquivRel, ≼_refl, ≼_trans, ≼_antisym, ≼_total, ⊕_comm, ⊕_assoc, ⊕-≼, ⊗_comm, ⊗_assoc, ⊗-⊕, is_at_most-≼, ≼-is_at_most}
use Rattle.exact_fraction.specs.Inverse.{⊗-inverse}
use Rattle.exact_fraction.specs.Floor.{≤floor, floor-≤, times_one}
use Rattle.exact_fraction.specs.Number.{ℚ, of_ℤ, ◌+ℚ◌, ◌*ℚ◌, neg_ℚ, inv_ℚ, is_zero_ℚ, is_at_most_ℚ, ◌≤ℚ◌, floor_ℚ}

-- ---- fractions and numbers
pub ≈-of_≡ : (q r : Fraction) → ◌≡◌ {A = ℚ} (cls q) (cls r) → q ≈ r
≈-of_≡ q r = effective ≈_prop ≈-IsEquivRel q r

pub ≤ℚ-of_≼ : (q r : Fraction) → q ≼ r → cls q ≤ℚ cls r
unfolding is_at_most_ℚ /_rec₂ /_rec
≤ℚ-of_≼ q r h = record { holds = ≼-is_at_most q r h }

pub ≼-of_≤ℚ : (q r : Fraction) → cls q ≤ℚ cls r → q ≼ r
unfolding is_at_most_ℚ /_rec₂ /_rec
≼-of_≤ℚ q r h = is_at_most-≼ q r h.holds

pub ≤ℚ_prop : (x y : ℚ) → IsProp (x ≤ℚ y)
≤ℚ_prop x y = hlevel Bool-set

≤ℤ_prop : (a b : ℤ) → IsProp (a ≤ℤ b)
≤ℤ_prop a b = hlevel T_prop

-- ---- the ring
pub +ℚ_comm : (x y : ℚ) → x +ℚ y ≡ y +ℚ x
unfolding ◌+ℚ◌ /_rec₂ /_rec
+ℚ_comm = /_elim_prop₂ (λ x y. x +ℚ y ≡ y +ℚ x) (λ x y. /_set _ _) (λ a b. eq/ _ _ (⊕_comm a b))

pub +ℚ_assoc : (x y z : ℚ) → (x +ℚ y) +ℚ z ≡ x +ℚ (y +ℚ z)
unfolding ◌+ℚ◌ /_rec₂ /_rec
+ℚ_assoc = /_elim_prop₃ (λ x y z. (x +ℚ y) +ℚ z ≡ x +ℚ (y +ℚ z)) (λ x y z. /_set _ _) (λ a b c. eq/ _ _ (⊕_assoc a b c))

pub *ℚ_comm : (x y : ℚ) → x *ℚ y ≡ y *ℚ x
unfolding ◌*ℚ◌ /_rec₂ /_rec
*ℚ_comm = /_elim_prop₂ (λ x y. x *ℚ y ≡ y *ℚ x) (λ x y. /_set _ _) (λ a b. eq/ _ _ (⊗_comm a b))

pub *ℚ_assoc : (x y z : ℚ) → (x *ℚ y) *ℚ z ≡ x *ℚ (y *ℚ z)
unfolding ◌*ℚ◌ /_rec₂ /_rec
*ℚ_assoc = /_elim_prop₃ (λ x y z. (x *ℚ y) *ℚ z ≡ x *ℚ (y *ℚ z)) (λ x y z. /_set _ _) (λ a b c. eq/ _ _ (⊗_assoc a b c))

pub *ℚ-+ℚ : (x y z : ℚ) → x *ℚ (y +ℚ z) ≡ (x *ℚ y) +ℚ (x *ℚ z)
unfolding ◌+ℚ◌ ◌*ℚ◌ /_rec₂ /_rec
*ℚ-+ℚ = /_elim_prop₃ (λ x y z. x *ℚ (y +ℚ z) ≡ (x *ℚ y) +ℚ (x *ℚ z)) (λ x y z. /_set _ _) (λ a b c. eq/ _ _ (⊗-⊕ a b c))

plus_zero : (a : ℤ) (k : ℕ) → (((a *ℤ pos 1) +ℤ (pos 0 *ℤ pos k)) *ℤ pos k) ≡ (a *ℤ pos (k * 1))
plus_zero a k = rw (times_one a, ← diff_of a) (simp push (diff_same _ _ _ _ (omega arith)))

⊕-zero : (q : Fraction) → q ⊕ whole (pos 0) ≈ q
unfolding ◌⊕◌
⊕-zero q = record { same = plus_zero q.num q.den }

pub +ℚ-zero : (x : ℚ) → x +ℚ of_ℤ (pos 0) ≡ x
unfolding ◌+ℚ◌ /_rec₂ /_rec
+ℚ-zero = /_elim_prop (λ x. x +ℚ of_ℤ (pos 0) ≡ x) (λ x. /_set _ _) (λ a. eq/ _ _ (⊕-zero a))

⊗-one : (q : Fraction) → q ⊗ whole (pos 1) ≈ q
unfolding ◌⊗◌
⊗-one q = record { same = rw (times_one q.num) (ap (λ k. q.num *ℤ pos k) (omega arith)) }

pub *ℚ-one : (x : ℚ) → x *ℚ of_ℤ (pos 1) ≡ x
unfolding ◌*ℚ◌ /_rec₂ /_rec
*ℚ-one = /_elim_prop (λ x. x *ℚ of_ℤ (pos 1) ≡ x) (λ x. /_set _ _) (λ a. eq/ _ _ (⊗-one a))

opposite : (a : ℤ) (k : ℕ) → (((a *ℤ pos k) +ℤ (neg_ℤ a *ℤ pos k)) *ℤ pos 1) ≡ (pos 0 *ℤ pos (k * k))
opposite a k = rw (times_one ((a *ℤ pos k) +ℤ (neg_ℤ a *ℤ pos k)), ← diff_of a) (simp push (diff_same _ _ _ _ (omega arith)))

⊕-negated : (q : Fraction) → q ⊕ negated q ≈ whole (pos 0)
unfolding ◌⊕◌ negated
⊕-negated q = record { same = opposite q.num q.den }

pub +ℚ-neg : (x : ℚ) → x +ℚ neg_ℚ x ≡ of_ℤ (pos 0)
unfolding ◌+ℚ◌ neg_ℚ /_rec₂ /_rec
+ℚ-neg = /_elim_prop (λ x. x +ℚ neg_ℚ x ≡ of_ℤ (pos 0)) (λ x. /_set _ _) (λ a. eq/ _ _ (⊕-negated a))

pub *ℚ-inv : (x : ℚ) → is_zero_ℚ x ≡ false → x *ℚ inv_ℚ x ≡ of_ℤ (pos 1)
unfolding ◌*ℚ◌ inv_ℚ is_zero_ℚ /_rec₂ /_rec
*ℚ-inv =
    /_elim_prop (λ x. is_zero_ℚ x ≡ false → x *ℚ inv_ℚ x ≡ of_ℤ (pos 1)) (λ x. Π_prop (λ _. /_set _ _))
    (λ a h. eq/ _ _ (⊗-inverse a h))

-- ---- order
pub ≤ℚ_refl : (x : ℚ) → x ≤ℚ x
≤ℚ_refl = /_elim_prop (λ x. x ≤ℚ x) (λ x. ≤ℚ_prop x x) (λ a. ≤ℚ-of_≼ a a (≼_refl a))

pub ≤ℚ_trans : (x y z : ℚ) → x ≤ℚ y → y ≤ℚ z → x ≤ℚ z
≤ℚ_trans =
    /_elim_prop₃ (λ x y z. x ≤ℚ y → y ≤ℚ z → x ≤ℚ z) (λ x y z. Π_prop (λ _. Π_prop (λ _. ≤ℚ_prop x z)))
    (λ a b c h k. ≤ℚ-of_≼ a c (≼_trans a b c (≼-of_≤ℚ a b h) (≼-of_≤ℚ b c k)))

pub ≤ℚ_antisym : (x y : ℚ) → x ≤ℚ y → y ≤ℚ x → x ≡ y
≤ℚ_antisym =
    /_elim_prop₂ (λ x y. x ≤ℚ y → y ≤ℚ x → x ≡ y) (λ x y. Π_prop (λ _. Π_prop (λ _. /_set x y)))
    (λ a b h k. eq/ a b (≼_antisym a b (≼-of_≤ℚ a b h) (≼-of_≤ℚ b a k)))

pub ≤ℚ_same : (x y : ℚ) → x ≡ y → x ≤ℚ y
≤ℚ_same x y h = rw (← h) (≤ℚ_refl x)

pub +ℚ-≤ℚ : (x y z : ℚ) → x ≤ℚ y → x +ℚ z ≤ℚ y +ℚ z
unfolding ◌+ℚ◌ /_rec₂ /_rec
+ℚ-≤ℚ =
    /_elim_prop₃ (λ x y z. x ≤ℚ y → x +ℚ z ≤ℚ y +ℚ z) (λ x y z. Π_prop (λ _. ≤ℚ_prop _ _))
    (λ a b c h. ≤ℚ-of_≼ _ _ (⊕-≼ a b c (≼-of_≤ℚ a b h)))

-- sums of the two sides
pub +ℚ-≤ℚ_both : (x y z w : ℚ) → x ≤ℚ y → z ≤ℚ w → x +ℚ z ≤ℚ y +ℚ w
+ℚ-≤ℚ_both x y z w h k =
    ≤ℚ_trans _ (y +ℚ z) _ (+ℚ-≤ℚ x y z h) (rw (+ℚ_comm y z, +ℚ_comm y w) (+ℚ-≤ℚ z w y k))

-- ---- whole numbers
whole_order : (a b : ℤ) → a ≤ℤ b → (a *ℤ pos 1) ≤ℤ (b *ℤ pos 1)
whole_order a b h = rw (times_one a, times_one b) h

pub of_ℤ-≤ℚ : (a b : ℤ) → a ≤ℤ b → of_ℤ a ≤ℚ of_ℤ b
of_ℤ-≤ℚ a b h = ≤ℚ-of_≼ _ _ (record { at_most = whole_order a b h })

of_order : (a b : ℤ) → (a *ℤ pos 1) ≤ℤ (b *ℤ pos 1) → a ≤ℤ b
of_order a b h = rw (times_one a, times_one b) at h

pub ≤ℤ-of_≤ℚ : (a b : ℤ) → of_ℤ a ≤ℚ of_ℤ b → a ≤ℤ b
≤ℤ-of_≤ℚ a b h = of_order a b (≼-of_≤ℚ (whole a) (whole b) h).at_most

-- ---- floor: a whole number is not above x exactly where it is not above the floor of x
pub ≤floor_ℚ : (z : ℤ) (x : ℚ) → of_ℤ z ≤ℚ x → z ≤ℤ floor_ℚ x
unfolding floor_ℚ /_rec
≤floor_ℚ z =
    /_elim_prop (λ x. of_ℤ z ≤ℚ x → z ≤ℤ floor_ℚ x) (λ x. Π_prop (λ _. ≤ℤ_prop _ _))
    (λ a h. ≤floor z a (≼-of_≤ℚ _ _ h))

pub floor_ℚ-≤ : (z : ℤ) (x : ℚ) → z ≤ℤ floor_ℚ x → of_ℤ z ≤ℚ x
unfolding floor_ℚ /_rec
floor_ℚ-≤ z =
    /_elim_prop (λ x. z ≤ℤ floor_ℚ x → of_ℤ z ≤ℚ x) (λ x. Π_prop (λ _. ≤ℚ_prop _ _))
    (λ a h. ≤ℚ-of_≼ _ _ (floor-≤ z a h))

-- where the test says no, the other is not above
turned : (a b : Fraction) → is_at_most a b ≡ false → (a ≼ b) ⊎ (b ≼ a) → b ≼ a
turned a b h (inl k) = absurd (true≢false (sym (≼-is_at_most a b k) ∙ h))
turned a b h (inr k) = k

pub ≤ℚ-turned : (x y : ℚ) → is_at_most_ℚ x y ≡ false → y ≤ℚ x
unfolding is_at_most_ℚ /_rec₂ /_rec
≤ℚ-turned =
    /_elim_prop₂ (λ x y. is_at_most_ℚ x y ≡ false → y ≤ℚ x) (λ x y. Π_prop (λ _. ≤ℚ_prop y x))
    (λ a b h. ≤ℚ-of_≼ b a (turned a b h (≼_total a b)))

pub ≤ℚ_total : (x y : ℚ) → (x ≤ℚ y) ⊎ (y ≤ℚ x)
≤ℚ_total x y = by (is_at_most_ℚ x y) refl where
  by : (b : Bool) → is_at_most_ℚ x y ≡ b → (x ≤ℚ y) ⊎ (y ≤ℚ x)
  by true h = inl (record { holds = h })
  by false h = inr (≤ℚ-turned x y h)

-- ---- products and the order
product_order : (a a' : ℤ) (b k k' m : ℕ) → (a *ℤ pos k') ≤ℤ (a' *ℤ pos k)
    → ((a *ℤ pos b) *ℤ pos (k' * m)) ≤ℤ ((a' *ℤ pos b) *ℤ pos (k * m))
product_order a a' b k k' m h =
    le_from (b * m) _ _ _ _ h (rw (← diff_of a, ← diff_of a') (simp push (diff_same _ _ _ _ (omega arith))))

product_raised : (a a' c : ℤ) (k k' m : ℕ) → pos 0 ≤ℤ c → (a *ℤ pos k') ≤ℤ (a' *ℤ pos k)
    → ((a *ℤ c) *ℤ pos (k' * m)) ≤ℤ ((a' *ℤ c) *ℤ pos (k * m))
product_raised a a' (pos b) k k' m c0 h = product_order a a' b k k' m h
product_raised a a' (negsuc b) k k' m c0 h = absurd (omega (arith, ints))

not_negative : (q : Fraction) → whole (pos 0) ≼ q → pos 0 ≤ℤ q.num
not_negative q h =
    let g : (pos 0 *ℤ pos q.den) ≤ℤ q.num = subst (λ n. (pos 0 *ℤ pos q.den) ≤ℤ n) (times_one q.num) h.at_most in
    omega (arith, ints, zero-*ℤ (pos q.den))

⊗-≼ : (q q' r : Fraction) → whole (pos 0) ≼ r → q ≼ q' → q ⊗ r ≼ q' ⊗ r
unfolding ◌⊗◌
⊗-≼ q q' r r0 h = record { at_most = product_raised q.num q'.num r.num q.den q'.den r.den (not_negative r r0) h.at_most }

-- by a factor that is not negative
pub *ℚ-≤ℚ : (x y z : ℚ) → of_ℤ (pos 0) ≤ℚ z → x ≤ℚ y → x *ℚ z ≤ℚ y *ℚ z
unfolding ◌*ℚ◌ /_rec₂ /_rec
*ℚ-≤ℚ =
    /_elim_prop₃ (λ x y z. of_ℤ (pos 0) ≤ℚ z → x ≤ℚ y → x *ℚ z ≤ℚ y *ℚ z) (λ x y z. Π_prop (λ _. Π_prop (λ _. ≤ℚ_prop _ _)))
    (λ a b c c0 h. ≤ℚ-of_≼ _ _ (⊗-≼ a b c (≼-of_≤ℚ (whole (pos 0)) c c0) (≼-of_≤ℚ a b h)))

negative_order : (a a' : ℤ) (k k' : ℕ) → (a *ℤ pos k') ≤ℤ (a' *ℤ pos k) → (neg_ℤ a' *ℤ pos k) ≤ℤ (neg_ℤ a *ℤ pos k')
negative_order a a' k k' h =
    let g : (diff (up a) (down a) *ℤ pos k') ≤ℤ (diff (up a') (down a') *ℤ pos k) = rw (diff_of a, diff_of a') h in
    rw (← diff_of a, ← diff_of a') (simp push (diff_le _ _ _ _ (omega (arith, le_diff _ _ _ _ (simp push at g)))))

negated-≼ : (q r : Fraction) → q ≼ r → negated r ≼ negated q
unfolding negated
negated-≼ q r h = record { at_most = negative_order q.num r.num q.den r.den h.at_most }

pub neg_ℚ-≤ℚ : (x y : ℚ) → x ≤ℚ y → neg_ℚ y ≤ℚ neg_ℚ x
unfolding neg_ℚ /_rec
neg_ℚ-≤ℚ =
    /_elim_prop₂ (λ x y. x ≤ℚ y → neg_ℚ y ≤ℚ neg_ℚ x) (λ x y. Π_prop (λ _. ≤ℚ_prop _ _))
    (λ a b h. ≤ℚ-of_≼ _ _ (negated-≼ a b (≼-of_≤ℚ a b h)))

-- ---- whole numbers among the numbers
pub of_ℤ-+ : (a b : ℤ) → of_ℤ (a +ℤ b) ≡ of_ℤ a +ℚ of_ℤ b
unfolding ◌+ℚ◌ /_rec₂ /_rec ◌⊕◌
of_ℤ-+ a b = eq/ (whole (a +ℤ b)) (whole a ⊕ whole b) (record { same = rw (times_one a, times_one b) refl })

pub of_ℤ-* : (a b : ℤ) → of_ℤ (a *ℤ b) ≡ of_ℤ a *ℚ of_ℤ b
unfolding ◌*ℚ◌ /_rec₂ /_rec ◌⊗◌
of_ℤ-* a b = eq/ (whole (a *ℤ b)) (whole a ⊗ whole b) (record { same = refl })

pub of_ℤ-neg : (a : ℤ) → of_ℤ (neg_ℤ a) ≡ neg_ℚ (of_ℤ a)
unfolding neg_ℚ /_rec negated
of_ℤ-neg a = refl
