-- Each number above 0 has two digits, and they are those of the two steps.
use Rattle.std.specs.Prelude.{◌≡◌, ℕ, zero, suc, ◌+◌, ◌*◌, ◌≤◌, false, [], ◌∷◌, ℤ, pos, negsuc, ◌+ℤ◌, ◌⊎◌, neg_ℤ, refl}
use Rattle.std.proofs.Common.{sym, ◌∙◌, ap, subst, arith, inl, inr}
use Rattle.std.proofs.lemmas.Int.{ints}
use Rattle.std.proofs.lemmas.Bool.Decides.{nat_tests}
use std.Quotient.{/_rec₂}
use Rattle.exact_fraction.specs.Fraction.{is_at_most}
use Rattle.exact_fraction.specs.Number.{ℚ, of_ℤ, ◌+ℚ◌, ◌*ℚ◌, neg_ℚ, inv_ℚ, is_zero_ℚ, is_at_most_ℚ, ◌≤ℚ◌, floor_ℚ, ◌<ℚ◌}
use Rattle.exact_fraction.specs.NumberLaws.{≤ℚ_trans, ≤ℚ_same, ≤ℚ_total, *ℚ_comm, *ℚ-≤ℚ, of_ℤ-≤ℚ, ≤floor_ℚ}
use Rattle.exact_fraction.proofs.OrderLaws.{≤ℚ_left, ≤ℚ_right, ≤ℚ_by, ≤ℚ_cancel, ≤ℚ-difference, +ℚ-not_negative, *ℚ-not_negative}
use Rattle.exact_fraction.proofs.Quotients.{positive_not_zero, ≢-is_zero_ℚ, /ℚ-*ℚ}
use Rattle.exact_fraction.proofs.Ring.{Whole, ◌:+◌, ◌:-◌, ◌:*◌, x0, x1, ring}
use Rattle.exact_fraction.specs.Powers.{power}
use Rattle.exact_law.specs.Rounding.{ten_to, least_root, scaled_square, IsTwoDigits}
use Rattle.exact_fraction.proofs.Strict.{below_not, below_by, below_or_not, ≤ℚ-<ℚ, <ℚ-≤ℚ, below_at_most}
use Rattle.exact_fraction.proofs.Signs.{whole-not_negative, of_pos-suc, times-≤ℚ}
use Rattle.exact_law.proofs.RoundingLaws.{next_square, scaled_square-not_negative}

-- ---- the first of rising bounds that is above x
pub find : (f : ℕ → ℚ) (x : ℚ) (n : ℕ) → f 0 ≤ℚ x → x <ℚ f n → (k : ℕ) × (suc k ≤ n) × (f k ≤ℚ x) × (x <ℚ f (suc k))
find f x zero h b = absurd (below_not x (f 0) b h)
find f x (suc n) h b = by (below_or_not x (f n)) (find f x n h) where
  by : (x <ℚ f n) ⊎ (f n ≤ℚ x) → (x <ℚ f n → (k : ℕ) × (suc k ≤ n) × (f k ≤ℚ x) × (x <ℚ f (suc k)))
      → (k : ℕ) × (suc k ≤ suc n) × (f k ≤ℚ x) × (x <ℚ f (suc k))
  by (inl l) ih = let r = ih l in (r.0, omega arith, r.2, r.3)
  by (inr l) ih = (n, omega arith, l, b)

-- ---- a whole number that is at least x
pub whole_above : (x : ℚ) → (n : ℕ) × (x ≤ℚ of_ℤ (pos n))
whole_above x = by (floor_ℚ x +ℤ pos 1) refl where
  above : x ≤ℚ of_ℤ (floor_ℚ x +ℤ pos 1)
  above = by_total (≤ℚ_total x (of_ℤ (floor_ℚ x +ℤ pos 1))) where
    by_total : (x ≤ℚ of_ℤ (floor_ℚ x +ℤ pos 1)) ⊎ (of_ℤ (floor_ℚ x +ℤ pos 1) ≤ℚ x) → x ≤ℚ of_ℤ (floor_ℚ x +ℤ pos 1)
    by_total (inl h) = h
    by_total (inr h) = let g = ≤floor_ℚ (floor_ℚ x +ℤ pos 1) x h in absurd (omega (arith, ints))

  by : (z : ℤ) → (floor_ℚ x +ℤ pos 1) ≡ z → (n : ℕ) × (x ≤ℚ of_ℤ (pos n))
  by (pos n) h = (n, subst (λ t. x ≤ℚ of_ℤ t) h above)
  by (negsuc n) h = (0, ≤ℚ_trans x (of_ℤ (negsuc n)) (of_ℤ (pos 0)) (subst (λ t. x ≤ℚ of_ℤ t) h above) (of_ℤ-≤ℚ (negsuc n) (pos 0) (omega (arith, ints))))

-- ---- the place
same_place : (e : ℤ) → (e +ℤ pos 0) ≡ e
same_place e = omega (arith, ints)

next_place : (e : ℤ) (k : ℕ) → (e +ℤ pos (suc k)) ≡ ((e +ℤ pos k) +ℤ pos 1)
next_place e k = omega (arith, ints)

-- a square grows at least as the places do
grows : (r : ℕ) (e : ℤ) (k : ℕ) → of_ℤ (pos (suc k)) *ℚ scaled_square r e ≤ℚ scaled_square r (e +ℤ pos k)
grows r e zero =
    ≤ℚ_same _ _ (ring (scaled_square r e ∷ []) (Whole (pos 1) :* x0) x0 refl ∙ ap (scaled_square r) (sym (same_place e)))
grows r e (suc k) =
    ≤ℚ_trans _ (of_ℤ (pos 100) *ℚ (of_ℤ (pos (suc k)) *ℚ scaled_square r e)) _
    (≤ℚ_by _ _ ((of_ℤ (pos 98) +ℚ of_ℤ (pos 99) *ℚ of_ℤ (pos k)) *ℚ scaled_square r e)
    (ap (λ t. (t *ℚ scaled_square r e) +ℚ ((of_ℤ (pos 98) +ℚ of_ℤ (pos 99) *ℚ of_ℤ (pos k)) *ℚ scaled_square r e))
    (of_pos-suc (suc k) ∙ ap (λ t. of_ℤ (pos 1) +ℚ t) (of_pos-suc k))
    ∙ ring (scaled_square r e ∷ of_ℤ (pos k) ∷ [])
    ((Whole (pos 1) :+ (Whole (pos 1) :+ x1)) :* x0 :+ (Whole (pos 98) :+ Whole (pos 99) :* x1) :* x0)
    (Whole (pos 100) :* ((Whole (pos 1) :+ x1) :* x0)) refl
    ∙ ap (λ t. of_ℤ (pos 100) *ℚ (t *ℚ scaled_square r e)) (sym (of_pos-suc k)))
    (*ℚ-not_negative _ _
    (+ℚ-not_negative _ _ (whole-not_negative 98) (*ℚ-not_negative _ _ (whole-not_negative 99) (whole-not_negative k)))
    (scaled_square-not_negative r e)))
    (≤ℚ_right _ (of_ℤ (pos 100) *ℚ scaled_square r (e +ℤ pos k)) _
    (sym (next_square r (e +ℤ pos k)) ∙ ap (scaled_square r) (sym (next_place e k)))
    (times-≤ℚ 100 _ _ (grows r e k)))

at_zero : scaled_square 199 (pos 0) ≡ of_ℤ (pos 39601)
unfolding scaled_square ten_to power
at_zero = ring [] (Whole (pos 39601) :* (Whole (pos 1) :* Whole (pos 1))) (Whole (pos 39601)) refl

back : (k : ℕ) → (neg_ℤ (pos k) +ℤ pos k) ≡ pos 0
back k = omega (arith, ints)

-- where 100 ≤ k v, the square at the place -k is not above v
low_place : (v : ℚ) (k : ℕ) → of_ℤ (pos 0) ≤ℚ v → of_ℤ (pos 100) ≤ℚ of_ℤ (pos k) *ℚ v
    → scaled_square 199 (neg_ℤ (pos k)) ≤ℚ of_ℤ (pos 400) *ℚ v
low_place v k v0 h =
    ≤ℚ_cancel _ _ (of_ℤ (pos (suc k))) (whole-not_negative (suc k)) (positive_not_zero (suc k) (omega arith))
    (≤ℚ_left _ (of_ℤ (pos (suc k)) *ℚ scaled_square 199 (neg_ℤ (pos k))) _ (*ℚ_comm _ _)
    (≤ℚ_trans _ (scaled_square 199 (neg_ℤ (pos k) +ℤ pos k)) _ (grows 199 (neg_ℤ (pos k)) k)
    (≤ℚ_left _ (of_ℤ (pos 39601)) _ (ap (scaled_square 199) (back k) ∙ at_zero)
    (≤ℚ_trans _ (of_ℤ (pos 400) *ℚ (of_ℤ (pos k) *ℚ v)) _
    (≤ℚ_trans _ (of_ℤ (pos 400) *ℚ of_ℤ (pos 100)) _
    (≤ℚ_by _ _ (of_ℤ (pos 399)) (ring [] (Whole (pos 39601) :+ Whole (pos 399)) (Whole (pos 400) :* Whole (pos 100)) refl) (whole-not_negative 399))
    (times-≤ℚ 400 _ _ h))
    (≤ℚ_by _ _ (of_ℤ (pos 400) *ℚ v)
    (ring (v ∷ of_ℤ (pos k) ∷ []) (Whole (pos 400) :* (x1 :* x0) :+ Whole (pos 400) :* x0) ((Whole (pos 400) :* x0) :* (Whole (pos 1) :+ x1)) refl
    ∙ ap (λ t. (of_ℤ (pos 400) *ℚ v) *ℚ t) (sym (of_pos-suc k)))
    (*ℚ-not_negative _ _ (whole-not_negative 400) v0))))))

zero_below : of_ℤ (pos 0) <ℚ of_ℤ (pos 39601)
unfolding is_at_most_ℚ /_rec₂ is_at_most
zero_below = record { not_above = refl }

positive : (k : ℕ) → of_ℤ (pos 0) <ℚ of_ℤ (pos 39601) +ℚ of_ℤ (pos 39201) *ℚ of_ℤ (pos k)
positive k =
    <ℚ-≤ℚ _ (of_ℤ (pos 39601)) _ zero_below
    (≤ℚ_by _ _ (of_ℤ (pos 39201) *ℚ of_ℤ (pos k)) refl (*ℚ-not_negative _ _ (whole-not_negative 39201) (whole-not_negative k)))

-- where v ≤ k, the square at the place k is above v
high_place : (v : ℚ) (k : ℕ) → v ≤ℚ of_ℤ (pos k) → of_ℤ (pos 400) *ℚ v <ℚ scaled_square 199 (pos k)
high_place v k h =
    ≤ℚ-<ℚ _ (of_ℤ (pos 400) *ℚ of_ℤ (pos k)) _ (times-≤ℚ 400 _ _ h)
    (below_by _ _ (λ g. below_not (of_ℤ (pos 0)) (of_ℤ (pos 39601) +ℚ of_ℤ (pos 39201) *ℚ of_ℤ (pos k)) (positive k)
    (≤ℚ_by _ _ (of_ℤ (pos 400) *ℚ of_ℤ (pos k) +ℚ neg_ℚ (of_ℤ (pos (suc k)) *ℚ of_ℤ (pos 39601)))
    (ap (λ t. (of_ℤ (pos 39601) +ℚ of_ℤ (pos 39201) *ℚ of_ℤ (pos k)) +ℚ (of_ℤ (pos 400) *ℚ of_ℤ (pos k) +ℚ neg_ℚ (t *ℚ of_ℤ (pos 39601)))) (of_pos-suc k)
    ∙ ring (of_ℤ (pos k) ∷ [])
    ((Whole (pos 39601) :+ Whole (pos 39201) :* x0) :+ (Whole (pos 400) :* x0 :- ((Whole (pos 1) :+ x0) :* Whole (pos 39601)))) (Whole (pos 0)) refl)
    (≤ℚ-difference _ _ (≤ℚ_trans _ (scaled_square 199 (pos k)) _ (grows_from_zero k) g))))) where
      grows_from_zero : (k : ℕ) → of_ℤ (pos (suc k)) *ℚ of_ℤ (pos 39601) ≤ℚ scaled_square 199 (pos k)
      grows_from_zero k =
          ≤ℚ_left _ (of_ℤ (pos (suc k)) *ℚ scaled_square 199 (pos 0)) _ (ap (λ t. of_ℤ (pos (suc k)) *ℚ t) (sym at_zero))
          (≤ℚ_right _ (scaled_square 199 (pos 0 +ℤ pos k)) _ (ap (scaled_square 199) (from_zero k)) (grows 199 (pos 0) k)) where
            from_zero : (k : ℕ) → (pos 0 +ℤ pos k) ≡ pos k
            from_zero k = omega (arith, ints)

-- ---- the digits
-- a hundred inverses of v, as a whole number k, give 100 ≤ k v
enough : (v : ℚ) → is_zero_ℚ v ≡ false → of_ℤ (pos 0) ≤ℚ v → (k : ℕ) → of_ℤ (pos 100) *ℚ inv_ℚ v ≤ℚ of_ℤ (pos k)
    → of_ℤ (pos 100) ≤ℚ of_ℤ (pos k) *ℚ v
enough v n v0 k h =
    ≤ℚ_left _ ((of_ℤ (pos 100) *ℚ inv_ℚ v) *ℚ v) _ (sym (/ℚ-*ℚ (of_ℤ (pos 100)) v n)) (*ℚ-≤ℚ _ _ v v0 h)

-- the place at which the root has two digits
place : (v : ℚ) → of_ℤ (pos 0) <ℚ v
    → (e : ℤ) × (scaled_square 199 e ≤ℚ of_ℤ (pos 400) *ℚ v) × (of_ℤ (pos 400) *ℚ v <ℚ of_ℤ (pos 100) *ℚ scaled_square 199 e)
place v h = by (whole_above (of_ℤ (pos 100) *ℚ inv_ℚ v)) (whole_above v) where
  not_zero : is_zero_ℚ v ≡ false
  not_zero = ≢-is_zero_ℚ v (λ e. below_not _ _ h (≤ℚ_same _ _ e))

  v0 : of_ℤ (pos 0) ≤ℚ v
  v0 = below_at_most _ _ h

  by : (k : ℕ) × (of_ℤ (pos 100) *ℚ inv_ℚ v ≤ℚ of_ℤ (pos k)) → (n : ℕ) × (v ≤ℚ of_ℤ (pos n))
      → (e : ℤ) × (scaled_square 199 e ≤ℚ of_ℤ (pos 400) *ℚ v) × (of_ℤ (pos 400) *ℚ v <ℚ of_ℤ (pos 100) *ℚ scaled_square 199 e)
  by (k, low) (n, high) =
      let top : (neg_ℤ (pos k) +ℤ pos (k + n)) ≡ pos n = omega (arith, ints) in
      let r = find (λ j. scaled_square 199 (neg_ℤ (pos k) +ℤ pos j)) (of_ℤ (pos 400) *ℚ v) (k + n)
      (≤ℚ_left _ _ _ (ap (scaled_square 199) (same_place (neg_ℤ (pos k)))) (low_place v k v0 (enough v not_zero v0 k low)))
      (<ℚ-≤ℚ _ _ _ (high_place v n high) (≤ℚ_same _ _ (ap (scaled_square 199) (sym top)))) in (
        neg_ℤ (pos k) +ℤ pos r.0,
        r.2,
        <ℚ-≤ℚ _ _ _ r.3 (≤ℚ_same _ _ (ap (scaled_square 199) (next_place (neg_ℤ (pos k)) r.0) ∙ next_square 199 (neg_ℤ (pos k) +ℤ pos r.0))),
      )

-- the least roots of the digits 10 + k, and what follows 99
bound : ℕ → ℕ
bound zero = 199
bound (suc k) = 20 * (10 + k) + 10

bound-low : (k : ℕ) → bound k ≡ least_root (10 + k)
unfolding bound
bound-low zero = refl
bound-low (suc k) = grind (arith, nat_tests)

hundred : (e : ℤ) → of_ℤ (pos 100) *ℚ scaled_square 199 e ≡ scaled_square (bound 90) e
unfolding scaled_square bound
hundred e = ring (ten_to e ∷ []) (Whole (pos 100) :* (Whole (pos 39601) :* (x0 :* x0))) (Whole (pos 3960100) :* (x0 :* x0)) refl

digits_at : (v : ℚ) (e : ℤ) → scaled_square 199 e ≤ℚ of_ℤ (pos 400) *ℚ v → of_ℤ (pos 400) *ℚ v <ℚ of_ℤ (pos 100) *ℚ scaled_square 199 e
    → (m : ℕ) × IsTwoDigits v m e
unfolding bound
digits_at v e low high =
    let r = find (λ j. scaled_square (bound j) e) (of_ℤ (pos 400) *ℚ v) 90 low (<ℚ-≤ℚ _ _ _ high (≤ℚ_same _ _ (hundred e))) in (
      10 + r.0,
      record {
        at_least_10 = omega arith;
        at_most_99 = omega arith;
        low = ≤ℚ_left _ _ _ (ap (λ b. scaled_square b e) (sym (bound-low r.0))) r.2;
        high = r.3;
      },
    )

pub two_digits-exist : (v : ℚ) → of_ℤ (pos 0) <ℚ v → (m : ℕ) × ((e : ℤ) × IsTwoDigits v m e)
two_digits-exist v h = by (place v h) where
  by : (e : ℤ) × (scaled_square 199 e ≤ℚ of_ℤ (pos 400) *ℚ v) × (of_ℤ (pos 400) *ℚ v <ℚ of_ℤ (pos 100) *ℚ scaled_square 199 e)
      → (m : ℕ) × ((e : ℤ) × IsTwoDigits v m e)
  by (e, low, high) = let d = digits_at v e low high in (d.0, (e, d.1))
