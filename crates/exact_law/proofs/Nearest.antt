-- The two digits are those of the two steps: the place first, then the nearest whole number.
use Rattle.std.specs.Prelude.{◌≡◌, ◌↔◌, ℕ, suc, ◌+◌, ◌-◌, ◌*◌, ◌≤◌, ◌<◌, [], ◌∷◌, ℤ, pos, ◌+ℤ◌, ◌-ℤ◌, ◌*ℤ◌, ◌⊎◌, refl}
use Rattle.std.proofs.Common.{sym, ◌∙◌, ap, subst, arith, inl, inr}
use Rattle.std.proofs.lemmas.Int.{ints}
use Rattle.std.proofs.lemmas.Bool.{cases_lt}
use Rattle.std.proofs.lemmas.Bool.Decides.{nat_tests}
use Rattle.exact_fraction.specs.Number.{ℚ, of_ℤ, ◌*ℚ◌, ◌≤ℚ◌, ◌<ℚ◌}
use Rattle.exact_fraction.specs.NumberLaws.{≤ℚ_trans, ≤ℚ_same, *ℚ_comm, *ℚ_assoc, of_ℤ-*}
use Rattle.exact_fraction.proofs.OrderLaws.{≤ℚ_left, ≤ℚ_right, ≤ℚ_cancel}
use Rattle.exact_fraction.proofs.Quotients.{positive_not_zero}
use Rattle.exact_fraction.proofs.Ring.{Whole, ◌:*◌, x0, ring}
use Rattle.exact_law.specs.Rounding.{least_root, scaled_square, ten_to, IsTwoDigits, IsNearest}
use Rattle.exact_fraction.proofs.Strict.{below_not, below_by, below_or_not, ≤ℚ-<ℚ, <ℚ-≤ℚ}
use Rattle.exact_fraction.proofs.Signs.{whole-not_negative, times-≤ℚ}
use Rattle.exact_law.proofs.RoundingLaws.{next_square, scaled_square-rises}

-- ---- whole factors
cancel : (c : ℕ) (x y : ℚ) → of_ℤ (pos (suc c)) *ℚ x ≤ℚ of_ℤ (pos (suc c)) *ℚ y → x ≤ℚ y
cancel c x y h =
    ≤ℚ_cancel x y (of_ℤ (pos (suc c))) (whole-not_negative (suc c)) (positive_not_zero (suc c) (omega arith))
    (≤ℚ_left _ _ _ (*ℚ_comm x _) (≤ℚ_right _ _ _ (*ℚ_comm _ y) h))

times-below : (c : ℕ) (x y : ℚ) → x <ℚ y → of_ℤ (pos (suc c)) *ℚ x <ℚ of_ℤ (pos (suc c)) *ℚ y
times-below c x y h = below_by _ _ (λ g. below_not x y h (cancel c y x g))

cancel-below : (c : ℕ) (x y : ℚ) → of_ℤ (pos c) *ℚ x <ℚ of_ℤ (pos c) *ℚ y → x <ℚ y
cancel-below c x y h = below_by x y (λ g. below_not _ _ h (times-≤ℚ c y x g))

-- a factor of the root is one of the square
of_root : (k r s : ℕ) (e : ℤ) → k * r ≡ s → of_ℤ (pos (k * k)) *ℚ scaled_square r e ≡ scaled_square s e
unfolding scaled_square
of_root k r s e h =
    sym (*ℚ_assoc (of_ℤ (pos (k * k))) (of_ℤ (pos (r * r))) (ten_to e *ℚ ten_to e))
    ∙ ap (λ t. t *ℚ (ten_to e *ℚ ten_to e)) (sym (of_ℤ-* (pos (k * k)) (pos (r * r))) ∙ ap of_ℤ (squared k r s h)) where
      squared : (k r s : ℕ) → k * r ≡ s → (pos (k * k) *ℤ pos (r * r)) ≡ pos (s * s)
      squared k r s h = let e : s * s ≡ (k * k) * (r * r) = rw (← h) (omega arith) in rw e (ap pos refl)

-- a power of ten of the place is one of the root
of_place : (r s : ℕ) (e : ℤ) → 10 * r ≡ s → scaled_square r (e +ℤ pos 1) ≡ scaled_square s e
of_place r s e h = next ∙ of_root 10 r s e h where
  next : scaled_square r (e +ℤ pos 1) ≡ of_ℤ (pos 100) *ℚ scaled_square r e
  next = next_square r e

four_hundred : (v : ℚ) → of_ℤ (pos 100) *ℚ (of_ℤ (pos 4) *ℚ v) ≡ of_ℤ (pos 400) *ℚ v
four_hundred v = ring (v ∷ []) (Whole (pos 100) :* (Whole (pos 4) :* x0)) (Whole (pos 400) :* x0) refl

-- ---- from the digits to the two steps
-- the four facts, each from a bound on 400 v
low_to : (v : ℚ) (r s : ℕ) (e : ℤ) → 20 * r ≡ s → scaled_square s e ≤ℚ of_ℤ (pos 400) *ℚ v → scaled_square r e ≤ℚ v
low_to v r s e h k = cancel 399 _ _ (≤ℚ_left _ _ _ (of_root 20 r s e h) k)

high_to : (v : ℚ) (r s : ℕ) (e : ℤ) → 20 * r ≡ s → of_ℤ (pos 400) *ℚ v <ℚ scaled_square s e → v <ℚ scaled_square r e
high_to v r s e h k = cancel-below 400 _ _ (<ℚ-≤ℚ _ _ _ k (≤ℚ_same _ _ (sym (of_root 20 r s e h))))

low_4 : (v : ℚ) (r s : ℕ) (e : ℤ) → 10 * r ≡ s → scaled_square s e ≤ℚ of_ℤ (pos 400) *ℚ v → scaled_square r e ≤ℚ of_ℤ (pos 4) *ℚ v
low_4 v r s e h k = cancel 99 _ _ (≤ℚ_left _ _ _ (of_root 10 r s e h) (≤ℚ_right _ _ _ (sym (four_hundred v)) k))

high_4 : (v : ℚ) (r s : ℕ) (e : ℤ) → 10 * r ≡ s → of_ℤ (pos 400) *ℚ v <ℚ scaled_square s e → of_ℤ (pos 4) *ℚ v <ℚ scaled_square r e
high_4 v r s e h k =
    cancel-below 100 _ _ (≤ℚ-<ℚ _ _ _ (≤ℚ_same _ _ (four_hundred v)) (<ℚ-≤ℚ _ _ _ k (≤ℚ_same _ _ (sym (of_root 10 r s e h)))))

-- and back
low_from : (v : ℚ) (r s : ℕ) (e : ℤ) → 20 * r ≡ s → scaled_square r e ≤ℚ v → scaled_square s e ≤ℚ of_ℤ (pos 400) *ℚ v
low_from v r s e h k = ≤ℚ_left _ _ _ (sym (of_root 20 r s e h)) (times-≤ℚ 400 _ _ k)

high_from : (v : ℚ) (r s : ℕ) (e : ℤ) → 20 * r ≡ s → v <ℚ scaled_square r e → of_ℤ (pos 400) *ℚ v <ℚ scaled_square s e
high_from v r s e h k = <ℚ-≤ℚ _ _ _ (times-below 399 _ _ k) (≤ℚ_same _ _ (of_root 20 r s e h))

low_4_from : (v : ℚ) (r s : ℕ) (e : ℤ) → 10 * r ≡ s → scaled_square r e ≤ℚ of_ℤ (pos 4) *ℚ v → scaled_square s e ≤ℚ of_ℤ (pos 400) *ℚ v
low_4_from v r s e h k =
    ≤ℚ_left _ _ _ (sym (of_root 10 r s e h)) (≤ℚ_right _ _ _ (four_hundred v) (times-≤ℚ 100 _ _ k))

high_4_from : (v : ℚ) (r s : ℕ) (e : ℤ) → 10 * r ≡ s → of_ℤ (pos 4) *ℚ v <ℚ scaled_square r e → of_ℤ (pos 400) *ℚ v <ℚ scaled_square s e
high_4_from v r s e h k =
    ≤ℚ-<ℚ _ _ _ (≤ℚ_same _ _ (sym (four_hundred v))) (<ℚ-≤ℚ _ _ _ (times-below 99 _ _ k) (≤ℚ_same _ _ (of_root 10 r s e h)))

-- roots within the digits
least_root-other : (m : ℕ) → 10 < m → least_root m ≡ 10 * (2 * m - 1)
least_root-other m h = grind (arith, nat_tests)

above_ten : (v : ℚ) (m : ℕ) (e : ℤ) → 10 < m → IsTwoDigits v m e → IsNearest v m e
above_ten v m e h d = record {
  at_least_10 = low_to v 10 200 e refl (≤ℚ_trans _ (scaled_square (least_root m) e) _ (scaled_square-rises 200 (least_root m) e (wide m h)) d.low);
  below_100 = high_to v 100 2000 e refl (<ℚ-≤ℚ _ _ _ d.high (scaled_square-rises (20 * m + 10) 2000 e (let b = d.at_most_99 in omega arith)));
  low = low_4 v (2 * m - 1) (least_root m) e (sym (least_root-other m h)) d.low;
  high = high_4 v (2 * m + 1) (20 * m + 10) e (omega arith) d.high;
} where
  wide : (m : ℕ) → 10 < m → 200 ≤ least_root m
  wide m h = rw (least_root-other m h) (omega arith)

-- ten at the place itself
ten_here : (v : ℚ) (e : ℤ) → scaled_square 10 e ≤ℚ v → IsTwoDigits v 10 e → IsNearest v 10 e
ten_here v e h d = record {
  at_least_10 = h;
  below_100 = high_to v 100 2000 e refl (<ℚ-≤ℚ _ _ _ d.high (scaled_square-rises 210 2000 e (omega arith)));
  low = low_4 v 19 190 e refl (≤ℚ_trans _ _ _ (scaled_square-rises 190 199 e (omega arith)) d.low);
  high = high_4 v 21 210 e refl d.high;
}

-- ten from a hundred of the place before
ten_before : (v : ℚ) (d : ℤ) → v <ℚ scaled_square 10 (d +ℤ pos 1) → IsTwoDigits v 10 (d +ℤ pos 1) → IsNearest v 100 d
ten_before v d h t = record {
  at_least_10 = low_to v 10 200 d refl (≤ℚ_trans _ _ _ (scaled_square-rises 200 1990 d (omega arith)) low);
  below_100 = below;
  low = low_4 v 199 1990 d refl low;
  high =
      <ℚ-≤ℚ _ _ _ (<ℚ-≤ℚ _ _ _ (times-below 3 _ _ below) (≤ℚ_same _ _ (of_root 2 100 200 d refl)))
      (scaled_square-rises 200 201 d (omega arith));
} where
  low : scaled_square 1990 d ≤ℚ of_ℤ (pos 400) *ℚ v
  low = ≤ℚ_left _ _ _ (sym (of_place 199 1990 d refl)) t.low

  below : v <ℚ scaled_square 100 d
  below = <ℚ-≤ℚ _ _ _ h (≤ℚ_same _ _ (of_place 10 100 d refl))

-- ---- from the two steps to the digits
nearest-ten : (v : ℚ) (m : ℕ) (e : ℤ) → IsNearest v m e → 10 ≤ m
nearest-ten v m e n = by (cases_lt m 10) where
  by : (m < 10) ⊎ (10 ≤ m) → 10 ≤ m
  by (inr h) = h
  by (inl h) =
      absurd (below_not _ _ n.high
      (≤ℚ_trans _ _ _ (scaled_square-rises (2 * m + 1) 20 e (omega arith))
      (≤ℚ_left _ _ _ (sym (of_root 2 10 20 e refl)) (times-≤ℚ 4 _ _ n.at_least_10))))

least_from : (v : ℚ) (m : ℕ) (e : ℤ) → 10 ≤ m → IsNearest v m e → scaled_square (least_root m) e ≤ℚ of_ℤ (pos 400) *ℚ v
least_from v m e h n = by (cases_lt 10 m) where
  by : (10 < m) ⊎ (m ≤ 10) → scaled_square (least_root m) e ≤ℚ of_ℤ (pos 400) *ℚ v
  by (inl g) = rw (least_root-other m g) (low_4_from v (2 * m - 1) (10 * (2 * m - 1)) e refl n.low)
  by (inr g) =
      let ten : 10 ≡ m = omega arith in
      subst (λ k. scaled_square (least_root k) e ≤ℚ of_ℤ (pos 400) *ℚ v) ten
      (≤ℚ_trans _ _ _ (scaled_square-rises 199 200 e (omega arith)) (low_from v 10 200 e refl n.at_least_10))

from_nearest : (v : ℚ) (m : ℕ) (e : ℤ) → m ≤ 99 → IsNearest v m e → IsTwoDigits v m e
from_nearest v m e h n = record {
  at_least_10 = nearest-ten v m e n;
  at_most_99 = h;
  low = least_from v m e (nearest-ten v m e n) n;
  high = high_4_from v (2 * m + 1) (20 * m + 10) e (omega arith) n.high;
}

hundred_from : (v : ℚ) (d : ℤ) → IsNearest v 100 d → IsTwoDigits v 10 (d +ℤ pos 1)
hundred_from v d n = record {
  at_least_10 = omega arith;
  at_most_99 = omega arith;
  low = ≤ℚ_left _ _ _ (of_place 199 1990 d refl) (low_4_from v 199 1990 d refl n.low);
  high =
      <ℚ-≤ℚ _ (scaled_square 2100 d) _
      (<ℚ-≤ℚ _ _ _ (high_from v 100 2000 d refl n.below_100) (scaled_square-rises 2000 2100 d (omega arith)))
      (≤ℚ_same _ _ (sym (of_place 210 2100 d refl)));
}

one_before : (e : ℤ) → ((e -ℤ pos 1) +ℤ pos 1) ≡ e
one_before e = omega (arith, ints)

to_steps : (v : ℚ) (m : ℕ) (e : ℤ) → IsTwoDigits v m e
    → (IsNearest v m e × (m ≤ 99)) ⊎ ((m ≡ 10) × IsNearest v 100 (e -ℤ pos 1))
to_steps v m e d = by (cases_lt 10 m) where
  at_ten : m ≡ 10 → IsTwoDigits v 10 e → (v <ℚ scaled_square 10 e) ⊎ (scaled_square 10 e ≤ℚ v)
      → (IsNearest v m e × (m ≤ 99)) ⊎ ((m ≡ 10) × IsNearest v 100 (e -ℤ pos 1))
  at_ten h t (inl g) =
      inr (
        h,
        ten_before v (e -ℤ pos 1)
            (<ℚ-≤ℚ _ _ _ g (≤ℚ_same _ _ (ap (scaled_square 10) (sym (one_before e)))))
            (subst (λ f. IsTwoDigits v 10 f) (sym (one_before e)) t),
      )
  at_ten h t (inr g) = inl (subst (λ k. IsNearest v k e) (sym h) (ten_here v e g t), d.at_most_99)

  by : (10 < m) ⊎ (m ≤ 10) → (IsNearest v m e × (m ≤ 99)) ⊎ ((m ≡ 10) × IsNearest v 100 (e -ℤ pos 1))
  by (inl h) = inl (above_ten v m e h d, d.at_most_99)
  by (inr h) =
      let ten : m ≡ 10 = (let l = d.at_least_10 in omega arith) in
      at_ten ten (subst (λ k. IsTwoDigits v k e) ten d) (below_or_not v (scaled_square 10 e))

from_steps : (v : ℚ) (m : ℕ) (e : ℤ) → (IsNearest v m e × (m ≤ 99)) ⊎ ((m ≡ 10) × IsNearest v 100 (e -ℤ pos 1))
    → IsTwoDigits v m e
from_steps v m e (inl (n, h)) = from_nearest v m e h n
from_steps v m e (inr (h, n)) =
    subst (λ k. IsTwoDigits v k e) (sym h) (subst (λ f. IsTwoDigits v 10 f) (one_before e) (hundred_from v (e -ℤ pos 1) n))

pub two_digits-steps : (v : ℚ) (m : ℕ) (e : ℤ)
    → IsTwoDigits v m e ↔ ((IsNearest v m e × (m ≤ 99)) ⊎ ((m ≡ 10) × IsNearest v 100 (e -ℤ pos 1)))
two_digits-steps v m e = (to_steps v m e, from_steps v m e)
