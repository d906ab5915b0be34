-- Lemmas on the order: it is total, and its answers are those of the values.
use Rattle.std.specs.Prelude.{◌≡◌, ◌==◌, ◌&&◌, Bool, true, false, if◌then◌else◌, refl}
use Rattle.std.proofs.Common.{sym, ap, subst, ◌∙◌, inl, inr}
use Rattle.std.proofs.lemmas.Bool.{true≢false, and_parts, eqb-true}
use Rattle.std.proofs.lemmas.Cmp.{tied_itself}
use Rattle.std.specs.declared.cmp.Ordering.{Ordering}
use Rattle.std.specs.declared.cmp.Ordering.TheVariants.{Less, Equal, Greater}
use Rattle.std.specs.Cmp.{IsTotalOrder, then_total, on_total, int_cmp_total, nat_cmp_total, both_tied, unsigned_ties, signed_Decides}
use Rattle.std.specs.Ordering.{nat_cmp, int_cmp, int_eq, ordering_then, ordering_reverse, is_le, is_eq}
use Rattle.exact_fraction.specs.Number.{ℚ, ◌≤ℚ◌, is_at_most_ℚ}
use Rattle.exact_fraction.specs.NumberLaws.{≤ℚ_trans, ≤ℚ_antisym, ≤ℚ_same, ≤ℚ_total}
use Rattle.exact_fraction.specs.Ratio.{IsOrderOf}
use Rattle.decimal18.specs.Bound.{Bound, scaled, value_of}
use Rattle.decimal18.specs.Order.{compare_ℚ, order}

pub not_at_most : (x y : ℚ) → is_at_most_ℚ x y ≡ false → ¬ (x ≤ℚ y)
not_at_most x y e h = true≢false (sym h.holds ∙ e)

tested : (x y : ℚ) (s t : Bool) → is_at_most_ℚ x y ≡ s → is_at_most_ℚ y x ≡ t → IsOrderOf (if s then (if t then Equal else Less) else Greater) x y
tested x y true true e f = ≤ℚ_antisym x y (record { holds = e }) (record { holds = f })
tested x y true false e f = not_at_most y x f
tested x y false t e f = not_at_most x y e

-- the answer says how the numbers compare
pub compare_ℚ-says : (x y : ℚ) → IsOrderOf (compare_ℚ x y) x y
unfolding compare_ℚ
compare_ℚ-says x y = tested x y (is_at_most_ℚ x y) (is_at_most_ℚ y x) refl refl

-- and it is the only answer that does
one_answer : (x y : ℚ) (r s : Ordering) → IsOrderOf r x y → IsOrderOf s x y → r ≡ s
one_answer x y Less Less h k = refl
one_answer x y Less Equal h k = absurd (h (≤ℚ_same y x (sym k)))
one_answer x y Less Greater h k = absurd (elim (≤ℚ_total x y) [ inl g ↦ k g | inr g ↦ h g ])
one_answer x y Equal Less h k = absurd (k (≤ℚ_same y x (sym h)))
one_answer x y Equal Equal h k = refl
one_answer x y Equal Greater h k = absurd (k (≤ℚ_same x y h))
one_answer x y Greater Less h k = absurd (elim (≤ℚ_total x y) [ inl g ↦ h g | inr g ↦ k g ])
one_answer x y Greater Equal h k = absurd (h (≤ℚ_same x y k))
one_answer x y Greater Greater h k = refl

pub compare_ℚ-is : (x y : ℚ) (r : Ordering) → IsOrderOf r x y → compare_ℚ x y ≡ r
compare_ℚ-is x y r h = one_answer x y (compare_ℚ x y) r (compare_ℚ-says x y) h

turned : (x y : ℚ) (r : Ordering) → IsOrderOf r y x → IsOrderOf (ordering_reverse r) x y
turned x y Less h = h
turned x y Equal h = sym h
turned x y Greater h = h

below : (x y : ℚ) → compare_ℚ x y ≡ Less → ¬ (y ≤ℚ x)
below x y e = subst (λ r. IsOrderOf r x y) e (compare_ℚ-says x y)

pub compare_ℚ-total : IsTotalOrder compare_ℚ
compare_ℚ-total = record {
  antisymm = λ x y. compare_ℚ-is x y _ (turned x y (compare_ℚ y x) (compare_ℚ-says y x));
  trans = λ x y z h k. compare_ℚ-is x z Less
      (λ g. elim (≤ℚ_total y z) [ inl f ↦ below x y h (≤ℚ_trans y z x f g) | inr f ↦ below y z k f ]);
  congr = λ x y z h. ap (λ w. compare_ℚ w z) (subst (λ r. IsOrderOf r x y) h (compare_ℚ-says x y));
}

-- ---- decimal numbers
pub order-total : IsTotalOrder order
unfolding order
order-total = then_total (on_total value_of compare_ℚ-total) (then_total (on_total (λ b. b.coefficient) int_cmp_total) (on_total (λ b. b.places) nat_cmp_total))

-- an answer that is not Greater says that the value is not above, and one that is not Less that it is not below
first_answer : (x y : ℚ) (r s : Ordering) → IsOrderOf r x y → is_le (ordering_then r s) ≡ true → x ≤ℚ y
first_answer x y Less s h e = elim (≤ℚ_total x y) [ inl g ↦ g | inr g ↦ absurd (h g) ]
first_answer x y Equal s h e = ≤ℚ_same x y h
first_answer x y Greater s h e = absurd (true≢false (sym e))

pub at_most-from_order : (a b : Bound) → is_le (order a b) ≡ true → value_of a ≤ℚ value_of b
unfolding order
at_most-from_order a b e = first_answer (value_of a) (value_of b) (compare_ℚ (value_of a) (value_of b)) _ (compare_ℚ-says _ _) e

second_answer : (x y : ℚ) (r s : Ordering) → IsOrderOf r x y → is_le (ordering_then r s) ≡ false → y ≤ℚ x
second_answer x y Less s h e = absurd (true≢false e)
second_answer x y Equal s h e = ≤ℚ_same y x (sym h)
second_answer x y Greater s h e = elim (≤ℚ_total x y) [ inl g ↦ absurd (h g) | inr g ↦ g ]

pub at_least-from_order : (a b : Bound) → is_le (order a b) ≡ false → value_of b ≤ℚ value_of a
unfolding order
at_least-from_order a b e = second_answer (value_of a) (value_of b) (compare_ℚ (value_of a) (value_of b)) _ (compare_ℚ-says _ _) e

inner_ties : (r s : Ordering) → (is_eq s ≡ true → r ≡ Equal) → is_eq s ≡ is_eq (ordering_then r s)
inner_ties Less Less h = refl
inner_ties Less Equal h = ap is_eq (sym (h refl))
inner_ties Less Greater h = refl
inner_ties Equal s h = refl
inner_ties Greater Less h = refl
inner_ties Greater Equal h = ap is_eq (sym (h refl))
inner_ties Greater Greater h = refl

same_digits : (a b : Bound) → (int_eq a.coefficient b.coefficient && (a.places == b.places)) ≡ true → value_of a ≡ value_of b
same_digits a b e =
    let parts = and_parts (int_eq a.coefficient b.coefficient) (a.places == b.places) e in
    ap (λ z. value_of (scaled z a.places)) ((signed_Decides a.coefficient b.coefficient).0 parts.0)
    ∙ ap (λ n. value_of (scaled b.coefficient n)) (eqb-true a.places b.places parts.1)

compare_ℚ-same : (x y : ℚ) → x ≡ y → compare_ℚ x y ≡ Equal
compare_ℚ-same x y e = compare_ℚ-is x y Equal e

-- the order tells apart what has other digits
pub order-ties : (a b : Bound) → (int_eq a.coefficient b.coefficient && (a.places == b.places)) ≡ is_eq (order a b)
unfolding order
order-ties a b =
    let inner : (int_eq a.coefficient b.coefficient && (a.places == b.places)) ≡ is_eq (ordering_then (int_cmp a.coefficient b.coefficient) (nat_cmp a.places b.places)) =
    both_tied (int_eq a.coefficient b.coefficient) (a.places == b.places) (int_cmp a.coefficient b.coefficient) (nat_cmp a.places b.places) refl (unsigned_ties a.places b.places) in
    inner ∙ inner_ties (compare_ℚ (value_of a) (value_of b)) _ (λ e. compare_ℚ-same _ _ (same_digits a b (inner ∙ e)))

-- two canonical numbers are ordered as their values are
by_value : (x y : ℚ) (r s : Ordering) → IsOrderOf r x y → (x ≡ y → s ≡ Equal) → ordering_then r s ≡ r
by_value x y Less s h e = refl
by_value x y Equal s h e = e h
by_value x y Greater s h e = refl

pub order-by_value : (a b : Bound) → (value_of a ≡ value_of b → a ≡ b) → order a b ≡ compare_ℚ (value_of a) (value_of b)
unfolding order
order-by_value a b one =
    by_value (value_of a) (value_of b) (compare_ℚ (value_of a) (value_of b)) _ (compare_ℚ-says _ _)
    (λ e. subst (λ d. ordering_then (int_cmp a.coefficient d.coefficient) (nat_cmp a.places d.places) ≡ Equal) (one e) (itself a)) where
      itself : (a : Bound) → ordering_then (int_cmp a.coefficient a.coefficient) (nat_cmp a.places a.places) ≡ Equal
      itself a = tied_itself (then_total (on_total (λ (b : Bound). b.coefficient) int_cmp_total) (on_total (λ (b : Bound). b.places) nat_cmp_total)) a
