-- The law is symmetric, linear in the sensitivities and not negative, so the square of a covariance is
-- at most the product of the variances.
use Rattle.std.specs.Prelude.{◌≡◌, ℕ, ◌-◌, Bool, true, false, List, [], ◌∷◌, pos, refl}
use Rattle.std.proofs.Common.{sym, ◌∙◌, ap, ap₂}
use Rattle.exact_fraction.specs.Number.{ℚ, of_ℤ, ◌+ℚ◌, ◌*ℚ◌, ◌/ℚ◌, neg_ℚ, is_zero_ℚ, ◌≤ℚ◌, ◌-ℚ◌}
use Rattle.exact_fraction.specs.NumberLaws.{≤ℚ_refl}
use Rattle.exact_fraction.proofs.Quotients.{is_zero_ℚ-≡}
use Rattle.exact_fraction.proofs.OrderLaws.{≤ℚ_right, ≤ℚ_by, ≤ℚ_cancel, +ℚ-not_negative, *ℚ-not_negative, square-not_negative}
use Rattle.exact_fraction.proofs.Ring.{Var, Whole, ◌:+◌, ◌:-◌, ◌:*◌, Minus, x0, x1, x2, x3, x4, x5, ring}
use Rattle.exact_fraction.specs.Sums.{total, below}
use Rattle.exact_law.specs.Model.{IsSameTest}
use Rattle.exact_law.specs.Law.{Group, Own, Pair, Joint, joint, covariance, law_of, part, AllGroups, IsSoundFor}
use Rattle.exact_fraction.proofs.SumLaws.{total-same, total-swap}
use Rattle.exact_fraction.proofs.Signs.{not_negative-same, whole-not_negative}
use Rattle.exact_law.proofs.Split.{total-linear, law_split, part-not_negative}

-- ---- symmetric
pub joint-sym : (n : ℕ) (q r : ℕ → ℚ) → joint n q r ≡ joint n r q
unfolding joint
joint-sym n q r =
    ap₂ (λ s t. ((of_ℤ (pos n) *ℚ s) -ℚ t) /ℚ (of_ℤ (pos n) *ℚ of_ℤ (pos n) *ℚ of_ℤ (pos (n - 1))))
    (total-same _ _ (below n) (λ t. ring (q t ∷ r t ∷ []) (x0 :* x1) (x1 :* x0) refl))
    (ring (total q (below n) ∷ total r (below n) ∷ []) (x0 :* x1) (x1 :* x0) refl)

part-sym : {K : Type 0} (g : Group K) (u w : K → ℚ) → part g u w ≡ part g w u
unfolding part
part-sym (Own k c d) u w = ring (u k ∷ w k ∷ c ∷ []) (x0 :* x1 :* x2) (x1 :* x0 :* x2) refl
part-sym (Pair k m v v' c d) u w =
    ring (u k ∷ u m ∷ w k ∷ w m ∷ c ∷ v ∷ v' ∷ [])
    ((x0 :* x2 :* x5 :+ x1 :* x3 :* Var 6) :+ (x0 :* x3 :* x4 :+ x1 :* x2 :* x4))
    ((x2 :* x0 :* x5 :+ x3 :* x1 :* Var 6) :+ (x2 :* x1 :* x4 :+ x3 :* x0 :* x4)) refl
part-sym (Joint n columns) u w =
    total-swap (λ a b. u a.key *ℚ w b.key *ℚ joint n a.reading b.reading) columns columns
    ∙ total-same _ _ columns
    (λ b. total-same _ _ columns
    (λ a. ap (λ t. u a.key *ℚ w b.key *ℚ t) (joint-sym n a.reading b.reading)
    ∙ ring (u a.key ∷ w b.key ∷ joint n b.reading a.reading ∷ []) (x0 :* x1 :* x2) (x1 :* x0 :* x2) refl))

pub law_of-sym : {K : Type 0} (same : K → K → Bool) → IsSameTest same → (inputs : List K) (groups : List (Group K)) (u w : K → ℚ)
    → AllGroups (IsSoundFor same inputs) groups
    → law_of (covariance same groups) inputs u w ≡ law_of (covariance same groups) inputs w u
law_of-sym same law inputs groups u w h =
    law_split same law inputs u w groups h ∙ total-same _ _ groups (λ g. part-sym g u w)
    ∙ sym (law_split same law inputs w u groups h)

-- ---- linear
law_of-left : {K : Type 0} (c : K → K → ℚ) (inputs : List K) (s t : ℚ) (u w x : K → ℚ)
    → law_of c inputs (λ i. (s *ℚ u i) +ℚ (t *ℚ w i)) x ≡ (s *ℚ law_of c inputs u x) +ℚ (t *ℚ law_of c inputs w x)
unfolding law_of
law_of-left c inputs s t u w x =
    total-same _ _ inputs
    (λ i. total-same _ (λ j. (s *ℚ (u i *ℚ x j *ℚ c i j)) +ℚ (t *ℚ (w i *ℚ x j *ℚ c i j))) inputs
    (λ j. ring (s ∷ t ∷ u i ∷ w i ∷ (x j *ℚ c i j) ∷ x j ∷ c i j ∷ [])
    ((x0 :* x2 :+ x1 :* x3) :* x5 :* Var 6) (x0 :* (x2 :* x5 :* Var 6) :+ x1 :* (x3 :* x5 :* Var 6)) refl))
    ∙ total-linear s t (λ i j. u i *ℚ x j *ℚ c i j) (λ i j. w i *ℚ x j *ℚ c i j) inputs inputs

law_of-right : {K : Type 0} (c : K → K → ℚ) (inputs : List K) (s t : ℚ) (u w x : K → ℚ)
    → law_of c inputs x (λ i. (s *ℚ u i) +ℚ (t *ℚ w i)) ≡ (s *ℚ law_of c inputs x u) +ℚ (t *ℚ law_of c inputs x w)
unfolding law_of
law_of-right c inputs s t u w x =
    total-same _ _ inputs
    (λ i. total-same _ (λ j. (s *ℚ (x i *ℚ u j *ℚ c i j)) +ℚ (t *ℚ (x i *ℚ w j *ℚ c i j))) inputs
    (λ j. ring (s ∷ t ∷ u j ∷ w j ∷ x i ∷ c i j ∷ [])
    (x4 :* (x0 :* x2 :+ x1 :* x3) :* x5) (x0 :* (x4 :* x2 :* x5) :+ x1 :* (x4 :* x3 :* x5)) refl))
    ∙ total-linear s t (λ i j. x i *ℚ u j *ℚ c i j) (λ i j. x i *ℚ w j *ℚ c i j) inputs inputs

-- ---- not negative
total-parts : {K : Type 0} (same : K → K → Bool) (inputs : List K) (u : K → ℚ) (groups : List (Group K))
    → AllGroups (IsSoundFor same inputs) groups → of_ℤ (pos 0) ≤ℚ total (λ g. part g u u) groups
unfolding total AllGroups
total-parts same inputs u [] h = ≤ℚ_refl _
total-parts same inputs u (g ∷ gs) h =
    +ℚ-not_negative _ _ (part-not_negative g u (h.0).sound) (total-parts same inputs u gs h.1)

pub law-not_negative : {K : Type 0} (same : K → K → Bool) → IsSameTest same → (inputs : List K) (groups : List (Group K)) (u : K → ℚ)
    → AllGroups (IsSoundFor same inputs) groups → of_ℤ (pos 0) ≤ℚ law_of (covariance same groups) inputs u u
law-not_negative same law inputs groups u h =
    not_negative-same _ _ (law_split same law inputs u u groups h) (total-parts same inputs u groups h)

-- ---- a quadratic form that is not negative
abbrev form : ℚ → ℚ → ℚ → ℚ → ℚ → ℚ
form a b c s t = (s *ℚ s *ℚ a) +ℚ (of_ℤ (pos 2) *ℚ (s *ℚ t *ℚ b)) +ℚ (t *ℚ t *ℚ c)

discriminant : (a b c : ℚ) → ((s t : ℚ) → of_ℤ (pos 0) ≤ℚ form a b c s t) → b *ℚ b ≤ℚ a *ℚ c
discriminant a b c h = by (is_zero_ℚ c) refl where
  a0 : of_ℤ (pos 0) ≤ℚ a
  a0 =
      ≤ℚ_right (of_ℤ (pos 0)) (form a b c (of_ℤ (pos 1)) (of_ℤ (pos 0))) a
      (ring (a ∷ b ∷ c ∷ [])
      (Whole (pos 1) :* Whole (pos 1) :* x0 :+ Whole (pos 2) :* (Whole (pos 1) :* Whole (pos 0) :* x1) :+ Whole (pos 0) :* Whole (pos 0) :* x2) x0 refl)
      (h (of_ℤ (pos 1)) (of_ℤ (pos 0)))

  c0 : of_ℤ (pos 0) ≤ℚ c
  c0 =
      ≤ℚ_right (of_ℤ (pos 0)) (form a b c (of_ℤ (pos 0)) (of_ℤ (pos 1))) c
      (ring (a ∷ b ∷ c ∷ [])
      (Whole (pos 0) :* Whole (pos 0) :* x0 :+ Whole (pos 2) :* (Whole (pos 0) :* Whole (pos 1) :* x1) :+ Whole (pos 1) :* Whole (pos 1) :* x2) x2 refl)
      (h (of_ℤ (pos 0)) (of_ℤ (pos 1)))

  -- at s = b, t = -(a + 1) the form is -b² (a + 2), and b² (a + 2) is at least b²
  flat : c ≡ of_ℤ (pos 0) → b *ℚ b ≤ℚ a *ℚ c
  flat e =
      ≤ℚ_by (b *ℚ b) (a *ℚ c)
      (form a b c b (neg_ℚ (a +ℚ of_ℤ (pos 1))) +ℚ ((b *ℚ b) *ℚ (a +ℚ of_ℤ (pos 1))))
      (ap (λ z. (b *ℚ b) +ℚ (form a b z b (neg_ℚ (a +ℚ of_ℤ (pos 1))) +ℚ ((b *ℚ b) *ℚ (a +ℚ of_ℤ (pos 1))))) e
      ∙ ring (a ∷ b ∷ [])
      ((x1 :* x1) :+ ((x1 :* x1 :* x0 :+ Whole (pos 2) :* (x1 :* Minus (x0 :+ Whole (pos 1)) :* x1) :+ Minus (x0 :+ Whole (pos 1)) :* Minus (x0 :+ Whole (pos 1)) :* Whole (pos 0))
      :+ ((x1 :* x1) :* (x0 :+ Whole (pos 1)))))
      (x0 :* Whole (pos 0)) refl
      ∙ sym (ap (λ z. a *ℚ z) e))
      (+ℚ-not_negative _ _ (h b (neg_ℚ (a +ℚ of_ℤ (pos 1))))
      (*ℚ-not_negative _ _ (square-not_negative b) (+ℚ-not_negative _ _ a0 (whole-not_negative 1))))

  by : (z : Bool) → is_zero_ℚ c ≡ z → b *ℚ b ≤ℚ a *ℚ c
  by true e = flat (is_zero_ℚ-≡ c e)
  by false e =
      ≤ℚ_cancel (b *ℚ b) (a *ℚ c) c c0 e
      (≤ℚ_by ((b *ℚ b) *ℚ c) ((a *ℚ c) *ℚ c) (form a b c c (neg_ℚ b))
      (ring (a ∷ b ∷ c ∷ [])
      (((x1 :* x1) :* x2) :+ (x2 :* x2 :* x0 :+ Whole (pos 2) :* (x2 :* Minus x1 :* x1) :+ Minus x1 :* Minus x1 :* x2))
      ((x0 :* x2) :* x2) refl)
      (h c (neg_ℚ b)))

-- the form of two vectors of sensitivities is the law of their sum
law_of-form : {K : Type 0} (same : K → K → Bool) → IsSameTest same → (inputs : List K) (groups : List (Group K)) (u w : K → ℚ)
    → AllGroups (IsSoundFor same inputs) groups → (s t : ℚ)
    → form (law_of (covariance same groups) inputs u u) (law_of (covariance same groups) inputs u w) (law_of (covariance same groups) inputs w w) s t
    ≡ law_of (covariance same groups) inputs (λ i. (s *ℚ u i) +ℚ (t *ℚ w i)) (λ i. (s *ℚ u i) +ℚ (t *ℚ w i))
law_of-form {K = K} same law inputs groups u w h s t =
    sym
    (law_of-left c inputs s t u w (λ i. (s *ℚ u i) +ℚ (t *ℚ w i))
    ∙ ap₂ (λ p q. (s *ℚ p) +ℚ (t *ℚ q)) (law_of-right c inputs s t u w u) (law_of-right c inputs s t u w w)
    ∙ ap (λ p. (s *ℚ ((s *ℚ law_of c inputs u u) +ℚ (t *ℚ law_of c inputs u w))) +ℚ (t *ℚ ((s *ℚ p) +ℚ (t *ℚ law_of c inputs w w))))
    (law_of-sym same law inputs groups w u h)
    ∙ ring (s ∷ t ∷ law_of c inputs u u ∷ law_of c inputs u w ∷ law_of c inputs w w ∷ [])
    (x0 :* (x0 :* x2 :+ x1 :* x3) :+ x1 :* (x0 :* x3 :+ x1 :* x4))
    (x0 :* x0 :* x2 :+ Whole (pos 2) :* (x0 :* x1 :* x3) :+ x1 :* x1 :* x4) refl) where
      c : K → K → ℚ
      c = covariance same groups

-- the square of a covariance is at most the product of the variances
pub law_schwarz : {K : Type 0} (same : K → K → Bool) → IsSameTest same → (inputs : List K) (groups : List (Group K)) (u w : K → ℚ)
    → AllGroups (IsSoundFor same inputs) groups
    → law_of (covariance same groups) inputs u w *ℚ law_of (covariance same groups) inputs u w
    ≤ℚ law_of (covariance same groups) inputs u u *ℚ law_of (covariance same groups) inputs w w
law_schwarz same law inputs groups u w h =
    discriminant _ _ _
    (λ s t. not_negative-same _ _ (law_of-form same law inputs groups u w h s t)
    (law-not_negative same law inputs groups (λ i. (s *ℚ u i) +ℚ (t *ℚ w i)) h))

-- the variance of k u - m w
pub law_difference : {K : Type 0} (same : K → K → Bool) → IsSameTest same → (inputs : List K) (groups : List (Group K)) (u w : K → ℚ) (k m : ℚ)
    → AllGroups (IsSoundFor same inputs) groups
    → of_ℤ (pos 0)
    ≤ℚ ((k *ℚ k *ℚ law_of (covariance same groups) inputs u u) +ℚ (m *ℚ m *ℚ law_of (covariance same groups) inputs w w))
    -ℚ (of_ℤ (pos 2) *ℚ (k *ℚ m *ℚ law_of (covariance same groups) inputs u w))
law_difference same law inputs groups u w k m h =
    not_negative-same _
    (form (law_of (covariance same groups) inputs u u) (law_of (covariance same groups) inputs u w) (law_of (covariance same groups) inputs w w) k (neg_ℚ m))
    (ring (k ∷ m ∷ law_of (covariance same groups) inputs u u ∷ law_of (covariance same groups) inputs u w ∷ law_of (covariance same groups) inputs w w ∷ [])
    (((x0 :* x0 :* x2) :+ (x1 :* x1 :* x4)) :- (Whole (pos 2) :* (x0 :* x1 :* x3)))
    (((x0 :* x0 :* x2) :+ (Whole (pos 2) :* (x0 :* Minus x1 :* x3))) :+ (Minus x1 :* Minus x1 :* x4)) refl)
    (not_negative-same _ _ (law_of-form same law inputs groups u w h k (neg_ℚ m))
    (law-not_negative same law inputs groups (λ i. (k *ℚ u i) +ℚ (neg_ℚ m *ℚ w i)) h))
