-- The law is the sum of the groups' parts, and no part is negative.
use Rattle.std.specs.Prelude.{◌≡◌, ℕ, ◌-◌, Bool, true, false, ◌&&◌, List, [], ◌∷◌, pos, refl}
use Rattle.std.proofs.Common.{sym, ◌∙◌, ap, ap₂}
use Rattle.std.proofs.lemmas.Bool.{and_parts}
use Rattle.exact_fraction.specs.Number.{ℚ, of_ℤ, ◌+ℚ◌, ◌*ℚ◌, neg_ℚ, inv_ℚ, is_zero_ℚ, ◌≤ℚ◌, ◌-ℚ◌}
use Rattle.exact_fraction.specs.NumberLaws.{≤ℚ_refl, ≤ℚ_antisym}
use Rattle.exact_fraction.proofs.Quotients.{is_zero_ℚ-≡}
use Rattle.exact_fraction.proofs.OrderLaws.{≤ℚ_right, ≤ℚ_by, ≤ℚ_cancel, ≤ℚ-difference, +ℚ-not_negative, *ℚ-not_negative, square-not_negative}
use Rattle.exact_fraction.proofs.Ring.{Whole, ◌:+◌, ◌:-◌, ◌:*◌, Minus, x0, x1, x2, x3, x4, x5, ring}
use Rattle.exact_fraction.specs.Sums.{total, below}
use Rattle.exact_law.specs.Model.{IsSameTest, unit, once}
use Rattle.exact_law.specs.Law.{Column, Group, Own, Pair, Joint, declared_pair, joint, cell, covariance_in, covariance, law_of, part, IsSound, members, stand_in, AllGroups, IsSoundFor}
use Rattle.exact_fraction.proofs.SumLaws.{total-same, total-zero, total-plus, total-times, total-times_right, total-swap}
use Rattle.exact_law.proofs.Chain.{along-once}
use Rattle.exact_fraction.proofs.Spread.{spread, spread-not_negative}
use Rattle.exact_fraction.proofs.Signs.{not_negative-same, whole-not_negative, inv-not_negative, product_zero}

-- ---- the double sum, linear in the covariances
law_of-zero : {K : Type 0} (inputs : List K) (u w : K → ℚ) → law_of (λ i j. of_ℤ (pos 0)) inputs u w ≡ of_ℤ (pos 0)
unfolding law_of
law_of-zero inputs u w =
    total-same _ (λ i. of_ℤ (pos 0)) inputs
    (λ i. total-same _ (λ j. of_ℤ (pos 0)) inputs
    (λ j. ring (u i ∷ w j ∷ []) (x0 :* x1 :* Whole (pos 0)) (Whole (pos 0)) refl) ∙ total-zero inputs)
    ∙ total-zero inputs

law_of-plus : {K : Type 0} (c d : K → K → ℚ) (inputs : List K) (u w : K → ℚ)
    → law_of (λ i j. c i j +ℚ d i j) inputs u w ≡ law_of c inputs u w +ℚ law_of d inputs u w
unfolding law_of
law_of-plus c d inputs u w =
    total-same _ (λ i. total (λ j. u i *ℚ w j *ℚ c i j) inputs +ℚ total (λ j. u i *ℚ w j *ℚ d i j) inputs) inputs
    (λ i. total-same _ (λ j. (u i *ℚ w j *ℚ c i j) +ℚ (u i *ℚ w j *ℚ d i j)) inputs
    (λ j. ring (u i ∷ w j ∷ c i j ∷ d i j ∷ []) (x0 :* x1 :* (x2 :+ x3)) (x0 :* x1 :* x2 :+ x0 :* x1 :* x3) refl)
    ∙ total-plus (λ j. u i *ℚ w j *ℚ c i j) (λ j. u i *ℚ w j *ℚ d i j) inputs)
    ∙ total-plus _ _ inputs

law_of-total : {K A : Type 0} (c : A → K → K → ℚ) (xs : List A) (inputs : List K) (u w : K → ℚ)
    → law_of (λ i j. total (λ x. c x i j) xs) inputs u w ≡ total (λ x. law_of (c x) inputs u w) xs
unfolding total
law_of-total c [] inputs u w = law_of-zero inputs u w
law_of-total c (x ∷ xs) inputs u w =
    law_of-plus (c x) (λ i j. total (λ y. c y i j) xs) inputs u w
    ∙ ap (λ t. law_of (c x) inputs u w +ℚ t) (law_of-total c xs inputs u w)

law_of-cell : {K : Type 0} (same : K → K → Bool) → IsSameTest same → (a b : K) (c : ℚ) (inputs : List K) (u w : K → ℚ)
    → once same a inputs ≡ true → once same b inputs ≡ true
    → law_of (cell same a b c) inputs u w ≡ u a *ℚ w b *ℚ c
unfolding law_of cell
law_of-cell same law a b c inputs u w a1 b1 =
    total-same _ (λ i. (unit same i a *ℚ u i) *ℚ (c *ℚ w b)) inputs
    (λ i. total-same _ (λ j. (u i *ℚ unit same i a *ℚ c) *ℚ (unit same j b *ℚ w j)) inputs
    (λ j. ring (u i ∷ w j ∷ unit same i a ∷ unit same j b ∷ c ∷ []) (x0 :* x1 :* (x2 :* x3 :* x4)) ((x0 :* x2 :* x4) :* (x3 :* x1)) refl)
    ∙ total-times (u i *ℚ unit same i a *ℚ c) (λ j. unit same j b *ℚ w j) inputs
    ∙ ap (λ t. (u i *ℚ unit same i a *ℚ c) *ℚ t) (along-once same law w b inputs b1)
    ∙ ring (u i ∷ unit same i a ∷ c ∷ w b ∷ []) ((x0 :* x1 :* x2) :* x3) ((x1 :* x0) :* (x2 :* x3)) refl)
    ∙ total-times_right (λ i. unit same i a *ℚ u i) (c *ℚ w b) inputs
    ∙ ap (λ t. t *ℚ (c *ℚ w b)) (along-once same law u a inputs a1)
    ∙ ring (u a ∷ w b ∷ c ∷ []) (x0 :* (x2 :* x1)) (x0 :* x1 :* x2) refl

-- ---- a group's part
total-columns : {K : Type 0} (same : K → K → Bool) (inputs : List K) (f g : Column K → ℚ) (columns : List (Column K))
    → stand_in same inputs (members (Joint 0 columns)) ≡ true
    → ((a : Column K) → once same a.key inputs ≡ true → f a ≡ g a) → total f columns ≡ total g columns
unfolding total stand_in members
total-columns same inputs f g [] h e = refl
total-columns same inputs f g (a ∷ rest) h e =
    ap₂ ◌+ℚ◌ (e a (and_parts _ _ h).0) (total-columns same inputs f g rest (and_parts _ _ h).1 e)

law_of-joint : {K : Type 0} (same : K → K → Bool) → IsSameTest same → (n : ℕ) (columns : List (Column K)) (inputs : List K) (u w : K → ℚ)
    → stand_in same inputs (members (Joint 0 columns)) ≡ true
    → law_of (covariance_in same (Joint n columns)) inputs u w ≡ part (Joint n columns) u w
unfolding covariance_in part
law_of-joint same law n columns inputs u w h =
    law_of-total (λ a i j. total (λ b. cell same a.key b.key (joint n a.reading b.reading) i j) columns) columns inputs u w
    ∙ total-columns same inputs _ _ columns h
    (λ a a1. law_of-total (λ b. cell same a.key b.key (joint n a.reading b.reading)) columns inputs u w
    ∙ total-columns same inputs _ _ columns h
    (λ b b1. law_of-cell same law a.key b.key (joint n a.reading b.reading) inputs u w a1 b1))

law_of-group : {K : Type 0} (same : K → K → Bool) → IsSameTest same → (inputs : List K) (u w : K → ℚ) (g : Group K)
    → stand_in same inputs (members g) ≡ true → law_of (covariance_in same g) inputs u w ≡ part g u w
unfolding covariance_in part stand_in members
law_of-group same law inputs u w (Own k c d) h = law_of-cell same law k k c inputs u w (and_parts _ _ h).0 (and_parts _ _ h).0
law_of-group same law inputs u w (Pair k m v v' c d) h =
    law_of-plus _ _ inputs u w
    ∙ ap₂ ◌+ℚ◌
    (law_of-plus _ _ inputs u w
    ∙ ap₂ ◌+ℚ◌ (law_of-cell same law k k v inputs u w k1 k1) (law_of-cell same law m m v' inputs u w m1 m1))
    (law_of-plus _ _ inputs u w
    ∙ ap₂ ◌+ℚ◌ (law_of-cell same law k m c inputs u w k1 m1) (law_of-cell same law m k c inputs u w m1 k1)) where
      k1 : once same k inputs ≡ true
      k1 = (and_parts (once same k inputs) (once same m inputs && true) h).0

      m1 : once same m inputs ≡ true
      m1 = (and_parts (once same m inputs) true (and_parts (once same k inputs) (once same m inputs && true) h).1).0
law_of-group same law inputs u w (Joint n columns) h = law_of-joint same law n columns inputs u w h

law_of-groups : {K : Type 0} (same : K → K → Bool) → IsSameTest same → (inputs : List K) (u w : K → ℚ) (groups : List (Group K))
    → AllGroups (IsSoundFor same inputs) groups
    → total (λ g. law_of (covariance_in same g) inputs u w) groups ≡ total (λ g. part g u w) groups
unfolding total AllGroups
law_of-groups same law inputs u w [] h = refl
law_of-groups same law inputs u w (g ∷ gs) h =
    ap₂ ◌+ℚ◌ (law_of-group same law inputs u w g (h.0).in_inputs) (law_of-groups same law inputs u w gs h.1)

-- the law is the sum of the parts
pub law_split : {K : Type 0} (same : K → K → Bool) → IsSameTest same → (inputs : List K) (u w : K → ℚ) (groups : List (Group K))
    → AllGroups (IsSoundFor same inputs) groups
    → law_of (covariance same groups) inputs u w ≡ total (λ g. part g u w) groups
unfolding covariance
law_split same law inputs u w groups h =
    law_of-total (covariance_in same) groups inputs u w ∙ law_of-groups same law inputs u w groups h

-- ---- the part of a table is the spread of one column, the sum of its columns by their sensitivities
abbrev joined : {K : Type 0} → List (Column K) → (K → ℚ) → ℕ → ℚ
joined columns u t = total (λ a. u a.key *ℚ a.reading t) columns

joined-total : {K : Type 0} (columns : List (Column K)) (u : K → ℚ) (ts : List ℕ)
    → total (joined columns u) ts ≡ total (λ a. u a.key *ℚ total a.reading ts) columns
joined-total columns u ts =
    total-swap (λ t a. u a.key *ℚ a.reading t) ts columns
    ∙ total-same _ _ columns (λ a. total-times (u a.key) a.reading ts)

-- Σ_a Σ_b f a g b
total-product : {A B : Type 0} (f : A → ℚ) (g : B → ℚ) (xs : List A) (ys : List B)
    → total (λ a. total (λ b. f a *ℚ g b) ys) xs ≡ total f xs *ℚ total g ys
total-product f g xs ys =
    total-same _ (λ a. f a *ℚ total g ys) xs (λ a. total-times (f a) g ys) ∙ total-times_right f (total g ys) xs

joined-squares : {K : Type 0} (columns : List (Column K)) (u : K → ℚ) (ts : List ℕ)
    → total (λ a. total (λ b. total (λ t. (u a.key *ℚ a.reading t) *ℚ (u b.key *ℚ b.reading t)) ts) columns) columns
    ≡ total (λ t. joined columns u t *ℚ joined columns u t) ts
joined-squares columns u ts =
    total-same _ (λ a. total (λ t. total (λ b. (u a.key *ℚ a.reading t) *ℚ (u b.key *ℚ b.reading t)) columns) ts) columns
    (λ a. total-swap (λ b t. (u a.key *ℚ a.reading t) *ℚ (u b.key *ℚ b.reading t)) columns ts)
    ∙ total-swap (λ a t. total (λ b. (u a.key *ℚ a.reading t) *ℚ (u b.key *ℚ b.reading t)) columns) columns ts
    ∙ total-same _ _ ts (λ t. total-product (λ a. u a.key *ℚ a.reading t) (λ b. u b.key *ℚ b.reading t) columns columns)

-- the joint covariance, times two sensitivities, in parts
abbrev scale : ℕ → ℚ
scale n = inv_ℚ (of_ℤ (pos n) *ℚ of_ℤ (pos n) *ℚ of_ℤ (pos (n - 1)))

joint-parts : (n : ℕ) (p q : ℚ) (x y : ℕ → ℚ)
    → p *ℚ q *ℚ joint n x y
    ≡ ((of_ℤ (pos n) *ℚ scale n) *ℚ total (λ t. (p *ℚ x t) *ℚ (q *ℚ y t)) (below n))
    +ℚ (neg_ℚ (scale n) *ℚ ((p *ℚ total x (below n)) *ℚ (q *ℚ total y (below n))))
unfolding joint
joint-parts n p q x y =
    ring (p ∷ q ∷ of_ℤ (pos n) ∷ total (λ t. x t *ℚ y t) (below n) ∷ (total x (below n) *ℚ total y (below n)) ∷ scale n ∷ [])
    (x0 :* x1 :* ((x2 :* x3 :- x4) :* x5)) (((x2 :* x5) :* ((x0 :* x1) :* x3)) :+ (Minus x5 :* ((x0 :* x1) :* x4))) refl
    ∙ ap₂ (λ s t. ((of_ℤ (pos n) *ℚ scale n) *ℚ s) +ℚ (neg_ℚ (scale n) *ℚ t))
    (sym (total-times (p *ℚ q) (λ t. x t *ℚ y t) (below n))
    ∙ total-same _ _ (below n) (λ t. ring (p ∷ q ∷ x t ∷ y t ∷ []) ((x0 :* x1) :* (x2 :* x3)) ((x0 :* x2) :* (x1 :* x3)) refl))
    (ring (p ∷ q ∷ total x (below n) ∷ total y (below n) ∷ []) ((x0 :* x1) :* (x2 :* x3)) ((x0 :* x2) :* (x1 :* x3)) refl)

pub total-linear : {A : Type 0} (k m : ℚ) (f g : A → A → ℚ) (xs ys : List A)
    → total (λ a. total (λ b. (k *ℚ f a b) +ℚ (m *ℚ g a b)) ys) xs
    ≡ (k *ℚ total (λ a. total (λ b. f a b) ys) xs) +ℚ (m *ℚ total (λ a. total (λ b. g a b) ys) xs)
total-linear k m f g xs ys =
    total-same _ (λ a. (k *ℚ total (λ b. f a b) ys) +ℚ (m *ℚ total (λ b. g a b) ys)) xs
    (λ a. total-plus (λ b. k *ℚ f a b) (λ b. m *ℚ g a b) ys ∙ ap₂ ◌+ℚ◌ (total-times k (f a) ys) (total-times m (g a) ys))
    ∙ total-plus (λ a. k *ℚ total (λ b. f a b) ys) (λ a. m *ℚ total (λ b. g a b) ys) xs
    ∙ ap₂ ◌+ℚ◌ (total-times k (λ a. total (λ b. f a b) ys) xs) (total-times m (λ a. total (λ b. g a b) ys) xs)

part-joint : {K : Type 0} (n : ℕ) (columns : List (Column K)) (u : K → ℚ)
    → part (Joint n columns) u u
    ≡ scale n *ℚ spread n (joined columns u) (joined columns u)
unfolding part
part-joint n columns u =
    total-same _ _ columns (λ a. total-same _ _ columns (λ b. joint-parts n (u a.key) (u b.key) a.reading b.reading))
    ∙ total-linear (of_ℤ (pos n) *ℚ scale n) (neg_ℚ (scale n))
    (λ a b. total (λ t. (u a.key *ℚ a.reading t) *ℚ (u b.key *ℚ b.reading t)) (below n))
    (λ a b. (u a.key *ℚ total a.reading (below n)) *ℚ (u b.key *ℚ total b.reading (below n))) columns columns
    ∙ ap₂ (λ s t. ((of_ℤ (pos n) *ℚ scale n) *ℚ s) +ℚ (neg_ℚ (scale n) *ℚ t)) (joined-squares columns u (below n))
    (total-product (λ a. u a.key *ℚ total a.reading (below n)) (λ b. u b.key *ℚ total b.reading (below n)) columns columns
    ∙ sym (ap (λ s. s *ℚ s) (joined-total columns u (below n))))
    ∙ ring (of_ℤ (pos n) ∷ scale n ∷ total (λ t. joined columns u t *ℚ joined columns u t) (below n) ∷ total (joined columns u) (below n) ∷ [])
    ((x0 :* x1) :* x2 :+ Minus x1 :* (x3 :* x3)) (x1 :* (x0 :* x2 :- x3 :* x3)) refl

scale-not_negative : (n : ℕ) → of_ℤ (pos 0) ≤ℚ scale n
scale-not_negative n =
    inv-not_negative _
    (*ℚ-not_negative _ _ (*ℚ-not_negative _ _ (whole-not_negative n) (whole-not_negative n)) (whole-not_negative (n - 1)))

-- ---- the form of two variances and a covariance is not negative
abbrev form : (v w c p q : ℚ) → ℚ
form v w c p q = ((p *ℚ p *ℚ v) +ℚ (q *ℚ q *ℚ w)) +ℚ ((p *ℚ q *ℚ c) +ℚ (q *ℚ p *ℚ c))

square_zero : (c : ℚ) → c *ℚ c ≤ℚ of_ℤ (pos 0) → c ≡ of_ℤ (pos 0)
square_zero c h = by (is_zero_ℚ c) refl where
  by : (b : Bool) → is_zero_ℚ c ≡ b → c ≡ of_ℤ (pos 0)
  by true e = is_zero_ℚ-≡ c e
  by false e = product_zero c c e (≤ℚ_antisym _ _ h (square-not_negative c))

-- v times the form is (p v + q c)² + q² (v w - c²)
form-by_first : (v w c p q : ℚ) → of_ℤ (pos 0) ≤ℚ v → is_zero_ℚ v ≡ false → c *ℚ c ≤ℚ v *ℚ w → of_ℤ (pos 0) ≤ℚ form v w c p q
form-by_first v w c p q v0 n h =
    ≤ℚ_cancel (of_ℤ (pos 0)) (form v w c p q) v v0 n
    (≤ℚ_by (of_ℤ (pos 0) *ℚ v) (form v w c p q *ℚ v)
    (((p *ℚ v +ℚ q *ℚ c) *ℚ (p *ℚ v +ℚ q *ℚ c)) +ℚ ((q *ℚ q) *ℚ ((v *ℚ w) -ℚ (c *ℚ c))))
    (ring (v ∷ w ∷ c ∷ p ∷ q ∷ [])
    ((Whole (pos 0) :* x0) :+ (((x3 :* x0 :+ x4 :* x2) :* (x3 :* x0 :+ x4 :* x2)) :+ ((x4 :* x4) :* ((x0 :* x1) :- (x2 :* x2)))))
    ((((x3 :* x3 :* x0) :+ (x4 :* x4 :* x1)) :+ ((x3 :* x4 :* x2) :+ (x4 :* x3 :* x2))) :* x0) refl)
    (+ℚ-not_negative _ _ (square-not_negative _) (*ℚ-not_negative _ _ (square-not_negative q) (≤ℚ-difference _ _ h))))

form-not_negative : (v w c p q : ℚ) → of_ℤ (pos 0) ≤ℚ v → of_ℤ (pos 0) ≤ℚ w → c *ℚ c ≤ℚ v *ℚ w → of_ℤ (pos 0) ≤ℚ form v w c p q
form-not_negative v w c p q v0 w0 h = by (is_zero_ℚ v) refl where
  flat : v ≡ of_ℤ (pos 0) → of_ℤ (pos 0) ≤ℚ form v w c p q
  flat e =
      let c0 : c ≡ of_ℤ (pos 0) =
      square_zero c (≤ℚ_right _ _ _ (ap (λ t. t *ℚ w) e ∙ ring (w ∷ []) (Whole (pos 0) :* x0) (Whole (pos 0)) refl) h) in
      not_negative-same _ ((q *ℚ q) *ℚ w)
      (ap₂ (λ s t. form s w t p q) e c0
      ∙ ring (w ∷ p ∷ q ∷ [])
      (((x1 :* x1 :* Whole (pos 0)) :+ (x2 :* x2 :* x0)) :+ ((x1 :* x2 :* Whole (pos 0)) :+ (x2 :* x1 :* Whole (pos 0)))) ((x2 :* x2) :* x0) refl)
      (*ℚ-not_negative _ w (square-not_negative q) w0)

  by : (b : Bool) → is_zero_ℚ v ≡ b → of_ℤ (pos 0) ≤ℚ form v w c p q
  by true e = flat (is_zero_ℚ-≡ v e)
  by false e = form-by_first v w c p q v0 e h

-- ---- no part is negative
pub part-not_negative : {K : Type 0} (g : Group K) (u : K → ℚ) → IsSound g → of_ℤ (pos 0) ≤ℚ part g u u
unfolding part IsSound
part-not_negative (Own k c d) u h = *ℚ-not_negative _ c (square-not_negative (u k)) h.0
part-not_negative (Pair k m v w c d) u h = form-not_negative v w c (u k) (u m) h.0 h.1 h.2
part-not_negative (Joint n columns) u h =
    not_negative-same _ _ (part-joint n columns u)
    (*ℚ-not_negative _ _ (scale-not_negative n) (spread-not_negative (joined columns u) n))

-- ---- a declared correlation coefficient
pub declared_sound : {K : Type 0} (k m : K) (r a b : ℚ) → neg_ℚ (of_ℤ (pos 1)) ≤ℚ r → r ≤ℚ of_ℤ (pos 1) → IsSound (declared_pair k m r a b)
unfolding IsSound
declared_sound k m r a b low high = (
  square-not_negative a,
  square-not_negative b,
  ≤ℚ_by ((r *ℚ (a *ℚ b)) *ℚ (r *ℚ (a *ℚ b))) ((a *ℚ a) *ℚ (b *ℚ b))
      (((of_ℤ (pos 1) -ℚ r) *ℚ (r -ℚ neg_ℚ (of_ℤ (pos 1)))) *ℚ ((a *ℚ b) *ℚ (a *ℚ b)))
      (ring (r ∷ a ∷ b ∷ [])
      (((x0 :* (x1 :* x2)) :* (x0 :* (x1 :* x2))) :+ (((Whole (pos 1) :- x0) :* (x0 :- Minus (Whole (pos 1)))) :* ((x1 :* x2) :* (x1 :* x2))))
      ((x1 :* x1) :* (x2 :* x2)) refl)
      (*ℚ-not_negative _ _ (*ℚ-not_negative _ _ (≤ℚ-difference r _ high) (≤ℚ-difference _ r low)) (square-not_negative (a *ℚ b))),
  ≤ℚ_refl _,
)
