-- Terms enclose those of the double sum.
use Rattle.std.specs.Prelude.{◌≡◌, List, [], ◌∷◌, ◌++◌, map, Option, Some, pos, refl}
use Rattle.std.proofs.Common.{◌∙◌, ap, ap₂, sym}
use Rattle.exact_fraction.specs.Number.{ℚ, of_ℤ, ◌+ℚ◌, ◌*ℚ◌}
use Rattle.exact_fraction.specs.Sums.{total}
use Rattle.exact_fraction.proofs.Ring.{ring, Whole, ◌:+◌, ◌:*◌, x0, x1, x2, x3}
use Rattle.exact_fraction.proofs.SumLaws.{total-same, total-plus, total-append}
use Rattle.exact_law.proofs.RenamingLaws.{total-map}
use Rattle.fixed_interval.specs.Interval.{Interval, Encloses}
use Rattle.fixed_interval.specs.Rules.{product_span, square_span}
use Rattle.fixed_interval.specs.Sums.{Holds, AllHold}
use Rattle.fixed_interval.proofs.Enclosures.{whole_encloses}
use Rattle.fixed_interval.proofs.Inclusions.{square_span_encloses}
use Rattle.fixed_interval.proofs.Sums.{some_holds, product_holds, all_append, all_map}
use Rattle.covariance.specs.Variances.{two_span, joint_term, twice_term, terms, cross_terms}

-- the exact terms
pub exact_terms : {X : Type 0} → (X → ℚ) → (X → X → ℚ) → List X → List ℚ
exact_terms u k [] = []
exact_terms u k (x ∷ xs) =
    ((u x *ℚ u x) *ℚ k x x) ∷ (map (λ y. of_ℤ (pos 2) *ℚ ((u x *ℚ u y) *ℚ k x y)) xs ++ exact_terms u k xs)

pub exact_cross_terms : {X : Type 0} → (X → ℚ) → (X → ℚ) → (X → X → ℚ) → List X → List X → List ℚ
exact_cross_terms u w k ys [] = []
exact_cross_terms u w k ys (x ∷ xs) = map (λ y. (u x *ℚ w y) *ℚ k x y) ys ++ exact_cross_terms u w k ys xs

-- ---- enclosed
joint_holds : (a b : Interval) (c : Option Interval) (x y k : ℚ) → Encloses a x → Encloses b y → Holds c k → Holds (joint_term a b c) ((x *ℚ y) *ℚ k)
joint_holds a b c x y k h i j = product_holds (product_span a b) c (x *ℚ y) k (product_holds (Some a) (Some b) x y h i) j

square_holds : (s : Interval) (q : ℚ) → Encloses s q → Holds (square_span s) (q *ℚ q)
square_holds s q h = some_holds (square_span s) _ (λ t e. square_span_encloses s t e q h)

pub terms_hold : {X : Type 0} (a : X → Interval) (u : X → ℚ) (c : X → X → Option Interval) (k : X → X → ℚ)
    → ((x : X) → Encloses (a x) (u x)) → ((x y : X) → Holds (c x y) (k x y)) → (xs : List X)
    → AllHold (terms a c xs) (exact_terms u k xs)
unfolding exact_terms
terms_hold a u c k h g [] = tt
terms_hold a u c k h g (x ∷ xs) = (
  product_holds (square_span (a x)) (c x x) (u x *ℚ u x) (k x x) (square_holds (a x) (u x) (h x)) (g x x),
  all_append (map (λ y. twice_term (a x) (a y) (c x y)) xs) (terms a c xs)
      (map (λ y. of_ℤ (pos 2) *ℚ ((u x *ℚ u y) *ℚ k x y)) xs) (exact_terms u k xs)
      (all_map _ _ xs
      (λ y. product_holds (Some two_span) _ (of_ℤ (pos 2)) _ (whole_encloses (pos 2)) (joint_holds (a x) (a y) (c x y) _ _ _ (h x) (h y) (g x y))))
      (terms_hold a u c k h g xs),
)

pub cross_terms_hold : {X : Type 0} (a b : X → Interval) (u w : X → ℚ) (c : X → X → Option Interval) (k : X → X → ℚ)
    → ((x : X) → Encloses (a x) (u x)) → ((x : X) → Encloses (b x) (w x)) → ((x y : X) → Holds (c x y) (k x y)) → (ys xs : List X)
    → AllHold (cross_terms a b c ys xs) (exact_cross_terms u w k ys xs)
unfolding exact_cross_terms
cross_terms_hold a b u w c k h i g ys [] = tt
cross_terms_hold a b u w c k h i g ys (x ∷ xs) =
    all_append (map (λ y. joint_term (a x) (b y) (c x y)) ys) (cross_terms a b c ys xs)
    (map (λ y. (u x *ℚ w y) *ℚ k x y) ys) (exact_cross_terms u w k ys xs)
    (all_map _ _ ys (λ y. joint_holds (a x) (b y) (c x y) _ _ _ (h x) (i y) (g x y)))
    (cross_terms_hold a b u w c k h i g ys xs)

-- ---- they come to the double sum
pub triangle : {X : Type 0} (u : X → ℚ) (k : X → X → ℚ) → ((x y : X) → k x y ≡ k y x) → (xs : List X)
    → total (λ q. q) (exact_terms u k xs) ≡ total (λ x. total (λ y. u x *ℚ u y *ℚ k x y) xs) xs
unfolding total exact_terms
triangle u k s [] = refl
triangle u k s (x ∷ xs) =
    ap (λ t. ((u x *ℚ u x) *ℚ k x x) +ℚ t)
    (total-append (λ q. q) (map (λ y. of_ℤ (pos 2) *ℚ ((u x *ℚ u y) *ℚ k x y)) xs) (exact_terms u k xs)
    ∙ ap₂ ◌+ℚ◌
    (total-map (λ y. of_ℤ (pos 2) *ℚ ((u x *ℚ u y) *ℚ k x y)) (λ q. q) xs
    ∙ total-same _ (λ y. (u x *ℚ u y *ℚ k x y) +ℚ (u y *ℚ u x *ℚ k y x)) xs
    (λ y. ring (u x ∷ u y ∷ k x y ∷ []) (Whole (pos 2) :* ((x0 :* x1) :* x2)) ((x0 :* x1 :* x2) :+ (x1 :* x0 :* x2)) refl
    ∙ ap (λ t. (u x *ℚ u y *ℚ k x y) +ℚ (u y *ℚ u x *ℚ t)) (s x y))
    ∙ total-plus (λ y. u x *ℚ u y *ℚ k x y) (λ y. u y *ℚ u x *ℚ k y x) xs)
    (triangle u k s xs))
    ∙ ring ((u x *ℚ u x *ℚ k x x) ∷ total (λ y. u x *ℚ u y *ℚ k x y) xs ∷ total (λ y. u y *ℚ u x *ℚ k y x) xs
    ∷ total (λ z. total (λ y. u z *ℚ u y *ℚ k z y) xs) xs ∷ []) (x0 :+ ((x1 :+ x2) :+ x3)) ((x0 :+ x1) :+ (x2 :+ x3)) refl
    ∙ ap (λ t. ((u x *ℚ u x *ℚ k x x) +ℚ total (λ y. u x *ℚ u y *ℚ k x y) xs) +ℚ t)
    (sym (total-plus (λ z. u z *ℚ u x *ℚ k z x) (λ z. total (λ y. u z *ℚ u y *ℚ k z y) xs) xs))

pub rectangle : {X : Type 0} (u w : X → ℚ) (k : X → X → ℚ) (ys xs : List X)
    → total (λ q. q) (exact_cross_terms u w k ys xs) ≡ total (λ x. total (λ y. u x *ℚ w y *ℚ k x y) ys) xs
unfolding total exact_cross_terms
rectangle u w k ys [] = refl
rectangle u w k ys (x ∷ xs) =
    total-append (λ q. q) (map (λ y. (u x *ℚ w y) *ℚ k x y) ys) (exact_cross_terms u w k ys xs)
    ∙ ap₂ ◌+ℚ◌ (total-map (λ y. (u x *ℚ w y) *ℚ k x y) (λ q. q) ys) (rectangle u w k ys xs)
