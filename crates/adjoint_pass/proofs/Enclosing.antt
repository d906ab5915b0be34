-- The spans of sensitivities enclose whatever solves the equations of the exact ones.
use Rattle.std.specs.Prelude.{◌≡◌, ℕ, zero, suc, Bool, true, false, cond, if◌then◌else◌, List, [], ◌∷◌, map, filter, length, Option, Some, pos, refl}
use Rattle.std.specs.List.{AllByRecursion}
use Rattle.std.proofs.Common.{sym, ◌∙◌, ap, subst}
use Rattle.exact_fraction.specs.Number.{ℚ, of_ℤ, ◌+ℚ◌, ◌*ℚ◌}
use Rattle.exact_fraction.specs.Sums.{total}
use Rattle.exact_fraction.proofs.Ring.{ring, Whole, ◌:+◌, ◌:*◌, x0, x1}
use Rattle.exact_law.specs.Model.{IsSameTest, unit}
use Rattle.fixed_interval.specs.Interval.{Interval, Encloses, point_span}
use Rattle.fixed_interval.specs.Rules.{one_bound, product_span}
use Rattle.fixed_interval.specs.Sums.{both, sum_of, Holds, AllHold}
use Rattle.fixed_interval.proofs.Enclosures.{one_encloses}
use Rattle.fixed_interval.proofs.Sums.{product_holds, sum_of_holds}
use Rattle.adjoint_pass.specs.Sweep.{Node, users, terms, sensitivity_through, sensitivity}

-- the node's spans enclose the partial derivatives d, which are 0 by what it does not use
pub record HasPartials {K : Type 0} (m : Node K) (d : K → ℚ) : Type 0 where
  pub unused : (n : K) → m.uses n ≡ false → d n ≡ of_ℤ (pos 0)
  pub enclosed : (n : K) → Holds (m.part n) (d n)

-- what nodes bring to n, where a has their exact sensitivities and d their exact partial derivatives
abbrev pub brought_by : {X K : Type 0} → (X → Node K) → (X → K → ℚ) → List X → (K → ℚ) → K → ℚ
brought_by node d xs a n = total (λ x. a (node x).key *ℚ d x n) xs

-- the sum over those that use n
abbrev brought_by_users : {X K : Type 0} → (X → Node K) → (X → K → ℚ) → List X → (K → ℚ) → K → List ℚ
brought_by_users node d xs a n = map (λ x. a (node x).key *ℚ d x n) (filter (λ x. (node x).uses n) xs)

users_bring_all : {X K : Type 0} (node : X → Node K) (d : X → K → ℚ) (xs : List X) → AllByRecursion (λ x. HasPartials (node x) (d x)) xs
    → (a : K → ℚ) (n : K) → total (λ q. q) (brought_by_users node d xs a n) ≡ brought_by node d xs a n
unfolding total
users_bring_all node d [] h a n = refl
users_bring_all node d (x ∷ xs) h a n = by ((node x).uses n) refl (users_bring_all node d xs h.1 a n) where
  by : (b : Bool) → (node x).uses n ≡ b → total (λ q. q) (brought_by_users node d xs a n) ≡ brought_by node d xs a n
      → total (λ q. q) (map (λ z. a (node z).key *ℚ d z n) (cond b (x ∷ filter (λ z. (node z).uses n) xs) (filter (λ z. (node z).uses n) xs)))
      ≡ a (node x).key *ℚ d x n +ℚ brought_by node d xs a n
  by true e rest = ap (λ t. a (node x).key *ℚ d x n +ℚ t) rest
  by false e rest =
      rest ∙ ring (a (node x).key ∷ brought_by node d xs a n ∷ []) x1 (x0 :* Whole (pos 0) :+ x1) refl
      ∙ ap (λ t. a (node x).key *ℚ t +ℚ brought_by node d xs a n) (sym ((h.0).unused n e))

terms_hold : {X K : Type 0} (node : X → Node K) (d : X → K → ℚ) (xs : List X) → AllByRecursion (λ x. HasPartials (node x) (d x)) xs
    → (f : K → Option Interval) (a : K → ℚ) → ((n : K) → Holds (f n) (a n)) → (n : K)
    → AllHold (terms f n (map node xs)) (brought_by_users node d xs a n)
terms_hold node d [] h f a all n = tt
terms_hold node d (x ∷ xs) h f a all n = by ((node x).uses n) (terms_hold node d xs h.1 f a all n) where
  by : (b : Bool) → AllHold (terms f n (map node xs)) (brought_by_users node d xs a n)
      → AllHold (map (λ m. both (f m.key) (m.part n) product_span) (cond b (node x ∷ users n (map node xs)) (users n (map node xs))))
      (map (λ z. a (node z).key *ℚ d z n) (cond b (x ∷ filter (λ z. (node z).uses n) xs) (filter (λ z. (node z).uses n) xs)))
  by true rest = (product_holds _ _ _ _ (all (node x).key) ((h.0).enclosed n), rest)
  by false rest = rest

sum_holds : {X K : Type 0} (node : X → Node K) (d : X → K → ℚ) (xs : List X) → AllByRecursion (λ x. HasPartials (node x) (d x)) xs
    → (f : K → Option Interval) (a : K → ℚ) → ((n : K) → Holds (f n) (a n)) → (n : K)
    → Holds (sum_of (terms f n (map node xs))) (brought_by node d xs a n)
sum_holds node d xs h f a all n =
    subst (Holds (sum_of (terms f n (map node xs)))) (users_bring_all node d xs h a n)
    (sum_of_holds (terms f n (map node xs)) (brought_by_users node d xs a n) (terms_hold node d xs h f a all n))

-- turn by turn, whatever the order of the nodes
through_holds : {X K : Type 0} (same : K → K → Bool) → IsSameTest same → (node : X → Node K) (d : X → K → ℚ) (xs : List X)
    → AllByRecursion (λ x. HasPartials (node x) (d x)) xs → (y : K) (a : K → ℚ) → a y ≡ of_ℤ (pos 1)
    → ((n : K) → a n ≡ unit same n y +ℚ brought_by node d xs a n)
    → (k : ℕ) (n : K) → Holds (sensitivity_through same (map node xs) y k n) (a n)
unfolding unit
through_holds same law node d xs h y a one backward zero n = tt
through_holds same law node d xs h y a one backward (suc k) n =
    by (same n y) refl (λ m. through_holds same law node d xs h y a one backward k m) where
      by : (b : Bool) → same n y ≡ b → ((m : _) → Holds (sensitivity_through same (map node xs) y k m) (a m))
          → Holds (if b then Some (point_span one_bound) else sum_of (terms (sensitivity_through same (map node xs) y k) n (map node xs))) (a n)
      by true e all = subst (Encloses (point_span one_bound)) (sym one ∙ ap a (sym (law.sound n y e))) one_encloses
      by false e all =
          subst (Holds (sum_of (terms (sensitivity_through same (map node xs) y k) n (map node xs))))
          (ring (brought_by node d xs a n ∷ []) x0 (Whole (pos 0) :+ x0) refl
          ∙ ap (λ b. cond b (of_ℤ (pos 1)) (of_ℤ (pos 0)) +ℚ brought_by node d xs a n) (sym e) ∙ sym (backward n))
          (sum_holds node d xs h _ a all n)

pub sensitivity_holds : {X K : Type 0} (same : K → K → Bool) → IsSameTest same → (node : X → Node K) (d : X → K → ℚ) (xs : List X)
    → AllByRecursion (λ x. HasPartials (node x) (d x)) xs → (y : K) (a : K → ℚ) → a y ≡ of_ℤ (pos 1)
    → ((n : K) → a n ≡ unit same n y +ℚ brought_by node d xs a n)
    → (n : K) → Holds (sensitivity same (map node xs) y n) (a n)
unfolding sensitivity
sensitivity_holds same law node d xs h y a one backward n = through_holds same law node d xs h y a one backward (suc (length (map node xs))) n
