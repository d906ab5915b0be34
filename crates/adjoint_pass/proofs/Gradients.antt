-- The whole gradient of a quantity: the sensitivities to what it depends on, and 0 to all else.
use Rattle.std.specs.Prelude.{◌≡◌, Bool, true, false, cond, if◌then◌else◌, List, [], ◌∷◌, map, filter, reverse, is_some, Option, Some, None, refl}
use Rattle.std.specs.Prelude.{◌⊎◌}
use Rattle.std.specs.List.{AllByRecursion, list_any, list_all}
use Rattle.std.specs.Option.{unwrap_or}
use Rattle.std.proofs.Common.{sym, ◌∙◌, ap, subst, inl, inr}
use Rattle.std.proofs.lemmas.Bool.{true≢false, and_parts, or_cases, false_from_ne_true}
use Rattle.exact_fraction.specs.Number.{ℚ}
use Rattle.exact_law.specs.Model.{Input as ModelInput, IsSameTest, exact_slope, body_of as model_body_of}
use Rattle.fixed_interval.specs.Interval.{Interval, Encloses, point_span}
use Rattle.fixed_interval.specs.Rules.{one_bound, product_span}
use Rattle.fixed_interval.specs.Sums.{both, sum_of, zero_span, Holds}
use Rattle.value_cache.specs.Quantities.{Body, Quantity, body_of, is_there}
use Rattle.value_cache.specs.Evaluable.{AreInOrder}
use Rattle.value_cache.specs.Model.{model_of, AllHaveExponents}
use Rattle.value_cache.proofs.Sound.{model_bodies, model-body_of}
use Rattle.adjoint_pass.specs.Sweep.{users, terms}
use Rattle.adjoint_pass.specs.Sensitivities.{uses_of, node_of, span_at, nodes_of, depends_on, cone_of, sensitivity_of, has_gradient, gradient_of, AllKeepNamesApart}
use Rattle.adjoint_pass.proofs.Lists.{all_passing, all_mapped, all_unmapped, filter-none}
use Rattle.adjoint_pass.proofs.Order.{reversed, uses_there}
use Rattle.adjoint_pass.proofs.Equations.{sensitivity_of-solves, depends_on-closed}
use Rattle.adjoint_pass.proofs.Cones.{outside_unused}
use Rattle.adjoint_pass.proofs.Enclosed.{cone_quantities, cone_of-map, depends_on-itself, slopes_enclosed}

-- ---- outside the cone
none_use : {K : Type 0} (same : K → K → Bool) → IsSameTest same → (qs : List (Quantity K)) → AreInOrder same [] qs → (y n : K)
    → depends_on same qs y n ≡ false → users n (cone_of same qs y) ≡ []
none_use same law qs o y n outside =
    ap (users n) (cone_of-map same qs y)
    ∙ filter-none (λ m. m.uses n) (map (node_of same (span_at same qs)) (cone_quantities same qs y))
    (all_mapped (λ m. m.uses n ≡ false) (node_of same (span_at same qs)) (cone_quantities same qs y)
    (all_passing (λ q. uses_of same q.body n ≡ false) (λ q. depends_on same qs y q.key) (reverse qs)
    (outside_unused same (span_at same qs) (depends_on same qs y) y (reverse qs) (depends_on-closed same law qs o y) n outside)))

pub sensitivity_of-outside : {K : Type 0} (same : K → K → Bool) → IsSameTest same → (qs : List (Quantity K)) → AreInOrder same [] qs → (y n : K)
    → depends_on same qs y n ≡ false → sensitivity_of same qs y n ≡ Some zero_span
sensitivity_of-outside same law qs o y n outside =
    sensitivity_of-solves same law qs o y n
    ∙ ap (λ b. if b then Some (point_span one_bound) else sum_of (terms (sensitivity_of same qs y) n (cone_of same qs y)))
    (false_from_ne_true (same n y) other)
    ∙ ap (λ ms. sum_of (map (λ m. both (sensitivity_of same qs y m.key) (m.part n) product_span) ms)) (none_use same law qs o y n outside) where
      other : same n y ≡ true → ⊥
      other e =
          true≢false (sym (depends_on-itself same law qs o y) ∙ ap (depends_on same qs y) (sym (law.sound n y e)) ∙ outside)

-- what y depends on is there, where y is
pub depends_on-there : {K : Type 0} (same : K → K → Bool) → IsSameTest same → (qs : List (Quantity K)) → AreInOrder same [] qs → (y : K) → is_there same qs y ≡ true
    → (n : K) → depends_on same qs y n ≡ true → is_there same qs n ≡ true
depends_on-there same law qs o y there n e =
    by (or_cases (same n y) (list_any (λ m. depends_on same qs y m.key) (users n (nodes_of same qs))) (sym (depends_on-closed same law qs o y n) ∙ e)) where
      used : (rs : List (Quantity _)) → AllByRecursion (λ q. (k : _) → uses_of same q.body k ≡ true → is_there same (reverse qs) k ≡ true) rs
          → list_any (λ m. depends_on same qs y m.key) (users n (map (node_of same (span_at same qs)) rs)) ≡ true → is_there same (reverse qs) n ≡ true
      used [] h f = absurd (true≢false (sym f))
      used (q ∷ rs) h f = at (uses_of same q.body n) refl f (used rs h.1) where
        at : (b : Bool) → uses_of same q.body n ≡ b
            → list_any (λ m. depends_on same qs y m.key)
            (cond b (node_of same (span_at same qs) q ∷ users n (map (node_of same (span_at same qs)) rs)) (users n (map (node_of same (span_at same qs)) rs))) ≡ true
            → (list_any (λ m. depends_on same qs y m.key) (users n (map (node_of same (span_at same qs)) rs)) ≡ true → is_there same (reverse qs) n ≡ true)
            → is_there same (reverse qs) n ≡ true
        at true u f rest = h.0 n u
        at false u f rest = rest f

      by : (same n y ≡ true) ⊎ (list_any (λ m. depends_on same qs y m.key) (users n (nodes_of same qs)) ≡ true) → is_there same qs n ≡ true
      by (inl f) = ap (is_there same qs) (law.sound n y f) ∙ there
      by (inr f) =
          sym (ap is_some ((reversed same law qs o).bodies n))
          ∙ used (reverse qs) (uses_there same law (reverse qs) (reversed same law qs o).last_first) f

-- ---- the gradient
each_passes : {X : Type 0} (p : X → Bool) (xs : List X) → list_all p xs ≡ true → AllByRecursion (λ x. p x ≡ true) xs
each_passes p [] h = tt
each_passes p (x ∷ xs) h = ((and_parts (p x) (list_all p xs) h).0, each_passes p xs (and_parts (p x) (list_all p xs) h).1)

-- what holds of the keys that pass holds of a key that is there and passes
at_key : {K : Type 0} (same : K → K → Bool) → IsSameTest same → (p : K → Bool) (P : K → Type 0) (rs : List (Quantity K))
    → AllByRecursion (λ q. P q.key) (filter (λ q. p q.key) rs) → (n : K) → is_there same rs n ≡ true → p n ≡ true → P n
at_key same law p P [] h n there passes = absurd (true≢false (sym there))
at_key same law p P (q ∷ qs) h n there passes =
    by (same q.key n) (p q.key) refl refl there h (λ k e. at_key same law p P qs k n e passes) where
      by : (s b : Bool) → same q.key n ≡ s → p q.key ≡ b → is_some (if s then Some q.body else body_of same qs n) ≡ true
          → AllByRecursion (λ r. P r.key) (cond b (q ∷ filter (λ r. p r.key) qs) (filter (λ r. p r.key) qs))
          → (AllByRecursion (λ r. P r.key) (filter (λ r. p r.key) qs) → is_there same qs n ≡ true → P n) → P n
      by true true e f g k rest = subst P (law.sound q.key n e) k.0
      by true false e f g k rest = absurd (true≢false (sym passes ∙ ap p (sym (law.sound q.key n e)) ∙ f))
      by false true e f g k rest = rest k.1 g
      by false false e f g k rest = rest k g

pub gradient-there : {K : Type 0} (same : K → K → Bool) → IsSameTest same → (qs : List (Quantity K)) → AreInOrder same [] qs → (y : K) → has_gradient same qs y ≡ true
    → (n : K) → is_there same qs n ≡ true → is_some (sensitivity_of same qs y n) ≡ true
gradient-there same law qs o y h n there = by (depends_on same qs y n) refl where
  by : (b : Bool) → depends_on same qs y n ≡ b → is_some (sensitivity_of same qs y n) ≡ true
  by true e =
      at_key same law (depends_on same qs y) (λ m. is_some (sensitivity_of same qs y m) ≡ true) (reverse qs)
      (all_unmapped (λ m. is_some (sensitivity_of same qs y m.key) ≡ true) (node_of same (span_at same qs)) (cone_quantities same qs y)
      (subst (AllByRecursion (λ m. is_some (sensitivity_of same qs y m.key) ≡ true)) (cone_of-map same qs y)
      (each_passes (λ m. is_some (sensitivity_of same qs y m.key)) (cone_of same qs y) h)))
      n (ap is_some ((reversed same law qs o).bodies n) ∙ there) e
  by false e = ap is_some (sensitivity_of-outside same law qs o y n e)

input_there : {K : Type 0} (same : K → K → Bool) (qs : List (Quantity K)) (i : K) (q : ℚ) → model_body_of same (model_of qs) i ≡ Some (ModelInput q)
    → is_there same qs i ≡ true
input_there {K} same qs i q e = by (body_of same qs i) (sym (model-body_of same qs i) ∙ e) where
  by : (b : Option (Body K)) → model_bodies b ≡ Some (ModelInput q) → is_some b ≡ true
  by None f = absurd (cc)
  by (Some b) f = refl

pub gradient_encloses : {K : Type 0} (same : K → K → Bool) → IsSameTest same → (qs : List (Quantity K)) → AreInOrder same [] qs
    → AllHaveExponents qs → AllKeepNamesApart same qs → (y : K) → is_there same qs y ≡ true → has_gradient same qs y ≡ true
    → (i : K) (q : ℚ) → model_body_of same (model_of qs) i ≡ Some (ModelInput q)
    → Encloses (unwrap_or (gradient_of same qs y i) zero_span) (exact_slope same (model_of qs) y i)
gradient_encloses same law qs o h k y there defined i q is =
    by (depends_on same qs y i) refl (sensitivity_of same qs y i) refl (gradient-there same law qs o y defined i (input_there same qs i q is))
    (slopes_enclosed same law qs o h k y there i q is) where
      by : (b : Bool) → depends_on same qs y i ≡ b → (s : Option Interval) → sensitivity_of same qs y i ≡ s → is_some s ≡ true
          → Holds s (exact_slope same (model_of qs) y i)
          → Encloses (unwrap_or (if b then s else None) zero_span) (exact_slope same (model_of qs) y i)
      by b e None f some holds = absurd (true≢false (sym some))
      by true e (Some s) f some holds = holds
      by false e (Some s) f some holds =
          subst (λ o. Holds o (exact_slope same (model_of qs) y i)) (sym f ∙ sensitivity_of-outside same law qs o y i e) holds
