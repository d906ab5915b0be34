-- A statement over spans is the exact one.
use Rattle.std.specs.Prelude.{◌≡◌, Option, None, Some, option_map, List, [], ◌∷◌, ◌++◌, refl}
use Rattle.std.specs.Option.{option_and_then, option_zip}
use Rattle.std.proofs.Common.{subst}
use Rattle.std.proofs.lemmas.Option.{same_Some, none-some}
use Rattle.exact_fraction.specs.Number.{ℚ, ◌*ℚ◌, ◌-ℚ◌}
use Rattle.exact_law.specs.WrittenRule.{Statement, Stated, Span as ExactSpan, IsWithin, AllWithin, above_lower, below_upper, distances, guard_square, decision, stated}
use Rattle.exact_law.proofs.RuleLaws.{decision-stated}
use Rattle.decimal18.specs.Bound.{Bound, value_of}
use Rattle.fixed_interval.specs.Interval.{Interval, Encloses, point_span}
use Rattle.fixed_interval.specs.Rules.{square_span}
use Rattle.fixed_interval.specs.Sums.{Holds}
use Rattle.fixed_interval.proofs.Enclosures.{point_encloses}
use Rattle.fixed_interval.proofs.Inclusions.{difference_span_encloses, square_span_encloses}
use Rattle.fixed_interval.proofs.Sums.{some_holds, product_holds}
use Rattle.guard_band.specs.declared.rule.Rule.{Rule}
use Rattle.guard_band.specs.Statements.{exact_form, exact_rule, guard_square_span, above, below, ends_of, with_square, at_limit, distances_over, decision_over}

-- ---- the spans hold the exact numbers
within : (s : Interval) (q : ℚ) → Encloses s q → IsWithin q (ends_of s)
within s q h = record { above = h.low; below = h.high }

square_holds : (s : Interval) (q : ℚ) → Encloses s q → Holds (square_span s) (q *ℚ q)
square_holds s q h = some_holds (square_span s) (q *ℚ q) (λ t e. square_span_encloses s t e q h)

guard_holds : (r : Bound) (k v : Interval) (f u : ℚ) → Encloses k f → Encloses v u
    → Holds (guard_square_span r k v) ((value_of r *ℚ value_of r) *ℚ (f *ℚ f) *ℚ u)
guard_holds r k v f u h i =
    product_holds _ (Some v) _ u (product_holds _ _ _ _ (square_holds (point_span r) (value_of r) (point_encloses r)) (square_holds k f h)) i

above_holds : (y : Interval) (t : Bound) (x : ℚ) → Encloses y x → Holds (above y t) (x -ℚ value_of t)
above_holds y t x h =
    some_holds (above y t) _ (λ s e. difference_span_encloses y (point_span t) s e x (value_of t) h (point_encloses t))

below_holds : (y : Interval) (t : Bound) (x : ℚ) → Encloses y x → Holds (below y t) (value_of t -ℚ x)
below_holds y t x h =
    some_holds (below y t) _ (λ s e. difference_span_encloses (point_span t) y s e (value_of t) x (point_encloses t) h)

squared_within : (i : Interval) (d : ℚ) → Encloses i d → (o : Option Interval) → square_span i ≡ o → (ss : List ExactSpan)
    → option_map (λ s. s ∷ []) (option_map (λ s. record { distance = ends_of i; square = ends_of s }) o) ≡ Some ss → AllWithin (d ∷ []) ss
unfolding AllWithin
squared_within i d h None f ss e = absurd (none-some ss e)
squared_within i d h (Some s) f ss e =
    subst (AllWithin (d ∷ [])) (same_Some _ ss e) (within i d h, within s (d *ℚ d) (square_span_encloses i s f d h), tt)

one_within : (o : Option Interval) (d : ℚ) → Holds o d → (ss : List ExactSpan)
    → option_map (λ s. s ∷ []) (option_and_then with_square o) ≡ Some ss → AllWithin (d ∷ []) ss
one_within None d h ss e = absurd (none-some ss e)
one_within (Some i) d h ss e = squared_within i d h (square_span i) refl ss e

lower_within : (y : Interval) (x : ℚ) → Encloses y x → (limit : Option Bound) (ss : List ExactSpan) → at_limit (above y) limit ≡ Some ss
    → AllWithin (above_lower (option_map value_of limit) x) ss
unfolding AllWithin above_lower
lower_within y x h None ss e = subst (AllWithin []) (same_Some [] ss e) tt
lower_within y x h (Some t) ss e = one_within (above y t) (x -ℚ value_of t) (above_holds y t x h) ss e

upper_within : (y : Interval) (x : ℚ) → Encloses y x → (limit : Option Bound) (ss : List ExactSpan) → at_limit (below y) limit ≡ Some ss
    → AllWithin (below_upper (option_map value_of limit) x) ss
unfolding AllWithin below_upper
upper_within y x h None ss e = subst (AllWithin []) (same_Some [] ss e) tt
upper_within y x h (Some t) ss e = one_within (below y t) (value_of t -ℚ x) (below_holds y t x h) ss e

all_within : (ds es : List ℚ) (ss ts : List ExactSpan) → AllWithin ds ss → AllWithin es ts → AllWithin (ds ++ es) (ss ++ ts)
unfolding AllWithin
all_within [] es [] ts h k = k
all_within [] es (s ∷ ss) ts h k = absurd h
all_within (d ∷ ds) es [] ts h k = absurd h
all_within (d ∷ ds) es (s ∷ ss) ts h k = (h.0, h.1, all_within ds es ss ts h.2 k)

-- ---- what was found
Found : {A B C : Type 0} → (A × B → C) → Option A → Option B → C → Type 0
Found {A} {B} f o p c = (a : A) × ((b : B) × ((o ≡ Some a) × ((p ≡ Some b) × (f (a, b) ≡ c))))

unzipped : {A B C : Type 0} (f : A × B → C) (o : Option A) (p : Option B) (c : C) → option_map f (option_zip o p) ≡ Some c → Found f o p c
unfolding Found
unzipped f None p c e = absurd (none-some c e)
unzipped f (Some a) None c e = absurd (none-some c e)
unzipped f (Some a) (Some b) c e = (a, (b, (refl, (refl, same_Some _ c e))))

distances_within : (rule : Rule) (y : Interval) (x : ℚ) → Encloses y x → (ss : List ExactSpan) → distances_over rule y ≡ Some ss
    → AllWithin (distances (exact_rule rule) x) ss
unfolding Found distances
distances_within rule y x h ss e =
    by (unzipped (λ found. found.0 ++ found.1) (at_limit (above y) rule.lower) (at_limit (below y) rule.upper) ss e) where
      by : Found (λ found. found.0 ++ found.1) (at_limit (above y) rule.lower) (at_limit (below y) rule.upper) ss
          → AllWithin (above_lower (option_map value_of rule.lower) x ++ below_upper (option_map value_of rule.upper) x) ss
      by (ls, (us, (f, (g, i)))) =
          subst (AllWithin (above_lower (option_map value_of rule.lower) x ++ below_upper (option_map value_of rule.upper) x)) i
          (all_within _ _ ls us (lower_within y x h rule.lower ls f) (upper_within y x h rule.upper us g))

pub statement_is_exact : (rule : Rule) (y v k : Interval) (s : Statement) → decision_over rule y v k ≡ Some (Stated s)
    → (x u f : ℚ) → Encloses y x → Encloses v u → Encloses k f → stated (exact_rule rule) x f u ≡ s
unfolding Found guard_square stated
statement_is_exact rule y v k s e x u f h i j =
    by (unzipped (λ found. decision (exact_form rule.form) (ends_of found.0) found.1) (guard_square_span rule.guard k v) (distances_over rule y) (Stated s) e) where
      by : Found (λ found. decision (exact_form rule.form) (ends_of found.0) found.1) (guard_square_span rule.guard k v) (distances_over rule y) (Stated s)
          → stated (exact_rule rule) x f u ≡ s
      by (w, (ss, (l, (m, n)))) =
          decision-stated (exact_form rule.form) (guard_square (exact_rule rule) f u) (ends_of w) (distances (exact_rule rule) x) ss s
          (within w _ (subst (λ o. Holds o ((value_of rule.guard *ℚ value_of rule.guard) *ℚ (f *ℚ f) *ℚ u)) l (guard_holds rule.guard k v f u j i)))
          (distances_within rule y x h ss m) n
