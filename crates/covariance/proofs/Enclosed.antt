-- Spans of variances and covariances enclose the exact ones.
use Rattle.std.specs.Prelude.{◌≡◌, ℕ, zero, suc, Bool, true, false, if◌then◌else◌, ◌||◌, List, [], ◌∷◌, map, filter, Option, None, Some, is_some, Result, IfOk, pos, refl}
use Rattle.std.specs.List.{list_any}
use Rattle.std.specs.Option.{ok_or, option_map}
use Rattle.std.proofs.Common.{sym, ◌∙◌, ap, ap₂, subst}
use Rattle.exact_fraction.specs.Number.{ℚ, of_ℤ, ◌+ℚ◌, ◌*ℚ◌, ◌≤ℚ◌, max_ℚ}
use Rattle.exact_fraction.specs.NumberLaws.{≤ℚ_refl, ≤ℚ_antisym}
use Rattle.exact_fraction.specs.Sums.{total}
use Rattle.exact_fraction.proofs.Ring.{ring, Whole, ◌:+◌, ◌:*◌, x0, x1, x2}
use Rattle.exact_fraction.proofs.Extremes.{max-≤, max-≥_left}
use Rattle.exact_fraction.proofs.SumLaws.{total-same, total-zero}
use Rattle.exact_law.specs.Law.{part}
use Rattle.exact_law.proofs.RenamingLaws.{total-map}
use Rattle.exact_law.proofs.Split.{part-not_negative}
use Rattle.decimal18.specs.Bound.{Bound, value_of}
use Rattle.decimal18.proofs.Values.{value-whole}
use Rattle.fixed_interval.specs.Interval.{Interval, Encloses, point_span, outward}
use Rattle.fixed_interval.specs.Rules.{zero_bound, product_span, floored_span}
use Rattle.fixed_interval.specs.Sums.{both, sum_of, Holds, AllHold}
use Rattle.fixed_interval.specs.declared.faults.Overflow.{Overflow}
use Rattle.fixed_interval.proofs.Enclosures.{point_encloses, outward_encloses}
use Rattle.fixed_interval.proofs.Raising.{floored_span_encloses}
use Rattle.fixed_interval.proofs.Sums.{some_holds, product_holds, sum_of_holds}
use Rattle.type_b.specs.declared.shape.Shape.{Shape}
use Rattle.type_b.specs.Variances.{variance_of, variance_span, deviation_of, deviation_span}
use Rattle.type_b.proofs.Enclosed.{deviation_holds, variance_holds}
use Rattle.type_a.specs.Statistics.{exact_joint}
use Rattle.covariance.specs.Gradients.{Spans, sensitivity, AllEnclose}
use Rattle.covariance.specs.Groups.{Group, Single, Pair, Columns, members, IsRegular, AreRegular, placed, exact_group, exact_pair, exact_within, pair_covariance_span, pair_span, covariance_within}
use Rattle.covariance.specs.Variances.{terms, cross_terms, at_key, at_places, group_variance_span, group_covariance_span, meets, combined_variance_span, combined_covariance_span}
use Rattle.covariance.proofs.Triangles.{exact_terms, exact_cross_terms, terms_hold, cross_terms_hold, triangle, rectangle}
use Rattle.covariance.proofs.Exact.{within-sym, regular-sound, part-double_sum}

-- ---- an answer
pub answer_encloses : (o : Option Interval) (r : Result Interval Overflow) (q : ℚ) → Holds o q → r ≡ ok_or o (record {}) → IfOk r (λ s. Encloses s q)
answer_encloses None r q h e = rw e tt
answer_encloses (Some i) r q h e = rw e h

-- ---- covariances within a group
pair_covariance_holds : (s t : Shape) (r : Bound) → Holds (deviation_span s) (deviation_of s) → Holds (deviation_span t) (deviation_of t)
    → Holds (pair_covariance_span s t r) (value_of r *ℚ (deviation_of s *ℚ deviation_of t))
pair_covariance_holds s t r h k =
    subst (Holds (pair_covariance_span s t r))
    (ring (value_of r ∷ deviation_of s ∷ deviation_of t ∷ []) ((x0 :* x1) :* x2) (x0 :* (x1 :* x2)) refl)
    (product_holds (both (Some (point_span r)) (deviation_span s) product_span) (deviation_span t) (value_of r *ℚ deviation_of s) (deviation_of t)
    (product_holds (Some (point_span r)) (deviation_span s) (value_of r) (deviation_of s) (point_encloses r) h) k)

pair_holds : (s t : Shape) (r : Bound) → Holds (variance_span s) (variance_of s) → Holds (variance_span t) (variance_of t)
    → Holds (pair_covariance_span s t r) (value_of r *ℚ (deviation_of s *ℚ deviation_of t)) → (i j : ℕ)
    → Holds (pair_span s t r i j) (exact_pair s t r i j)
pair_holds s t r v w c zero zero = v
pair_holds s t r v w c zero (suc j) = c
pair_holds s t r v w c (suc i) zero = c
pair_holds s t r v w c (suc i) (suc j) = w

pub within_holds : {K : Type 0} (g : Group K) → IsRegular g → (i j : ℕ) → Holds (covariance_within g i j) (exact_within g i j)
within_holds (Single k shape dof) h i j = variance_holds shape h
within_holds (Pair k s m t r) h i j =
    pair_holds s t r (variance_holds s h.0) (variance_holds t h.2)
    (pair_covariance_holds s t r (deviation_holds s h.0) (deviation_holds t h.2)) i j
within_holds (Columns ks readings) h i j = point_holds (exact_joint readings i j) where
  point_holds : (q : ℚ) → Holds (outward q q) q
  point_holds q = some_holds (outward q q) q (λ s e. outward_encloses q q s e q (≤ℚ_refl q) (≤ℚ_refl q))

pub within_encloses : {K : Type 0} (g : Group K) → IsRegular g → (i j : ℕ) (r : Result Interval Overflow) → r ≡ ok_or (covariance_within g i j) (record {})
    → IfOk r (λ s. Encloses s (exact_within g i j))
within_encloses g h i j r e = answer_encloses (covariance_within g i j) r _ (within_holds g h i j) e

-- ---- what is not negative may be raised to 0
max_same : (q : ℚ) → of_ℤ (pos 0) ≤ℚ q → max_ℚ q (of_ℤ (pos 0)) ≡ q
max_same q h = ≤ℚ_antisym _ _ (max-≤ q q _ (≤ℚ_refl q) h) (max-≥_left q _)

floored_holds : (o : Option Interval) (q : ℚ) → of_ℤ (pos 0) ≤ℚ q → Holds o q → Holds (option_map (λ s. floored_span s zero_bound) o) q
floored_holds None q h k = tt
floored_holds (Some s) q h k =
    subst (Encloses (floored_span s zero_bound)) (ap (max_ℚ q) (value-whole (pos 0)) ∙ max_same q h) (floored_span_encloses s zero_bound q k)

-- ---- one group
pub group_variance_holds : {K : Type 0} (g : Group K) → IsRegular g → (y : Spans K) (u : K → ℚ) → AllEnclose y u
    → Holds (group_variance_span y g) (part (exact_group g) u u)
unfolding group_variance_span
group_variance_holds {K} g r y u h =
    let ps : List (ℕ × K) = placed 0 (members g) in
    floored_holds (sum_of (terms (at_key y) (at_places g) ps)) _ (part-not_negative (exact_group g) u (regular-sound g r))
    (subst (Holds (sum_of (terms (at_key y) (at_places g) ps)))
    (triangle (λ p. u p.1) (λ p q. exact_within g p.0 q.0) (λ p q. within-sym g p.0 q.0) ps ∙ sym (part-double_sum g r u u))
    (sum_of_holds (terms (at_key y) (at_places g) ps) (exact_terms (λ p. u p.1) (λ p q. exact_within g p.0 q.0) ps)
    (terms_hold (at_key y) (λ p. u p.1) (at_places g) (λ p q. exact_within g p.0 q.0) (λ p. h p.1) (λ p q. within_holds g r p.0 q.0) ps)))

pub group_covariance_holds : {K : Type 0} (g : Group K) → IsRegular g → (y z : Spans K) (u w : K → ℚ) → AllEnclose y u → AllEnclose z w
    → Holds (group_covariance_span y z g) (part (exact_group g) u w)
unfolding group_covariance_span
group_covariance_holds {K} g r y z u w h i =
    let ps : List (ℕ × K) = placed 0 (members g) in
    subst (Holds (sum_of (cross_terms (at_key y) (at_key z) (at_places g) ps ps)))
    (rectangle (λ p. u p.1) (λ p. w p.1) (λ p q. exact_within g p.0 q.0) ps ps ∙ sym (part-double_sum g r u w))
    (sum_of_holds (cross_terms (at_key y) (at_key z) (at_places g) ps ps) (exact_cross_terms (λ p. u p.1) (λ p. w p.1) (λ p q. exact_within g p.0 q.0) ps ps)
    (cross_terms_hold (at_key y) (at_key z) (λ p. u p.1) (λ p. w p.1) (at_places g) (λ p q. exact_within g p.0 q.0)
    (λ p. h p.1) (λ p. i p.1) (λ p q. within_holds g r p.0 q.0) ps ps))

-- ---- a group that does not meet the cone has no part
outside : {K : Type 0} (y : Spans K) (u : K → ℚ) → AllEnclose y u → (k : K) → is_some (y k) ≡ false → u k ≡ of_ℤ (pos 0)
outside y u h k = by (y k) (h k) where
  by : (o : Option Interval) → Encloses (sensitivity (λ n. o) k) (u k) → is_some o ≡ false → u k ≡ of_ℤ (pos 0)
  by None e n = ≤ℚ_antisym (u k) (of_ℤ (pos 0)) (subst (λ t. u k ≤ℚ t) (value-whole (pos 0)) e.high) (subst (λ t. t ≤ℚ u k) (value-whole (pos 0)) e.low)
  by (Some s) e n = absurd (cc)

none_placed : {K : Type 0} (y : Spans K) (f : ℕ × K → ℚ) → ((p : ℕ × K) → is_some (y p.1) ≡ false → f p ≡ of_ℤ (pos 0))
    → (i : ℕ) (ks : List K) → list_any (λ k. is_some (y k)) ks ≡ false → total f (placed i ks) ≡ of_ℤ (pos 0)
unfolding total
none_placed y f h i [] e = refl
none_placed y f h i (k ∷ ks) e = by (is_some (y k)) refl e (none_placed y f h (suc i) ks) where
  by : (b : Bool) → is_some (y k) ≡ b → (b || list_any (λ n. is_some (y n)) ks) ≡ false
      → (list_any (λ n. is_some (y n)) ks ≡ false → total f (placed (suc i) ks) ≡ of_ℤ (pos 0)) → f (i, k) +ℚ total f (placed (suc i) ks) ≡ of_ℤ (pos 0)
  by true n e rest = absurd (cc)
  by false n e rest = ap₂ ◌+ℚ◌ (h (i, k) n) (rest e) ∙ ring [] (Whole (pos 0) :+ Whole (pos 0)) (Whole (pos 0)) refl

pub no_part : {K : Type 0} (g : Group K) → IsRegular g → (y : Spans K) (u w : K → ℚ) → AllEnclose y u → meets y g ≡ false
    → part (exact_group g) u w ≡ of_ℤ (pos 0)
no_part {K} g r y u w h e =
    let ps : List (ℕ × K) = placed 0 (members g) in
    part-double_sum g r u w
    ∙ none_placed y (λ p. total (λ q. u p.1 *ℚ w q.1 *ℚ exact_within g p.0 q.0) ps)
    (λ p n. total-same (λ q. u p.1 *ℚ w q.1 *ℚ exact_within g p.0 q.0) (λ q. of_ℤ (pos 0)) ps
    (λ q. ap (λ t. t *ℚ w q.1 *ℚ exact_within g p.0 q.0) (outside y u h p.1 n)
    ∙ ring (w q.1 ∷ exact_within g p.0 q.0 ∷ []) (Whole (pos 0) :* x0 :* x1) (Whole (pos 0)) refl)
    ∙ total-zero ps) 0 (members g) e

-- ---- all groups
module _ {K : Type 0} (counts : Group K → Bool) (span : Group K → Option Interval) (exact : Group K → ℚ)
    (holds : (g : Group K) → IsRegular g → Holds (span g) (exact g))
    (absent : (g : Group K) → IsRegular g → counts g ≡ false → exact g ≡ of_ℤ (pos 0)) where
  counted_hold : (gs : List (Group K)) → AreRegular gs → AllHold (map span (filter counts gs)) (map exact (filter counts gs))
  counted_hold [] r = tt
  counted_hold (g ∷ gs) r = by (counts g) (counted_hold gs r.1) where
    by : (b : Bool) → AllHold (map span (filter counts gs)) (map exact (filter counts gs))
        → AllHold (map span (if b then g ∷ filter counts gs else filter counts gs)) (map exact (if b then g ∷ filter counts gs else filter counts gs))
    by true rest = (holds g r.0, rest)
    by false rest = rest

  counted_total : (gs : List (Group K)) → AreRegular gs → total exact (filter counts gs) ≡ total exact gs
  unfolding total
  counted_total [] r = refl
  counted_total (g ∷ gs) r = by (counts g) refl (counted_total gs r.1) where
    by : (b : Bool) → counts g ≡ b → total exact (filter counts gs) ≡ total exact gs
        → total exact (if b then g ∷ filter counts gs else filter counts gs) ≡ exact g +ℚ total exact gs
    by true e rest = ap (λ t. exact g +ℚ t) rest
    by false e rest = rest ∙ ring (total exact gs ∷ []) x0 (Whole (pos 0) :+ x0) refl ∙ ap (λ t. t +ℚ total exact gs) (sym (absent g r.0 e))

  pub groups_hold : (gs : List (Group K)) → AreRegular gs → Holds (sum_of (map span (filter counts gs))) (total exact gs)
  groups_hold gs r =
      subst (Holds (sum_of (map span (filter counts gs)))) (total-map exact (λ q. q) (filter counts gs) ∙ counted_total gs r)
      (sum_of_holds (map span (filter counts gs)) (map exact (filter counts gs)) (counted_hold gs r))

neither : (b c : Bool) → (b || c) ≡ false → b ≡ false
neither true c e = absurd (cc)
neither false c e = refl

pub variance_is_enclosed : {K : Type 0} (groups : List (Group K)) → AreRegular groups → (y : Spans K) (u : K → ℚ) → AllEnclose y u
    → Holds (combined_variance_span y groups) (total (λ g. part g u u) (map exact_group groups))
variance_is_enclosed groups r y u h =
    subst (Holds (combined_variance_span y groups)) (sym (total-map exact_group (λ g. part g u u) groups))
    (groups_hold (meets y) (group_variance_span y) (λ g. part (exact_group g) u u) (λ g s. group_variance_holds g s y u h)
    (λ g s e. no_part g s y u u h e) groups r)

pub covariance_is_enclosed : {K : Type 0} (groups : List (Group K)) → AreRegular groups → (y z : Spans K) (u w : K → ℚ) → AllEnclose y u → AllEnclose z w
    → Holds (combined_covariance_span y z groups) (total (λ g. part g u w) (map exact_group groups))
covariance_is_enclosed groups r y z u w h i =
    subst (Holds (combined_covariance_span y z groups)) (sym (total-map exact_group (λ g. part g u w) groups))
    (groups_hold (λ g. meets y g || meets z g) (group_covariance_span y z) (λ g. part (exact_group g) u w) (λ g s. group_covariance_holds g s y z u w h i)
    (λ g s e. no_part g s y u w h (neither (meets y g) (meets z g) e)) groups r)

-- ---- answers
pub group_encloses : {K : Type 0} (g : Group K) → IsRegular g → (y : Spans K) (r : Result Interval Overflow) → r ≡ ok_or (group_variance_span y g) (record {})
    → (u : K → ℚ) → AllEnclose y u → IfOk r (λ s. Encloses s (part (exact_group g) u u))
group_encloses g i y r e u h = answer_encloses (group_variance_span y g) r _ (group_variance_holds g i y u h) e

pub variance_encloses : {K : Type 0} (groups : List (Group K)) → AreRegular groups → (y : Spans K) (r : Result Interval Overflow)
    → r ≡ ok_or (combined_variance_span y groups) (record {})
    → (u : K → ℚ) → AllEnclose y u → IfOk r (λ s. Encloses s (total (λ g. part g u u) (map exact_group groups)))
variance_encloses groups i y r e u h = answer_encloses (combined_variance_span y groups) r _ (variance_is_enclosed groups i y u h) e

pub covariance_encloses : {K : Type 0} (groups : List (Group K)) → AreRegular groups → (y z : Spans K) (r : Result Interval Overflow)
    → r ≡ ok_or (combined_covariance_span y z groups) (record {})
    → (u w : K → ℚ) → AllEnclose y u → AllEnclose z w → IfOk r (λ s. Encloses s (total (λ g. part g u w) (map exact_group groups)))
covariance_encloses groups i y z r e u w h k = answer_encloses (combined_covariance_span y z groups) r _ (covariance_is_enclosed groups i y z u w h k) e
