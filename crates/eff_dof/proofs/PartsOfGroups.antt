-- The parts of groups: what a loop over groups finds, and what each part says of its group.
use Rattle.std.specs.Prelude.{◌≡◌, ◌≤◌, Bool, true, false, if◌then◌else◌, List, [], ◌∷◌, map, filter, length, sum_by, Option, None, Some, refl}
use Rattle.std.specs.Option.{option_and_then}
use Rattle.std.proofs.Common.{sym, ◌∙◌, ap, ap₂, subst, arith}
use Rattle.std.proofs.lemmas.Option.{same_Some, none-some}
use Rattle.std.proofs.lemmas.List.Sums.{sum_by-cons}
use Rattle.fixed_interval.specs.Interval.{Interval, sum_span}
use Rattle.fixed_interval.specs.Sums.{both, sum_on, sum_of}
use Rattle.fixed_interval.proofs.Sums.{sum_on-none}
use Rattle.type_b.specs.Shapes.{IsDegrees}
use Rattle.covariance.specs.Gradients.{Spans}
use Rattle.covariance.specs.Groups.{Group}
use Rattle.covariance.specs.Variances.{group_variance_span, combined_variance_span, meets}
use Rattle.covariance.specs.Costs.{pairs, pairs_of}
use Rattle.covariance.proofs.Counting.{meets_pair}
use Rattle.covariance.proofs.NotNegative.{group_variance-from_zero, some-from_zero}
use Rattle.eff_dof.specs.declared.part.Part.{Part}
use Rattle.eff_dof.specs.Parts.{IsPart, AreParts}
use Rattle.eff_dof.specs.Degrees.{variances, variance_span}
use Rattle.eff_dof.specs.GroupParts.{degrees_of_group, HasDegrees, AllGroups, HaveDegrees, part_by, part_of, put_before, all_there, parts_of}

-- ---- lists of parts that may not be there
rest_missing : (p : Part) (o : Option (List Part)) → put_before (p ∷ []) o ≡ None → o ≡ None
rest_missing p None e = refl
rest_missing p (Some qs) e = absurd (none-some (p ∷ qs) (sym e))

-- ---- the parts beside their groups
abbrev pub ArePartsOf : {K : Type 0} → Spans K → List (Group K) → List Part → Type 0
ArePartsOf y [] [] = Unit {0}
ArePartsOf y [] (p ∷ ps) = ⊥
ArePartsOf y (g ∷ gs) [] = ⊥
ArePartsOf y (g ∷ gs) (p ∷ ps) = (part_of y g ≡ Some p) × ArePartsOf y gs ps

pub parts_beside : {K : Type 0} (y : Spans K) (gs : List (Group K)) (ps : List Part) → all_there (map (part_of y) gs) ≡ Some ps → ArePartsOf y gs ps
parts_beside y [] ps e = subst (ArePartsOf y []) (same_Some [] ps e) tt
parts_beside y (g ∷ gs) ps e = by (part_of y g) refl e (λ qs f. parts_beside y gs qs f) where
  by_rest : (p : Part) → part_of y g ≡ Some p → (o : Option (List Part)) → all_there (map (part_of y) gs) ≡ o → put_before (p ∷ []) o ≡ Some ps
      → ((qs : List Part) → all_there (map (part_of y) gs) ≡ Some qs → ArePartsOf y gs qs) → ArePartsOf y (g ∷ gs) ps
  by_rest p f None k j rest = absurd (none-some ps j)
  by_rest p f (Some qs) k j rest = subst (ArePartsOf y (g ∷ gs)) (same_Some (p ∷ qs) ps j) (f, rest qs k)

  by : (o : Option Part) → part_of y g ≡ o → all_there (o ∷ map (part_of y) gs) ≡ Some ps
      → ((qs : List Part) → all_there (map (part_of y) gs) ≡ Some qs → ArePartsOf y gs qs) → ArePartsOf y (g ∷ gs) ps
  by None f k rest = absurd (none-some ps k)
  by (Some p) f k rest = by_rest p f (all_there (map (part_of y) gs)) refl k rest

pub all-filter : {K : Type 0} (P : Group K → Type 0) (counts : Group K → Bool) (gs : List (Group K)) → AllGroups P gs → AllGroups P (filter counts gs)
all-filter P counts [] h = tt
all-filter P counts (g ∷ gs) h = by (counts g) (all-filter P counts gs h.1) where
  by : (b : Bool) → AllGroups P (filter counts gs) → AllGroups P (if b then g ∷ filter counts gs else filter counts gs)
  by true rest = (h.0, rest)
  by false rest = rest

-- the span of a part, and its degrees
pub record IsFrom {K : Type 0} (y : Spans K) (g : Group K) (p : Part) : Type 0 where
  pub span : group_variance_span y g ≡ Some p.variance
  pub degrees : p.dof ≡ degrees_of_group g

pub part-from : {K : Type 0} (y : Spans K) (g : Group K) (p : Part) → part_of y g ≡ Some p → IsFrom y g p
part-from y g p e = by (group_variance_span y g) refl e where
  by : (o : Option Interval) → group_variance_span y g ≡ o → part_by (degrees_of_group g) o ≡ Some p → IsFrom y g p
  by None f k = absurd (none-some p k)
  by (Some v) f k =
      let same : record { variance = v; dof = degrees_of_group g } ≡ p = same_Some _ p k in
      record { span = f ∙ ap (λ q. Some q.variance) same; degrees = sym (ap (λ q. q.dof) same) }

-- ---- which are parts
is_part : {K : Type 0} (y : Spans K) (g : Group K) (p : Part) → HasDegrees g → IsFrom y g p → IsPart p
is_part y g p h f = record { not_negative = some-from_zero (group_variance_span y g) (group_variance-from_zero g y) p.variance f.span; degrees = subst IsDegrees (sym f.degrees) h }

are_parts_of : {K : Type 0} (y : Spans K) (gs : List (Group K)) (ps : List Part) → HaveDegrees gs → ArePartsOf y gs ps → AreParts ps
are_parts_of y [] [] h k = tt
are_parts_of y [] (p ∷ ps) h k = absurd k
are_parts_of y (g ∷ gs) [] h k = absurd k
are_parts_of y (g ∷ gs) (p ∷ ps) h k = (is_part y g p h.0 (part-from y g p k.0), are_parts_of y gs ps h.1 k.1)

pub are_parts : {K : Type 0} (y : Spans K) (gs : List (Group K)) (ps : List Part) → HaveDegrees gs → parts_of y gs ≡ Some ps → AreParts ps
are_parts y gs ps h e =
    are_parts_of y (filter (meets y) gs) ps (all-filter HasDegrees (meets y) gs h) (parts_beside y (filter (meets y) gs) ps e)

-- ---- the variance of the parts
missing_on : {K : Type 0} (y : Spans K) (s : Option Interval) (gs : List (Group K)) → all_there (map (part_of y) gs) ≡ None → sum_on s (map (group_variance_span y) gs) ≡ None
missing_on y s [] e = absurd (none-some [] (sym e))
missing_on y s (g ∷ gs) e = by (group_variance_span y g) e (λ t f. missing_on y t gs f) where
  gone : (o : Option Interval) → both o None sum_span ≡ None
  gone None = refl
  gone (Some t) = refl

  by : (o : Option Interval) → all_there (part_by (degrees_of_group g) o ∷ map (part_of y) gs) ≡ None
      → ((t : Option Interval) → all_there (map (part_of y) gs) ≡ None → sum_on t (map (group_variance_span y) gs) ≡ None)
      → sum_on (both s o sum_span) (map (group_variance_span y) gs) ≡ None
  by None f rest = ap (λ t. sum_on t (map (group_variance_span y) gs)) (gone s) ∙ sum_on-none (map (group_variance_span y) gs)
  by (Some v) f rest = rest (both s (Some v) sum_span) (rest_missing _ (all_there (map (part_of y) gs)) f)

sum-missing : {K : Type 0} (y : Spans K) (gs : List (Group K)) → all_there (map (part_of y) gs) ≡ None → sum_of (map (group_variance_span y) gs) ≡ None
sum-missing y [] e = absurd (none-some [] (sym e))
sum-missing y (g ∷ gs) e = by (group_variance_span y g) e where
  by : (o : Option Interval) → all_there (part_by (degrees_of_group g) o ∷ map (part_of y) gs) ≡ None → sum_on o (map (group_variance_span y) gs) ≡ None
  by None f = sum_on-none (map (group_variance_span y) gs)
  by (Some v) f = missing_on y (Some v) gs (rest_missing _ (all_there (map (part_of y) gs)) f)

their_variances : {K : Type 0} (y : Spans K) (gs : List (Group K)) (ps : List Part) → ArePartsOf y gs ps → map (group_variance_span y) gs ≡ variances ps
their_variances y [] [] h = refl
their_variances y [] (p ∷ ps) h = absurd h
their_variances y (g ∷ gs) [] h = absurd h
their_variances y (g ∷ gs) (p ∷ ps) h = ap₂ (λ o os. o ∷ os) (part-from y g p h.0).span (their_variances y gs ps h.1)

-- their sum is the combined variance
pub variance-combined : {K : Type 0} (y : Spans K) (groups : List (Group K)) → option_and_then variance_span (parts_of y groups) ≡ combined_variance_span y groups
variance-combined y groups = by (parts_of y groups) refl where
  by : (o : Option (List Part)) → parts_of y groups ≡ o → option_and_then variance_span o ≡ combined_variance_span y groups
  by None e = sym (sum-missing y (filter (meets y) groups) e)
  by (Some ps) e = ap sum_of (sym (their_variances y (filter (meets y) groups) ps (parts_beside y (filter (meets y) groups) ps e)))

-- ---- how many there are: a group that meets the cone has a member
met_pairs : {K : Type 0} (y : Spans K) (gs : List (Group K)) → AllGroups (λ g. 1 ≤ pairs g) (filter (meets y) gs)
met_pairs y [] = tt
met_pairs y (g ∷ gs) = by (meets y g) refl (met_pairs y gs) where
  by : (b : Bool) → meets y g ≡ b → AllGroups (λ h. 1 ≤ pairs h) (filter (meets y) gs)
      → AllGroups (λ h. 1 ≤ pairs h) (if b then g ∷ filter (meets y) gs else filter (meets y) gs)
  by true e rest = (meets_pair y g e, rest)
  by false e rest = rest

few_beside : {K : Type 0} (y : Spans K) (gs : List (Group K)) (ps : List Part) → AllGroups (λ g. 1 ≤ pairs g) gs → ArePartsOf y gs ps → length ps ≤ sum_by pairs gs
few_beside y [] [] h k = omega arith
few_beside y [] (p ∷ ps) h k = absurd k
few_beside y (g ∷ gs) [] h k = omega arith
few_beside y (g ∷ gs) (p ∷ ps) h k = omega (arith, h.0, few_beside y gs ps h.1 k.1, sum_by-cons pairs g gs)

pub parts-few : {K : Type 0} (y : Spans K) (gs : List (Group K)) (ps : List Part) → parts_of y gs ≡ Some ps → length ps ≤ pairs_of (meets y) gs
parts-few y gs ps e = few_beside y (filter (meets y) gs) ps (met_pairs y gs) (parts_beside y (filter (meets y) gs) ps e)
