-- What is known of the degrees of groups allows the exact ones: a group that does not meet the cone brings nothing.
use Rattle.std.specs.Prelude.{◌≡◌, ◌-◌, Bool, true, false, cond, not, ◌&&◌, ◌||◌, if◌then◌else◌, List, [], ◌∷◌, map, filter, length, Option, None, Some, Ok, Err, pos, refl}
use Rattle.std.proofs.Common.{sym, ◌∙◌, ap, ap₂, subst}
use Rattle.exact_fraction.specs.Number.{ℚ, of_ℤ, ◌+ℚ◌, ◌*ℚ◌, ◌/ℚ◌, inv_ℚ, is_zero_ℚ}
use Rattle.exact_fraction.proofs.Quotients.{≡-is_zero_ℚ}
use Rattle.exact_fraction.proofs.Ring.{ring, Whole, ◌:+◌, ◌:*◌, x0}
use Rattle.exact_fraction.specs.Sums.{total}
use Rattle.exact_law.specs.Degrees.{Share, NoDegrees, InfiniteDegrees, FiniteDegrees, inverse_degrees, counts, any_counts, weight, effective}
use Rattle.fixed_interval.specs.Sums.{Holds}
use Rattle.fixed_interval.proofs.Inclusions.{zero_ℚ}
use Rattle.type_b.specs.Shapes.{inverse_degrees as stated_inverse}
use Rattle.table_g2.specs.Known.{Allows, AreDegrees}
use Rattle.table_g2.specs.declared.known.Nu.{Nu}
use Rattle.covariance.specs.Gradients.{Spans}
use Rattle.covariance.specs.Groups.{Group, Single, Pair, Columns, exact_group}
use Rattle.covariance.specs.Variances.{group_variance_span, meets}
use Rattle.eff_dof.specs.declared.part.Part.{Part}
use Rattle.eff_dof.specs.Parts.{IsShareOf, AreSharesOf, exact_degrees}
use Rattle.eff_dof.specs.Degrees.{known_degrees}
use Rattle.eff_dof.specs.GroupParts.{degrees_of_group, AllGroups, HaveDegrees, parts_of, known_by_parts, known_degrees_of}
use Rattle.eff_dof.proofs.Exact.{no_part}
use Rattle.eff_dof.proofs.PartsOfGroups.{ArePartsOf, IsFrom, part-from, parts_beside, all-filter, are_parts}
use Rattle.eff_dof.proofs.Sound.{degrees_sound, are_degrees}

-- the group of the exact law has the same degrees
degrees-exact : {K : Type 0} (g : Group K) → inverse_degrees (exact_group g) ≡ stated_inverse (degrees_of_group g)
unfolding inverse_degrees
degrees-exact (Single k shape dof) = refl
degrees-exact (Pair k s m t r) = refl
degrees-exact (Columns ks readings) = ring (inv_ℚ (of_ℤ (pos (length readings - 1))) ∷ []) x0 (Whole (pos 1) :* x0) refl

-- the exact part of a group, which is nothing where the group does not meet the cone
pub record IsExactly {K : Type 0} (y : Spans K) (exact : Group K → ℚ) (g : Group K) : Type 0 where
  pub enclosed : Holds (group_variance_span y g) (exact g)
  pub outside : meets y g ≡ false → exact g ≡ zero_ℚ

abbrev pub share : {K : Type 0} → (Group K → ℚ) → Group K → Share
share exact g = record { part = exact g; inverse_degrees = inverse_degrees (exact_group g) }

-- ---- parts and exact shares
is_share : {K : Type 0} (y : Spans K) (exact : Group K → ℚ) (g : Group K) (p : Part) → IsExactly y exact g → IsFrom y g p → IsShareOf p (share exact g)
is_share y exact g p h f = record {
  variance = subst (λ o. Holds o (exact g)) f.span h.enclosed;
  degrees = degrees-exact g ∙ ap stated_inverse (sym f.degrees);
}

are_shares : {K : Type 0} (y : Spans K) (exact : Group K → ℚ) (gs : List (Group K)) (ps : List Part) → AllGroups (IsExactly y exact) gs → ArePartsOf y gs ps
    → AreSharesOf ps (map (share exact) gs)
are_shares y exact [] [] h k = tt
are_shares y exact [] (p ∷ ps) h k = absurd k
are_shares y exact (g ∷ gs) [] h k = absurd k
are_shares y exact (g ∷ gs) (p ∷ ps) h k = (is_share y exact g p h.0 (part-from y g p k.0), are_shares y exact gs ps h.1 k.1)

-- ---- groups outside the cone
module _ {K : Type 0} (y : Spans K) (exact : Group K → ℚ) where
  met_total : (f : Share → ℚ) → ((s : Share) → s.part ≡ zero_ℚ → f s ≡ zero_ℚ) → (gs : List (Group K)) → AllGroups (IsExactly y exact) gs
      → total f (map (share exact) (filter (meets y) gs)) ≡ total f (map (share exact) gs)
  unfolding total
  met_total f z [] h = refl
  met_total f z (g ∷ gs) h = by (meets y g) refl (met_total f z gs h.1) where
    by : (b : Bool) → meets y g ≡ b → total f (map (share exact) (filter (meets y) gs)) ≡ total f (map (share exact) gs)
        → total f (map (share exact) (if b then g ∷ filter (meets y) gs else filter (meets y) gs)) ≡ f (share exact g) +ℚ total f (map (share exact) gs)
    by true e rest = ap (λ t. f (share exact g) +ℚ t) rest
    by false e rest =
        rest ∙ ring (total f (map (share exact) gs) ∷ []) x0 (Whole (pos 0) :+ x0) refl
        ∙ ap (λ t. t +ℚ total f (map (share exact) gs)) (sym (z (share exact g) ((h.0).outside e)))

  none_counts : (s : Share) → s.part ≡ zero_ℚ → counts s ≡ false
  unfolding counts
  none_counts s e = ap (λ b. not b && not (is_zero_ℚ s.inverse_degrees)) (≡-is_zero_ℚ s.part e)

  met_count : (gs : List (Group K)) → AllGroups (IsExactly y exact) gs
      → any_counts (map (share exact) (filter (meets y) gs)) ≡ any_counts (map (share exact) gs)
  unfolding any_counts
  met_count [] h = refl
  met_count (g ∷ gs) h = by (meets y g) refl (met_count gs h.1) where
    by : (b : Bool) → meets y g ≡ b → any_counts (map (share exact) (filter (meets y) gs)) ≡ any_counts (map (share exact) gs)
        → any_counts (map (share exact) (if b then g ∷ filter (meets y) gs else filter (meets y) gs)) ≡ (counts (share exact g) || any_counts (map (share exact) gs))
    by true e rest = ap (λ c. counts (share exact g) || c) rest
    by false e rest = rest ∙ ap (λ c. c || any_counts (map (share exact) gs)) (sym (none_counts (share exact g) ((h.0).outside e)))

  -- those that do not meet the cone count nowhere
  met_degrees : (gs : List (Group K)) → AllGroups (IsExactly y exact) gs
      → exact_degrees (map (share exact) (filter (meets y) gs)) ≡ exact_degrees (map (share exact) gs)
  unfolding effective
  met_degrees gs h =
      ap₂ (λ v w. cond (is_zero_ℚ v) NoDegrees (cond (any_counts (map (share exact) (filter (meets y) gs))) (FiniteDegrees (v *ℚ v /ℚ w)) InfiniteDegrees))
      (met_total (λ s. s.part) (λ s e. e) gs h) (met_total weight no_part gs h)
      ∙ ap (λ c. cond (is_zero_ℚ (total (λ s. s.part) (map (share exact) gs))) NoDegrees
      (cond c (FiniteDegrees (total (λ s. s.part) (map (share exact) gs) *ℚ total (λ s. s.part) (map (share exact) gs) /ℚ total weight (map (share exact) gs))) InfiniteDegrees))
      (met_count gs h)

-- ---- what is known of them
by_parts : (o : Option (List Part)) (nu : Nu) → known_by_parts o ≡ Ok nu → (ps : List Part) × ((o ≡ Some ps) × (Ok nu ≡ known_degrees ps))
by_parts None nu e = absurd (cc)
by_parts (Some ps) nu e = (ps, (refl, sym e))

pub degrees_enclosed : {K : Type 0} (y : Spans K) (exact : Group K → ℚ) (groups : List (Group K)) → HaveDegrees groups → AllGroups (IsExactly y exact) groups
    → (nu : Nu) → known_degrees_of y groups ≡ Ok nu → Allows nu (exact_degrees (map (share exact) groups))
unfolding known_degrees_of
degrees_enclosed y exact groups d h nu e =
    let found = by_parts (parts_of y groups) nu e in
    let ps : List Part = found.0 in
    subst (Allows nu) (met_degrees y exact groups h)
    (degrees_sound ps (map (share exact) (filter (meets y) groups)) (Ok nu) (found.1).1 (are_parts y groups ps d (found.1).0)
    (are_shares y exact (filter (meets y) groups) ps (all-filter (IsExactly y exact) (meets y) groups h) (parts_beside y (filter (meets y) groups) ps (found.1).0)))

pub degrees_in_range : {K : Type 0} (y : Spans K) (groups : List (Group K)) → HaveDegrees groups → (nu : Nu) → known_degrees_of y groups ≡ Ok nu → AreDegrees nu
unfolding known_degrees_of
degrees_in_range y groups d nu e =
    let found = by_parts (parts_of y groups) nu e in
    are_degrees found.0 (Ok nu) (found.1).1 (are_parts y groups found.0 d (found.1).0)

-- ---- by what the calls answered
pub known_missing : {K : Type 0} (y : Spans K) (groups : List (Group K)) → parts_of y groups ≡ None → known_degrees_of y groups ≡ Err (record {})
unfolding known_degrees_of
known_missing y groups e = ap known_by_parts e

pub known_there : {K : Type 0} (y : Spans K) (groups : List (Group K)) (ps : List Part) → parts_of y groups ≡ Some ps → known_degrees_of y groups ≡ known_degrees ps
unfolding known_degrees_of
known_there y groups ps e = ap known_by_parts e
