-- Spans by the groups of a model's inputs enclose the law of the model.
use Rattle.std.specs.Prelude.{◌≡◌, ℕ, suc, Bool, true, false, cond, List, [], ◌∷◌, ◌++◌, map, Option, None, Some, pos, refl}
use Rattle.std.specs.Option.{unwrap_or}
use Rattle.std.proofs.Common.{sym, ◌∙◌, ap, ap₂, subst}
use Rattle.std.proofs.lemmas.Bool.{and_parts, and_from, true≢false}
use Rattle.exact_fraction.specs.Number.{ℚ, of_ℤ, ◌+ℚ◌, ◌*ℚ◌, ◌≤ℚ◌}
use Rattle.exact_fraction.specs.Sums.{total}
use Rattle.exact_law.specs.Model.{IsSameTest, Row, Body, Input, Formula, body_of, is_input, is_input_body, keys, absent, once, exact_slope}
use Rattle.exact_law.specs.Law.{AllGroups, IsSoundFor, inputs_of, inputs_with, law, part, part_of, stand_in, all_members, joint}
use Rattle.exact_law.specs.Law as exact
use Rattle.exact_law.specs.Renaming.{EachOf}
use Rattle.exact_law.proofs.Occurring.{total-on}
use Rattle.exact_law.proofs.Rows.{absent_once}
use Rattle.exact_law.proofs.Split.{law_split}
use Rattle.exact_law.proofs.Schwarz.{law_schwarz}
use Rattle.fixed_interval.specs.Interval.{Interval, Encloses}
use Rattle.fixed_interval.specs.Sums.{Holds, zero_span}
use Rattle.fixed_interval.proofs.Enclosures.{zero_encloses}
use Rattle.type_a.specs.Tables.{Table}
use Rattle.covariance.specs.Gradients.{Spans, AllEnclose}
use Rattle.covariance.specs.Groups.{Group, Single, Pair, Columns, members, IsRegular, AreRegular, placed, column, exact_group, exact_within}
use Rattle.covariance.specs.Variances.{group_variance_span, meets, combined_variance_span, combined_covariance_span}
use Rattle.covariance.specs.Models.{EnclosesSlopes, IsInput, are_apart, AreGroupsOf, EachMember}
use Rattle.covariance.proofs.Exact.{regular-sound, part-double_sum}
use Rattle.covariance.proofs.Enclosed.{group_variance_holds, variance_is_enclosed, covariance_is_enclosed, no_part}
use Rattle.covariance.proofs.Renamed.{each-placed, each_then, each_member_then, group_variance-on, meets-on, variance-on, covariance-on}

-- ---- members stand among the inputs
pub stand_parts : {K : Type 0} (same : K → K → Bool) (inputs xs ys : List K) → stand_in same inputs (xs ++ ys) ≡ true
    → (stand_in same inputs xs ≡ true) × (stand_in same inputs ys ≡ true)
unfolding stand_in
stand_parts same inputs [] ys h = (refl, h)
stand_parts same inputs (x ∷ xs) ys h =
    let both = and_parts (once same x inputs) (stand_in same inputs (xs ++ ys)) h in
    let rest = stand_parts same inputs xs ys both.1 in
    (and_from (once same x inputs) (stand_in same inputs xs) both.0 rest.0, rest.1)

keys_are : {K : Type 0} (table : Table) (i : ℕ) (ks : List K) → map (λ (a : exact.Column K). a.key) (map (column table) (placed i ks)) ≡ ks
keys_are table i [] = refl
keys_are table i (k ∷ ks) = ap (λ ns. k ∷ ns) (keys_are table (suc i) ks)

pub members_are : {K : Type 0} (g : Group K) → exact.members (exact_group g) ≡ members g
unfolding exact.members
members_are (Single k shape dof) = refl
members_are (Pair k s m t r) = refl
members_are (Columns ks readings) = keys_are readings 0 ks

pub groups_sound : {K : Type 0} (same : K → K → Bool) (inputs : List K) (gs : List (Group K)) → AreRegular gs
    → stand_in same inputs (all_members (map exact_group gs)) ≡ true → AllGroups (IsSoundFor same inputs) (map exact_group gs)
unfolding AllGroups all_members
groups_sound same inputs [] r h = tt
groups_sound same inputs (g ∷ gs) r h =
    let parts = stand_parts same inputs (exact.members (exact_group g)) (all_members (map exact_group gs)) h in
    (record { sound = regular-sound g r.0; in_inputs = parts.0 }, groups_sound same inputs gs r.1 parts.1)

pub are_sound : {K : Type 0} (same : K → K → Bool) (model : List (Row K)) (groups : List (Group K)) → AreGroupsOf same model groups
    → AllGroups (IsSoundFor same (inputs_of model)) (map exact_group groups)
are_sound same model groups a = groups_sound same (inputs_of model) groups a.regular a.parted.members_in_inputs

-- ---- and are inputs
absent_with : {K : Type 0} (same : K → K → Bool) (i : K) (b : Body K) (n : K) (ns : List K) → absent same i (n ∷ ns) ≡ true → absent same i (inputs_with b n ns) ≡ true
unfolding absent inputs_with
absent_with same i (Input q) n ns h = h
absent_with same i (Formula f) n ns h = (and_parts _ _ h).1

no_input : {K : Type 0} (same : K → K → Bool) (i : K) (rows : List (Row K)) → absent same i (keys rows) ≡ true → absent same i (inputs_of rows) ≡ true
unfolding absent keys inputs_of
no_input same i [] h = refl
no_input same i (r ∷ rs) h =
    let both = and_parts _ (absent same i (keys rs)) h in
    absent_with same i r.body r.key (inputs_of rs) (and_from _ (absent same i (inputs_of rs)) both.0 (no_input same i rs both.1))

-- a key that stands once among the inputs is that of an input
one_input : {K : Type 0} (same : K → K → Bool) → IsSameTest same → (rows : List (Row K)) → are_apart same (keys rows) ≡ true
    → (i : K) → once same i (inputs_of rows) ≡ true → IsInput same rows i
unfolding keys inputs_of inputs_with body_of once
one_input same law [] a i o = absurd (true≢false (sym o))
one_input {K} same law (r ∷ rs) a i o = by r.body o (one_input same law rs (and_parts (absent same r.key (keys rs)) (are_apart same (keys rs)) a).1 i) where
  here : (b : Bool) → same r.key i ≡ b → (f : Body K) → once same i (inputs_of rs) ≡ true → (once same i (inputs_of rs) ≡ true → IsInput same rs i)
      → (q : ℚ) × (cond b (Some f) (body_of same rs i) ≡ Some (Input q))
  here true e f o rest =
      let out : absent same i (keys rs) ≡ true =
      subst (λ k. absent same k (keys rs) ≡ true) (law.sound r.key i e) (and_parts (absent same r.key (keys rs)) (are_apart same (keys rs)) a).0 in
      absurd (true≢false (sym o ∙ absent_once same i (inputs_of rs) (no_input same i rs out)))
  here false e f o rest = rest o

  is_it : (b : Bool) (q : ℚ) → cond b (absent same i (inputs_of rs)) (once same i (inputs_of rs)) ≡ true → (once same i (inputs_of rs) ≡ true → IsInput same rs i)
      → (p : ℚ) × (cond b (Some (Input q)) (body_of same rs i) ≡ Some (Input p))
  is_it true q o rest = (q, refl)
  is_it false q o rest = rest o

  by : (b : Body K) → once same i (inputs_with b r.key (inputs_of rs)) ≡ true → (once same i (inputs_of rs) ≡ true → IsInput same rs i)
      → (q : ℚ) × (cond (same r.key i) (Some b) (body_of same rs i) ≡ Some (Input q))
  by (Input q) o rest = is_it (same r.key i) q o rest
  by (Formula f) o rest = here (same r.key i) refl (Formula f) o rest

each_input : {K : Type 0} (same : K → K → Bool) → IsSameTest same → (model : List (Row K)) → are_apart same (keys model) ≡ true
    → (ks : List K) → stand_in same (inputs_of model) ks ≡ true → EachOf (IsInput same model) ks
unfolding stand_in EachOf
each_input same law model a [] h = tt
each_input same law model a (k ∷ ks) h =
    let both = and_parts (once same k (inputs_of model)) (stand_in same (inputs_of model) ks) h in
    (one_input same law model a k both.0, each_input same law model a ks both.1)

all_inputs : {K : Type 0} (same : K → K → Bool) → IsSameTest same → (model : List (Row K)) → are_apart same (keys model) ≡ true
    → (gs : List (Group K)) → stand_in same (inputs_of model) (all_members (map exact_group gs)) ≡ true → EachMember (IsInput same model) gs
unfolding all_members
all_inputs same law model a [] h = tt
all_inputs same law model a (g ∷ gs) h =
    let parts = stand_parts same (inputs_of model) (exact.members (exact_group g)) (all_members (map exact_group gs)) h in
    (each_input same law model a (members g) (subst (λ ks. stand_in same (inputs_of model) ks ≡ true) (members_are g) parts.0), all_inputs same law model a gs parts.1)

pub members_are_inputs : {K : Type 0} (same : K → K → Bool) → IsSameTest same → (model : List (Row K)) (groups : List (Group K)) → AreGroupsOf same model groups
    → EachMember (IsInput same model) groups
members_are_inputs same law model groups a = all_inputs same law model a.apart groups a.parted.members_in_inputs

-- ---- sensitivities to inputs alone
-- outside the inputs there is none
abbrev spans_by : {K : Type 0} → (K → K → Bool) → List (Row K) → Spans K → Spans K
spans_by same model y k = cond (is_input same model k) (y k) None

abbrev slopes_by : {K : Type 0} → (K → K → Bool) → List (Row K) → K → K → ℚ
slopes_by same model m k = cond (is_input same model k) (exact_slope same model m k) (of_ℤ (pos 0))

all_enclosed : {K : Type 0} (same : K → K → Bool) (model : List (Row K)) (m : K) (y : Spans K) → EnclosesSlopes same model m y
    → AllEnclose (spans_by same model y) (slopes_by same model m)
unfolding is_input is_input_body
all_enclosed {K} same model m y h k = by (body_of same model k) refl where
  by : (b : Option (Body K)) → body_of same model k ≡ b
      → Encloses (unwrap_or (cond (is_input_body b) (y k) None) zero_span) (cond (is_input_body b) (exact_slope same model m k) (of_ℤ (pos 0)))
  by None e = zero_encloses
  by (Some (Input q)) e = h k q e
  by (Some (Formula f)) e = zero_encloses

span_there : {K : Type 0} (same : K → K → Bool) (model : List (Row K)) (y : Spans K) (k : K) → IsInput same model k → spans_by same model y k ≡ y k
unfolding is_input is_input_body
span_there same model y k p = ap (λ b. cond (is_input_body b) (y k) None) p.1

slope_there : {K : Type 0} (same : K → K → Bool) (model : List (Row K)) (m k : K) → IsInput same model k → slopes_by same model m k ≡ exact_slope same model m k
unfolding is_input is_input_body
slope_there same model m k p = ap (λ b. cond (is_input_body b) (exact_slope same model m k) (of_ℤ (pos 0))) p.1

-- a group's part depends on the sensitivities to its members alone
part-on : {K : Type 0} (P : K → Type 0) (u w v x : K → ℚ) → ((k : K) → P k → u k ≡ v k) → ((k : K) → P k → w k ≡ x k) → (g : Group K) → IsRegular g
    → EachOf P (members g) → part (exact_group g) u w ≡ part (exact_group g) v x
part-on {K} P u w v x h i g r o =
    let ps : List (ℕ × K) = placed 0 (members g) in
    let each : EachOf (λ (p : ℕ × K). P p.1) ps = each-placed P 0 (members g) o in
    part-double_sum g r u w
    ∙ total-on (λ (p : ℕ × K). P p.1) (λ p. total (λ q. u p.1 *ℚ w q.1 *ℚ exact_within g p.0 q.0) ps) (λ p. total (λ q. v p.1 *ℚ x q.1 *ℚ exact_within g p.0 q.0) ps)
    (λ p a. total-on (λ (q : ℕ × K). P q.1) (λ q. u p.1 *ℚ w q.1 *ℚ exact_within g p.0 q.0) (λ q. v p.1 *ℚ x q.1 *ℚ exact_within g p.0 q.0)
    (λ q b. ap₂ (λ s t. s *ℚ t *ℚ exact_within g p.0 q.0) (h p.1 a) (i q.1 b)) ps each) ps each
    ∙ sym (part-double_sum g r v x)

parts-on : {K : Type 0} (P : K → Type 0) (u w v x : K → ℚ) → ((k : K) → P k → u k ≡ v k) → ((k : K) → P k → w k ≡ x k) → (gs : List (Group K)) → AreRegular gs
    → EachMember P gs → total (λ g. part g u w) (map exact_group gs) ≡ total (λ g. part g v x) (map exact_group gs)
unfolding total
parts-on P u w v x h i [] r o = refl
parts-on P u w v x h i (g ∷ gs) r o = ap₂ ◌+ℚ◌ (part-on P u w v x h i g r.0 o.0) (parts-on P u w v x h i gs r.1 o.1)

-- ---- one group
pub part_holds : {K : Type 0} (same : K → K → Bool) (model : List (Row K)) (g : Group K) → IsRegular g → EachOf (IsInput same model) (members g)
    → (m : K) (y : Spans K) → EnclosesSlopes same model m y → Holds (group_variance_span y g) (part_of same model (exact_group g) m)
unfolding part_of
part_holds same model g r o m y h =
    let u = slopes_by same model m in
    subst (Holds (group_variance_span y g)) (part-on (IsInput same model) u u (exact_slope same model m) (exact_slope same model m) (slope_there same model m) (slope_there same model m) g r o)
    (subst (λ s. Holds s (part (exact_group g) u u))
    (group_variance-on g y (spans_by same model y) (each_then (IsInput same model) (λ k. spans_by same model y k ≡ y k) (span_there same model y) (members g) o))
    (group_variance_holds g r (spans_by same model y) u (all_enclosed same model m y h)))

pub no_part_of : {K : Type 0} (same : K → K → Bool) (model : List (Row K)) (g : Group K) → IsRegular g → EachOf (IsInput same model) (members g)
    → (m : K) (y : Spans K) → EnclosesSlopes same model m y → meets y g ≡ false → part_of same model (exact_group g) m ≡ of_ℤ (pos 0)
unfolding part_of
no_part_of same model g r o m y h e =
    let u = slopes_by same model m in
    sym (part-on (IsInput same model) u u (exact_slope same model m) (exact_slope same model m) (slope_there same model m) (slope_there same model m) g r o)
    ∙ no_part g r (spans_by same model y) u u (all_enclosed same model m y h)
    (meets-on g y (spans_by same model y) (each_then (IsInput same model) (λ k. spans_by same model y k ≡ y k) (span_there same model y) (members g) o) ∙ e)

-- ---- all groups
law_is : {K : Type 0} (same : K → K → Bool) → IsSameTest same → (model : List (Row K)) (groups : List (Group K)) → AreGroupsOf same model groups → (k m : K)
    → total (λ g. part g (slopes_by same model k) (slopes_by same model m)) (map exact_group groups) ≡ law same model (map exact_group groups) k m
unfolding law
law_is same law model groups a k m =
    parts-on (IsInput same model) (slopes_by same model k) (slopes_by same model m) (exact_slope same model k) (exact_slope same model m)
    (slope_there same model k) (slope_there same model m) groups a.regular (members_are_inputs same law model groups a)
    ∙ sym (law_split same law (inputs_of model) (exact_slope same model k) (exact_slope same model m) (map exact_group groups) (are_sound same model groups a))

spans_there : {K : Type 0} (same : K → K → Bool) → IsSameTest same → (model : List (Row K)) (groups : List (Group K)) → AreGroupsOf same model groups
    → (y : Spans K) → EachMember (λ k. spans_by same model y k ≡ y k) groups
spans_there same law model groups a y =
    each_member_then (IsInput same model) (λ k. spans_by same model y k ≡ y k) (span_there same model y) groups (members_are_inputs same law model groups a)

pub law_variance_holds : {K : Type 0} (same : K → K → Bool) → IsSameTest same → (model : List (Row K)) (groups : List (Group K)) → AreGroupsOf same model groups
    → (k : K) (y : Spans K) → EnclosesSlopes same model k y → Holds (combined_variance_span y groups) (law same model (map exact_group groups) k k)
law_variance_holds same law model groups a k y h =
    subst (Holds (combined_variance_span y groups)) (law_is same law model groups a k k)
    (subst (λ s. Holds s (total (λ g. part g (slopes_by same model k) (slopes_by same model k)) (map exact_group groups)))
    (variance-on groups y (spans_by same model y) (spans_there same law model groups a y))
    (variance_is_enclosed groups a.regular (spans_by same model y) (slopes_by same model k) (all_enclosed same model k y h)))

pub law_covariance_holds : {K : Type 0} (same : K → K → Bool) → IsSameTest same → (model : List (Row K)) (groups : List (Group K)) → AreGroupsOf same model groups
    → (k m : K) (y z : Spans K) → EnclosesSlopes same model k y → EnclosesSlopes same model m z
    → Holds (combined_covariance_span y z groups) (law same model (map exact_group groups) k m)
law_covariance_holds same law model groups a k m y z h i =
    subst (Holds (combined_covariance_span y z groups)) (law_is same law model groups a k m)
    (subst (λ s. Holds s (total (λ g. part g (slopes_by same model k) (slopes_by same model m)) (map exact_group groups)))
    (covariance-on groups y z (spans_by same model y) (spans_by same model z) (spans_there same law model groups a y) (spans_there same law model groups a z))
    (covariance_is_enclosed groups a.regular (spans_by same model y) (spans_by same model z) (slopes_by same model k) (slopes_by same model m)
    (all_enclosed same model k y h) (all_enclosed same model m z i)))

pub law_is_within : {K : Type 0} (same : K → K → Bool) → IsSameTest same → (model : List (Row K)) (groups : List (Group K)) → AreGroupsOf same model groups
    → (k m : K) → law same model (map exact_group groups) k m *ℚ law same model (map exact_group groups) k m
    ≤ℚ law same model (map exact_group groups) k k *ℚ law same model (map exact_group groups) m m
unfolding law
law_is_within same law model groups a k m =
    law_schwarz same law (inputs_of model) (map exact_group groups) (exact_slope same model k) (exact_slope same model m) (are_sound same model groups a)

-- a span that is there
pub there_encloses : (o : Option Interval) (q : ℚ) → Holds o q → (s : Interval) → o ≡ Some s → Encloses s q
there_encloses o q h s e = rw e at h
