-- Groups that part the inputs: the covariance of two inputs is the entry of their group, and 0 between
-- groups.
use Rattle.std.specs.Prelude.{◌≡◌, ℕ, Bool, true, false, cond, not, ◌&&◌, List, [], ◌∷◌, ◌++◌, map, pos, refl}
use Rattle.std.proofs.Common.{sym, ◌∙◌, ap, ap₂, subst}
use Rattle.std.proofs.lemmas.Bool.{and_parts, not-true, true≢false, and_from}
use Rattle.std.proofs.lemmas.List.{append_assoc}
use Rattle.exact_fraction.specs.Number.{ℚ, of_ℤ, ◌+ℚ◌, ◌*ℚ◌}
use Rattle.exact_fraction.specs.Sums.{total}
use Rattle.exact_fraction.proofs.Ring.{Whole, ◌:+◌, ◌:*◌, x0, x1, x2, zero-+ℚ, ring}
use Rattle.exact_fraction.proofs.SumLaws.{total-same, total-zero, total-times, total-append}
use Rattle.exact_law.specs.Model.{IsSameTest, unit, absent, once}
use Rattle.exact_law.specs.Law.{Column, Group, Own, Pair, Joint, joint, cell, covariance_in, covariance, members, all_members, stand_in, PartTheInputs, OnceAmong}
use Rattle.exact_law.proofs.Rows.{absent_once}

-- ---- keys in lists
absent-append_left : {K : Type 0} (same : K → K → Bool) (i : K) (xs ys : List K) → absent same i (xs ++ ys) ≡ true → absent same i xs ≡ true
unfolding absent
absent-append_left same i [] ys h = refl
absent-append_left same i (x ∷ xs) ys h = and_from _ _ (and_parts _ _ h).0 (absent-append_left same i xs ys (and_parts _ _ h).1)

absent-append_right : {K : Type 0} (same : K → K → Bool) (i : K) (xs ys : List K) → absent same i (xs ++ ys) ≡ true → absent same i ys ≡ true
unfolding absent
absent-append_right same i [] ys h = h
absent-append_right same i (x ∷ xs) ys h = absent-append_right same i xs ys (and_parts _ _ h).1

-- a key that stands once in all, and does not lack in the one part, lacks in the other
once_left : {K : Type 0} (same : K → K → Bool) (i : K) (xs ys : List K) → once same i (xs ++ ys) ≡ true → once same i xs ≡ true
    → absent same i ys ≡ true
unfolding once
once_left same i [] ys h k = absurd (true≢false (sym k))
once_left same i (x ∷ xs) ys h k = by (same x i) h k (λ g f. once_left same i xs ys g f) where
  by : (b : Bool) → cond b (absent same i (xs ++ ys)) (once same i (xs ++ ys)) ≡ true → cond b (absent same i xs) (once same i xs) ≡ true
      → (once same i (xs ++ ys) ≡ true → once same i xs ≡ true → absent same i ys ≡ true) → absent same i ys ≡ true
  by true h k rest = absent-append_right same i xs ys h
  by false h k rest = rest h k

once_right : {K : Type 0} (same : K → K → Bool) (i : K) (xs ys : List K) → once same i (xs ++ ys) ≡ true → absent same i ys ≡ false
    → (absent same i xs ≡ true) × (once same i ys ≡ true)
unfolding once absent
once_right same i [] ys h k = (refl, h)
once_right same i (x ∷ xs) ys h k = by (same x i) h (λ g. once_right same i xs ys g k) where
  by : (b : Bool) → cond b (absent same i (xs ++ ys)) (once same i (xs ++ ys)) ≡ true
      → (once same i (xs ++ ys) ≡ true → (absent same i xs ≡ true) × (once same i ys ≡ true))
      → ((not b && absent same i xs) ≡ true) × (once same i ys ≡ true)
  by true h rest = absurd (true≢false (sym (absent-append_right same i xs ys h) ∙ k))
  by false h rest = rest h

not_absent : {K : Type 0} (same : K → K → Bool) (i : K) (xs ys : List K) → once same i xs ≡ true → absent same i (xs ++ ys) ≡ false
not_absent same i xs ys h = by (absent same i (xs ++ ys)) refl where
  by : (b : Bool) → absent same i (xs ++ ys) ≡ b → b ≡ false
  by true e = absurd (true≢false (sym h ∙ absent_once same i xs (absent-append_left same i xs ys e)))
  by false e = refl

not_absent_of : {K : Type 0} (same : K → K → Bool) (i : K) (xs : List K) → once same i xs ≡ true → absent same i xs ≡ false
not_absent_of same i xs h = by (absent same i xs) refl where
  by : (b : Bool) → absent same i xs ≡ b → b ≡ false
  by true e = absurd (true≢false (sym h ∙ absent_once same i xs e))
  by false e = refl

stands : {K : Type 0} (same : K → K → Bool) → IsSameTest same → (inputs ns : List K) (i : K) → stand_in same inputs ns ≡ true
    → absent same i ns ≡ false → once same i inputs ≡ true
unfolding stand_in absent
stands same law inputs [] i h k = absurd (true≢false k)
stands same law inputs (n ∷ ns) i h k = by (same n i) refl k (λ g. stands same law inputs ns i (and_parts _ _ h).1 g) where
  by : (b : Bool) → same n i ≡ b → (not b && absent same i ns) ≡ false → (absent same i ns ≡ false → once same i inputs ≡ true)
      → once same i inputs ≡ true
  by true e k rest = subst (λ m. once same m inputs ≡ true) (law.sound n i e) (and_parts _ _ h).0
  by false e k rest = rest k

all_members-append : {K : Type 0} (before : List (Group K)) (g : Group K) (after : List (Group K))
    → all_members (before ++ g ∷ after) ≡ all_members before ++ (members g ++ all_members after)
unfolding all_members
all_members-append [] g after = refl
all_members-append (h ∷ before) g after =
    ap (λ t. members h ++ t) (all_members-append before g after) ∙ sym (append_assoc (members h) (all_members before) _)

-- ---- cells outside a group are 0
unit-absent : {K : Type 0} (same : K → K → Bool) → IsSameTest same → (i a : K) → same a i ≡ false → unit same i a ≡ of_ℤ (pos 0)
unfolding unit
unit-absent same law i a h = by (same i a) refl where
  by : (b : Bool) → same i a ≡ b → cond b (of_ℤ (pos 1)) (of_ℤ (pos 0)) ≡ of_ℤ (pos 0)
  by true e = absurd (true≢false (sym (law.complete a) ∙ ap (same a) (sym (law.sound i a e)) ∙ h))
  by false e = refl

unit-self : {K : Type 0} (same : K → K → Bool) → IsSameTest same → (i : K) → unit same i i ≡ of_ℤ (pos 1)
unfolding unit
unit-self same law i = ap (λ b. cond b (of_ℤ (pos 1)) (of_ℤ (pos 0))) (law.complete i)

first_absent : {K : Type 0} (same : K → K → Bool) (i a : K) (ns : List K) → absent same i (a ∷ ns) ≡ true → same a i ≡ false
unfolding absent
first_absent same i a ns h = not-true _ (and_parts _ _ h).0

rest_absent : {K : Type 0} (same : K → K → Bool) (i a : K) (ns : List K) → absent same i (a ∷ ns) ≡ true → absent same i ns ≡ true
unfolding absent
rest_absent same i a ns h = (and_parts _ _ h).1

cell-left : {K : Type 0} (same : K → K → Bool) (a b : K) (c : ℚ) (i j : K) → unit same i a ≡ of_ℤ (pos 0) → cell same a b c i j ≡ of_ℤ (pos 0)
unfolding cell
cell-left same a b c i j h =
    ap (λ t. t *ℚ unit same j b *ℚ c) h ∙ ring (unit same j b ∷ c ∷ []) (Whole (pos 0) :* x0 :* x1) (Whole (pos 0)) refl

cell-right : {K : Type 0} (same : K → K → Bool) (a b : K) (c : ℚ) (i j : K) → unit same j b ≡ of_ℤ (pos 0) → cell same a b c i j ≡ of_ℤ (pos 0)
unfolding cell
cell-right same a b c i j h =
    ap (λ t. unit same i a *ℚ t *ℚ c) h ∙ ring (unit same i a ∷ c ∷ []) (x0 :* Whole (pos 0) :* x1) (Whole (pos 0)) refl

cell-both : {K : Type 0} (same : K → K → Bool) → IsSameTest same → (a b : K) (c : ℚ) → cell same a b c a b ≡ c
unfolding cell
cell-both same law a b c = ap₂ (λ s t. s *ℚ t *ℚ c) (unit-self same law a) (unit-self same law b) ∙ ring (c ∷ []) (Whole (pos 1) :* Whole (pos 1) :* x0) x0 refl

four_zeros : (a b c d : ℚ) → a ≡ of_ℤ (pos 0) → b ≡ of_ℤ (pos 0) → c ≡ of_ℤ (pos 0) → d ≡ of_ℤ (pos 0) → (a +ℚ b) +ℚ (c +ℚ d) ≡ of_ℤ (pos 0)
four_zeros a b c d e f g h =
    ap₂ ◌+ℚ◌ (ap₂ ◌+ℚ◌ e f) (ap₂ ◌+ℚ◌ g h)
    ∙ ring [] ((Whole (pos 0) :+ Whole (pos 0)) :+ (Whole (pos 0) :+ Whole (pos 0))) (Whole (pos 0)) refl

abbrev keys_of : {K : Type 0} → List (Column K) → List K
keys_of columns = map (λ a. a.key) columns

rows-absent : {K : Type 0} (same : K → K → Bool) → IsSameTest same → (n : ℕ) (xs ys : List (Column K)) (i j : K) → absent same i (keys_of xs) ≡ true
    → total (λ a. total (λ b. cell same a.key b.key (joint n a.reading b.reading) i j) ys) xs ≡ of_ℤ (pos 0)
unfolding total
rows-absent same law n [] ys i j h = refl
rows-absent same law n (a ∷ xs) ys i j h =
    ap₂ ◌+ℚ◌
    (total-same _ (λ b. of_ℤ (pos 0)) ys
    (λ b. cell-left same a.key b.key (joint n a.reading b.reading) i j (unit-absent same law i a.key (first_absent same i a.key (keys_of xs) h))) ∙ total-zero ys)
    (rows-absent same law n xs ys i j (rest_absent same i a.key (keys_of xs) h))
    ∙ zero-+ℚ _

row-absent : {K : Type 0} (same : K → K → Bool) → IsSameTest same → (n : ℕ) (a : Column K) (ys : List (Column K)) (i j : K) → absent same j (keys_of ys) ≡ true
    → total (λ b. cell same a.key b.key (joint n a.reading b.reading) i j) ys ≡ of_ℤ (pos 0)
unfolding total
row-absent same law n a [] i j h = refl
row-absent same law n a (b ∷ ys) i j h =
    ap₂ ◌+ℚ◌
    (cell-right same a.key b.key (joint n a.reading b.reading) i j (unit-absent same law j b.key (first_absent same j b.key (keys_of ys) h)))
    (row-absent same law n a ys i j (rest_absent same j b.key (keys_of ys) h))
    ∙ zero-+ℚ _

-- no covariance with an input that is no member
left_absent : {K : Type 0} (same : K → K → Bool) → IsSameTest same → (g : Group K) (i j : K) → absent same i (members g) ≡ true
    → covariance_in same g i j ≡ of_ℤ (pos 0)
unfolding covariance_in members
left_absent same law (Own k c d) i j h = cell-left same k k c i j (unit-absent same law i k (first_absent same i k [] h))
left_absent same law (Pair k m v w c d) i j h =
    let k0 = unit-absent same law i k (first_absent same i k (m ∷ []) h) in
    let m0 = unit-absent same law i m (first_absent same i m [] (rest_absent same i k (m ∷ []) h)) in
    four_zeros _ _ _ _ (cell-left same k k v i j k0) (cell-left same m m w i j m0) (cell-left same k m c i j k0) (cell-left same m k c i j m0)
left_absent same law (Joint n columns) i j h = rows-absent same law n columns columns i j h

right_absent : {K : Type 0} (same : K → K → Bool) → IsSameTest same → (g : Group K) (i j : K) → absent same j (members g) ≡ true
    → covariance_in same g i j ≡ of_ℤ (pos 0)
unfolding covariance_in members
right_absent same law (Own k c d) i j h = cell-right same k k c i j (unit-absent same law j k (first_absent same j k [] h))
right_absent same law (Pair k m v w c d) i j h =
    let k0 = unit-absent same law j k (first_absent same j k (m ∷ []) h) in
    let m0 = unit-absent same law j m (first_absent same j m [] (rest_absent same j k (m ∷ []) h)) in
    four_zeros _ _ _ _ (cell-right same k k v i j k0) (cell-right same m m w i j m0) (cell-right same k m c i j m0) (cell-right same m k c i j k0)
right_absent same law (Joint n columns) i j h =
    total-same _ (λ a. of_ℤ (pos 0)) columns (λ a. row-absent same law n a columns i j h) ∙ total-zero columns

groups_absent : {K : Type 0} (same : K → K → Bool) → IsSameTest same → (groups : List (Group K)) (i j : K) → absent same i (all_members groups) ≡ true
    → covariance same groups i j ≡ of_ℤ (pos 0)
unfolding covariance total all_members
groups_absent same law [] i j h = refl
groups_absent same law (g ∷ gs) i j h =
    ap₂ ◌+ℚ◌ (left_absent same law g i j (absent-append_left same i (members g) (all_members gs) h))
    (groups_absent same law gs i j (absent-append_right same i (members g) (all_members gs) h))
    ∙ zero-+ℚ _

-- ---- the covariance is that of the input's own group
pub own_group : {K : Type 0} (same : K → K → Bool) → IsSameTest same → (inputs : List K) (before after : List (Group K)) (g : Group K)
    → PartTheInputs same inputs (before ++ g ∷ after) → (i j : K) → once same i (members g) ≡ true
    → covariance same (before ++ g ∷ after) i j ≡ covariance_in same g i j
unfolding covariance total
own_group {K = K} same law inputs before after g p i j i1 =
    total-append (λ h. covariance_in same h i j) before (g ∷ after)
    ∙ ap₂ (λ s t. s +ℚ (covariance_in same g i j +ℚ t)) (groups_absent same law before i j parts.0) (groups_absent same law after i j elsewhere)
    ∙ ring (covariance_in same g i j ∷ []) (Whole (pos 0) :+ (x0 :+ Whole (pos 0))) x0 refl where
      member : absent same i (all_members (before ++ g ∷ after)) ≡ false
      member = by (absent same i (all_members (before ++ g ∷ after))) refl where
        by : (b : Bool) → absent same i (all_members (before ++ g ∷ after)) ≡ b → b ≡ false
        by true e =
            let all = absent-append_right same i (all_members before) (members g ++ all_members after)
            (sym (ap (absent same i) (all_members-append before g after)) ∙ e) in
            absurd (true≢false (sym all ∙ not_absent same i (members g) (all_members after) i1))
        by false e = refl

      input : once same i inputs ≡ true
      input = stands same law inputs (all_members (before ++ g ∷ after)) i p.members_in_inputs member

      all_once : once same i (all_members before ++ (members g ++ all_members after)) ≡ true
      all_once =
          sym (ap (once same i) (all_members-append before g after))
          ∙ stands same law (all_members (before ++ g ∷ after)) inputs i p.inputs_in_groups (not_absent_of same i inputs input)

      parts : (absent same i (all_members before) ≡ true) × (once same i (members g ++ all_members after) ≡ true)
      parts = once_right same i (all_members before) (members g ++ all_members after) all_once (not_absent same i (members g) (all_members after) i1)

      elsewhere : absent same i (all_members after) ≡ true
      elsewhere = once_left same i (members g) (all_members after) parts.1 i1

pub between_groups : {K : Type 0} (same : K → K → Bool) → IsSameTest same → (inputs : List K) (before after : List (Group K)) (g : Group K)
    → PartTheInputs same inputs (before ++ g ∷ after) → (i j : K) → once same i (members g) ≡ true → absent same j (members g) ≡ true
    → covariance same (before ++ g ∷ after) i j ≡ of_ℤ (pos 0)
between_groups same law inputs before after g p i j i1 j0 =
    own_group same law inputs before after g p i j i1 ∙ right_absent same law g i j j0

-- ---- the entries of a group
pub own_entry : {K : Type 0} (same : K → K → Bool) → IsSameTest same → (k : K) (c d : ℚ) → covariance_in same (Own k c d) k k ≡ c
unfolding covariance_in
own_entry same law k c d = cell-both same law k k c

turned : {K : Type 0} (same : K → K → Bool) → IsSameTest same → (k m : K) → same k m ≡ false → same m k ≡ false
turned same law k m h = by (same m k) refl where
  by : (b : Bool) → same m k ≡ b → b ≡ false
  by true e = absurd (true≢false (sym (law.complete k) ∙ ap (same k) (sym (law.sound m k e)) ∙ h))
  by false e = refl

pub pair_entries : {K : Type 0} (same : K → K → Bool) → IsSameTest same → (k m : K) (v w c d : ℚ) → same k m ≡ false
    → (covariance_in same (Pair k m v w c d) k k ≡ v) × (covariance_in same (Pair k m v w c d) m m ≡ w)
    × (covariance_in same (Pair k m v w c d) k m ≡ c) × (covariance_in same (Pair k m v w c d) m k ≡ c)
unfolding covariance_in
pair_entries same law k m v w c d h = (
  ap₂ ◌+ℚ◌ (ap₂ ◌+ℚ◌ (cell-both same law k k v) (cell-left same m m w k k km)) (ap₂ ◌+ℚ◌ (cell-right same k m c k k km) (cell-left same m k c k k km))
      ∙ ring (v ∷ []) ((x0 :+ Whole (pos 0)) :+ (Whole (pos 0) :+ Whole (pos 0))) x0 refl,
  ap₂ ◌+ℚ◌ (ap₂ ◌+ℚ◌ (cell-left same k k v m m mk) (cell-both same law m m w)) (ap₂ ◌+ℚ◌ (cell-left same k m c m m mk) (cell-right same m k c m m mk))
      ∙ ring (w ∷ []) ((Whole (pos 0) :+ x0) :+ (Whole (pos 0) :+ Whole (pos 0))) x0 refl,
  ap₂ ◌+ℚ◌ (ap₂ ◌+ℚ◌ (cell-right same k k v k m mk) (cell-left same m m w k m km)) (ap₂ ◌+ℚ◌ (cell-both same law k m c) (cell-left same m k c k m km))
      ∙ ring (c ∷ []) ((Whole (pos 0) :+ Whole (pos 0)) :+ (x0 :+ Whole (pos 0))) x0 refl,
  ap₂ ◌+ℚ◌ (ap₂ ◌+ℚ◌ (cell-left same k k v m k mk) (cell-right same m m w m k km)) (ap₂ ◌+ℚ◌ (cell-left same k m c m k mk) (cell-both same law m k c))
      ∙ ring (c ∷ []) ((Whole (pos 0) :+ Whole (pos 0)) :+ (Whole (pos 0) :+ x0)) x0 refl,
) where
  km : unit same k m ≡ of_ℤ (pos 0)
  km = unit-absent same law k m (turned same law k m h)

  mk : unit same m k ≡ of_ℤ (pos 0)
  mk = unit-absent same law m k h

-- ---- the entries of a table
units_absent : {K : Type 0} (same : K → K → Bool) → IsSameTest same → (k : K) (f : Column K → ℚ) (columns : List (Column K)) → absent same k (keys_of columns) ≡ true
    → total (λ x. unit same k x.key *ℚ f x) columns ≡ of_ℤ (pos 0)
unfolding total
units_absent same law k f [] h = refl
units_absent same law k f (x ∷ xs) h =
    ap₂ ◌+ℚ◌
    (ap (λ t. t *ℚ f x) (unit-absent same law k x.key (first_absent same k x.key (keys_of xs) h)) ∙ ring (f x ∷ []) (Whole (pos 0) :* x0) (Whole (pos 0)) refl)
    (units_absent same law k f xs (rest_absent same k x.key (keys_of xs) h))
    ∙ zero-+ℚ _

picked : {K : Type 0} (same : K → K → Bool) → IsSameTest same → (a : Column K) (f : Column K → ℚ) (columns : List (Column K)) → OnceAmong same a columns
    → total (λ x. unit same a.key x.key *ℚ f x) columns ≡ f a
unfolding total
picked same law a f columns o =
    ap (total (λ x. unit same a.key x.key *ℚ f x)) o.is_one
    ∙ total-append (λ x. unit same a.key x.key *ℚ f x) o.before (a ∷ o.after)
    ∙ ap₂ ◌+ℚ◌ (units_absent same law a.key f o.before o.absent_before)
    (ap₂ (λ s t. s *ℚ f a +ℚ t) (unit-self same law a.key) (units_absent same law a.key f o.after o.absent_after))
    ∙ ring (f a ∷ []) (Whole (pos 0) :+ (Whole (pos 1) :* x0 :+ Whole (pos 0))) x0 refl

pub table_entry : {K : Type 0} (same : K → K → Bool) → IsSameTest same → (n : ℕ) (columns : List (Column K)) (a b : Column K)
    → OnceAmong same a columns → OnceAmong same b columns
    → covariance_in same (Joint n columns) a.key b.key ≡ joint n a.reading b.reading
unfolding covariance_in cell
table_entry same law n columns a b oa ob =
    total-same _ (λ x. unit same a.key x.key *ℚ joint n x.reading b.reading) columns
    (λ x. total-same _ (λ y. unit same a.key x.key *ℚ (unit same b.key y.key *ℚ joint n x.reading y.reading)) columns
    (λ y. ring (unit same a.key x.key ∷ unit same b.key y.key ∷ joint n x.reading y.reading ∷ []) (x0 :* x1 :* x2) (x0 :* (x1 :* x2)) refl)
    ∙ total-times (unit same a.key x.key) (λ y. unit same b.key y.key *ℚ joint n x.reading y.reading) columns
    ∙ ap (λ t. unit same a.key x.key *ℚ t) (picked same law b (λ y. joint n x.reading y.reading) columns ob))
    ∙ picked same law a (λ x. joint n x.reading b.reading) columns oa
