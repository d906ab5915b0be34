-- Spans of groups depend on the members' sensitivities alone, under whatever keys.
use Rattle.std.specs.Prelude.{◌≡◌, ℕ, suc, Bool, true, false, if◌then◌else◌, ◌||◌, List, [], ◌∷◌, ◌++◌, map, filter, is_some, Option, refl}
use Rattle.std.specs.List.{list_any}
use Rattle.std.specs.Option.{option_map, unwrap_or}
use Rattle.std.proofs.Common.{sym, ◌∙◌, ap, ap₂}
use Rattle.exact_law.specs.Renaming.{EachOf}
use Rattle.fixed_interval.specs.Interval.{Interval}
use Rattle.fixed_interval.specs.Rules.{zero_bound, floored_span}
use Rattle.fixed_interval.specs.Sums.{sum_of, zero_span}
use Rattle.covariance.specs.Gradients.{Spans}
use Rattle.covariance.specs.Groups.{Group, Single, Pair, Columns, members, placed, covariance_within}
use Rattle.covariance.specs.Renaming.{renamed_group}
use Rattle.covariance.specs.Variances.{own_term, joint_term, twice_term, terms, cross_terms, at_key, at_places, group_variance_span, group_covariance_span, meets, combined_variance_span, combined_covariance_span}
use Rattle.covariance.specs.Models.{EachMember}

-- ---- terms of things that are replaced by others
module _ {X Y : Type 0} (h : X → Y) (P : X → Type 0) where
  pub mapped : {Z : Type 0} (f' : Y → Z) (f : X → Z) → ((x : X) → P x → f' (h x) ≡ f x) → (xs : List X) → EachOf P xs → map f' (map h xs) ≡ map f xs
  unfolding EachOf
  mapped f' f e [] o = refl
  mapped f' f e (x ∷ xs) o = ap₂ (λ y ys. y ∷ ys) (e x o.0) (mapped f' f e xs o.1)

  terms-mapped : (a' : Y → Interval) (a : X → Interval) (c' : Y → Y → Option Interval) (c : X → X → Option Interval)
      → ((x : X) → P x → a' (h x) ≡ a x) → ((x y : X) → c' (h x) (h y) ≡ c x y) → (xs : List X) → EachOf P xs
      → terms a' c' (map h xs) ≡ terms a c xs
  unfolding EachOf
  terms-mapped a' a c' c e k [] o = refl
  terms-mapped a' a c' c e k (x ∷ xs) o =
      ap₂ (λ ts us. ts ++ us)
      (ap₂ (λ t ts. t ∷ ts) (ap₂ own_term (e x o.0) (k x x))
      (mapped (λ y. twice_term (a' (h x)) (a' y) (c' (h x) y)) (λ y. twice_term (a x) (a y) (c x y))
      (λ y p. ap₂ (λ b d. twice_term b d (c' (h x) (h y))) (e x o.0) (e y p) ∙ ap (twice_term (a x) (a y)) (k x y)) xs o.1))
      (terms-mapped a' a c' c e k xs o.1)

  cross-mapped : (a' b' : Y → Interval) (a b : X → Interval) (c' : Y → Y → Option Interval) (c : X → X → Option Interval)
      → ((x : X) → P x → a' (h x) ≡ a x) → ((x : X) → P x → b' (h x) ≡ b x) → ((x y : X) → c' (h x) (h y) ≡ c x y)
      → (ys xs : List X) → EachOf P ys → EachOf P xs → cross_terms a' b' c' (map h ys) (map h xs) ≡ cross_terms a b c ys xs
  unfolding EachOf
  cross-mapped a' b' a b c' c e i k ys [] q o = refl
  cross-mapped a' b' a b c' c e i k ys (x ∷ xs) q o =
      ap₂ (λ ts us. ts ++ us)
      (mapped (λ y. joint_term (a' (h x)) (b' y) (c' (h x) y)) (λ y. joint_term (a x) (b y) (c x y))
      (λ y p. ap₂ (λ s t. joint_term s t (c' (h x) (h y))) (e x o.0) (i y p) ∙ ap (joint_term (a x) (b y)) (k x y)) ys q)
      (cross-mapped a' b' a b c' c e i k ys xs q o.1)

-- ---- members with their places
abbrev under : {K L : Type 0} → (K → L) → ℕ × K → ℕ × L
under f p = (p.0, f p.1)

placed-mapped : {K L : Type 0} (f : K → L) (i : ℕ) (ks : List K) → placed i (map f ks) ≡ map (under f) (placed i ks)
placed-mapped f i [] = refl
placed-mapped f i (k ∷ ks) = ap (λ ps. (i, f k) ∷ ps) (placed-mapped f (suc i) ks)

pub each-placed : {K : Type 0} (P : K → Type 0) (i : ℕ) (ks : List K) → EachOf P ks → EachOf (λ p. P p.1) (placed i ks)
unfolding EachOf
each-placed P i [] o = tt
each-placed P i (k ∷ ks) o = (o.0, each-placed P (suc i) ks o.1)

members-renamed : {K L : Type 0} (f : K → L) (g : Group K) → members (renamed_group f g) ≡ map f (members g)
members-renamed f (Single k shape dof) = refl
members-renamed f (Pair k s m t r) = refl
members-renamed f (Columns ks readings) = refl

placed-renamed : {K L : Type 0} (f : K → L) (g : Group K) → placed 0 (members (renamed_group f g)) ≡ map (under f) (placed 0 (members g))
placed-renamed f g = ap (placed 0) (members-renamed f g) ∙ placed-mapped f 0 (members g)

within-renamed : {K L : Type 0} (f : K → L) (g : Group K) (i j : ℕ) → covariance_within (renamed_group f g) i j ≡ covariance_within g i j
within-renamed f (Single k shape dof) i j = refl
within-renamed f (Pair k s m t r) i j = refl
within-renamed f (Columns ks readings) i j = refl

-- ---- one group
spans_alike : {K L : Type 0} (f : K → L) (y : Spans K) (z : Spans L) (p : ℕ × K) → z (f p.1) ≡ y p.1 → at_key z (under f p) ≡ at_key y p
spans_alike f y z p e = ap (λ o. unwrap_or o zero_span) e

pub group_variance-renamed : {K L : Type 0} (f : K → L) (g : Group K) (y : Spans K) (z : Spans L) → EachOf (λ k. z (f k) ≡ y k) (members g)
    → group_variance_span z (renamed_group f g) ≡ group_variance_span y g
unfolding group_variance_span
group_variance-renamed f g y z o =
    ap (λ ts. option_map (λ s. floored_span s zero_bound) (sum_of ts))
    (ap (terms (at_key z) (at_places (renamed_group f g))) (placed-renamed f g)
    ∙ terms-mapped (under f) (λ p. z (f p.1) ≡ y p.1) (at_key z) (at_key y) (at_places (renamed_group f g)) (at_places g) (spans_alike f y z)
    (λ p q. within-renamed f g p.0 q.0) (placed 0 (members g)) (each-placed (λ k. z (f k) ≡ y k) 0 (members g) o))

-- two facts of each member as one
each_both : {K : Type 0} (P Q : K → Type 0) (ks : List K) → EachOf P ks → EachOf Q ks → EachOf (λ k. P k × Q k) ks
unfolding EachOf
each_both P Q [] o q = tt
each_both P Q (k ∷ ks) o q = ((o.0, q.0), each_both P Q ks o.1 q.1)

-- that the spans of both quantities are as before
abbrev BothAlike : {K L : Type 0} → (K → L) → Spans K → Spans K → Spans L → Spans L → K → Type 0
BothAlike f y w z x k = (z (f k) ≡ y k) × (x (f k) ≡ w k)

pub group_covariance-renamed : {K L : Type 0} (f : K → L) (g : Group K) (y w : Spans K) (z x : Spans L) → EachOf (BothAlike f y w z x) (members g)
    → group_covariance_span z x (renamed_group f g) ≡ group_covariance_span y w g
unfolding group_covariance_span
group_covariance-renamed {K} f g y w z x o =
    let ps : List (ℕ × K) = placed 0 (members g) in
    ap sum_of
    (ap (λ qs. cross_terms (at_key z) (at_key x) (at_places (renamed_group f g)) qs qs) (placed-renamed f g)
    ∙ cross-mapped (under f) (λ p. BothAlike f y w z x p.1) (at_key z) (at_key x) (at_key y) (at_key w) (at_places (renamed_group f g)) (at_places g)
    (λ p e. spans_alike f y z p e.0) (λ p e. spans_alike f w x p e.1) (λ p q. within-renamed f g p.0 q.0) ps ps
    (each-placed (BothAlike f y w z x) 0 (members g) o) (each-placed (BothAlike f y w z x) 0 (members g) o))

any-mapped : {K L : Type 0} (f : K → L) (p : K → Bool) (q : L → Bool) (ks : List K) → EachOf (λ k. q (f k) ≡ p k) ks → list_any q (map f ks) ≡ list_any p ks
unfolding EachOf
any-mapped f p q [] o = refl
any-mapped f p q (k ∷ ks) o = ap₂ (λ b c. b || c) o.0 (any-mapped f p q ks o.1)

pub each_then : {K : Type 0} (P Q : K → Type 0) → ((k : K) → P k → Q k) → (ks : List K) → EachOf P ks → EachOf Q ks
unfolding EachOf
each_then P Q h [] o = tt
each_then P Q h (k ∷ ks) o = (h k o.0, each_then P Q h ks o.1)

pub meets-renamed : {K L : Type 0} (f : K → L) (g : Group K) (y : Spans K) (z : Spans L) → EachOf (λ k. z (f k) ≡ y k) (members g)
    → meets z (renamed_group f g) ≡ meets y g
meets-renamed f g y z o =
    ap (list_any (λ k. is_some (z k))) (members-renamed f g)
    ∙ any-mapped f (λ k. is_some (y k)) (λ k. is_some (z k)) (members g)
    (each_then (λ k. z (f k) ≡ y k) (λ k. is_some (z (f k)) ≡ is_some (y k)) (λ k e. ap is_some e) (members g) o)

-- ---- groups
pub each_member_then : {K : Type 0} (P Q : K → Type 0) → ((k : K) → P k → Q k) → (gs : List (Group K)) → EachMember P gs → EachMember Q gs
each_member_then P Q h [] o = tt
each_member_then P Q h (g ∷ gs) o = (each_then P Q h (members g) o.0, each_member_then P Q h gs o.1)

module _ {K L X : Type 0} (f : K → L) (P : K → Type 0) (counts : Group K → Bool) (counts' : Group L → Bool) (span : Group K → X) (span' : Group L → X)
    (as_counted : (g : Group K) → EachOf P (members g) → counts' (renamed_group f g) ≡ counts g)
    (as_spanned : (g : Group K) → EachOf P (members g) → span' (renamed_group f g) ≡ span g) where
  pub spans-renamed : (gs : List (Group K)) → EachMember P gs → map span' (filter counts' (map (renamed_group f) gs)) ≡ map span (filter counts gs)
  spans-renamed [] o = refl
  spans-renamed (g ∷ gs) o =
      ap (λ b. map span' (if b then renamed_group f g ∷ filter counts' (map (renamed_group f) gs) else filter counts' (map (renamed_group f) gs))) (as_counted g o.0)
      ∙ by (counts g) (spans-renamed gs o.1) where
        by : (b : Bool) → map span' (filter counts' (map (renamed_group f) gs)) ≡ map span (filter counts gs)
            → map span' (if b then renamed_group f g ∷ filter counts' (map (renamed_group f) gs) else filter counts' (map (renamed_group f) gs))
            ≡ map span (if b then g ∷ filter counts gs else filter counts gs)
        by true rest = ap₂ (λ o os. o ∷ os) (as_spanned g o.0) rest
        by false rest = rest

pub variance-renamed : {K L : Type 0} (f : K → L) (groups : List (Group K)) (y : Spans K) (z : Spans L) → EachMember (λ k. z (f k) ≡ y k) groups
    → combined_variance_span z (map (renamed_group f) groups) ≡ combined_variance_span y groups
variance-renamed f groups y z o =
    ap sum_of
    (spans-renamed f (λ k. z (f k) ≡ y k) (meets y) (meets z) (group_variance_span y) (group_variance_span z)
    (λ g e. meets-renamed f g y z e) (λ g e. group_variance-renamed f g y z e) groups o)

each_member_both : {K : Type 0} (P Q : K → Type 0) (gs : List (Group K)) → EachMember P gs → EachMember Q gs → EachMember (λ k. P k × Q k) gs
each_member_both P Q [] o q = tt
each_member_both P Q (g ∷ gs) o q = (each_both P Q (members g) o.0 q.0, each_member_both P Q gs o.1 q.1)

pub covariance-renamed : {K L : Type 0} (f : K → L) (groups : List (Group K)) (y w : Spans K) (z x : Spans L)
    → EachMember (λ k. z (f k) ≡ y k) groups → EachMember (λ k. x (f k) ≡ w k) groups
    → combined_covariance_span z x (map (renamed_group f) groups) ≡ combined_covariance_span y w groups
covariance-renamed f groups y w z x o q =
    ap sum_of
    (spans-renamed f (BothAlike f y w z x) (λ g. meets y g || meets w g) (λ g. meets z g || meets x g) (group_covariance_span y w) (group_covariance_span z x)
    (λ g e. ap₂ (λ b c. b || c)
    (meets-renamed f g y z (each_then (BothAlike f y w z x) (λ k. z (f k) ≡ y k) (λ k h. h.0) (members g) e))
    (meets-renamed f g w x (each_then (BothAlike f y w z x) (λ k. x (f k) ≡ w k) (λ k h. h.1) (members g) e)))
    (λ g e. group_covariance-renamed f g y w z x e) groups (each_member_both (λ k. z (f k) ≡ y k) (λ k. x (f k) ≡ w k) groups o q))

-- ---- the same keys
same_keys : {K : Type 0} (ks : List K) → map (λ k. k) ks ≡ ks
same_keys [] = refl
same_keys (k ∷ ks) = ap (λ ns. k ∷ ns) (same_keys ks)

same_group : {K : Type 0} (g : Group K) → renamed_group (λ k. k) g ≡ g
same_group (Single k shape dof) = refl
same_group (Pair k s m t r) = refl
same_group (Columns ks readings) = ap (λ ns. Columns ns readings) (same_keys ks)

same_groups : {K : Type 0} (gs : List (Group K)) → map (renamed_group (λ k. k)) gs ≡ gs
same_groups [] = refl
same_groups (g ∷ gs) = ap₂ (λ h hs. h ∷ hs) (same_group g) (same_groups gs)

-- the spans are those for other sensitivities that are the same to the members
pub group_variance-on : {K : Type 0} (g : Group K) (y z : Spans K) → EachOf (λ k. z k ≡ y k) (members g) → group_variance_span z g ≡ group_variance_span y g
group_variance-on g y z o = ap (group_variance_span z) (sym (same_group g)) ∙ group_variance-renamed (λ k. k) g y z o

pub meets-on : {K : Type 0} (g : Group K) (y z : Spans K) → EachOf (λ k. z k ≡ y k) (members g) → meets z g ≡ meets y g
meets-on g y z o = ap (meets z) (sym (same_group g)) ∙ meets-renamed (λ k. k) g y z o

pub variance-on : {K : Type 0} (groups : List (Group K)) (y z : Spans K) → EachMember (λ k. z k ≡ y k) groups
    → combined_variance_span z groups ≡ combined_variance_span y groups
variance-on groups y z o = ap (combined_variance_span z) (sym (same_groups groups)) ∙ variance-renamed (λ k. k) groups y z o

pub covariance-on : {K : Type 0} (groups : List (Group K)) (y w z x : Spans K) → EachMember (λ k. z k ≡ y k) groups → EachMember (λ k. x k ≡ w k) groups
    → combined_covariance_span z x groups ≡ combined_covariance_span y w groups
covariance-on groups y w z x o q = ap (combined_covariance_span z x) (sym (same_groups groups)) ∙ covariance-renamed (λ k. k) groups y w z x o q
