-- How many steps the operations of a variance and of a covariance take at most.
use Rattle.std.specs.Prelude.{◌≡◌, ℕ, zero, suc, ◌+◌, ◌*◌, ◌<◌, ◌≤◌, Bool, true, false, ◌||◌, if◌then◌else◌, List, [], ◌∷◌, map, filter, drop, get_or, length, is_some, sum_by, Option, None, Some, refl}
use Rattle.std.specs.List.{list_any}
use Rattle.std.proofs.Common.{sym, ◌∙◌, ap, arith}
use Rattle.std.proofs.lemmas.Bool.{true≢false}
use Rattle.std.proofs.Math.Nat.{mul-le-mul_right}
use Rattle.std.proofs.lemmas.List.{at_drop_more}
use Rattle.std.proofs.lemmas.List.Sums.{sum_by-append}
use Rattle.fixed_interval.specs.Interval.{Interval}
use Rattle.type_b.specs.declared.shape.Shape.{Shape}
use Rattle.type_b.specs.declared.shape.Shape.TheVariants.{Exact, Std, Exp, Norm, Rect, Tri, Trap, Arcsine}
use Rattle.type_b.specs.Variances.{steps_of_deviation, steps_of_variance}
use Rattle.covariance.specs.declared.group.Group.{Group as CodeGroup}
use Rattle.covariance.specs.Gradients.{Spans}
use Rattle.covariance.specs.Groups.{Group, members, group_of}
use Rattle.covariance.specs.Variances.{meets}
use Rattle.covariance.specs.Costs.{pairs, pairs_of}

-- ---- shapes
pub deviation_steps : (s : Shape) → steps_of_deviation s ≤ 3
deviation_steps Exact = omega arith
deviation_steps (Std u) = omega arith
deviation_steps (Exp expanded k) = omega arith
deviation_steps (Norm half level) = omega arith
deviation_steps (Rect half) = omega arith
deviation_steps (Tri half) = omega arith
deviation_steps (Trap half beta) = omega arith
deviation_steps (Arcsine half) = omega arith

pub variance_steps : (s : Shape) → steps_of_variance s ≤ 9
variance_steps Exact = omega arith
variance_steps (Std u) = omega arith
variance_steps (Exp expanded k) = omega arith
variance_steps (Norm half level) = omega arith
variance_steps (Rect half) = omega arith
variance_steps (Tri half) = omega arith
variance_steps (Trap half beta) = omega arith
variance_steps (Arcsine half) = omega arith

-- ---- rows of a group of m members, each of which takes at most k m steps
rows_most : (i k m : ℕ) → i ≤ m → i * (k * m) ≤ k * (m * m)
rows_most i k m h = let e = mul-le-mul_right (k * m) h in omega (arith, e)

pub row_more : (now next first i k m : ℕ) → now ≤ first + i * (k * m) → next ≤ now + k * m → next ≤ first + (i + 1) * (k * m)
row_more now next first i k m h e = omega (arith, h, e)

pub rows_spent : (now first i k m : ℕ) → i ≤ m → now ≤ first + i * (k * m) → now ≤ first + k * (m * m)
rows_spent now first i k m h e = let most = rows_most i k m h in omega (arith, most, e)

-- ---- groups
pub pairs_first : {K : Type 0} (counts : Group K → Bool) (g : Group K) (gs : List (Group K)) → pairs_of counts (g ∷ gs) ≡ pairs_of counts (g ∷ []) + pairs_of counts gs
pairs_first counts g gs = by (counts g) where
  by : (b : Bool) → sum_by pairs (if b then g ∷ filter counts gs else filter counts gs) ≡ sum_by pairs (if b then g ∷ [] else []) + sum_by pairs (filter counts gs)
  by true = sum_by-append pairs (g ∷ []) (filter counts gs)
  by false = sum_by-append pairs [] (filter counts gs)

pub pairs-next : (counts : Group ℕ → Bool) (gs : List CodeGroup) (i : ℕ) (g : CodeGroup) → i < length gs → get_or gs i g ≡ g
    → pairs_of counts (map group_of (drop i gs)) ≡ pairs_of counts (group_of g ∷ []) + pairs_of counts (map group_of (drop (i + 1) gs))
pairs-next counts gs i g h e =
    at_drop_more (λ xs. pairs_of counts (map group_of xs)) gs i g h
    ∙ ap (λ x. pairs_of counts (map group_of (x ∷ drop (i + 1) gs))) e
    ∙ pairs_first counts (group_of g) (map group_of (drop (i + 1) gs))

-- a group that counts has a member
some_pair : (n : ℕ) → 1 ≤ n → 1 ≤ n * n
some_pair zero h = absurd (omega (arith, h))
some_pair (suc n) h = omega arith

pub member_there : {K : Type 0} (p : K → Bool) (ks : List K) → list_any p ks ≡ true → 1 ≤ length ks
member_there p [] e = absurd (true≢false (sym e))
member_there p (k ∷ ks) e = omega arith

pub meets_pair : {K : Type 0} (y : Spans K) (g : Group K) → meets y g ≡ true → 1 ≤ pairs g
meets_pair y g e = some_pair (length (members g)) (member_there (λ k. is_some (y k)) (members g) e)

pub either_pair : {K : Type 0} (y z : Spans K) (g : Group K) → (meets y g || meets z g) ≡ true → 1 ≤ pairs g
either_pair y z g e = by (meets y g) refl e where
  by : (b : Bool) → meets y g ≡ b → (b || meets z g) ≡ true → 1 ≤ pairs g
  by true f e = meets_pair y g f
  by false f e = meets_pair z g e

-- a sum that had begun takes a step to go on
pub at_most_one_more : (now next first : ℕ) (sum : Option Interval) (p : ℕ) → now ≤ first + (14 * p + 1) → next ≡ now + (if is_some sum then 1 else 0)
    → next ≤ first + (14 * p + 2)
at_most_one_more now next first None p h e = omega (arith, h, e)
at_most_one_more now next first (Some s) p h e = omega (arith, h, e)

-- the steps of a group that counts
pub group_spent : {K : Type 0} (counts : Group K → Bool) (g : Group K) → counts g ≡ true → 1 ≤ pairs g → (now next : ℕ)
    → next ≤ now + (14 * pairs g + 2) → next ≤ now + 16 * pairs_of counts (g ∷ [])
group_spent {K} counts g e h now next k = by (counts g) e where
  by : (b : Bool) → b ≡ true → next ≤ now + 16 * sum_by pairs (if b then g ∷ [] else [])
  by true e = let one = sum_by-append pairs (g ∷ []) [] in omega (arith, h, k)
  by false e = absurd (true≢false (sym e))

-- the steps of a loop over groups, of which those from a place on are left
pub groups_more : (counts : Group ℕ → Bool) (gs : List CodeGroup) (i : ℕ) (g : CodeGroup) → i < length gs → get_or gs i g ≡ g → (now next first all : ℕ)
    → now + 16 * pairs_of counts (map group_of (drop i gs)) ≤ first + all → next ≤ now + 16 * pairs_of counts (group_of g ∷ [])
    → next + 16 * pairs_of counts (map group_of (drop (i + 1) gs)) ≤ first + all
groups_more counts gs i g h e now next first all k n = let p = pairs-next counts gs i g h e in omega (arith, p, k, n)
