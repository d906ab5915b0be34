-- What a point and a span that was rounded outwards enclose.
use Rattle.std.specs.Prelude.{◌≡◌, Option, None, Some, IsSome, is_some, Result, IfOk, ℤ, pos, refl}
use Rattle.std.specs.Option.{ok_or, ForSome}
use Rattle.std.proofs.Common.{sym, ap, subst, ◌∙◌}
use Rattle.std.proofs.lemmas.Bool.{false≢true}
use Rattle.std.proofs.lemmas.Option.{none-some, same_Some}
use Rattle.exact_fraction.specs.Number.{ℚ, of_ℤ, ◌+ℚ◌, ◌≤ℚ◌}
use Rattle.exact_fraction.specs.NumberLaws.{≤ℚ_refl, ≤ℚ_trans, +ℚ-≤ℚ_both}
use Rattle.decimal18.specs.Bound.{Bound, scaled, value_of}
use Rattle.decimal18.specs.Down.{down, up, IsInRange}
use Rattle.decimal18.proofs.Values.{value-whole}
use Rattle.decimal18.proofs.Rounding.{down_some, down_none}
use Rattle.decimal18.proofs.Upward.{up_some, up_none}
use Rattle.fixed_interval.specs.Interval.{Interval, Encloses, IsOrdered, from_ends, outward, point_span, sum_span}
use Rattle.fixed_interval.specs.Rules.{one_bound}
use Rattle.fixed_interval.specs.Sums.{zero_span}

-- ---- points
pub point_encloses : (b : Bound) → Encloses (point_span b) (value_of b)
point_encloses b = record { low = ≤ℚ_refl (value_of b); high = ≤ℚ_refl (value_of b) }

pub whole_encloses : (z : ℤ) → Encloses (point_span (scaled z 0)) (of_ℤ z)
whole_encloses z = subst (Encloses (point_span (scaled z 0))) (value-whole z) (point_encloses (scaled z 0))

pub zero_encloses : Encloses zero_span (of_ℤ (pos 0))
zero_encloses = whole_encloses (pos 0)

pub one_encloses : Encloses (point_span one_bound) (of_ℤ (pos 1))
one_encloses = whole_encloses (pos 1)

-- ---- spans that were rounded outwards
-- both ends are the answers of `down` and `up`
pub record IsOutward (least greatest : ℚ) (s : Interval) : Type 0 where
  pub lo : down least ≡ Some s.lo
  pub hi : up greatest ≡ Some s.hi

ends_of : (l h : Option Bound) (s : Interval) → from_ends l h ≡ Some s → (l ≡ Some s.lo) × (h ≡ Some s.hi)
ends_of None h s e = absurd (none-some s e)
ends_of (Some lo) None s e = absurd (none-some s e)
ends_of (Some lo) (Some hi) s e = (ap (λ t. Some t.lo) (same_Some _ s e), ap (λ t. Some t.hi) (same_Some _ s e))

pub outward_ends : (least greatest : ℚ) (s : Interval) → outward least greatest ≡ Some s → IsOutward least greatest s
unfolding outward
outward_ends least greatest s e = let ends = ends_of (down least) (up greatest) s e in record { lo = ends.0; hi = ends.1 }

-- the ends that were found are those of the span
pub outward-ends : (least greatest : ℚ) (lo hi : Option Bound) → lo ≡ down least → hi ≡ up greatest
    → from_ends lo hi ≡ outward least greatest
unfolding outward
outward-ends least greatest lo hi e f = rw (e, f) refl

-- it is there where both results are in range
both_there : (l h : Option Bound) → (l ≡ None → ⊥) → (h ≡ None → ⊥) → IsSome (from_ends l h)
both_there None h f g = absurd (f refl)
both_there (Some lo) None f g = absurd (g refl)
both_there (Some lo) (Some hi) f g = refl

pub outward_there : (least greatest : ℚ) → IsInRange least → IsInRange greatest → IsSome (outward least greatest)
unfolding outward
outward_there least greatest h k =
    both_there (down least) (up greatest) (λ n. down_none least n h) (λ n. up_none greatest n k)

pub no_span : (least greatest : ℚ) → outward least greatest ≡ None → IsInRange least → IsInRange greatest → ⊥
no_span least greatest e h k = false≢true (sym (ap is_some e) ∙ outward_there least greatest h k)

-- every exact result from the least to the greatest is enclosed
pub outward_encloses : (least greatest : ℚ) (s : Interval) → outward least greatest ≡ Some s
    → (q : ℚ) → least ≤ℚ q → q ≤ℚ greatest → Encloses s q
outward_encloses least greatest s e q above below =
    let ends = outward_ends least greatest s e in
    record {
      low = ≤ℚ_trans _ _ _ (down_some least s.lo ends.lo).1.not_above above;
      high = ≤ℚ_trans _ _ _ below (up_some greatest s.hi ends.hi).1.not_below;
    }

pub outward_ordered : (least greatest : ℚ) (s : Interval) → outward least greatest ≡ Some s → least ≤ℚ greatest → IsOrdered s
outward_ordered least greatest s e h =
    let ends = outward_ends least greatest s e in
    record { ordered = ≤ℚ_trans _ _ _ (down_some least s.lo ends.lo).1.not_above (≤ℚ_trans _ _ _ h (up_some greatest s.hi ends.hi).1.not_below) }

pub sum_span_encloses : (a b s : Interval) → sum_span a b ≡ Some s → (q r : ℚ) → Encloses a q → Encloses b r → Encloses s (q +ℚ r)
sum_span_encloses a b s e q r h k =
    outward_encloses _ _ s e (q +ℚ r) (+ℚ-≤ℚ_both _ _ _ _ h.low k.low) (+ℚ-≤ℚ_both _ _ _ _ h.high k.high)

-- ---- the answer of an operation
pub outward_answer : {E : Type 0} (least greatest : ℚ) (lo hi : Option Bound) (o : Option Interval) (r : Result Interval E) (error : E)
    → lo ≡ down least → hi ≡ up greatest → o ≡ from_ends lo hi → r ≡ ok_or o error → r ≡ ok_or (outward least greatest) error
outward_answer least greatest lo hi o r error e f h k = k ∙ ap (λ o. ok_or o error) (h ∙ outward-ends least greatest lo hi e f)

pub outward_in_order : (least greatest : ℚ) (lo hi : Option Bound) → lo ≡ down least → hi ≡ up greatest → least ≤ℚ greatest
    → ForSome (from_ends lo hi) IsOrdered
outward_in_order least greatest lo hi e f h s g = outward_ordered least greatest s (sym (outward-ends least greatest lo hi e f) ∙ g) h

pub sum_in_order : (a b : Interval) → IsOrdered a → IsOrdered b
    → (value_of a.lo +ℚ value_of b.lo) ≤ℚ (value_of a.hi +ℚ value_of b.hi)
sum_in_order a b h k = +ℚ-≤ℚ_both _ _ _ _ h.ordered k.ordered

-- what holds of each span that the rule gives holds of the one that was answered
pub answer_has : {E : Type 0} (o : Option Interval) (r : Result Interval E) (error : E) → r ≡ ok_or o error
    → (P : Interval → Type 0) → ((s : Interval) → o ≡ Some s → P s) → IfOk r P
answer_has o r error e P h = rw e (by o refl) where
  by : (t : Option Interval) → o ≡ t → IfOk (ok_or t error) P
  by None f = tt
  by (Some s) f = h s f
