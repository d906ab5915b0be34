-- The span that covers two rounded spans is that of the least of their least results and the greatest
-- of their greatest ones, and there is none exactly where one of the two is out of range.
use Rattle.std.specs.Prelude.{◌≡◌, Option, None, Some, refl}
use Rattle.exact_fraction.specs.Number.{ℚ, ◌≤ℚ◌, min_ℚ, max_ℚ}
use Rattle.exact_fraction.specs.NumberLaws.{≤ℚ_refl, ≤ℚ_trans}
use Rattle.decimal18.specs.Bound.{Bound, value_of}
use Rattle.decimal18.specs.Down.{down, up, IsInRange}
use Rattle.decimal18.proofs.Rounding.{down_some}
use Rattle.decimal18.proofs.Upward.{up_some}
use Rattle.fixed_interval.specs.Interval.{Interval, IsOrdered, outward}
use Rattle.fixed_interval.specs.Extremes.{lesser, greater, hull}
use Rattle.fixed_interval.proofs.Enclosures.{outward_ends, no_span}
use Rattle.exact_fraction.proofs.Extremes.{min-≤_left, min-≤_right, max-≥_left, max-≥_right}
use Rattle.fixed_interval.proofs.Least.{down-min, up-max, lesser-≤_left, greater-≥_left}

-- what was rounded outwards is in range
pub in_range : (least greatest : ℚ) (s : Interval) → outward least greatest ≡ Some s → (x : ℚ) → least ≤ℚ x → x ≤ℚ greatest → IsInRange x
in_range least greatest s e x h k =
    let ends = outward_ends least greatest s e in
    record {
      low = ≤ℚ_trans _ _ _ (down_some least s.lo ends.lo).0.low h;
      high = ≤ℚ_trans _ _ _ k (up_some greatest s.hi ends.hi).0.high;
    }

-- a span of results between others is there where theirs is
none_within : (least greatest x y : ℚ) → outward x y ≡ None → least ≤ℚ x → x ≤ℚ y → y ≤ℚ greatest → (o : Option Interval)
    → outward least greatest ≡ o → o ≡ None
none_within least greatest x y e h j k None g = refl
none_within least greatest x y e h j k (Some s) g =
    absurd (no_span x y e (in_range least greatest s g x h (≤ℚ_trans _ _ _ j k)) (in_range least greatest s g y (≤ℚ_trans _ _ _ h j) k))

pub outward_none : (least greatest x y : ℚ) → outward x y ≡ None → least ≤ℚ x → x ≤ℚ y → y ≤ℚ greatest → outward least greatest ≡ None
outward_none least greatest x y e h j k = none_within least greatest x y e h j k (outward least greatest) refl

pub outward_some : (least greatest : ℚ) (lo hi : Bound) → down least ≡ Some lo → up greatest ≡ Some hi
    → outward least greatest ≡ Some (record { lo = lo; hi = hi })
unfolding outward
outward_some least greatest lo hi e f = rw (e, f) refl

by_parts : (x y x' y' : ℚ) → x ≤ℚ y → x' ≤ℚ y' → (o o' : Option Interval) → outward x y ≡ o → outward x' y' ≡ o'
    → outward (min_ℚ x x') (max_ℚ y y') ≡ hull o o'
by_parts x y x' y' h k None o' e f = outward_none _ _ x y e (min-≤_left x x') h (max-≥_left y y')
by_parts x y x' y' h k (Some s) None e f = outward_none _ _ x' y' f (min-≤_right x x') k (max-≥_right y y')
by_parts x y x' y' h k (Some s) (Some t) e f =
    let ends = outward_ends x y s e in
    let others = outward_ends x' y' t f in
    outward_some _ _ _ _ (down-min x x' s.lo t.lo ends.lo others.lo) (up-max y y' s.hi t.hi ends.hi others.hi)

pub outward-hull : (x y x' y' : ℚ) → x ≤ℚ y → x' ≤ℚ y' → outward (min_ℚ x x') (max_ℚ y y') ≡ hull (outward x y) (outward x' y')
outward-hull x y x' y' h k = by_parts x y x' y' h k (outward x y) (outward x' y') refl refl

pub min-≤-max : (x y : ℚ) → min_ℚ x y ≤ℚ max_ℚ x y
min-≤-max x y = ≤ℚ_trans _ _ _ (min-≤_left x y) (max-≥_left x y)

-- two corners
pub two_corners : (p q : ℚ) → outward (min_ℚ p q) (max_ℚ p q) ≡ hull (outward p p) (outward q q)
two_corners p q = outward-hull p p q q (≤ℚ_refl p) (≤ℚ_refl q)

-- the ends of a span that covers two are in order
pub hull_in_order : (s t : Interval) → IsOrdered s → value_of (lesser s.lo t.lo) ≤ℚ value_of (greater s.hi t.hi)
hull_in_order s t h = ≤ℚ_trans _ _ _ (lesser-≤_left s.lo t.lo) (≤ℚ_trans _ _ _ h.ordered (greater-≥_left s.hi t.hi))
