-- What is said of a correlation coefficient.
use Rattle.std.specs.Prelude.{◌≡◌, ℕ, zero, suc, ◌⊎◌, false, Option, None, Some, option_map, IfOk, Result, Ok, Err, ℤ, pos, negsuc, neg_ℤ, ◌≤ℤ◌, ◌<ℤ◌, unsigned_abs, refl, [], ◌∷◌}
use Rattle.std.specs.Option.{ok_or}
use Rattle.std.proofs.Common.{sym, ◌∙◌, ap, ap₂, subst, arith, inl, inr}
use Rattle.std.proofs.lemmas.Int.{ints}
use Rattle.exact_fraction.specs.Number.{ℚ, of_ℤ, ◌*ℚ◌, ◌/ℚ◌, is_zero_ℚ, ◌≤ℚ◌, ◌<ℚ◌, min_ℚ, max_ℚ}
use Rattle.exact_fraction.specs.NumberLaws.{≤ℚ_antisym, ≤ℚ_refl, ≤ℚ_trans, ≤ℚ_same}
use Rattle.exact_fraction.proofs.OrderLaws.{≤ℚ_left, ≤ℚ_right, /ℚ-≤ℚ_iff, *ℚ-not_negative, square-not_negative}
use Rattle.exact_fraction.proofs.Extremes.{min-≤_left, ≤-min, max-≥_left, max-≤}
use Rattle.exact_fraction.proofs.Quotients.{≢-is_zero_ℚ, ≡-/ℚ, /ℚ-*ℚ}
use Rattle.exact_fraction.proofs.Ring.{Whole, ◌:*◌, x0, x1, x2, x3, ring}
use Rattle.exact_fraction.proofs.Signs.{product_zero, inv-not_negative}
use Rattle.exact_fraction.proofs.Strict.{below_not, below_at_most, <ℚ-≤ℚ}
use Rattle.exact_law.specs.Rounding.{IsHundredths}
use Rattle.exact_law.proofs.RoundingLaws.{hundredths-between, hundredths-unique}
use Rattle.decimal18.specs.Bound.{value_of}
use Rattle.decimal18.proofs.Values.{value-whole}
use Rattle.fixed_interval.specs.Interval.{Interval, IsOrdered, Encloses}
use Rattle.fixed_interval.specs.Rules.{zero_bound, one_bound, quotient_span, product_span, cut_span}
use Rattle.fixed_interval.specs.Sums.{both, Holds as SpanHolds}
use Rattle.fixed_interval.specs.declared.faults.ArithFault.TheVariants.{Overflow as ArithOverflow}
use Rattle.fixed_interval.specs.declared.faults.Overflow.{Overflow}
use Rattle.fixed_interval.proofs.Inclusions.{quotient_encloses}
use Rattle.fixed_interval.proofs.Raising.{cut_span_encloses}
use Rattle.fixed_interval.proofs.Shares.{above_not_zero}
use Rattle.fixed_interval.proofs.Sums.{product_holds}
use Rattle.round_out.proofs.Coefficients.{quotient_is}
use Rattle.round_out.specs.Correlations.{IsZeroSpan, ArePositive, coefficient_square, IsSettled, IsSaidOf, IsSaid, IsTrueOf}
use Rattle.round_out.specs.declared.coefficient.CorrSaid.{CorrSaid}
use Rattle.round_out.specs.declared.coefficient.CorrSaid.TheVariants.{None as NoCoefficient, Unsettled, Hundredths}
use Rattle.round_out.proofs.Tens.{none_above, none_below, coefficient_above, coefficient_below, above_zero, below_zero, not_zero}

-- ---- hundredths with their sign
pub plus : (c f : Interval) (m : ℕ) → IsHundredths (value_of f.lo) m → IsHundredths (value_of f.hi) m → (m ≡ 0) ⊎ (pos 0 ≤ℤ c.lo.coefficient)
    → IsSettled c f (pos m)
plus c f m h k s = record {
  low = h;
  high = k;
  positive = λ g. by s g;
  negative = λ g. absurd (omega (arith, ints));
  below = λ g. absurd (omega (arith, ints));
} where
  by : (m ≡ 0) ⊎ (pos 0 ≤ℤ c.lo.coefficient) → pos 0 <ℤ pos m → of_ℤ (pos 0) ≤ℚ value_of c.lo
  by (inl e) g = absurd (omega (arith, ints))
  by (inr e) g = none_below c.lo e

pub minus : (c f : Interval) (m : ℕ) → IsHundredths (value_of f.lo) m → IsHundredths (value_of f.hi) m → c.hi.coefficient ≤ℤ pos 0
    → (pos 0 ≤ℤ c.lo.coefficient → ⊥) → IsSettled c f (neg_ℤ (pos m))
minus c f m h k high low =
    let size : unsigned_abs (neg_ℤ (pos m)) ≡ m = omega (arith, ints) in
    record {
      low = subst (λ t. IsHundredths (value_of f.lo) t) (sym size) h;
      high = subst (λ t. IsHundredths (value_of f.hi) t) (sym size) k;
      positive = λ g. absurd (omega (arith, ints));
      negative = λ g. none_above c.hi high;
      below = λ g. below_zero c.lo low;
    }

pub ends_differ : (c f : Interval) (m n : ℕ) → IsHundredths (value_of f.lo) m → IsHundredths (value_of f.hi) n → (m ≡ n → ⊥) → (d : ℤ) → IsSettled c f d → ⊥
ends_differ c f m n h k differ d s = differ (hundredths-unique _ _ _ h s.low ∙ sym (hundredths-unique _ _ _ k s.high))

pub no_sign : (c f : Interval) (m : ℕ) → IsHundredths (value_of f.lo) m → (m ≡ 0 → ⊥) → (pos 0 ≤ℤ c.lo.coefficient → ⊥) → (c.hi.coefficient ≤ℤ pos 0 → ⊥)
    → (d : ℤ) → IsSettled c f d → ⊥
no_sign c f m h some low high (pos zero) s = some (hundredths-unique _ m 0 h s.low)
no_sign c f m h some low high (pos (suc n)) s = low (coefficient_below c.lo (s.positive (omega (arith, ints))))
no_sign c f m h some low high (negsuc n) s = high (coefficient_above c.hi (s.negative (omega (arith, ints))))

-- ---- variances that are 0, and those above it
pub zero_span : (v : Interval) → v.hi.coefficient ≤ℤ pos 0 → of_ℤ (pos 0) ≤ℚ value_of v.lo → IsOrdered v → IsZeroSpan v
zero_span v h k o =
    let high : value_of v.hi ≡ of_ℤ (pos 0) = ≤ℚ_antisym _ _ (none_above v.hi h) (≤ℚ_trans _ _ _ k o.ordered) in
    record { low = ≤ℚ_antisym _ _ (≤ℚ_right _ _ _ high o.ordered) k; high = high }

pub no_zero_span : (v : Interval) → (v.hi.coefficient ≤ℤ pos 0 → ⊥) → IsZeroSpan v → ⊥
no_zero_span v h z = not_zero v.hi h z.high

pub positive : (v w : Interval) → (v.lo.coefficient ≤ℤ pos 0 → ⊥) → (w.lo.coefficient ≤ℤ pos 0 → ⊥) → ArePositive v w
positive v w h k = record { first = above_zero v.lo h; second = above_zero w.lo k }

pub not_positive : (v : Interval) → v.lo.coefficient ≤ℤ pos 0 → of_ℤ (pos 0) <ℚ value_of v.lo → ⊥
not_positive v h k = below_not _ _ k (none_above v.lo h)

-- ---- the answer
pub said_is : (c v w f : Interval) (s : CorrSaid) → (IsZeroSpan v → ⊥) → (IsZeroSpan w → ⊥) → ArePositive v w → coefficient_square c v w ≡ Some f
    → IsSaidOf c f s → IsSaid c v w (Ok s)
said_is c v w f NoCoefficient nv nw p e h = absurd h
said_is c v w f Unsettled nv nw p e h = record { first = nv; second = nw; nothing = λ q. (f, (e, h)) }
said_is c v w f (Hundredths d) nv nw p e h = (p, (f, (e, h)))

-- ---- what is said is so of exact numbers
all_zero : (v : Interval) → IsZeroSpan v → (x : ℚ) → Encloses v x → x ≡ of_ℤ (pos 0)
all_zero v z x h = ≤ℚ_antisym _ _ (≤ℚ_right _ _ _ z.high h.high) (≤ℚ_left _ _ _ (sym z.low) h.low)

pub either_zero : (v w : Interval) → IsZeroSpan v ⊎ IsZeroSpan w → (y z : ℚ) → Encloses v y → Encloses w z → (y ≡ of_ℤ (pos 0)) ⊎ (z ≡ of_ℤ (pos 0))
either_zero v w (inl g) y z h k = inl (all_zero v g y h)
either_zero v w (inr g) y z h k = inr (all_zero w g z k)

positive_not_zero : (x : ℚ) → of_ℤ (pos 0) <ℚ x → is_zero_ℚ x ≡ false
positive_not_zero x h = above_not_zero x (below_not _ _ h)

product_not_zero : (x y : ℚ) → of_ℤ (pos 0) <ℚ x → of_ℤ (pos 0) <ℚ y → is_zero_ℚ (x *ℚ y) ≡ false
product_not_zero x y h k = ≢-is_zero_ℚ _ (λ e. below_not _ _ k (≤ℚ_same _ _ (product_zero x y (positive_not_zero x h) e)))

same_square : (x y z : ℚ) → of_ℤ (pos 0) <ℚ y → of_ℤ (pos 0) <ℚ z → (x /ℚ y) *ℚ (x /ℚ z) ≡ x *ℚ x /ℚ (y *ℚ z)
same_square x y z h k =
    (≡-/ℚ ((x /ℚ y) *ℚ (x /ℚ z)) (x *ℚ x) (y *ℚ z) (product_not_zero y z h k)).1
    (ring ((x /ℚ y) ∷ (x /ℚ z) ∷ y ∷ z ∷ []) ((x0 :* x1) :* (x2 :* x3)) ((x0 :* x2) :* (x1 :* x3)) refl
    ∙ ap₂ ◌*ℚ◌ (/ℚ-*ℚ x y (positive_not_zero y h)) (/ℚ-*ℚ x z (positive_not_zero z k)))

square_low : (x y z : ℚ) → of_ℤ (pos 0) <ℚ y → of_ℤ (pos 0) <ℚ z → of_ℤ (pos 0) ≤ℚ x *ℚ x /ℚ (y *ℚ z)
square_low x y z h k =
    *ℚ-not_negative _ _ (square-not_negative x) (inv-not_negative _ (*ℚ-not_negative _ _ (below_at_most _ _ h) (below_at_most _ _ k)))

square_high : (x y z : ℚ) → of_ℤ (pos 0) <ℚ y → of_ℤ (pos 0) <ℚ z → x *ℚ x ≤ℚ y *ℚ z → x *ℚ x /ℚ (y *ℚ z) ≤ℚ of_ℤ (pos 1)
square_high x y z h k s =
    (/ℚ-≤ℚ_iff (x *ℚ x) (of_ℤ (pos 1)) (y *ℚ z) (*ℚ-not_negative _ _ (below_at_most _ _ h) (below_at_most _ _ k)) (product_not_zero y z h k)).1
    (≤ℚ_right _ _ _ (ring (y ∷ z ∷ []) (x0 :* x1) (Whole (pos 1) :* (x0 :* x1)) refl) s)

within_cut : (q low high : ℚ) → low ≤ℚ q → q ≤ℚ high → min_ℚ (max_ℚ q low) high ≡ q
within_cut q low high h k =
    ≤ℚ_antisym _ _ (≤ℚ_trans _ _ _ (min-≤_left _ _) (max-≤ _ _ _ (≤ℚ_refl _) h)) (≤-min _ _ _ (max-≥_left _ _) k)

quotient_holds : (c v : Interval) (x y : ℚ) → of_ℤ (pos 0) <ℚ value_of v.lo → Encloses c x → Encloses v y → SpanHolds (quotient_span c v) (x /ℚ y)
quotient_holds c v x y p h k = by (quotient_span c v) (quotient_encloses c v _ (sym (quotient_is c v p)) x y h k) where
  by : (o : Option Interval) → IfOk (ok_or o ArithOverflow) (λ s. Encloses s (x /ℚ y)) → SpanHolds o (x /ℚ y)
  by None g = tt
  by (Some s) g = g

cut_holds : (o : Option Interval) (f : Interval) (q : ℚ) → option_map (λ s. cut_span s zero_bound one_bound) o ≡ Some f → SpanHolds o q
    → of_ℤ (pos 0) ≤ℚ q → q ≤ℚ of_ℤ (pos 1) → Encloses f q
cut_holds None f q e h low high = cc
cut_holds (Some s) f q e h low high =
    let same : cut_span s zero_bound one_bound ≡ f = cc in
    subst (λ t. Encloses t q) same
    (subst (λ t. Encloses (cut_span s zero_bound one_bound) t)
    (within_cut q (value_of zero_bound) (value_of one_bound) (≤ℚ_left _ _ _ (value-whole (pos 0)) low) (≤ℚ_right _ _ _ (sym (value-whole (pos 1))) high))
    (cut_span_encloses s zero_bound one_bound q h))

square_encloses : (c v w f : Interval) → ArePositive v w → coefficient_square c v w ≡ Some f → (x y z : ℚ) → Encloses c x → Encloses v y → Encloses w z
    → x *ℚ x ≤ℚ y *ℚ z → Encloses f (x *ℚ x /ℚ (y *ℚ z))
square_encloses c v w f p e x y z h k l s =
    let first = <ℚ-≤ℚ _ _ _ p.first k.low in
    let second = <ℚ-≤ℚ _ _ _ p.second l.low in
    cut_holds _ f _ e
    (subst (λ t. SpanHolds (both (quotient_span c v) (quotient_span c w) product_span) t) (same_square x y z first second)
    (product_holds _ _ _ _ (quotient_holds c v x y p.first h k) (quotient_holds c w x z p.second h l)))
    (square_low x y z first second) (square_high x y z first second s)

pub said_is_true : (c v w f : Interval) (s : CorrSaid) → ArePositive v w → coefficient_square c v w ≡ Some f → IsSaidOf c f s
    → (x y z : ℚ) → Encloses c x → Encloses v y → Encloses w z → x *ℚ x ≤ℚ y *ℚ z → IsTrueOf s x y z
said_is_true c v w f NoCoefficient p e g x y z h k l s = absurd g
said_is_true c v w f Unsettled p e g x y z h k l s = tt
said_is_true c v w f (Hundredths d) p e g x y z h k l s =
    let square = square_encloses c v w f p e x y z h k l s in
    record {
      first = <ℚ-≤ℚ _ _ _ p.first k.low;
      second = <ℚ-≤ℚ _ _ _ p.second l.low;
      magnitude = hundredths-between _ _ _ (unsigned_abs d) square.low square.high g.low g.high;
      positive = λ i. ≤ℚ_trans _ _ _ (g.positive i) h.low;
      negative = λ i. ≤ℚ_trans _ _ _ h.high (g.negative i);
    }

-- ---- one answer
same_sign : (c f : Interval) (d e : ℤ) → IsSettled c f d → IsSettled c f e → unsigned_abs d ≡ unsigned_abs e → d ≡ e
same_sign c f (pos m) (pos n) h k i = ap pos i
same_sign c f (pos zero) (negsuc n) h k i = absurd (omega arith)
same_sign c f (pos (suc m)) (negsuc n) h k i = absurd (below_not _ _ (k.below (omega (arith, ints))) (h.positive (omega (arith, ints))))
same_sign c f (negsuc m) (pos zero) h k i = absurd (omega arith)
same_sign c f (negsuc m) (pos (suc n)) h k i = absurd (below_not _ _ (h.below (omega (arith, ints))) (k.positive (omega (arith, ints))))
same_sign c f (negsuc m) (negsuc n) h k i = let g : m ≡ n = omega arith in ap negsuc g

settled-unique : (c f : Interval) (d e : ℤ) → IsSettled c f d → IsSettled c f e → d ≡ e
settled-unique c f d e h k = same_sign c f d e h k (hundredths-unique _ _ _ h.low k.low)

not_both : (v w : Interval) → IsZeroSpan v ⊎ IsZeroSpan w → ArePositive v w → ⊥
not_both v w (inl z) p = below_not _ _ p.first (≤ℚ_same _ _ z.low)
not_both v w (inr z) p = below_not _ _ p.second (≤ℚ_same _ _ z.low)

neither : (v w : Interval) → IsZeroSpan v ⊎ IsZeroSpan w → (IsZeroSpan v → ⊥) → (IsZeroSpan w → ⊥) → ⊥
neither v w (inl z) h k = h z
neither v w (inr z) h k = k z

none_settled : (c : Interval) (o : Option Interval) (d : ℤ) → (f : Interval) × ((o ≡ Some f) × ((e : ℤ) → IsSettled c f e → ⊥))
    → (f : Interval) × ((o ≡ Some f) × IsSettled c f d) → ⊥
none_settled c o d (f, (e, h)) (g, (k, i)) =
    let same : g ≡ f = cc in
    h d (subst (λ t. IsSettled c t d) same i)

one_settled : (c : Interval) (o : Option Interval) (d e : ℤ) → (f : Interval) × ((o ≡ Some f) × IsSettled c f d)
    → (f : Interval) × ((o ≡ Some f) × IsSettled c f e) → d ≡ e
one_settled c o d e (f, (h, s)) (g, (k, t)) =
    let same : g ≡ f = cc in
    settled-unique c f d e s (subst (λ t. IsSettled c t e) same t)

missing_there : (o : Option Interval) (P : Interval → Type 0) → o ≡ None → (f : Interval) × ((o ≡ Some f) × P f) → ⊥
missing_there o P h (f, (e, p)) = cc

pub said-unique : (c v w : Interval) (r s : Result CorrSaid Overflow) → IsSaid c v w r → IsSaid c v w s → r ≡ s
said-unique c v w (Ok NoCoefficient) (Ok NoCoefficient) h k = refl
said-unique c v w (Ok NoCoefficient) (Ok Unsettled) h k = absurd (neither v w h k.first k.second)
said-unique c v w (Ok NoCoefficient) (Ok (Hundredths e)) h k = absurd (not_both v w h k.0)
said-unique c v w (Ok NoCoefficient) (Err fault) h k = absurd (not_both v w h k.0)
said-unique c v w (Ok Unsettled) (Ok NoCoefficient) h k = absurd (neither v w k h.first h.second)
said-unique c v w (Ok Unsettled) (Ok Unsettled) h k = refl
said-unique c v w (Ok Unsettled) (Ok (Hundredths e)) h k = absurd (none_settled c (coefficient_square c v w) e (h.nothing k.0) k.1)
said-unique c v w (Ok Unsettled) (Err fault) h k = absurd (missing_there (coefficient_square c v w) _ k.1 (h.nothing k.0))
said-unique c v w (Ok (Hundredths d)) (Ok NoCoefficient) h k = absurd (not_both v w k h.0)
said-unique c v w (Ok (Hundredths d)) (Ok Unsettled) h k = absurd (none_settled c (coefficient_square c v w) d (k.nothing h.0) h.1)
said-unique c v w (Ok (Hundredths d)) (Ok (Hundredths e)) h k = ap (λ t. Ok (Hundredths t)) (one_settled c (coefficient_square c v w) d e h.1 k.1)
said-unique c v w (Ok (Hundredths d)) (Err fault) h k = absurd (missing_there (coefficient_square c v w) _ k.1 h.1)
said-unique c v w (Err fault) (Ok NoCoefficient) h k = absurd (not_both v w k h.0)
said-unique c v w (Err fault) (Ok Unsettled) h k = absurd (missing_there (coefficient_square c v w) _ h.1 (k.nothing h.0))
said-unique c v w (Err fault) (Ok (Hundredths e)) h k = absurd (missing_there (coefficient_square c v w) _ h.1 k.1)
said-unique c v w (Err fault) (Err other) h k = refl
