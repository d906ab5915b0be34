-- The spans of a variance and of a standard deviation enclose them.
use Rattle.std.specs.Prelude.{◌≡◌, ◌==◌, ◌||◌, IfOk, Bool, true, false, cond, Option, Some, None, Result, Ok, Err, ℕ, pos, refl}
use Rattle.std.specs.Option.{ok_or}
use Rattle.std.proofs.Common.{subst}
use Rattle.exact_fraction.specs.Number.{ℚ, of_ℤ, ◌+ℚ◌, ◌/ℚ◌}
use Rattle.decimal18.specs.Bound.{Bound, scaled, value_of}
use Rattle.decimal18.proofs.Values.{value-whole}
use Rattle.fixed_interval.specs.Interval.{Interval, Encloses, point_span}
use Rattle.fixed_interval.specs.Rules.{square_span, one_bound, product_span}
use Rattle.fixed_interval.specs.Powers.{then_span}
use Rattle.fixed_interval.specs.Sums.{Holds, both}
use Rattle.fixed_interval.specs.declared.faults.Overflow.{Overflow}
use Rattle.fixed_interval.proofs.Enclosures.{point_encloses, zero_encloses, one_encloses}
use Rattle.fixed_interval.proofs.Inclusions.{square_span_encloses}
use Rattle.fixed_interval.proofs.Sums.{some_holds, sum_holds, product_holds}
use Rattle.type_b.specs.declared.shape.Shape.{Shape}
use Rattle.type_b.specs.declared.shape.Shape.TheVariants.{Exact, Std, Exp, Norm, Rect, Tri, Trap, Arcsine}
use Rattle.type_b.specs.declared.shape.ShapeFault.{ShapeFault}
use Rattle.type_b.specs.declared.shape.ShapeFault.TheVariants.{Negative, ZeroK}
use Rattle.type_b.specs.Shapes.{checked, is_negative, is_zero}
use Rattle.type_b.specs.Variances.{normal_factor, square, square_of, divided, one_and_square_of, deviation_of, deviation_span, variance_of, variance_span}
use Rattle.type_b.proofs.Quotients.{quotient_holds}

pub then_holds : (o : Option Interval) (f : Interval → Option Interval) (x z : ℚ) → Holds o x
    → ((s : Interval) → Encloses s x → Holds (f s) z) → Holds (then_span o f) z
then_holds None f x z h rule = tt
then_holds (Some s) f x z h rule = rule s h

squared_holds : (o : Option Interval) (x : ℚ) → Holds o x → Holds (then_span o square_span) (square x)
squared_holds o x h = then_holds o square_span x _ h (λ s k. some_holds (square_span s) _ (λ t e. square_span_encloses s t e x k))

square_holds : (b : Bound) → Holds (square_of b) (square (value_of b))
square_holds b = squared_holds (Some (point_span b)) (value_of b) (point_encloses b)

divided_holds : (o : Option Interval) (b : Bound) → is_zero b ≡ false → (x : ℚ) → Holds o x → Holds (divided o b) (x /ℚ value_of b)
divided_holds o b n x h = then_holds o _ x _ h (λ s k. quotient_holds s b n x k)

-- by a whole number
over_holds : (o : Option Interval) (n : ℕ) → is_zero (scaled (pos n) 0) ≡ false → (x : ℚ) → Holds o x → Holds (divided o (scaled (pos n) 0)) (x /ℚ of_ℤ (pos n))
over_holds o n h x k = subst (λ y. Holds (divided o (scaled (pos n) 0)) (x /ℚ y)) (value-whole (pos n)) (divided_holds o (scaled (pos n) 0) h x k)

one_and_square_holds : (b : Bound) → Holds (one_and_square_of b) (of_ℤ (pos 1) +ℚ square (value_of b))
one_and_square_holds b =
    then_holds (square_of b) _ (square (value_of b)) _ (square_holds b)
    (λ s k. sum_holds (Some (point_span one_bound)) (Some s) (of_ℤ (pos 1)) (square (value_of b)) one_encloses k)

-- ---- what a checked shape has
pub factor_not_zero : (expanded k : Bound) → checked (Exp expanded k) ≡ Ok (record {}) → is_zero k ≡ false
factor_not_zero expanded k = by (is_negative expanded || is_negative k) (is_zero k) where
  by : (s t : Bool) → cond {A = Result Unit ShapeFault} s (Err Negative) (cond t (Err ZeroK) (Ok (record {}))) ≡ Ok (record {}) → t ≡ false
  by true t e = absurd (cc)
  by false true e = absurd (cc)
  by false false e = refl

normal_not_zero : (level : ℕ) → is_zero (normal_factor level) ≡ false
normal_not_zero level = by (level == 90) (level == 95) where
  by : (s t : Bool) → is_zero (cond s (scaled (pos 164) 2) (cond t (scaled (pos 196) 2) (scaled (pos 258) 2))) ≡ false
  by true t = refl
  by false true = refl
  by false false = refl

-- ---- the spans
pub deviation_holds : (s : Shape) → checked s ≡ Ok (record {}) → Holds (deviation_span s) (deviation_of s)
deviation_holds Exact c = tt
deviation_holds (Std u) c = point_encloses u
deviation_holds (Exp expanded k) c = divided_holds (Some (point_span expanded)) k (factor_not_zero expanded k c) _ (point_encloses expanded)
deviation_holds (Norm half level) c = divided_holds (Some (point_span half)) (normal_factor level) (normal_not_zero level) _ (point_encloses half)
deviation_holds (Rect half) c = tt
deviation_holds (Tri half) c = tt
deviation_holds (Trap half beta) c = tt
deviation_holds (Arcsine half) c = tt

pub variance_holds : (s : Shape) → checked s ≡ Ok (record {}) → Holds (variance_span s) (variance_of s)
variance_holds Exact c = zero_encloses
variance_holds (Std u) c = square_holds u
variance_holds (Exp expanded k) c = squared_holds (deviation_span (Exp expanded k)) _ (deviation_holds (Exp expanded k) c)
variance_holds (Norm half level) c = squared_holds (deviation_span (Norm half level)) _ (deviation_holds (Norm half level) c)
variance_holds (Rect half) c = over_holds (square_of half) 3 refl _ (square_holds half)
variance_holds (Tri half) c = over_holds (square_of half) 6 refl _ (square_holds half)
variance_holds (Trap half beta) c =
    over_holds (both (square_of half) (one_and_square_of beta) product_span) 6 refl _
    (product_holds (square_of half) (one_and_square_of beta) _ _ (square_holds half) (one_and_square_holds beta))
variance_holds (Arcsine half) c = over_holds (square_of half) 2 refl _ (square_holds half)

-- ---- the answers
encloses : (o : Option Interval) (r : Result Interval Overflow) (q : ℚ) → Holds o q → r ≡ ok_or o (record {}) → IfOk r (λ i. Encloses i q)
encloses None r q h e = rw e tt
encloses (Some i) r q h e = rw e h

pub deviation_encloses : (s : Shape) (r : Result Interval Overflow) → checked s ≡ Ok (record {}) → r ≡ ok_or (deviation_span s) (record {})
    → IfOk r (λ i. Encloses i (deviation_of s))
deviation_encloses s r c e = encloses (deviation_span s) r (deviation_of s) (deviation_holds s c) e

pub variance_encloses : (s : Shape) (r : Result Interval Overflow) → checked s ≡ Ok (record {}) → r ≡ ok_or (variance_span s) (record {})
    → IfOk r (λ i. Encloses i (variance_of s))
variance_encloses s r c e = encloses (variance_span s) r (variance_of s) (variance_holds s c) e
