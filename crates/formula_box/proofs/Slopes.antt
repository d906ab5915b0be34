-- The span of a derivative encloses the derivative.
use Rattle.std.specs.Prelude.{◌≡◌, ℕ, zero, suc, ◌-◌, ◌<◌, ℤ, pos, negsuc, Bool, true, false, ◌||◌, cond, List, [], ◌∷◌, bytes_eq, Option, None, Some, Result, Ok, Err, IfOk, refl}
use Rattle.std.proofs.Common.{sym, ◌∙◌, subst, arith}
use Rattle.std.proofs.lemmas.Bool.{or_parts}
use Rattle.exact_fraction.specs.Number.{ℚ, of_ℤ, ◌+ℚ◌, ◌*ℚ◌, ◌/ℚ◌, neg_ℚ, inv_ℚ}
use Rattle.exact_fraction.proofs.Ring.{ring, Whole, Minus as Opposite_of, ◌:+◌, ◌:-◌, ◌:*◌, x0, x1}
use Rattle.exact_fraction.specs.Powers.{power, whole_power}
use Rattle.exact_law.specs.Model.{value, slope, unit, power_slope as exact_power_slope}
use Rattle.decimal18.specs.Bound.{scaled}
use Rattle.fixed_interval.specs.Interval.{Interval, Encloses, point_span}
use Rattle.fixed_interval.specs.Rules.{one_bound, negative_span, quotient}
use Rattle.fixed_interval.specs.Powers.{power_span, then_span}
use Rattle.fixed_interval.specs.declared.faults.ArithFault.{ArithFault}
use Rattle.fixed_interval.specs.Sums.{zero_span, both, Holds}
use Rattle.fixed_interval.proofs.Enclosures.{whole_encloses, zero_encloses, one_encloses}
use Rattle.fixed_interval.proofs.Inclusions.{quotient_encloses}
use Rattle.fixed_interval.proofs.Sums.{some_holds, both_holds, sum_holds, difference_holds, product_holds}
use Rattle.fixed_interval.proofs.Negatives.{negative_span_encloses}
use Rattle.fixed_interval.proofs.Halving.{power_span_encloses}
use Rattle.formula_ast.specs.Trees.{Tree, Number, Variable, Opposite, Joined, Raised, IsExponent, HasExponents}
use Rattle.formula_ast.specs.declared.token.Sign.{Sign}
use Rattle.formula_ast.specs.declared.token.Sign.TheVariants.{Plus, Minus, Times, Over}
use Rattle.formula_box.specs.Values.{Answer, span_of, then_with, in_range}
use Rattle.formula_box.specs.Slopes.{occurs, divided, quotient_there, joined_slope, rising_factor, falling_factor, power_slope, there, where_used, slope_of, partial_of}
use Rattle.formula_box.specs.Exact.{expression_of, AreEnclosed, HasValueWithin, derivative}
use Rattle.formula_box.proofs.Enclosing.{from_holds}

ok_of_divided : (r : Result Interval ArithFault) (s : Interval) → divided r ≡ Some s → r ≡ Ok s
ok_of_divided (Err fault) s e = cc
ok_of_divided (Ok t) s e = cc

quotient_holds : (o p : Option Interval) (x y : ℚ) → Holds o x → Holds p y → Holds (both o p quotient_there) (x /ℚ y)
quotient_holds o p x y h k =
    both_holds o p quotient_there x y _ h k
    (λ a b s e i j. quotient_encloses a b (Ok s) (sym (ok_of_divided (quotient a b) s e)) x y i j)

power_holds : (o : Option Interval) (x : ℚ) (k : ℕ) → 0 < k → Holds o x → Holds (then_span o (λ s. power_span s k)) (power x k)
power_holds None x k k0 h = tt
power_holds (Some a) x k k0 h =
    some_holds (power_span a k) _ (λ s e. power_span_encloses a x h k k0 s e)

-- ---- the rules
abbrev joined_derivative : Sign → (v w x d e : ℚ) → ℚ
joined_derivative Plus v w x d e = d +ℚ e
joined_derivative Minus v w x d e = d +ℚ neg_ℚ e
joined_derivative Times v w x d e = (d *ℚ w) +ℚ (v *ℚ e)
joined_derivative Over v w x d e = (d +ℚ neg_ℚ (x *ℚ e)) /ℚ w

joined_holds : (s : Sign) (v w x d e : Option Interval) (vq wq xq dq eq : ℚ) → Holds v vq → Holds w wq → Holds x xq → Holds d dq → Holds e eq
    → Holds (joined_slope s v w x d e) (joined_derivative s vq wq xq dq eq)
joined_holds Plus v w x d e vq wq xq dq eq hv hw hx hd he = sum_holds d e dq eq hd he
joined_holds Minus v w x d e vq wq xq dq eq hv hw hx hd he = difference_holds d e dq eq hd he
joined_holds Times v w x d e vq wq xq dq eq hv hw hx hd he =
    sum_holds _ _ _ _ (product_holds d w dq wq hd hw) (product_holds v e vq eq hv he)
joined_holds Over v w x d e vq wq xq dq eq hv hw hx hd he =
    quotient_holds _ w _ wq (difference_holds d _ dq _ hd (product_holds x e xq eq hx he)) hw

rising_holds : (k : ℕ) (v : Option Interval) (vq : ℚ) → Holds v vq
    → Holds (rising_factor (suc (suc k)) v) (of_ℤ (pos (suc (suc k))) *ℚ power vq (suc k))
rising_holds k v vq h =
    let less : suc (suc k) - 1 ≡ suc k = omega arith in
    rw less
    (product_holds (Some (point_span (scaled (pos (suc (suc k))) 0))) (then_span v (λ s. power_span s (suc k))) _ _
    (whole_encloses (pos (suc (suc k)))) (power_holds v vq (suc k) (omega arith) h))

power_slope_holds : (k : ℤ) → IsExponent k → (v x d : Option Interval) (vq dq : ℚ) → Holds v vq → Holds x (whole_power vq k) → Holds d dq
    → Holds (power_slope k v x d) (exact_power_slope vq k *ℚ dq)
unfolding exact_power_slope power
power_slope_holds (pos zero) i v x d vq dq hv hx hd = absurd (i.nonzero refl)
power_slope_holds (pos (suc zero)) i v x d vq dq hv hx hd =
    subst (Holds d) (ring (dq ∷ []) x0 (Whole (pos 1) :* Whole (pos 1) :* x0) refl) hd
power_slope_holds (pos (suc (suc k))) i v x d vq dq hv hx hd =
    product_holds (rising_factor (suc (suc k)) v) d _ dq (rising_holds k v vq hv) hd
power_slope_holds (negsuc k) i v x d vq dq hv hx hd =
    product_holds (falling_factor (negsuc k) v x) d _ dq
    (quotient_holds _ v _ vq (product_holds (Some (point_span (scaled (negsuc k) 0))) x _ _ (whole_encloses (negsuc k)) hx) hv) hd

-- ---- a name that does not occur
joined_zero : (s : Sign) (v w x d e : ℚ) → d ≡ of_ℤ (pos 0) → e ≡ of_ℤ (pos 0) → joined_derivative s v w x d e ≡ of_ℤ (pos 0)
joined_zero Plus v w x d e h k = rw (h, k) (ring [] (Whole (pos 0) :+ Whole (pos 0)) (Whole (pos 0)) refl)
joined_zero Minus v w x d e h k = rw (h, k) (ring [] (Whole (pos 0) :- Whole (pos 0)) (Whole (pos 0)) refl)
joined_zero Times v w x d e h k = rw (h, k) (ring (w ∷ v ∷ []) ((Whole (pos 0) :* x0) :+ (x1 :* Whole (pos 0))) (Whole (pos 0)) refl)
joined_zero Over v w x d e h k =
    rw (h, k) (ring (x ∷ inv_ℚ w ∷ []) ((Whole (pos 0) :- (x0 :* Whole (pos 0))) :* x1) (Whole (pos 0)) refl)

joined_is : (v : List ℕ → ℚ) (n : List ℕ) (s : Sign) (a b : Tree) → derivative v n (Joined s a b)
    ≡ joined_derivative s (value v (expression_of a)) (value v (expression_of b)) (value v (expression_of (Joined s a b))) (derivative v n a) (derivative v n b)
unfolding slope
joined_is v n Plus a b = refl
joined_is v n Minus a b = refl
joined_is v n Times a b = refl
joined_is v n Over a b = refl

pub not_used : (v : List ℕ → ℚ) (n : List ℕ) (f : Tree) → occurs n f ≡ false → derivative v n f ≡ of_ℤ (pos 0)
unfolding slope unit
not_used v n (Number q) h = refl
not_used v n (Variable m) h = rw h refl
not_used v n (Opposite a) h = rw (not_used v n a h) (ring [] (Opposite_of (Whole (pos 0))) (Whole (pos 0)) refl)
not_used v n (Joined s a b) h =
    joined_is v n s a b
    ∙ joined_zero s _ _ _ _ _ (not_used v n a (or_parts (occurs n a) (occurs n b) h).0) (not_used v n b (or_parts (occurs n a) (occurs n b) h).1)
not_used v n (Raised a e) h =
    rw (not_used v n a h) (ring (exact_power_slope (value v (expression_of a)) e ∷ []) (x0 :* Whole (pos 0)) (Whole (pos 0)) refl)

-- ---- formulas
where_holds : (used : Bool) (o : Option Interval) (q : ℚ) → (used ≡ false → q ≡ of_ℤ (pos 0)) → Holds o q → Holds (where_used used o) q
where_holds true o q h k = k
where_holds false o q h k = rw (h refl) zero_encloses

value_holds : (r : Answer) (v : List ℕ → ℚ) (known : List ℕ → Bool) (f : Tree) → IfOk r (HasValueWithin v known f)
    → Holds (there r) (value v (expression_of f))
value_holds (Err fault) v known f h = tt
value_holds (Ok s) v known f h = h.enclosed

span_holds : (given : List ℕ → Option Interval) (v : List ℕ → ℚ) (known : List ℕ → Bool) → AreEnclosed given v known
    → (f : Tree) → HasExponents f → Holds (there (span_of given f)) (value v (expression_of f))
unfolding span_of
span_holds given v known all f h = value_holds _ v known f (from_holds given v known all 0 f h)

opposite_holds : (o : Option Interval) (q : ℚ) → Holds o q → Holds (then_span o (λ d. Some (negative_span d))) (neg_ℚ q)
opposite_holds None q h = tt
opposite_holds (Some s) q h = negative_span_encloses s q h

name_holds : (n m : List ℕ) (t : Bool) → bytes_eq n m ≡ t
    → Holds (Some (cond t (point_span one_bound) zero_span)) (cond t (of_ℤ (pos 1)) (of_ℤ (pos 0)))
name_holds n m true e = one_encloses
name_holds n m false e = zero_encloses

pub slope_holds : (given : List ℕ → Option Interval) (v : List ℕ → ℚ) (known : List ℕ → Bool) → AreEnclosed given v known
    → (n : List ℕ) (f : Tree) → HasExponents f → Holds (slope_of given n f) (derivative v n f)
unfolding slope unit value
slope_holds given v known all n (Number q) h = zero_encloses
slope_holds given v known all n (Variable m) h = name_holds n m (bytes_eq n m) refl
slope_holds given v known all n (Opposite a) h =
    where_holds (occurs n a) _ _ (λ e. not_used v n (Opposite a) e) (opposite_holds _ _ (slope_holds given v known all n a h))
slope_holds given v known all n (Joined s a b) h =
    rw (joined_is v n s a b)
    (where_holds (occurs n a || occurs n b) _ _ (λ e. sym (joined_is v n s a b) ∙ not_used v n (Joined s a b) e)
    (joined_holds s _ _ _ _ _ _ _ _ _ _ (span_holds given v known all a h.0) (span_holds given v known all b h.1)
    (span_holds given v known all (Joined s a b) h) (slope_holds given v known all n a h.0) (slope_holds given v known all n b h.1)))
slope_holds given v known all n (Raised a e) h =
    where_holds (occurs n a) _ _ (λ z. not_used v n (Raised a e) z)
    (power_slope_holds e h.1 _ _ _ _ _ (span_holds given v known all a h.0) (span_holds given v known all (Raised a e) h)
    (slope_holds given v known all n a h.0))

partial_ok : (r : Answer) (o : Option Interval) (s : Interval) → then_with r (λ value. in_range o) ≡ Ok s → o ≡ Some s
partial_ok (Err fault) o s e = cc
partial_ok (Ok t) None s e = cc
partial_ok (Ok t) (Some u) s e = cc

pub partial_encloses : (given : List ℕ → Option Interval) (v : List ℕ → ℚ) (known : List ℕ → Bool) → AreEnclosed given v known
    → (n : List ℕ) (f : Tree) → HasExponents f → (d : Interval) → partial_of given n f ≡ Ok d → Encloses d (derivative v n f)
unfolding partial_of
partial_encloses given v known all n f h d e =
    rw (partial_ok (span_of given f) (slope_of given n f) d e) at (slope_holds given v known all n f h)
