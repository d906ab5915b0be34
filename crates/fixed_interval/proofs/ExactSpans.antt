-- A result that is a bound is both ends of its span.
use Rattle.std.specs.Prelude.{◌≡◌, ℕ, zero, suc, ◌+◌, ◌-◌, ◌^◌, ◌≤◌, ℤ, pos, ◌+ℤ◌, ◌*ℤ◌, Bool, true, false, cond, Option, None, Some, IfSome, refl}
use Rattle.std.proofs.Common.{sym, ap, ap₂, subst, arith, ◌∙◌}
use Rattle.std.proofs.lemmas.Option.{none-some, same_Some}
use lib.Signed.{≤ℤ_refl}
use Rattle.exact_fraction.specs.Number.{ℚ, ◌+ℚ◌, ◌*ℚ◌, ◌/ℚ◌, is_zero_ℚ}
use Rattle.exact_fraction.specs.NumberLaws.{≤ℚ_antisym, ≤ℚ_same}
use Rattle.exact_fraction.proofs.OrderLaws.{≤ℚ_left}
use Rattle.exact_fraction.proofs.Quotients.{*ℚ-/ℚ}
use Rattle.decimal18.specs.Bound.{Bound, scaled, value_of, canonical, IsDecimal}
use Rattle.decimal18.specs.Down.{down, cut_off, floor_at, fits_18_digits, is_in_range, IsInRange}
use Rattle.decimal18.proofs.Canonical.{IsReduced-canonical}
use Rattle.decimal18.proofs.CutOff.{above_bottom, below_top}
use Rattle.decimal18.proofs.Products.{value-product}
use Rattle.decimal18.proofs.Rounding.{down_some}
use Rattle.decimal18.proofs.Sums.{value-sum}
use Rattle.decimal18.proofs.Values.{value-shifted, value-rises, under_floor, under_value}
use Rattle.fixed_interval.specs.Interval.{outward, point_span}
use Rattle.fixed_interval.proofs.Hulls.{outward_some}
use Rattle.fixed_interval.proofs.Squares.{down_of_bound, up_of_bound}

pub exact_span : (x : ℚ) (d : Bound) → IsDecimal d → value_of d ≡ x → outward x x ≡ Some (point_span d)
exact_span x d h e =
    let r : IsInRange (value_of d) = record { low = above_bottom d h.bound; high = below_top d h.bound } in
    rw (← e) (outward_some _ _ _ _ (down_of_bound d h.bound h.canonical r) (up_of_bound d h.bound h.canonical r))

-- there is no span where there is no lower end
pub no_lower_end : (x y : ℚ) → None ≡ down x → None ≡ outward x y
unfolding outward
no_lower_end x y e = rw (← e) refl

-- the number with the sum of two coefficients, and with their product
pub sum_value : (a b : Bound) (c : ℤ) (p : ℕ) (o : Option Bound) → a.places ≡ b.places → c ≡ a.coefficient +ℤ b.coefficient → p ≡ a.places
    → IfSome o (λ d. d ≡ canonical c p) → IfSome o (λ d. value_of d ≡ value_of a +ℚ value_of b)
sum_value a b c p None s e f h = tt
sum_value a b c p (Some d) s e f h =
    ap value_of h ∙ (IsReduced-canonical c p).same ∙ ap (λ z. value_of (scaled z p)) e ∙ ap (λ n. value_of (scaled (a.coefficient +ℤ b.coefficient) n)) f
    ∙ sym (value-sum a.coefficient b.coefficient a.places) ∙ ap (λ n. value_of a +ℚ value_of (scaled b.coefficient n)) s

pub product_value : (a b : Bound) (c : ℤ) (p : ℕ) (o : Option Bound) → c ≡ (a.coefficient *ℤ b.coefficient) → p ≡ a.places + b.places
    → IfSome o (λ d. d ≡ canonical c p) → IfSome o (λ d. value_of d ≡ value_of a *ℚ value_of b)
product_value a b c p None e f h = tt
product_value a b c p (Some d) e f h =
    ap value_of h ∙ (IsReduced-canonical c p).same ∙ ap (λ z. value_of (scaled z p)) e ∙ ap (λ n. value_of (scaled (a.coefficient *ℤ b.coefficient) n)) f
    ∙ sym (value-product a.coefficient b.coefficient a.places b.places)

-- a rounded quotient that times the divisor is the dividend is exact
pub exact_quotient : (a b q : Bound) → is_zero_ℚ (value_of b) ≡ false → down (value_of a /ℚ value_of b) ≡ Some q
    → value_of a ≡ value_of q *ℚ value_of b → outward (value_of a /ℚ value_of b) (value_of a /ℚ value_of b) ≡ Some (point_span q)
exact_quotient a b q n e h =
    let found = down_some _ q e in
    exact_span _ q (record { bound = found.1.bound; canonical = found.2 })
    (sym (ap (λ x. x /ℚ value_of b) h ∙ *ℚ-/ℚ (value_of q) (value_of b) n))

-- ---- a sum that was rounded down to as many places as its terms have
-- b is x cut off after some number of places
record IsCut (x : ℚ) (b : Bound) : Type 0 where
  at : ℕ
  form : b ≡ canonical (floor_at x at) at

is_cut : (x : ℚ) (p : ℕ) → IsCut x (cut_off x p)
unfolding cut_off
is_cut x zero = record { at = 0; form = refl }
is_cut x (suc p) = by (fits_18_digits (floor_at x (suc p))) (is_cut x p) where
  by : (t : Bool) → IsCut x (cut_off x p) → IsCut x (cond t (canonical (floor_at x (suc p)) (suc p)) (cut_off x p))
  by true h = record { at = suc p; form = refl }
  by false h = h

down_is_cut : (x : ℚ) (b : Bound) → down x ≡ Some b → IsCut x b
unfolding down
down_is_cut x b = by (is_in_range x) where
  by : (t : Bool) → cond t (Some (cut_off x 36)) None ≡ Some b → IsCut x b
  by true e = subst (IsCut x) (same_Some _ b e) (is_cut x 36)
  by false e = absurd (none-some b e)

-- the same number with more places
more_places : (c : ℤ) (p q : ℕ) → p ≤ q → value_of (scaled c p) ≡ value_of (scaled (c *ℤ pos (10 ^ (q - p))) q)
more_places c p q h =
    sym (value-shifted c p (q - p)) ∙ ap (λ n. value_of (scaled (c *ℤ pos (10 ^ (q - p))) n)) (omega arith)

-- what has so many places is not changed where it is cut off after them
whole_after : (x : ℚ) (m : ℤ) (q : ℕ) → x ≡ value_of (scaled m q) → value_of (scaled (floor_at x q) q) ≡ x
whole_after x m q e =
    ≤ℚ_antisym _ _ (under_value (floor_at x q) q x (≤ℤ_refl (floor_at x q)))
    (≤ℚ_left _ _ _ e (value-rises m (floor_at x q) q (under_floor m q x (≤ℚ_same _ _ (sym e)))))

pub exact_rounded_sum : (a b s : Bound) → down (value_of a +ℚ value_of b) ≡ Some s → a.places ≤ s.places → b.places ≤ s.places
    → outward (value_of a +ℚ value_of b) (value_of a +ℚ value_of b) ≡ Some (point_span s)
exact_rounded_sum a b s e h k =
    let x : ℚ = value_of a +ℚ value_of b in
    let found = down_some x s e in
    let cut : IsCut x s = down_is_cut x s e in
    let q : ℕ = cut.at in
    let reduced = IsReduced-canonical (floor_at x q) q in
    let fewer : s.places ≤ q = subst (λ n. n ≤ q) (sym (ap (λ d. d.places) cut.form)) reduced.fewer in
    let left : value_of a ≡ value_of (scaled (a.coefficient *ℤ pos (10 ^ (q - a.places))) q) = more_places a.coefficient a.places q (omega (arith, h, fewer)) in
    let right : value_of b ≡ value_of (scaled (b.coefficient *ℤ pos (10 ^ (q - b.places))) q) = more_places b.coefficient b.places q (omega (arith, k, fewer)) in
    let at_q : x ≡ value_of (scaled ((a.coefficient *ℤ pos (10 ^ (q - a.places))) +ℤ (b.coefficient *ℤ pos (10 ^ (q - b.places)))) q) =
    ap₂ (λ y z. y +ℚ z) left right ∙ value-sum _ _ q in
    exact_span x s (record { bound = found.1.bound; canonical = found.2 })
    (ap value_of cut.form ∙ reduced.same ∙ whole_after x _ q at_q)
