-- What is known of the effective degrees allows the exact ones.
use Rattle.std.specs.Prelude.{◌≡◌, Bool, true, false, cond, not, if◌then◌else◌, List, [], ◌∷◌, Option, None, Some, Result, Ok, Err, IfOk, is_err, pos, refl}
use Rattle.std.specs.Option.{ok_or}
use Rattle.std.proofs.Common.{sym, ◌∙◌, ap, subst}
use Rattle.std.proofs.lemmas.Bool.{true≢false}
use Rattle.exact_fraction.specs.Number.{ℚ, of_ℤ, ◌*ℚ◌, ◌/ℚ◌, inv_ℚ, is_zero_ℚ, is_at_most_ℚ, ◌≤ℚ◌}
use Rattle.exact_fraction.specs.NumberLaws.{≤ℚ_refl, ≤ℚ_trans, ≤ℚ_antisym, *ℚ-≤ℚ}
use Rattle.exact_fraction.proofs.Quotients.{is_zero_ℚ-≡, ≡-is_zero_ℚ}
use Rattle.exact_fraction.proofs.OrderLaws.{≤ℚ_left, ≤ℚ_right, ≤ℚ-/ℚ, *ℚ-not_negative, square-not_negative}
use Rattle.exact_fraction.proofs.Signs.{inv-not_negative}
use Rattle.exact_fraction.proofs.Ring.{ring, Whole, ◌:*◌, x0}
use Rattle.exact_fraction.specs.Sums.{total}
use Rattle.exact_law.specs.Degrees.{Share, Degrees, NoDegrees, InfiniteDegrees, FiniteDegrees, weight, any_counts, effective}
use Rattle.decimal18.specs.Bound.{Bound, value_of}
use Rattle.fixed_interval.specs.Interval.{Interval, Encloses}
use Rattle.fixed_interval.specs.Extremes.{greater}
use Rattle.fixed_interval.specs.Sums.{Holds}
use Rattle.fixed_interval.specs.declared.faults.Overflow.{Overflow}
use Rattle.fixed_interval.proofs.Inclusions.{zero_ℚ}
use Rattle.fixed_interval.proofs.Shares.{IsAbove}
use Rattle.fixed_interval.proofs.Sums.{missing, there}
use Rattle.type_b.specs.Shapes.{is_zero}
use Rattle.table_g2.specs.Known.{Allows, AreDegrees, IsBelow}
use Rattle.table_g2.specs.declared.known.Nu.{Nu}
use Rattle.table_g2.specs.declared.known.Nu.TheVariants.{None as NoNu, Infinite, Range}
use Rattle.eff_dof.specs.declared.part.Part.{Part}
use Rattle.eff_dof.specs.Parts.{AreParts, AreSharesOf, exact_degrees}
use Rattle.eff_dof.specs.Degrees.{variance_span, inverse_span, least_degrees, inverse_by, lower_end, range, range_by, known_by, known_of, known_degrees}
use Rattle.decimal18.specs.Down.{up}
use Rattle.eff_dof.proofs.Exact.{sum_of_parts, parts-not_negative, weights-not_negative, any_counts-weight, no_weights, weights-within, degrees-times, zero_value}
use Rattle.eff_dof.proofs.Terms.{shares_sound, inverse_holds, variance_holds}
use Rattle.eff_dof.proofs.Counted.{least_at_least_one, least_weights, none_weights, parts_within, shares_ordered}
use Rattle.eff_dof.proofs.Ranges.{lower_holds, upper_holds, is_range}

-- ---- kinds of degrees
same_finite : (x y : ℚ) → FiniteDegrees x ≡ FiniteDegrees y → x ≡ y
same_finite x y e = cc

none_not_finite : (x : ℚ) → NoDegrees ≡ FiniteDegrees x → ⊥
none_not_finite x e = cc

infinite_not_finite : (x : ℚ) → InfiniteDegrees ≡ FiniteDegrees x → ⊥
infinite_not_finite x e = cc

-- ---- what a range allows
without_finite : (t : Interval) (least : Bound) (d : Degrees) → ((x : ℚ) → d ≡ FiniteDegrees x → ⊥) → value_of t.lo ≤ℚ zero_ℚ → Allows (range t least) d
without_finite t least d h k = by (is_at_most_ℚ (value_of t.lo) zero_ℚ) refl where
  by : (b : Bool) → is_at_most_ℚ (value_of t.lo) zero_ℚ ≡ b
      → Allows (Range (lower_end t least) (if b then None else Some (greater (inverse_by up t.lo) (lower_end t least)))) d
  by true f = λ x e. absurd (h x e)
  by false f = absurd (true≢false (sym k.holds ∙ f))

finite : (t : Interval) (least : Bound) (x : ℚ) → value_of (lower_end t least) ≤ℚ x
    → (is_at_most_ℚ (value_of t.lo) zero_ℚ ≡ false → IsBelow x (greater (inverse_by up t.lo) (lower_end t least)))
    → Allows (range t least) (FiniteDegrees x)
finite t least x h k = by (is_at_most_ℚ (value_of t.lo) zero_ℚ) refl where
  by : (b : Bool) → is_at_most_ℚ (value_of t.lo) zero_ℚ ≡ b
      → Allows (Range (lower_end t least) (if b then None else Some (greater (inverse_by up t.lo) (lower_end t least)))) (FiniteDegrees x)
  by true f = λ y e. subst (λ z. value_of (lower_end t least) ≤ℚ z) (same_finite x y e) h
  by false f = (x, (refl, h, k f))

-- ---- the shares in a variance that may not be 0
record Known (ps : List Part) (ss : List Share) (v : Interval) : Type 0 where
  parts : AreParts ps
  shares : AreSharesOf ps ss
  whole : variance_span ps ≡ Some v

encloses_sum : (ps : List Part) (ss : List Share) (v : Interval) → Known ps ss v → Encloses v (sum_of_parts ss)
encloses_sum ps ss v h = subst (λ o. Holds o (sum_of_parts ss)) h.whole (variance_holds ps ss h.shares)

sum_low : (ps : List Part) (ss : List Share) (v : Interval) → Known ps ss v → zero_ℚ ≤ℚ sum_of_parts ss
sum_low ps ss v h = parts-not_negative ss (shares_sound ps ss h.parts h.shares)

weights_low : (ps : List Part) (ss : List Share) (v : Interval) → Known ps ss v → zero_ℚ ≤ℚ total weight ss
weights_low ps ss v h = weights-not_negative ss (shares_sound ps ss h.parts h.shares)

encloses_inverse : (ps : List Part) (ss : List Share) (v t : Interval) (r : ℚ) → Known ps ss v → inverse_span v ps ≡ Some t → Encloses v r → IsAbove r
    → sum_of_parts ss ≤ℚ r → Encloses t (total weight ss *ℚ (inv_ℚ r *ℚ inv_ℚ r))
encloses_inverse ps ss v t r h e k a b =
    subst (λ o. Holds o (total weight ss *ℚ (inv_ℚ r *ℚ inv_ℚ r))) e
    (inverse_holds v r k a ps ss (parts_within ps h.parts (shares_ordered ps ss h.shares) v h.whole) h.shares b)

-- a sum of weights that is 0 leaves no lower end above 0
nothing_low : (t : Interval) (w k : ℚ) → w ≡ zero_ℚ → Encloses t (w *ℚ k) → value_of t.lo ≤ℚ zero_ℚ
nothing_low t w k e h = ≤ℚ_right _ _ _ (ap (λ x. x *ℚ k) e ∙ ring (k ∷ []) (Whole (pos 0) :* x0) (Whole (pos 0)) refl) h.low

not_above : (x : ℚ) → zero_ℚ ≤ℚ x → is_zero_ℚ x ≡ false → IsAbove x
not_above x h e k = true≢false (sym (≡-is_zero_ℚ x (≤ℚ_antisym _ _ k h)) ∙ e)

-- the variance is 0
no_variance : (ps : List Part) (ss : List Share) (v t : Interval) (least : Bound) → Known ps ss v → is_zero v.hi ≡ false → inverse_span v ps ≡ Some t
    → least_degrees ps ≡ Some least → sum_of_parts ss ≡ zero_ℚ → value_of t.lo ≤ℚ zero_ℚ
no_variance ps ss v t least h n e l z =
    let within = encloses_sum ps ss v h in
    let hi_low : zero_ℚ ≤ℚ value_of v.hi = ≤ℚ_trans _ _ _ (sum_low ps ss v h) within.high in
    let hi_above : IsAbove (value_of v.hi) = not_above (value_of v.hi) hi_low (sym (zero_value v.hi) ∙ n) in
    let w : ℚ = total weight ss in
    let low : zero_ℚ ≤ℚ w = weights_low ps ss v h in
    let high : value_of least *ℚ w ≤ℚ sum_of_parts ss *ℚ sum_of_parts ss =
    weights-within (value_of least) (sum_of_parts ss) ss (shares_sound ps ss h.parts h.shares) (least_weights ps ss least h.parts h.shares l) (≤ℚ_refl _) in
    let none : sum_of_parts ss *ℚ sum_of_parts ss ≡ zero_ℚ =
    ap (λ x. x *ℚ x) z ∙ ring [] (Whole (pos 0) :* Whole (pos 0)) (Whole (pos 0)) refl in
    let most : w ≤ℚ value_of least *ℚ w =
    ≤ℚ_left _ (of_ℤ (pos 1) *ℚ w) _ (ring (w ∷ []) x0 (Whole (pos 1) :* x0) refl)
    (*ℚ-≤ℚ (of_ℤ (pos 1)) (value_of least) w low (least_at_least_one ps least h.parts l)) in
    nothing_low t w _ (≤ℚ_antisym _ _ (≤ℚ_trans _ _ _ most (≤ℚ_right _ _ _ none high)) low)
    (encloses_inverse ps ss v t (value_of v.hi) h e (record { low = ≤ℚ_trans _ _ _ within.low within.high; high = ≤ℚ_refl _ }) hi_above within.high)

-- the variance is not 0, and there are weights
some_degrees : (ps : List Part) (ss : List Share) (v t : Interval) (least : Bound) → Known ps ss v → least_degrees ps ≡ Some least
    → is_zero_ℚ (sum_of_parts ss) ≡ false → is_zero_ℚ (total weight ss) ≡ false
    → Encloses t (total weight ss *ℚ (inv_ℚ (sum_of_parts ss) *ℚ inv_ℚ (sum_of_parts ss)))
    → Allows (range t least) (FiniteDegrees (sum_of_parts ss *ℚ sum_of_parts ss /ℚ total weight ss))
some_degrees ps ss v t least h l n m e =
    let y : ℚ = sum_of_parts ss in
    let w : ℚ = total weight ss in
    let x : ℚ = y *ℚ y /ℚ w in
    let k : ℚ = inv_ℚ y *ℚ inv_ℚ y in
    let w_low : zero_ℚ ≤ℚ w = weights_low ps ss v h in
    let x_low : zero_ℚ ≤ℚ x = *ℚ-not_negative (y *ℚ y) (inv_ℚ w) (square-not_negative y) (inv-not_negative w w_low) in
    let one : x *ℚ (w *ℚ k) ≡ of_ℤ (pos 1) = degrees-times y w n m in
    let least_low : value_of least ≤ℚ x =
    (≤ℚ-/ℚ (value_of least) (y *ℚ y) w w_low m).1
    (weights-within (value_of least) y ss (shares_sound ps ss h.parts h.shares) (least_weights ps ss least h.parts h.shares l) (≤ℚ_refl _)) in
    finite t least x
    (lower_holds x (w *ℚ k) t least x_low (*ℚ-not_negative w k w_low (square-not_negative (inv_ℚ y))) one e least_low)
    (λ f. upper_holds x (w *ℚ k) t (lower_end t least) x_low one e f)

-- ---- the effective degrees, by whether the variance is 0, and whether there are weights
abbrev by_tests : Bool → Bool → ℚ → Degrees
by_tests a c x = cond a NoDegrees (cond c (FiniteDegrees x) InfiniteDegrees)

range_sound : (ps : List Part) (ss : List Share) (v t : Interval) (least : Bound) → Known ps ss v → is_zero v.hi ≡ false → inverse_span v ps ≡ Some t
    → least_degrees ps ≡ Some least → Allows (range t least) (exact_degrees ss)
unfolding effective
range_sound ps ss v t least h n e l =
    by (is_zero_ℚ (sum_of_parts ss)) (is_zero_ℚ (total weight ss)) (any_counts ss) refl refl (any_counts-weight ss (shares_sound ps ss h.parts h.shares)) where
      at_sum : is_zero_ℚ (sum_of_parts ss) ≡ false → Encloses t (total weight ss *ℚ (inv_ℚ (sum_of_parts ss) *ℚ inv_ℚ (sum_of_parts ss)))
      at_sum f =
          encloses_inverse ps ss v t (sum_of_parts ss) h e (encloses_sum ps ss v h) (not_above (sum_of_parts ss) (sum_low ps ss v h) f) (≤ℚ_refl _)

      by : (a w c : Bool) → is_zero_ℚ (sum_of_parts ss) ≡ a → is_zero_ℚ (total weight ss) ≡ w → c ≡ not (is_zero_ℚ (total weight ss))
          → Allows (range t least) (by_tests a c (sum_of_parts ss *ℚ sum_of_parts ss /ℚ total weight ss))
      by true w c f g j = without_finite t least NoDegrees none_not_finite (no_variance ps ss v t least h n e l (is_zero_ℚ-≡ _ f))
      by false true true f g j = absurd (true≢false (j ∙ ap not g))
      by false true false f g j =
          without_finite t least InfiniteDegrees infinite_not_finite (nothing_low t (total weight ss) _ (is_zero_ℚ-≡ _ g) (at_sum f))
      by false false true f g j = some_degrees ps ss v t least h l f g (at_sum f)
      by false false false f g j = absurd (true≢false (sym (j ∙ ap not g)))

none_sound : (ps : List Part) (ss : List Share) (v : Interval) → Known ps ss v → is_zero v.hi ≡ true → exact_degrees ss ≡ NoDegrees
unfolding effective
none_sound ps ss v h e =
    let none : value_of v.hi ≡ zero_ℚ = is_zero_ℚ-≡ _ (sym (zero_value v.hi) ∙ e) in
    let zero : sum_of_parts ss ≡ zero_ℚ =
    ≤ℚ_antisym _ _ (≤ℚ_right _ _ _ none (encloses_sum ps ss v h).high) (sum_low ps ss v h) in
    ap (λ a. by_tests a (any_counts ss) (sum_of_parts ss *ℚ sum_of_parts ss /ℚ total weight ss)) (≡-is_zero_ℚ _ zero)

infinite_sound : (ps : List Part) (ss : List Share) (v : Interval) → Known ps ss v → least_degrees ps ≡ None → (x : ℚ) → exact_degrees ss ≡ FiniteDegrees x → ⊥
unfolding effective
infinite_sound ps ss v h l x = by (is_zero_ℚ (sum_of_parts ss)) (any_counts ss) (any_counts-weight ss (shares_sound ps ss h.parts h.shares)) where
  zero : is_zero_ℚ (total weight ss) ≡ true
  zero = ≡-is_zero_ℚ _ (no_weights ss (none_weights ps ss h.parts h.shares l))

  by : (a c : Bool) → c ≡ not (is_zero_ℚ (total weight ss)) → by_tests a c (sum_of_parts ss *ℚ sum_of_parts ss /ℚ total weight ss) ≡ FiniteDegrees x → ⊥
  by true c j f = none_not_finite x f
  by false true j f = true≢false (j ∙ ap not zero)
  by false false j f = infinite_not_finite x f

pub degrees_sound : (ps : List Part) (ss : List Share) (r : Result Nu Overflow) → r ≡ known_degrees ps → AreParts ps → AreSharesOf ps ss
    → IfOk r (λ nu. Allows nu (exact_degrees ss))
unfolding known_degrees
degrees_sound ps ss r e h k = subst (λ q. IfOk q (λ nu. Allows nu (exact_degrees ss))) (sym e) (by (variance_span ps) refl) where
  by_inverse : (v : Interval) → Known ps ss v → is_zero v.hi ≡ false → (least : Bound) → least_degrees ps ≡ Some least → (o : Option Interval) → inverse_span v ps ≡ o
      → IfOk (range_by o least) (λ nu. Allows nu (exact_degrees ss))
  by_inverse v i n least l None f = tt
  by_inverse v i n least l (Some t) f = range_sound ps ss v t least i n f l

  by_least : (v : Interval) → Known ps ss v → is_zero v.hi ≡ false → (o : Option Bound) → least_degrees ps ≡ o → IfOk (known_by v ps o) (λ nu. Allows nu (exact_degrees ss))
  by_least v i n None f = infinite_sound ps ss v i f
  by_least v i n (Some least) f = by_inverse v i n least f (inverse_span v ps) refl

  by_zero : (v : Interval) → Known ps ss v → (b : Bool) → is_zero v.hi ≡ b
      → IfOk (if b then Ok NoNu else known_by v ps (least_degrees ps)) (λ nu. Allows nu (exact_degrees ss))
  by_zero v i true f = none_sound ps ss v i f
  by_zero v i false f = by_least v i f (least_degrees ps) refl

  by : (o : Option Interval) → variance_span ps ≡ o → IfOk (known_of o ps) (λ nu. Allows nu (exact_degrees ss))
  by None f = tt
  by (Some v) f = by_zero v (record { parts = h; shares = k; whole = f }) (is_zero v.hi) refl

-- ---- they are degrees
pub are_degrees : (ps : List Part) (r : Result Nu Overflow) → r ≡ known_degrees ps → AreParts ps → IfOk r AreDegrees
unfolding known_degrees
are_degrees ps r e h = subst (λ q. IfOk q AreDegrees) (sym e) (by (variance_span ps)) where
  by_inverse : (least : Bound) → least_degrees ps ≡ Some least → (o : Option Interval) → IfOk (range_by o least) AreDegrees
  by_inverse least l None = tt
  by_inverse least l (Some t) = is_range t least (least_at_least_one ps least h l)

  by_least : (v : Interval) (o : Option Bound) → least_degrees ps ≡ o → IfOk (known_by v ps o) AreDegrees
  by_least v None f = tt
  by_least v (Some least) f = by_inverse least f (inverse_span v ps)

  by_zero : (v : Interval) (b : Bool) → IfOk (if b then Ok NoNu else known_by v ps (least_degrees ps)) AreDegrees
  by_zero v true = tt
  by_zero v false = by_least v (least_degrees ps) refl

  by : (o : Option Interval) → IfOk (known_of o ps) AreDegrees
  by None = tt
  by (Some v) = by_zero v (is_zero v.hi)

-- ---- by what the calls answered
pub refused_degrees : (r : Result Nu Overflow) → is_err r ≡ true → (q : Result Nu Overflow) → q ≡ Err (record {}) → r ≡ q
refused_degrees (Ok n) e q k = absurd (cc)
refused_degrees (Err y) e q k = sym k

pub known_missing : (ps : List Part) (x e : Overflow) → Err x ≡ ok_or (variance_span ps) e → known_degrees ps ≡ Err (record {})
unfolding known_degrees
known_missing ps x e h = ap (λ o. known_of o ps) (missing (variance_span ps) x e h)

known_there : (ps : List Part) (v : Interval) (e : Overflow) (b : Bool) → Ok v ≡ ok_or (variance_span ps) e → is_zero v.hi ≡ b
    → known_degrees ps ≡ (if b then Ok NoNu else known_by v ps (least_degrees ps))
unfolding known_degrees
known_there ps v e b h k =
    ap (λ o. known_of o ps) (there (variance_span ps) v e h) ∙ ap (λ (c : Bool). if c then Ok NoNu else known_by v ps (least_degrees ps)) k

pub known_none : (ps : List Part) (v : Interval) (e : Overflow) → Ok v ≡ ok_or (variance_span ps) e → is_zero v.hi ≡ true → Ok NoNu ≡ known_degrees ps
known_none ps v e h k = sym (known_there ps v e true h k)

pub known_infinite : (ps : List Part) (v : Interval) (e : Overflow) → Ok v ≡ ok_or (variance_span ps) e → is_zero v.hi ≡ false → least_degrees ps ≡ None
    → Ok Infinite ≡ known_degrees ps
known_infinite ps v e h k l = sym (known_there ps v e false h k ∙ ap (known_by v ps) l)

pub known_out : (ps : List Part) (v : Interval) (e : Overflow) → Ok v ≡ ok_or (variance_span ps) e → is_zero v.hi ≡ false → (least : Bound) → least_degrees ps ≡ Some least
    → (x : Overflow) → Err x ≡ ok_or (inverse_span v ps) e → known_degrees ps ≡ Err (record {})
known_out ps v e h k least l x f =
    known_there ps v e false h k ∙ ap (known_by v ps) l ∙ ap (λ o. range_by o least) (missing (inverse_span v ps) x e f)

pub known_range : (ps : List Part) (v : Interval) (e : Overflow) → Ok v ≡ ok_or (variance_span ps) e → is_zero v.hi ≡ false → (least : Bound) → least_degrees ps ≡ Some least
    → (t : Interval) → Ok t ≡ ok_or (inverse_span v ps) e → (nu : Nu) → nu ≡ range t least → Ok nu ≡ known_degrees ps
known_range ps v e h k least l t f nu g =
    ap Ok g ∙ sym (known_there ps v e false h k ∙ ap (known_by v ps) l ∙ ap (λ o. range_by o least) (there (inverse_span v ps) t e f))
