-- The least degrees of freedom of the parts that count, and that the variance of the whole has the spans of its parts within.
use Rattle.std.specs.Prelude.{◌≡◌, ◌⊎◌, ℕ, ◌*◌, ◌<◌, ◌≤◌, Bool, true, false, not, nat_le, if◌then◌else◌, List, [], ◌∷◌, Option, None, Some, IfSome, pos, neg_ℤ, refl}
use Rattle.std.proofs.Common.{sym, ◌∙◌, ap, ap₂, subst, arith, inl, inr}
use Rattle.std.proofs.Math.Nat.{mul-le-mul}
use Rattle.std.proofs.lemmas.Bool.{and_parts, leb-true, true≢false}
use Rattle.std.proofs.lemmas.Int.{ints}
use Rattle.std.proofs.lemmas.Option.{same_Some, none-some}
use Rattle.exact_fraction.specs.Number.{ℚ, of_ℤ, ◌+ℚ◌, ◌*ℚ◌, ◌/ℚ◌, inv_ℚ, is_zero_ℚ, ◌≤ℚ◌}
use Rattle.exact_fraction.specs.NumberLaws.{≤ℚ_refl, ≤ℚ_trans, ≤ℚ_antisym, ≤ℚ_same, of_ℤ-≤ℚ, *ℚ-≤ℚ, *ℚ-inv}
use Rattle.exact_fraction.proofs.Quotients.{positive_not_zero, ≡-is_zero_ℚ}
use Rattle.exact_fraction.proofs.OrderLaws.{≤ℚ_left, ≤ℚ_right, ≤ℚ_by, ≤ℚ-/ℚ, /ℚ-≤ℚ_iff, *ℚ-≤ℚ_left, *ℚ-not_negative, square-not_negative}
use Rattle.exact_fraction.proofs.Signs.{whole-not_negative, inv-not_negative, of_pos-≤ℚ, of_pos-*}
use Rattle.exact_fraction.proofs.Ring.{ring, Whole, ◌:+◌, ◌:*◌, x0, x1, x2, x3}
use Rattle.exact_law.specs.Degrees.{Share, weight}
use Rattle.decimal18.specs.Bound.{Bound, scaled, value_of, IsBound}
use Rattle.decimal18.specs.Down.{down, top, IsInRange}
use Rattle.decimal18.proofs.Values.{value-whole}
use Rattle.decimal18.proofs.Rounding.{down_some, down_none}
use Rattle.decimal18.proofs.Upward.{up_some}
use Rattle.fixed_interval.specs.Interval.{Interval, sum_span}
use Rattle.fixed_interval.specs.Extremes.{lesser}
use Rattle.fixed_interval.specs.Rules.{one_bound}
use Rattle.fixed_interval.specs.Sums.{sum_on, zero_span}
use Rattle.fixed_interval.proofs.Shares.{IsAbove}
use Rattle.fixed_interval.proofs.Enclosures.{outward_ends}
use Rattle.fixed_interval.proofs.Inclusions.{zero_ℚ}
use Rattle.fixed_interval.proofs.Least.{lesser_cases}
use Rattle.fixed_interval.proofs.Sums.{sum_on-none}
use Rattle.type_b.specs.declared.shape.Dof.{Dof}
use Rattle.type_b.specs.declared.shape.Dof.TheVariants.{Inf, Whole as WholeDegrees, Rel}
use Rattle.type_b.specs.Shapes.{IsDegrees, inverse_degrees, is_zero, most_percent}
use Rattle.eff_dof.specs.declared.part.Part.{Part}
use Rattle.eff_dof.specs.Parts.{AllParts, IsPart, AreParts, AreOrdered, IsPartOf, IsShareOf, AreSharesOf}
use Rattle.eff_dof.specs.Degrees.{is_finite, counts, degrees_down, counted_degrees, lesser_of, least_after, variances, variance_span}
use Rattle.eff_dof.proofs.Exact.{AllShares, zero_value}
use Rattle.eff_dof.proofs.Terms.{some_degrees, degrees-not_negative, no_weight}

-- ---- the degrees of a part
pub record IsPercentSquare (m : ℕ) : Type 0 where
  pub least : 0 < m
  pub most : m ≤ 5000

pub percent_square : (p : ℕ) → IsDegrees (Rel p) → IsPercentSquare (p * p)
percent_square p h =
    let parts = and_parts (nat_le 1 p) (nat_le p most_percent) h in
    let least : 1 ≤ p = leb-true 1 p parts.0 in
    let most : p ≤ 70 = leb-true p 70 parts.1 in
    let low : 1 * 1 ≤ p * p = mul-le-mul least least in
    let high : p * p ≤ 70 * 70 = mul-le-mul most most in
    record { least = omega arith; most = omega arith }

one_is_bound : IsBound one_bound
one_is_bound = record { digits = omega arith; most = omega arith }

-- at least one degree, and at most so many as there are
pub record AreDegreesOf (d : Dof) (b : Bound) : Type 0 where
  pub at_least_one : of_ℤ (pos 1) ≤ℚ value_of b
  pub not_above : value_of b *ℚ inverse_degrees d ≤ℚ of_ℤ (pos 1)

whole_degrees : (n : ℕ) → 0 < n → AreDegreesOf (WholeDegrees n) (scaled (pos n) 0)
whole_degrees n h = record {
  at_least_one = ≤ℚ_right _ _ _ (sym (value-whole (pos n))) (of_pos-≤ℚ 1 n h);
  not_above =
      ≤ℚ_same _ _ (ap (λ t. t *ℚ inverse_degrees (WholeDegrees n)) (value-whole (pos n))
      ∙ ring (of_ℤ (pos n) ∷ inv_ℚ (of_ℤ (pos n)) ∷ []) (x0 :* (Whole (pos 1) :* x1)) (x0 :* x1) refl
      ∙ *ℚ-inv (of_ℤ (pos n)) (positive_not_zero n h));
}

percent_degrees : (p : ℕ) → IsPercentSquare (p * p) → (b : Bound) → degrees_down (Rel p) ≡ Some b → AreDegreesOf (Rel p) b
percent_degrees p h b e =
    let m : ℚ = of_ℤ (pos (p * p)) in
    let below = (down_some _ b e).1 in
    let not_zero : is_zero_ℚ m ≡ false = positive_not_zero (p * p) h.least in
    let one : of_ℤ (pos 1) ≤ℚ of_ℤ (pos 5000) /ℚ m =
    (≤ℚ-/ℚ (of_ℤ (pos 1)) (of_ℤ (pos 5000)) m (whole-not_negative (p * p)) not_zero).1
    (≤ℚ_left _ m _ (ring (m ∷ []) (Whole (pos 1) :* x0) x0 refl) (of_pos-≤ℚ (p * p) 5000 h.most)) in
    record {
      at_least_one =
          ≤ℚ_left _ (value_of one_bound) _ (sym (value-whole (pos 1)))
          (below.greatest one_bound one_is_bound (≤ℚ_left _ (of_ℤ (pos 1)) _ (value-whole (pos 1)) one));
      not_above =
          ≤ℚ_trans _ _ _ (*ℚ-≤ℚ (value_of b) (of_ℤ (pos 5000) /ℚ m) (inverse_degrees (Rel p)) (degrees-not_negative (Rel p)) below.not_above)
          (≤ℚ_same _ _ (ring (of_ℤ (pos 5000) ∷ m ∷ inv_ℚ m ∷ inv_ℚ (of_ℤ (pos 5000)) ∷ []) ((x0 :* x2) :* (x1 :* x3)) ((x1 :* x2) :* (x0 :* x3)) refl
          ∙ ap (λ t. t *ℚ (of_ℤ (pos 5000) *ℚ inv_ℚ (of_ℤ (pos 5000)))) (*ℚ-inv m not_zero)
          ∙ ap (λ t. of_ℤ (pos 1) *ℚ t) (*ℚ-inv (of_ℤ (pos 5000)) (positive_not_zero 5000 (omega arith)))
          ∙ ring [] (Whole (pos 1) :* Whole (pos 1)) (Whole (pos 1)) refl));
    }

are_degrees : (d : Dof) → IsDegrees d → (b : Bound) → degrees_down d ≡ Some b → AreDegreesOf d b
are_degrees Inf h b e = absurd (none-some b e)
are_degrees (WholeDegrees n) h b e = subst (AreDegreesOf (WholeDegrees n)) (same_Some _ b e) (whole_degrees n (some_degrees n h))
are_degrees (Rel p) h b e = percent_degrees p (percent_square p h) b e

pub percent_down : (p : ℕ) (a b : Bound) → a ≡ scaled (pos 5000) 0 → b ≡ scaled (pos (p * p)) 0 → (o : Option Bound) → o ≡ down (value_of a /ℚ value_of b)
    → o ≡ degrees_down (Rel p)
percent_down p a b e f o g =
    g ∙ ap₂ (λ x y. down (x /ℚ y)) (ap value_of e ∙ value-whole (pos 5000)) (ap value_of f ∙ value-whole (pos (p * p)))

-- finite degrees are in range
quotient_in_range : (m : ℕ) → IsPercentSquare m → IsInRange (of_ℤ (pos 5000) /ℚ of_ℤ (pos m))
quotient_in_range m h =
    let not_negative : zero_ℚ ≤ℚ of_ℤ (pos 5000) /ℚ of_ℤ (pos m) =
    *ℚ-not_negative _ _ (whole-not_negative 5000) (inv-not_negative _ (whole-not_negative m)) in
    let more : 5000 ≤ 5000 * m = mul-le-mul {n₁ = 5000} {m₁ = 1} (omega arith) h.least in
    let high : of_ℤ (pos 5000) /ℚ of_ℤ (pos m) ≤ℚ of_ℤ (pos 5000) =
    (/ℚ-≤ℚ_iff (of_ℤ (pos 5000)) (of_ℤ (pos 5000)) (of_ℤ (pos m)) (whole-not_negative m) (positive_not_zero m h.least)).1
    (≤ℚ_right _ _ _ (of_pos-* 5000 m) (of_pos-≤ℚ 5000 (5000 * m) more)) in
    record {
      low = ≤ℚ_trans _ _ _ (of_ℤ-≤ℚ (neg_ℤ top) (pos 0) (omega (arith, ints))) not_negative;
      high = ≤ℚ_trans _ _ _ high (of_ℤ-≤ℚ (pos 5000) top (omega (arith, ints)));
    }

finite_there : (d : Dof) → IsDegrees d → is_finite d ≡ true → degrees_down d ≡ None → ⊥
finite_there Inf h f e = absurd (cc)
finite_there (WholeDegrees n) h f e = none-some _ (sym e)
finite_there (Rel p) h f e = down_none _ e (quotient_in_range (p * p) (percent_square p h))

-- ---- of a part: either it does not count, or its degrees are known
pub counted : (p : Part) → IsPart p → (o : Option Bound) → counted_degrees p ≡ o → (counts p ≡ false) ⊎ (degrees_down p.dof ≡ o)
counted p h o e = by (counts p) e where
  by : (c : Bool) → (if c then degrees_down p.dof else None) ≡ o → (c ≡ false) ⊎ (degrees_down p.dof ≡ o)
  by true f = inr f
  by false f = inl refl

finite_if : (p : Part) → counts p ≡ true → is_finite p.dof ≡ true
finite_if p e = (and_parts (is_finite p.dof) (not (is_zero p.variance.hi)) e).0

pub none_counts : (p : Part) → IsPart p → counted_degrees p ≡ None → counts p ≡ false
none_counts p h e = by (counts p) refl (counted p h None e) where
  by : (c : Bool) → counts p ≡ c → (counts p ≡ false) ⊎ (degrees_down p.dof ≡ None) → c ≡ false
  by false f g = refl
  by true f (inl g) = sym f ∙ g
  by true f (inr g) = absurd (finite_there p.dof h.degrees (finite_if p f) g)

-- a number is at least m, where it is there
abbrev pub IsFrom : ℚ → Option Bound → Type 0
IsFrom m o = IfSome o (λ b. m ≤ℚ value_of b)

-- m times the weight of a share is at most the square of its part
weight_within : (m : ℚ) (p : Part) (s : Share) → IsPart p → IsShareOf p s → (o : Option Bound) → counted_degrees p ≡ o → IsFrom m o
    → m *ℚ weight s ≤ℚ s.part *ℚ s.part
unfolding weight
weight_within m p s h k o e f = by (counts p) refl (counted p h o e) where
  nothing : weight s ≡ zero_ℚ → m *ℚ weight s ≤ℚ s.part *ℚ s.part
  nothing z = ≤ℚ_left _ zero_ℚ _ (ap (λ t. m *ℚ t) z ∙ ring (m ∷ []) (x0 :* Whole (pos 0)) (Whole (pos 0)) refl) (square-not_negative s.part)

  some : (o : Option Bound) → degrees_down p.dof ≡ o → counts p ≡ true → IsFrom m o → m *ℚ weight s ≤ℚ s.part *ℚ s.part
  some None g c f = absurd (finite_there p.dof h.degrees (finite_if p c) g)
  some (Some b) g c f =
      let d : ℚ = s.inverse_degrees in
      let one : m *ℚ d ≤ℚ of_ℤ (pos 1) =
      subst (λ t. m *ℚ t ≤ℚ of_ℤ (pos 1)) (sym k.degrees)
      (≤ℚ_trans _ _ _ (*ℚ-≤ℚ m (value_of b) (inverse_degrees p.dof) (degrees-not_negative p.dof) f) (are_degrees p.dof h.degrees b g).not_above) in
      ≤ℚ_left _ ((s.part *ℚ s.part) *ℚ (m *ℚ d)) _ (ring (m ∷ s.part ∷ d ∷ []) (x0 :* (x1 :* x1 :* x2)) ((x1 :* x1) :* (x0 :* x2)) refl)
      (≤ℚ_right _ ((s.part *ℚ s.part) *ℚ of_ℤ (pos 1)) _ (ring (s.part ∷ []) ((x0 :* x0) :* Whole (pos 1)) (x0 :* x0) refl)
      (*ℚ-≤ℚ_left (m *ℚ d) (of_ℤ (pos 1)) (s.part *ℚ s.part) (square-not_negative s.part) one))

  by : (c : Bool) → counts p ≡ c → (counts p ≡ false) ⊎ (degrees_down p.dof ≡ o) → m *ℚ weight s ≤ℚ s.part *ℚ s.part
  by false g j = nothing (no_weight p s h k g)
  by true g (inl j) = nothing (no_weight p s h k j)
  by true g (inr j) = some o j g f

-- ---- of all parts
both_from : (m : ℚ) (o p : Option Bound) → IsFrom m (lesser_of o p) → IsFrom m o × IsFrom m p
both_from m None p h = (tt, h)
both_from m (Some b) None h = (h, tt)
both_from m (Some b) (Some c) h =
    lesser_cases b c (λ d. m ≤ℚ value_of d → (m ≤ℚ value_of b) × (m ≤ℚ value_of c))
    (λ k j. (j, ≤ℚ_trans _ _ _ j k)) (λ k j. (≤ℚ_trans _ _ _ j k, j)) h

lesser_from : (m : ℚ) (o p : Option Bound) → IsFrom m o → IsFrom m p → IsFrom m (lesser_of o p)
lesser_from m None p h k = k
lesser_from m (Some b) None h k = h
lesser_from m (Some b) (Some c) h k = lesser_cases b c (λ d. m ≤ℚ value_of d) (λ _. h) (λ _. k)

-- the least is at most the degrees of each part that counts
least_below : (m : ℚ) (b : Option Bound) (ps : List Part) → IsFrom m (least_after b ps) → IsFrom m b × AllParts (λ p. IsFrom m (counted_degrees p)) ps
least_below m b [] h = (h, tt)
least_below m b (p ∷ ps) h =
    let later = least_below m (lesser_of b (counted_degrees p)) ps h in
    let here = both_from m b (counted_degrees p) later.0 in
    (here.0, (here.1, later.1))

one_from : (p : Part) → IsPart p → (o : Option Bound) → degrees_down p.dof ≡ o → IsFrom (of_ℤ (pos 1)) o
one_from p h None e = tt
one_from p h (Some b) e = (are_degrees p.dof h.degrees b e).at_least_one

counted_from : (p : Part) → IsPart p → IsFrom (of_ℤ (pos 1)) (counted_degrees p)
counted_from p h = by (counts p) where
  by : (c : Bool) → IsFrom (of_ℤ (pos 1)) (if c then degrees_down p.dof else None)
  by true = one_from p h (degrees_down p.dof) refl
  by false = tt

least_from : (b : Option Bound) (ps : List Part) → IsFrom (of_ℤ (pos 1)) b → AreParts ps → IsFrom (of_ℤ (pos 1)) (least_after b ps)
least_from b [] h k = h
least_from b (p ∷ ps) h k = least_from (lesser_of b (counted_degrees p)) ps (lesser_from _ b (counted_degrees p) h (counted_from p k.0)) k.1

pub least_at_least_one : (ps : List Part) (least : Bound) → AreParts ps → least_after None ps ≡ Some least → of_ℤ (pos 1) ≤ℚ value_of least
least_at_least_one ps least h e = subst (IsFrom (of_ℤ (pos 1))) e (least_from None ps tt h)

weights_below : (m : ℚ) (ps : List Part) (ss : List Share) → AreParts ps → AreSharesOf ps ss → AllParts (λ p. IsFrom m (counted_degrees p)) ps
    → AllShares (λ s. m *ℚ weight s ≤ℚ s.part *ℚ s.part) ss
weights_below m [] [] h k f = tt
weights_below m [] (s ∷ ss) h k f = absurd k
weights_below m (p ∷ ps) [] h k f = absurd k
weights_below m (p ∷ ps) (s ∷ ss) h k f = (weight_within m p s h.0 k.0 (counted_degrees p) refl f.0, weights_below m ps ss h.1 k.1 f.1)

pub least_weights : (ps : List Part) (ss : List Share) (least : Bound) → AreParts ps → AreSharesOf ps ss → least_after None ps ≡ Some least
    → AllShares (λ s. value_of least *ℚ weight s ≤ℚ s.part *ℚ s.part) ss
least_weights ps ss least h k e =
    weights_below (value_of least) ps ss h k (least_below (value_of least) None ps (subst (IsFrom (value_of least)) (sym e) (≤ℚ_refl _))).1

-- where there is no least, no share has a weight
none_after : (b : Option Bound) (ps : List Part) → least_after b ps ≡ None → (b ≡ None) × AllParts (λ p. counted_degrees p ≡ None) ps
none_after b [] e = (e, tt)
none_after b (p ∷ ps) e = let later = none_after (lesser_of b (counted_degrees p)) ps e in
    let here = neither b (counted_degrees p) later.0 in (here.0, (here.1, later.1)) where
      neither : (o q : Option Bound) → lesser_of o q ≡ None → (o ≡ None) × (q ≡ None)
      neither None q f = (refl, f)
      neither (Some a) None f = absurd (none-some a (sym f))
      neither (Some a) (Some c) f = absurd (none-some (lesser a c) (sym f))

weightless : (ps : List Part) (ss : List Share) → AreParts ps → AreSharesOf ps ss → AllParts (λ p. counted_degrees p ≡ None) ps
    → AllShares (λ s. weight s ≡ zero_ℚ) ss
weightless [] [] h k f = tt
weightless [] (s ∷ ss) h k f = absurd k
weightless (p ∷ ps) [] h k f = absurd k
weightless (p ∷ ps) (s ∷ ss) h k f = (no_weight p s h.0 k.0 (none_counts p h.0 f.0), weightless ps ss h.1 k.1 f.1)

pub none_weights : (ps : List Part) (ss : List Share) → AreParts ps → AreSharesOf ps ss → least_after None ps ≡ None → AllShares (λ s. weight s ≡ zero_ℚ) ss
none_weights ps ss h k e = weightless ps ss h k (none_after None ps e).1

-- ---- parts within the whole
abbrev IsWithin : Interval → Part → Type 0
IsWithin v p = value_of p.variance.lo ≤ℚ value_of v.hi

within_on : (s : Interval) → zero_ℚ ≤ℚ value_of s.hi → (ps : List Part) → AreParts ps → AreOrdered ps → (v : Interval) → sum_on (Some s) (variances ps) ≡ Some v
    → (value_of s.hi ≤ℚ value_of v.hi) × AllParts (IsWithin v) ps
within_on s s0 [] h o v e = (≤ℚ_same _ _ (ap (λ t. value_of t.hi) (same_Some s v e)), tt)
within_on s s0 (p ∷ ps) h o v e = by (λ n n0 f. within_on n n0 ps h.1 o.1 v f) (sum_span s p.variance) refl e where
  hi0 : zero_ℚ ≤ℚ value_of p.variance.hi
  hi0 = ≤ℚ_trans _ _ _ (h.0).not_negative (o.0).ordered

  by : ((n : Interval) → zero_ℚ ≤ℚ value_of n.hi → sum_on (Some n) (variances ps) ≡ Some v → (value_of n.hi ≤ℚ value_of v.hi) × AllParts (IsWithin v) ps)
      → (t : Option Interval) → sum_span s p.variance ≡ t → sum_on t (variances ps) ≡ Some v
      → (value_of s.hi ≤ℚ value_of v.hi) × (IsWithin v p × AllParts (IsWithin v) ps)
  by rest None f g = absurd (none-some v (sym (sum_on-none (variances ps)) ∙ g))
  by rest (Some n) f g =
      let sum : value_of s.hi +ℚ value_of p.variance.hi ≤ℚ value_of n.hi = (up_some _ n.hi (outward_ends _ _ n f).hi).1.not_below in
      let left : value_of s.hi ≤ℚ value_of n.hi = ≤ℚ_trans _ _ _ (≤ℚ_by _ _ (value_of p.variance.hi) refl hi0) sum in
      let right : value_of p.variance.hi ≤ℚ value_of n.hi =
      ≤ℚ_trans _ _ _ (≤ℚ_by _ _ (value_of s.hi) (ring (value_of s.hi ∷ value_of p.variance.hi ∷ []) (x1 :+ x0) (x0 :+ x1) refl) s0) sum in
      let later = rest n (≤ℚ_trans _ _ _ s0 left) g in
      (≤ℚ_trans _ _ _ left later.0, (≤ℚ_trans _ _ _ (o.0).ordered (≤ℚ_trans _ _ _ right later.0), later.1))

all_within : (v : Interval) (ps : List Part) → AreParts ps → AllParts (IsWithin v) ps → AllParts (IsPartOf v) ps
all_within v [] h k = tt
all_within v (p ∷ ps) h k = (record { part = h.0; within = k.0 }, all_within v ps h.1 k.1)

pub parts_within : (ps : List Part) → AreParts ps → AreOrdered ps → (v : Interval) → variance_span ps ≡ Some v → AllParts (IsPartOf v) ps
parts_within [] h o v e = tt
parts_within (p ∷ ps) h o v e =
    let low : zero_ℚ ≤ℚ value_of p.variance.hi = ≤ℚ_trans _ _ _ (h.0).not_negative (o.0).ordered in
    let later = within_on p.variance low ps h.1 o.1 v e in
    all_within v (p ∷ ps) h (≤ℚ_trans _ _ _ (o.0).ordered later.0, later.1)

-- the whole is above 0 where it is not 0
whole_low : (v : Interval) (ps : List Part) → AllParts (IsPartOf v) ps → variance_span ps ≡ Some v → zero_ℚ ≤ℚ value_of v.hi
whole_low v [] h e = subst (λ t. zero_ℚ ≤ℚ value_of t.hi) (same_Some zero_span v e) (≤ℚ_same _ _ (sym (value-whole (pos 0))))
whole_low v (p ∷ ps) h e = ≤ℚ_trans _ _ _ (h.0).part.not_negative (h.0).within

pub whole_above : (ps : List Part) → AreParts ps → AreOrdered ps → (v : Interval) → variance_span ps ≡ Some v → is_zero v.hi ≡ false → IsAbove (value_of v.hi)
whole_above ps h o v e n k =
    let low : zero_ℚ ≤ℚ value_of v.hi = whole_low v ps (parts_within ps h o v e) e in
    true≢false (sym (≡-is_zero_ℚ _ (≤ℚ_antisym _ _ k low)) ∙ sym (zero_value v.hi) ∙ n)

pub shares_ordered : (ps : List Part) (ss : List Share) → AreSharesOf ps ss → AreOrdered ps
shares_ordered [] [] k = tt
shares_ordered [] (s ∷ ss) k = absurd k
shares_ordered (p ∷ ps) [] k = absurd k
shares_ordered (p ∷ ps) (s ∷ ss) k = (record { ordered = ≤ℚ_trans _ _ _ (k.0).variance.low (k.0).variance.high }, shares_ordered ps ss k.1)
