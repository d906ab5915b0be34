-- The span of 1/ν encloses the exact one.
use Rattle.std.specs.Prelude.{◌≡◌, ℕ, ◌*◌, ◌<◌, Bool, true, false, not, ◌&&◌, nat_le, if◌then◌else◌, List, [], ◌∷◌, map, filter, Some, pos, refl}
use Rattle.std.proofs.Common.{sym, ◌∙◌, ap, subst, arith}
use Rattle.std.proofs.lemmas.Bool.{and_parts, leb-true}
use Rattle.exact_fraction.specs.Number.{ℚ, of_ℤ, ◌+ℚ◌, ◌*ℚ◌, ◌/ℚ◌, inv_ℚ, ◌≤ℚ◌}
use Rattle.exact_fraction.specs.NumberLaws.{≤ℚ_refl, ≤ℚ_trans, ≤ℚ_antisym, ≤ℚ_same, *ℚ-inv}
use Rattle.exact_fraction.proofs.Quotients.{is_zero_ℚ-≡, positive_not_zero, /ℚ-*ℚ, *ℚ_cancel, number_of-parts}
use Rattle.exact_fraction.proofs.OrderLaws.{*ℚ-not_negative}
use Rattle.exact_fraction.proofs.Signs.{whole-not_negative, inv-not_negative, of_pos-*}
use Rattle.exact_fraction.proofs.SumLaws.{total-times_right}
use Rattle.exact_fraction.proofs.Ring.{ring, Whole, ◌:+◌, ◌:*◌, x0, x1, x2}
use Rattle.exact_fraction.specs.Sums.{total}
use Rattle.exact_law.specs.Degrees.{Share, weight}
use Rattle.decimal18.specs.Bound.{Bound, scaled, fraction_of, value_of}
use Rattle.decimal18.proofs.Canonical.{IsReduced-canonical}
use Rattle.decimal18.proofs.Values.{value-whole}
use Rattle.fixed_interval.specs.Interval.{Interval, Encloses, point_span}
use Rattle.fixed_interval.specs.Rules.{share_span, square_span, quotient_span}
use Rattle.fixed_interval.specs.Powers.{then_span}
use Rattle.fixed_interval.specs.Sums.{Holds, AllHold, zero_span}
use Rattle.fixed_interval.proofs.Enclosures.{point_encloses, zero_encloses}
use Rattle.fixed_interval.proofs.Inclusions.{zero_ℚ, square_span_encloses}
use Rattle.fixed_interval.proofs.Shares.{IsAbove, is_part, share_span_encloses}
use Rattle.fixed_interval.proofs.Sums.{some_holds, product_holds, sum_of_holds}
use Rattle.type_b.specs.declared.shape.Dof.{Dof}
use Rattle.type_b.specs.declared.shape.Dof.TheVariants.{Inf, Whole as WholeDegrees, Rel}
use Rattle.type_b.specs.Shapes.{IsDegrees, inverse_degrees, is_zero, most_degrees}
use Rattle.type_b.proofs.Enclosed.{then_holds}
use Rattle.type_b.proofs.Quotients.{quotient_holds}
use Rattle.eff_dof.specs.declared.part.Part.{Part}
use Rattle.eff_dof.specs.Parts.{AllParts, IsPart, AreParts, IsPartOf, IsShareOf, AreSharesOf}
use Rattle.eff_dof.specs.Degrees.{is_finite, counts, inverse_of_percent, over_degrees, term, terms, inverse_span, variances, variance_span}
use Rattle.eff_dof.proofs.Exact.{IsSound, AllShares, sum_of_parts, parts-not_negative, first_within, rest_within, no_part, no_degrees, zero_value, whole_not_zero}

-- ---- degrees
pub some_degrees : (n : ℕ) → IsDegrees (WholeDegrees n) → 0 < n
some_degrees n h = leb-true 1 n (and_parts (nat_le 1 n) (nat_le n most_degrees) h).0

over_whole_holds : (n : ℕ) → 0 < n → (s : Interval) (q : ℚ) → Encloses s q → Holds (quotient_span s (point_span (scaled (pos n) 0))) (q /ℚ of_ℤ (pos n))
over_whole_holds n h s q k =
    let by : Bound = scaled (pos n) 0 in
    subst (λ y. Holds (quotient_span s (point_span by)) (q /ℚ y)) (value-whole (pos n))
    (quotient_holds s by (whole_not_zero n h) q k)

pub degrees-not_negative : (d : Dof) → zero_ℚ ≤ℚ inverse_degrees d
degrees-not_negative Inf = ≤ℚ_refl _
degrees-not_negative (WholeDegrees n) = *ℚ-not_negative _ _ (whole-not_negative 1) (inv-not_negative _ (whole-not_negative n))
degrees-not_negative (Rel p) = *ℚ-not_negative _ _ (whole-not_negative (p * p)) (inv-not_negative _ (whole-not_negative 5000))

halved : (m : ℕ) → of_ℤ (pos (2 * m)) /ℚ of_ℤ (pos 10000) ≡ of_ℤ (pos m) /ℚ of_ℤ (pos 5000)
halved m =
    *ℚ_cancel _ _ (of_ℤ (pos 10000)) (positive_not_zero 10000 (omega arith))
    (/ℚ-*ℚ (of_ℤ (pos (2 * m))) (of_ℤ (pos 10000)) (positive_not_zero 10000 (omega arith))
    ∙ of_pos-* 2 m
    ∙ ring (of_ℤ (pos m) ∷ []) (Whole (pos 2) :* x0) ((x0 :* Whole (pos 2)) :* Whole (pos 1)) refl
    ∙ ap (λ t. (of_ℤ (pos m) *ℚ of_ℤ (pos 2)) *ℚ t) (sym (*ℚ-inv (of_ℤ (pos 5000)) (positive_not_zero 5000 (omega arith))))
    ∙ ring (of_ℤ (pos m) ∷ inv_ℚ (of_ℤ (pos 5000)) ∷ []) ((x0 :* Whole (pos 2)) :* (Whole (pos 5000) :* x1)) ((x0 :* x1) :* Whole (pos 10000)) refl)

percent_value : (p : ℕ) → value_of (inverse_of_percent p) ≡ inverse_degrees (Rel p)
unfolding value_of
percent_value p =
    (IsReduced-canonical (pos (2 * (p * p))) 4).same ∙ number_of-parts (fraction_of (scaled (pos (2 * (p * p))) 4)) ∙ halved (p * p)

over_degrees_holds : (d : Dof) → IsDegrees d → (s : Interval) (q : ℚ) → Encloses s q → Holds (over_degrees d s) (q *ℚ inverse_degrees d)
over_degrees_holds Inf h s q k = subst (Encloses zero_span) (ring (q ∷ []) (Whole (pos 0)) (x0 :* Whole (pos 0)) refl) zero_encloses
over_degrees_holds (WholeDegrees n) h s q k =
    subst (Holds (over_degrees (WholeDegrees n) s))
    (ring (q ∷ inv_ℚ (of_ℤ (pos n)) ∷ []) (x0 :* x1) (x0 :* (Whole (pos 1) :* x1)) refl)
    (over_whole_holds n (some_degrees n h) s q k)
over_degrees_holds (Rel p) h s q k =
    subst (λ y. Holds (over_degrees (Rel p) s) (q *ℚ y)) (percent_value p)
    (product_holds (Some s) (Some (point_span (inverse_of_percent p))) q (value_of (inverse_of_percent p)) k (point_encloses (inverse_of_percent p)))

-- ---- one term
abbrev pub exact_term : ℚ → Share → ℚ
exact_term r s = weight s *ℚ (inv_ℚ r *ℚ inv_ℚ r)

pub part-not_negative : (p : Part) (s : Share) → IsPart p → IsShareOf p s → zero_ℚ ≤ℚ s.part
part-not_negative p s h k = ≤ℚ_trans _ _ _ h.not_negative k.variance.low

term_holds : (v : Interval) (p : Part) (s : Share) (r : ℚ) → IsPartOf v p → IsShareOf p s → Encloses v r → IsAbove r → s.part ≤ℚ r
    → Holds (term v p) (exact_term r s)
unfolding weight
term_holds v p s r h k e above below =
    let positive : IsAbove (value_of v.hi) = λ z. above (≤ℚ_trans _ _ _ e.high z) in
    let is = is_part p.variance v h.part.not_negative h.within positive (record { ordered = ≤ℚ_trans _ _ _ k.variance.low k.variance.high }) in
    let share : ℚ = s.part /ℚ r in
    subst (Holds (term v p))
    (ap (λ d. (share *ℚ share) *ℚ d) (sym k.degrees)
    ∙ ring (s.part ∷ inv_ℚ r ∷ s.inverse_degrees ∷ []) (((x0 :* x1) :* (x0 :* x1)) :* x2) ((x0 :* x0 :* x2) :* (x1 :* x1)) refl)
    (then_holds (then_span (share_span p.variance v) square_span) (over_degrees p.dof) (share *ℚ share) _
    (then_holds (share_span p.variance v) square_span share _
    (some_holds (share_span p.variance v) share
    (λ t f. share_span_encloses p.variance v t is f s.part r k.variance e (part-not_negative p s h.part k) below above))
    (λ t g. some_holds (square_span t) _ (λ u f. square_span_encloses t u f share g)))
    (λ t g. over_degrees_holds p.dof h.part.degrees t (share *ℚ share) g))

-- ---- parts that do not count
part_zero : (p : Part) (s : Share) → IsPart p → IsShareOf p s → is_zero p.variance.hi ≡ true → s.part ≡ zero_ℚ
part_zero p s h k e =
    let none : value_of p.variance.hi ≡ zero_ℚ = is_zero_ℚ-≡ _ (sym (zero_value p.variance.hi) ∙ e) in
    ≤ℚ_antisym _ _ (≤ℚ_trans _ _ _ k.variance.high (≤ℚ_same _ _ none)) (part-not_negative p s h k)

pub no_weight : (p : Part) (s : Share) → IsPart p → IsShareOf p s → counts p ≡ false → weight s ≡ zero_ℚ
no_weight p s h k e = by p.dof (is_zero p.variance.hi) refl refl e where
  by : (d : Dof) (z : Bool) → p.dof ≡ d → is_zero p.variance.hi ≡ z → (is_finite d && not z) ≡ false → weight s ≡ zero_ℚ
  by Inf z f g e = no_degrees s (k.degrees ∙ ap inverse_degrees f)
  by (WholeDegrees n) true f g e = no_part s (part_zero p s h k g)
  by (WholeDegrees n) false f g e = absurd (cc)
  by (Rel q) true f g e = no_part s (part_zero p s h k g)
  by (Rel q) false f g e = absurd (cc)

-- ---- all terms
pub shares_sound : (ps : List Part) (ss : List Share) → AreParts ps → AreSharesOf ps ss → AllShares IsSound ss
shares_sound [] [] h k = tt
shares_sound [] (s ∷ ss) h k = absurd k
shares_sound (p ∷ ps) [] h k = absurd k
shares_sound (p ∷ ps) (s ∷ ss) h k =
    (record { part = part-not_negative p s h.0 k.0; inverse = subst (λ d. zero_ℚ ≤ℚ d) (sym (k.0).degrees) (degrees-not_negative p.dof) }, shares_sound ps ss h.1 k.1)

pub parts_of : (v : Interval) (ps : List Part) → AllParts (IsPartOf v) ps → AreParts ps
parts_of v [] h = tt
parts_of v (p ∷ ps) h = ((h.0).part, parts_of v ps h.1)

counted_terms : ℚ → List Part → List Share → List ℚ
counted_terms r [] ss = []
counted_terms r (p ∷ ps) [] = []
counted_terms r (p ∷ ps) (s ∷ ss) = if counts p then exact_term r s ∷ counted_terms r ps ss else counted_terms r ps ss

terms_hold : (v : Interval) (r : ℚ) → Encloses v r → IsAbove r → (ps : List Part) (ss : List Share) → AllParts (IsPartOf v) ps → AreSharesOf ps ss
    → sum_of_parts ss ≤ℚ r → AllHold (terms v ps) (counted_terms r ps ss)
unfolding total counted_terms
terms_hold v r e a [] [] h k b = tt
terms_hold v r e a [] (s ∷ ss) h k b = absurd k
terms_hold v r e a (p ∷ ps) [] h k b = absurd k
terms_hold v r e a (p ∷ ps) (s ∷ ss) h k b = by (counts p) (terms_hold v r e a ps ss h.1 k.1 rest) where
  first : s.part ≤ℚ r
  first = first_within s.part (sum_of_parts ss) r (parts-not_negative ss (shares_sound ps ss (parts_of v ps h.1) k.1)) b

  rest : sum_of_parts ss ≤ℚ r
  rest = rest_within s.part (sum_of_parts ss) r (part-not_negative p s (h.0).part k.0) b

  by : (c : Bool) → AllHold (terms v ps) (counted_terms r ps ss)
      → AllHold (map (term v) (if c then p ∷ filter counts ps else filter counts ps)) (if c then exact_term r s ∷ counted_terms r ps ss else counted_terms r ps ss)
  by true others = (term_holds v p s r h.0 k.0 e a first, others)
  by false others = others

total_counted : (r : ℚ) (ps : List Part) (ss : List Share) → AreParts ps → AreSharesOf ps ss
    → total (λ q. q) (counted_terms r ps ss) ≡ total (exact_term r) ss
unfolding total counted_terms
total_counted r [] [] h k = refl
total_counted r [] (s ∷ ss) h k = absurd k
total_counted r (p ∷ ps) [] h k = absurd k
total_counted r (p ∷ ps) (s ∷ ss) h k = by (counts p) refl (total_counted r ps ss h.1 k.1) where
  by : (c : Bool) → counts p ≡ c → total (λ q. q) (counted_terms r ps ss) ≡ total (exact_term r) ss
      → total (λ q. q) (if c then exact_term r s ∷ counted_terms r ps ss else counted_terms r ps ss) ≡ exact_term r s +ℚ total (exact_term r) ss
  by true f others = ap (λ t. exact_term r s +ℚ t) others
  by false f others =
      others
      ∙ ring (total (exact_term r) ss ∷ inv_ℚ r ∷ []) x0 ((Whole (pos 0) :* (x1 :* x1)) :+ x0) refl
      ∙ ap (λ t. (t *ℚ (inv_ℚ r *ℚ inv_ℚ r)) +ℚ total (exact_term r) ss) (sym (no_weight p s h.0 k.0 f))

-- 1/ν by the shares in r, which is the exact variance, or any greater number of its span
pub inverse_holds : (v : Interval) (r : ℚ) → Encloses v r → IsAbove r → (ps : List Part) (ss : List Share) → AllParts (IsPartOf v) ps → AreSharesOf ps ss
    → sum_of_parts ss ≤ℚ r → Holds (inverse_span v ps) (total weight ss *ℚ (inv_ℚ r *ℚ inv_ℚ r))
inverse_holds v r e a ps ss h k b =
    subst (Holds (inverse_span v ps))
    (total_counted r ps ss (parts_of v ps h) k ∙ total-times_right weight (inv_ℚ r *ℚ inv_ℚ r) ss)
    (sum_of_holds (terms v ps) (counted_terms r ps ss) (terms_hold v r e a ps ss h k b))

-- ---- the variance
pub variance_holds : (ps : List Part) (ss : List Share) → AreSharesOf ps ss → Holds (variance_span ps) (sum_of_parts ss)
unfolding total
variance_holds ps ss k = subst (Holds (variance_span ps)) (as_parts ss) (sum_of_holds (variances ps) (map (λ s. s.part) ss) (all_hold ps ss k)) where
  as_parts : (ss : List Share) → total (λ q. q) (map (λ s. s.part) ss) ≡ sum_of_parts ss
  as_parts [] = refl
  as_parts (s ∷ ss) = ap (λ t. s.part +ℚ t) (as_parts ss)

  all_hold : (ps : List Part) (ss : List Share) → AreSharesOf ps ss → AllHold (variances ps) (map (λ s. s.part) ss)
  all_hold [] [] k = tt
  all_hold [] (s ∷ ss) k = absurd k
  all_hold (p ∷ ps) [] k = absurd k
  all_hold (p ∷ ps) (s ∷ ss) k = ((k.0).variance, all_hold ps ss k.1)
