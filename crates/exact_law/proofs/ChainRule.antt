-- Values, derivatives and sensitivities row by row are those of the expansion.
use Rattle.std.specs.Prelude.{◌≡◌, Bool, true, false, cond, not, ◌&&◌, Some, List, [], ◌∷◌, pos, refl}
use Rattle.std.proofs.Common.{sym, ◌∙◌, ap, ap₂, subst}
use Rattle.std.proofs.lemmas.Bool.{and_parts, true≢false}
use Rattle.exact_fraction.specs.Number.{ℚ, of_ℤ, ◌+ℚ◌}
use Rattle.exact_fraction.proofs.Ring.{Whole, ◌:+◌, x0, ring}
use Rattle.exact_law.specs.Model.{Expression, Num, Key, Neg, Add, Sub, Mul, Div, Pow, value, slope, is_defined, replaced, Body, Input, Formula, Row, IsSameTest, body_of, estimate, is_input, replaced_body, expanded, unit, exact_value, exact_slope, has_value, body_partial, partial, sweep, IsBackward, keys, absent, once, uses_only, body_uses_only, is_order, AreOf}
use Rattle.exact_law.proofs.Chain.{value-replaced, slope-replaced, is_defined-replaced, along, along-zero, along-once, along-absent, slope-along, AllRows, AllRows-map, IsForward, forward_backward}
use Rattle.exact_law.proofs.Rows.{unused_key, brought-absent, sweep-brought, order-absent, order-uses, order-rest, of_key, IsExpanded, IsExpanded-rows}

-- ---- at a row of the order
replaced_body-row : {K : Type 0} (same : K → K → Bool) (model : List (Row K)) (s : K → Expression K) (n : K) (b : Body K)
    → (f : Expression K) → Some b ≡ Some (Formula f) → replaced_body s n (Some b) ≡ replaced s f
unfolding replaced_body
replaced_body-row same model s n (Input q) f h = cc
replaced_body-row same model s n (Formula g) f h = cc

formula-row : {K : Type 0} (same : K → K → Bool) (model : List (Row K)) (r : Row K) (f : Expression K)
    → IsExpanded same model r → body_of same model r.key ≡ Some (Formula f)
    → expanded same model r.key ≡ replaced (expanded same model) f
formula-row same model r f e h =
    e.expansion_is ∙ replaced_body-row same model (expanded same model) r.key r.body f (sym e.row ∙ h)

pub formula-expanded : {K : Type 0} (same : K → K → Bool) → IsSameTest same → (model rows : List (Row K))
    → AreOf same model rows → is_order same rows ≡ true → (m : K) (f : Expression K)
    → once same m (keys rows) ≡ true → body_of same model m ≡ Some (Formula f)
    → expanded same model m ≡ replaced (expanded same model) f
formula-expanded same law model rows a o m f m1 h =
    of_key same law (λ n. body_of same model n ≡ Some (Formula f) → expanded same model n ≡ replaced (expanded same model) f) rows
    (AllRows-map _ _ (λ r e. formula-row same model r f e) rows (IsExpanded-rows same law model rows o a)) m m1 h

pub value_by_rows : {K : Type 0} (same : K → K → Bool) → IsSameTest same → (model rows : List (Row K))
    → AreOf same model rows → is_order same rows ≡ true → (m : K) (f : Expression K)
    → once same m (keys rows) ≡ true → body_of same model m ≡ Some (Formula f)
    → exact_value same model m ≡ value (exact_value same model) f
unfolding exact_value
value_by_rows same law model rows a o m f m1 h =
    ap (value (estimate same model)) (formula-expanded same law model rows a o m f m1 h)
    ∙ value-replaced (estimate same model) (expanded same model) f

pub has_value_by_rows : {K : Type 0} (same : K → K → Bool) → IsSameTest same → (model rows : List (Row K))
    → AreOf same model rows → is_order same rows ≡ true → (m : K) (f : Expression K)
    → once same m (keys rows) ≡ true → body_of same model m ≡ Some (Formula f)
    → has_value same model m ≡ is_defined (exact_value same model) (has_value same model) f
unfolding exact_value has_value
has_value_by_rows same law model rows a o m f m1 h =
    ap (is_defined (estimate same model) (is_input same model)) (formula-expanded same law model rows a o m f m1 h)
    ∙ is_defined-replaced (estimate same model) (is_input same model) (expanded same model) f

pub slope_by_rows : {K : Type 0} (same : K → K → Bool) → IsSameTest same → (model rows : List (Row K))
    → AreOf same model rows → is_order same rows ≡ true → (m : K) (f : Expression K)
    → once same m (keys rows) ≡ true → body_of same model m ≡ Some (Formula f)
    → (i : K) → exact_slope same model m i ≡ slope (exact_value same model) (λ n. exact_slope same model n i) f
unfolding exact_value exact_slope
slope_by_rows same law model rows a o m f m1 h i =
    ap (slope (estimate same model) (unit same i)) (formula-expanded same law model rows a o m f m1 h)
    ∙ slope-replaced (estimate same model) (unit same i) (expanded same model) f

-- ---- the forward equations
uses_more : {K : Type 0} (same : K → K → Bool) → IsSameTest same → (m : K) (ns : List K) → absent same m ns ≡ true
    → (f : Expression K) → uses_only same ns f ≡ true → uses_only same (m ∷ ns) f ≡ true
unfolding uses_only once
uses_more same law m ns a (Num q) h = refl
uses_more same law m ns a (Key n) h = by (same m n) refl where
  by : (b : Bool) → same m n ≡ b → cond b (absent same n ns) (once same n ns) ≡ true
  by true e = subst (λ k. absent same k ns ≡ true) (law.sound m n e) a
  by false e = h
uses_more same law m ns a (Neg f) h = uses_more same law m ns a f h
uses_more same law m ns a (Add f g) h =
    rw (uses_more same law m ns a f (and_parts _ _ h).0) (uses_more same law m ns a g (and_parts _ _ h).1)
uses_more same law m ns a (Sub f g) h =
    rw (uses_more same law m ns a f (and_parts _ _ h).0) (uses_more same law m ns a g (and_parts _ _ h).1)
uses_more same law m ns a (Mul f g) h =
    rw (uses_more same law m ns a f (and_parts _ _ h).0) (uses_more same law m ns a g (and_parts _ _ h).1)
uses_more same law m ns a (Div f g) h =
    rw (uses_more same law m ns a f (and_parts _ _ h).0) (uses_more same law m ns a g (and_parts _ _ h).1)
uses_more same law m ns a (Pow f k) h = uses_more same law m ns a f h

body_uses_more : {K : Type 0} (same : K → K → Bool) → IsSameTest same → (m : K) (ns : List K) → absent same m ns ≡ true
    → (b : Body K) → body_uses_only same ns b ≡ true → body_uses_only same (m ∷ ns) b ≡ true
unfolding body_uses_only
body_uses_more same law m ns a (Input q) h = refl
body_uses_more same law m ns a (Formula f) h = uses_more same law m ns a f h

order-uses_all : {K : Type 0} (same : K → K → Bool) → IsSameTest same → (rows : List (Row K)) → is_order same rows ≡ true
    → AllRows (λ r. body_uses_only same (keys rows) r.body ≡ true) rows
unfolding keys
order-uses_all same law [] o = tt
order-uses_all same law (r ∷ rs) o = (
  body_uses_more same law r.key (keys rs) (order-absent same r rs o) r.body (order-uses same r rs o),
  AllRows-map _ _ (λ s. body_uses_more same law r.key (keys rs) (order-absent same r rs o) s.body) rs
      (order-uses_all same law rs (order-rest same r rs o)),
)

same-sym : {K : Type 0} (same : K → K → Bool) → IsSameTest same → (n m : K) → unit same n m ≡ unit same m n
unfolding unit
same-sym same law n m = by (same n m) (same m n) refl refl where
  by : (b c : Bool) → same n m ≡ b → same m n ≡ c
      → cond b (of_ℤ (pos 1)) (of_ℤ (pos 0)) ≡ cond c (of_ℤ (pos 1)) (of_ℤ (pos 0))
  by true true e h = refl
  by false false e h = refl
  by true false e h = absurd (true≢false (sym (law.complete n) ∙ ap (λ k. same k n) (law.sound n m e) ∙ h))
  by false true e h = absurd (true≢false (sym (law.complete m) ∙ ap (λ k. same k m) (law.sound m n h) ∙ e))

-- an input of the model is no formula row
unit-input : {K : Type 0} (same : K → K → Bool) → IsSameTest same → (model : List (Row K)) (n i : K) (f : Expression K) (q : ℚ)
    → body_of same model n ≡ Some (Formula f) → body_of same model i ≡ Some (Input q) → unit same n i ≡ of_ℤ (pos 0)
unfolding unit
unit-input same law model n i f q h k = by (same n i) refl where
  by : (b : Bool) → same n i ≡ b → cond b (of_ℤ (pos 1)) (of_ℤ (pos 0)) ≡ of_ℤ (pos 0)
  by true e = let g : body_of same model n ≡ Some (Input q) = ap (body_of same model) (law.sound n i e) ∙ k in cc
  by false e = refl

forward_body : {K : Type 0} (same : K → K → Bool) → IsSameTest same → (model : List (Row K)) (ns : List K) (n i : K) (b : Body K) (q : ℚ)
    → body_of same model n ≡ Some b → body_of same model i ≡ Some (Input q)
    → expanded same model n ≡ replaced_body (expanded same model) n (Some b) → body_uses_only same ns b ≡ true
    → exact_slope same model n i
    ≡ along (λ k. exact_slope same model k i) (λ k. body_partial same (exact_value same model) b k) ns +ℚ unit same n i
unfolding exact_slope exact_value replaced_body body_uses_only body_partial slope
forward_body same law model ns n i (Input p) q h k e u =
    ap (slope (estimate same model) (unit same i)) e ∙ same-sym same law i n
    ∙ ring (unit same n i ∷ []) x0 (Whole (pos 0) :+ x0) refl
    ∙ ap (λ t. t +ℚ unit same n i) (sym (along-zero (λ k. exact_slope same model k i) ns))
forward_body same law model ns n i (Formula f) q h k e u =
    ap (slope (estimate same model) (unit same i)) e
    ∙ slope-replaced (estimate same model) (unit same i) (expanded same model) f
    ∙ sym (slope-along same law (exact_value same model) (λ k. exact_slope same model k i) ns f u)
    ∙ ring (along (λ k. exact_slope same model k i) (λ k. slope (exact_value same model) (unit same k) f) ns ∷ []) x0 (x0 :+ Whole (pos 0)) refl
    ∙ ap (λ t. along (λ k. exact_slope same model k i) (λ k. slope (exact_value same model) (unit same k) f) ns +ℚ t)
    (sym (unit-input same law model n i f q h k))

both_rows : {K : Type 0} (P Q : Row K → Type 0) (rows : List (Row K)) → AllRows P rows → AllRows Q rows → AllRows (λ r. P r × Q r) rows
both_rows P Q [] h k = tt
both_rows P Q (r ∷ rs) h k = ((h.0, k.0), both_rows P Q rs h.1 k.1)

forward : {K : Type 0} (same : K → K → Bool) → IsSameTest same → (model rows : List (Row K))
    → AreOf same model rows → is_order same rows ≡ true → (i : K) (q : ℚ) → body_of same model i ≡ Some (Input q)
    → IsForward same (exact_value same model) (λ n. exact_slope same model n i) i rows
unfolding partial
forward same law model rows a o i q h = record {
  equations =
      AllRows-map _ _
      (λ r e. forward_body same law model (keys rows) r.key i r.body q (e.0).row h (e.0).expansion_is e.1) rows
      (both_rows (IsExpanded same model) (λ r. body_uses_only same (keys rows) r.body ≡ true) rows
      (IsExpanded-rows same law model rows o a) (order-uses_all same law rows o));
}

-- ---- the chain rule
-- a key stands once in an order, or not at all
once_or_absent : {K : Type 0} (same : K → K → Bool) → IsSameTest same → (i : K) (rows : List (Row K)) → is_order same rows ≡ true
    → once same i (keys rows) ≡ false → absent same i (keys rows) ≡ true
unfolding once absent keys
once_or_absent same law i [] o h = refl
once_or_absent same law i (r ∷ rs) o h =
    by (same r.key i) refl h (once_or_absent same law i rs (order-rest same r rs o)) where
      by : (b : Bool) → same r.key i ≡ b → cond b (absent same i (keys rs)) (once same i (keys rs)) ≡ false
          → (once same i (keys rs) ≡ false → absent same i (keys rs) ≡ true) → (not b && absent same i (keys rs)) ≡ true
      by true e h ih =
          absurd (true≢false (sym (subst (λ k. absent same k (keys rs) ≡ true) (law.sound r.key i e) (order-absent same r rs o)) ∙ h))
      by false e h ih = ih h

-- whatever solves the backward equations has the derivatives of the expansion
pub gradient : {K : Type 0} (same : K → K → Bool) → IsSameTest same → (model rows : List (Row K))
    → AreOf same model rows → is_order same rows ≡ true → (y : K) → once same y (keys rows) ≡ true
    → (a : K → ℚ) → IsBackward same (exact_value same model) a y rows
    → (i : K) (q : ℚ) → body_of same model i ≡ Some (Input q) → exact_slope same model y i ≡ a i
gradient same law model rows m o y y1 a b i q h =
    forward_backward same law (exact_value same model) a (λ n. exact_slope same model n i) y i rows
    (forward same law model rows m o i q h) b y1
    ∙ by (once same i (keys rows)) refl where
      by : (c : Bool) → once same i (keys rows) ≡ c → along a (λ n. unit same n i) (keys rows) ≡ a i
      by true e = along-once same law a i (keys rows) e
      by false e =
          along-absent same a i (keys rows) (once_or_absent same law i rows o e)
          ∙ ring [] (Whole (pos 0)) (Whole (pos 0) :+ Whole (pos 0)) refl
          ∙ sym (ap₂ ◌+ℚ◌ (unused_key same law i y (keys rows) y1 (once_or_absent same law i rows o e))
          (brought-absent same law (exact_value same model) a i rows o (once_or_absent same law i rows o e)))
          ∙ sym (b.equation i)

-- and the sweep does
pub sweep-backward : {K : Type 0} (same : K → K → Bool) → IsSameTest same → (v : K → ℚ) (rows : List (Row K)) (y : K)
    → is_order same rows ≡ true → IsBackward same v (sweep same v rows (λ n. unit same n y)) y rows
sweep-backward same law v rows y o = record { equation = sweep-brought same law v rows (λ n. unit same n y) o }

-- an input that has no row in the order moves nothing
pub outside_cone : {K : Type 0} (same : K → K → Bool) → IsSameTest same → (model rows : List (Row K))
    → AreOf same model rows → is_order same rows ≡ true → (y : K) → once same y (keys rows) ≡ true
    → (i : K) (q : ℚ) → body_of same model i ≡ Some (Input q) → once same i (keys rows) ≡ false
    → exact_slope same model y i ≡ of_ℤ (pos 0)
outside_cone same law model rows m o y y1 i q h e =
    forward_backward same law (exact_value same model) (sweep same (exact_value same model) rows (λ n. unit same n y)) (λ n. exact_slope same model n i) y i rows
    (forward same law model rows m o i q h) (sweep-backward same law (exact_value same model) rows y o) y1
    ∙ along-absent same (sweep same (exact_value same model) rows (λ n. unit same n y)) i (keys rows) (once_or_absent same law i rows o e)
