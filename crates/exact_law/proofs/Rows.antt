-- Orders of rows: the sweep solves the backward equations, the values and derivatives of the expansion
-- solve the forward ones, and an order is no longer than its model.
use Rattle.std.specs.Prelude.{◌≡◌, ℕ, suc, zero, ◌≤◌, Bool, true, false, cond, Some, List, [], ◌∷◌, length, pos, refl}
use Rattle.std.proofs.Common.{sym, ◌∙◌, ap, ap₂, subst, arith}
use Rattle.std.proofs.lemmas.Bool.{and_parts, not-true, true≢false}
use Rattle.exact_fraction.specs.Number.{ℚ, of_ℤ, ◌+ℚ◌, ◌*ℚ◌, ◌/ℚ◌, neg_ℚ, inv_ℚ, ◌-ℚ◌}
use Rattle.exact_fraction.proofs.Ring.{Whole, ◌:+◌, ◌:-◌, ◌:*◌, Minus, x0, x1, x2, ring}
use Rattle.exact_fraction.specs.Sums.{total}
use Rattle.exact_law.specs.Model.{Expression, Num, Key, Neg, Add, Sub, Mul, Div, Pow, value, power_slope, slope, replaced, Body, Input, Formula, Row, IsSameTest, body_of, replaced_body, expansion, expanded, unit, body_partial, partial, sweep, brought, keys, absent, once, uses_only, body_uses_only, is_order, AreOf}
use Rattle.exact_law.proofs.Chain.{AllRows, AllRows-map}

-- ---- what an order says of its first row
pub order-absent : {K : Type 0} (same : K → K → Bool) (r : Row K) (rs : List (Row K)) → is_order same (r ∷ rs) ≡ true
    → absent same r.key (keys rs) ≡ true
unfolding is_order
order-absent same r rs o = (and_parts _ _ (and_parts _ _ o).0).0

pub order-uses : {K : Type 0} (same : K → K → Bool) (r : Row K) (rs : List (Row K)) → is_order same (r ∷ rs) ≡ true
    → body_uses_only same (keys rs) r.body ≡ true
unfolding is_order
order-uses same r rs o = (and_parts _ _ (and_parts _ _ o).0).1

pub order-rest : {K : Type 0} (same : K → K → Bool) (r : Row K) (rs : List (Row K)) → is_order same (r ∷ rs) ≡ true
    → is_order same rs ≡ true
unfolding is_order
order-rest same r rs o = (and_parts _ _ o).1

-- ---- keys that are absent
pub absent_once : {K : Type 0} (same : K → K → Bool) (n : K) (ns : List K) → absent same n ns ≡ true → once same n ns ≡ false
unfolding absent once
absent_once same n [] h = refl
absent_once same n (m ∷ ms) h =
    rw (not-true (same m n) (and_parts _ _ h).0) (absent_once same n ms (and_parts _ _ h).1)

-- a key that is not used has the derivative 0
pub unused_key : {K : Type 0} (same : K → K → Bool) → IsSameTest same → (n k : K) (ns : List K)
    → once same k ns ≡ true → absent same n ns ≡ true → unit same n k ≡ of_ℤ (pos 0)
unfolding unit
unused_key same law n k ns k1 n0 = by (same n k) refl where
  by : (b : Bool) → same n k ≡ b → cond b (of_ℤ (pos 1)) (of_ℤ (pos 0)) ≡ of_ℤ (pos 0)
  by true e = absurd (true≢false (sym k1 ∙ absent_once same k ns (subst (λ m. absent same m ns ≡ true) (law.sound n k e) n0)))
  by false e = refl

pub slope-unused : {K : Type 0} (same : K → K → Bool) → IsSameTest same → (v : K → ℚ) (n : K) (ns : List K) (f : Expression K)
    → uses_only same ns f ≡ true → absent same n ns ≡ true → slope v (unit same n) f ≡ of_ℤ (pos 0)
unfolding slope uses_only
slope-unused same law v n ns (Num q) h n0 = refl
slope-unused same law v n ns (Key k) h n0 = unused_key same law n k ns h n0
slope-unused same law v n ns (Neg a) h n0 =
    ap neg_ℚ (slope-unused same law v n ns a h n0) ∙ ring [] (Minus (Whole (pos 0))) (Whole (pos 0)) refl
slope-unused same law v n ns (Add a b) h n0 =
    ap₂ ◌+ℚ◌ (slope-unused same law v n ns a (and_parts _ _ h).0 n0) (slope-unused same law v n ns b (and_parts _ _ h).1 n0)
    ∙ ring [] (Whole (pos 0) :+ Whole (pos 0)) (Whole (pos 0)) refl
slope-unused same law v n ns (Sub a b) h n0 =
    ap₂ ◌-ℚ◌ (slope-unused same law v n ns a (and_parts _ _ h).0 n0) (slope-unused same law v n ns b (and_parts _ _ h).1 n0)
    ∙ ring [] (Whole (pos 0) :- Whole (pos 0)) (Whole (pos 0)) refl
slope-unused same law v n ns (Mul a b) h n0 =
    ap₂ (λ s t. (s *ℚ value v b) +ℚ (value v a *ℚ t))
    (slope-unused same law v n ns a (and_parts _ _ h).0 n0) (slope-unused same law v n ns b (and_parts _ _ h).1 n0)
    ∙ ring (value v a ∷ value v b ∷ []) (Whole (pos 0) :* x1 :+ x0 :* Whole (pos 0)) (Whole (pos 0)) refl
slope-unused same law v n ns (Div a b) h n0 =
    ap₂ (λ s t. (s -ℚ (value v (Div a b) *ℚ t)) /ℚ value v b)
    (slope-unused same law v n ns a (and_parts _ _ h).0 n0) (slope-unused same law v n ns b (and_parts _ _ h).1 n0)
    ∙ ring (value v (Div a b) ∷ inv_ℚ (value v b) ∷ []) ((Whole (pos 0) :- x0 :* Whole (pos 0)) :* x1) (Whole (pos 0)) refl
slope-unused same law v n ns (Pow a k) h n0 =
    ap (λ t. power_slope (value v a) k *ℚ t) (slope-unused same law v n ns a h n0)
    ∙ ring (power_slope (value v a) k ∷ []) (x0 :* Whole (pos 0)) (Whole (pos 0)) refl

pub body_partial-unused : {K : Type 0} (same : K → K → Bool) → IsSameTest same → (v : K → ℚ) (n : K) (ns : List K) (b : Body K)
    → body_uses_only same ns b ≡ true → absent same n ns ≡ true → body_partial same v b n ≡ of_ℤ (pos 0)
unfolding body_partial body_uses_only
body_partial-unused same law v n ns (Input q) h n0 = refl
body_partial-unused same law v n ns (Formula f) h n0 = slope-unused same law v n ns f h n0

-- nothing in an order brings anything to a key that stands in none of its rows
pub brought-absent : {K : Type 0} (same : K → K → Bool) → IsSameTest same → (v a : K → ℚ) (n : K) (rows : List (Row K))
    → is_order same rows ≡ true → absent same n (keys rows) ≡ true → brought same v rows a n ≡ of_ℤ (pos 0)
unfolding total absent keys partial brought
brought-absent same law v a n [] o n0 = refl
brought-absent same law v a n (r ∷ rs) o n0 =
    ap₂ (λ s t. (a r.key *ℚ s) +ℚ t)
    (body_partial-unused same law v n (keys rs) r.body (order-uses same r rs o) (and_parts _ _ n0).1)
    (brought-absent same law v a n rs (order-rest same r rs o) (and_parts _ _ n0).1)
    ∙ ring (a r.key ∷ []) (x0 :* Whole (pos 0) :+ Whole (pos 0)) (Whole (pos 0)) refl

-- ---- the sweep solves the backward equations
sweep_step : {K : Type 0} (same : K → K → Bool) → IsSameTest same → (v given after : K → ℚ) (r : Row K) (rs : List (Row K))
    → is_order same (r ∷ rs) ≡ true
    → ((m : K) → after m ≡ (given m +ℚ given r.key *ℚ partial same v r m) +ℚ brought same v rs after m)
    → (n : K) → after n ≡ given n +ℚ brought same v (r ∷ rs) after n
unfolding total partial brought
sweep_step same law v given after r rs o ih n =
    ih n
    ∙ ap (λ t. (given n +ℚ (t *ℚ body_partial same v r.body n)) +ℚ brought same v rs after n) (sym head)
    ∙ ring (given n ∷ (after r.key *ℚ body_partial same v r.body n) ∷ brought same v rs after n ∷ [])
    ((x0 :+ x1) :+ x2) (x0 :+ (x1 :+ x2)) refl where
      head : after r.key ≡ given r.key
      head =
          ih r.key
          ∙ ap₂ (λ s t. (given r.key +ℚ given r.key *ℚ s) +ℚ t)
          (body_partial-unused same law v r.key (keys rs) r.body (order-uses same r rs o) (order-absent same r rs o))
          (brought-absent same law v after r.key rs (order-rest same r rs o) (order-absent same r rs o))
          ∙ ring (given r.key ∷ []) ((x0 :+ x0 :* Whole (pos 0)) :+ Whole (pos 0)) x0 refl

pub sweep-brought : {K : Type 0} (same : K → K → Bool) → IsSameTest same → (v : K → ℚ) (rows : List (Row K)) (given : K → ℚ)
    → is_order same rows ≡ true → (n : K)
    → sweep same v rows given n ≡ given n +ℚ brought same v rows (sweep same v rows given) n
unfolding sweep total brought
sweep-brought same law v [] given o n = ring (given n ∷ []) x0 (x0 :+ Whole (pos 0)) refl
sweep-brought same law v (r ∷ rs) given o n =
    sweep_step same law v given (sweep same v (r ∷ rs) given) r rs o
    (sweep-brought same law v rs (λ m. given m +ℚ given r.key *ℚ partial same v r m) (order-rest same r rs o)) n

-- ---- an order is no longer than its model
found : {K : Type 0} → (K → K → Bool) → K → List (Row K) → Bool
found same n [] = false
found same n (r ∷ rs) = cond (same r.key n) true (found same n rs)

without : {K : Type 0} → (K → K → Bool) → K → List (Row K) → List (Row K)
without same n [] = []
without same n (r ∷ rs) = cond (same r.key n) rs (r ∷ without same n rs)

length-without : {K : Type 0} (same : K → K → Bool) (n : K) (rows : List (Row K))
    → found same n rows ≡ true → length rows ≡ suc (length (without same n rows))
unfolding found without
length-without same n [] h = absurd (true≢false (sym h))
length-without same n (r ∷ rs) h = by (same r.key n) h (length-without same n rs) where
  by : (b : Bool) → cond b true (found same n rs) ≡ true
      → (found same n rs ≡ true → length rs ≡ suc (length (without same n rs)))
      → suc (length rs) ≡ suc (length (cond b rs (r ∷ without same n rs)))
  by true h ih = refl
  by false h ih = ap suc (ih h)

found-without : {K : Type 0} (same : K → K → Bool) → IsSameTest same → (n m : K) (rows : List (Row K))
    → same n m ≡ false → found same m rows ≡ true → found same m (without same n rows) ≡ true
unfolding found without
found-without same law n m [] d h = h
found-without same law n m (r ∷ rs) d h =
    by (same r.key n) (same r.key m) refl refl h (found-without same law n m rs d) where
      by : (b c : Bool) → same r.key n ≡ b → same r.key m ≡ c → cond c true (found same m rs) ≡ true
          → (found same m rs ≡ true → found same m (without same n rs) ≡ true)
          → found same m (cond b rs (r ∷ without same n rs)) ≡ true
      by true true e f h ih = absurd (true≢false (sym f ∙ ap (λ k. same k m) (law.sound r.key n e) ∙ d))
      by true false e f h ih = h
      by false true e f h ih = rw f refl
      by false false e f h ih = rw f (ih h)

body_of-found : {K : Type 0} (same : K → K → Bool) (n : K) (model : List (Row K)) (b : Body K)
    → body_of same model n ≡ Some b → found same n model ≡ true
unfolding found body_of
body_of-found same n [] b h = cc
body_of-found same n (r ∷ rs) b h = by (same r.key n) h (body_of-found same n rs b) where
  by : (c : Bool) → cond c (Some r.body) (body_of same rs n) ≡ Some b
      → (body_of same rs n ≡ Some b → found same n rs ≡ true) → cond c true (found same n rs) ≡ true
  by true h ih = refl
  by false h ih = ih h

AreOf-found : {K : Type 0} (same : K → K → Bool) (model rows : List (Row K)) → AreOf same model rows
    → AllRows (λ r. found same r.key model ≡ true) rows
unfolding AreOf
AreOf-found same model [] h = tt
AreOf-found same model (r ∷ rs) h = (body_of-found same r.key model r.body h.0, AreOf-found same model rs h.1)

found_without_all : {K : Type 0} (same : K → K → Bool) → IsSameTest same → (n : K) (model rows : List (Row K))
    → absent same n (keys rows) ≡ true → AllRows (λ r. found same r.key model ≡ true) rows
    → AllRows (λ r. found same r.key (without same n model) ≡ true) rows
unfolding absent keys
found_without_all same law n model [] a h = tt
found_without_all same law n model (r ∷ rs) a h = (
  found-without same law n r.key model (other (same n r.key) refl) h.0,
  found_without_all same law n model rs (and_parts _ _ a).1 h.1,
) where
  other : (b : Bool) → same n r.key ≡ b → same n r.key ≡ false
  other true e =
      absurd (true≢false (sym (law.complete n) ∙ ap (λ k. same k n) (law.sound n r.key e) ∙ not-true (same r.key n) (and_parts _ _ a).0))
  other false e = e

order_fits : {K : Type 0} (same : K → K → Bool) → IsSameTest same → (rows model : List (Row K))
    → is_order same rows ≡ true → AllRows (λ r. found same r.key model ≡ true) rows → length rows ≤ length model
order_fits same law [] model o h = omega arith
order_fits same law (r ∷ rs) model o h =
    fits (length-without same r.key model h.0)
    (order_fits same law rs (without same r.key model) (order-rest same r rs o)
    (found_without_all same law r.key model rs (order-absent same r rs o) h.1)) where
      fits : length model ≡ suc (length (without same r.key model)) → length rs ≤ length (without same r.key model)
          → suc (length rs) ≤ length model
      fits e g = omega arith

-- ---- the expansion of a row is its formula with the expansions of what it uses
replaced-same : {K L : Type 0} (same : K → K → Bool) (ns : List K) (s t : K → Expression L)
    → ((n : K) → once same n ns ≡ true → s n ≡ t n) → (f : Expression K) → uses_only same ns f ≡ true
    → replaced s f ≡ replaced t f
unfolding replaced uses_only
replaced-same same ns s t e (Num q) h = refl
replaced-same same ns s t e (Key n) h = e n h
replaced-same same ns s t e (Neg a) h = ap Neg (replaced-same same ns s t e a h)
replaced-same same ns s t e (Add a b) h =
    ap₂ Add (replaced-same same ns s t e a (and_parts _ _ h).0) (replaced-same same ns s t e b (and_parts _ _ h).1)
replaced-same same ns s t e (Sub a b) h =
    ap₂ Sub (replaced-same same ns s t e a (and_parts _ _ h).0) (replaced-same same ns s t e b (and_parts _ _ h).1)
replaced-same same ns s t e (Mul a b) h =
    ap₂ Mul (replaced-same same ns s t e a (and_parts _ _ h).0) (replaced-same same ns s t e b (and_parts _ _ h).1)
replaced-same same ns s t e (Div a b) h =
    ap₂ Div (replaced-same same ns s t e a (and_parts _ _ h).0) (replaced-same same ns s t e b (and_parts _ _ h).1)
replaced-same same ns s t e (Pow a k) h = ap (λ b. Pow b k) (replaced-same same ns s t e a h)

-- what holds of each row's key holds of each key that stands in the rows
pub of_key : {K : Type 0} (same : K → K → Bool) → IsSameTest same → (P : K → Type 0) (rows : List (Row K))
    → AllRows (λ r. P r.key) rows → (n : K) → once same n (keys rows) ≡ true → P n
unfolding once keys
of_key same law P [] h n n1 = absurd (true≢false (sym n1))
of_key same law P (r ∷ rs) h n n1 = by (same r.key n) refl n1 (of_key same law P rs h.1 n) where
  by : (b : Bool) → same r.key n ≡ b → cond b (absent same n (keys rs)) (once same n (keys rs)) ≡ true
      → (once same n (keys rs) ≡ true → P n) → P n
  by true e n1 ih = subst P (law.sound r.key n e) h.0
  by false e n1 ih = ih n1

replaced_body-same : {K : Type 0} (same : K → K → Bool) (ns : List K) (s t : K → Expression K)
    → ((n : K) → once same n ns ≡ true → s n ≡ t n) → (n : K) (b : Body K) → body_uses_only same ns b ≡ true
    → replaced_body s n (Some b) ≡ replaced_body t n (Some b)
unfolding replaced_body body_uses_only
replaced_body-same same ns s t e n (Input q) h = refl
replaced_body-same same ns s t e n (Formula f) h = replaced-same same ns s t e f h

-- with the length of the order as bound the expansion has come to its end
settled : {K : Type 0} (same : K → K → Bool) → IsSameTest same → (model rows : List (Row K)) (k : ℕ)
    → is_order same rows ≡ true → AreOf same model rows → length rows ≤ k
    → AllRows (λ r. expansion same model k r.key ≡ expansion same model (suc k) r.key) rows
unfolding AreOf expansion
settled same law model [] k o h l = tt
settled same law model (r ∷ rs) zero o h l = absurd (omega arith)
settled same law model (r ∷ rs) (suc k) o h l = (
  ap (replaced_body (expansion same model k) r.key) h.0
      ∙ replaced_body-same same (keys rs) (expansion same model k) (expansion same model (suc k))
      (of_key same law _ rs (settled same law model rs k (order-rest same r rs o) h.1 (omega arith)))
      r.key r.body (order-uses same r rs o)
      ∙ sym (ap (replaced_body (expansion same model (suc k)) r.key) h.0),
  settled same law model rs (suc k) (order-rest same r rs o) h.1 (omega arith),
)

-- the two facts on a row of an order that the chain rule needs
pub record IsExpanded {K : Type 0} (same : K → K → Bool) (model : List (Row K)) (r : Row K) : Type 0 where
  pub row : body_of same model r.key ≡ Some r.body
  pub expansion_is : expanded same model r.key ≡ replaced_body (expanded same model) r.key (Some r.body)

expanded-rows : {K : Type 0} (same : K → K → Bool) (model rows : List (Row K)) (k : ℕ)
    → AreOf same model rows → AllRows (λ r. expansion same model k r.key ≡ expansion same model (suc k) r.key) rows
    → AllRows (λ r. (body_of same model r.key ≡ Some r.body)
    × (expansion same model k r.key ≡ replaced_body (expansion same model k) r.key (Some r.body))) rows
unfolding AreOf expansion
expanded-rows same model [] k h e = tt
expanded-rows same model (r ∷ rs) k h e = (
  (h.0, e.0 ∙ ap (replaced_body (expansion same model k) r.key) h.0),
  expanded-rows same model rs k h.1 e.1,
)

pub IsExpanded-rows : {K : Type 0} (same : K → K → Bool) → IsSameTest same → (model rows : List (Row K))
    → is_order same rows ≡ true → AreOf same model rows → AllRows (IsExpanded same model) rows
unfolding expanded
IsExpanded-rows same law model rows o h =
    AllRows-map _ _ (λ r e. record { row = e.0; expansion_is = e.1 }) rows
    (expanded-rows same model rows (length model) h
    (settled same law model rows (length model) o h (order_fits same law rows model o (AreOf-found same model rows h))))
