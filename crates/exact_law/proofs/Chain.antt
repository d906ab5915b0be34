-- The chain rule through shared rows. Its heart needs no induction: the derivatives forwards and the
-- sensitivities backwards solve two systems of equations, of which one is the other's transpose, so
-- that one double sum, read in two ways, ties them together.
use Rattle.std.specs.Prelude.{◌≡◌, Bool, true, false, cond, not, ◌&&◌, List, [], ◌∷◌, pos, negsuc, refl}
use Rattle.std.proofs.Common.{sym, ◌∙◌, ap, ap₂}
use Rattle.std.proofs.lemmas.Bool.{and_parts, true≢false}
use Rattle.exact_fraction.specs.Number.{ℚ, of_ℤ, ◌+ℚ◌, ◌*ℚ◌, neg_ℚ, inv_ℚ, ◌-ℚ◌}
use Rattle.exact_fraction.proofs.Ring.{Whole, ◌:+◌, ◌:*◌, Minus, x0, x1, x2, ring}
use Rattle.exact_fraction.specs.Sums.{total}
use Rattle.exact_law.specs.Model.{Expression, Num, Key, Neg, Add, Sub, Mul, Div, Pow, value, power_slope, slope, is_defined, replaced, Row, IsSameTest, unit, partial, brought, IsBackward, keys, absent, once, uses_only}
use Rattle.exact_fraction.proofs.SumLaws.{total-same, total-zero, total-plus, total-times, total-times_right, total-swap}

-- ---- value and derivative of an expression in which keys are replaced: row by row is the expansion
pub value-replaced : {K L : Type 0} (v : L → ℚ) (s : K → Expression L) (f : Expression K)
    → value v (replaced s f) ≡ value (λ n. value v (s n)) f
unfolding value replaced
value-replaced v s (Num q) = refl
value-replaced v s (Key n) = refl
value-replaced v s (Neg a) = cc (value-replaced v s a)
value-replaced v s (Add a b) = cc (value-replaced v s a, value-replaced v s b)
value-replaced v s (Sub a b) = cc (value-replaced v s a, value-replaced v s b)
value-replaced v s (Mul a b) = cc (value-replaced v s a, value-replaced v s b)
value-replaced v s (Div a b) = cc (value-replaced v s a, value-replaced v s b)
value-replaced v s (Pow a n) = cc (value-replaced v s a)

pub slope-replaced : {K L : Type 0} (v d : L → ℚ) (s : K → Expression L) (f : Expression K)
    → slope v d (replaced s f) ≡ slope (λ n. value v (s n)) (λ n. slope v d (s n)) f
unfolding value slope replaced
slope-replaced v d s (Num q) = refl
slope-replaced v d s (Key n) = refl
slope-replaced v d s (Neg a) = cc (slope-replaced v d s a)
slope-replaced v d s (Add a b) = cc (slope-replaced v d s a, slope-replaced v d s b)
slope-replaced v d s (Sub a b) = cc (slope-replaced v d s a, slope-replaced v d s b)
slope-replaced v d s (Mul a b) =
    cc (slope-replaced v d s a, slope-replaced v d s b, value-replaced v s a, value-replaced v s b)
slope-replaced v d s (Div a b) =
    cc (slope-replaced v d s a, slope-replaced v d s b, value-replaced v s a, value-replaced v s b)
slope-replaced v d s (Pow a n) = cc (slope-replaced v d s a, value-replaced v s a)

pub is_defined-replaced : {K L : Type 0} (v : L → ℚ) (known : L → Bool) (s : K → Expression L) (f : Expression K)
    → is_defined v known (replaced s f) ≡ is_defined (λ n. value v (s n)) (λ n. is_defined v known (s n)) f
unfolding value is_defined replaced
is_defined-replaced v k s (Num q) = refl
is_defined-replaced v k s (Key n) = refl
is_defined-replaced v k s (Neg a) = is_defined-replaced v k s a
is_defined-replaced v k s (Add a b) = cc (is_defined-replaced v k s a, is_defined-replaced v k s b)
is_defined-replaced v k s (Sub a b) = cc (is_defined-replaced v k s a, is_defined-replaced v k s b)
is_defined-replaced v k s (Mul a b) = cc (is_defined-replaced v k s a, is_defined-replaced v k s b)
is_defined-replaced v k s (Div a b) =
    cc (is_defined-replaced v k s a, is_defined-replaced v k s b, value-replaced v s b)
is_defined-replaced v k s (Pow a n) = cc (is_defined-replaced v k s a, value-replaced v s a)

-- ---- the sum of the products with d
abbrev pub along : {K : Type 0} → (K → ℚ) → (K → ℚ) → List K → ℚ
along d p ns = total (λ n. p n *ℚ d n) ns

pub along-zero : {K : Type 0} (d : K → ℚ) (ns : List K) → along d (λ n. of_ℤ (pos 0)) ns ≡ of_ℤ (pos 0)
along-zero d ns =
    total-same (λ n. of_ℤ (pos 0) *ℚ d n) (λ n. of_ℤ (pos 0)) ns
    (λ n. ring (d n ∷ []) (Whole (pos 0) :* x0) (Whole (pos 0)) refl) ∙ total-zero ns

along-neg : {K : Type 0} (d p : K → ℚ) (ns : List K) → along d (λ n. neg_ℚ (p n)) ns ≡ neg_ℚ (along d p ns)
along-neg d p ns =
    total-same (λ n. neg_ℚ (p n) *ℚ d n) (λ n. of_ℤ (negsuc 0) *ℚ (p n *ℚ d n)) ns
    (λ n. ring (p n ∷ d n ∷ []) (Minus x0 :* x1) (Whole (negsuc 0) :* (x0 :* x1)) refl)
    ∙ total-times (of_ℤ (negsuc 0)) (λ n. p n *ℚ d n) ns
    ∙ ring (along d p ns ∷ []) (Whole (negsuc 0) :* x0) (Minus x0) refl

along-plus : {K : Type 0} (d p q : K → ℚ) (ns : List K)
    → along d (λ n. p n +ℚ q n) ns ≡ along d p ns +ℚ along d q ns
along-plus d p q ns =
    total-same (λ n. (p n +ℚ q n) *ℚ d n) (λ n. (p n *ℚ d n) +ℚ (q n *ℚ d n)) ns
    (λ n. ring (p n ∷ q n ∷ d n ∷ []) ((x0 :+ x1) :* x2) (x0 :* x2 :+ x1 :* x2) refl)
    ∙ total-plus (λ n. p n *ℚ d n) (λ n. q n *ℚ d n) ns

along-times : {K : Type 0} (d : K → ℚ) (k : ℚ) (p : K → ℚ) (ns : List K)
    → along d (λ n. k *ℚ p n) ns ≡ k *ℚ along d p ns
along-times d k p ns =
    total-same (λ n. (k *ℚ p n) *ℚ d n) (λ n. k *ℚ (p n *ℚ d n)) ns
    (λ n. ring (k ∷ p n ∷ d n ∷ []) ((x0 :* x1) :* x2) (x0 :* (x1 :* x2)) refl)
    ∙ total-times k (λ n. p n *ℚ d n) ns

along-times_right : {K : Type 0} (d p : K → ℚ) (k : ℚ) (ns : List K)
    → along d (λ n. p n *ℚ k) ns ≡ along d p ns *ℚ k
along-times_right d p k ns =
    total-same (λ n. (p n *ℚ k) *ℚ d n) (λ n. (p n *ℚ d n) *ℚ k) ns
    (λ n. ring (k ∷ p n ∷ d n ∷ []) ((x1 :* x0) :* x2) ((x1 :* x2) :* x0) refl)
    ∙ total-times_right (λ n. p n *ℚ d n) k ns

-- ---- a sum in which one key counts
unit-if : (b : Bool) (x s : ℚ) → cond b (of_ℤ (pos 1)) (of_ℤ (pos 0)) *ℚ x +ℚ s ≡ cond b (x +ℚ s) s
unit-if true x s = ring (x ∷ s ∷ []) (Whole (pos 1) :* x0 :+ x1) (x0 :+ x1) refl
unit-if false x s = ring (x ∷ s ∷ []) (Whole (pos 0) :* x0 :+ x1) x1 refl

pub along-absent : {K : Type 0} (same : K → K → Bool) (d : K → ℚ) (k : K) (ns : List K)
    → absent same k ns ≡ true → along d (λ n. unit same n k) ns ≡ of_ℤ (pos 0)
unfolding total absent unit
along-absent same d k [] h = refl
along-absent same d k (n ∷ ns) h = by (same n k) h (along-absent same d k ns) where
  by : (b : Bool) → (not b && absent same k ns) ≡ true
      → (absent same k ns ≡ true → along d (λ n. unit same n k) ns ≡ of_ℤ (pos 0))
      → cond b (of_ℤ (pos 1)) (of_ℤ (pos 0)) *ℚ d n +ℚ along d (λ n. unit same n k) ns ≡ of_ℤ (pos 0)
  by true h ih = absurd (true≢false (sym h))
  by false h ih = unit-if false (d n) _ ∙ ih h

pub along-once : {K : Type 0} (same : K → K → Bool) → IsSameTest same → (d : K → ℚ) (k : K) (ns : List K)
    → once same k ns ≡ true → along d (λ n. unit same n k) ns ≡ d k
unfolding total once unit
along-once same law d k [] h = absurd (true≢false (sym h))
along-once same law d k (n ∷ ns) h = by (same n k) refl h (along-once same law d k ns) where
  by : (b : Bool) → same n k ≡ b → cond b (absent same k ns) (once same k ns) ≡ true
      → (once same k ns ≡ true → along d (λ n. unit same n k) ns ≡ d k)
      → cond b (of_ℤ (pos 1)) (of_ℤ (pos 0)) *ℚ d n +ℚ along d (λ n. unit same n k) ns ≡ d k
  by true e h ih =
      unit-if true (d n) _ ∙ ap (λ t. d n +ℚ t) (along-absent same d k ns h)
      ∙ ring (d n ∷ []) (x0 :+ Whole (pos 0)) x0 refl ∙ ap d (law.sound n k e)
  by false e h ih = unit-if false (d n) _ ∙ ih h

-- ---- the chain rule of one formula: its derivative is the sum of its partial derivatives, each times
-- the derivative of its key
pub slope-along : {K : Type 0} (same : K → K → Bool) → IsSameTest same → (v d : K → ℚ) (ns : List K) (f : Expression K)
    → uses_only same ns f ≡ true → along d (λ n. slope v (unit same n) f) ns ≡ slope v d f
unfolding slope uses_only
slope-along same law v d ns (Num q) h = along-zero d ns
slope-along same law v d ns (Key k) h = along-once same law d k ns h
slope-along same law v d ns (Neg a) h =
    along-neg d (λ n. slope v (unit same n) a) ns ∙ ap neg_ℚ (slope-along same law v d ns a h)
slope-along same law v d ns (Add a b) h =
    along-plus d (λ n. slope v (unit same n) a) (λ n. slope v (unit same n) b) ns
    ∙ ap₂ ◌+ℚ◌ (slope-along same law v d ns a (and_parts _ _ h).0) (slope-along same law v d ns b (and_parts _ _ h).1)
slope-along same law v d ns (Sub a b) h =
    along-plus d (λ n. slope v (unit same n) a) (λ n. neg_ℚ (slope v (unit same n) b)) ns
    ∙ ap₂ ◌+ℚ◌ (slope-along same law v d ns a (and_parts _ _ h).0)
    (along-neg d (λ n. slope v (unit same n) b) ns ∙ ap neg_ℚ (slope-along same law v d ns b (and_parts _ _ h).1))
slope-along same law v d ns (Mul a b) h =
    along-plus d (λ n. slope v (unit same n) a *ℚ value v b) (λ n. value v a *ℚ slope v (unit same n) b) ns
    ∙ ap₂ ◌+ℚ◌
    (along-times_right d (λ n. slope v (unit same n) a) (value v b) ns
    ∙ ap (λ t. t *ℚ value v b) (slope-along same law v d ns a (and_parts _ _ h).0))
    (along-times d (value v a) (λ n. slope v (unit same n) b) ns
    ∙ ap (λ t. value v a *ℚ t) (slope-along same law v d ns b (and_parts _ _ h).1))
slope-along same law v d ns (Div a b) h =
    along-times_right d (λ n. slope v (unit same n) a -ℚ (value v (Div a b) *ℚ slope v (unit same n) b)) (inv_ℚ (value v b)) ns
    ∙ ap (λ t. t *ℚ inv_ℚ (value v b))
    (along-plus d (λ n. slope v (unit same n) a) (λ n. neg_ℚ (value v (Div a b) *ℚ slope v (unit same n) b)) ns
    ∙ ap₂ ◌+ℚ◌ (slope-along same law v d ns a (and_parts _ _ h).0)
    (along-neg d (λ n. value v (Div a b) *ℚ slope v (unit same n) b) ns
    ∙ ap neg_ℚ (along-times d (value v (Div a b)) (λ n. slope v (unit same n) b) ns
    ∙ ap (λ t. value v (Div a b) *ℚ t) (slope-along same law v d ns b (and_parts _ _ h).1))))
slope-along same law v d ns (Pow a k) h =
    along-times d (power_slope (value v a) k) (λ n. slope v (unit same n) a) ns
    ∙ ap (λ t. power_slope (value v a) k *ℚ t) (slope-along same law v d ns a h)

-- ---- the heart: two systems of equations, of which one is the other's transpose
abbrev pub AllRows : {K : Type 0} → (Row K → Type 0) → List (Row K) → Type 0
AllRows P [] = Unit {0}
AllRows P (r ∷ rs) = P r × AllRows P rs

-- d has the derivatives of the rows by the input i
pub record IsForward {K : Type 0} (same : K → K → Bool) (v d : K → ℚ) (i : K) (rows : List (Row K)) : Type 0 where
  pub equations : AllRows (λ r. d r.key ≡ along d (λ n. partial same v r n) (keys rows) +ℚ unit same r.key i) rows

total-rows : {K : Type 0} (f g : Row K → ℚ) (rows : List (Row K)) → AllRows (λ r. f r ≡ g r) rows → total f rows ≡ total g rows
unfolding total
total-rows f g [] h = refl
total-rows f g (r ∷ rs) h = ap₂ ◌+ℚ◌ h.0 (total-rows f g rs h.1)

pub AllRows-map : {K : Type 0} (P Q : Row K → Type 0) → ((r : Row K) → P r → Q r) → (rows : List (Row K)) → AllRows P rows → AllRows Q rows
AllRows-map P Q f [] h = tt
AllRows-map P Q f (r ∷ rs) h = (f r h.0, AllRows-map P Q f rs h.1)

pub total-keys : {K : Type 0} (f : K → ℚ) (rows : List (Row K)) → total (λ r. f r.key) rows ≡ total f (keys rows)
unfolding total keys
total-keys f [] = refl
total-keys f (r ∷ rs) = ap (λ t. f r.key +ℚ t) (total-keys f rs)

cancel : (m x y : ℚ) → m +ℚ x ≡ m +ℚ y → x ≡ y
cancel m x y h =
    ring (m ∷ x ∷ []) x1 (Minus x0 :+ (x0 :+ x1)) refl ∙ ap (λ t. neg_ℚ m +ℚ t) h
    ∙ ring (m ∷ y ∷ []) (Minus x0 :+ (x0 :+ x1)) x1 refl

-- the double sum: each row's sensitivity times the sum of its partial derivatives with d
abbrev pub middle : {K : Type 0} → (K → K → Bool) → (v a d : K → ℚ) → List (Row K) → ℚ
middle same v a d rows = total (λ r. a r.key *ℚ along d (λ n. partial same v r n) (keys rows)) rows

-- the sum of a times d over the rows, by the forward equations
by_forward : {K : Type 0} (same : K → K → Bool) → IsSameTest same → (v a d : K → ℚ) (i : K) (rows : List (Row K))
    → IsForward same v d i rows
    → total (λ r. a r.key *ℚ d r.key) rows ≡ middle same v a d rows +ℚ along a (λ n. unit same n i) (keys rows)
by_forward same law v a d i rows f =
    total-rows (λ r. a r.key *ℚ d r.key)
    (λ r. (a r.key *ℚ along d (λ n. partial same v r n) (keys rows)) +ℚ (unit same r.key i *ℚ a r.key)) rows
    (AllRows-map _ _
    (λ r e. ap (λ t. a r.key *ℚ t) e
    ∙ ring (a r.key ∷ along d (λ n. partial same v r n) (keys rows) ∷ unit same r.key i ∷ []) (x0 :* (x1 :+ x2)) (x0 :* x1 :+ x2 :* x0) refl)
    rows f.equations)
    ∙ total-plus (λ r. a r.key *ℚ along d (λ n. partial same v r n) (keys rows)) (λ r. unit same r.key i *ℚ a r.key) rows
    ∙ ap (λ t. middle same v a d rows +ℚ t) (total-keys (λ n. unit same n i *ℚ a n) rows)

swapped : {K : Type 0} (same : K → K → Bool) (v a d : K → ℚ) (rows : List (Row K)) (ns : List K)
    → total (λ n. brought same v rows a n *ℚ d n) ns
    ≡ total (λ r. a r.key *ℚ along d (λ n. partial same v r n) ns) rows
unfolding brought
swapped same v a d rows ns =
    total-same _ (λ n. total (λ r. a r.key *ℚ (partial same v r n *ℚ d n)) rows) ns
    (λ n. sym (total-times_right (λ r. a r.key *ℚ partial same v r n) (d n) rows)
    ∙ total-same _ _ rows (λ r. ring (a r.key ∷ partial same v r n ∷ d n ∷ []) ((x0 :* x1) :* x2) (x0 :* (x1 :* x2)) refl))
    ∙ total-swap (λ n r. a r.key *ℚ (partial same v r n *ℚ d n)) ns rows
    ∙ total-same _ _ rows (λ r. total-times (a r.key) (λ n. partial same v r n *ℚ d n) ns)

-- the same sum by the backward equations
by_backward : {K : Type 0} (same : K → K → Bool) (v a d : K → ℚ) (y : K) (rows : List (Row K))
    → IsBackward same v a y rows
    → total (λ r. a r.key *ℚ d r.key) rows ≡ middle same v a d rows +ℚ along d (λ n. unit same n y) (keys rows)
by_backward same v a d y rows b =
    total-keys (λ n. a n *ℚ d n) rows
    ∙ total-same _ (λ n. (brought same v rows a n *ℚ d n) +ℚ (unit same n y *ℚ d n)) (keys rows)
    (λ n. ap (λ t. t *ℚ d n) (b.equation n)
    ∙ ring (unit same n y ∷ brought same v rows a n ∷ d n ∷ []) ((x0 :+ x1) :* x2) (x1 :* x2 :+ x0 :* x2) refl)
    ∙ total-plus (λ n. brought same v rows a n *ℚ d n) (λ n. unit same n y *ℚ d n) (keys rows)
    ∙ ap (λ t. t +ℚ along d (λ n. unit same n y) (keys rows)) (swapped same v a d rows (keys rows))

pub forward_backward : {K : Type 0} (same : K → K → Bool) → IsSameTest same → (v a d : K → ℚ) (y i : K) (rows : List (Row K))
    → IsForward same v d i rows → IsBackward same v a y rows → once same y (keys rows) ≡ true
    → d y ≡ along a (λ n. unit same n i) (keys rows)
forward_backward same law v a d y i rows f b y1 =
    sym (along-once same law d y (keys rows) y1)
    ∙ cancel (middle same v a d rows) _ _ (sym (by_backward same v a d y rows b) ∙ by_forward same law v a d i rows f)
