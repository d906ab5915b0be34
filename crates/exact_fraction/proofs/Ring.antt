-- A solver for identities of numbers. Both sides are written as terms over a list of numbers, and
-- `ring` proves them equal where their difference, multiplied out, has only coefficients of 0: this
-- computes, so the last argument is `refl`. The list may hold any numbers, also compound ones (with
-- parentheses round an operator, since `∷` binds tighter), and the terms mirror the two sides:
-- `a :- b` is `a +ℚ neg_ℚ b`, and `Whole z` is `of_ℤ z`.
--
-- As an example, with `x0`, `x1` for the numbers of the list in their order:
--
--     square_of_sum : (a b : ℚ) → (a +ℚ b) *ℚ (a +ℚ b) ≡ (a *ℚ a) +ℚ (of_ℤ (pos 2) *ℚ (a *ℚ b)) +ℚ (b *ℚ b)
--     square_of_sum a b =
--         ring (a ∷ b ∷ []) ((x0 :+ x1) :* (x0 :+ x1)) (x0 :* x0 :+ Whole (pos 2) :* (x0 :* x1) :+ x1 :* x1) refl
--
-- An equation that is not an identity, as x *ℚ inv_ℚ x ≡ 1, goes between two such calls by `ap`.
use Rattle.std.specs.Prelude.{◌≡◌, ℕ, zero, suc, Bool, true, false, cond, List, [], ◌∷◌, ℤ, pos, negsuc, ◌+ℤ◌, ◌*ℤ◌, refl}
use Rattle.std.proofs.Common.{sym, ◌∙◌, ap, ap₂}
use Rattle.std.proofs.Math.Dec.{leb, eqb}
use Rattle.std.proofs.lemmas.Bool.{eqb-true, true≢false}
use Rattle.exact_fraction.specs.Fraction.{is_zero_ℤ}
use Rattle.exact_fraction.specs.Number.{ℚ, of_ℤ, ◌+ℚ◌, ◌*ℚ◌, neg_ℚ, is_zero_ℚ}
use Rattle.exact_fraction.specs.NumberLaws.{+ℚ_comm, +ℚ_assoc, *ℚ_comm, *ℚ_assoc, *ℚ-+ℚ, +ℚ-zero, *ℚ-one, +ℚ-neg, of_ℤ-+, of_ℤ-*}
use Rattle.exact_fraction.proofs.Quotients.{is_zero_ℚ-≡}

-- ---- terms, and what they are worth at a list of numbers
infixl 6 ◌:+◌
infixl 6 ◌:-◌
infixl 7 ◌:*◌
pub data Term : Type 0 where
  Var : ℕ → Term
  Whole : ℤ → Term
  ◌:+◌ : Term → Term → Term
  ◌:*◌ : Term → Term → Term
  Minus : Term → Term

abbrev pub ◌:-◌ : Term → Term → Term
t :- s = t :+ Minus s

abbrev pub x0 : Term
x0 = Var 0

abbrev pub x1 : Term
x1 = Var 1

abbrev pub x2 : Term
x2 = Var 2

abbrev pub x3 : Term
x3 = Var 3

abbrev pub x4 : Term
x4 = Var 4

abbrev pub x5 : Term
x5 = Var 5

abbrev pub at : List ℚ → ℕ → ℚ
at [] i = of_ℤ (pos 0)
at (x ∷ xs) zero = x
at (x ∷ xs) (suc i) = at xs i

abbrev pub eval : List ℚ → Term → ℚ
eval env (Var i) = at env i
eval env (Whole z) = of_ℤ z
eval env (t :+ s) = eval env t +ℚ eval env s
eval env (t :* s) = eval env t *ℚ eval env s
eval env (Minus t) = neg_ℚ (eval env t)

-- ---- sums of monomials: a coefficient, and the variables in rising order
pub record Mono : Type 0 where
  pub coefficient : ℤ
  pub variables : List ℕ

abbrev pub insert : ℕ → List ℕ → List ℕ
insert i [] = i ∷ []
insert i (j ∷ js) = cond (leb i j) (i ∷ j ∷ js) (j ∷ insert i js)

abbrev pub merge : List ℕ → List ℕ → List ℕ
merge [] js = js
merge (i ∷ is) js = insert i (merge is js)

abbrev pub same_variables : List ℕ → List ℕ → Bool
same_variables [] [] = true
same_variables [] (j ∷ js) = false
same_variables (i ∷ is) [] = false
same_variables (i ∷ is) (j ∷ js) = cond (eqb i j) (same_variables is js) false

-- the sum, with like terms in one
abbrev pub add_mono : Mono → List Mono → List Mono
add_mono m [] = m ∷ []
add_mono m (n ∷ ns) =
    cond (same_variables m.variables n.variables)
    (record { coefficient = m.coefficient +ℤ n.coefficient; variables = n.variables } ∷ ns)
    (n ∷ add_mono m ns)

abbrev pub add_poly : List Mono → List Mono → List Mono
add_poly [] q = q
add_poly (m ∷ p) q = add_mono m (add_poly p q)

abbrev pub times_mono : Mono → List Mono → List Mono
times_mono m [] = []
times_mono m (n ∷ ns) =
    record { coefficient = m.coefficient *ℤ n.coefficient; variables = merge m.variables n.variables }
    ∷ times_mono m ns

abbrev pub times_poly : List Mono → List Mono → List Mono
times_poly [] q = []
times_poly (m ∷ p) q = add_poly (times_mono m q) (times_poly p q)

abbrev pub poly : Term → List Mono
poly (Var i) = record { coefficient = pos 1; variables = i ∷ [] } ∷ []
poly (Whole z) = record { coefficient = z; variables = [] } ∷ []
poly (t :+ s) = add_poly (poly t) (poly s)
poly (t :* s) = times_poly (poly t) (poly s)
poly (Minus t) = times_mono (record { coefficient = negsuc 0; variables = [] }) (poly t)

-- every coefficient is 0
abbrev pub vanishes : List Mono → Bool
vanishes [] = true
vanishes (m ∷ ms) = cond (is_zero_ℤ m.coefficient) (vanishes ms) false

-- ---- what they are worth
abbrev product : List ℚ → List ℕ → ℚ
product env [] = of_ℤ (pos 1)
product env (i ∷ is) = at env i *ℚ product env is

abbrev worth : List ℚ → Mono → ℚ
worth env m = of_ℤ m.coefficient *ℚ product env m.variables

abbrev total : List ℚ → List Mono → ℚ
total env [] = of_ℤ (pos 0)
total env (m ∷ ms) = worth env m +ℚ total env ms

-- ---- regrouping
*ℚ_left_comm : (x y z : ℚ) → x *ℚ (y *ℚ z) ≡ y *ℚ (x *ℚ z)
*ℚ_left_comm x y z = sym (*ℚ_assoc x y z) ∙ ap (λ t. t *ℚ z) (*ℚ_comm x y) ∙ *ℚ_assoc y x z

+ℚ_left_comm : (x y z : ℚ) → x +ℚ (y +ℚ z) ≡ y +ℚ (x +ℚ z)
+ℚ_left_comm x y z = sym (+ℚ_assoc x y z) ∙ ap (λ t. t +ℚ z) (+ℚ_comm x y) ∙ +ℚ_assoc y x z

pub zero-+ℚ : (x : ℚ) → of_ℤ (pos 0) +ℚ x ≡ x
zero-+ℚ x = +ℚ_comm _ x ∙ +ℚ-zero x

one-*ℚ : (x : ℚ) → of_ℤ (pos 1) *ℚ x ≡ x
one-*ℚ x = *ℚ_comm _ x ∙ *ℚ-one x

+ℚ-*ℚ : (x y z : ℚ) → (x +ℚ y) *ℚ z ≡ (x *ℚ z) +ℚ (y *ℚ z)
+ℚ-*ℚ x y z = *ℚ_comm _ z ∙ *ℚ-+ℚ z x y ∙ ap₂ ◌+ℚ◌ (*ℚ_comm z x) (*ℚ_comm z y)

-- what is added to x and gives 0 is its negative
+ℚ_unique : (x y z : ℚ) → x +ℚ y ≡ of_ℤ (pos 0) → x +ℚ z ≡ of_ℤ (pos 0) → y ≡ z
+ℚ_unique x y z h k =
    sym (+ℚ-zero y) ∙ ap (λ t. y +ℚ t) (sym k) ∙ +ℚ_left_comm y x z
    ∙ sym (+ℚ_assoc x y z) ∙ ap (λ t. t +ℚ z) h ∙ zero-+ℚ z

*ℚ-zero : (x : ℚ) → x *ℚ of_ℤ (pos 0) ≡ of_ℤ (pos 0)
*ℚ-zero x =
    let a : ℚ = x *ℚ of_ℤ (pos 0) in
    let twice : a +ℚ a ≡ a = sym (*ℚ-+ℚ x (of_ℤ (pos 0)) (of_ℤ (pos 0))) ∙ ap (λ t. x *ℚ t) (+ℚ-zero (of_ℤ (pos 0))) in
    sym (+ℚ-zero a) ∙ ap (λ t. a +ℚ t) (sym (+ℚ-neg a)) ∙ sym (+ℚ_assoc a a (neg_ℚ a)) ∙ ap (λ t. t +ℚ neg_ℚ a) twice ∙ +ℚ-neg a

zero-*ℚ : (x : ℚ) → of_ℤ (pos 0) *ℚ x ≡ of_ℤ (pos 0)
zero-*ℚ x = *ℚ_comm _ x ∙ *ℚ-zero x

-- the negative is the product with -1
neg_ℚ-times : (x : ℚ) → neg_ℚ x ≡ of_ℤ (negsuc 0) *ℚ x
neg_ℚ-times x =
    +ℚ_unique x (neg_ℚ x) (of_ℤ (negsuc 0) *ℚ x) (+ℚ-neg x)
    (ap (λ t. t +ℚ (of_ℤ (negsuc 0) *ℚ x)) (sym (one-*ℚ x)) ∙ sym (+ℚ-*ℚ (of_ℤ (pos 1)) (of_ℤ (negsuc 0)) x)
    ∙ ap (λ t. t *ℚ x) (sym (of_ℤ-+ (pos 1) (negsuc 0))) ∙ zero-*ℚ x)

-- ---- each step keeps what the terms are worth
product-insert_if : (env : List ℚ) (b : Bool) (i j : ℕ) (js : List ℕ)
    → product env (insert i js) ≡ at env i *ℚ product env js
    → product env (cond b (i ∷ j ∷ js) (j ∷ insert i js)) ≡ at env i *ℚ (at env j *ℚ product env js)
product-insert_if env true i j js h = refl
product-insert_if env false i j js h = ap (λ t. at env j *ℚ t) h ∙ *ℚ_left_comm (at env j) (at env i) (product env js)

product-insert : (env : List ℚ) (i : ℕ) (js : List ℕ) → product env (insert i js) ≡ at env i *ℚ product env js
product-insert env i [] = refl
product-insert env i (j ∷ js) = product-insert_if env (leb i j) i j js (product-insert env i js)

product-merge : (env : List ℚ) (is js : List ℕ) → product env (merge is js) ≡ product env is *ℚ product env js
product-merge env [] js = sym (one-*ℚ (product env js))
product-merge env (i ∷ is) js =
    product-insert env i (merge is js) ∙ ap (λ t. at env i *ℚ t) (product-merge env is js)
    ∙ sym (*ℚ_assoc (at env i) (product env is) (product env js))

same_variables_if : (b : Bool) (i j : ℕ) (is js : List ℕ) → eqb i j ≡ b → (same_variables is js ≡ true → is ≡ js)
    → cond b (same_variables is js) false ≡ true → ◌≡◌ {A = List ℕ} (i ∷ is) (j ∷ js)
same_variables_if true i j is js e ih h = ap₂ {C = List ℕ} ◌∷◌ (eqb-true i j e) (ih h)
same_variables_if false i j is js e ih h = absurd (true≢false (sym h))

same_variables-sound : (is js : List ℕ) → same_variables is js ≡ true → is ≡ js
same_variables-sound [] [] h = refl
same_variables-sound [] (j ∷ js) h = absurd (true≢false (sym h))
same_variables-sound (i ∷ is) [] h = absurd (true≢false (sym h))
same_variables-sound (i ∷ is) (j ∷ js) h = same_variables_if (eqb i j) i j is js refl (same_variables-sound is js) h

-- like terms
worth-like : (env : List ℚ) (m n : Mono) → m.variables ≡ n.variables
    → worth env (record { coefficient = m.coefficient +ℤ n.coefficient; variables = n.variables }) ≡ worth env m +ℚ worth env n
worth-like env m n h =
    ap (λ t. t *ℚ product env n.variables) (of_ℤ-+ m.coefficient n.coefficient)
    ∙ +ℚ-*ℚ (of_ℤ m.coefficient) (of_ℤ n.coefficient) (product env n.variables)
    ∙ ap (λ v. (of_ℤ m.coefficient *ℚ product env v) +ℚ worth env n) (sym h)

total-add_if : (env : List ℚ) (m n : Mono) (ns : List Mono) (b : Bool) → same_variables m.variables n.variables ≡ b
    → total env (add_mono m ns) ≡ worth env m +ℚ total env ns
    → total env (cond b (record { coefficient = m.coefficient +ℤ n.coefficient; variables = n.variables } ∷ ns) (n ∷ add_mono m ns))
    ≡ worth env m +ℚ (worth env n +ℚ total env ns)
total-add_if env m n ns true e ih =
    ap (λ t. t +ℚ total env ns) (worth-like env m n (same_variables-sound m.variables n.variables e))
    ∙ +ℚ_assoc (worth env m) (worth env n) (total env ns)
total-add_if env m n ns false e ih =
    ap (λ t. worth env n +ℚ t) ih ∙ +ℚ_left_comm (worth env n) (worth env m) (total env ns)

total-add_mono : (env : List ℚ) (m : Mono) (ns : List Mono) → total env (add_mono m ns) ≡ worth env m +ℚ total env ns
total-add_mono env m [] = refl
total-add_mono env m (n ∷ ns) =
    total-add_if env m n ns (same_variables m.variables n.variables) refl (total-add_mono env m ns)

total-add_poly : (env : List ℚ) (p q : List Mono) → total env (add_poly p q) ≡ total env p +ℚ total env q
total-add_poly env [] q = sym (zero-+ℚ (total env q))
total-add_poly env (m ∷ p) q =
    total-add_mono env m (add_poly p q) ∙ ap (λ t. worth env m +ℚ t) (total-add_poly env p q)
    ∙ sym (+ℚ_assoc (worth env m) (total env p) (total env q))

four : (a b c d : ℚ) → (a *ℚ b) *ℚ (c *ℚ d) ≡ (a *ℚ c) *ℚ (b *ℚ d)
four a b c d = *ℚ_assoc a b (c *ℚ d) ∙ ap (λ t. a *ℚ t) (*ℚ_left_comm b c d) ∙ sym (*ℚ_assoc a c (b *ℚ d))

worth-times : (env : List ℚ) (m n : Mono)
    → worth env (record { coefficient = m.coefficient *ℤ n.coefficient; variables = merge m.variables n.variables })
    ≡ worth env m *ℚ worth env n
worth-times env m n =
    ap₂ ◌*ℚ◌ (of_ℤ-* m.coefficient n.coefficient) (product-merge env m.variables n.variables)
    ∙ four (of_ℤ m.coefficient) (of_ℤ n.coefficient) (product env m.variables) (product env n.variables)

total-times_mono : (env : List ℚ) (m : Mono) (q : List Mono) → total env (times_mono m q) ≡ worth env m *ℚ total env q
total-times_mono env m [] = sym (*ℚ-zero (worth env m))
total-times_mono env m (n ∷ ns) =
    ap₂ ◌+ℚ◌ (worth-times env m n) (total-times_mono env m ns) ∙ sym (*ℚ-+ℚ (worth env m) (worth env n) (total env ns))

total-times_poly : (env : List ℚ) (p q : List Mono) → total env (times_poly p q) ≡ total env p *ℚ total env q
total-times_poly env [] q = sym (zero-*ℚ (total env q))
total-times_poly env (m ∷ p) q =
    total-add_poly env (times_mono m q) (times_poly p q)
    ∙ ap₂ ◌+ℚ◌ (total-times_mono env m q) (total-times_poly env p q)
    ∙ sym (+ℚ-*ℚ (worth env m) (total env p) (total env q))

poly-sound : (env : List ℚ) (t : Term) → total env (poly t) ≡ eval env t
poly-sound env (Var i) = +ℚ-zero _ ∙ one-*ℚ _ ∙ *ℚ-one (at env i)
poly-sound env (Whole z) = +ℚ-zero _ ∙ *ℚ-one (of_ℤ z)
poly-sound env (t :+ s) = total-add_poly env (poly t) (poly s) ∙ ap₂ ◌+ℚ◌ (poly-sound env t) (poly-sound env s)
poly-sound env (t :* s) = total-times_poly env (poly t) (poly s) ∙ ap₂ ◌*ℚ◌ (poly-sound env t) (poly-sound env s)
poly-sound env (Minus t) =
    total-times_mono env (record { coefficient = negsuc 0; variables = [] }) (poly t)
    ∙ ap₂ ◌*ℚ◌ (*ℚ-one (of_ℤ (negsuc 0))) (poly-sound env t) ∙ sym (neg_ℚ-times (eval env t))

-- ---- the solver
is_zero_ℤ-≡ : (z : ℤ) → is_zero_ℤ z ≡ true → z ≡ pos 0
is_zero_ℤ-≡ (pos zero) h = refl
is_zero_ℤ-≡ (pos (suc n)) h = absurd (true≢false (sym h))
is_zero_ℤ-≡ (negsuc n) h = absurd (true≢false (sym h))

vanishes_if : (env : List ℚ) (m : Mono) (ms : List Mono) (b : Bool) → is_zero_ℤ m.coefficient ≡ b
    → (vanishes ms ≡ true → total env ms ≡ of_ℤ (pos 0))
    → cond b (vanishes ms) false ≡ true → worth env m +ℚ total env ms ≡ of_ℤ (pos 0)
vanishes_if env m ms true e ih h =
    ap₂ ◌+ℚ◌ (ap (λ z. of_ℤ z *ℚ product env m.variables) (is_zero_ℤ-≡ m.coefficient e)) (ih h)
    ∙ +ℚ-zero _ ∙ zero-*ℚ (product env m.variables)
vanishes_if env m ms false e ih h = absurd (true≢false (sym h))

vanishes-total : (env : List ℚ) (ms : List Mono) → vanishes ms ≡ true → total env ms ≡ of_ℤ (pos 0)
vanishes-total env [] h = refl
vanishes-total env (m ∷ ms) h = vanishes_if env m ms (is_zero_ℤ m.coefficient) refl (vanishes-total env ms) h

-- equal where the difference is 0
pub same_by_difference : (x y : ℚ) → x +ℚ neg_ℚ y ≡ of_ℤ (pos 0) → x ≡ y
same_by_difference x y h =
    +ℚ_unique (neg_ℚ y) x y (+ℚ_comm (neg_ℚ y) x ∙ h) (+ℚ_comm (neg_ℚ y) y ∙ +ℚ-neg y)

-- the same by the test, which computes at numbers written out
pub same_by_test : (x y : ℚ) → is_zero_ℚ (x +ℚ neg_ℚ y) ≡ true → x ≡ y
same_by_test x y h = same_by_difference x y (is_zero_ℚ-≡ (x +ℚ neg_ℚ y) h)

pub ring : (env : List ℚ) (l r : Term) → vanishes (poly (l :- r)) ≡ true → eval env l ≡ eval env r
ring env l r h =
    same_by_difference (eval env l) (eval env r) (sym (poly-sound env (l :- r)) ∙ vanishes-total env (poly (l :- r)) h)

-- the example of the head
square_of_sum : (a b : ℚ)
    → (a +ℚ b) *ℚ (a +ℚ b) ≡ (a *ℚ a) +ℚ (of_ℤ (pos 2) *ℚ (a *ℚ b)) +ℚ (b *ℚ b)
square_of_sum a b =
    ring (a ∷ b ∷ []) ((x0 :+ x1) :* (x0 :+ x1)) (x0 :* x0 :+ Whole (pos 2) :* (x0 :* x1) :+ x1 :* x1) refl
