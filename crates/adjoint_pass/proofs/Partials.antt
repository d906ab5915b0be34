-- The span of a body's partial derivative by a quantity encloses the exact one, which is 0 by what the body does not use.
use Rattle.std.specs.Prelude.{◌≡◌, ℕ, Bool, true, false, cond, not, ◌||◌, List, [], ◌∷◌, map, find, bytes_eq, Option, Some, None, Ok, Err, pos, refl}
use Rattle.std.specs.List.{list_any}
use Rattle.std.proofs.Common.{sym, ◌∙◌, ap}
use Rattle.std.proofs.lemmas.Bool.{true≢false, or_parts, false_from_ne_true}
use Rattle.std.proofs.lemmas.Option.{same_Some}
use mathlib.Core.Path.{fun_ext}
use Rattle.exact_fraction.specs.Number.{ℚ, of_ℤ, inv_ℚ}
use Rattle.exact_fraction.proofs.Ring.{ring, Whole, ◌:+◌, ◌:-◌, ◌:*◌, Minus as Opposite_of, x0, x1}
use Rattle.exact_law.specs.Model.{Key, IsSameTest, unit, value, slope, power_slope, body_partial}
use Rattle.exact_law.proofs.Chain.{slope-replaced}
use Rattle.fixed_interval.specs.Interval.{Interval, Encloses}
use Rattle.fixed_interval.specs.Sums.{Holds}
use Rattle.fixed_interval.proofs.Enclosures.{zero_encloses}
use Rattle.fixed_interval.proofs.Sums.{some_holds}
use Rattle.formula_ast.specs.Trees.{Tree, Number, Variable, Opposite, Joined, Raised, HasExponents, uses, names_of}
use Rattle.formula_ast.specs.declared.token.Sign.{Sign}
use Rattle.formula_ast.specs.declared.token.Sign.TheVariants.{Plus, Minus, Times, Over}
use Rattle.formula_box.specs.Values.{Answer}
use Rattle.formula_box.specs.Slopes.{there, partial_of}
use Rattle.formula_box.specs.Exact.{expression_of, derivative}
use Rattle.formula_box.proofs.Slopes.{partial_encloses}
use Rattle.value_cache.specs.Quantities.{Body, Input, Function, Column, Quantity}
use Rattle.value_cache.specs.Model.{model_body, BodyHasExponents}
use Rattle.value_cache.proofs.Names.{AllNames, AllNames-map, names_known, find-distinct}
use Rattle.adjoint_pass.specs.Sensitivities.{uses_of, partial_by, part_of, node_of, KeepsNamesApart}
use Rattle.adjoint_pass.proofs.Enclosing.{HasPartials}

-- ---- searches
not_not : (b : Bool) → not (not b) ≡ b
not_not true = refl
not_not false = refl

false_from_not : (b : Bool) → not b ≡ true → b ≡ false
false_from_not true e = absurd (true≢false (sym e))
false_from_not false e = refl

pub any-map : {A B : Type 0} (p : B → Bool) (f : A → B) (xs : List A) → list_any p (map f xs) ≡ list_any (λ x. p (f x)) xs
any-map p f [] = refl
any-map p f (x ∷ xs) = ap (λ b. p (f x) || b) (any-map p f xs)

none_found : {A : Type 0} (p : A → Bool) (xs : List A) → list_any p xs ≡ false → find p xs ≡ None
none_found p [] h = refl
none_found p (x ∷ xs) h =
    rw ((or_parts (p x) (list_any p xs) h).0) (none_found p xs (or_parts (p x) (list_any p xs) h).1)

pub found_passes : {A : Type 0} (p : A → Bool) (xs : List A) (x : A) → find p xs ≡ Some x → p x ≡ true
found_passes p [] x h = absurd (cc)
found_passes p (z ∷ zs) x h = by (p z) refl h (found_passes p zs x) where
  by : (b : Bool) → p z ≡ b → cond b (Some z) (find p zs) ≡ Some x → (find p zs ≡ Some x → p x ≡ true) → p x ≡ true
  by true e g rest = ap p (sym (same_Some z x g)) ∙ e
  by false e g rest = rest g

-- a search through the names of a formula that finds none
names_failing : (p : List ℕ → Bool) (f : Tree) → find p (uses f) ≡ None → AllNames (λ n. p n ≡ false) f
names_failing p f e =
    AllNames-map (λ n. not (p n) ≡ true) (λ n. p n ≡ false) (λ n. false_from_not (p n)) f
    (names_known (λ n. not (p n)) f (ap (λ t. find t (uses f)) (fun_ext (λ n. not_not (p n))) ∙ e))

-- ---- along what moves none of its names a formula stands still
joined_still : (v d : List ℕ → ℚ) (s : Sign) (a b : Tree) → slope v d (expression_of a) ≡ of_ℤ (pos 0) → slope v d (expression_of b) ≡ of_ℤ (pos 0)
    → slope v d (expression_of (Joined s a b)) ≡ of_ℤ (pos 0)
unfolding slope
joined_still v d Plus a b h k = rw (h, k) (ring [] (Whole (pos 0) :+ Whole (pos 0)) (Whole (pos 0)) refl)
joined_still v d Minus a b h k = rw (h, k) (ring [] (Whole (pos 0) :- Whole (pos 0)) (Whole (pos 0)) refl)
joined_still v d Times a b h k =
    rw (h, k) (ring (value v (expression_of b) ∷ value v (expression_of a) ∷ []) ((Whole (pos 0) :* x0) :+ (x1 :* Whole (pos 0))) (Whole (pos 0)) refl)
joined_still v d Over a b h k =
    rw (h, k)
    (ring (value v (expression_of (Joined Over a b)) ∷ inv_ℚ (value v (expression_of b)) ∷ []) ((Whole (pos 0) :- (x0 :* Whole (pos 0))) :* x1) (Whole (pos 0)) refl)

still : (v d : List ℕ → ℚ) (f : Tree) → AllNames (λ n. d n ≡ of_ℤ (pos 0)) f → slope v d (expression_of f) ≡ of_ℤ (pos 0)
unfolding slope
still v d (Number q) h = refl
still v d (Variable n) h = h
still v d (Opposite a) h = rw (still v d a h) (ring [] (Opposite_of (Whole (pos 0))) (Whole (pos 0)) refl)
still v d (Joined s a b) h = joined_still v d s a b (still v d a h.0) (still v d b h.1)
still v d (Raised a e) h =
    rw (still v d a h) (ring (power_slope (value v (expression_of a)) e ∷ []) (x0 :* Whole (pos 0)) (Whole (pos 0)) refl)

-- ---- a formula whose names stand for keys
by_names : {K : Type 0} (same : K → K → Bool) (v : K → ℚ) (f : Tree) (key : List ℕ → K) (n : K)
    → body_partial same v (model_body (Function f key)) n ≡ slope (λ m. v (key m)) (λ m. unit same n (key m)) (expression_of f)
unfolding body_partial value slope
by_names same v f key n = slope-replaced v (unit same n) (λ m. Key (key m)) (expression_of f)

-- no name stands for n
not_used : {K : Type 0} (same : K → K → Bool) → IsSameTest same → (v : K → ℚ) (f : Tree) (key : List ℕ → K) (n : K)
    → find (λ m. same (key m) n) (uses f) ≡ None → body_partial same v (model_body (Function f key)) n ≡ of_ℤ (pos 0)
unfolding unit
not_used same law v f key n e =
    by_names same v f key n
    ∙ still (λ m. v (key m)) (λ m. unit same n (key m)) f
    (AllNames-map (λ m. same (key m) n ≡ false) (λ m. unit same n (key m) ≡ of_ℤ (pos 0)) zero_at f (names_failing (λ m. same (key m) n) f e)) where
      other : (m : List ℕ) → same (key m) n ≡ false → same n (key m) ≡ true → ⊥
      other m g i = true≢false (sym (law.complete (key m)) ∙ ap (same (key m)) (sym (law.sound n (key m) i)) ∙ g)

      zero_at : (m : List ℕ) → same (key m) n ≡ false → cond (same n (key m)) (of_ℤ (pos 1)) (of_ℤ (pos 0)) ≡ of_ℤ (pos 0)
      zero_at m g = ap (λ b. cond b (of_ℤ (pos 1)) (of_ℤ (pos 0))) (false_from_ne_true (same n (key m)) (other m g))

-- one name stands for n
used_by_name : {K : Type 0} (same : K → K → Bool) → IsSameTest same → (v : K → ℚ) (f : Tree) (key : List ℕ → K)
    → ((m k : List ℕ) → same (key m) (key k) ≡ bytes_eq m k) → (n : K) (name : List ℕ) → same (key name) n ≡ true
    → body_partial same v (model_body (Function f key)) n ≡ derivative (λ m. v (key m)) name f
unfolding unit
used_by_name same law v f key apart n name e =
    by_names same v f key n
    ∙ ap (λ d. slope (λ m. v (key m)) d (expression_of f))
    (fun_ext (λ m. ap (λ b. cond b (of_ℤ (pos 1)) (of_ℤ (pos 0))) (ap (λ k. same k (key m)) (sym (law.sound (key name) n e)) ∙ apart name m)))

-- ---- bodies
-- the spans of the quantities enclose their values, which are defined
pub record Enclose {K : Type 0} (given : K → Option Interval) (v : K → ℚ) (known : K → Bool) : Type 0 where
  pub defined : (n : K) (s : Interval) → given n ≡ Some s → known n ≡ true
  pub enclosed : (n : K) (s : Interval) → given n ≡ Some s → Encloses s (v n)

there_ok : (r : Answer) (s : Interval) → there r ≡ Some s → r ≡ Ok s
there_ok (Err fault) s e = absurd (cc)
there_ok (Ok t) s e = cc

part_holds : {K : Type 0} (same : K → K → Bool) → IsSameTest same → (given : K → Option Interval) (v : K → ℚ) (known : K → Bool) → Enclose given v known
    → (f : Tree) (key : List ℕ → K) → HasExponents f → ((m k : List ℕ) → same (key m) (key k) ≡ bytes_eq m k) → (n : K)
    → Holds (part_of same given (Function f key) n) (body_partial same v (model_body (Function f key)) n)
part_holds same law given v known all f key h apart n = by (find (λ m. same (key m) n) (names_of f)) refl where
  by : (o : Option (List ℕ)) → find (λ m. same (key m) n) (names_of f) ≡ o
      → Holds (partial_by (λ m. given (key m)) f o) (body_partial same v (model_body (Function f key)) n)
  by None e = rw (not_used same law v f key n (sym (find-distinct (λ m. same (key m) n) (uses f)) ∙ e)) zero_encloses
  by (Some name) e =
      rw (used_by_name same law v f key apart n name (found_passes (λ m. same (key m) n) (names_of f) name e))
      (some_holds (there (partial_of (λ m. given (key m)) name f)) _
      (λ s g. partial_encloses (λ m. given (key m)) (λ m. v (key m)) (λ m. known (key m))
      (record { defined = λ m. all.defined (key m); enclosed = λ m. all.enclosed (key m) }) name f h s
      (there_ok (partial_of (λ m. given (key m)) name f) s g)))

pub has_partials : {K : Type 0} (same : K → K → Bool) → IsSameTest same → (given : K → Option Interval) (v : K → ℚ) (known : K → Bool) → Enclose given v known
    → (q : Quantity K) → BodyHasExponents q.body → KeepsNamesApart same q.body
    → HasPartials (node_of same given q) (body_partial same v (model_body q.body))
unfolding body_partial
has_partials same law given v known all q h apart = by q.body h apart where
  none_uses : (f : Tree) (key : List ℕ → _) (n : _) → list_any (λ m. same m n) (map key (uses f)) ≡ false → find (λ m. same (key m) n) (uses f) ≡ None
  none_uses f key n e = none_found (λ m. same (key m) n) (uses f) (sym (any-map (λ m. same m n) key (uses f)) ∙ e)

  by : (b : Body _) → BodyHasExponents b → KeepsNamesApart same b
      → HasPartials (record { key = q.key; uses = uses_of same b; part = part_of same given b }) (body_partial same v (model_body b))
  by (Input estimate) h apart = record { unused = λ n e. refl; enclosed = λ n. zero_encloses }
  by (Function f key) h apart = record {
    unused = λ n e. not_used same law v f key n (none_uses f key n e);
    enclosed = λ n. part_holds same law given v known all f key h apart n;
  }
  by (Column t column) h apart = record { unused = λ n e. refl; enclosed = λ n. zero_encloses }
