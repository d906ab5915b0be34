-- The span of a quantity encloses the value of its expanded formula.
use Rattle.std.specs.Prelude.{◌≡◌, ℕ, zero, suc, Bool, true, false, if◌then◌else◌, List, [], ◌∷◌, length, is_some, Option, Some, None, Ok, Err, refl}
use Rattle.std.specs.Option.{option_or, option_map}
use Rattle.std.proofs.Common.{sym, ◌∙◌, ap, subst}
use Rattle.std.proofs.lemmas.Bool.{true≢false}
use Rattle.std.proofs.lemmas.Option.{same_Some}
use Rattle.exact_fraction.specs.Number.{ℚ}
use Rattle.exact_fraction.specs.NumberLaws.{≤ℚ_refl}
use Rattle.exact_law.specs.Model.{Expression, Key, Body as ModelBody, Input as ModelInput, value, is_defined, replaced, replaced_body, expansion, expanded, estimate, estimate_in, is_input_body, is_input, exact_value, has_value, body_of as model_body_of}
use Rattle.exact_law.proofs.Chain.{value-replaced, is_defined-replaced}
use Rattle.exact_law.proofs.NoValues.{no_quantity}
use Rattle.decimal18.specs.Bound.{value_of}
use Rattle.fixed_interval.specs.Interval.{Interval, Encloses, point_span}
use Rattle.formula_ast.specs.Trees.{Tree, HasExponents, uses}
use Rattle.formula_box.specs.Values.{Answer, span_of}
use Rattle.formula_box.specs.declared.fault.EvalFault.TheVariants.{Arith, NoValue}
use Rattle.formula_box.specs.Exact.{expression_of, AreEnclosed}
use Rattle.fixed_interval.proofs.Enclosures.{point_encloses, outward_encloses}
use Rattle.formula_box.proofs.Enclosing.{formula_encloses}
use Rattle.type_a.specs.Tables.{Table}
use Rattle.type_a.specs.Statistics.{exact_mean, mean_span}
use Rattle.value_cache.specs.Quantities.{Body, Input, Function, Column, Quantity, body_of, is_there}
use Rattle.value_cache.specs.Evaluations.{Found, Named, span_in, is_fault, first_fault, settled, evaluation_of_formula, evaluation_of_body, evaluation_through, evaluation_of}
use Rattle.value_cache.specs.Model.{model_body, model_of, HasValueIn, BodyHasExponents, AllHaveExponents}
use Rattle.value_cache.specs.declared.evaluation.Evaluation.{Evaluation}
use Rattle.value_cache.specs.declared.evaluation.Evaluation.TheVariants.{Enclosed, Fault}

-- where there is a span, the expression has a value and the span encloses it
pub record IsValued {K : Type 0} (same : K → K → Bool) (qs : List (Quantity K)) (e : Expression K) (s : Interval) : Type 0 where
  pub defined : is_defined (estimate same (model_of qs)) (is_input same (model_of qs)) e ≡ true
  pub enclosed : Encloses s (value (estimate same (model_of qs)) e)

abbrev pub Holds : {K : Type 0} → (K → K → Bool) → List (Quantity K) → Option (Evaluation K) → Expression K → Type 0
Holds same qs None e = Unit {0}
Holds same qs (Some (Fault fault row)) e = Unit {0}
Holds same qs (Some (Enclosed s)) e = IsValued same qs e s

-- ---- the model says of a key what the quantities do
abbrev pub model_bodies : {K : Type 0} → Option (Body K) → Option (ModelBody K)
model_bodies None = None
model_bodies (Some b) = Some (model_body b)

pub model-body_of : {K : Type 0} (same : K → K → Bool) (qs : List (Quantity K)) (n : K)
    → model_body_of same (model_of qs) n ≡ model_bodies (body_of same qs n)
unfolding model_body_of
model-body_of same [] n = refl
model-body_of same (q ∷ qs) n = by (same q.key n) (model-body_of same qs n) where
  by : (hit : Bool) → model_body_of same (model_of qs) n ≡ model_bodies (body_of same qs n)
      → (if hit then Some (model_body q.body) else model_body_of same (model_of qs) n) ≡ model_bodies (if hit then Some q.body else body_of same qs n)
  by true e = refl
  by false e = e

pub exponents_of : {K : Type 0} (same : K → K → Bool) (qs : List (Quantity K)) → AllHaveExponents qs
    → (n : K) (b : Body K) → body_of same qs n ≡ Some b → BodyHasExponents b
exponents_of same [] h n b e = absurd (cc)
exponents_of same (q ∷ qs) h n b e = by (same q.key n) e (exponents_of same qs h.1 n b) where
  by : (hit : Bool) → (if hit then Some q.body else body_of same qs n) ≡ Some b → (body_of same qs n ≡ Some b → BodyHasExponents b) → BodyHasExponents b
  by true g rest = subst BodyHasExponents (same_Some q.body b g) h.0
  by false g rest = rest g

-- ---- one level of the expansion
abbrev through : {K : Type 0} → (K → K → Bool) → List (Quantity K) → ℕ → K → Expression K
through same qs k n = expansion same (model_of qs) k n

-- the spans for which the names of a formula stand enclose the values of the expressions
pub given_encloses : {K : Type 0} (same : K → K → Bool) (qs : List (Quantity K)) (found : Named K) (e : List ℕ → Expression K)
    → ((n : List ℕ) → Holds same qs (found n) (e n))
    → AreEnclosed (λ n. span_in (found n)) (λ n. value (estimate same (model_of qs)) (e n)) (λ n. is_defined (estimate same (model_of qs)) (is_input same (model_of qs)) (e n))
given_encloses same qs found e all = record {
  defined = λ n s h. (valued n s (found n) (all n) h).defined;
  enclosed = λ n s h. (valued n s (found n) (all n) h).enclosed;
} where
  valued : (n : List ℕ) (s : Interval) (o : Option (Evaluation _)) → Holds same qs o (e n) → span_in o ≡ Some s → IsValued same qs (e n) s
  valued n s None h g = absurd (cc)
  valued n s (Some (Fault fault row)) h g = absurd (cc)
  valued n s (Some (Enclosed t)) h g = subst (IsValued same qs (e n)) (same_Some t s g) h

fault_holds : {K : Type 0} (same : K → K → Bool) (qs : List (Quantity K)) (found : Named K) (e : Expression K) (ns : List (List ℕ))
    → Holds same qs (first_fault found ns) e
fault_holds same qs found e [] = tt
fault_holds same qs found e (n ∷ ns) = by (found n) (fault_holds same qs found e ns) where
  by : (o : Option (Evaluation _)) → Holds same qs (first_fault found ns) e → Holds same qs (option_or (if is_fault o then o else None) (first_fault found ns)) e
  by None h = h
  by (Some (Fault fault row)) h = tt
  by (Some (Enclosed s)) h = h

-- ---- a formula whose names stand for keys, with expressions put in for the keys
value-named : {K : Type 0} (v : K → ℚ) (e : K → Expression K) (key : List ℕ → K) (f : Expression (List ℕ))
    → value v (replaced e (replaced (λ n. Key (key n)) f)) ≡ value (λ n. value v (e (key n))) f
unfolding value
value-named v e key f =
    value-replaced v e (replaced (λ n. Key (key n)) f) ∙ value-replaced (λ n. value v (e n)) (λ n. Key (key n)) f

is_defined-named : {K : Type 0} (v : K → ℚ) (has : K → Bool) (e : K → Expression K) (key : List ℕ → K) (f : Expression (List ℕ))
    → is_defined v has (replaced e (replaced (λ n. Key (key n)) f)) ≡ is_defined (λ n. value v (e (key n))) (λ n. is_defined v has (e (key n))) f
unfolding value is_defined
is_defined-named v has e key f =
    is_defined-replaced v has e (replaced (λ n. Key (key n)) f)
    ∙ is_defined-replaced (λ n. value v (e n)) (λ n. is_defined v has (e n)) (λ n. Key (key n)) f

formula_holds : {K : Type 0} (same : K → K → Bool) (qs : List (Quantity K)) (found : Found K) (e : K → Expression K) → ((n : K) → Holds same qs (found n) (e n))
    → (row : K) (f : Tree) (key : List ℕ → K) → HasExponents f
    → Holds same qs (evaluation_of_formula (λ n. found (key n)) row f) (replaced e (replaced (λ n. Key (key n)) (expression_of f)))
formula_holds same qs found e all row f key h = by (span_of (λ n. span_in (found (key n))) f) refl where
  by : (r : Answer) → span_of (λ n. span_in (found (key n))) f ≡ r
      → Holds same qs (settled (λ n. found (key n)) row f r) (replaced e (replaced (λ n. Key (key n)) (expression_of f)))
  by (Ok s) g =
      let w = formula_encloses _ _ _ (given_encloses same qs (λ n. found (key n)) (λ n. e (key n)) (λ n. all (key n))) f h s g in
      record {
        defined = is_defined-named (estimate same (model_of qs)) (is_input same (model_of qs)) e key (expression_of f) ∙ w.defined;
        enclosed = subst (Encloses s) (sym (value-named (estimate same (model_of qs)) e key (expression_of f))) w.enclosed;
      }
  by (Err (Arith fault)) g = tt
  by (Err (NoValue k)) g = fault_holds same qs _ _ (uses f)

-- a key that is an input of the model, by a value that the span encloses
input_holds : {K : Type 0} (same : K → K → Bool) (qs : List (Quantity K)) (n : K) (q : ℚ) (s : Interval)
    → model_body_of same (model_of qs) n ≡ Some (ModelInput q) → Encloses s q → IsValued same qs (Key n) s
unfolding value is_defined estimate estimate_in is_input is_input_body
input_holds same qs n q s is encloses = record { defined = rw is refl; enclosed = rw is encloses }

-- the span of a mean, where it is there
mean_holds : {K : Type 0} (same : K → K → Bool) (qs : List (Quantity K)) (n : K) (t : Table) (column : ℕ)
    → model_body_of same (model_of qs) n ≡ Some (ModelInput (exact_mean t column))
    → (o : Option Interval) → mean_span t column ≡ o → Holds same qs (option_map Enclosed o) (Key n)
mean_holds same qs n t column is None e = tt
mean_holds same qs n t column is (Some s) e =
    let q = exact_mean t column in
    input_holds same qs n q s is (outward_encloses q q s e q (≤ℚ_refl q) (≤ℚ_refl q))

through_holds : {K : Type 0} (same : K → K → Bool) (qs : List (Quantity K)) → AllHaveExponents qs → (k : ℕ) (n : K)
    → Holds same qs (evaluation_through same qs k n) (through same qs k n)
unfolding expansion replaced_body
through_holds same qs h zero n = tt
through_holds same qs h (suc k) n = by (body_of same qs n) refl (λ m. through_holds same qs h k m) where
  by : (body : Option (Body _)) → body_of same qs n ≡ body → ((m : _) → Holds same qs (evaluation_through same qs k m) (through same qs k m))
      → Holds same qs (evaluation_of_body (evaluation_through same qs k) n body) (replaced_body (through same qs k) n (model_body_of same (model_of qs) n))
  by None e before = tt
  by (Some (Input b)) e before =
      rw (model-body_of same qs n, e)
      (input_holds same qs n (value_of b) (point_span b) (model-body_of same qs n ∙ ap model_bodies e) (point_encloses b))
  by (Some (Column t column)) e before =
      rw (model-body_of same qs n, e)
      (mean_holds same qs n t column (model-body_of same qs n ∙ ap model_bodies e) (mean_span t column) refl)
  by (Some (Function f key)) e before =
      rw (model-body_of same qs n, e) (formula_holds same qs _ _ before n f key (exponents_of same qs h n (Function f key) e))

length-model : {K : Type 0} (qs : List (Quantity K)) → length (model_of qs) ≡ length qs
length-model [] = refl
length-model (q ∷ qs) = ap suc (length-model qs)

pub values_enclosed : {K : Type 0} (same : K → K → Bool) (qs : List (Quantity K)) → AllHaveExponents qs → (n : K) (s : Interval)
    → evaluation_of same qs n ≡ Some (Enclosed s) → HasValueIn same qs n s
unfolding evaluation_of exact_value has_value expanded
values_enclosed same qs h n s e =
    let w : IsValued same qs (through same qs (length qs) n) s = rw e at (through_holds same qs h (length qs) n) in
    record { defined = rw (length-model qs) w.defined; enclosed = rw (length-model qs) w.enclosed }

-- ---- a key that is no quantity's
no_body : {K : Type 0} (body : Option (Body K)) → is_some body ≡ false → model_bodies body ≡ None
no_body None e = refl
no_body (Some body) e = absurd (true≢false e)

pub no_value : {K : Type 0} (same : K → K → Bool) (qs : List (Quantity K)) (n : K) (s : Interval) → is_there same qs n ≡ false
    → HasValueIn same qs n s → ⊥
no_value same qs n s unknown h =
    true≢false (sym h.defined ∙ no_quantity same (model_of qs) n (model-body_of same qs n ∙ no_body (body_of same qs n) unknown))
