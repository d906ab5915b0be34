-- The tokens with which the reading goes on from a stage, and the stage after each.
use Rattle.std.specs.Prelude.{◌≡◌, ℕ, suc, ◌+◌, Bool, true, false, List, [], ◌∷◌, Option, None, Some, IfSome, Result, Ok, refl}
use Rattle.std.proofs.lemmas.Option.{IfSome_then}
use Rattle.decimal18.specs.Bound.{Bound}
use Rattle.formula_ast.specs.Trees.{Tree}
use Rattle.formula_ast.specs.Grammar.{tight}
use Rattle.formula_ast.specs.Machine.{Parts, trees, Waiting, Stage, AtOperand, AtAtom, AtEnd, AtExponent, put, factor_done, fresh, minused, adding, multiplying, after, step, then_some}
use Rattle.formula_ast.specs.Reading.{at_end, goes_on}
use Rattle.formula_ast.specs.declared.fault.FormulaFault.{FormulaFault}
use Rattle.formula_ast.specs.declared.token.Sign.{Sign}
use Rattle.formula_ast.specs.declared.token.Sign.TheVariants.{Plus, Minus, Times, Over}
use Rattle.formula_ast.specs.declared.token.Kind.{Kind}
use Rattle.formula_ast.specs.declared.token.Kind.TheVariants.{Number, Name, Joins, Hat, Open, Close}

-- the cases in which `step` gives a stage. An atom ends a factor and goes on as a factor does; `+` and `-` are
-- less tight than `*` and `/`
pub data IsStep {A : Type 0} (m : Parts A) : Stage A → Kind → Stage A → Type 0 where
  TakesNumber : (l : Waiting A) (o : List (Waiting A)) (value : Option Bound) (power : Option ℕ)
      → IsStep m (AtOperand l o) (Number value power) (AtAtom l (m.number value power) o)
  TakesName : (l : Waiting A) (o : List (Waiting A)) (name : List ℕ) → IsStep m (AtOperand l o) (Name name) (AtAtom l (m.variable name) o)
  TakesMinus : (l : Waiting A) (o : List (Waiting A)) → IsStep m (AtOperand l o) (Joins Minus) (AtOperand (minused l) o)
  Opens : (l : Waiting A) (o : List (Waiting A)) → IsStep m (AtOperand l o) Open (AtOperand (fresh (suc (l.base + l.minuses))) (l ∷ o))
  Raises : (l : Waiting A) (x : A) (o : List (Waiting A)) → IsStep m (AtAtom l x o) Hat (AtExponent l x false o)
  EndsAtom : (l : Waiting A) (x : A) (o : List (Waiting A)) {k : Kind} {t : Stage A}
      → IsStep m (AtEnd l.base l.added (factor_done m l x) o) k t → IsStep m (AtAtom l x o) k t
  Adds : (b : ℕ) (left : Option (A × Sign)) (x : A) (o : List (Waiting A)) (s : Sign) → tight s ≡ 0
      → IsStep m (AtEnd b left x o) (Joins s) (adding b (put m left x) s o)
  Multiplies : (b : ℕ) (left : Option (A × Sign)) (x : A) (o : List (Waiting A)) (s : Sign) → tight s ≡ 1
      → IsStep m (AtEnd b left x o) (Joins s) (multiplying b left x s o)
  Closes : (b : ℕ) (left : Option (A × Sign)) (x : A) (l : Waiting A) (o : List (Waiting A))
      → IsStep m (AtEnd b left x (l ∷ o)) Close (AtAtom l (m.group (put m left x)) o)
  TakesExponent : (l : Waiting A) (x : A) (minus : Bool) (o : List (Waiting A)) (value : Option Bound) (power : Option ℕ)
      → IsStep m (AtExponent l x minus o) (Number value power)
      (AtEnd l.base l.added (factor_done m l (m.raised x minus value power)) o)
  TakesExponentMinus : (l : Waiting A) (x : A) (o : List (Waiting A)) → IsStep m (AtExponent l x false o) (Joins Minus) (AtExponent l x true o)

-- what is read first, and the rest
pub record FirstStep {A B : Type 0} (m : Parts A) (s : Stage A) (k : Kind) (next : Stage A → Option B) (y : B) : Type 0 where
  pub stage : Stage A
  pub gives : step m s k ≡ Some stage
  pub is : IsStep m s k stage
  pub rest : next stage ≡ Some y

module _ {A : Type 0} (m : Parts A) where
  after_is : (b : ℕ) (left : Option (A × Sign)) (x : A) (o : List (Waiting A)) (k : Kind)
      → IfSome (after m b left x o k) (IsStep m (AtEnd b left x o) k)
  after_is b left x o (Joins Plus) = Adds b left x o Plus refl
  after_is b left x o (Joins Minus) = Adds b left x o Minus refl
  after_is b left x o (Joins Times) = Multiplies b left x o Times refl
  after_is b left x o (Joins Over) = Multiplies b left x o Over refl
  after_is b left x [] Close = tt
  after_is b left x (l ∷ o) Close = Closes b left x l o
  after_is b left x o k = tt

  -- every case of `step`: a clause for the minus parts the signs
  pub step_is : (s : Stage A) (k : Kind) → IfSome (step m s k) (IsStep m s k)
  step_is (AtOperand l o) (Number value power) = TakesNumber l o value power
  step_is (AtOperand l o) (Name name) = TakesName l o name
  step_is (AtOperand l o) (Joins Minus) = TakesMinus l o
  step_is (AtOperand l o) Open = Opens l o
  step_is (AtOperand l o) k = tt
  step_is (AtAtom l x o) Hat = Raises l x o
  step_is (AtAtom l x o) k =
      let y = factor_done m l x in
      IfSome_then (after m l.base l.added y o k) {P = IsStep m (AtEnd l.base l.added y o) k} {Q = IsStep m (AtAtom l x o) k}
      (after_is l.base l.added y o k) (λ t s. EndsAtom l x o s)
  step_is (AtEnd b left x o) k = after_is b left x o k
  step_is (AtExponent l x minus o) (Number value power) = TakesExponent l x minus o value power
  step_is (AtExponent l x false o) (Joins Minus) = TakesExponentMinus l x o
  step_is (AtExponent l x true o) (Joins Minus) = tt
  step_is (AtExponent l x minus o) k = tt

  -- what holds after each step
  pub each_step : (s : Stage A) (k : Kind) {P : Stage A → Type 0} → ((t : Stage A) → IsStep m s k t → P t) → IfSome (step m s k) P
  each_step s k h = IfSome_then (step m s k) (step_is s k) h

  pub first_step : {B : Type 0} (s : Stage A) (k : Kind) (next : Stage A → Option B) (y : B)
      → then_some (step m s k) next ≡ Some y → FirstStep m s k next y
  first_step s k next y h = by (step m s k) refl (step_is s k) h where
    by : (o : Option (Stage A)) → step m s k ≡ o → IfSome o (IsStep m s k) → then_some o next ≡ Some y → FirstStep m s k next y
    by None e i h = absurd (cc)
    by (Some t) e i h = record { stage = t; gives = e; is = i; rest = h }

-- what holds of all that is read, by what is read first
pub then_each : {A B : Type 0} {P : A → Type 0} (Q : B → Type 0) (o : Option A) (next : A → Option B)
    → IfSome o P → ((x : A) → o ≡ Some x → P x → IfSome (next x) Q) → IfSome (then_some o next) Q
then_each Q None next h f = tt
then_each Q (Some x) next h f = f x refl h

-- the first token of those that are read as a formula
pub record FirstRead (s : Stage Tree) (k : Kind) (refused : Option FormulaFault) (next : Stage Tree → Result Tree FormulaFault) (f : Tree) : Type 0 where
  pub stage : Stage Tree
  pub gives : step trees s k ≡ Some stage
  pub is : IsStep trees s k stage
  pub passed : refused ≡ None
  pub rest : next stage ≡ Ok f

pub first_read : (s : Stage Tree) (k : Kind) (place : ℕ) (refused : Option FormulaFault) (next : Stage Tree → Result Tree FormulaFault) (f : Tree)
    → goes_on (step trees s k) place refused next ≡ Ok f → FirstRead s k refused next f
first_read s k place refused next f h = by (step trees s k) refl (step_is trees s k) refused refl h where
  by : (o : Option (Stage Tree)) → step trees s k ≡ o → IfSome o (IsStep trees s k)
      → (r : Option FormulaFault) → refused ≡ r → goes_on o place r next ≡ Ok f → FirstRead s k refused next f
  by None e i r q h = absurd (cc)
  by (Some t) e i (Some fault) q h = absurd (cc)
  by (Some t) e i None q h = record { stage = t; gives = e; is = i; passed = q; rest = h }

-- and that all of them were read
pub last_read : (o : Option Tree) (end : ℕ) (f : Tree) → at_end o end ≡ Ok f → o ≡ Some f
last_read None end f h = absurd (cc)
last_read (Some g) end f h = cc
