-- The machine over formulas as they are written and that over formulas go together.
use Rattle.std.specs.Prelude.{◌≡◌, ℕ, zero, suc, true, false, List, [], ◌∷◌, Option, None, Some, option_map, refl}
use Rattle.std.proofs.Common.{ap, ◌∙◌}
use Rattle.formula_ast.specs.Trees.{Tree}
use Rattle.formula_ast.specs.Grammar.{Written, Minused, meant}
use Rattle.formula_ast.specs.Machine.{trees, writings, Waiting, Stage, AtOperand, AtAtom, AtEnd, AtExponent, put, negated, factor_done, adding, after, step, finish, then_some, stages, run}
use Rattle.formula_ast.specs.declared.token.Sign.{Sign}
use Rattle.formula_ast.specs.declared.token.Sign.TheVariants.{Plus, Minus}
use Rattle.formula_ast.specs.declared.token.Kind.{Kind}
use Rattle.formula_ast.specs.declared.token.Kind.TheVariants.{Number, Joins, Hat, Close}

-- ---- the formulas that are meant at a stage
abbrev pub left_meant : Option (Written × Sign) → Option (Tree × Sign)
left_meant None = None
left_meant (Some p) = Some (meant p.0, p.1)

abbrev pub waiting_meant : Waiting Written → Waiting Tree
waiting_meant l = record { added = left_meant l.added; multiplied = left_meant l.multiplied; minuses = l.minuses; base = l.base }

abbrev pub outer_meant : List (Waiting Written) → List (Waiting Tree)
outer_meant [] = []
outer_meant (l ∷ o) = waiting_meant l ∷ outer_meant o

abbrev pub stage_meant : Stage Written → Stage Tree
stage_meant (AtOperand l o) = AtOperand (waiting_meant l) (outer_meant o)
stage_meant (AtAtom l x o) = AtAtom (waiting_meant l) (meant x) (outer_meant o)
stage_meant (AtEnd b left x o) = AtEnd b (left_meant left) (meant x) (outer_meant o)
stage_meant (AtExponent l x minus o) = AtExponent (waiting_meant l) (meant x) minus (outer_meant o)

-- ---- each step
put_meant : (p : Option (Written × Sign)) (x : Written) → put trees (left_meant p) (meant x) ≡ meant (put writings p x)
put_meant None x = refl
put_meant (Some p) x = refl

negated_meant : (n : ℕ) (x : Written) → negated trees n (meant x) ≡ meant (negated writings n x)
negated_meant zero x = refl
negated_meant (suc n) x = negated_meant n (Minused x)

factor_meant : (l : Waiting Written) (x : Written) → factor_done trees (waiting_meant l) (meant x) ≡ meant (factor_done writings l x)
factor_meant l x =
    ap (λ t. put trees (left_meant l.multiplied) t) (negated_meant l.minuses x)
    ∙ put_meant l.multiplied (negated writings l.minuses x)

after_meant : (b : ℕ) (left : Option (Written × Sign)) (x : Written) (o : List (Waiting Written)) (k : Kind)
    → after trees b (left_meant left) (meant x) (outer_meant o) k ≡ option_map stage_meant (after writings b left x o k)
after_meant b left x o (Joins Plus) = ap (λ t. Some (adding b t Plus (outer_meant o))) (put_meant left x)
after_meant b left x o (Joins Minus) = ap (λ t. Some (adding b t Minus (outer_meant o))) (put_meant left x)
after_meant b left x [] Close = refl
after_meant b left x (l ∷ o) Close = ap (λ t. Some (AtAtom (waiting_meant l) t (outer_meant o))) (put_meant left x)
after_meant b left x o k = refl

-- a clause for the minus parts the signs
pub step_meant : (w : Stage Written) (k : Kind) → step trees (stage_meant w) k ≡ option_map stage_meant (step writings w k)
step_meant (AtOperand l o) (Joins Minus) = refl
step_meant (AtOperand l o) k = refl
step_meant (AtAtom l x o) Hat = refl
step_meant (AtAtom l x o) k =
    ap (λ t. after trees l.base (left_meant l.added) t (outer_meant o) k) (factor_meant l x)
    ∙ after_meant l.base l.added (factor_done writings l x) o k
step_meant (AtEnd b left x o) k = after_meant b left x o k
step_meant (AtExponent l x minus o) (Number value power) =
    ap (λ t. Some (AtEnd l.base (left_meant l.added) t (outer_meant o))) (factor_meant l (writings.raised x minus value power))
step_meant (AtExponent l x false o) (Joins Minus) = refl
step_meant (AtExponent l x true o) (Joins Minus) = refl
step_meant (AtExponent l x minus o) k = refl

pub finish_meant : (w : Stage Written) → finish trees (stage_meant w) ≡ option_map meant (finish writings w)
finish_meant (AtAtom l x []) =
    ap Some (ap (λ t. put trees (left_meant l.added) t) (factor_meant l x) ∙ put_meant l.added (factor_done writings l x))
finish_meant (AtEnd b left x []) = ap Some (put_meant left x)
finish_meant w = refl

-- ---- whole runs
then_meant : {A B : Type 0} (view : A → B) (o : Option (Stage Written)) (g : Stage Tree → Option B) (h : Stage Written → Option A)
    → ((v : Stage Written) → g (stage_meant v) ≡ option_map view (h v))
    → then_some (option_map stage_meant o) g ≡ option_map view (then_some o h)
then_meant view None g h e = refl
then_meant view (Some v) g h e = e v

-- what is read over trees is what the writing means
pub run_meant : (ks : List Kind) (w : Stage Written) → run trees (stage_meant w) ks ≡ option_map meant (run writings w ks)
run_meant [] w = finish_meant w
run_meant (k ∷ ks) w =
    ap (λ o. then_some o (λ t. run trees t ks)) (step_meant w k)
    ∙ then_meant meant (step writings w k) (λ t. run trees t ks) (λ t. run writings t ks) (λ v. run_meant ks v)

pub stages_meant : (ks : List Kind) (w : Stage Written) → stages trees (stage_meant w) ks ≡ option_map stage_meant (stages writings w ks)
stages_meant [] w = refl
stages_meant (k ∷ ks) w =
    ap (λ o. then_some o (λ t. stages trees t ks)) (step_meant w k)
    ∙ then_meant stage_meant (step writings w k) (λ t. stages trees t ks) (λ t. stages writings t ks) (λ v. stages_meant ks v)
