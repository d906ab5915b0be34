-- How deep what was read before a stage nests, and how deep the formulas nest that go on from it.
use Rattle.std.specs.Prelude.{◌≡◌, ℕ, zero, suc, ◌+◌, ◌≤◌, cond, max, List, [], ◌∷◌, Option, None, Some, IfSome, refl}
use Rattle.std.proofs.Common.{ap, ◌∙◌, arith}
use Rattle.formula_ast.specs.Grammar.{Written, Digits, Minused, Powered, Group}
use Rattle.formula_ast.specs.Machine.{writings, Waiting, Stage, AtOperand, AtAtom, AtEnd, AtExponent, put, negated, factor_done, step, finish, then_some, run}
use Rattle.formula_ast.specs.Reading.{nests}
use Rattle.formula_ast.specs.Rules.{nesting}
use Rattle.formula_ast.specs.declared.token.Sign.{Sign}
use Rattle.formula_ast.specs.declared.token.Kind.{Kind}
use Rattle.formula_ast.specs.declared.token.Kind.TheVariants.{Number, Close}
use Rattle.formula_ast.proofs.Nesting.{IsBased, StageBased, based_next}
use Rattle.formula_ast.proofs.Steps.{IsStep, EndsAtom, Adds, Closes, TakesExponent, each_step, first_step}
use Rattle.formula_ast.proofs.AgainNodes.{some_is}

-- ---- how deep what was read nests
abbrev left_nesting : ℕ → Option (Written × Sign) → ℕ
left_nesting b None = 0
left_nesting b (Some p) = b + nesting p.0

abbrev waiting_nesting : Waiting Written → ℕ
waiting_nesting l = max (left_nesting l.base l.added) (left_nesting l.base l.multiplied)

abbrev outer_nesting : List (Waiting Written) → ℕ
outer_nesting [] = 0
outer_nesting (l ∷ o) = max (waiting_nesting l) (outer_nesting o)

abbrev pub stage_nesting : Stage Written → ℕ
stage_nesting (AtOperand l o) = max (l.base + l.minuses) (max (waiting_nesting l) (outer_nesting o))
stage_nesting (AtAtom l x o) = max (l.base + l.minuses + nesting x) (max (waiting_nesting l) (outer_nesting o))
stage_nesting (AtEnd b left x o) = max (b + nesting x) (max (left_nesting b left) (outer_nesting o))
stage_nesting (AtExponent l x minus o) = max (l.base + l.minuses + nesting x) (max (waiting_nesting l) (outer_nesting o))

-- how deep the token nests, where it is a parenthesis or a prefix minus
abbrev pub token_nesting : Stage Written → Kind → ℕ
token_nesting (AtOperand l o) k = cond (nests k) (suc (l.base + l.minuses)) 0
token_nesting (AtAtom l x o) k = 0
token_nesting (AtEnd b left x o) k = 0
token_nesting (AtExponent l x minus o) k = 0

-- ---- each step
abbrev Deepens : Stage Written → Kind → Stage Written → Type 0
Deepens w k v = stage_nesting v ≡ max (stage_nesting w) (token_nesting w k)

put_nesting : (b : ℕ) (p : Option (Written × Sign)) (x : Written) → b + nesting (put writings p x) ≡ max (b + nesting x) (left_nesting b p)
put_nesting b None x = omega arith
put_nesting b (Some p) x = omega arith

negated_nesting : (n : ℕ) (x : Written) → nesting (negated writings n x) ≡ n + nesting x
negated_nesting zero x = omega arith
negated_nesting (suc n) x = negated_nesting n (Minused x) ∙ omega arith

factor_nesting : (l : Waiting Written) (x : Written)
    → l.base + nesting (factor_done writings l x) ≡ max (l.base + l.minuses + nesting x) (left_nesting l.base l.multiplied)
factor_nesting l x = omega (arith, put_nesting l.base l.multiplied (negated writings l.minuses x), negated_nesting l.minuses x)

-- a factor ends, and nests as deep as before
pub ended_nesting : (l : Waiting Written) (x : Written) (o : List (Waiting Written))
    → stage_nesting (AtEnd l.base l.added (factor_done writings l x) o) ≡ stage_nesting (AtAtom l x o)
ended_nesting l x o = omega (arith, factor_nesting l x)

deepens_next : {w v : Stage Written} {k : Kind} → IsStep writings w k v → StageBased w → Deepens w k v
deepens_next (EndsAtom l x o s) h = omega (arith, ended_nesting l x o, deepens_next s h)
deepens_next (Adds b left x o s t) h = omega (arith, put_nesting b left x)
deepens_next (Closes b left x l o) h = omega (arith, h.0, put_nesting b left x)
deepens_next (TakesExponent l x minus o value power) h = omega (arith, ended_nesting l (Powered x minus value power) o)
deepens_next s h = omega arith

pub step_deepens : (w : Stage Written) (k : Kind) → StageBased w → IfSome (step writings w k) (Deepens w k)
step_deepens w k h = each_step writings w k (λ v s. deepens_next s h)

finish_nesting : (w : Stage Written) → StageBased w → IfSome (finish writings w) (λ c. nesting c ≡ stage_nesting w)
finish_nesting (AtOperand l o) h = tt
finish_nesting (AtAtom l x []) h = omega (arith, h, put_nesting l.base l.added (factor_done writings l x), ended_nesting l x [])
finish_nesting (AtAtom l x (w ∷ o)) h = tt
finish_nesting (AtEnd b left x []) h = omega (arith, h, put_nesting b left x)
finish_nesting (AtEnd b left x (w ∷ o)) h = tt
finish_nesting (AtExponent l x minus o) h = tt

-- ---- the formulas that go on from a stage nest as deep as it, at least
pub run_nesting : (ks : List Kind) (w : Stage Written) (c : Written) → StageBased w → run writings w ks ≡ Some c → stage_nesting w ≤ nesting c
run_nesting [] w c b h = omega (arith, some_is (finish writings w) (λ x. nesting x ≡ stage_nesting w) c (finish_nesting w b) h)
run_nesting (k ∷ ks) w c b h =
    let first = first_step writings w k (λ v. run writings v ks) c h in
    omega (arith, deepens_next first.is b, run_nesting ks first.stage c (based_next first.is b) first.rest)

-- ---- and one nests no deeper
pub record EndsFlat (w : Stage Written) : Type 0 where
  pub more : List Kind
  pub value : Written
  pub ends : run writings w more ≡ Some value
  pub flat : nesting value ≡ stage_nesting w

finished_flat : (w : Stage Written) (c : Written) → StageBased w → finish writings w ≡ Some c → EndsFlat w
finished_flat w c b h = record {
  more = [];
  value = c;
  ends = h;
  flat = some_is (finish writings w) (λ x. nesting x ≡ stage_nesting w) c (finish_nesting w b) h;
}

flat_after : (k : Kind) (w v : Stage Written) → StageBased w → token_nesting w k ≡ 0 → step writings w k ≡ Some v → EndsFlat v → EndsFlat w
flat_after k w v b z h e =
    let deepens = some_is (step writings w k) (Deepens w k) v (step_deepens w k b) h in
    record {
      more = k ∷ e.more;
      value = e.value;
      ends = ap (λ o. then_some o (λ u. run writings u e.more)) h ∙ e.ends;
      flat = omega (arith, e.flat, deepens, z);
    }

flat_at_atom : (o : List (Waiting Written)) (l : Waiting Written) (x : Written) → IsBased l.base o → EndsFlat (AtAtom l x o)
flat_at_atom [] l x b = finished_flat (AtAtom l x []) (put writings l.added (factor_done writings l x)) b refl
flat_at_atom (w ∷ o) l x b =
    let inside = Group (put writings l.added (factor_done writings l x)) in
    flat_after Close (AtAtom l x (w ∷ o)) (AtAtom w inside o) b refl refl (flat_at_atom o w inside b.1)

flat_at_end : (o : List (Waiting Written)) (b : ℕ) (left : Option (Written × Sign)) (x : Written) → IsBased b o → EndsFlat (AtEnd b left x o)
flat_at_end [] b left x h = finished_flat (AtEnd b left x []) (put writings left x) h refl
flat_at_end (w ∷ o) b left x h =
    let inside = Group (put writings left x) in
    flat_after Close (AtEnd b left x (w ∷ o)) (AtAtom w inside o) h refl refl (flat_at_atom o w inside h.1)

pub ends_flat : (w : Stage Written) → StageBased w → EndsFlat w
ends_flat (AtOperand l o) b =
    let x = Digits None None in
    flat_after (Number None None) (AtOperand l o) (AtAtom l x o) b refl refl (flat_at_atom o l x b)
ends_flat (AtAtom l x o) b = flat_at_atom o l x b
ends_flat (AtEnd n left x o) b = flat_at_end o n left x b
ends_flat (AtExponent l x minus o) b =
    let y = factor_done writings l (Powered x minus None None) in
    flat_after (Number None None) (AtExponent l x minus o) (AtEnd l.base l.added y o) b refl refl (flat_at_end o l.base l.added y b)
