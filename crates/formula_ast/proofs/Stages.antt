-- The stages of the reading and the texts of the grammar: a stage stands after tokens exactly where a
-- text of the grammar goes on after them.
use Rattle.std.specs.Prelude.{◌≡◌, ◌≢◌, ℕ, List, [], ◌∷◌, ◌++◌, Option, None, Some, refl}
use Rattle.std.proofs.Common.{sym, ap, ◌∙◌}
use Rattle.formula_ast.specs.Trees.{Tree}
use Rattle.formula_ast.specs.Grammar.{GoesOn}
use Rattle.formula_ast.specs.Machine.{Parts, trees, Waiting, Stage, AtOperand, AtAtom, AtEnd, AtExponent, put, factor_done, first_stage, step, then_some, stages, run}
use Rattle.formula_ast.specs.declared.token.Sign.{Sign}
use Rattle.formula_ast.specs.declared.token.Kind.{Kind}
use Rattle.formula_ast.specs.declared.token.Kind.TheVariants.{Number, Close}
use Rattle.formula_ast.proofs.Steps.{first_step}
use Rattle.formula_ast.proofs.Sound.{accepted_spelt}
use Rattle.formula_ast.proofs.Complete.{spelt_accepted}

-- each open parenthesis is closed
abbrev closings : {A : Type 0} → List (Waiting A) → List Kind
closings [] = []
closings (l ∷ o) = Close ∷ closings o

-- these tokens end what a stage began
record Ends {A : Type 0} (m : Parts A) (s : Stage A) : Type 0 where
  more : List Kind
  value : A
  ends : run m s more ≡ Some value

module _ {A : Type 0} (m : Parts A) where
  ends_after : (k : Kind) (s t : Stage A) → step m s k ≡ Some t → Ends m t → Ends m s
  ends_after k s t h e = record {
    more = k ∷ e.more;
    value = e.value;
    ends = ap (λ o. then_some o (λ v. run m v e.more)) h ∙ e.ends;
  }

  ends_at_atom : (o : List (Waiting A)) (l : Waiting A) (x : A) → Ends m (AtAtom l x o)
  ends_at_atom [] l x = record { more = []; value = put m l.added (factor_done m l x); ends = refl }
  ends_at_atom (w ∷ o) l x =
      let inside = m.group (put m l.added (factor_done m l x)) in
      ends_after Close (AtAtom l x (w ∷ o)) (AtAtom w inside o) refl (ends_at_atom o w inside)

  ends_at_end : (o : List (Waiting A)) (b : ℕ) (left : Option (A × Sign)) (x : A) → Ends m (AtEnd b left x o)
  ends_at_end [] b left x = record { more = []; value = put m left x; ends = refl }
  ends_at_end (w ∷ o) b left x =
      let inside = m.group (put m left x) in
      ends_after Close (AtEnd b left x (w ∷ o)) (AtAtom w inside o) refl (ends_at_atom o w inside)

  stage_ends : (s : Stage A) → Ends m s
  stage_ends (AtOperand l o) =
      let x = m.number None None in
      ends_after (Number None None) (AtOperand l o) (AtAtom l x o) refl (ends_at_atom o l x)
  stage_ends (AtAtom l x o) = ends_at_atom o l x
  stage_ends (AtEnd b left x o) = ends_at_end o b left x
  stage_ends (AtExponent l x minus o) =
      let y = factor_done m l (m.raised x minus None None) in
      ends_after (Number None None) (AtExponent l x minus o) (AtEnd l.base l.added y o) refl (ends_at_end o l.base l.added y)

  -- tokens with a stage after them, and those after it
  pub stages_run : (ks : List Kind) (s t : Stage A) (more : List Kind) → stages m s ks ≡ Some t → run m s (ks ++ more) ≡ run m t more
  stages_run [] s t more h = let same : s ≡ t = cc in cc
  stages_run (k ∷ ks) s t more h =
      let first = first_step m s k (λ v. stages m v ks) t h in
      ap (λ o. then_some o (λ v. run m v (ks ++ more))) first.gives ∙ stages_run ks first.stage t more first.rest

  stage_before : (ks : List Kind) (s : Stage A) (more : List Kind) (y : A) → run m s (ks ++ more) ≡ Some y → stages m s ks ≢ None
  stage_before [] s more y r h = cc
  stage_before (k ∷ ks) s more y r h =
      let first = first_step m s k (λ v. run m v (ks ++ more)) y r in
      stage_before ks first.stage more y first.rest (ap (λ o. then_some o (λ v. stages m v ks)) (sym first.gives) ∙ h)

-- where a stage stands after the tokens, a text of the grammar goes on
pub goes_on_by_stages : (ks : List Kind) (s : Stage Tree) → stages trees first_stage ks ≡ Some s → GoesOn ks
goes_on_by_stages ks s h =
    let e = stage_ends trees s in
    record { more = e.more; formula = e.value; spelt = accepted_spelt (ks ++ e.more) e.value (stages_run trees ks first_stage s e.more h ∙ e.ends) }

-- and where none stands, none does
pub no_stage_no_text : (ks : List Kind) → stages trees first_stage ks ≡ None → GoesOn ks → ⊥
no_stage_no_text ks h g = stage_before trees ks first_stage g.more g.formula (spelt_accepted (ks ++ g.more) g.formula g.spelt) h
