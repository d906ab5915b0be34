-- Each refusal beyond the grammar is that of the first token which breaks a rule.
use Rattle.std.specs.Prelude.{◌≡◌, ℕ, ◌+◌, ◌≤◌, ◌⊎◌, List, [], ◌∷◌, ◌++◌, Option, None, Some, option_map, Result, Err, refl}
use Rattle.std.proofs.Common.{sym, ap, subst, ◌∙◌, arith, inl, inr, append_assoc}
use mathlib.Core.List.{append-nil}
use Rattle.formula_ast.specs.Trees.{Tree}
use Rattle.formula_ast.specs.Tokens.{Token, tokens, kinds}
use Rattle.formula_ast.specs.Grammar.{Written, GoesOn}
use Rattle.formula_ast.specs.Machine.{trees, writings, Stage, first_stage, step, finish, then_some, stages}
use Rattle.formula_ast.specs.Reading.{deepest, most_nodes, at_end, goes_on, unless_refused, syntax_place, refusal, opens_next, node_count, reading, reading_of}
use Rattle.formula_ast.specs.Refusals.{nodes_in, Breaks, IsFirstBroken, IsSyntax}
use Rattle.formula_ast.specs.declared.fault.FormulaFault.{FormulaFault}
use Rattle.formula_ast.specs.declared.fault.FormulaFault.TheVariants.{Syntax, UnknownFunction, Number as NumberFault, BadPower, TooDeep, TooMany, OutOfMemory}
use Rattle.formula_ast.specs.declared.token.Kind.{Kind}
use Rattle.formula_ast.proofs.Runs.{stage_meant, step_meant, stages_meant}
use Rattle.formula_ast.proofs.Complete.{IsRuled}
use Rattle.formula_ast.proofs.Stages.{no_stage_no_text}
use Rattle.formula_ast.proofs.Nesting.{StageBased}
use Rattle.formula_ast.proofs.AgainNodes.{unrefused}
use Rattle.formula_ast.proofs.NoMemory.{never_memory}
use Rattle.formula_ast.proofs.WrittenDepths.{stage_nesting}
use Rattle.formula_ast.proofs.TokensRead.{stages_append}
use Rattle.formula_ast.proofs.BrokenRules.{Stands, then_passed, next_based, next_deep, next_few, next_nodes, token_goes_on, IsBroken, Says, says, refused_for}

-- ---- the reading after tokens none of which breaks a rule
record Passed (w : Stage Written) (ks : List Kind) : Type 0 where
  passed : stages writings first_stage ks ≡ Some w
  based : StageBased w
  deep : stage_nesting w ≤ deepest
  few : nodes_in ks ≤ most_nodes

stands : (w v : Stage Written) (ks : List Kind) (k : Kind) → Passed w ks → step writings w k ≡ Some v → Stands w v ks k
stands w v ks k p h = record { passed = p.passed; steps = h; based = p.based; deep = p.deep; few = p.few }

-- what the reading says of the next token
abbrev refusal_at : Stage Written → List Kind → Token → List Token → Option FormulaFault
refusal_at w ks t ts = refusal (stage_meant w) (nodes_in ks) t.place t.kind (opens_next ts)

passes : (w v : Stage Written) (ks : List Kind) (t : Token) (ts : List Token) → Stands w v ks t.kind
    → refusal_at w ks t ts ≡ None → Passed v (ks ++ t.kind ∷ [])
passes w v ks t ts h e =
    let u = unrefused (stage_meant w) (nodes_in ks) t.place t.kind (opens_next ts) e in
    record {
      passed = then_passed w v ks t.kind h;
      based = next_based w v ks t.kind h;
      deep = next_deep w v ks t.kind h u.deep;
      few = next_few w v ks t.kind h u.many;
    }

-- the reading refuses a token of these, after those of kinds ks
record RefusesOne (ks : List Kind) (ts : List Token) (fault : FormulaFault) : Type 0 where
  before : List Token
  token : Token
  after : List Token
  parts : before ++ token ∷ after ≡ ts
  goes_on : GoesOn ((ks ++ kinds before) ++ token.kind ∷ [])
  broken : IsBroken token.place (ks ++ kinds before) token.kind (kinds after) fault
  kept : (b c : List Token) (t : Token) → b ++ t ∷ c ≡ before
      → (other : FormulaFault) → Breaks other (ks ++ kinds b) t.kind (kinds (c ++ token ∷ after)) → ⊥

refuses_here : (ks : List Kind) (t : Token) (ts : List Token) (fault : FormulaFault)
    → GoesOn (ks ++ t.kind ∷ []) → IsBroken t.place ks t.kind (kinds ts) fault → RefusesOne ks (t ∷ ts) fault
refuses_here ks t ts fault g b =
    let same : ks ≡ ks ++ [] = sym (append-nil ks) in
    record {
      before = [];
      token = t;
      after = ts;
      parts = refl;
      goes_on = subst (λ us. GoesOn (us ++ t.kind ∷ [])) same g;
      broken = subst (λ us. IsBroken t.place us t.kind (kinds ts) fault) same b;
      kept = none;
    } where
      none : (b c : List Token) (u : Token) → b ++ u ∷ c ≡ []
          → (other : FormulaFault) → Breaks other (ks ++ kinds b) u.kind (kinds (c ++ t ∷ ts)) → ⊥
      none [] c u e other x = absurd (cc)
      none (a ∷ b) c u e other x = absurd (cc)

refuses_later : (ks : List Kind) (t : Token) (ts : List Token) (fault : FormulaFault)
    → ((other : FormulaFault) → Breaks other ks t.kind (kinds ts) → ⊥) → RefusesOne (ks ++ t.kind ∷ []) ts fault → RefusesOne ks (t ∷ ts) fault
refuses_later ks t ts fault kept r = record {
  before = t ∷ r.before;
  token = r.token;
  after = r.after;
  parts = ap (λ us. t ∷ us) r.parts;
  goes_on = subst (λ us. GoesOn (us ++ r.token.kind ∷ [])) (append_assoc ks (t.kind ∷ []) (kinds r.before)) r.goes_on;
  broken = subst (λ us. IsBroken r.token.place us r.token.kind (kinds r.after) fault) (append_assoc ks (t.kind ∷ []) (kinds r.before)) r.broken;
  kept = all;
} where
  all : (b c : List Token) (u : Token) → b ++ u ∷ c ≡ t ∷ r.before
      → (other : FormulaFault) → Breaks other (ks ++ kinds b) u.kind (kinds (c ++ r.token ∷ r.after)) → ⊥
  all [] c u e other x =
      let first : u ≡ t = cc in
      let rest : c ≡ r.before = cc in
      let whole : kinds (c ++ r.token ∷ r.after) ≡ kinds ts = ap (λ us. kinds (us ++ r.token ∷ r.after)) rest ∙ ap kinds r.parts in
      let at_start = subst (λ us. Breaks other us u.kind (kinds (c ++ r.token ∷ r.after))) (append-nil ks) x in
      let there = subst (λ us. Breaks other ks u.kind us) whole at_start in
      kept other (subst (λ s. Breaks other ks s.kind (kinds ts)) first there)
  all (a ∷ b) c u e other x =
      let first : a ≡ t = cc in
      let rest : b ++ u ∷ c ≡ r.before = cc in
      let there = subst (λ s. Breaks other (ks ++ s.kind ∷ kinds b) u.kind (kinds (c ++ r.token ∷ r.after))) first x in
      r.kept b c u rest other
      (subst (λ us. Breaks other us u.kind (kinds (c ++ r.token ∷ r.after))) (sym (append_assoc ks (t.kind ∷ []) (kinds b))) there)

not_syntax : (fault : FormulaFault) (at : ℕ) → IsRuled fault → Syntax at ≡ fault → ⊥
not_syntax fault at ruled e = subst IsRuled (sym e) ruled

end_unruled : (o : Option Tree) (end : ℕ) (fault : FormulaFault) → IsRuled fault → at_end o end ≡ Err fault → ⊥
end_unruled None end fault ruled e = not_syntax fault end ruled (cc)
end_unruled (Some f) end fault ruled e = absurd (cc)

then_refused : (o : Option (Stage Written)) (w : Stage Written) (ks : List Kind) (t : Token) (ts : List Token) (place : ℕ) (fault : FormulaFault)
    (next : Stage Tree → Result Tree FormulaFault) → step writings w t.kind ≡ o → Passed w ks → IsRuled fault
    → ((v : Stage Written) → Passed v (ks ++ t.kind ∷ []) → nodes_in (ks ++ t.kind ∷ []) ≡ nodes_in ks + node_count (stage_meant w) t.kind
    → next (stage_meant v) ≡ Err fault → RefusesOne (ks ++ t.kind ∷ []) ts fault)
    → goes_on (option_map stage_meant o) place (refusal_at w ks t ts) next ≡ Err fault
    → RefusesOne ks (t ∷ ts) fault
then_refused None w ks t ts place fault next s p ruled all h = absurd (not_syntax fault place ruled (cc))
then_refused (Some v) w ks t ts place fault next s p ruled all h =
    by (refusal_at w ks t ts) refl (says w v ks t.kind (stands w v ks t.kind p s) t.place ts) h where
      by : (r : Option FormulaFault) → refusal_at w ks t ts ≡ r → Says t.place ks t.kind (kinds ts) r
          → unless_refused r (next (stage_meant v)) ≡ Err fault → RefusesOne ks (t ∷ ts) fault
      by None e said g =
          let st = stands w v ks t.kind p s in
          refuses_later ks t ts fault said (all v (passes w v ks t ts st e) (next_nodes w v ks t.kind st) g)
      by (Some f) e said g =
          let same : f ≡ fault = cc in
          let st = stands w v ks t.kind p s in
          refuses_here ks t ts fault (token_goes_on w v ks t.kind st) (subst (λ x. IsBroken t.place ks t.kind (kinds ts) x) same said)

reading_refused : (ts : List Token) (w : Stage Written) (ks : List Kind) (end : ℕ) (fault : FormulaFault) → Passed w ks → IsRuled fault
    → reading (stage_meant w) (nodes_in ks) end ts ≡ Err fault → RefusesOne ks ts fault
reading_refused [] w ks end fault p ruled h = absurd (end_unruled (finish trees (stage_meant w)) end fault ruled h)
reading_refused (t ∷ ts) w ks end fault p ruled h =
    let next : Stage Tree → Result Tree FormulaFault = λ v. reading v (nodes_in ks + node_count (stage_meant w) t.kind) (t.place + t.len) ts in
    let place = syntax_place (stage_meant w) t.place t.len t.kind in
    let r = refusal_at w ks t ts in
    then_refused (step writings w t.kind) w ks t ts place fault next refl p ruled
    (λ v q n g. reading_refused ts v (ks ++ t.kind ∷ []) (t.place + t.len) fault q ruled
    (ap (λ m. reading (stage_meant v) m (t.place + t.len) ts) n ∙ g))
    (ap (λ o. goes_on o place r next) (sym (step_meant w t.kind)) ∙ h)

at_start : Passed first_stage []
at_start = record { passed = refl; based = refl; deep = omega arith; few = omega arith }

-- what is refused beyond the grammar is refused for the first token that breaks a rule
pub refused_at_first : (text : List ℕ) (fault : FormulaFault) → reading_of text ≡ Err fault → IsSyntax fault ⊎ IsFirstBroken text fault
unfolding reading_of
refused_at_first text fault h = by fault h where
  found : (fault : FormulaFault) → IsRuled fault → reading_of text ≡ Err fault → IsFirstBroken text fault
  found fault ruled h =
      let r = reading_refused (tokens text 0 0) first_stage [] 0 fault at_start ruled h in
      record {
        before = r.before;
        token = r.token;
        after = r.after;
        parts = r.parts;
        place = r.broken.place;
        goes_on = r.goes_on;
        breaks = r.broken.breaks;
        first = r.broken.first;
        kept = r.kept;
      }

  by : (fault : FormulaFault) → reading_of text ≡ Err fault → IsSyntax fault ⊎ IsFirstBroken text fault
  by (Syntax at) h = inl (at, refl)
  by (UnknownFunction at) h = inr (found (UnknownFunction at) tt h)
  by (NumberFault fault at) h = inr (found (NumberFault fault at) tt h)
  by (BadPower at) h = inr (found (BadPower at) tt h)
  by (TooDeep at) h = inr (found (TooDeep at) tt h)
  by (TooMany at) h = inr (found (TooMany at) tt h)
  by OutOfMemory h = absurd (never_memory text h)

-- ---- the other way: where a token is the first that breaks a rule, the reading comes to it and refuses it
no_step : (ks us : List Kind) (k : Kind) (w : Stage Written) → stages writings first_stage ks ≡ Some w → step writings w k ≡ None
    → GoesOn (ks ++ k ∷ us) → ⊥
no_step ks us k w p h g =
    no_stage_no_text (ks ++ k ∷ us)
    (stages_meant (ks ++ k ∷ us) first_stage
    ∙ ap (option_map stage_meant) (stages_append ks (k ∷ us) first_stage
    ∙ ap (λ o. then_some o (λ u. stages writings u (k ∷ us))) p
    ∙ ap (λ o. then_some o (λ u. stages writings u us)) h)) g

refuses_at : (w : Stage Written) (ks : List Kind) (t : Token) (ts : List Token) (end : ℕ) (fault : FormulaFault) → Passed w ks
    → GoesOn (ks ++ t.kind ∷ []) → IsBroken t.place ks t.kind (kinds ts) fault → reading (stage_meant w) (nodes_in ks) end (t ∷ ts) ≡ Err fault
refuses_at w ks t ts end fault p g b = ap (λ o. goes_on o place r next) (step_meant w t.kind) ∙ by (step writings w t.kind) refl where
  next : Stage Tree → Result Tree FormulaFault
  next v = reading v (nodes_in ks + node_count (stage_meant w) t.kind) (t.place + t.len) ts

  place : ℕ
  place = syntax_place (stage_meant w) t.place t.len t.kind

  r : Option FormulaFault
  r = refusal_at w ks t ts

  by : (o : Option (Stage Written)) → step writings w t.kind ≡ o → goes_on (option_map stage_meant o) place r next ≡ Err fault
  by None e = absurd (no_step ks [] t.kind w p.passed e g)
  by (Some v) e =
      ap (λ x. unless_refused x (next (stage_meant v))) (refused_for w v ks t.kind (stands w v ks t.kind p e) t.place ts fault b)

then_reaches : (o : Option (Stage Written)) (w : Stage Written) (ks : List Kind) (t : Token) (ts : List Token) (place : ℕ) (fault : FormulaFault)
    (next : Stage Tree → Result Tree FormulaFault) → step writings w t.kind ≡ o → Passed w ks → (o ≡ None → ⊥)
    → ((other : FormulaFault) → Breaks other ks t.kind (kinds ts) → ⊥)
    → ((v : Stage Written) → Passed v (ks ++ t.kind ∷ []) → nodes_in (ks ++ t.kind ∷ []) ≡ nodes_in ks + node_count (stage_meant w) t.kind
    → next (stage_meant v) ≡ Err fault)
    → goes_on (option_map stage_meant o) place (refusal_at w ks t ts) next ≡ Err fault
then_reaches None w ks t ts place fault next s p some kept all = absurd (some refl)
then_reaches (Some v) w ks t ts place fault next s p some kept all =
    by (refusal_at w ks t ts) refl (says w v ks t.kind (stands w v ks t.kind p s) t.place ts) where
      by : (r : Option FormulaFault) → refusal_at w ks t ts ≡ r → Says t.place ks t.kind (kinds ts) r
          → unless_refused r (next (stage_meant v)) ≡ Err fault
      by None e said =
          let st = stands w v ks t.kind p s in
          all v (passes w v ks t ts st e) (next_nodes w v ks t.kind st)
      by (Some f) e said = absurd (kept f said.breaks)

reading_reaches : (before : List Token) (w : Stage Written) (ks : List Kind) (token : Token) (after : List Token) (end : ℕ) (fault : FormulaFault)
    → Passed w ks → GoesOn ((ks ++ kinds before) ++ token.kind ∷ []) → IsBroken token.place (ks ++ kinds before) token.kind (kinds after) fault
    → ((b c : List Token) (t : Token) → b ++ t ∷ c ≡ before
    → (other : FormulaFault) → Breaks other (ks ++ kinds b) t.kind (kinds (c ++ token ∷ after)) → ⊥)
    → reading (stage_meant w) (nodes_in ks) end (before ++ token ∷ after) ≡ Err fault
reading_reaches [] w ks token after end fault p g b kept =
    let same : ks ++ [] ≡ ks = append-nil ks in
    refuses_at w ks token after end fault p (subst (λ us. GoesOn (us ++ token.kind ∷ [])) same g)
    (subst (λ us. IsBroken token.place us token.kind (kinds after) fault) same b)
reading_reaches (t ∷ before) w ks token after end fault p g b kept =
    let ts = before ++ token ∷ after in
    let next : Stage Tree → Result Tree FormulaFault = λ v. reading v (nodes_in ks + node_count (stage_meant w) t.kind) (t.place + t.len) ts in
    let place = syntax_place (stage_meant w) t.place t.len t.kind in
    let r = refusal_at w ks t ts in
    let assoc : (us : List Kind) → ks ++ t.kind ∷ us ≡ (ks ++ t.kind ∷ []) ++ us = λ us. sym (append_assoc ks (t.kind ∷ []) us) in
    ap (λ o. goes_on o place r next) (step_meant w t.kind)
    ∙ then_reaches (step writings w t.kind) w ks t ts place fault next refl p
    (λ e. no_step ks (kinds before ++ token.kind ∷ []) t.kind w p.passed e
    (subst GoesOn (append_assoc ks (t.kind ∷ kinds before) (token.kind ∷ [])) g))
    (λ other x. kept [] before t refl other (subst (λ us. Breaks other us t.kind (kinds ts)) (sym (append-nil ks)) x))
    (λ v q n. ap (λ m. reading (stage_meant v) m (t.place + t.len) ts) (sym n)
    ∙ reading_reaches before v (ks ++ t.kind ∷ []) token after (t.place + t.len) fault q
    (subst (λ us. GoesOn (us ++ token.kind ∷ [])) (assoc (kinds before)) g)
    (subst (λ us. IsBroken token.place us token.kind (kinds after) fault) (assoc (kinds before)) b)
    (λ b c u e other x. kept (t ∷ b) c u (ap (λ us. t ∷ us) e) other
    (subst (λ us. Breaks other us u.kind (kinds (c ++ token ∷ after))) (sym (assoc (kinds b))) x)))

pub first_is_refused : (text : List ℕ) (fault : FormulaFault) → IsFirstBroken text fault → reading_of text ≡ Err fault
unfolding reading_of
first_is_refused text fault h =
    ap (λ ts. reading first_stage 0 0 ts) (sym h.parts)
    ∙ reading_reaches h.before first_stage [] h.token h.after 0 fault at_start h.goes_on
    (record { place = h.place; breaks = h.breaks; first = h.first }) h.kept
