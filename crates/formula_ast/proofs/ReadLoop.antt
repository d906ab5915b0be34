-- The reading of a text from its start: what holds before each token, and after the last.
use Rattle.std.proofs.Common.{◌≡◌, ℕ, zero, suc, ◌+◌, ◌-◌, ◌<◌, ◌≤◌, ◌==◌, ◌&&◌, Bool, true, false, cond, nat_le, List, ◌∷◌, length, drop, refl, sym, ◌∙◌, ap, subst, arith, Option, None, Some, Result, Err}
use Rattle.std.proofs.lemmas.Bool.Decides.{nat_tests}
use Rattle.line_text.specs.Blanks.{IsTight}
use Rattle.line_text.proofs.PieceSteps.{first_piece}
use Rattle.formula_ast.specs.Trees.{Tree}
use Rattle.formula_ast.specs.Tokens.{Token, token_at, tokens, len_of}
use Rattle.formula_ast.specs.Machine.{Stage, AtOperand, AtAtom, AtEnd, AtExponent, trees, step, first_stage}
use Rattle.formula_ast.specs.Reading.{most_nodes, or_else, word_fault, is_too_deep, is_node, node_count, refusal, unless_refused, goes_on, syntax_place, opens_next, reading, reading_of}
use Rattle.formula_ast.specs.FirstTokens.{IsPassed, IsFirstToken}
use Rattle.formula_ast.specs.declared.token.Sign.TheVariants.{Plus, Minus, Times, Over}
use Rattle.formula_ast.specs.declared.token.Kind.{Kind}
use Rattle.formula_ast.specs.declared.token.Kind.TheVariants.{Number, Name, Joins, Hat, Open, Close, Glued, Wrong}
use Rattle.formula_ast.specs.declared.fault.FormulaFault.{FormulaFault}
use Rattle.formula_ast.specs.declared.fault.FormulaFault.TheVariants as fault

-- the reading has come to `rest`, at a stage, after so many nodes and a token that ends at `end`
pub record IsAt (text rest : List ℕ) (s : Stage Tree) (nodes end : ℕ) : Type 0 where
  pub within : length rest ≤ length text
  pub tight : IsTight rest
  pub few : nodes ≤ most_nodes
  pub read : reading s nodes end (tokens rest 0 (length text - length rest)) ≡ reading_of text

-- ---- a rule beyond the grammar is broken only where the grammar goes on
unruled : (s : Stage Tree) (n at : ℕ) (k : Kind) (opens : Bool) → step trees s k ≡ None → refusal s n at k opens ≡ None
unruled (AtOperand l o) n at (Number value power) opens h = absurd (cc)
unruled (AtOperand l o) n at (Name name) opens h = absurd (cc)
unruled (AtOperand l o) n at (Joins Plus) opens h = refl
unruled (AtOperand l o) n at (Joins Minus) opens h = absurd (cc)
unruled (AtOperand l o) n at (Joins Times) opens h = refl
unruled (AtOperand l o) n at (Joins Over) opens h = refl
unruled (AtOperand l o) n at Hat opens h = refl
unruled (AtOperand l o) n at Open opens h = absurd (cc)
unruled (AtOperand l o) n at Close opens h = refl
unruled (AtOperand l o) n at Glued opens h = refl
unruled (AtOperand l o) n at Wrong opens h = refl
unruled (AtAtom l x o) n at (Number value power) opens h = refl
unruled (AtAtom l x o) n at (Name name) opens h = refl
unruled (AtAtom l x o) n at (Joins s) opens h = absurd (cc)
unruled (AtAtom l x o) n at Hat opens h = absurd (cc)
unruled (AtAtom l x o) n at Open opens h = refl
unruled (AtAtom l x o) n at Close opens h = refl
unruled (AtAtom l x o) n at Glued opens h = refl
unruled (AtAtom l x o) n at Wrong opens h = refl
unruled (AtEnd b left x o) n at (Number value power) opens h = refl
unruled (AtEnd b left x o) n at (Name name) opens h = refl
unruled (AtEnd b left x o) n at (Joins s) opens h = absurd (cc)
unruled (AtEnd b left x o) n at Hat opens h = refl
unruled (AtEnd b left x o) n at Open opens h = refl
unruled (AtEnd b left x o) n at Close opens h = refl
unruled (AtEnd b left x o) n at Glued opens h = refl
unruled (AtEnd b left x o) n at Wrong opens h = refl
unruled (AtExponent l x minus o) n at (Number value power) opens h = absurd (cc)
unruled (AtExponent l x minus o) n at (Name name) opens h = refl
unruled (AtExponent l x minus o) n at (Joins s) opens h = refl
unruled (AtExponent l x minus o) n at Hat opens h = refl
unruled (AtExponent l x minus o) n at Open opens h = refl
unruled (AtExponent l x minus o) n at Close opens h = refl
unruled (AtExponent l x minus o) n at Glued opens h = refl
unruled (AtExponent l x minus o) n at Wrong opens h = refl

goes_on_ruled : (t : Option (Stage Tree)) (place : ℕ) (r : Option FormulaFault) (next : Stage Tree → Result Tree FormulaFault) (f : FormulaFault) →
    r ≡ Some f → (t ≡ None → r ≡ None) → goes_on t place r next ≡ Err f
goes_on_ruled None place r next f e u = let n : r ≡ None = u refl in absurd (cc)
goes_on_ruled (Some t) place r next f e u = ap (λ q. unless_refused q (next t)) e

goes_on_some : (t : Option (Stage Tree)) (s : Stage Tree) (place : ℕ) (r : Option FormulaFault) (next : Stage Tree → Result Tree FormulaFault) →
    t ≡ Some s → r ≡ None → goes_on t place r next ≡ next s
goes_on_some t s place r next e h = rw (e, h) refl

-- ---- the tokens of a text after that at its start
first_tokens : (text after : List ℕ) (len : ℕ) (kind : Kind) (at : ℕ) → 0 < length text → IsTight text → IsFirstToken text len kind after →
    tokens text 0 at ≡ record { place = at; kind = kind; len = len } ∷ tokens after 0 (at + (length text - length after))
first_tokens text after len kind at some tight f =
    let there : at + len + (length text - len - length after) ≡ at + (length text - length after) = omega (arith, f.within) in
    let rest : tokens (drop (len_of text) text) 0 (at + len_of text) ≡ tokens after 0 (at + (length text - length after)) =
    subst (λ n. tokens (drop n text) 0 (at + n) ≡ tokens after 0 (at + (length text - length after))) f.long (f.same (at + len) ∙ ap (tokens after 0) there) in
    rw (f.is, f.long)
    (first_piece Token len_of token_at text at tight some (subst (λ n. 0 < n) f.long f.positive) ∙ ap (λ ts. token_at at text ∷ ts) rest)

-- the reading of such a text
reading_first : (text rest after : List ℕ) (s : Stage Tree) (nodes end len : ℕ) (kind : Kind) → IsAt text rest s nodes end → 0 < length rest →
    IsFirstToken rest len kind after → reading_of text
    ≡ goes_on (step trees s kind) (syntax_place s (length text - length rest) len kind)
    (refusal s nodes (length text - length rest) kind (opens_next (tokens after 0 (length text - length after))))
    (λ next. reading next (nodes + node_count s kind) (length text - length rest + len) (tokens after 0 (length text - length after)))
reading_first text rest after s nodes end len kind a some f =
    let at : ℕ = length text - length rest in
    let there : at + (length rest - length after) ≡ length text - length after = omega (arith, a.within, f.within) in
    sym a.read ∙ ap (reading s nodes end) (first_tokens rest after len kind at some a.tight f
    ∙ ap (λ place. record { place = at; kind = kind; len = len } ∷ tokens after 0 place) there)

-- ---- the ways on from a token
pub read_ruled : (text rest after : List ℕ) (s : Stage Tree) (nodes end len : ℕ) (kind : Kind) (opens : Bool) (f : FormulaFault) →
    IsAt text rest s nodes end → 0 < length rest → IsFirstToken rest len kind after →
    opens ≡ opens_next (tokens after 0 (length text - length after)) →
    Some f ≡ refusal s nodes (length text - length rest) kind opens → reading_of text ≡ Err f
read_ruled text rest after s nodes end len kind opens f a some first o r =
    reading_first text rest after s nodes end len kind a some first
    ∙ goes_on_ruled (step trees s kind) _ _ _ f (sym (r ∙ ap (refusal s nodes (length text - length rest) kind) o))
    (unruled s nodes (length text - length rest) kind _)

few_by : (w : Option FormulaFault) (d b : Bool) (x y : FormulaFault) (nodes : ℕ) →
    or_else w (cond d (Some x) (cond (b && nat_le most_nodes nodes) (Some y) None)) ≡ None → nodes ≤ most_nodes →
    (d ≡ false) × (nodes + cond b 1 0 ≤ most_nodes)
few_by (Some w) d b x y nodes h few = absurd (cc)
few_by None true b x y nodes h few = absurd (cc)
few_by None false false x y nodes h few = (refl, omega arith)
few_by None false true x y nodes h few = (refl, grind (arith, nat_tests))

pub few_more : (s : Stage Tree) (nodes at : ℕ) (kind : Kind) (opens : Bool) → None ≡ refusal s nodes at kind opens → nodes ≤ most_nodes →
    (is_too_deep s kind ≡ false) × (nodes + node_count s kind ≤ most_nodes)
few_more s nodes at kind opens r few =
    few_by (word_fault s at kind opens) (is_too_deep s kind) (is_node s kind) (fault.TooDeep at) (fault.TooMany at) nodes (sym r) few

pub read_more : (text rest after : List ℕ) (s t : Stage Tree) (nodes end len : ℕ) (kind : Kind) (opens : Bool) →
    IsAt text rest s nodes end → 0 < length rest → IsFirstToken rest len kind after → IsTight after →
    opens ≡ opens_next (tokens after 0 (length text - length after)) →
    None ≡ refusal s nodes (length text - length rest) kind opens → step trees s kind ≡ Some t →
    IsAt text after t (nodes + node_count s kind) (length text - length rest + len)
read_more text rest after s t nodes end len kind opens a some first tight o r e = record {
  within = omega (arith, a.within, first.within);
  tight = tight;
  few = (few_more s nodes (length text - length rest) kind opens r a.few).1;
  read = sym (reading_first text rest after s nodes end len kind a some first
      ∙ goes_on_some (step trees s kind) t _ _ _ e (sym (r ∙ ap (refusal s nodes (length text - length rest) kind) o)));
}

-- the first token
pub read_first : (text rest : List ℕ) → IsPassed text rest → IsAt text rest first_stage 0 0
unfolding reading_of
read_first text rest p =
    let zero_on : 0 + (length text - length rest) ≡ length text - length rest = omega arith in
    record {
      within = p.within;
      tight = p.tight;
      few = omega arith;
      read = ap (reading first_stage 0 0) (sym (p.same 0 ∙ ap (tokens rest 0) zero_on));
    }

-- a test for an empty text
pub not_empty : (n : ℕ) (b : Bool) → b ≡ (n == 0) → b ≡ false → 0 < n
not_empty zero b e f = absurd (cc)
not_empty (suc n) b e f = omega arith
