-- Where a text is read as a formula, it is so at each place.
use Rattle.std.proofs.Common.{◌≡◌, ℕ, zero, suc, ◌+◌, ◌-◌, ◌&&◌, Bool, true, false, cond, nat_le, List, [], ◌∷◌, refl, Option, None, Some, is_none, Result, Ok}
use Rattle.line_text.specs.Blanks.{is_blank}
use Rattle.formula_ast.specs.Trees.{Tree}
use Rattle.formula_ast.specs.Tokens.{len_of, kind_of, Token, tokens}
use Rattle.formula_ast.specs.Machine.{Stage, AtOperand, AtAtom, AtEnd, AtExponent, first_stage, trees, step, finish}
use Rattle.formula_ast.specs.Reading.{operand_fault, exponent_fault, word_fault, is_too_deep, is_node, or_else, refusal, syntax_place, opens_next, at_end, unless_refused, goes_on, node_count, most_nodes, reading, reading_of}
use Rattle.formula_ast.specs.declared.token.Kind.{Kind}
use Rattle.formula_ast.specs.declared.token.Kind.TheVariants.{Number as NumberToken, Name, Joins, Hat, Open, Close, Glued, Wrong}
use Rattle.formula_ast.specs.declared.fault.FormulaFault.{FormulaFault}
use Rattle.formula_ast.specs.declared.fault.FormulaFault.TheVariants.{UnknownFunction, TooDeep, TooMany}

-- ---- the tokens are the same but for their places
abbrev pub SameKinds : List Token → List Token → Type 0
SameKinds [] [] = Unit {0}
SameKinds [] (u ∷ us) = ⊥
SameKinds (t ∷ ts) [] = ⊥
SameKinds (t ∷ ts) (u ∷ us) = (t.kind ≡ u.kind) × SameKinds ts us

cond_same : (t : Bool) (a b c d : List Token) → SameKinds a c → SameKinds b d → SameKinds (cond t a b) (cond t c d)
cond_same true a b c d h k = h
cond_same false a b c d h k = k

tokens_same : (text : List ℕ) (skip at at' : ℕ) → SameKinds (tokens text skip at) (tokens text skip at')
tokens_same [] skip at at' = tt
tokens_same (byte ∷ bytes) (suc skip) at at' = tokens_same bytes skip (at + 1) (at' + 1)
tokens_same (byte ∷ bytes) zero at at' =
    let len : ℕ = len_of (byte ∷ bytes) in
    let kind : Kind = kind_of (byte ∷ bytes) in
    cond_same (is_blank byte) (tokens bytes 0 (at + 1)) (record { place = at; kind = kind; len = len } ∷ tokens bytes (len - 1) (at + 1))
    (tokens bytes 0 (at' + 1)) (record { place = at'; kind = kind; len = len } ∷ tokens bytes (len - 1) (at' + 1))
    (tokens_same bytes 0 (at + 1) (at' + 1)) (refl, tokens_same bytes (len - 1) (at + 1) (at' + 1))

opens_same : (ts us : List Token) → SameKinds ts us → opens_next ts ≡ opens_next us
opens_same [] [] h = refl
opens_same [] (u ∷ us) h = absurd h
opens_same (t ∷ ts) [] h = absurd h
opens_same (t ∷ ts) (u ∷ us) h = rw h.0 refl

-- ---- a rule is broken at each place or at none
abbrev SameNone : Option FormulaFault → Option FormulaFault → Type 0
SameNone a b = is_none a ≡ is_none b

cond_none : (t : Bool) (a b c d : Option FormulaFault) → SameNone a c → SameNone b d → SameNone (cond t a b) (cond t c d)
cond_none true a b c d h k = h
cond_none false a b c d h k = k

or_none : (a b c d : Option FormulaFault) → SameNone a c → SameNone b d → SameNone (or_else a b) (or_else c d)
or_none None b None d h k = k
or_none None b (Some fault) d h k = absurd (cc)
or_none (Some fault) b None d h k = absurd (cc)
or_none (Some fault) b (Some other) d h k = refl

operand_none : (k : Kind) (at at' : ℕ) (opens : Bool) → SameNone (operand_fault k at opens) (operand_fault k at' opens)
operand_none (Name name) at at' opens = cond_none opens (Some (UnknownFunction at)) None (Some (UnknownFunction at')) None refl refl
operand_none (NumberToken None power) at at' opens = refl
operand_none (NumberToken (Some b) power) at at' opens = refl
operand_none (Joins s) at at' opens = refl
operand_none Hat at at' opens = refl
operand_none Open at at' opens = refl
operand_none Close at at' opens = refl
operand_none Glued at at' opens = refl
operand_none Wrong at at' opens = refl

exponent_none : (k : Kind) (at at' : ℕ) → SameNone (exponent_fault k at) (exponent_fault k at')
exponent_none (NumberToken value None) at at' = refl
exponent_none (NumberToken value (Some n)) at at' = refl
exponent_none (Name name) at at' = refl
exponent_none (Joins s) at at' = refl
exponent_none Hat at at' = refl
exponent_none Open at at' = refl
exponent_none Close at at' = refl
exponent_none Glued at at' = refl
exponent_none Wrong at at' = refl

word_none : (s : Stage Tree) (at at' : ℕ) (k : Kind) (opens : Bool) → SameNone (word_fault s at k opens) (word_fault s at' k opens)
word_none (AtOperand l o) at at' k opens = operand_none k at at' opens
word_none (AtAtom l x o) at at' k opens = refl
word_none (AtEnd b left x o) at at' k opens = refl
word_none (AtExponent l x minus o) at at' k opens = exponent_none k at at'

refusal_none : (s : Stage Tree) (nodes at at' : ℕ) (k : Kind) (opens : Bool) → SameNone (refusal s nodes at k opens) (refusal s nodes at' k opens)
refusal_none s nodes at at' k opens =
    or_none (word_fault s at k opens) _ (word_fault s at' k opens) _ (word_none s at at' k opens)
    (cond_none (is_too_deep s k) (Some (TooDeep at)) _ (Some (TooDeep at')) _ refl
    (cond_none (is_node s k && nat_le most_nodes nodes) (Some (TooMany at)) None (Some (TooMany at')) None refl refl))

-- ---- the reading
end_moved : (o : Option Tree) (end end' : ℕ) (f : Tree) → at_end o end ≡ Ok f → at_end o end' ≡ Ok f
end_moved None end end' f h = absurd (cc)
end_moved (Some g) end end' f h = h

unless_moved : (refused refused' : Option FormulaFault) (r r' : Result Tree FormulaFault) (f : Tree) → SameNone refused refused' →
    (r ≡ Ok f → r' ≡ Ok f) → unless_refused refused r ≡ Ok f → unless_refused refused' r' ≡ Ok f
unless_moved None None r r' f same k h = k h
unless_moved None (Some fault) r r' f same k h = absurd (cc)
unless_moved (Some fault) refused' r r' f same k h = absurd (cc)

goes_moved : (o : Option (Stage Tree)) (place place' : ℕ) (refused refused' : Option FormulaFault)
    (next next' : Stage Tree → Result Tree FormulaFault) (f : Tree) → SameNone refused refused' →
    ((v : Stage Tree) → next v ≡ Ok f → next' v ≡ Ok f) → goes_on o place refused next ≡ Ok f → goes_on o place' refused' next' ≡ Ok f
goes_moved None place place' refused refused' next next' f same k h = absurd (cc)
goes_moved (Some v) place place' refused refused' next next' f same k h = unless_moved refused refused' (next v) (next' v) f same (k v) h

-- one token more, of the same kind
token_moved : (s : Stage Tree) (nodes end end' place place' len len' : ℕ) (k k' : Kind) (ts us : List Token) (f : Tree) → k ≡ k' →
    SameKinds ts us →
    ((v : Stage Tree) (n a b : ℕ) → reading v n a ts ≡ Ok f → reading v n b us ≡ Ok f) →
    reading s nodes end (record { place = place; kind = k; len = len } ∷ ts) ≡ Ok f →
    reading s nodes end' (record { place = place'; kind = k'; len = len' } ∷ us) ≡ Ok f
token_moved s nodes end end' place place' len len' k k' ts us f e same on =
    rw (← e, ← opens_same ts us same)
    (goes_moved (step trees s k) (syntax_place s place len k) (syntax_place s place' len' k)
    (refusal s nodes place k (opens_next ts)) (refusal s nodes place' k (opens_next ts))
    (λ v. reading v (nodes + node_count s k) (place + len) ts) (λ v. reading v (nodes + node_count s k) (place' + len') us) f
    (refusal_none s nodes place place' k (opens_next ts))
    (λ v. on v (nodes + node_count s k) (place + len) (place' + len')))

moved : (ts us : List Token) (s : Stage Tree) (nodes end end' : ℕ) (f : Tree) → SameKinds ts us →
    reading s nodes end ts ≡ Ok f → reading s nodes end' us ≡ Ok f
moved [] [] s nodes end end' f same h = end_moved (finish trees s) end end' f h
moved [] (u ∷ us) s nodes end end' f same h = absurd same
moved (t ∷ ts) [] s nodes end end' f same h = absurd same
moved (t ∷ ts) (u ∷ us) s nodes end end' f same h =
    token_moved s nodes end end' t.place u.place t.len u.len t.kind u.kind ts us f same.0 same.1
    (λ v n a b. moved ts us v n a b f same.1) h

-- a leading blank
pub read_after_blank : (text : List ℕ) (f : Tree) → reading_of text ≡ Ok f → reading_of (32 ∷ text) ≡ Ok f
unfolding reading_of
read_after_blank text f h = moved (tokens text 0 0) (tokens text 0 1) first_stage 0 0 0 f (tokens_same text 0 0 1) h
