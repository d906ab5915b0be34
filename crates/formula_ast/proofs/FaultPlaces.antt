-- The place of a formula's fault is within its text.
use Rattle.std.proofs.Common.{◌≡◌, ◌≢◌, ℕ, zero, suc, ◌+◌, ◌-◌, ◌≤◌, ◌==◌, ◌||◌, Bool, true, false, cond, min, List, [], ◌∷◌, length, drop, arith, length-drop, Option, None, Some, Result, Ok, Err, IfSome, IfErr}
use Rattle.std.specs.List.{prefix_len}
use Rattle.std.specs.Char.{is_ascii_digit}
use Rattle.std.proofs.lemmas.List.Sums.{prefix_len-le-length}
use Rattle.decimal18.specs.Literal.{is_exponent_letter}
use Rattle.line_text.specs.Blanks.{is_blank}
use Rattle.line_text.specs.Memory.{GivesBy}
use Rattle.formula_ast.specs.Trees.{Tree}
use Rattle.formula_ast.specs.Views.{tree_of}
use Rattle.formula_ast.specs.declared.formula.Formula.{Formula}
use Rattle.formula_ast.specs.Names.{begins_name}
use Rattle.formula_ast.specs.Tokens.{goes_on_run, with_point, point_len, sign_len, with_letter, exponent_len, literal_len, len_of, kind_of, Token, tokens}
use Rattle.formula_ast.specs.Machine.{Stage, AtOperand, AtAtom, AtEnd, AtExponent, first_stage, trees, step, finish}
use Rattle.formula_ast.specs.Reading.{operand_fault, exponent_fault, word_fault, is_too_deep, or_else, refusal, after_glued, syntax_place, opens_next, at_end, unless_refused, goes_on, node_count, reading, reading_of}
use Rattle.formula_ast.specs.declared.token.Kind.{Kind}
use Rattle.formula_ast.specs.declared.token.Kind.TheVariants.{Number as NumberToken, Name, Joins, Hat, Open, Close, Glued, Wrong}
use Rattle.formula_ast.specs.declared.fault.FormulaFault.{FormulaFault}
use Rattle.formula_ast.specs.declared.fault.FormulaFault.TheVariants.{Syntax, UnknownFunction, Number, BadPower, TooDeep, TooMany, OutOfMemory}
use Rattle.formula_ast.specs.Refusals.{place_of}

-- ---- a token is within the text
cond_le : (t : Bool) (a b n : ℕ) → a ≤ n → b ≤ n → cond t a b ≤ n
cond_le true a b n h k = h
cond_le false a b n h k = k

point_le : (digits n : ℕ) → digits ≤ n → with_point digits ≤ suc n
point_le zero n h = omega arith
point_le (suc digits) n h = omega (arith, h)

point_len_le : (text : List ℕ) → point_len text ≤ length text
point_len_le [] = omega arith
point_len_le (byte ∷ bytes) =
    cond_le (byte == 46) (with_point (prefix_len is_ascii_digit bytes)) 0 (suc (length bytes))
    (point_le (prefix_len is_ascii_digit bytes) (length bytes) (prefix_len-le-length is_ascii_digit bytes)) (omega arith)

sign_len_le : (text : List ℕ) → sign_len text ≤ length text
sign_len_le [] = omega arith
sign_len_le (byte ∷ bytes) = cond_le (byte == 43 || byte == 45) 1 0 (suc (length bytes)) (omega arith) (omega arith)

letter_le : (sign digits n : ℕ) → sign + digits ≤ n → with_letter sign digits ≤ suc n
letter_le sign zero n h = omega arith
letter_le sign (suc digits) n h = omega (arith, h)

exponent_digits_le : (text : List ℕ) (sign : ℕ) → sign ≤ length text →
    sign + min 3 (prefix_len is_ascii_digit (drop sign text)) ≤ length text
exponent_digits_le text sign h =
    let few : prefix_len is_ascii_digit (drop sign text) ≤ length (drop sign text) = prefix_len-le-length is_ascii_digit (drop sign text) in
    let long : length (drop sign text) ≡ length text - sign = length-drop sign text in
    omega (arith, few, long, h)

exponent_len_le : (text : List ℕ) → exponent_len text ≤ length text
exponent_len_le [] = omega arith
exponent_len_le (byte ∷ bytes) =
    let sign : ℕ = sign_len bytes in
    cond_le (is_exponent_letter byte) (with_letter sign (min 3 (prefix_len is_ascii_digit (drop sign bytes)))) 0 (suc (length bytes))
    (letter_le sign (min 3 (prefix_len is_ascii_digit (drop sign bytes))) (length bytes) (exponent_digits_le bytes sign (sign_len_le bytes)))
    (omega arith)

literal_len_le : (text : List ℕ) → literal_len text ≤ length text
literal_len_le text =
    let whole : ℕ = prefix_len is_ascii_digit text in
    let rest : List ℕ = drop whole text in
    let after : ℕ = point_len rest in
    let a : whole ≤ length text = prefix_len-le-length is_ascii_digit text in
    let b : length rest ≡ length text - whole = length-drop whole text in
    let c : after ≤ length rest = point_len_le rest in
    let d : length (drop after rest) ≡ length rest - after = length-drop after rest in
    let e : exponent_len (drop after rest) ≤ length (drop after rest) = exponent_len_le (drop after rest) in
    omega (arith, a, b, c, d, e)

len_of_le : (text : List ℕ) → len_of text ≤ length text
len_of_le [] = omega arith
len_of_le (byte ∷ bytes) =
    cond_le (is_ascii_digit byte) (literal_len (byte ∷ bytes)) (cond (begins_name byte) (prefix_len goes_on_run (byte ∷ bytes)) 1)
    (suc (length bytes)) (literal_len_le (byte ∷ bytes))
    (cond_le (begins_name byte) (prefix_len goes_on_run (byte ∷ bytes)) 1 (suc (length bytes))
    (prefix_len-le-length goes_on_run (byte ∷ bytes)) (omega arith))

-- each token ends at this place or before it
abbrev pub AllWithin : ℕ → List Token → Type 0
AllWithin most [] = Unit {0}
AllWithin most (t ∷ ts) = (t.place + t.len ≤ most) × AllWithin most ts

cond_within : (t : Bool) (a b : List Token) (most : ℕ) → AllWithin most a → AllWithin most b → AllWithin most (cond t a b)
cond_within true a b most h k = h
cond_within false a b most h k = k

tokens_within : (text : List ℕ) (skip at most : ℕ) → at + length text ≤ most → AllWithin most (tokens text skip at)
tokens_within [] skip at most h = tt
tokens_within (byte ∷ bytes) (suc skip) at most h = tokens_within bytes skip (at + 1) most (omega (arith, h))
tokens_within (byte ∷ bytes) zero at most h =
    let len : ℕ = len_of (byte ∷ bytes) in
    let fits : len ≤ suc (length bytes) = len_of_le (byte ∷ bytes) in
    cond_within (is_blank byte) (tokens bytes 0 (at + 1))
    (record { place = at; kind = kind_of (byte ∷ bytes); len = len } ∷ tokens bytes (len - 1) (at + 1)) most
    (tokens_within bytes 0 (at + 1) most (omega (arith, h)))
    (omega (arith, h, fits), tokens_within bytes (len - 1) (at + 1) most (omega (arith, h)))

-- ---- the places of faults
-- the place of the fault, and of that which there may be, is at most this
abbrev pub Within : ℕ → FormulaFault → Type 0
Within most fault = IfSome (place_of fault) (λ at. at ≤ most)

abbrev pub At : ℕ → Option FormulaFault → Type 0
At most o = IfSome o (Within most)

cond_at : (t : Bool) (a b : Option FormulaFault) (at : ℕ) → At at a → At at b → At at (cond t a b)
cond_at true a b at h k = h
cond_at false a b at h k = k

or_at : (a b : Option FormulaFault) (at : ℕ) → At at a → At at b → At at (or_else a b)
or_at None b at h k = k
or_at (Some fault) b at h k = h

operand_at : (k : Kind) (at most : ℕ) (opens : Bool) → at ≤ most → At most (operand_fault k at opens)
operand_at (Name name) at most opens h = cond_at opens (Some (UnknownFunction at)) None most h tt
operand_at (NumberToken None power) at most opens h = h
operand_at (NumberToken (Some b) power) at most opens h = tt
operand_at (Joins s) at most opens h = tt
operand_at Hat at most opens h = tt
operand_at Open at most opens h = tt
operand_at Close at most opens h = tt
operand_at Glued at most opens h = tt
operand_at Wrong at most opens h = tt

exponent_at : (k : Kind) (at most : ℕ) → at ≤ most → At most (exponent_fault k at)
exponent_at (NumberToken value None) at most h = h
exponent_at (NumberToken value (Some n)) at most h = tt
exponent_at (Name name) at most h = tt
exponent_at (Joins s) at most h = tt
exponent_at Hat at most h = tt
exponent_at Open at most h = tt
exponent_at Close at most h = tt
exponent_at Glued at most h = tt
exponent_at Wrong at most h = tt

word_at : (s : Stage Tree) (at most : ℕ) (k : Kind) (opens : Bool) → at ≤ most → At most (word_fault s at k opens)
word_at (AtOperand l o) at most k opens h = operand_at k at most opens h
word_at (AtAtom l x o) at most k opens h = tt
word_at (AtEnd b left x o) at most k opens h = tt
word_at (AtExponent l x minus o) at most k opens h = exponent_at k at most h

refusal_at : (s : Stage Tree) (nodes at most : ℕ) (k : Kind) (opens : Bool) → at ≤ most → At most (refusal s nodes at k opens)
refusal_at s nodes at most k opens h =
    or_at (word_fault s at k opens) _ most (word_at s at most k opens h)
    (cond_at (is_too_deep s k) (Some (TooDeep at)) _ most h (cond_at _ (Some (TooMany at)) None most h tt))

glued_le : (k : Kind) (len : ℕ) → after_glued k len ≤ len
glued_le Glued len = omega arith
glued_le (NumberToken value power) len = omega arith
glued_le (Name name) len = omega arith
glued_le (Joins s) len = omega arith
glued_le Hat len = omega arith
glued_le Open len = omega arith
glued_le Close len = omega arith
glued_le Wrong len = omega arith

syntax_le : (s : Stage Tree) (at len : ℕ) (k : Kind) → syntax_place s at len k ≤ at + len
syntax_le (AtOperand l o) at len k = omega (arith, glued_le k len)
syntax_le (AtAtom l x o) at len k = omega arith
syntax_le (AtEnd b left x o) at len k = omega arith
syntax_le (AtExponent l x minus o) at len k = omega (arith, glued_le k len)

-- ---- the reading
abbrev pub IsWithin : ℕ → Result Tree FormulaFault → Type 0
IsWithin most r = IfErr r (Within most)

end_within : (o : Option Tree) (end most : ℕ) → end ≤ most → IsWithin most (at_end o end)
end_within None end most h = h
end_within (Some f) end most h = tt

unless_within : (refused : Option FormulaFault) (r : Result Tree FormulaFault) (most : ℕ) → At most refused → IsWithin most r →
    IsWithin most (unless_refused refused r)
unless_within None r most h k = k
unless_within (Some fault) r most h k = h

goes_within : (o : Option (Stage Tree)) (place most : ℕ) (refused : Option FormulaFault) (next : Stage Tree → Result Tree FormulaFault) →
    place ≤ most → At most refused → ((v : Stage Tree) → IsWithin most (next v)) → IsWithin most (goes_on o place refused next)
goes_within None place most refused next h r k = h
goes_within (Some v) place most refused next h r k = unless_within refused (next v) most r (k v)

reading_within : (ts : List Token) (s : Stage Tree) (nodes end most : ℕ) → AllWithin most ts → end ≤ most →
    IsWithin most (reading s nodes end ts)
reading_within [] s nodes end most w h = end_within (finish trees s) end most h
reading_within (t ∷ ts) s nodes end most w h =
    goes_within (step trees s t.kind) (syntax_place s t.place t.len t.kind) most (refusal s nodes t.place t.kind (opens_next ts))
    (λ next. reading next (nodes + node_count s t.kind) (t.place + t.len) ts)
    (omega (arith, syntax_le s t.place t.len t.kind, w.0))
    (refusal_at s nodes t.place most t.kind (opens_next ts) (omega (arith, w.0)))
    (λ next. reading_within ts next (nodes + node_count s t.kind) (t.place + t.len) most w.1 w.0)

text_within : (text : List ℕ) → IsWithin (length text) (reading_of text)
unfolding reading_of
text_within text = reading_within (tokens text 0 0) first_stage 0 0 (length text) (tokens_within text 0 0 (length text) (omega arith)) (omega arith)

-- the reader's fault is within the text
fault_told : (fault : FormulaFault) (r : Result Tree FormulaFault) (most : ℕ) → (fault ≢ OutOfMemory → r ≡ Err fault) → IsWithin most r →
    Within most fault
fault_told OutOfMemory r most f w = tt
fault_told (Syntax at) r most f w = rw (f (λ e. cc)) at w
fault_told (UnknownFunction at) r most f w = rw (f (λ e. cc)) at w
fault_told (Number fault at) r most f w = rw (f (λ e. cc)) at w
fault_told (BadPower at) r most f w = rw (f (λ e. cc)) at w
fault_told (TooDeep at) r most f w = rw (f (λ e. cc)) at w
fault_told (TooMany at) r most f w = rw (f (λ e. cc)) at w

pub fault_within : (text : List ℕ) (r : Result Formula FormulaFault) → GivesBy tree_of OutOfMemory r (reading_of text) →
    IfErr r (Within (length text))
fault_within text (Ok f) h = tt
fault_within text (Err fault) h = fault_told fault (reading_of text) (length text) h (text_within text)
