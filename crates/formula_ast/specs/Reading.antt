-- The reading of a text: the formula that it spells, or the first token that breaks a rule, with the
-- order of the rules at one token, and its place, counted from 0.
use Rattle.std.specs.Prelude.{ℕ, ◌+◌, ◌&&◌, Bool, true, false, cond, nat_le, List, [], ◌∷◌, Option, None, Some, Result, Ok, Err}
use Rattle.decimal18.specs.declared.literal.NumFault.TheVariants.{NumberRange}
use Rattle.formula_ast.specs.Trees.{Tree}
use Rattle.formula_ast.specs.Tokens.{Token, tokens}
use Rattle.formula_ast.specs.Machine.{Stage, AtOperand, AtAtom, AtEnd, AtExponent, first_stage, trees, step, finish}
use Rattle.formula_ast.specs.declared.token.Sign.{Sign}
use Rattle.formula_ast.specs.declared.token.Sign.TheVariants.{Plus, Minus, Times, Over}
use Rattle.formula_ast.specs.declared.token.Kind.{Kind}
use Rattle.formula_ast.specs.declared.token.Kind.TheVariants.{Number as NumberToken, Name, Joins, Hat, Open, Close, Glued, Wrong}
use Rattle.formula_ast.specs.declared.fault.FormulaFault.{FormulaFault}
use Rattle.formula_ast.specs.declared.fault.FormulaFault.TheVariants.{Syntax, UnknownFunction, Number, BadPower, TooDeep, TooMany}

-- the most open parentheses and prefix minuses, and the most nodes
abbrev pub deepest : ℕ
deepest = 64

abbrev pub most_nodes : ℕ
most_nodes = 256

-- ---- the rules at one token, all of them false where the grammar does not go on with it
-- 2 to 4: a name before a parenthesis, an operand that is no bound, an exponent that is not from 1 to 9
abbrev pub operand_fault : Kind → ℕ → Bool → Option FormulaFault
operand_fault (Name name) at opens = cond opens (Some (UnknownFunction at)) None
operand_fault (NumberToken None power) at opens = Some (Number NumberRange at)
operand_fault (NumberToken (Some b) power) at opens = None
operand_fault (Joins s) at opens = None
operand_fault Hat at opens = None
operand_fault Open at opens = None
operand_fault Close at opens = None
operand_fault Glued at opens = None
operand_fault Wrong at opens = None

abbrev pub exponent_fault : Kind → ℕ → Option FormulaFault
exponent_fault (NumberToken value None) at = Some (BadPower at)
exponent_fault (NumberToken value (Some n)) at = None
exponent_fault (Name name) at = None
exponent_fault (Joins s) at = None
exponent_fault Hat at = None
exponent_fault Open at = None
exponent_fault Close at = None
exponent_fault Glued at = None
exponent_fault Wrong at = None

abbrev pub word_fault : {A : Type 0} → Stage A → ℕ → Kind → Bool → Option FormulaFault
word_fault (AtOperand l o) at k opens = operand_fault k at opens
word_fault (AtAtom l x o) at k opens = None
word_fault (AtEnd b left x o) at k opens = None
word_fault (AtExponent l x minus o) at k opens = exponent_fault k at

-- a parenthesis or a prefix minus
abbrev pub is_minus : Sign → Bool
is_minus Plus = false
is_minus Minus = true
is_minus Times = false
is_minus Over = false

abbrev pub nests : Kind → Bool
nests Open = true
nests (Joins s) = is_minus s
nests (NumberToken value power) = false
nests (Name name) = false
nests Hat = false
nests Close = false
nests Glued = false
nests Wrong = false

-- 5: the nesting is as deep as it may be, and the token makes it deeper
abbrev pub is_too_deep : {A : Type 0} → Stage A → Kind → Bool
is_too_deep (AtOperand l o) k = nests k && nat_le deepest (l.base + l.minuses)
is_too_deep (AtAtom l x o) k = false
is_too_deep (AtEnd b left x o) k = false
is_too_deep (AtExponent l x minus o) k = false

-- a number, a name, a prefix minus
abbrev pub is_operand_node : Kind → Bool
is_operand_node (NumberToken value power) = true
is_operand_node (Name name) = true
is_operand_node (Joins s) = is_minus s
is_operand_node Hat = false
is_operand_node Open = false
is_operand_node Close = false
is_operand_node Glued = false
is_operand_node Wrong = false

-- a binary operator
abbrev pub is_joint : Kind → Bool
is_joint (Joins s) = true
is_joint (NumberToken value power) = false
is_joint (Name name) = false
is_joint Hat = false
is_joint Open = false
is_joint Close = false
is_joint Glued = false
is_joint Wrong = false

-- a binary operator or `^`
abbrev pub is_atom_node : Kind → Bool
is_atom_node (Joins s) = true
is_atom_node Hat = true
is_atom_node (NumberToken value power) = false
is_atom_node (Name name) = false
is_atom_node Open = false
is_atom_node Close = false
is_atom_node Glued = false
is_atom_node Wrong = false

-- whether the token is a node. Parentheses, exponents and their minus are none
abbrev pub is_node : {A : Type 0} → Stage A → Kind → Bool
is_node (AtOperand l o) k = is_operand_node k
is_node (AtAtom l x o) k = is_atom_node k
is_node (AtEnd b left x o) k = is_joint k
is_node (AtExponent l x minus o) k = false

abbrev pub or_else : {A : Type 0} → Option A → Option A → Option A
or_else None other = other
or_else (Some x) other = Some x

-- the first rule beyond the grammar that the token breaks, before which so many nodes stand
abbrev pub refusal : {A : Type 0} → Stage A → ℕ → ℕ → Kind → Bool → Option FormulaFault
refusal s nodes at k opens =
    or_else (word_fault s at k opens)
    (cond (is_too_deep s k) (Some (TooDeep at))
    (cond (is_node s k && nat_le most_nodes nodes) (Some (TooMany at)) None))

-- ---- the place of a token with which the grammar does not go on
-- a number may stand here, and the byte after it is wrong
abbrev pub after_glued : Kind → ℕ → ℕ
after_glued Glued len = len
after_glued (NumberToken value power) len = 0
after_glued (Name name) len = 0
after_glued (Joins s) len = 0
after_glued Hat len = 0
after_glued Open len = 0
after_glued Close len = 0
after_glued Wrong len = 0

abbrev pub syntax_place : {A : Type 0} → Stage A → ℕ → ℕ → Kind → ℕ
syntax_place (AtOperand l o) at len k = at + after_glued k len
syntax_place (AtAtom l x o) at len k = at
syntax_place (AtEnd b left x o) at len k = at
syntax_place (AtExponent l x minus o) at len k = at + after_glued k len

-- ---- the reading
abbrev pub is_open : Kind → Bool
is_open Open = true
is_open (NumberToken value power) = false
is_open (Name name) = false
is_open (Joins s) = false
is_open Hat = false
is_open Close = false
is_open Glued = false
is_open Wrong = false

-- whether the next token is an open parenthesis
abbrev pub opens_next : List Token → Bool
opens_next [] = false
opens_next (t ∷ ts) = is_open t.kind

-- at the end of the text: its place is that after the last token
abbrev pub at_end : Option Tree → ℕ → Result Tree FormulaFault
at_end None end = Err (Syntax end)
at_end (Some f) end = Ok f

abbrev pub unless_refused : Option FormulaFault → Result Tree FormulaFault → Result Tree FormulaFault
unless_refused None rest = rest
unless_refused (Some fault) rest = Err fault

abbrev pub goes_on : Option (Stage Tree) → ℕ → Option FormulaFault → (Stage Tree → Result Tree FormulaFault) → Result Tree FormulaFault
goes_on None place refused next = Err (Syntax place)
goes_on (Some s) place refused next = unless_refused refused (next s)

abbrev pub node_count : {A : Type 0} → Stage A → Kind → ℕ
node_count s k = cond (is_node s k) 1 0

-- the reading of tokens at a stage, after so many nodes and after the place `end`
abbrev pub reading : Stage Tree → ℕ → ℕ → List Token → Result Tree FormulaFault
reading s nodes end [] = at_end (finish trees s) end
reading s nodes end (t ∷ ts) =
    goes_on (step trees s t.kind) (syntax_place s t.place t.len t.kind)
    (refusal s nodes t.place t.kind (opens_next ts))
    (λ next. reading next (nodes + node_count s t.kind) (t.place + t.len) ts)

-- the formula that the text spells, or its first refusal
unfoldable pub reading_of : List ℕ → Result Tree FormulaFault
reading_of text = reading first_stage 0 0 (tokens text 0 0)
