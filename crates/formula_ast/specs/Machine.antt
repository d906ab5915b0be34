-- The reading of tokens one by one, with a stack as deep as the open parentheses. What is read is
-- put together by `Parts`: as a formula, or as the formula as it is written.
use Rattle.std.specs.Prelude.{ℕ, zero, suc, ◌+◌, Bool, true, false, List, [], ◌∷◌, Option, None, Some}
use Rattle.decimal18.specs.Bound.{Bound}
use Rattle.formula_ast.specs.Trees.{Tree, Number as Literal, Variable, Opposite, Joined, Raised}
use Rattle.formula_ast.specs.Grammar.{Written, Digits, Word, Minused, Both, Powered, Group, number_of, exponent_of}
use Rattle.formula_ast.specs.declared.token.Sign.{Sign}
use Rattle.formula_ast.specs.declared.token.Sign.TheVariants.{Plus, Minus, Times, Over}
use Rattle.formula_ast.specs.declared.token.Kind.{Kind}
use Rattle.formula_ast.specs.declared.token.Kind.TheVariants.{Number, Name, Joins, Hat, Open, Close, Glued, Wrong}

pub record Parts (A : Type 0) : Type 0 where
  pub number : Option Bound → Option ℕ → A
  pub variable : List ℕ → A
  pub opposite : A → A
  pub joined : Sign → A → A → A
  pub raised : A → Bool → Option Bound → Option ℕ → A
  pub group : A → A

-- put together as the formula that is meant
abbrev pub trees : Parts Tree
trees = record {
  number = λ value power. Literal (number_of value);
  variable = Variable;
  opposite = Opposite;
  joined = Joined;
  raised = λ a minus value power. Raised a (exponent_of minus power);
  group = λ a. a;
}

-- put together as it is written
abbrev pub writings : Parts Written
writings = record {
  number = Digits;
  variable = Word;
  opposite = Minused;
  joined = Both;
  raised = Powered;
  group = Group;
}

-- what waits inside one pair of parentheses: the left operand of a sum and that of a product, each with
-- its sign, and the number of minuses before the factor; and the nesting outside
pub record Waiting (A : Type 0) : Type 0 where
  pub added : Option (A × Sign)
  pub multiplied : Option (A × Sign)
  pub minuses : ℕ
  pub base : ℕ

-- what may come next, with what waits here and outside: an operand; after an atom, `^` or what may follow
-- a power; after a factor, what may follow it; an exponent, after its minus or not
pub data Stage (A : Type 0) : Type 0 where
  AtOperand : Waiting A → List (Waiting A) → Stage A
  AtAtom : Waiting A → A → List (Waiting A) → Stage A
  AtEnd : ℕ → Option (A × Sign) → A → List (Waiting A) → Stage A
  AtExponent : Waiting A → A → Bool → List (Waiting A) → Stage A

abbrev pub put : {A : Type 0} → Parts A → Option (A × Sign) → A → A
put m None x = x
put m (Some p) x = m.joined p.1 p.0 x

abbrev pub negated : {A : Type 0} → Parts A → ℕ → A → A
negated m zero x = x
negated m (suc n) x = negated m n (m.opposite x)

-- a factor has ended
abbrev pub factor_done : {A : Type 0} → Parts A → Waiting A → A → A
factor_done m l x = put m l.multiplied (negated m l.minuses x)

-- nothing waits inside these parentheses yet
abbrev pub fresh : {A : Type 0} → ℕ → Waiting A
fresh b = record { added = None; multiplied = None; minuses = 0; base = b }

abbrev pub first_stage : {A : Type 0} → Stage A
first_stage = AtOperand (fresh 0) []

-- after `+` or `-`, and after `*` or `/`
abbrev pub adding : {A : Type 0} → ℕ → A → Sign → List (Waiting A) → Stage A
adding b x s o = AtOperand (record { added = Some (x, s); multiplied = None; minuses = 0; base = b }) o

abbrev pub multiplying : {A : Type 0} → ℕ → Option (A × Sign) → A → Sign → List (Waiting A) → Stage A
multiplying b left x s o = AtOperand (record { added = left; multiplied = Some (x, s); minuses = 0; base = b }) o

abbrev pub closed : {A : Type 0} → A → List (Waiting A) → Option (Stage A)
closed x [] = None
closed x (l ∷ o) = Some (AtAtom l x o)

abbrev pub signed_on : {A : Type 0} → Parts A → ℕ → Option (A × Sign) → A → List (Waiting A) → Sign → Stage A
signed_on m b left x o Plus = adding b (put m left x) Plus o
signed_on m b left x o Minus = adding b (put m left x) Minus o
signed_on m b left x o Times = multiplying b left x Times o
signed_on m b left x o Over = multiplying b left x Over o

-- after a factor; None where nothing of the grammar goes on so
abbrev pub after : {A : Type 0} → Parts A → ℕ → Option (A × Sign) → A → List (Waiting A) → Kind → Option (Stage A)
after m b left x o (Joins s) = Some (signed_on m b left x o s)
after m b left x o Close = closed (m.group (put m left x)) o
after m b left x o (Number value power) = None
after m b left x o (Name name) = None
after m b left x o Hat = None
after m b left x o Open = None
after m b left x o Glued = None
after m b left x o Wrong = None

abbrev pub minused : {A : Type 0} → Waiting A → Waiting A
minused l = record { added = l.added; multiplied = l.multiplied; minuses = suc l.minuses; base = l.base }

-- one more minus before it, and nothing of the grammar for another sign
abbrev pub prefixed : {A : Type 0} → Waiting A → List (Waiting A) → Sign → Option (Stage A)
prefixed l o Minus = Some (AtOperand (minused l) o)
prefixed l o Plus = None
prefixed l o Times = None
prefixed l o Over = None

abbrev pub exponent_minus : {A : Type 0} → Waiting A → A → Bool → List (Waiting A) → Sign → Option (Stage A)
exponent_minus l x false o Minus = Some (AtExponent l x true o)
exponent_minus l x true o Minus = None
exponent_minus l x minus o Plus = None
exponent_minus l x minus o Times = None
exponent_minus l x minus o Over = None

-- the stage after the token; None where no text of the grammar goes on with it
abbrev pub step : {A : Type 0} → Parts A → Stage A → Kind → Option (Stage A)
step m (AtOperand l o) (Number value power) = Some (AtAtom l (m.number value power) o)
step m (AtOperand l o) (Name name) = Some (AtAtom l (m.variable name) o)
step m (AtOperand l o) (Joins s) = prefixed l o s
step m (AtOperand l o) Open = Some (AtOperand (fresh (suc (l.base + l.minuses))) (l ∷ o))
step m (AtOperand l o) Hat = None
step m (AtOperand l o) Close = None
step m (AtOperand l o) Glued = None
step m (AtOperand l o) Wrong = None
step m (AtAtom l x o) Hat = Some (AtExponent l x false o)
step m (AtAtom l x o) (Number value power) = None
step m (AtAtom l x o) (Name name) = None
step m (AtAtom l x o) (Joins s) = after m l.base l.added (factor_done m l x) o (Joins s)
step m (AtAtom l x o) Open = None
step m (AtAtom l x o) Close = after m l.base l.added (factor_done m l x) o Close
step m (AtAtom l x o) Glued = None
step m (AtAtom l x o) Wrong = None
step m (AtEnd b left x o) k = after m b left x o k
step m (AtExponent l x minus o) (Number value power) =
    Some (AtEnd l.base l.added (factor_done m l (m.raised x minus value power)) o)
step m (AtExponent l x minus o) (Joins s) = exponent_minus l x minus o s
step m (AtExponent l x minus o) (Name name) = None
step m (AtExponent l x minus o) Hat = None
step m (AtExponent l x minus o) Open = None
step m (AtExponent l x minus o) Close = None
step m (AtExponent l x minus o) Glued = None
step m (AtExponent l x minus o) Wrong = None

-- what was read, where the text may end here
abbrev pub finish : {A : Type 0} → Parts A → Stage A → Option A
finish m (AtOperand l o) = None
finish m (AtAtom l x []) = Some (put m l.added (factor_done m l x))
finish m (AtAtom l x (w ∷ o)) = None
finish m (AtEnd b left x []) = Some (put m left x)
finish m (AtEnd b left x (w ∷ o)) = None
finish m (AtExponent l x minus o) = None

abbrev pub then_some : {A B : Type 0} → Option A → (A → Option B) → Option B
then_some None next = None
then_some (Some x) next = next x

-- the stage after tokens, and what they give where the text ends after them
abbrev pub stages : {A : Type 0} → Parts A → Stage A → List Kind → Option (Stage A)
stages m s [] = Some s
stages m s (k ∷ ks) = then_some (step m s k) (λ t. stages m t ks)

abbrev pub run : {A : Type 0} → Parts A → Stage A → List Kind → Option A
run m s [] = finish m s
run m s (k ∷ ks) = then_some (step m s k) (λ t. run m t ks)
