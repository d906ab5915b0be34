-- Formulas, as trees of their parts: the measurement function of a quantity (JCGM 100:2008, 4.1.1).
use Rattle.std.specs.Prelude.{◌≢◌, ℕ, suc, ◌+◌, ℤ, pos, negsuc, ◌≤ℤ◌, not, List, [], ◌∷◌, ◌++◌, filter, bytes_eq}
use Rattle.decimal18.specs.Bound.{Bound}
use Rattle.formula_ast.specs.declared.token.Sign.{Sign}

pub data Tree : Type 0 where
  Number : Bound → Tree
  Variable : List ℕ → Tree
  Opposite : Tree → Tree
  Joined : Sign → Tree → Tree → Tree
  Raised : Tree → ℤ → Tree

-- the names in a formula, from the left, each as often as it stands there
abbrev pub uses : Tree → List (List ℕ)
uses (Number q) = []
uses (Variable n) = n ∷ []
uses (Opposite a) = uses a
uses (Joined s a b) = uses a ++ uses b
uses (Raised a k) = uses a

-- the first of each kind
abbrev pub distinct : List (List ℕ) → List (List ℕ)
distinct [] = []
distinct (n ∷ ns) = n ∷ filter (λ m. not (bytes_eq n m)) (distinct ns)

-- the names in a formula, each once, in the order of first use
abbrev pub names_of : Tree → List (List ℕ)
names_of f = distinct (uses f)

-- the size of a formula: each number, name and operation is a node
abbrev pub nodes : Tree → ℕ
nodes (Number q) = 1
nodes (Variable n) = 1
nodes (Opposite a) = suc (nodes a)
nodes (Joined s a b) = suc (nodes a + nodes b)
nodes (Raised a k) = suc (nodes a)

-- ---- whole powers
-- an exponent is from -9 to 9 and not 0
pub record IsExponent (k : ℤ) : Type 0 where
  pub least : negsuc 8 ≤ℤ k
  pub most : k ≤ℤ pos 9
  pub nonzero : k ≢ pos 0

-- so is each exponent in the formula
abbrev pub HasExponents : Tree → Type 0
HasExponents (Number q) = Unit {0}
HasExponents (Variable n) = Unit {0}
HasExponents (Opposite a) = HasExponents a
HasExponents (Joined s a b) = HasExponents a × HasExponents b
HasExponents (Raised a k) = HasExponents a × IsExponent k
