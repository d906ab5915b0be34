-- The printed text of a formula: one blank on each side of a binary operator, none at a prefix minus and
-- `^`, and parentheses only where the formula would be read otherwise.
use Rattle.std.specs.Prelude.{ℕ, suc, ℤ, unsigned_abs, List, ◌++◌, nat_lt, if◌then◌else◌, codes, decimal}
use Rattle.decimal18.specs.Text.{text_of, sign_of}
use Rattle.formula_ast.specs.Trees.{Tree, Number, Variable, Opposite, Joined, Raised}
use Rattle.formula_ast.specs.Grammar.{tight}
use Rattle.formula_ast.specs.declared.token.Sign.{Sign}
use Rattle.formula_ast.specs.declared.token.Sign.TheVariants.{Plus, Minus, Times, Over}

-- how tightly the formula binds as it is printed: 0 a sum, 1 a product, 2 a sign, 3 a power, 4 an atom
abbrev pub binding : Tree → ℕ
binding (Number q) = 4
binding (Variable n) = 4
binding (Opposite a) = 2
binding (Joined s a b) = tight s
binding (Raised a k) = 3

abbrev pub symbol : Sign → List ℕ
symbol Plus = codes " + "
symbol Minus = codes " - "
symbol Times = codes " * "
symbol Over = codes " / "

-- in parentheses where it binds less tightly than its place asks for
abbrev pub guarded : ℕ → Tree → List ℕ → List ℕ
guarded least f text = if nat_lt (binding f) least then codes "(" ++ text ++ codes ")" else text

abbrev pub exponent_text : ℤ → List ℕ
exponent_text k = sign_of k ++ decimal (unsigned_abs k)

abbrev pub print : Tree → List ℕ
print (Number q) = text_of q
print (Variable n) = n
print (Opposite a) = codes "-" ++ guarded 2 a (print a)
print (Joined s a b) = guarded (tight s) a (print a) ++ symbol s ++ guarded (suc (tight s)) b (print b)
print (Raised a k) = guarded 4 a (print a) ++ codes "^" ++ exponent_text k
