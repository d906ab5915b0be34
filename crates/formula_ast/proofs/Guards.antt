-- A text in parentheses, or not, and what holds either way.
use Rattle.std.proofs.Common.{◌≡◌, ℕ, Bool, true, false, cond, nat_lt, List, [], ◌++◌, codes, refl, sym}
use Rattle.std.proofs.lemmas.List.{append-nil}
use Rattle.formula_ast.specs.Trees.{Tree}
use Rattle.formula_ast.specs.Printing.{binding, guarded}

pub cond_holds : {A : Type 0} (P : A → Type 0) (t : Bool) (x y : A) → P x → P y → P (cond t x y)
cond_holds P true x y h k = h
cond_holds P false x y h k = k

text_parts : (t : Bool) (text : List ℕ) →
    cond t (codes "(" ++ text ++ codes ")") text ≡ cond t (codes "(") [] ++ (text ++ cond t (codes ")") [])
text_parts true text = refl
text_parts false text = sym (append-nil text)

pub guarded_parts : (least : ℕ) (f : Tree) (text : List ℕ) → guarded least f text
    ≡ cond (nat_lt (binding f) least) (codes "(") [] ++ (text ++ cond (nat_lt (binding f) least) (codes ")") [])
guarded_parts least f text = text_parts (nat_lt (binding f) least) text
