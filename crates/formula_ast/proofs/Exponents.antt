-- What holds of a formula that was read.
use Rattle.std.specs.Prelude.{◌≡◌, ℕ, zero, suc, ℤ, pos, negsuc, unsigned_abs, List, Result, Ok, Err, IfOk}
use Rattle.std.proofs.Common.{arith}
use Rattle.std.proofs.lemmas.Int.{ints}
use Rattle.formula_ast.specs.Trees.{Tree, Number, Variable, Opposite, Joined, Raised, IsExponent, HasExponents}
use Rattle.formula_ast.specs.Grammar.{SpellsText}
use Rattle.formula_ast.specs.Reading.{reading_of}
use Rattle.formula_ast.specs.Views.{tree_of}
use Rattle.line_text.specs.Memory.{GivesBy}
use Rattle.formula_ast.specs.declared.formula.Formula.{Formula}
use Rattle.formula_ast.specs.declared.fault.FormulaFault.{FormulaFault}
use Rattle.formula_ast.specs.declared.fault.FormulaFault.TheVariants.{OutOfMemory}
use Rattle.formula_ast.proofs.PrintedTokens.{IsRegular, IsDigit}
use Rattle.formula_ast.proofs.Sound.{read_spelt}
use Rattle.formula_ast.proofs.Again.{read_regular}

digit_exponent : (k : ℤ) → IsDigit (unsigned_abs k) → IsExponent k
digit_exponent (pos zero) h = absurd (omega (arith, h.0))
digit_exponent (pos (suc n)) h = record { least = omega (arith, ints); most = omega (arith, ints, h.1); nonzero = λ e. cc }
digit_exponent (negsuc n) h = record { least = omega (arith, ints, h.1); most = omega (arith, ints); nonzero = λ e. cc }

regular_exponents : (f : Tree) → IsRegular f → HasExponents f
regular_exponents (Number q) h = tt
regular_exponents (Variable n) h = tt
regular_exponents (Opposite a) h = regular_exponents a h
regular_exponents (Joined s a b) h = (regular_exponents a h.0, regular_exponents b h.1)
regular_exponents (Raised a k) h = (regular_exponents a h.0, digit_exponent k h.1)

pub read_exponents : (text : List ℕ) (f : Tree) → reading_of text ≡ Ok f → HasExponents f
read_exponents text f h = regular_exponents f (read_regular text f h)

pub given_spelt : (text : List ℕ) (r : Result Formula FormulaFault) → GivesBy tree_of OutOfMemory r (reading_of text) → IfOk r (λ f. SpellsText text (tree_of f))
given_spelt text (Ok f) h = read_spelt text (tree_of f) h
given_spelt text (Err fault) h = tt

pub given_exponents : (text : List ℕ) (r : Result Formula FormulaFault) → GivesBy tree_of OutOfMemory r (reading_of text) → IfOk r (λ f. HasExponents (tree_of f))
given_exponents text (Ok f) h = read_exponents text (tree_of f) h
given_exponents text (Err fault) h = tt
