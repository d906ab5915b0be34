-- What is read is what spells a formula within the limits.
use Rattle.std.specs.Prelude.{◌≡◌, ◌↔◌, ℕ, suc, ◌+◌, ◌≤◌, List, None, Some, Ok, refl}
use Rattle.std.proofs.Common.{sym, ap, subst, ◌∙◌, arith}
use Rattle.formula_ast.specs.Trees.{Tree, nodes}
use Rattle.formula_ast.specs.Tokens.{tokens}
use Rattle.formula_ast.specs.Grammar.{Written, Digits, Word, Minused, Both, Powered, Group}
use Rattle.formula_ast.specs.Machine.{first_stage}
use Rattle.formula_ast.specs.Reading.{deepest, most_nodes, reading_of}
use Rattle.formula_ast.specs.Rules.{HasBounds, nesting, IsFormula}
use Rattle.formula_ast.proofs.Nesting.{Fits}
use Rattle.formula_ast.proofs.AgainNodes.{reading_again}
use Rattle.formula_ast.proofs.Again.{written_run, was_read}

fits_limits : (c : Written) (b : ℕ) → Fits b c → HasBounds c × (b + nesting c ≤ deepest)
fits_limits (Digits None power) b h = absurd h.0
fits_limits (Digits (Some q) power) b h = (tt, omega (arith, h.1))
fits_limits (Word name) b h = (tt, omega arith)
fits_limits (Minused a) b h =
    let inside = fits_limits a (suc b) h in
    (inside.0, omega (arith, inside.1))
fits_limits (Both s a c) b h =
    let left = fits_limits a b h.0 in
    let right = fits_limits c b h.1 in
    ((left.0, right.0), omega (arith, left.1, right.1))
fits_limits (Powered a minus value None) b h = absurd h.1
fits_limits (Powered a minus value (Some n)) b h = fits_limits a b h.0
fits_limits (Group a) b h =
    let inside = fits_limits a (suc b) h in
    (inside.0, omega (arith, inside.1))

limits_fit : (c : Written) (b : ℕ) → HasBounds c → b + nesting c ≤ deepest → Fits b c
limits_fit (Digits None power) b h n = absurd h
limits_fit (Digits (Some q) power) b h n = (tt, omega arith)
limits_fit (Word name) b h n = omega arith
limits_fit (Minused a) b h n = limits_fit a (suc b) h (omega arith)
limits_fit (Both s a c) b h n = (limits_fit a b h.0 (omega arith), limits_fit c b h.1 (omega arith))
limits_fit (Powered a minus value None) b h n = absurd h
limits_fit (Powered a minus value (Some m)) b h n = (limits_fit a b h n, tt)
limits_fit (Group a) b h n = limits_fit a (suc b) h (omega arith)

read_formula : (text : List ℕ) (f : Tree) → reading_of text ≡ Ok f → IsFormula text f
read_formula text f e =
    let read = was_read text f e in
    let limits = fits_limits read.spells.written 0 read.fits in
    record {
      spells = read.spells;
      limits = record {
        bounds = limits.0;
        nested = omega (arith, limits.1);
        few = subst (λ g. nodes g ≤ most_nodes) (sym read.spells.means) read.few;
      };
    }

formula_read : (text : List ℕ) (f : Tree) → IsFormula text f → reading_of text ≡ Ok f
unfolding reading_of
formula_read text f h =
    let c = h.spells.written in
    let fits : Fits 0 c = limits_fit c 0 h.limits.bounds (omega (arith, h.limits.nested)) in
    reading_again (tokens text 0 0) first_stage 0 0 c refl fits refl h.limits.few (written_run text f h.spells)
    ∙ ap Ok h.spells.means

pub read_within_limits : (text : List ℕ) (f : Tree) → (reading_of text ≡ Ok f) ↔ IsFormula text f
read_within_limits text f = (read_formula text f, formula_read text f)
