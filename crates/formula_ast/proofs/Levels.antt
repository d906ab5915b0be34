-- The code's list of open levels, and minuses taken one by one.
use Rattle.std.proofs.Common.{◌≡◌, ℕ, zero, suc, ◌-◌, ◌<◌, List, [], ◌∷◌, ◌++◌, refl, ap, arith, None, length, length-append}
use Rattle.formula_ast.specs.Trees.{Tree}
use Rattle.formula_ast.specs.Machine.{Waiting, trees, negated, finish}
use Rattle.formula_ast.specs.States.{waiting_of, outside, stage_on, stage_of}
use Rattle.formula_ast.specs.declared.machine.Level.{Level}
use Rattle.formula_ast.specs.declared.machine.State.{State}
use Rattle.formula_ast.specs.declared.machine.State.TheVariants.{Operand, Atom, End, Exponent}

-- one more level is the innermost
pub outside_more : (ls : List Level) (l : Level) → outside (ls ++ l ∷ []) ≡ waiting_of l ∷ outside ls
outside_more [] l = refl
outside_more (k ∷ ks) l = ap (λ o. o ++ waiting_of k ∷ []) (outside_more ks l)

-- one minus fewer
pub negated_less : (n : ℕ) (x : Tree) → 0 < n → negated trees n x ≡ negated trees (n - 1) (trees.opposite x)
negated_less zero x h = absurd (omega arith)
negated_less (suc n) x h = let e : n ≡ suc n - 1 = omega arith in ap (λ m. negated trees m (trees.opposite x)) e

-- the text does not end where a parenthesis is open
unfinished : (s : State) (w : Waiting Tree) (o : List (Waiting Tree)) → finish trees (stage_on s (w ∷ o)) ≡ None
unfinished (Operand l) w o = refl
unfinished (Atom l x) w o = refl
unfinished (End b left x) w o = refl
unfinished (Exponent l x minus) w o = refl

unfinished_levels : (s : State) (o : List (Waiting Tree)) → 0 < length o → finish trees (stage_on s o) ≡ None
unfinished_levels s [] h = absurd (omega arith)
unfinished_levels s (w ∷ o) h = unfinished s w o

outside_some : (ls : List Level) → 0 < length ls → 0 < length (outside ls)
outside_some [] h = absurd (omega arith)
outside_some (l ∷ ls) h = omega (arith, length-append (outside ls) (waiting_of l ∷ []))

pub never_finished : (s : State) (ls : List Level) → 0 < length ls → finish trees (stage_of s ls) ≡ None
never_finished s ls h = unfinished_levels s (outside ls) (outside_some ls h)
