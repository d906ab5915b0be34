-- The loop that reads numbers, word by word.
use Rattle.std.proofs.Common.{append_assoc, ◌≡◌, List, [], ◌∷◌, ◌++◌, refl, sym, ◌∙◌, ap, Ok, Err}
use mathlib.Core.List.{append-nil}
use Rattle.decimal18.specs.Bound.{Bound}
use Rattle.decimal18.specs.Literal.{parsed}
use Rattle.line_text.specs.Words.{Word}
use Rattle.sheet_rows.specs.declared.fault.RowFault.{RowFault}
use Rattle.row_text.specs.Parts.{Read, then_read, number_of}
use Rattle.row_text.specs.Readings.{numbers_of}

-- the numbers so far, and those of the words that are left
abbrev pub AreRead : Read (List Bound) → List Bound → List Word → Type 0
AreRead all read left = all ≡ then_read (numbers_of left) (λ more. Ok (read ++ more))

none_before : (r : Read (List Bound)) → r ≡ then_read r (λ more. Ok more)
none_before (Ok numbers) = refl
none_before (Err fault) = refl

pub none_read : (ws : List Word) → AreRead (numbers_of ws) [] ws
none_read ws = none_before (numbers_of ws)

after_one : (read : List Bound) (b : Bound) (r : Read (List Bound)) →
    then_read (then_read r (λ numbers. Ok (b ∷ numbers))) (λ more. Ok (read ++ more)) ≡ then_read r (λ more. Ok ((read ++ b ∷ []) ++ more))
after_one read b (Ok numbers) = ap Ok (sym (append_assoc read (b ∷ []) numbers))
after_one read b (Err fault) = refl

pub one_read : (all : Read (List Bound)) (read : List Bound) (left ws : List Word) (w : Word) (b : Bound) → AreRead all read left → left ≡ w ∷ ws →
    number_of w (parsed w.text) ≡ Ok b → AreRead all (read ++ b ∷ []) ws
one_read all read left ws w b h e f =
    h ∙ ap (λ words. then_read (numbers_of words) (λ more. Ok (read ++ more))) e
    ∙ ap (λ r. then_read (then_read r (λ number. then_read (numbers_of ws) (λ numbers. Ok (number ∷ numbers)))) (λ more. Ok (read ++ more))) f
    ∙ after_one read b (numbers_of ws)

pub one_refused : (all : Read (List Bound)) (read : List Bound) (left ws : List Word) (w : Word) (fault : RowFault) → AreRead all read left → left ≡ w ∷ ws →
    number_of w (parsed w.text) ≡ Err fault → all ≡ Err fault
one_refused all read left ws w fault h e f =
    h ∙ ap (λ words. then_read (numbers_of words) (λ more. Ok (read ++ more))) e
    ∙ ap (λ r. then_read (then_read r (λ number. then_read (numbers_of ws) (λ numbers. Ok (number ∷ numbers)))) (λ more. Ok (read ++ more))) f

pub all_read : (all : Read (List Bound)) (read : List Bound) (left : List Word) → AreRead all read left → left ≡ [] → all ≡ Ok read
all_read all read left h e =
    h ∙ ap (λ words. then_read (numbers_of words) (λ more. Ok (read ++ more))) e ∙ ap Ok (append-nil read)
