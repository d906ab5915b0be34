-- What each call makes of the code's lists is the machine's step.
use Rattle.std.specs.Prelude.{◌≡◌, ℕ, ◌-◌, true, List, [], ◌∷◌, ◌++◌, reverse, length, take, Some, Ok, bytes_eq}
use Rattle.std.specs.Map.{lookup}
use Rattle.std.proofs.Common.{sym, ◌∙◌, ap, ap₂}
use Rattle.circular_buffer.specs.Buffer.{Buffer, buffer, keep_last, last_item}
use Rattle.indexmap.specs.IndexMap.{insert_entry}
use Rattle.sheet_rows.specs.Rows.{Sheet}
use Rattle.answers.specs.Commands.{Edit, Change, Undo, Redo, Mark, Restore}
use Rattle.answers.specs.declared.reply.Reply.TheVariants.{Fine}
use Rattle.edit_session.specs.Machine.{Marks, Step, past_limit, past_with, verdict, edited, undone, redone, may_mark, marked, restored, step}
use Rattle.edit_session.specs.States.{state_from}
use Rattle.edit_session.proofs.Lists.{future-with, with-mark}

abbrev made : Sheet → List Sheet → List Sheet → Marks → Step
made present past future marks = (record { present = present; past = past; future = future; marks = marks }, Fine)

-- the past that the ring holds after a push
abbrev pub Pushed : Buffer Sheet → List Sheet → Sheet → Type 0
Pushed ring past sheet = ring ≡ buffer (keep_last past_limit (past ++ sheet ∷ [])) past_limit

past_is : (ring : Buffer Sheet) (past : List Sheet) (sheet : Sheet) → Pushed ring past sheet → past_with past sheet ≡ ring.items
past_is ring past sheet e = sym (ap (λ r. r.items) e)

pub edit_step : (present changed : Sheet) (past future gone : List Sheet) (marks : Marks) (ring : Buffer Sheet) (edit : Edit)
    → verdict present edit ≡ Ok changed → Pushed ring past present → gone ≡ []
    → step (state_from present past future marks) (Change edit) ≡ (state_from changed ring.items gone marks, Fine)
edit_step present changed past future gone marks ring edit v e empty =
    ap (edited (state_from present past future marks)) v
    ∙ ap₂ (λ p f. made changed p f marks) (past_is ring past present e) (sym (ap reverse empty))

pub undo_step : (present sheet : Sheet) (past future new : List Sheet) (marks : Marks) (ring : Buffer Sheet)
    → last_item past ≡ Some sheet → ring.items ≡ take (length past - 1) past → new ≡ future ++ present ∷ []
    → step (state_from present past future marks) Undo ≡ (state_from sheet ring.items new marks, Fine)
undo_step present sheet past future new marks ring last e f =
    ap (undone (state_from present past future marks)) last
    ∙ ap₂ (λ p f. made sheet p f marks) (sym e) (sym (ap reverse f ∙ future-with future present))

pub redo_step : (present sheet : Sheet) (past future rest : List Sheet) (marks : Marks) (ring : Buffer Sheet)
    → future ≡ rest ++ sheet ∷ [] → Pushed ring past present
    → step (state_from present past future marks) Redo ≡ (state_from sheet ring.items rest marks, Fine)
redo_step present sheet past future rest marks ring f e =
    ap (redone (state_from present past future marks)) (ap reverse f ∙ future-with rest sheet)
    ∙ ap (λ p. made sheet p (reverse rest) marks) (past_is ring past present e)

pub mark_step : (present : Sheet) (past future : List Sheet) (marks new : Marks) (name : List ℕ)
    → may_mark marks name ≡ true → new ≡ insert_entry bytes_eq marks name present
    → step (state_from present past future marks) (Mark name) ≡ (state_from present past future new, Fine)
mark_step present past future marks new name may e =
    ap (marked (state_from present past future marks) name) may
    ∙ ap (made present past (reverse future)) (with-mark marks name present ∙ sym e)

pub restore_step : (present sheet : Sheet) (past future gone : List Sheet) (marks : Marks) (ring : Buffer Sheet) (name : List ℕ)
    → lookup (bytes_eq name) marks ≡ Some sheet → Pushed ring past present → gone ≡ []
    → step (state_from present past future marks) (Restore name) ≡ (state_from sheet ring.items gone marks, Fine)
restore_step present sheet past future gone marks ring name kept e empty =
    ap (restored (state_from present past future marks) name) kept
    ∙ ap₂ (λ p f. made sheet p f marks) (past_is ring past present e) (sym (ap reverse empty))
