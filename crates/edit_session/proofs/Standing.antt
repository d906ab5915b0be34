-- After each command whose rows are regular the sheets of a session still stand.
use Rattle.std.specs.Prelude.{◌≡◌, ℕ, zero, suc, ◌-◌, Bool, true, false, List, [], ◌∷◌, ◌++◌, length, take, drop, slice_get, Option, Some, None, Ok, Err, bytes_eq, refl}
use Rattle.std.proofs.Common.{ap, subst, arith}
use Rattle.std.proofs.lemmas.Option.{none-some, same_Some}
use Rattle.sheet_rows.specs.Rows.{Sheet}
use Rattle.sheet_edits.specs.Verdicts.{Verdict}
use Rattle.sheet_rows.specs.Sheets.{IsStanding}
use Rattle.sheet_edits.proofs.Keeping.{add_stands, set_stands, remove_stands}
use Rattle.answers.specs.Commands.{Edit, Add, Set, Remove, Command, IsRegularEdit, IsRegularCommand, Change, Undo, Redo, Mark, Restore, Ask, AskAt}
use Rattle.answers.specs.declared.reply.Reply.{Reply}
use Rattle.edit_session.specs.Machine.{Marks, State, initial, past_limit, past_with, last_of, accepted, verdict, edited, undone, redone, kept_as, with_mark, marked, restored, step}
use Rattle.edit_session.specs.Standing.{AllStand, AllMarksStand, IsStandingState}

-- ---- lists of sheets
are-append : (xs ys : List Sheet) → AllStand xs → AllStand ys → AllStand (xs ++ ys)
are-append [] ys h k = k
are-append (x ∷ xs) ys h k = (h.0, are-append xs ys h.1 k)

are-drop : (n : ℕ) (xs : List Sheet) → AllStand xs → AllStand (drop n xs)
are-drop zero xs h = h
are-drop (suc n) [] h = h
are-drop (suc n) (x ∷ xs) h = are-drop n xs h.1

are-take : (n : ℕ) (xs : List Sheet) → AllStand xs → AllStand (take n xs)
are-take zero xs h = tt
are-take (suc n) [] h = h
are-take (suc n) (x ∷ xs) h = (h.0, are-take n xs h.1)

are-at : (xs : List Sheet) (i : ℕ) (sheet : Sheet) → slice_get xs i ≡ Some sheet → AllStand xs → IsStanding sheet
are-at [] i sheet e h = absurd (none-some sheet e)
are-at (x ∷ xs) zero sheet e h = subst IsStanding (same_Some x sheet e) h.0
are-at (x ∷ xs) (suc i) sheet e h = are-at xs i sheet e h.1

past_with-standing : (past : List Sheet) (sheet : Sheet) → AllStand past → IsStanding sheet → AllStand (past_with past sheet)
past_with-standing past sheet h k =
    are-drop (length (past ++ sheet ∷ []) - past_limit) (past ++ sheet ∷ []) (are-append past (sheet ∷ []) h (k, tt))

-- ---- marks
pub kept-standing : (marks : Marks) (name : List ℕ) (sheet : Sheet) → kept_as marks name ≡ Some sheet
    → AllMarksStand marks → IsStanding sheet
kept-standing [] name sheet e h = absurd (none-some sheet e)
kept-standing (mark ∷ marks) name sheet e h = by (bytes_eq name mark.0) refl (λ k. kept-standing marks name sheet k h.1) where
  by : (same : Bool) → bytes_eq name mark.0 ≡ same → (kept_as marks name ≡ Some sheet → IsStanding sheet) → IsStanding sheet
  by true q rest = subst IsStanding (same_Some mark.1 sheet (rw (q) at e)) h.0
  by false q rest = rest (rw (q) at e)

with_mark-standing : (marks : Marks) (name : List ℕ) (sheet : Sheet) → AllMarksStand marks → IsStanding sheet
    → AllMarksStand (with_mark marks name sheet)
with_mark-standing [] name sheet h k = (k, tt)
with_mark-standing (mark ∷ marks) name sheet h k = by (bytes_eq name mark.0) refl (with_mark-standing marks name sheet h.1 k) where
  by : (same : Bool) → bytes_eq name mark.0 ≡ same → AllMarksStand (with_mark marks name sheet)
      → AllMarksStand (with_mark (mark ∷ marks) name sheet)
  by true q rest = rw (q) (k, h.1)
  by false q rest = rw (q) (h.0, rest)

-- ---- steps
accepted-standing : (state : State) (sheet : Sheet) → IsStandingState state → IsStanding sheet → IsStandingState (accepted state sheet)
accepted-standing state sheet h k =
    record { present = k; past = past_with-standing state.past state.present h.past h.present; future = tt; marks = h.marks }

undone-standing : (state : State) (last : Option Sheet) → last_of state.past ≡ last → IsStandingState state → IsStandingState (undone state last).0
undone-standing state None e h = h
undone-standing state (Some sheet) e h = record {
  present = are-at state.past (length state.past - 1) sheet e h.past;
  past = are-take (length state.past - 1) state.past h.past;
  future = (h.present, h.future);
  marks = h.marks;
}

redone-standing : (state : State) (future : List Sheet) → AllStand future → IsStandingState state → IsStandingState (redone state future).0
redone-standing state [] k h = h
redone-standing state (sheet ∷ future) k h =
    record { present = k.0; past = past_with-standing state.past state.present h.past h.present; future = k.1; marks = h.marks }

marked-standing : (state : State) (name : List ℕ) (may : Bool) → IsStandingState state → IsStandingState (marked state name may).0
marked-standing state name false h = h
marked-standing state name true h = record {
  present = h.present;
  past = h.past;
  future = h.future;
  marks = with_mark-standing state.marks name state.present h.marks h.present;
}

restored-standing : (state : State) (name : List ℕ) (kept : Option Sheet) → kept_as state.marks name ≡ kept → IsStandingState state
    → IsStandingState (restored state name kept).0
restored-standing state name None e h = h
restored-standing state name (Some sheet) e h = accepted-standing state sheet h (kept-standing state.marks name sheet e h.marks)

edit_stands : (sheet next : Sheet) (edit : Edit) → IsStanding sheet → IsRegularEdit edit → verdict sheet edit ≡ Ok next → IsStanding next
edit_stands sheet next (Add row) h regular e = add_stands sheet next row h regular e
edit_stands sheet next (Set row) h regular e = set_stands sheet next row h regular e
edit_stands sheet next (Remove name) h regular e = remove_stands sheet next name h e

edited-standing : (state : State) (edit : Edit) (v : Verdict) → verdict state.present edit ≡ v → IsRegularCommand (Change edit) → IsStandingState state
    → IsStandingState (edited state v).0
edited-standing state edit (Ok sheet) e regular h = accepted-standing state sheet h (edit_stands state.present sheet edit h.present regular e)
edited-standing state edit (Err fault) e regular h = h

pub step_stands : (state : State) (command : Command) → IsStandingState state → IsRegularCommand command → IsStandingState (step state command).0
step_stands state (Change edit) h regular = edited-standing state edit _ refl regular h
step_stands state Undo h regular = undone-standing state _ refl h
step_stands state Redo h regular = redone-standing state state.future h.future h
step_stands state (Mark name) h regular = marked-standing state name _ h
step_stands state (Restore name) h regular = restored-standing state name _ refl h
step_stands state (Ask query) h regular = h
step_stands state (AskAt name query) h regular = h

-- the state after a step of the machine stands
pub stepped-standing : (old new : State) (command : Command) (reply : Reply) → IsStandingState old → IsRegularCommand command
    → step old command ≡ (new, reply) → IsStandingState new
stepped-standing old new command reply h regular e = subst IsStandingState (ap (λ s. s.0) e) (step_stands old command h regular)

pub initial_stands : IsStandingState initial
initial_stands = record {
  present = record { well_formed = record { limit = omega arith; once = refl; known = refl; earlier = refl; correlatable = refl; apart = refl }; regular = tt };
  past = tt;
  future = tt;
  marks = tt;
}
