-- An edit leaves a sheet standing, whatever it answers.
use Rattle.std.proofs.Common.{◌≡◌, ℕ, List, Result, Ok, Err, sym, subst, OnOk}
use Rattle.sheet_rows.specs.declared.edit_fault.EditFault.{EditFault}
use Rattle.sheet_rows.specs.Rows.{Row, Sheet}
use Rattle.sheet_edits.specs.Verdicts.{Verdict, IsAccepted, added, set_row, removed, verdict_add, verdict_set, verdict_remove}
use Rattle.sheet_rows.specs.Regular.{IsRegular, AreRegular}
use Rattle.sheet_rows.specs.Sheets.{IsStanding}
use Rattle.sheet_edits.specs.Places.{IsVerdict, IsChecked}
use Rattle.sheet_rows.proofs.RegularRows.{regular_added}
use Rattle.sheet_edits.proofs.Regular.{regular_set, regular_removed}
use Rattle.sheet_edits.proofs.Adding.{add_accepted}
use Rattle.sheet_edits.proofs.Setting.{set_accepted}
use Rattle.sheet_edits.proofs.Removing.{remove_accepted}

-- ---- the sheet that an edit makes
accepted_stands : (edited sheet : Sheet) → IsAccepted edited sheet → AreRegular sheet.rows → IsStanding edited
accepted_stands edited sheet accepted regular =
    record { well_formed = accepted.well_formed; regular = subst (λ s. AreRegular s.rows) (sym accepted.is) regular }

pub add_stands : (sheet edited : Sheet) (row : Row) → IsStanding sheet → IsRegular row → verdict_add sheet row ≡ Ok edited → IsStanding edited
add_stands sheet edited row h g e =
    accepted_stands edited (added sheet row) (add_accepted sheet row h.well_formed edited e) (regular_added sheet.rows row h.regular g)

pub set_stands : (sheet edited : Sheet) (row : Row) → IsStanding sheet → IsRegular row → verdict_set sheet row ≡ Ok edited → IsStanding edited
set_stands sheet edited row h g e =
    accepted_stands edited (set_row row sheet) (set_accepted sheet row h.well_formed h.regular g edited e) (regular_set sheet.rows row h.regular g)

pub remove_stands : (sheet edited : Sheet) (n : List ℕ) → IsStanding sheet → verdict_remove sheet n ≡ Ok edited → IsStanding edited
remove_stands sheet edited n h e =
    accepted_stands edited (removed n sheet) (remove_accepted sheet n h.well_formed edited e) (regular_removed sheet.rows n h.regular)

-- where the verdict's sheet stands, so does the one that an answer leaves
pub verdict_stands : {A : Type 0} (r : Result A EditFault) (new : Sheet) (v : Verdict) → ((edited : Sheet) → v ≡ Ok edited → IsStanding edited)
    → IsVerdict r new v → OnOk r (IsStanding new)
verdict_stands (Ok x) new v says h = says new h
verdict_stands (Err fault) new v says h = tt

-- a check that refuses nothing lets the edit go on
pub checked_verdict : {A : Type 0} (r : Result A EditFault) (new : Sheet) (v : Verdict) → IsChecked r (Ok new) v → IsVerdict r new v
checked_verdict (Ok x) new v h = h
checked_verdict (Err fault) new v h = h
