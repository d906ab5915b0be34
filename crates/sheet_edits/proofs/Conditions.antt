-- Verdicts, and tests before them.
use Rattle.std.proofs.Common.{◌≡◌, ℕ, Bool, true, false, cond, List, Option, None, Some, Ok, Err, refl, sym, ap, true≢false}
use Rattle.sheet_rows.specs.Rows.{Sheet}
use Rattle.sheet_rows.specs.declared.edit_fault.EditFault.{EditFault}
use Rattle.sheet_edits.specs.Verdicts.{Verdict, unless}

abbrev tells_ok : Verdict → Bool
tells_ok (Ok e) = true
tells_ok (Err f) = false

abbrev value_or : Sheet → Verdict → Sheet
value_or d (Ok e) = e
value_or d (Err f) = d

pub err_ok : {f : EditFault} {e : Sheet} → ◌≡◌ {A = Verdict} (Err f) (Ok e) → ⊥
err_ok h = true≢false (sym (ap tells_ok h))

pub ok_same : {d e : Sheet} → ◌≡◌ {A = Verdict} (Ok d) (Ok e) → d ≡ e
ok_same {d} {e} h = ap (value_or d) h

pub unless_ok : (found : Option (List ℕ)) (refusal : List ℕ → EditFault) (v : Verdict) (e : Sheet) → unless found refusal v ≡ Ok e → (found ≡ None) × (v ≡ Ok e)
unless_ok None refusal v e h = (refl, h)
unless_ok (Some n) refusal v e h = absurd (err_ok h)

pub cond_ok : (t : Bool) (f : EditFault) (v : Verdict) (e : Sheet) → cond t (Err f) v ≡ Ok e → (t ≡ false) × (v ≡ Ok e)
cond_ok true f v e h = absurd (err_ok h)
cond_ok false f v e h = (refl, h)

pub cond_err : (t : Bool) (f : EditFault) (v : Verdict) (e : Sheet) → cond t v (Err f) ≡ Ok e → (t ≡ true) × (v ≡ Ok e)
cond_err true f v e h = (refl, h)
cond_err false f v e h = absurd (err_ok h)
