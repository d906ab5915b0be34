-- The records that a text has one after the other, up to one after which there is none, are all its records.
use Rattle.std.proofs.Common.{◌≡◌, ◌<◌, ◌≤◌, ◌+◌, ◌⊎◌, inl, inr, ℕ, zero, suc, Bool, true, false, if◌then◌else◌, List, [], ◌∷◌, length, Option, Some, None, refl, sym, ap, ◌∙◌, arith}
use Rattle.std.proofs.lemmas.Option.{same_Some}
use Rattle.csv.specs.declared.parser.Config.{Config}
use Rattle.csv.specs.declared.parser.State.{State}
use Rattle.csv.specs.declared.parser.State.TheVariants as st
use Rattle.csv.specs.Machine.{Read, step, is_end, fields_after, field_after, ends_at_end, next_record}
use Rattle.csv.specs.Reading.{AreRecords, Reached, records, records_from}

-- a record leaves fewer bytes, or is the last one
abbrev Leaves : List ℕ → Read → Type 0
Leaves xs r = (length r.2 < length xs) ⊎ ((r.1 ≡ st.StartRecord) × (r.2 ≡ []))

at_end : (b : Bool) (x r : Read) (xs : List ℕ) → x.1 ≡ st.StartRecord → x.2 ≡ [] → (if b then Some x else None) ≡ Some r → Leaves xs r
at_end true x r xs s none e = inr (rw (← same_Some x r e) s, rw (← same_Some x r e) none)
at_end false x r xs s none e = absurd (cc e)

at_byte : (b : Bool) (x r : Read) (other : Option Read) (c : ℕ) (rest : List ℕ) → x.2 ≡ rest → (if b then Some x else other) ≡ Some r →
    (other ≡ Some r → Leaves rest r) → Leaves (c ∷ rest) r
at_byte true x r other c rest left e later =
    let same : r.2 ≡ rest = ap (λ (q : Read). q.2) (sym (same_Some x r e)) ∙ left in
    inl (rw same (omega arith))
at_byte false x r other c rest left e later =
    elim (later e) [ inl fewer ↦ inl (omega (arith, fewer)) | inr last ↦ inr last ]

leaves : (cfg : Config) (s : State) (fields : List (List ℕ)) (field xs : List ℕ) (r : Read) → next_record cfg s fields field xs ≡ Some r → Leaves xs r
unfolding next_record
leaves cfg s fields field [] r e = at_end (ends_at_end s) _ r [] refl refl e
leaves cfg s fields field (c ∷ rest) r e =
    at_byte (is_end (step cfg s c).1) _ r _ c rest refl e
    (λ later. leaves cfg (step cfg s c).0 (fields_after (step cfg s c).1 fields field) (field_after (step cfg s c).1 c field) rest r later)

nothing_more : (cfg : Config) (s s' : State) (ys zs : List ℕ) (rows : List (List (List ℕ))) → s ≡ st.StartRecord → ys ≡ [] → Reached cfg s ys rows s' zs → rows ≡ []
unfolding Reached next_record
nothing_more cfg s s' ys zs [] start none h = refl
nothing_more cfg s s' ys zs (r ∷ rs) start none h = absurd (cc (rw (start, none) at h.1))

few : (cfg : Config) (s s' : State) (xs ys : List ℕ) (rows : List (List (List ℕ))) → Reached cfg s xs rows s' ys → length rows ≤ length xs + 1
unfolding Reached
few cfg s s' xs ys [] h = omega arith
few cfg s s' xs ys (r ∷ rs) h =
    elim (leaves cfg s [] [] xs h.0 h.1) [
      | inl fewer ↦ omega (arith, fewer, few cfg h.0.1 s' h.0.2 ys rs h.3)
      | inr last ↦ omega (arith, ap length (nothing_more cfg h.0.1 s' h.0.2 ys rs last.0 last.1 h.3))
    ]

in_turns : (cfg : Config) (s s' : State) (xs ys : List ℕ) (rows : List (List (List ℕ))) (n : ℕ) → Reached cfg s xs rows s' ys →
    next_record cfg s' [] [] ys ≡ None → length rows ≤ n → records_from cfg n s xs ≡ rows
unfolding Reached records_from
in_turns cfg s s' xs ys [] zero h none fits = refl
in_turns cfg s s' xs ys [] (suc n) h none fits = rw (h.0, h.1, none) refl
in_turns cfg s s' xs ys (r ∷ rs) zero h none fits = absurd (omega (arith, fits))
in_turns cfg s s' xs ys (r ∷ rs) (suc n) h none fits =
    rw (h.1, h.2) (ap (λ more. h.0.0 ∷ more) (in_turns cfg h.0.1 s' h.0.2 ys rs n h.3 none (omega (arith, fits))))

pub are_records : (cfg : Config) (xs : List ℕ) (rows : List (List (List ℕ))) → AreRecords cfg st.StartRecord xs rows → rows ≡ records cfg xs
are_records cfg xs rows h =
    sym (in_turns cfg st.StartRecord h.0 xs h.1 rows (length xs + 1) h.2 h.3 (few cfg st.StartRecord h.0 xs h.1 rows h.2))
