-- Where a text is cut at a byte.
use Rattle.std.proofs.Common.{◌≡◌, ℕ, ◌+◌, ◌<◌, ◌≤◌, ◌==◌, false, List, [], ◌∷◌, ◌++◌, length, take, drop, get_or, sym, ◌∙◌, ap, arith, add-one, drop-cons, eq-eqb}
use Rattle.std.specs.List.{slice_split, All}
use Rattle.std.proofs.lemmas.Bool.{ne_eqb}
use Rattle.std.proofs.lemmas.List.{take-append-drop, length-take, get_or-take}
use Rattle.std.proofs.lemmas.List.Elements.{All-from_get_or}
use Rattle.std.proofs.lemmas.List.Splits.{slice_split_at, slice_split_none}

-- none of the first n bytes is this byte
pub record IsFree (text : List ℕ) (at n : ℕ) : Type 0 where
  pub free : (k : ℕ) → k < n → get_or text k 0 ≡ at → ⊥

free_prefix : (text : List ℕ) (at n : ℕ) → n ≤ length text → IsFree text at n → All (λ byte. (byte == at) ≡ false) (take n text)
free_prefix text at n within h =
    All-from_get_or (λ byte. (byte == at) ≡ false) _ 0
    (λ k below.
    let short : k < n = omega (arith, length-take {A = ℕ} n text) in
    rw (get_or-take n text k 0) (ne_eqb _ _ (h.free k short)))

-- a text is cut at the first such byte
pub cut_at : (text : List ℕ) (at n : ℕ) → n < length text → IsFree text at n → get_or text n 0 ≡ at →
    slice_split (λ byte. byte == at) text ≡ take n text ∷ slice_split (λ byte. byte == at) (drop (n + 1) text)
cut_at text at n within h e =
    let parts : text ≡ take n text ++ get_or text n 0 ∷ drop (n + 1) text =
    rw (add-one, ← drop-cons text n 0 within) (sym (take-append-drop n text)) in
    ap (slice_split (λ byte. byte == at)) parts
    ∙ slice_split_at (λ byte. byte == at) (take n text) (get_or text n 0) (drop (n + 1) text)
    (free_prefix text at n (omega arith) h) (eq-eqb _ _ e)

-- a text without such a byte is its only part
pub cut_nowhere : (text : List ℕ) (at n : ℕ) → length text ≤ n → IsFree text at n → slice_split (λ byte. byte == at) text ≡ text ∷ []
cut_nowhere text at n past h =
    slice_split_none (λ byte. byte == at) text
    (All-from_get_or (λ byte. (byte == at) ≡ false) text 0 (λ k below. ne_eqb _ _ (h.free k (omega arith))))
