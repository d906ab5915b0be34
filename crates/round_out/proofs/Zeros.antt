-- Zeros at the end of a text.
use Rattle.std.specs.Prelude.{◌≡◌, ℕ, ◌+◌, List, [], ◌∷◌, ◌++◌, replicate}
use Rattle.std.proofs.Common.{ap, sym, ◌∙◌, append_assoc, add-one}
use Rattle.line_text.specs.Characters.{digit_zero}

-- the zero that is put, and the zeros after it
pub zero_more : (text goal : List ℕ) (k : ℕ) → text ++ replicate (k + 1) digit_zero ≡ goal → (text ++ digit_zero ∷ []) ++ replicate k digit_zero ≡ goal
zero_more text goal k h =
    append_assoc text (digit_zero ∷ []) (replicate k digit_zero) ∙ ap (λ n. text ++ replicate n digit_zero) (sym (add-one k)) ∙ h
