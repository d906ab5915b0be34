-- How a text is cut into pieces, between which blanks may stand.
use Rattle.std.specs.Prelude.{ℕ, zero, suc, ◌+◌, ◌-◌, cond, List, [], ◌∷◌}
use Rattle.line_text.specs.Blanks.{is_blank}

-- the pieces of a text whose first byte has the place `at` and whose first `skip` bytes are passed: where a piece
-- begins, `len` says how long it is, and `piece` what it is, of its place and the text from there on
abbrev pub pieces : {A : Type 0} → (List ℕ → ℕ) → (ℕ → List ℕ → A) → List ℕ → ℕ → ℕ → List A
pieces len piece [] skip at = []
pieces len piece (byte ∷ bytes) (suc skip) at = pieces len piece bytes skip (at + 1)
pieces len piece (byte ∷ bytes) zero at =
    cond (is_blank byte) (pieces len piece bytes 0 (at + 1))
    (piece at (byte ∷ bytes) ∷ pieces len piece bytes (len (byte ∷ bytes) - 1) (at + 1))
