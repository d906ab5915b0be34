-- Blanks, which are spaces and tabs.
use Rattle.std.specs.Prelude.{◌≡◌, ℕ, suc, ◌==◌, ◌&&◌, ◌||◌, Bool, false, cond, List, [], ◌∷◌}
use Rattle.line_text.specs.Characters.{space, tab}

abbrev pub is_blank : ℕ → Bool
is_blank byte = byte == space || byte == tab

-- no blank is at the start
abbrev pub IsTight : List ℕ → Type 0
IsTight [] = Unit {0}
IsTight (byte ∷ bytes) = is_blank byte ≡ false

-- the length of the text without its last blanks
abbrev pub written_len : List ℕ → ℕ
written_len [] = 0
written_len (byte ∷ bytes) = cond (is_blank byte && written_len bytes == 0) 0 (suc (written_len bytes))
