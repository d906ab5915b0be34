-- Texts of words with one blank between each two, and the words that they have.
use Rattle.std.proofs.Common.{append_assoc, ◌≡◌, ℕ, ◌+◌, ◌<◌, List, [], ◌∷◌, ◌++◌, length, refl, sym, ◌∙◌, ap, subst}
use Rattle.std.specs.Prelude.{codes}
use mathlib.Core.List.{append-nil}
use Rattle.line_text.specs.Words.{Word, words}
use Rattle.line_text.proofs.WrittenTexts.{IsSolid, solid_after, one_word}
use Rattle.row_text.proofs.PlainBytes.{ArePlain, all_in_word, all_no_hash}
use Rattle.row_text.proofs.SolidTexts.{plain_solid}

-- the words, each after a blank
abbrev pub spaced : List (List ℕ) → List ℕ
spaced [] = []
spaced (w ∷ ws) = 32 ∷ (w ++ spaced ws)

-- the words at their places, the first at the place `at`
abbrev pub placed : ℕ → List (List ℕ) → List Word
placed at [] = []
placed at (w ∷ ws) = record { place = at; text = w } ∷ placed (at + length w + 1) ws

-- the place of a word after these
abbrev pub past : ℕ → List (List ℕ) → ℕ
past at [] = at
past at (w ∷ ws) = past (at + length w + 1) ws

pub record IsWord (w : List ℕ) : Type 0 where
  pub plain : ArePlain w
  pub some : 0 < length w

abbrev pub AreWords : List (List ℕ) → Type 0
AreWords [] = Unit {0}
AreWords (w ∷ ws) = IsWord w × AreWords ws

pub words-append : (vs ws : List (List ℕ)) → AreWords vs → AreWords ws → AreWords (vs ++ ws)
words-append [] ws h k = k
words-append (v ∷ vs) ws h k = (h.0, words-append vs ws h.1 k)

pub spaced-append : (vs ws : List (List ℕ)) → spaced (vs ++ ws) ≡ spaced vs ++ spaced ws
spaced-append [] ws = refl
spaced-append (v ∷ vs) ws = ap (λ t. 32 ∷ t) (ap (λ t. v ++ t) (spaced-append vs ws) ∙ sym (append_assoc v (spaced vs) (spaced ws)))

pub words_again : (w : List ℕ) (ws : List (List ℕ)) (at : ℕ) → AreWords (w ∷ ws) → words (w ++ spaced ws) 0 at ≡ placed at (w ∷ ws)
words_again w [] at h = one_word w [] at (all_in_word w h.0.plain) h.0.some refl
words_again w (v ∷ ws) at h =
    one_word w (spaced (v ∷ ws)) at (all_in_word w h.0.plain) h.0.some refl
    ∙ ap (λ rest. record { place = at; text = w } ∷ rest) (words_again v ws (at + length w + 1) h.1)

pub spaced_solid : (w : List ℕ) (ws : List (List ℕ)) → AreWords (w ∷ ws) → IsSolid (w ++ spaced ws)
spaced_solid w [] h = subst IsSolid (sym (append-nil w)) (plain_solid w h.0.plain h.0.some)
spaced_solid w (v ∷ ws) h =
    solid_after w (spaced (v ∷ ws)) (all_no_hash w h.0.plain) (solid_after (codes " ") (v ++ spaced ws) refl (spaced_solid v ws h.1))
