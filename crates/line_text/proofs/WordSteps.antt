-- The words of a line, one by one.
use Rattle.std.proofs.Common.{◌≡◌, ℕ, suc, ◌+◌, ◌<◌, false, List, [], ◌∷◌, length, take, drop, ◌∙◌, ap, arith, drop-drop}
use Rattle.std.specs.List.{prefix_len}
use Rattle.line_text.specs.Blanks.{is_blank, IsTight}
use Rattle.line_text.specs.Words.{Word, word_len, word_at, words, words_from}
use Rattle.line_text.proofs.PieceSteps.{blanks_tight, blanks_passed, first_piece, no_pieces}

-- ---- words
tight_len : (byte : ℕ) (bytes : List ℕ) → is_blank byte ≡ false → word_len (byte ∷ bytes) ≡ suc (word_len bytes)
tight_len byte bytes e = rw e (omega arith)

word_some : (text : List ℕ) → IsTight text → 0 < length text → 0 < word_len text
word_some [] tight some = absurd (omega arith)
word_some (byte ∷ bytes) tight some = omega (arith, tight_len byte bytes tight)

-- the word at the start of a text that begins with one
pub first_words : (text : List ℕ) (at : ℕ) → IsTight text → 0 < length text →
    words text 0 at ≡ word_at at text ∷ words (drop (word_len text) text) 0 (at + word_len text)
first_words text at tight some = first_piece Word word_len word_at text at tight some (word_some text tight some)

-- ---- the words of a line, from a place on
-- the word of this length, after the blanks
pub next_word : (line rest after word : List ℕ) (at blanks : ℕ) → rest ≡ drop at line → blanks ≡ prefix_len is_blank rest →
    after ≡ drop blanks rest → 0 < length after → word ≡ take (word_len after) after → length word ≡ word_len after →
    words_from line at ≡ record { place = at + blanks; text = word } ∷ words_from line (at + blanks + length word)
next_word line rest after word at blanks from count passed some is long =
    let tight : IsTight after = rw (passed, count) (blanks_tight rest) in
    let spread : words rest 0 at ≡ words after 0 (at + blanks) = rw (passed, count) (blanks_passed Word word_len word_at rest at) in
    let n : ℕ = word_len after in
    let whole : after ≡ drop (at + blanks) line = passed ∙ ap (drop blanks) from ∙ drop-drop blanks at line in
    let last : drop n after ≡ drop (at + blanks + n) line = ap (drop n) whole ∙ drop-drop n (at + blanks) line in
    rw (long, is, ← from) (spread ∙ first_words after (at + blanks) tight some
    ∙ ap (λ t. word_at (at + blanks) after ∷ words t 0 (at + blanks + n)) last)

pub no_word : (line rest after : List ℕ) (at blanks : ℕ) → rest ≡ drop at line → blanks ≡ prefix_len is_blank rest →
    after ≡ drop blanks rest → length after ≡ 0 → words_from line at ≡ []
no_word line rest after at blanks from count passed none =
    let spread : words rest 0 at ≡ words after 0 (at + blanks) = rw (passed, count) (blanks_passed Word word_len word_at rest at) in
    rw (← from) (spread ∙ no_pieces Word word_len word_at after (at + blanks) none)
