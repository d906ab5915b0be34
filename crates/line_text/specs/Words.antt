-- The words of a line.
use Rattle.std.specs.Prelude.{◌≡◌, ℕ, ◌+◌, ◌^◌, ◌<◌, ◌==◌, Bool, not, List, [], ◌∷◌, length, take, drop, Option, None, Some}
use Rattle.std.specs.List.{prefix_len}
use Rattle.line_text.specs.Characters.{hash}
use Rattle.line_text.specs.Blanks.{is_blank, written_len}
use Rattle.line_text.specs.Pieces.{pieces}
use Rattle.line_text.specs.declared.words.Word.{Word as CodeWord}

-- a byte before a comment, which begins with the first `#`
abbrev pub is_no_hash : ℕ → Bool
is_no_hash byte = not (byte == hash)

-- the line before its comment
abbrev pub without_comment : List ℕ → List ℕ
without_comment line = take (prefix_len is_no_hash line) line

-- the line without its comment and its last blanks
abbrev pub written_part : List ℕ → List ℕ
written_part line = take (written_len (without_comment line)) (without_comment line)

-- a word of a line and its place there, counted from 0
pub record Word : Type 0 where
  pub place : ℕ
  pub text : List ℕ

abbrev pub is_in_word : ℕ → Bool
is_in_word byte = not (is_blank byte)

-- the length of the word at the start
abbrev pub word_len : List ℕ → ℕ
word_len text = prefix_len is_in_word text

-- the word at the start of the text, whose place is `at`
abbrev pub word_at : ℕ → List ℕ → Word
word_at at text = record { place = at; text = take (word_len text) text }

-- the words of a text whose first byte has the place `at` and whose first `skip` bytes are passed; they are
-- parted by blanks
abbrev pub words : List ℕ → ℕ → ℕ → List Word
words text skip at = pieces word_len word_at text skip at

-- the words of a line from the place `at` on
abbrev pub words_from : List ℕ → ℕ → List Word
words_from line at = words (drop at line) 0 at

-- ---- words that are taken from a line, one by one
-- a line, and the place from which on its words are still to come
pub record Cursor : Type 0 where
  pub line : List ℕ
  pub at : ℕ

-- the words that are still to come
abbrev pub words_left : Cursor → List Word
words_left c = words_from c.line c.at

abbrev pub word_of : CodeWord → Word
word_of w = record { place = w.place; text = w.text.now }

-- the next word was taken, or there was none
pub record TakesWord (old : Cursor) (taken : CodeWord) (new : Cursor) : Type 0 where
  pub line : new.line ≡ old.line
  pub place : new.at ≡ taken.place + length taken.text.now
  pub fits : new.at < 2 ^ 63
  pub word : words_left old ≡ word_of taken ∷ words_left new

abbrev pub GivesWord : Cursor → Option CodeWord → Cursor → Type 0
GivesWord old (Some taken) new = TakesWord old taken new
GivesWord old None new = (new ≡ old) × (words_left old ≡ [])
