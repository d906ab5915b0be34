-- Which lines open a table block, and which end one.
use Rattle.std.specs.Prelude.{ℕ, ◌==◌, ◌&&◌, ◌||◌, Bool, false, List, [], ◌∷◌, take, drop, bytes_eq, codes}
use Rattle.std.specs.List.{prefix_len, list_all}
use Rattle.line_text.specs.Characters.{carriage_return}
use Rattle.line_text.specs.Blanks.{is_blank}
use Rattle.line_text.specs.Words.{Word, words_from, written_part}

-- ---- a block is opened by the first word of a line, or by its first two
abbrev pub begin_table : List Word → Bool
begin_table [] = false
begin_table (w ∷ ws) = bytes_eq w.text (codes "table")

abbrev pub begin_set_table : List Word → Bool
begin_set_table [] = false
begin_set_table (w ∷ ws) = bytes_eq w.text (codes "set") && begin_table ws

abbrev pub words_open : List Word → Bool
words_open ws = begin_table ws || begin_set_table ws

-- whatever else stands in the line
unfoldable pub opens_block : List ℕ → Bool
opens_block line = words_open (words_from (written_part line) 0)

-- ---- a block is ended by a line that is `end`
-- what counts for nothing at the ends of a line of a block: blanks and carriage returns
abbrev pub is_padding : ℕ → Bool
is_padding byte = is_blank byte || byte == carriage_return

-- `end`, and no more than padding after it
abbrev pub is_end : List ℕ → Bool
is_end text = bytes_eq (codes "end") (take 3 text) && list_all is_padding (drop 3 text)

unfoldable pub ends_block : List ℕ → Bool
ends_block line = is_end (drop (prefix_len is_padding line) line)
