-- The items of a text: its lines, and its table blocks with the lines that open them.
use Rattle.std.specs.Prelude.{ℕ, ◌==◌, Bool, nat_lt, if◌then◌else◌, List, [], ◌∷◌, ◌++◌, length, take}
use Rattle.std.specs.List.{slice_split, slice_index}
use Rattle.line_text.specs.Characters.{line_feed, carriage_return}
use Rattle.script_lines.specs.Blocks.{opens_block, ends_block}
use Rattle.script_lines.specs.declared.item.Item.{Item}
use Rattle.script_lines.specs.declared.item.Item.TheVariants.{Line, Block, LongLine, LongTable, UnclosedTable}

-- the most bytes of a line before its line feed
abbrev pub line_limit : ℕ
line_limit = 65536

abbrev pub is_long : List ℕ → Bool
is_long line = nat_lt line_limit (length line)

-- the most bytes of a block, with the line feeds of its lines and without the line that ends it
abbrev pub block_limit : ℕ
block_limit = 1048576

-- the line without a carriage return at its end
abbrev pub without_return : List ℕ → List ℕ
without_return [] = []
without_return (byte ∷ bytes) =
    if slice_index (byte ∷ bytes) (length bytes) == carriage_return then take (length bytes) (byte ∷ bytes) else byte ∷ bytes

-- ---- one line
-- where a line stands: outside of blocks, or in the block that the line `head` opened, after lines of these bytes
pub data Region : Type 0 where
  Outside : Region
  Inside : (head body : List ℕ) → Region

-- what a line gives, and where the next one stands
pub record Step : Type 0 where
  pub items : List Item
  pub next : Region

-- an opening line and the bytes of the block's lines
abbrev pub block_item : List ℕ → List ℕ → Item
block_item head body = if nat_lt block_limit (length body) then LongTable else Block head body

-- a line that a line feed ended; one that is too long opens no block
abbrev pub step_outside : List ℕ → Step
step_outside line =
    if opens_block line then record { items = []; next = Inside line [] } else record { items = Line line ∷ []; next = Outside }

abbrev pub step : Region → List ℕ → Step
step Outside line = if is_long line then record { items = LongLine ∷ []; next = Outside } else step_outside (without_return line)
step (Inside head body) line =
    if ends_block line then record { items = block_item head body ∷ []; next = Outside } else
    record { items = []; next = Inside head (body ++ line ++ 10 ∷ []) }

-- what the end of the input ended: an empty line outside of blocks is none
abbrev pub last_outside : List ℕ → Item
last_outside line = if is_long line then LongLine else if opens_block line then UnclosedTable else Line line

abbrev pub last_items : Region → List ℕ → List Item
last_items Outside [] = []
last_items Outside (byte ∷ bytes) = last_outside (byte ∷ bytes) ∷ []
last_items (Inside head body) line = if ends_block line then block_item head body ∷ [] else UnclosedTable ∷ []

abbrev pub no_items : Region → List ℕ → List Item
no_items region line = []

-- ---- the items of a text
-- what line feeds part; the last part is what no line feed ended
abbrev pub parts_of : List ℕ → List (List ℕ)
parts_of text = slice_split (λ byte. byte == line_feed) text

-- the items of these lines; `last` says what the last one gives
abbrev pub items_by : (last : Region → List ℕ → List Item) → Region → List (List ℕ) → List Item
items_by last region [] = []
items_by last region (part ∷ []) = last region part
items_by last region (part ∷ next ∷ parts) = (step region part).items ++ items_by last (step region part).next (next ∷ parts)

-- the items of the whole text
abbrev pub items_of : List ℕ → List Item
items_of text = items_by last_items Outside (parts_of text)

-- those that are whole without the end of the input
abbrev pub whole_items_of : List ℕ → List Item
whole_items_of text = items_by no_items Outside (parts_of text)
