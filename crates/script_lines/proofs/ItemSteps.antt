-- The items of a text, line by line.
use Rattle.std.proofs.Common.{◌≡◌, ℕ, ◌+◌, ◌<◌, ◌==◌, Bool, true, false, cond, List, [], ◌∷◌, ◌++◌, length, get_or, take, drop, Option, Some, None, IfSome, IfNone, refl, ap, ◌∙◌, sym, arith}
use Rattle.std.proofs.lemmas.List.{drop-drop, append-nil, append_assoc, take_more}
use Rattle.std.proofs.Math.Seq.{take-add}
use Rattle.std.proofs.lemmas.List.Splits.{length-slice_split}
use Rattle.script_lines.specs.declared.item.Item.{Item}
use Rattle.script_lines.specs.declared.item.Item.TheVariants.{Line, LongLine, UnclosedTable}
use Rattle.script_lines.specs.Blocks.{opens_block, ends_block}
use Rattle.script_lines.specs.Items.{Region, Outside, Inside, Step, is_long, without_return, block_item, step, step_outside, last_items, no_items, parts_of, items_by, items_of, whole_items_of}
use Rattle.script_lines.specs.Yields.{Yields}
use Rattle.script_lines.proofs.LineParts.{HasLine}

-- parts after another part
items_after : (last : Region → List ℕ → List Item) (from : Region) (part : List ℕ) (parts : List (List ℕ)) (n : ℕ) → length parts ≡ n + 1
    → items_by last from (part ∷ parts) ≡ (step from part).items ++ items_by last (step from part).next parts
items_after last from part [] n h = absurd (omega (arith, h))
items_after last from part (next ∷ parts) n h = refl

-- what the first line gives
pub line_yields : (from : Region) (text : List ℕ) (len : ℕ) (s : Step) → HasLine text len → step from (take len text) ≡ s
    → Yields from text s.items s.next (drop (len + 1) text)
line_yields from text len s line e =
    record {
      yields = λ last rest. let left = drop (len + 1) text ++ rest in
          ap (items_by last from) (line rest) ∙ items_after last from (take len text) (parts_of left) _ (length-slice_split (λ byte. byte == 10) left)
          ∙ ap (λ (r : Step). r.items ++ items_by last r.next (parts_of left)) e;
    }

-- one after the other
pub and_then : (a b c : Region) (s t u : List ℕ) (xs ys : List Item) → Yields a s xs b t → Yields b t ys c u → Yields a s (xs ++ ys) c u
and_then a b c s t u xs ys h k =
    record { yields = λ last rest. h.yields last rest ∙ ap (λ items. xs ++ items) (k.yields last rest) ∙ sym (append_assoc xs ys (items_by last c (parts_of (u ++ rest)))) }

pub no_line : (a : Region) (s : List ℕ) → Yields a s [] a s
no_line a s = record { yields = λ last rest. refl }

-- with nothing after the text
pub at_end : (a b : Region) (s t : List ℕ) (xs : List Item) → Yields a s xs b t → (last : Region → List ℕ → List Item)
    → items_by last a (parts_of s) ≡ xs ++ items_by last b (parts_of t)
at_end a b s t xs h last =
    ap (λ text. items_by last a (parts_of text)) (sym (append-nil s)) ∙ h.yields last []
    ∙ ap (λ text. xs ++ items_by last b (parts_of text)) (append-nil t)

-- ---- lines outside of blocks
pub long_line : (text : List ℕ) (len : ℕ) → HasLine text len → is_long (take len text) ≡ true
    → Yields Outside text (LongLine ∷ []) Outside (drop (len + 1) text)
long_line text len line long =
    line_yields Outside text len (record { items = LongLine ∷ []; next = Outside }) line
    (ap (λ t. cond t (record { items = LongLine ∷ []; next = Outside }) (step_outside (without_return (take len text)))) long)

plain_step : (line : List ℕ) → is_long line ≡ false → opens_block (without_return line) ≡ false
    → step Outside line ≡ record { items = Line (without_return line) ∷ []; next = Outside }
plain_step line short plain = rw (short, plain) refl

opening_step : (line : List ℕ) → is_long line ≡ false → opens_block (without_return line) ≡ true
    → step Outside line ≡ record { items = []; next = Inside (without_return line) [] }
opening_step line short opens = rw (short, opens) refl

pub plain_line : (text : List ℕ) (len : ℕ) → HasLine text len → is_long (take len text) ≡ false → opens_block (without_return (take len text)) ≡ false
    → Yields Outside text (Line (without_return (take len text)) ∷ []) Outside (drop (len + 1) text)
plain_line text len line short plain = line_yields Outside text len _ line (plain_step (take len text) short plain)

pub opening_line : (text : List ℕ) (len : ℕ) → HasLine text len → is_long (take len text) ≡ false → opens_block (without_return (take len text)) ≡ true
    → Yields Outside text [] (Inside (without_return (take len text)) []) (drop (len + 1) text)
opening_line text len line short opens = line_yields Outside text len _ line (opening_step (take len text) short opens)

-- ---- lines of blocks
inner_step : (head body line : List ℕ) → ends_block line ≡ false
    → step (Inside head body) line ≡ record { items = []; next = Inside head (body ++ line ++ 10 ∷ []) }
inner_step head body line h = rw h refl

end_step : (head body line : List ℕ) → ends_block line ≡ true → step (Inside head body) line ≡ record { items = block_item head body ∷ []; next = Outside }
end_step head body line h = rw h refl

-- the bytes before a place in the block, and the next line with its line feed
body_more : (text left : List ℕ) (at len : ℕ) → left ≡ drop at text → len < length left → get_or left len 0 ≡ 10
    → take at text ++ take len left ++ 10 ∷ [] ≡ take (at + len + 1) text
body_more text left at len same within feed =
    append_assoc (take at text) (take len left) (10 ∷ [])
    ∙ ap (λ byte. take at text ++ (take len left ++ byte ∷ [])) (sym feed)
    ∙ ap (λ bytes. take at text ++ bytes) (sym (take_more left len 0 within))
    ∙ ap (λ bytes. take at text ++ take (len + 1) bytes) same
    ∙ sym (take-add at (len + 1) text) ∙ ap (λ n. take n text) (omega arith)

pub left_is : (text left : List ℕ) (at len : ℕ) → left ≡ drop at text → drop (len + 1) left ≡ drop (at + len + 1) text
left_is text left at len same = ap (drop (len + 1)) same ∙ drop-drop (len + 1) at text ∙ ap (λ n. drop n text) (omega arith)

-- the block's lines before the place `at`, and one more
pub line_inside : (head text left : List ℕ) (at len : ℕ) → left ≡ drop at text → Yields (Inside head []) text [] (Inside head (take at text)) (drop at text)
    → HasLine left len → len < length left → get_or left len 0 ≡ 10 → ends_block (take len left) ≡ false
    → Yields (Inside head []) text [] (Inside head (take (at + len + 1) text)) (drop (at + len + 1) text)
line_inside head text left at len same h line within feed goes_on =
    rw (← body_more text left at len same within feed, ← left_is text left at len same)
    (and_then _ _ _ _ _ _ [] [] (rw same h)
    (line_yields (Inside head (take at text)) left len _ line (inner_step head (take at text) (take len left) goes_on)))

pub line_ends : (head text left : List ℕ) (at len : ℕ) → left ≡ drop at text → Yields (Inside head []) text [] (Inside head (take at text)) (drop at text)
    → HasLine left len → ends_block (take len left) ≡ true
    → Yields (Inside head []) text (block_item head (take at text) ∷ []) Outside (drop (at + len + 1) text)
line_ends head text left at len same h line ends =
    rw (← left_is text left at len same)
    (and_then _ _ _ _ _ _ [] (block_item head (take at text) ∷ []) (rw same h)
    (line_yields (Inside head (take at text)) left len _ line (end_step head (take at text) (take len left) ends)))

-- a block with the line that opened it, where a line feed ended its `end` line
pub whole_block : (head text rest : List ℕ) (opening len ended : ℕ) (end : Option ℕ) (item : Item) → end ≡ Some ended → rest ≡ drop (opening + 1) text
    → item ≡ block_item head (take len rest) → Yields Outside text [] (Inside head []) rest
    → IfSome end (λ e. (head : List ℕ) → Yields (Inside head []) rest (block_item head (take len rest) ∷ []) Outside (drop e rest))
    → Yields Outside text (item ∷ []) Outside (drop (opening + 1 + ended) text)
whole_block head text rest opening len ended None item some left same h closed = cc
whole_block head text rest opening len ended (Some e) item some left same h closed =
    let place : e ≡ ended = cc in
    let after : drop e rest ≡ drop (opening + 1 + ended) text =
    ap (drop e) left ∙ drop-drop e (opening + 1) text ∙ ap (λ n. drop n text) (omega (arith, place)) in
    rw (same, ← after) (and_then _ _ _ _ _ _ [] (block_item head (take len rest) ∷ []) h (closed head))

-- ---- the end of the input
-- where the text after an opening line ends no block, no item is whole
pub open_block : (text head body rest left : List ℕ) → Yields Outside text [] (Inside head []) rest → Yields (Inside head []) rest [] (Inside head body) left
    → parts_of left ≡ left ∷ [] → (last : Region → List ℕ → List Item) → items_by last Outside (parts_of text) ≡ last (Inside head body) left
open_block text head body rest left h k e last =
    at_end _ _ _ _ _ (and_then _ _ _ _ _ _ [] [] h k) last ∙ ap (items_by last (Inside head body)) e

-- a block that no line feed ended is no whole item
pub none_whole : (head text rest : List ℕ) (len : ℕ) (end : Option ℕ) → end ≡ None → Yields Outside text [] (Inside head []) rest
    → IfNone end ((head : List ℕ) → Yields (Inside head []) rest [] (Inside head (take len rest)) (drop len rest))
    → IfNone end (parts_of (drop len rest) ≡ drop len rest ∷ []) → whole_items_of text ≡ []
none_whole head text rest len (Some e) none h unended last = cc
none_whole head text rest len None none h unended last = open_block text head (take len rest) rest (drop len rest) h (unended head) last no_items

opened_by : (long opens : Bool) (line : List ℕ) (xs : List Item) (s : Step)
    → (cond long (record { items = LongLine ∷ []; next = Outside }) (cond opens s (record { items = Line line ∷ []; next = Outside }))).items ++ xs ≡ []
    → (long ≡ false) × (opens ≡ true)
opened_by true opens line xs s h = absurd (omega (arith, ap length h))
opened_by false true line xs s h = (refl, refl)
opened_by false false line xs s h = absurd (omega (arith, ap length h))

-- a first line that is no item opens a block
pub opened : (text : List ℕ) (len : ℕ) → HasLine text len → whole_items_of text ≡ []
    → Yields Outside text [] (Inside (without_return (take len text)) []) (drop (len + 1) text)
opened text len line none =
    let h = opened_by (is_long (take len text)) (opens_block (without_return (take len text))) (without_return (take len text)) _ _
    (sym (at_end _ _ _ _ _ (line_yields Outside text len _ line refl) no_items) ∙ none) in
    opening_line text len line h.0 h.1

-- the block that no line feed ended, after the line that opened it
pub last_of_block : (head text rest : List ℕ) (len : ℕ) (end : Option ℕ) → Yields Outside text [] (Inside head []) rest
    → IfSome end (λ e. (head : List ℕ) → Yields (Inside head []) rest (block_item head (take len rest) ∷ []) Outside (drop e rest))
    → IfNone end ((head : List ℕ) → Yields (Inside head []) rest [] (Inside head (take len rest)) (drop len rest))
    → IfNone end (parts_of (drop len rest) ≡ drop len rest ∷ []) → whole_items_of text ≡ []
    → items_of text ≡ last_items (Inside head (take len rest)) (drop len rest)
last_of_block head text rest len (Some end) h closed unended last none =
    absurd (omega (arith, ap length (sym (at_end _ _ _ _ _ (and_then _ _ _ _ _ _ [] _ h (closed head)) no_items) ∙ none)))
last_of_block head text rest len None h closed unended last none = open_block text head (take len rest) rest (drop len rest) h (unended head) last last_items

pub last_closed : (head body line : List ℕ) → ends_block line ≡ true → last_items (Inside head body) line ≡ block_item head body ∷ []
last_closed head body line h = rw h refl

pub last_unclosed : (head body line : List ℕ) → ends_block line ≡ false → last_items (Inside head body) line ≡ UnclosedTable ∷ []
last_unclosed head body line h = rw h refl

-- ---- the first item of the bytes from a place on
pub item_taken : (bytes text left : List ℕ) (at len : ℕ) (item : Item) → left ≡ drop at bytes → drop at bytes ≡ text
    → Yields Outside left (item ∷ []) Outside (drop len left) → (last : Region → List ℕ → List Item)
    → items_by last Outside (parts_of text) ≡ item ∷ items_by last Outside (parts_of (drop (at + len) bytes))
item_taken bytes text left at len item same whole h last =
    ap (λ t. items_by last Outside (parts_of t)) (sym (same ∙ whole)) ∙ at_end Outside Outside left (drop len left) (item ∷ []) h last
    ∙ ap (λ t. item ∷ items_by last Outside (parts_of t)) (ap (drop len) same ∙ drop-drop len at bytes)
