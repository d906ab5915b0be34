-- What a block is read as, by the words of the line that opens it.
use Rattle.std.specs.Prelude.{◌≡◌, ℕ, Bool, true, false, cond, List, [], ◌∷◌, bytes_eq, codes}
use Rattle.std.proofs.Common.{refl, sym, ◌∙◌, ap}
use Rattle.line_text.specs.Words.{Cursor, TakesWord, word_of, words_from, words_left, written_part}
use Rattle.line_text.specs.declared.words.Word.{Word as CodeWord}
use Rattle.row_text.specs.Tables.{table_at}
use Rattle.script_lines.specs.Commands.{adding, setting, block_with, block_read}

-- the block, where `old` is the cursor at the first word of its line
block_is : (head part body : List ℕ) (old : Cursor) → part ≡ written_part head → old ≡ record { line = part; at = 0 } →
    block_read head body ≡ block_with part (words_left old) body
unfolding block_read
block_is head part body old same start =
    ap (λ t. block_with t (words_from t 0) body) (sym same) ∙ ap (λ c. block_with part (words_left c) body) (sym start)

pub block_blank : (head part body : List ℕ) (old : Cursor) → part ≡ written_part head → old ≡ record { line = part; at = 0 } → words_left old ≡ [] →
    block_read head body ≡ adding (table_at part (words_from part 0) body)
block_blank head part body old same start none =
    block_is head part body old same start ∙ ap (λ ws. block_with part ws body) none
    ∙ ap (λ ws. adding (table_at part ws body)) (sym none ∙ ap words_left start)

-- a block whose line has a first word; `new` is the cursor after it
block_first : (head part body : List ℕ) (old new : Cursor) (word : CodeWord) → part ≡ written_part head → old ≡ record { line = part; at = 0 } →
    TakesWord old word new → block_read head body ≡ block_with part (word_of word ∷ words_left new) body
block_first head part body old new word same start taken =
    block_is head part body old same start ∙ ap (λ ws. block_with part ws body) taken.word

if_true : {A : Type 0} (t : Bool) (a b : A) → t ≡ true → cond t a b ≡ a
if_true true a b h = refl
if_true false a b h = absurd (cc h)

if_false : {A : Type 0} (t : Bool) (a b : A) → t ≡ false → cond t a b ≡ b
if_false true a b h = absurd (cc h)
if_false false a b h = refl

pub block_sets : (head part body : List ℕ) (old new : Cursor) (word : CodeWord) → part ≡ written_part head → old ≡ record { line = part; at = 0 } →
    TakesWord old word new → bytes_eq word.text.now (codes "set") ≡ true → block_read head body ≡ setting (table_at new.line (words_left new) body)
block_sets head part body old new word same start taken set =
    block_first head part body old new word same start taken
    ∙ if_true (bytes_eq word.text.now (codes "set")) _ _ set
    ∙ ap (λ t. setting (table_at t (words_left new) body)) (sym (taken.line ∙ ap (λ c. c.line) start))

pub block_adds : (head part body : List ℕ) (old new : Cursor) (word : CodeWord) → part ≡ written_part head → old ≡ record { line = part; at = 0 } →
    TakesWord old word new → bytes_eq word.text.now (codes "set") ≡ false → block_read head body ≡ adding (table_at part (words_from part 0) body)
block_adds head part body old new word same start taken other =
    block_first head part body old new word same start taken
    ∙ if_false (bytes_eq word.text.now (codes "set")) _ _ other
    ∙ ap (λ ws. adding (table_at part ws body)) (sym taken.word ∙ ap words_left start)
