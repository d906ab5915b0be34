-- What a line is read as, by its words.
use Rattle.std.specs.Prelude.{◌≡◌, ◌≢◌, ℕ, List, [], ◌∷◌, Some, None, Ok, Err}
use Rattle.std.proofs.Common.{sym, ◌∙◌, ap}
use Rattle.line_text.specs.Words.{Word, Cursor, TakesWord, word_of, words_from, words_left, written_part}
use Rattle.line_text.specs.declared.words.Word.{Word as CodeWord}
use Rattle.answers.specs.Commands.{Command}
use Rattle.answers.specs.declared.fault.LineFault.{LineFault}
use Rattle.answers.specs.declared.fault.LineFault.TheVariants.{OutOfMemory}
use Rattle.script_lines.specs.declared.verb.Verb.{Verb}
use Rattle.script_lines.specs.Parts.{mapped}
use Rattle.script_lines.specs.Commands.{verb_of, command_with, line_with, line_read}

-- the line, from its words
line_is : (line : List ℕ) (ws : List Word) → words_from (written_part line) 0 ≡ ws → line_read line ≡ line_with (written_part line) ws
unfolding line_read
line_is line ws e = ap (line_with (written_part line)) e

-- a line of blanks and a comment, where `old` is the cursor at its first word
pub line_blank : (line part : List ℕ) (old : Cursor) → part ≡ written_part line → old ≡ record { line = part; at = 0 } → words_left old ≡ []
    → line_read line ≡ Ok None
line_blank line part old same start none =
    line_is line [] (ap (λ t. words_from t 0) (sym same) ∙ ap words_left (sym start) ∙ none)

-- a line whose first word has this verb; `new` is the cursor after it
line_with_verb : (line part : List ℕ) (old new : Cursor) (word : CodeWord) (v : Verb) → part ≡ written_part line → old ≡ record { line = part; at = 0 }
    → TakesWord old word new → v ≡ verb_of word.text.now
    → line_read line ≡ mapped Some (command_with v new.line (word_of word) (words_left new))
line_with_verb line part old new word v same start taken verb =
    line_is line (word_of word ∷ words_left new) (ap (λ t. words_from t 0) (sym same) ∙ ap words_left (sym start) ∙ taken.word)
    ∙ ap (λ u. mapped Some (command_with u (written_part line) (word_of word) (words_left new))) (sym verb)
    ∙ ap (λ t. mapped Some (command_with v t (word_of word) (words_left new))) (sym (taken.line ∙ ap (λ c. c.line) start ∙ same))

pub line_fails : (line part : List ℕ) (old new : Cursor) (word : CodeWord) (v : Verb) → part ≡ written_part line → old ≡ record { line = part; at = 0 }
    → TakesWord old word new → v ≡ verb_of word.text.now → (fault : LineFault)
    → (fault ≢ OutOfMemory → command_with v new.line (word_of word) (words_left new) ≡ Err fault) → fault ≢ OutOfMemory → line_read line ≡ Err fault
line_fails line part old new word v same start taken verb fault h memory =
    line_with_verb line part old new word v same start taken verb ∙ ap (mapped Some) (h memory)

pub line_gives : (line part : List ℕ) (old new : Cursor) (word : CodeWord) (v : Verb) → part ≡ written_part line → old ≡ record { line = part; at = 0 }
    → TakesWord old word new → v ≡ verb_of word.text.now → (command : Command)
    → command_with v new.line (word_of word) (words_left new) ≡ Ok command → line_read line ≡ Ok (Some command)
line_gives line part old new word v same start taken verb command h =
    line_with_verb line part old new word v same start taken verb ∙ ap (mapped Some) h
