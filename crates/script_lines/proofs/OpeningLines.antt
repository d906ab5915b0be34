-- What a line that opens a block begins with.
use Rattle.std.proofs.Common.{◌≡◌, ℕ, zero, suc, ◌+◌, ◌-◌, ◌||◌, Bool, true, false, cond, List, [], ◌∷◌, length, take, drop, refl, sym, ◌∙◌, ap, subst, arith, inl, inr}
use Rattle.std.specs.Prelude.{bytes_eq, codes}
use Rattle.std.specs.List.{prefix_len}
use Rattle.std.proofs.Math.Bool.{or-true}
use Rattle.std.proofs.lemmas.Bool.{or_cases, and_parts}
use Rattle.std.proofs.lemmas.Slice.Eq.{bytes_eq-Decides}
use Rattle.line_text.specs.Blanks.{is_blank, IsTight, written_len}
use Rattle.line_text.specs.Words.{Word, word_len, word_at, words, is_in_word, is_no_hash, without_comment, written_part}
use Rattle.line_text.proofs.PieceSteps.{blanks_tight, blanks_passed}
use Rattle.script_lines.specs.Blocks.{words_open, opens_block}

-- ---- the start of a line without its first blanks
trimmed_step : (p : ℕ → Bool) (byte : ℕ) (bytes : List ℕ) (n : ℕ) (t : Bool) → p byte ≡ t →
    drop (prefix_len p (take n bytes)) (take n bytes) ≡ take (n - prefix_len p bytes) (drop (prefix_len p bytes) bytes) →
    drop (cond t (1 + prefix_len p (take n bytes)) 0) (byte ∷ take n bytes)
    ≡ take (suc n - cond t (1 + prefix_len p bytes) 0) (drop (cond t (1 + prefix_len p bytes) 0) (byte ∷ bytes))
trimmed_step p byte bytes n false e h = let none : suc n - 0 ≡ suc n = omega arith in rw none refl
trimmed_step p byte bytes n true e h =
    let a : 1 + prefix_len p (take n bytes) ≡ suc (prefix_len p (take n bytes)) = omega arith in
    let b : 1 + prefix_len p bytes ≡ suc (prefix_len p bytes) = omega arith in
    let c : suc n - suc (prefix_len p bytes) ≡ n - prefix_len p bytes = omega arith in
    rw (a, b, c) h

trimmed : (p : ℕ → Bool) (n : ℕ) (text : List ℕ) →
    drop (prefix_len p (take n text)) (take n text) ≡ take (n - prefix_len p text) (drop (prefix_len p text) text)
trimmed p zero text = let none : 0 - prefix_len p text ≡ 0 = omega arith in rw none refl
trimmed p (suc n) [] = let none : suc n - 0 ≡ suc n = omega arith in rw none refl
trimmed p (suc n) (byte ∷ bytes) = trimmed_step p byte bytes n (p byte) refl (trimmed p n bytes)

-- ---- the first word of a line
-- if there is a word, it is the first bytes of this text
abbrev Begin : List Word → List ℕ → Type 0
Begin [] text = Unit {0}
Begin (w ∷ ws) text = (k : ℕ) × (w.text ≡ take k text)

tight_begin : (text : List ℕ) (at : ℕ) → IsTight text → Begin (words text 0 at) text
tight_begin [] at tight = tt
tight_begin (byte ∷ bytes) at tight = rw tight (1 + prefix_len is_in_word bytes, refl)

shorter : (m n : ℕ) (text : List ℕ) → (k : ℕ) × (take m (take n text) ≡ take k text)
shorter zero n text = (0, refl)
shorter (suc m) zero text = (0, refl)
shorter (suc m) (suc n) [] = (0, refl)
shorter (suc m) (suc n) (byte ∷ bytes) = let h = shorter m n bytes in (suc h.0, ap (λ t. byte ∷ t) h.1)

start_begin : (ws : List Word) (n : ℕ) (text : List ℕ) → Begin ws (take n text) → Begin ws text
start_begin [] n text h = tt
start_begin (w ∷ ws) n text h = let k = shorter h.0 n text in (k.0, h.1 ∙ k.1)

words_begin : (n : ℕ) (line : List ℕ) → Begin (words (take n line) 0 0) (drop (prefix_len is_blank line) line)
words_begin n line =
    let start = take n line in
    let rest = drop (prefix_len is_blank start) start in
    rw (blanks_passed Word word_len word_at start 0)
    (start_begin _ (n - prefix_len is_blank line) _
    (subst (λ t. Begin (words rest 0 (0 + prefix_len is_blank start)) t) (trimmed is_blank n line)
    (tight_begin rest (0 + prefix_len is_blank start) (blanks_tight start))))

written_begin : (line : List ℕ) → Begin (words (written_part line) 0 0) (drop (prefix_len is_blank line) line)
written_begin line =
    let part = shorter (written_len (without_comment line)) (prefix_len is_no_hash line) line in
    subst (λ t. Begin (words t 0 0) (drop (prefix_len is_blank line) line)) (sym part.1) (words_begin part.0 line)

-- ---- lines that open a block
own_start : (k : ℕ) (text : List ℕ) → take (length (take k text)) text ≡ take k text
own_start zero text = refl
own_start (suc k) [] = refl
own_start (suc k) (byte ∷ bytes) = ap (λ t. byte ∷ t) (own_start k bytes)

-- where the first word is this one, the text begins with it
begins_with : (k : ℕ) (text word first : List ℕ) → first ≡ take k text → bytes_eq first word ≡ true →
    bytes_eq word (take (length word) text) ≡ true
begins_with k text word first start same =
    let e : take k text ≡ word = sym start ∙ (bytes_eq-Decides first word).0 same in
    (bytes_eq-Decides word (take (length word) text)).1 (sym (ap (λ w. take (length w) text) (sym e) ∙ own_start k text ∙ e))

begin_words : (ws : List Word) (text : List ℕ) → Begin ws text → words_open ws ≡ true →
    (bytes_eq (codes "table") (take 5 text) || bytes_eq (codes "set") (take 3 text)) ≡ true
begin_words [] text h opens = absurd (cc)
begin_words (w ∷ ws) text h opens =
    elim (or_cases (bytes_eq w.text (codes "table")) _ opens) [
      | inl table ↦
          ap (λ b. b || bytes_eq (codes "set") (take 3 text)) (begins_with h.0 text (codes "table") w.text h.1 table)
      | inr set ↦
          ap (λ b. bytes_eq (codes "table") (take 5 text) || b)
          (begins_with h.0 text (codes "set") w.text h.1 (and_parts (bytes_eq w.text (codes "set")) _ set).0)
          ∙ or-true _
    ]

pub may_open : (line text : List ℕ) → text ≡ drop (prefix_len is_blank line) line → opens_block line ≡ true →
    (bytes_eq (codes "table") (take 5 text) || bytes_eq (codes "set") (take 3 text)) ≡ true
unfolding opens_block
may_open line text same opens = rw same (begin_words _ _ (written_begin line) opens)

-- a line that begins otherwise opens no block
pub begins_otherwise : (opens begins : Bool) → (opens ≡ true → begins ≡ true) → begins ≡ false → false ≡ opens
begins_otherwise false begins h e = refl
begins_otherwise true begins h e = absurd (cc (h refl))
