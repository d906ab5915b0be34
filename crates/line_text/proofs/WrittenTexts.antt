-- Texts that are the whole of their written part, and the words in a text that is put together.
use Rattle.std.proofs.Common.{◌≡◌, ℕ, suc, ◌+◌, ◌<◌, ◌==◌, ◌&&◌, Bool, true, false, cond, List, [], ◌∷◌, ◌++◌, length, take, drop, refl, sym, ◌∙◌, ap, arith, length-append}
use Rattle.std.specs.List.{list_all, prefix_len}
use mathlib.Core.List.{append-nil}
use Rattle.std.proofs.Math.Seq.{take-length, take-append_seam, drop-append_seam}
use Rattle.std.proofs.lemmas.Bool.{and_parts, and_from, not-true}
use Rattle.std.proofs.lemmas.Bool.Decides.{nat_tests}
use Rattle.std.proofs.lemmas.List.Folds.{list_all-append}
use Rattle.line_text.specs.Blanks.{is_blank, IsTight, written_len}
use Rattle.line_text.specs.Words.{is_no_hash, is_in_word, without_comment, written_part, words}
use Rattle.line_text.proofs.WordSteps.{first_words}

-- ---- the length of a prefix that has a property
pub run_whole : (p : ℕ → Bool) (xs rest : List ℕ) → list_all p xs ≡ true → prefix_len p rest ≡ 0 → prefix_len p (xs ++ rest) ≡ length xs
run_whole p [] rest all none = none
run_whole p (x ∷ xs) rest all none =
    let parts = and_parts (p x) (list_all p xs) all in
    rw parts.0 (omega (arith, run_whole p xs rest parts.1 none))

-- ---- the written part
-- no comment, no last blank, and not empty
pub record IsSolid (text : List ℕ) : Type 0 where
  pub no_hash : list_all is_no_hash text ≡ true
  pub ends : written_len text ≡ length text
  pub some : 0 < length text

whole : (p : ℕ → Bool) (text : List ℕ) → list_all p text ≡ true → prefix_len p text ≡ length text
whole p text all = ap (prefix_len p) (sym (append-nil text)) ∙ run_whole p text [] all refl

pub solid_written : (text : List ℕ) → IsSolid text → written_part text ≡ text
solid_written text h =
    let kept : without_comment text ≡ text = ap (λ n. take n text) (whole is_no_hash text h.no_hash) ∙ take-length text in
    ap (λ line. take (written_len line) line) kept ∙ ap (λ n. take n text) h.ends ∙ take-length text

written_step : (b : Bool) (n len : ℕ) → n ≡ len → 0 < len → cond (b && n == 0) 0 (suc n) ≡ suc len
written_step false n len e some = ap suc e
written_step true n len e some =
    let no : (n == 0) ≡ false = grind (arith, nat_tests) in
    rw no (ap suc e)

written_append : (xs ys : List ℕ) → 0 < length ys → written_len ys ≡ length ys → written_len (xs ++ ys) ≡ length (xs ++ ys)
written_append [] ys some ends = ends
written_append (x ∷ xs) ys some ends =
    let more : 0 < length (xs ++ ys) = omega (arith, length-append xs ys, some) in
    written_step (is_blank x) (written_len (xs ++ ys)) (length (xs ++ ys)) (written_append xs ys some ends) more

pub solid_after : (xs ys : List ℕ) → list_all is_no_hash xs ≡ true → IsSolid ys → IsSolid (xs ++ ys)
solid_after xs ys none h = record {
  no_hash = list_all-append is_no_hash xs ys ∙ and_from _ _ none h.no_hash;
  ends = written_append xs ys h.some h.ends;
  some = omega (arith, length-append xs ys, h.some);
}

word_step : (t : Bool) (n len : ℕ) → t ≡ false → n ≡ len → cond (t && n == 0) 0 (suc n) ≡ suc len
word_step false n len f e = ap suc e
word_step true n len f e = absurd (cc)

word_written : (text : List ℕ) → list_all is_in_word text ≡ true → written_len text ≡ length text
word_written [] all = refl
word_written (byte ∷ bytes) all =
    let parts = and_parts (is_in_word byte) (list_all is_in_word bytes) all in
    word_step (is_blank byte) (written_len bytes) (length bytes) (not-true (is_blank byte) parts.0) (word_written bytes parts.1)

pub solid_word : (text : List ℕ) → list_all is_no_hash text ≡ true → list_all is_in_word text ≡ true → 0 < length text → IsSolid text
solid_word text none all some = record { no_hash = none; ends = word_written text all; some = some }

-- ---- a word with a blank or nothing after it
first_solid : (byte : ℕ) (bytes : List ℕ) → list_all is_in_word (byte ∷ bytes) ≡ true → is_blank byte ≡ false
first_solid byte bytes all = not-true (is_blank byte) (and_parts (is_in_word byte) (list_all is_in_word bytes) all).0

tight : (w rest : List ℕ) → list_all is_in_word w ≡ true → 0 < length w → IsTight (w ++ rest)
tight [] rest all some = absurd (omega arith)
tight (byte ∷ bytes) rest all some = first_solid byte bytes all

pub one_word : (w rest : List ℕ) (at : ℕ) → list_all is_in_word w ≡ true → 0 < length w → prefix_len is_in_word rest ≡ 0 →
    words (w ++ rest) 0 at ≡ record { place = at; text = w } ∷ words rest 0 (at + length w)
one_word w rest at all some none =
    first_words (w ++ rest) at (tight w rest all some) (omega (arith, length-append w rest, some))
    ∙ ap (λ n. record { place = at; text = take n (w ++ rest) } ∷ words (drop n (w ++ rest)) 0 (at + n)) (run_whole is_in_word w rest all none)
    ∙ ap (λ t. record { place = at; text = t } ∷ words (drop (length w) (w ++ rest)) 0 (at + length w)) (take-append_seam w rest)
    ∙ ap (λ r. record { place = at; text = w } ∷ words r 0 (at + length w)) (drop-append_seam w rest)

pub last_word : (w : List ℕ) (at : ℕ) → list_all is_in_word w ≡ true → 0 < length w →
    words w 0 at ≡ record { place = at; text = w } ∷ []
last_word w at all some =
    ap (λ t. words t 0 at) (sym (append-nil w)) ∙ one_word w [] at all some refl

pub no_blanks : (w rest : List ℕ) → list_all is_in_word w ≡ true → 0 < length w → prefix_len is_blank (w ++ rest) ≡ 0
no_blanks [] rest all some = absurd (omega arith)
no_blanks (byte ∷ bytes) rest all some = rw (first_solid byte bytes all) refl
