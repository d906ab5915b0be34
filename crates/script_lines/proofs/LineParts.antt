-- The first line of a text.
use Rattle.std.proofs.Common.{◌≡◌, ℕ, ◌+◌, ◌<◌, List, [], ◌∷◌, ◌++◌, length, get_or, length-append, take, drop, Option, Some, None, IfSome, IfNone, ap, ◌∙◌, sym, arith, eq-eqb}
use Rattle.std.proofs.lemmas.List.{get_or_append_left, take-append-le, drop-append-le}
use Rattle.std.proofs.lemmas.Bool.{eqb-true}
use Rattle.memchr.specs.Find.{IsFirstByte, is_byte}
use Rattle.formula_ast.proofs.Cuts.{IsFree, cut_at, cut_nowhere}
use Rattle.script_lines.specs.Items.{parts_of}

-- a text's first line, which a line feed ended, stays the same with more bytes after the text
abbrev pub HasLine : List ℕ → ℕ → Type 0
HasLine text len = (rest : List ℕ) → parts_of (text ++ rest) ≡ take len text ∷ parts_of (drop (len + 1) text ++ rest)

-- the first line feed ends the first line
pub more_parts : (text : List ℕ) (n : ℕ) → n < length text → IsFree text 10 n → get_or text n 0 ≡ 10 → HasLine text n
more_parts text n within h e rest =
    let same : (k : ℕ) → k < length text → get_or (text ++ rest) k 0 ≡ get_or text k 0 = λ k below. get_or_append_left text rest 0 k below in
    let free : IsFree (text ++ rest) 10 n = record { free = λ k below at. h.free k below (sym (same k (omega (arith, below, within))) ∙ at) } in
    cut_at (text ++ rest) 10 n (omega (arith, within, length-append text rest)) free (same n within ∙ e)
    ∙ ap (λ line. line ∷ parts_of (drop (n + 1) (text ++ rest))) (take-append-le n text rest (omega (arith, within)))
    ∙ ap (λ left. take n text ∷ parts_of left) (drop-append-le (n + 1) text rest (omega (arith, within)))

-- ---- a search for the first line feed
pub line_found : (text : List ℕ) (found : Option ℕ) → IsFirstByte (is_byte 10) text found → IfSome found (HasLine text)
line_found text None h = tt
line_found text (Some n) h =
    more_parts text n h.0.high (record { free = λ k below at. h.0.before k (omega arith) below (eq-eqb _ _ at) }) (eqb-true _ _ h.1)

pub line_within : (text : List ℕ) (found : Option ℕ) → IsFirstByte (is_byte 10) text found → IfSome found (λ n. n < length text)
line_within text None h = tt
line_within text (Some n) h = h.0.high

pub line_fed : (text : List ℕ) (found : Option ℕ) → IsFirstByte (is_byte 10) text found → IfSome found (λ n. get_or text n 0 ≡ 10)
line_fed text None h = tt
line_fed text (Some n) h = eqb-true _ _ h.1

pub no_line_found : (text : List ℕ) (found : Option ℕ) → IsFirstByte (is_byte 10) text found → IfNone found (parts_of text ≡ text ∷ [])
no_line_found text None h =
    cut_nowhere text 10 (length text) (omega arith) (record { free = λ k below at. h k (omega arith) below (eq-eqb _ _ at) })
no_line_found text (Some n) h = tt
