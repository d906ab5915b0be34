-- The tokens of a text, read one by one from its start.
use Rattle.std.proofs.Common.{◌≡◌, ℕ, ◌-◌, ◌<◌, ◌≤◌, ◌==◌, nat_le, ◌&&◌, Bool, true, false, cond, List, [], ◌∷◌, length, take, drop, get_or, refl, sym, ◌∙◌, arith, length-drop, Option, None, Some}
use Rattle.std.specs.List.{prefix_len}
use Rattle.std.specs.Char.{is_ascii_digit}
use Rattle.std.proofs.lemmas.List.Sums.{prefix_len-le-length}
use Rattle.std.proofs.lemmas.Bool.{eqb-true}
use Rattle.std.proofs.lemmas.Bool.Decides.{nat_tests}
use Rattle.line_text.specs.Blanks.{is_blank, IsTight}
use Rattle.line_text.proofs.PieceSteps.{blanks_tight, blanks_passed}
use Rattle.decimal18.specs.Literal.{parsed}
use Rattle.decimal18.specs.Bound.{Bound}
use Rattle.formula_ast.specs.Names.{begins_name, is_name}
use Rattle.formula_ast.specs.Tokens.{goes_on_run, literal_len, len_of, kind_of, is_glued, bound_in, number_kind, name_kind, mark_kind, power_of, Token, token_at, tokens}
use Rattle.formula_ast.specs.FirstTokens.{IsSmall, IsPassed, IsFirstToken}
use Rattle.formula_ast.specs.Reading.{is_open, opens_next}
use Rattle.formula_ast.specs.declared.token.Kind.{Kind}
use Rattle.formula_ast.specs.declared.token.Kind.TheVariants.{Number, Name, Glued, Wrong}

-- blanks are passed
pub passed : (text : List ℕ) → IsPassed text (drop (prefix_len is_blank text) text)
passed text =
    let n : ℕ = prefix_len is_blank text in
    let within : n ≤ length text = prefix_len-le-length is_blank text in
    let long : length (drop n text) ≡ length text - n = length-drop n text in
    let back : length text - length (drop n text) ≡ n = omega (arith, long, within) in
    record {
      tight = blanks_tight text;
      within = omega (arith, long);
      same = λ at. rw back (blanks_passed Token len_of token_at text at);
    }

-- ---- the token at the start
-- a name's first byte may stand in a run
run_goes_on : (byte : ℕ) → begins_name byte ≡ true → goes_on_run byte ≡ true
run_goes_on byte h = grind (arith, nat_tests)

first_positive : (byte : ℕ) (bytes : List ℕ) (d b : Bool) → is_ascii_digit byte ≡ d → begins_name byte ≡ b →
    0 < cond d (literal_len (byte ∷ bytes)) (cond b (prefix_len goes_on_run (byte ∷ bytes)) 1)
first_positive byte bytes true b e f = rw e (omega arith)
first_positive byte bytes false true e f = rw (run_goes_on byte f) (omega arith)
first_positive byte bytes false false e f = omega arith

pub some_len : (text : List ℕ) → 0 < length text → 0 < len_of text
some_len [] h = absurd (omega arith)
some_len (byte ∷ bytes) h = first_positive byte bytes (is_ascii_digit byte) (begins_name byte) refl refl

pub first_token_of : (text after : List ℕ) (len : ℕ) (kind : Kind) → 0 < length text → len ≡ len_of text → kind ≡ kind_of text →
    len ≤ length text → IsPassed (drop len text) after → IsFirstToken text len kind after
first_token_of text after len kind some long is within p =
    let rest : length (drop len text) ≡ length text - len = length-drop len text in
    record {
      positive = rw long (some_len text some);
      long = long;
      is = is;
      within = omega (arith, rest, p.within);
      same = λ at. rw (← rest) (p.same at);
    }

-- ---- exponents are small
small_cond : (t : Bool) (a b : Kind) → IsSmall a → IsSmall b → IsSmall (cond t a b)
small_cond true a b h k = h
small_cond false a b h k = k

small_digit : (value : Option Bound) (byte : ℕ) (t : Bool) → (nat_le 49 byte && nat_le byte 57) ≡ t →
    IsSmall (Number value (cond t (Some (byte - 48)) None))
small_digit value byte false e = tt
small_digit value byte true e = grind (arith, nat_tests)

small_number : (value : Option Bound) (literal : List ℕ) → IsSmall (Number value (power_of literal))
small_number value [] = tt
small_number value (byte ∷ []) = small_digit value byte (nat_le 49 byte && nat_le byte 57) refl
small_number value (byte ∷ other ∷ others) = tt

small_mark : (byte : ℕ) → IsSmall (mark_kind byte)
small_mark byte =
    small_cond (byte == 43) _ _ tt (small_cond (byte == 45) _ _ tt (small_cond (byte == 42) _ _ tt (small_cond (byte == 47) _ _ tt
    (small_cond (byte == 94) _ _ tt (small_cond (byte == 40) _ _ tt (small_cond (byte == 41) _ _ tt tt))))))

small_text : (byte : ℕ) (literal after run : List ℕ) →
    IsSmall (cond (is_ascii_digit byte) (number_kind literal after) (cond (begins_name byte) (name_kind run) (mark_kind byte)))
small_text byte literal after run =
    small_cond (is_ascii_digit byte) _ _
    (small_cond (is_glued after) Glued _ tt (small_number (bound_in (parsed literal)) literal))
    (small_cond (begins_name byte) _ _ (small_cond (is_name run) (Name run) Wrong tt tt) (small_mark byte))

pub small_kind : (text : List ℕ) → IsSmall (kind_of text)
small_kind [] = tt
small_kind (byte ∷ bytes) =
    let text : List ℕ = byte ∷ bytes in
    small_text byte (take (len_of text) text) (drop (len_of text) text) (take (len_of text) text)

-- ---- whether a parenthesis opens
open_cond : (t : Bool) (a b : Kind) → is_open a ≡ false → is_open b ≡ false → is_open (cond t a b) ≡ false
open_cond true a b h k = h
open_cond false a b h k = k

open_mark : (byte : ℕ) (t : Bool) → (byte == 40) ≡ t → t ≡ is_open (mark_kind byte)
open_mark byte true e = let h : byte ≡ 40 = eqb-true byte 40 e in rw h refl
open_mark byte false e = rw e (sym
    (open_cond (byte == 43) _ _ refl (open_cond (byte == 45) _ _ refl (open_cond (byte == 42) _ _ refl (open_cond (byte == 47) _ _ refl
    (open_cond (byte == 94) _ _ refl (open_cond (byte == 41) _ _ refl refl)))))))

no_open_digit : (byte : ℕ) → is_ascii_digit byte ≡ true → (byte == 40) ≡ false
no_open_digit byte h = grind (arith, nat_tests)

no_open_name : (byte : ℕ) → begins_name byte ≡ true → (byte == 40) ≡ false
no_open_name byte h = grind (arith, nat_tests)

open_text : (byte : ℕ) (literal after run : List ℕ) (d b : Bool) → is_ascii_digit byte ≡ d → begins_name byte ≡ b →
    (byte == 40) ≡ is_open (cond d (number_kind literal after) (cond b (name_kind run) (mark_kind byte)))
open_text byte literal after run true b e f =
    no_open_digit byte e ∙ sym (open_cond (is_glued after) Glued _ refl refl)
open_text byte literal after run false true e f =
    no_open_name byte f ∙ sym (open_cond (is_name run) (Name run) Wrong refl refl)
open_text byte literal after run false false e f = open_mark byte (byte == 40) refl

opens_next_kind : (text : List ℕ) (at : ℕ) → IsTight text → 0 < length text → opens_next (tokens text 0 at) ≡ is_open (kind_of text)
opens_next_kind [] at h some = absurd (omega arith)
opens_next_kind (byte ∷ bytes) at h some = rw h refl

open_kind : (text : List ℕ) → 0 < length text → (get_or text 0 0 == 40) ≡ is_open (kind_of text)
open_kind [] some = absurd (omega arith)
open_kind (byte ∷ bytes) some =
    let text : List ℕ = byte ∷ bytes in
    open_text byte (take (len_of text) text) (drop (len_of text) text) (take (len_of text) text)
    (is_ascii_digit byte) (begins_name byte) refl refl

pub open_first : (text : List ℕ) (at : ℕ) → IsTight text → 0 < length text → (get_or text 0 0 == 40) ≡ opens_next (tokens text 0 at)
open_first text at h some = open_kind text some ∙ sym (opens_next_kind text at h some)
