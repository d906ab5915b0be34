-- The tokens of the printed text are those of the formula as it is printed.
use Rattle.std.proofs.lemmas.Bool.{and_from}
use Rattle.std.specs.Prelude.{◌≡◌, ℕ, zero, suc, ◌+◌, ◌-◌, ◌≤◌, Bool, true, false, cond, nat_lt, nat_le, ℤ, pos, negsuc, unsigned_abs, List, [], ◌∷◌, ◌++◌, length, take, drop, codes, decimal, None, Some, refl}
use Rattle.std.proofs.Common.{sym, ap, ◌∙◌, arith, append_assoc}
use mathlib.Core.List.{append-nil}
use Rattle.std.proofs.Math.Seq.{take-append_seam, drop-append_seam}
use Rattle.std.proofs.lemmas.Bool.Decides.{nat_tests}
use Rattle.std.proofs.lemmas.Fmt.{decimal_digit}
use Rattle.std.specs.List.{list_all, prefix_len}
use Rattle.std.specs.Char.{is_ascii_digit}
use Rattle.line_text.proofs.WrittenTexts.{run_whole}
use Rattle.decimal18.specs.Bound.{Bound}
use Rattle.decimal18.specs.Literal.{parsed}
use Rattle.decimal18.specs.Text.{text_of}
use Rattle.decimal18.proofs.TextAgain.{read_again}
use Rattle.formula_ast.specs.Names.{begins_name, is_name}
use Rattle.formula_ast.specs.Trees.{Tree, Number, Variable, Opposite, Joined, Raised}
use Rattle.line_text.specs.Blanks.{is_blank}
use Rattle.formula_ast.specs.Tokens.{goes_on_run, literal_len, bound_in, power_of, is_glued, number_kind, name_kind, mark_kind, len_of, kind_of, Token, tokens, kinds}
use Rattle.formula_ast.specs.Grammar.{Written, Both, Powered, Group, tight, spelling, exponent_spelling}
use Rattle.formula_ast.specs.Printing.{binding, symbol, guarded, exponent_text, print}
use Rattle.formula_ast.specs.declared.token.Sign.{Sign}
use Rattle.formula_ast.specs.declared.token.Sign.TheVariants.{Plus, Minus}
use Rattle.formula_ast.specs.declared.token.Kind.{Kind}
use Rattle.formula_ast.specs.declared.token.Kind.TheVariants.{Number as NumberToken, Name, Joins, Hat, Open, Close, Glued, Wrong}
use Rattle.formula_ast.proofs.Printed.{in_parentheses, is_below, as_written}
use Rattle.formula_ast.proofs.PrintedNumbers.{IsPrintable, no_run, IsNumeral, decimal_numeral, text_numeral}

-- ---- what the tokens are, without their places
abbrev pub words : List ℕ → ℕ → List Kind
words [] skip = []
words (byte ∷ bytes) (suc skip) = words bytes skip
words (byte ∷ bytes) zero =
    cond (is_blank byte) (words bytes 0) (kind_of (byte ∷ bytes) ∷ words bytes (len_of (byte ∷ bytes) - 1))

kinds_cond : (t : Bool) (x y : List Token) (r : Token) (a b : List Kind) → kinds x ≡ a → kinds y ≡ b
    → kinds (cond t x (r ∷ y)) ≡ cond t a (r.kind ∷ b)
kinds_cond true x y r a b h k = h
kinds_cond false x y r a b h k = ap (λ ks. r.kind ∷ ks) k

pub kinds_words : (text : List ℕ) (skip at : ℕ) → kinds (tokens text skip at) ≡ words text skip
kinds_words [] skip at = refl
kinds_words (byte ∷ bytes) (suc skip) at = kinds_words bytes skip (at + 1)
kinds_words (byte ∷ bytes) zero at =
    kinds_cond (is_blank byte) (tokens bytes 0 (at + 1)) (tokens bytes (len_of (byte ∷ bytes) - 1) (at + 1))
    (record { place = at; kind = kind_of (byte ∷ bytes); len = len_of (byte ∷ bytes) })
    (words bytes 0) (words bytes (len_of (byte ∷ bytes) - 1))
    (kinds_words bytes 0 (at + 1)) (kinds_words bytes (len_of (byte ∷ bytes) - 1) (at + 1))

words_drop : (text : List ℕ) (skip : ℕ) → words text skip ≡ words (drop skip text) 0
words_drop [] zero = refl
words_drop [] (suc skip) = refl
words_drop (byte ∷ bytes) zero = refl
words_drop (byte ∷ bytes) (suc skip) = words_drop bytes skip

-- ---- the token at the start
first_words : (c : ℕ) (cs rest : List ℕ) (k : Kind) → is_blank c ≡ false → len_of (c ∷ (cs ++ rest)) ≡ suc (length cs)
    → kind_of (c ∷ (cs ++ rest)) ≡ k → words (c ∷ (cs ++ rest)) 0 ≡ k ∷ words rest 0
first_words c cs rest k blank len kind =
    let less : len_of (c ∷ (cs ++ rest)) - 1 ≡ length cs = omega (arith, len) in
    ap (λ t. cond t (words (cs ++ rest) 0) (kind_of (c ∷ (cs ++ rest)) ∷ words (cs ++ rest) (len_of (c ∷ (cs ++ rest)) - 1))) blank
    ∙ ap (λ j. j ∷ words (cs ++ rest) (len_of (c ∷ (cs ++ rest)) - 1)) kind
    ∙ ap (λ n. k ∷ words (cs ++ rest) n) less
    ∙ ap (λ ks. k ∷ ks) (words_drop (cs ++ rest) (length cs) ∙ ap (λ t. words t 0) (drop-append_seam cs rest))

-- a number
number_first : (c : ℕ) (cs rest : List ℕ) → is_ascii_digit c ≡ true → literal_len (c ∷ (cs ++ rest)) ≡ suc (length cs) → is_glued rest ≡ false
    → words (c ∷ (cs ++ rest)) 0 ≡ NumberToken (bound_in (parsed (c ∷ cs))) (power_of (c ∷ cs)) ∷ words rest 0
number_first c cs rest d whole h =
    let blank : is_blank c ≡ false = grind (arith, nat_tests) in
    let len : len_of (c ∷ (cs ++ rest)) ≡ suc (length cs) =
    ap (λ t. cond t (literal_len (c ∷ (cs ++ rest))) (cond (begins_name c) (prefix_len goes_on_run (c ∷ (cs ++ rest))) 1)) d ∙ whole in
    let text = c ∷ (cs ++ rest) in
    let kind : kind_of text ≡ NumberToken (bound_in (parsed (c ∷ cs))) (power_of (c ∷ cs)) =
    ap (λ t. cond t (number_kind (take (len_of text) text) (drop (len_of text) text)) (cond (begins_name c) (name_kind (take (len_of text) text)) (mark_kind c))) d
    ∙ ap (λ n. number_kind (take n text) (drop n text)) len
    ∙ ap (λ l. number_kind l (drop (suc (length cs)) text)) (take-append_seam (c ∷ cs) rest)
    ∙ ap (λ r. number_kind (c ∷ cs) r) (drop-append_seam (c ∷ cs) rest)
    ∙ ap (λ t. cond t Glued (NumberToken (bound_in (parsed (c ∷ cs))) (power_of (c ∷ cs)))) h in
    first_words c cs rest (NumberToken (bound_in (parsed (c ∷ cs))) (power_of (c ∷ cs))) blank len kind

number_words : (w rest : List ℕ) → IsNumeral w → is_glued rest ≡ false
    → words (w ++ rest) 0 ≡ NumberToken (bound_in (parsed w)) (power_of w) ∷ words rest 0
number_words [] rest n h =
    let no : false ≡ true = n.begins in
    absurd (cc)
number_words (c ∷ cs) rest n h = number_first c cs rest n.begins (n.whole rest h) h

-- a name
pub record IsNameToken (n : List ℕ) : Type 0 where
  pub named : is_name n ≡ true
  pub run : list_all goes_on_run n ≡ true

abbrev starts_name : List ℕ → Bool
starts_name [] = false
starts_name (c ∷ cs) = begins_name c

name_first : (c : ℕ) (cs rest : List ℕ) → begins_name c ≡ true → IsNameToken (c ∷ cs) → is_glued rest ≡ false
    → words (c ∷ (cs ++ rest)) 0 ≡ Name (c ∷ cs) ∷ words rest 0
name_first c cs rest b n h =
    let blank : is_blank c ≡ false = grind (arith, nat_tests) in
    let digit : is_ascii_digit c ≡ false = grind (arith, nat_tests) in
    let text = c ∷ (cs ++ rest) in
    let whole : prefix_len goes_on_run text ≡ suc (length cs) = run_whole goes_on_run (c ∷ cs) rest n.run (no_run rest h) in
    let len : len_of text ≡ suc (length cs) =
    ap (λ t. cond t (literal_len text) (cond (begins_name c) (prefix_len goes_on_run text) 1)) digit
    ∙ ap (λ t. cond t (prefix_len goes_on_run text) 1) b ∙ whole in
    let kind : kind_of text ≡ Name (c ∷ cs) =
    ap (λ t. cond t (number_kind (take (len_of text) text) (drop (len_of text) text)) (cond (begins_name c) (name_kind (take (len_of text) text)) (mark_kind c))) digit
    ∙ ap (λ t. cond t (name_kind (take (len_of text) text)) (mark_kind c)) b
    ∙ ap (λ m. name_kind (take m text)) len
    ∙ ap name_kind (take-append_seam (c ∷ cs) rest)
    ∙ ap (λ t. cond t (Name (c ∷ cs)) Wrong) n.named in
    first_words c cs rest (Name (c ∷ cs)) blank len kind

name_words : (w rest : List ℕ) → starts_name w ≡ true → IsNameToken w → is_glued rest ≡ false → words (w ++ rest) 0 ≡ Name w ∷ words rest 0
name_words [] rest b n h = absurd (cc)
name_words (c ∷ cs) rest b n h = name_first c cs rest b n h

-- ---- formulas that may be read: unsigned bounds, names, exponents from 1 to 9
pub record IsNamed (n : List ℕ) : Type 0 where
  pub begins : starts_name n ≡ true
  pub token : IsNameToken n

abbrev pub IsDigit : ℕ → Type 0
IsDigit n = (1 ≤ n) × (n ≤ 9)

abbrev pub IsRegular : Tree → Type 0
IsRegular (Number q) = IsPrintable q
IsRegular (Variable n) = IsNamed n
IsRegular (Opposite a) = IsRegular a
IsRegular (Joined s a b) = IsRegular a × IsRegular b
IsRegular (Raised a k) = IsRegular a × IsDigit (unsigned_abs k)

-- ---- the tokens of the printed text
number_printed : (q : Bound) → IsPrintable q → (rest : List ℕ) → is_glued rest ≡ false
    → words (text_of q ++ rest) 0 ≡ NumberToken (Some q) (power_of (text_of q)) ∷ words rest 0
number_printed q h rest g =
    number_words (text_of q) rest (text_numeral q h) g
    ∙ ap (λ r. NumberToken (bound_in r) (power_of (text_of q)) ∷ words rest 0) (read_again q h.bound h.canonical)

power_printed : (n : ℕ) → IsDigit n → power_of (decimal n) ≡ Some n
power_printed n h =
    let least : nat_le 49 (48 + n) ≡ true = grind (arith, nat_tests, h.0) in
    let most : nat_le (48 + n) 57 ≡ true = grind (arith, nat_tests, h.1) in
    let less : 48 + n - 48 ≡ n = omega arith in
    ap power_of (decimal_digit n (omega (arith, h.1)))
    ∙ ap (λ t. cond t (Some (48 + n - 48)) None) (and_from (nat_le 49 (48 + n)) (nat_le (48 + n) 57) least most)
    ∙ ap Some less

digit_printed : (n : ℕ) → IsDigit n → (rest : List ℕ) → is_glued rest ≡ false
    → words (decimal n ++ rest) 0 ≡ NumberToken (bound_in (parsed (decimal n))) (Some n) ∷ words rest 0
digit_printed n h rest g =
    number_words (decimal n) rest (decimal_numeral n (omega (arith, h.1))) g
    ∙ ap (λ p. NumberToken (bound_in (parsed (decimal n))) p ∷ words rest 0) (power_printed n h)

exponent_printed : (k : ℤ) → IsDigit (unsigned_abs k) → (rest : List ℕ) → is_glued rest ≡ false
    → words (exponent_text k ++ rest) 0
    ≡ exponent_spelling (is_below k) (bound_in (parsed (decimal (unsigned_abs k)))) (Some (unsigned_abs k)) ++ words rest 0
exponent_printed (pos n) h rest g = digit_printed n h rest g
exponent_printed (negsuc n) h rest g = ap (λ ks. Joins Minus ∷ ks) (digit_printed (suc n) h rest g)

symbol_words : (s : Sign) (rest : List ℕ) → words (symbol s ++ rest) 0 ≡ Joins s ∷ words rest 0
symbol_words Plus rest = refl
symbol_words s rest = refl

symbol_parts : (s : Sign) (rest : List ℕ) → is_glued (symbol s ++ rest) ≡ false
symbol_parts Plus rest = refl
symbol_parts s rest = refl

abbrev PrintsAs : List ℕ → Written → Type 0
PrintsAs text w = (rest : List ℕ) → is_glued rest ≡ false → words (text ++ rest) 0 ≡ spelling w ++ words rest 0

guarded_words : (t : Bool) (text : List ℕ) (w : Written) → PrintsAs text w → PrintsAs (cond t (codes "(" ++ text ++ codes ")") text) (cond t (Group w) w)
guarded_words false text w h rest g = h rest g
guarded_words true text w h rest g =
    ap (λ t. Open ∷ words t 0) (append_assoc text (41 ∷ []) rest)
    ∙ ap (λ ks. Open ∷ ks) (h (41 ∷ rest) refl)
    ∙ ap (λ ks. Open ∷ ks) (sym (append_assoc (spelling w) (Close ∷ []) (words rest 0)))

guard_of : (least : ℕ) (f : Tree) → PrintsAs (print f) (as_written f) → PrintsAs (guarded least f (print f)) (in_parentheses least f (as_written f))
guard_of least f h = guarded_words (nat_lt (binding f) least) (print f) (as_written f) h

joined_words : (s : Sign) (a b : List ℕ) (v w : Written) → PrintsAs a v → PrintsAs b w → PrintsAs (a ++ symbol s ++ b) (Both s v w)
joined_words s a b v w h k rest g =
    ap (λ t. words t 0) (regroup a (symbol s) b rest)
    ∙ h (symbol s ++ (b ++ rest)) (symbol_parts s (b ++ rest))
    ∙ ap (λ ks. spelling v ++ ks) (symbol_words s (b ++ rest) ∙ ap (λ ks. Joins s ∷ ks) (k rest g))
    ∙ sym (append_assoc (spelling v) (Joins s ∷ spelling w) (words rest 0)) where
      regroup : (x y z r : List ℕ) → (x ++ y ++ z) ++ r ≡ x ++ (y ++ (z ++ r))
      regroup x y z r = simp append_assoc

raised_words : (a : List ℕ) (v : Written) (k : ℤ) → PrintsAs a v → IsDigit (unsigned_abs k)
    → PrintsAs (a ++ codes "^" ++ exponent_text k) (Powered v (is_below k) (bound_in (parsed (decimal (unsigned_abs k)))) (Some (unsigned_abs k)))
raised_words a v k h d rest g =
    let exponent = exponent_spelling (is_below k) (bound_in (parsed (decimal (unsigned_abs k)))) (Some (unsigned_abs k)) in
    ap (λ t. words t 0) (regroup a (codes "^") (exponent_text k) rest)
    ∙ h (94 ∷ (exponent_text k ++ rest)) refl
    ∙ ap (λ ks. spelling v ++ Hat ∷ ks) (exponent_printed k d rest g)
    ∙ sym (append_assoc (spelling v) (Hat ∷ exponent) (words rest 0)) where
      regroup : (x y z r : List ℕ) → (x ++ y ++ z) ++ r ≡ x ++ (y ++ (z ++ r))
      regroup x y z r = simp append_assoc

pub print_words : (f : Tree) → IsRegular f → PrintsAs (print f) (as_written f)
print_words (Number q) h rest g = number_printed q h rest g
print_words (Variable n) h rest g = name_words n rest h.begins h.token g
print_words (Opposite a) h rest g = ap (λ ks. Joins Minus ∷ ks) (guard_of 2 a (print_words a h) rest g)
print_words (Joined s a b) h rest g =
    joined_words s (guarded (tight s) a (print a)) (guarded (suc (tight s)) b (print b))
    (in_parentheses (tight s) a (as_written a)) (in_parentheses (suc (tight s)) b (as_written b))
    (guard_of (tight s) a (print_words a h.0)) (guard_of (suc (tight s)) b (print_words b h.1)) rest g
print_words (Raised a k) h rest g =
    raised_words (guarded 4 a (print a)) (in_parentheses 4 a (as_written a)) k (guard_of 4 a (print_words a h.0)) h.1 rest g

pub printed_kinds : (f : Tree) → IsRegular f → kinds (tokens (print f) 0 0) ≡ spelling (as_written f)
printed_kinds f h =
    kinds_words (print f) 0 0 ∙ ap (λ t. words t 0) (sym (append-nil (print f))) ∙ print_words f h [] refl
    ∙ append-nil (spelling (as_written f))
