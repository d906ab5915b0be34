-- The printed text of a formula that was read is read as the formula again.
use Rattle.std.proofs.lemmas.Bool.{and_from}
use Rattle.std.specs.Prelude.{◌≡◌, ℕ, zero, suc, ◌+◌, ◌-◌, ◌≤◌, ◌==◌, ◌&&◌, Bool, true, false, cond, nat_le, unsigned_abs, List, [], ◌∷◌, ◌++◌, take, drop, Option, None, Some, IfSome, count_by, Ok, refl}
use Rattle.std.proofs.Common.{sym, ap, subst, ◌∙◌, arith}
use Rattle.std.proofs.lemmas.List.Sums.{sum_by-append}
use Rattle.std.proofs.lemmas.Bool.Decides.{nat_tests}
use Rattle.std.specs.List.{list_all, prefix_len}
use Rattle.std.specs.Char.{is_ascii_digit}
use Rattle.decimal18.specs.Bound.{Bound}
use Rattle.decimal18.specs.Literal.{parsed}
use Rattle.formula_ast.specs.Names.{begins_name, is_name}
use Rattle.formula_ast.specs.Trees.{Tree, nodes}
use Rattle.line_text.specs.Blanks.{is_blank}
use Rattle.formula_ast.specs.Tokens.{goes_on_run, literal_len, bound_in, power_of, is_glued, number_kind, name_kind, mark_kind, len_of, kind_of, tokens, kinds, kinds_in}
use Rattle.formula_ast.specs.Grammar.{Written, Digits, Word, Minused, Both, Powered, Group, spelling, exponent_spelling, number_of, exponent_of, meant, Spells, SpellsText}
use Rattle.formula_ast.specs.Machine.{writings, first_stage, run}
use Rattle.formula_ast.specs.Printing.{print}
use Rattle.formula_ast.specs.Reading.{is_open, most_nodes, reading_of}
use Rattle.formula_ast.specs.declared.token.Kind.{Kind}
use Rattle.formula_ast.specs.declared.token.Kind.TheVariants.{Number, Name, Joins, Hat, Open, Close, Glued, Wrong}
use Rattle.formula_ast.proofs.Sound.{read_spelt}
use Rattle.formula_ast.proofs.Complete.{written_again}
use Rattle.formula_ast.proofs.Guards.{cond_holds}
use Rattle.formula_ast.proofs.Nesting.{Has, Fits}
use Rattle.formula_ast.proofs.AgainNodes.{some_is, reading_few, reading_fits, reading_again}
use Rattle.formula_ast.proofs.Printed.{as_written, printed_grammatical, printed_means, prints_flat, groups, prints_lean}
use Rattle.formula_ast.proofs.PrintedNumbers.{IsPrintable, read_printable, empty_none}
use Rattle.formula_ast.proofs.PrintedTokens.{words, kinds_words, IsNamed, IsDigit, IsRegular, printed_kinds}

-- ---- the tokens that texts have
abbrev pub IsKindRegular : Kind → Type 0
IsKindRegular (Number value power) = IfSome value IsPrintable × IfSome power IsDigit
IsKindRegular (Name name) = IsNamed name
IsKindRegular k = Unit {0}

abbrev pub AreRegular : List Kind → Type 0
AreRegular [] = Unit {0}
AreRegular (k ∷ ks) = IsKindRegular k × AreRegular ks

mark_regular : (byte : ℕ) → IsKindRegular (mark_kind byte)
mark_regular byte =
    mark (byte == 43) _ _ tt (mark (byte == 45) _ _ tt (mark (byte == 42) _ _ tt (mark (byte == 47) _ _ tt
    (mark (byte == 94) _ _ tt (mark (byte == 40) _ _ tt (mark (byte == 41) _ _ tt tt)))))) where
      mark : (t : Bool) (a b : Kind) → IsKindRegular a → IsKindRegular b → IsKindRegular (cond t a b)
      mark = cond_holds IsKindRegular

-- a number
value_regular : (o : Option Bound) → ((q : Bound) → o ≡ Some q → IsPrintable q) → IfSome o IsPrintable
value_regular None h = tt
value_regular (Some q) h = h q refl

first_regular : (n byte : ℕ) (bytes : List ℕ) → is_ascii_digit byte ≡ true → IfSome (bound_in (parsed (take n (byte ∷ bytes)))) IsPrintable
first_regular zero byte bytes d = rw empty_none tt
first_regular (suc n) byte bytes d =
    value_regular (bound_in (parsed (byte ∷ take n bytes))) (λ q e. read_printable byte (take n bytes) q d e)

power_regular : (literal : List ℕ) → IfSome (power_of literal) IsDigit
power_regular [] = tt
power_regular (byte ∷ []) = by (nat_le 49 byte) refl (nat_le byte 57) refl where
  by : (a : Bool) → nat_le 49 byte ≡ a → (b : Bool) → nat_le byte 57 ≡ b → IfSome (cond (a && b) (Some (byte - 48)) None) IsDigit
  by false e b f = tt
  by true e false f = tt
  by true e true f =
      let least : 49 ≤ byte = grind (arith, nat_tests) in
      let most : byte ≤ 57 = grind (arith, nat_tests) in
      (omega arith, omega arith)
power_regular (byte ∷ other ∷ others) = tt

number_regular : (n byte : ℕ) (bytes rest : List ℕ) → is_ascii_digit byte ≡ true → IsKindRegular (number_kind (take n (byte ∷ bytes)) rest)
number_regular n byte bytes rest d =
    cond_holds IsKindRegular (is_glued rest) Glued (Number (bound_in (parsed (take n (byte ∷ bytes)))) (power_of (take n (byte ∷ bytes)))) tt
    (first_regular n byte bytes d, power_regular (take n (byte ∷ bytes)))

-- a name
run_all : (p : ℕ → Bool) (text : List ℕ) → list_all p (take (prefix_len p text) text) ≡ true
run_all p [] = refl
run_all p (c ∷ cs) = by (p c) refl (run_all p cs) where
  by : (t : Bool) → p c ≡ t → list_all p (take (prefix_len p cs) cs) ≡ true → list_all p (take (cond t (1 + prefix_len p cs) 0) (c ∷ cs)) ≡ true
  by false e h = refl
  by true e h =
      let one : 1 + prefix_len p cs ≡ suc (prefix_len p cs) = omega arith in
      ap (λ k. list_all p (take k (c ∷ cs))) one ∙ and_from (p c) (list_all p (take (prefix_len p cs) cs)) e h

named_regular : (run : List ℕ) → (is_name run ≡ true → IsNamed run) → IsKindRegular (name_kind run)
named_regular run h = by (is_name run) refl where
  by : (t : Bool) → is_name run ≡ t → IsKindRegular (cond t (Name run) Wrong)
  by true e = h e
  by false e = tt

run_named : (byte : ℕ) (bytes : List ℕ) → begins_name byte ≡ true → is_name (take (prefix_len goes_on_run (byte ∷ bytes)) (byte ∷ bytes)) ≡ true
    → IsNamed (take (prefix_len goes_on_run (byte ∷ bytes)) (byte ∷ bytes))
run_named byte bytes b h =
    named (prefix_len goes_on_run (byte ∷ bytes)) len (run_all goes_on_run (byte ∷ bytes)) h where
      goes : goes_on_run byte ≡ true
      goes = grind (arith, nat_tests)

      len : prefix_len goes_on_run (byte ∷ bytes) ≡ suc (prefix_len goes_on_run bytes)
      len = ap (λ t. cond t (1 + prefix_len goes_on_run bytes) 0) goes ∙ omega arith

      named : (n : ℕ) → n ≡ suc (prefix_len goes_on_run bytes) → list_all goes_on_run (take n (byte ∷ bytes)) ≡ true
          → is_name (take n (byte ∷ bytes)) ≡ true → IsNamed (take n (byte ∷ bytes))
      named zero e all name = absurd (omega arith)
      named (suc n) e all name = record { begins = b; token = record { named = name; run = all } }

kind_regular : (byte : ℕ) (bytes : List ℕ) → IsKindRegular (kind_of (byte ∷ bytes))
kind_regular byte bytes = by (is_ascii_digit byte) refl (begins_name byte) refl where
  text : List ℕ
  text = byte ∷ bytes

  by : (d : Bool) → is_ascii_digit byte ≡ d → (b : Bool) → begins_name byte ≡ b
      → IsKindRegular (cond d
      (number_kind (take (cond d (literal_len (byte ∷ bytes)) (cond b (prefix_len goes_on_run (byte ∷ bytes)) 1)) (byte ∷ bytes))
      (drop (cond d (literal_len (byte ∷ bytes)) (cond b (prefix_len goes_on_run (byte ∷ bytes)) 1)) (byte ∷ bytes)))
      (cond b (name_kind (take (cond d (literal_len (byte ∷ bytes)) (cond b (prefix_len goes_on_run (byte ∷ bytes)) 1)) (byte ∷ bytes))) (mark_kind byte)))
  by true d b e = number_regular (literal_len (byte ∷ bytes)) byte bytes (drop (literal_len (byte ∷ bytes)) (byte ∷ bytes)) d
  by false d true e =
      named_regular (take (prefix_len goes_on_run (byte ∷ bytes)) (byte ∷ bytes)) (run_named byte bytes e)
  by false d false e = mark_regular byte

words_regular : (text : List ℕ) (skip : ℕ) → AreRegular (words text skip)
words_regular [] skip = tt
words_regular (byte ∷ bytes) (suc skip) = words_regular bytes skip
words_regular (byte ∷ bytes) zero =
    cond_holds AreRegular (is_blank byte) (words bytes 0) (kind_of (byte ∷ bytes) ∷ words bytes (len_of (byte ∷ bytes) - 1))
    (words_regular bytes 0) (kind_regular byte bytes, words_regular bytes (len_of (byte ∷ bytes) - 1))

-- ---- the formulas that texts have
regular_parts : (xs ys : List Kind) → AreRegular (xs ++ ys) → AreRegular xs × AreRegular ys
regular_parts [] ys h = (tt, h)
regular_parts (k ∷ ks) ys h =
    let parts = regular_parts ks ys h.1 in
    ((h.0, parts.0), parts.1)

exponent_size : (minus : Bool) (n : ℕ) → unsigned_abs (exponent_of minus (Some n)) ≡ n
exponent_size false n = refl
exponent_size true zero = refl
exponent_size true (suc n) = refl

power_digit : (minus : Bool) (value : Option Bound) (power : Option ℕ) → Has power → AreRegular (exponent_spelling minus value power)
    → IsDigit (unsigned_abs (exponent_of minus power))
power_digit minus value None h k = absurd h
power_digit false value (Some n) h k = k.0.1
power_digit true value (Some n) h k = subst IsDigit (sym (exponent_size true n)) k.1.0.1

value_printable : (value : Option Bound) → Has value → IfSome value IsPrintable → IsPrintable (number_of value)
value_printable None h k = absurd h
value_printable (Some q) h k = k

regular_meant : (c : Written) (b : ℕ) → AreRegular (spelling c) → Fits b c → IsRegular (meant c)
regular_meant (Digits value power) b h f = value_printable value f.0 h.0.0
regular_meant (Word name) b h f = h.0
regular_meant (Minused a) b h f = regular_meant a (suc b) h.1 f
regular_meant (Both s a c) b h f =
    let parts = regular_parts (spelling a) (Joins s ∷ spelling c) h in
    (regular_meant a b parts.0 f.0, regular_meant c b parts.1.1 f.1)
regular_meant (Powered a minus value power) b h f =
    let parts = regular_parts (spelling a) (Hat ∷ exponent_spelling minus value power) h in
    (regular_meant a b parts.0 f.0, power_digit minus value power f.1 parts.1.1)
regular_meant (Group a) b h f =
    let parts = regular_parts (spelling a) (Close ∷ []) h.1 in
    regular_meant a (suc b) parts.0 f

-- ---- read, printed and read again
-- what a text that was read is written as
pub record WasRead (text : List ℕ) (f : Tree) : Type 0 where
  pub spells : SpellsText text f
  pub fits : Fits 0 spells.written
  pub few : nodes f ≤ most_nodes
  pub regular : IsRegular f

pub written_run : (text : List ℕ) (f : Tree) (h : SpellsText text f) → run writings first_stage (kinds (tokens text 0 0)) ≡ Some h.written
written_run text f h = ap (λ ks. run writings first_stage ks) (sym h.spelt) ∙ written_again h.written h.grammatical

pub was_read : (text : List ℕ) (f : Tree) → reading_of text ≡ Ok f → WasRead text f
unfolding reading_of
was_read text f h =
    let spells = read_spelt text f h in
    let c = spells.written in
    let fits : Fits 0 c =
    some_is (run writings first_stage (kinds (tokens text 0 0))) (Fits 0) c
    (reading_fits (tokens text 0 0) first_stage 0 0 f refl (omega arith, ((tt, tt), tt)) h) (written_run text f spells) in
    let tokens_regular : AreRegular (spelling c) =
    subst AreRegular (sym (spells.spelt ∙ kinds_words text 0 0)) (words_regular text 0) in
    record {
      spells = spells;
      fits = fits;
      few = reading_few (tokens text 0 0) first_stage 0 0 f refl (omega arith) h;
      regular = subst IsRegular spells.means (regular_meant c 0 tokens_regular fits);
    }

-- the numbers, names and exponents of what was read are those of tokens
pub read_regular : (text : List ℕ) (f : Tree) → reading_of text ≡ Ok f → IsRegular f
read_regular text f h = (was_read text f h).regular

pub read_again : (text : List ℕ) (f : Tree) → reading_of text ≡ Ok f → reading_of (print f) ≡ Ok f
unfolding reading_of
read_again text f h =
    let r = was_read text f h in
    let printed = as_written f in
    let fits : Fits 0 printed =
    subst (λ g. Fits 0 (as_written g)) r.spells.means ((prints_flat r.spells.written r.spells.grammatical).plain 0 r.fits) in
    let accepted : run writings first_stage (kinds (tokens (print f) 0 0)) ≡ Some printed =
    ap (λ ks. run writings first_stage ks) (printed_kinds f r.regular) ∙ written_again printed (printed_grammatical f) in
    let few : nodes (meant printed) ≤ most_nodes = subst (λ g. nodes g ≤ most_nodes) (sym (printed_means f)) r.few in
    reading_again (tokens (print f) 0 0) first_stage 0 0 printed refl fits refl few accepted ∙ ap Ok (printed_means f)

-- ---- the parentheses that are written
opens_append : (xs ys : List Kind) → count_by is_open (xs ++ ys) ≡ count_by is_open xs + count_by is_open ys
opens_append xs ys = sum_by-append (λ k. cond (is_open k) 1 0) xs ys

exponent_opens : (minus : Bool) (value : Option Bound) (power : Option ℕ) → count_by is_open (exponent_spelling minus value power) ≡ 0
exponent_opens false value power = refl
exponent_opens true value power = refl

opens_groups : (c : Written) → count_by is_open (spelling c) ≡ groups c
opens_groups (Digits value power) = refl
opens_groups (Word name) = refl
opens_groups (Minused a) = omega (arith, opens_groups a)
opens_groups (Both s a b) =
    let both = opens_append (spelling a) (Joins s ∷ spelling b) in
    omega (arith, both, opens_groups a, opens_groups b)
opens_groups (Powered a minus value power) =
    let both = opens_append (spelling a) (Hat ∷ exponent_spelling minus value power) in
    omega (arith, both, opens_groups a, exponent_opens minus value power)
opens_groups (Group a) =
    let both = opens_append (spelling a) (Close ∷ []) in
    let whole : count_by is_open (spelling (Group a)) ≡ 1 + count_by is_open (spelling a ++ Close ∷ []) = opens_append (Open ∷ []) (spelling a ++ Close ∷ []) in
    omega (arith, whole, both, opens_groups a)

pub fewest_parentheses : (text : List ℕ) (f : Tree) → reading_of text ≡ Ok f → (ks : List Kind) → Spells ks f
    → count_by is_open (kinds_in (print f)) ≤ count_by is_open ks
fewest_parentheses text f h ks s =
    let printed : count_by is_open (kinds_in (print f)) ≡ groups (as_written f) =
    ap (λ us. count_by is_open us) (printed_kinds f (was_read text f h).regular) ∙ opens_groups (as_written f) in
    let given : count_by is_open ks ≡ groups s.written = ap (λ us. count_by is_open us) (sym s.spelt) ∙ opens_groups s.written in
    let lean : groups (as_written f) ≤ groups s.written =
    subst (λ g. groups (as_written g) ≤ groups s.written) s.means (prints_lean s.written s.grammatical).plain in
    omega (arith, printed, given, lean)
