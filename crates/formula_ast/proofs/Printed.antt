-- A formula as it is printed, as a formula of the grammar with its parentheses.
use Rattle.std.specs.Prelude.{◌≡◌, ℕ, suc, ◌+◌, ◌≤◌, Bool, true, false, cond, nat_lt, ℤ, pos, negsuc, unsigned_abs, Option, Some, decimal, refl}
use Rattle.std.proofs.Common.{ap, ◌∙◌, arith}
use Rattle.std.proofs.lemmas.Bool.Decides.{nat_tests}
use Rattle.decimal18.specs.Bound.{Bound}
use Rattle.decimal18.specs.Text.{text_of}
use Rattle.decimal18.specs.Literal.{parsed}
use Rattle.formula_ast.specs.Trees.{Tree, Number, Variable, Opposite, Joined, Raised}
use Rattle.formula_ast.specs.Tokens.{bound_in, power_of}
use Rattle.formula_ast.specs.Grammar.{Written, Digits, Word, Minused, Both, Powered, Group, tight, rank, IsGrammatical, exponent_of, meant}
use Rattle.formula_ast.specs.Printing.{binding}
use Rattle.formula_ast.specs.declared.token.Sign.{Sign}
use Rattle.formula_ast.specs.declared.token.Sign.TheVariants.{Plus, Minus, Times, Over}
use Rattle.formula_ast.proofs.Guards.{cond_holds}
use Rattle.formula_ast.proofs.Nesting.{Fits, fits_less}

-- in parentheses where it binds less tightly than its place asks for
abbrev pub in_parentheses : ℕ → Tree → Written → Written
in_parentheses least f w = cond (nat_lt (binding f) least) (Group w) w

abbrev pub is_below : ℤ → Bool
is_below (pos n) = false
is_below (negsuc n) = true

abbrev pub as_written : Tree → Written
as_written (Number q) = Digits (Some q) (power_of (text_of q))
as_written (Variable n) = Word n
as_written (Opposite a) = Minused (in_parentheses 2 a (as_written a))
as_written (Joined s a b) = Both s (in_parentheses (tight s) a (as_written a)) (in_parentheses (suc (tight s)) b (as_written b))
as_written (Raised a k) =
    Powered (in_parentheses 4 a (as_written a)) (is_below k) (bound_in (parsed (decimal (unsigned_abs k)))) (Some (unsigned_abs k))

-- ---- it is grammatical
rank_printed : (f : Tree) → rank (as_written f) ≡ binding f
rank_printed (Number q) = refl
rank_printed (Variable n) = refl
rank_printed (Opposite a) = refl
rank_printed (Joined s a b) = refl
rank_printed (Raised a k) = refl

guarded_rank : (least : ℕ) (f : Tree) → least ≤ 4 → least ≤ rank (in_parentheses least f (as_written f))
guarded_rank least f h = by (nat_lt (binding f) least) refl where
  by : (t : Bool) → nat_lt (binding f) least ≡ t → least ≤ rank (cond t (Group (as_written f)) (as_written f))
  by true e = h
  by false e =
      let high : least ≤ binding f = grind (arith, nat_tests) in
      omega (arith, rank_printed f)

guarded_grammatical : (t : Bool) (w : Written) → IsGrammatical w → IsGrammatical (cond t (Group w) w)
guarded_grammatical t w h = cond_holds IsGrammatical t (Group w) w h h

tight_below : (s : Sign) → suc (tight s) ≤ 4
tight_below Plus = omega arith
tight_below Minus = omega arith
tight_below Times = omega arith
tight_below Over = omega arith

pub printed_grammatical : (f : Tree) → IsGrammatical (as_written f)
printed_grammatical (Number q) = tt
printed_grammatical (Variable n) = tt
printed_grammatical (Opposite a) =
    (guarded_rank 2 a (omega arith), guarded_grammatical (nat_lt (binding a) 2) (as_written a) (printed_grammatical a))
printed_grammatical (Joined s a b) = (
  guarded_rank (tight s) a (omega (arith, tight_below s)),
  (
    guarded_rank (suc (tight s)) b (tight_below s),
    (
      guarded_grammatical (nat_lt (binding a) (tight s)) (as_written a) (printed_grammatical a),
      guarded_grammatical (nat_lt (binding b) (suc (tight s))) (as_written b) (printed_grammatical b),
    ),
  ),
)
printed_grammatical (Raised a k) =
    (guarded_rank 4 a (omega arith), guarded_grammatical (nat_lt (binding a) 4) (as_written a) (printed_grammatical a))

-- ---- it means the formula
guarded_means : (t : Bool) (w : Written) → meant (cond t (Group w) w) ≡ meant w
guarded_means t w = cond_holds (λ v. meant v ≡ meant w) t (Group w) w refl refl

exponent_printed : (k : ℤ) → exponent_of (is_below k) (Some (unsigned_abs k)) ≡ k
exponent_printed (pos n) = refl
exponent_printed (negsuc n) = refl

pub printed_means : (f : Tree) → meant (as_written f) ≡ f
printed_means (Number q) = refl
printed_means (Variable n) = refl
printed_means (Opposite a) = ap Opposite (guarded_means (nat_lt (binding a) 2) (as_written a) ∙ printed_means a)
printed_means (Joined s a b) =
    ap (λ x. Joined s x (meant (in_parentheses (suc (tight s)) b (as_written b)))) (guarded_means (nat_lt (binding a) (tight s)) (as_written a) ∙ printed_means a)
    ∙ ap (λ x. Joined s a x) (guarded_means (nat_lt (binding b) (suc (tight s))) (as_written b) ∙ printed_means b)
printed_means (Raised a k) =
    ap (λ x. Raised x (exponent_of (is_below k) (Some (unsigned_abs k)))) (guarded_means (nat_lt (binding a) 4) (as_written a) ∙ printed_means a)
    ∙ ap (λ x. Raised a x) (exponent_printed k)

-- ---- it nests no deeper than any writing of the formula
pub record Flat (c : Written) : Type 0 where
  pub plain : (b : ℕ) → Fits b c → Fits b (as_written (meant c))
  pub guarded : (least b : ℕ) → least ≤ rank c → Fits b c → Fits b (in_parentheses least (meant c) (as_written (meant c)))

-- where it has the rank that it is printed at, no parentheses are put
no_guard : (c : Written) (least : ℕ) (P : Written → Type 0) → rank c ≤ binding (meant c) → least ≤ rank c
    → P (as_written (meant c)) → P (in_parentheses least (meant c) (as_written (meant c)))
no_guard c least P high low h = by (nat_lt (binding (meant c)) least) (grind (arith, nat_tests)) where
  by : (t : Bool) → t ≡ false → P (cond t (Group (as_written (meant c))) (as_written (meant c)))
  by true e = absurd (cc)
  by false e = h

not_guarded : (c : Written) → rank c ≤ binding (meant c) → ((b : ℕ) → Fits b c → Fits b (as_written (meant c))) → Flat c
not_guarded c high h = record {
  plain = h;
  guarded = λ least b low fits. no_guard c least (Fits b) high low (h b fits);
}

grouped : (a : Written) → Flat a → Flat (Group a)
grouped a h = record {
  plain = λ b fits. h.plain b (fits_less a b fits);
  guarded = λ least b low fits.
      let inside = h.plain (suc b) fits in
      cond_holds (Fits b) (nat_lt (binding (meant a)) least) (Group (as_written (meant a))) (as_written (meant a)) inside
      (fits_less (as_written (meant a)) b inside);
}

has_bound : (value : Option Bound) (power : Option ℕ) (b : ℕ) → Fits b (Digits value power) → Fits b (as_written (meant (Digits value power)))
has_bound value power b h = (tt, h.1)

pub prints_flat : (c : Written) → IsGrammatical c → Flat c
prints_flat (Digits value power) h = not_guarded (Digits value power) (omega arith) (has_bound value power)
prints_flat (Word name) h = not_guarded (Word name) (omega arith) (λ b f. f)
prints_flat (Minused a) h =
    let inside = prints_flat a h.1 in
    not_guarded (Minused a) (omega arith) (λ b f. inside.guarded 2 (suc b) h.0 f)
prints_flat (Both s a c) h =
    let left = prints_flat a h.1.1.0 in
    let right = prints_flat c h.1.1.1 in
    not_guarded (Both s a c) (omega arith) (λ b f. (left.guarded (tight s) b h.0 f.0, right.guarded (suc (tight s)) b h.1.0 f.1))
prints_flat (Powered a minus value power) h =
    let inside = prints_flat a h.1 in
    not_guarded (Powered a minus value power) (omega arith) (λ b f. (inside.guarded 4 b h.0 f.0, tt))
prints_flat (Group a) h = grouped a (prints_flat a h)

-- ---- it has no more parentheses than any writing of the formula
abbrev pub groups : Written → ℕ
groups (Digits value power) = 0
groups (Word name) = 0
groups (Minused a) = groups a
groups (Both s a b) = groups a + groups b
groups (Powered a minus value power) = groups a
groups (Group a) = suc (groups a)

pub record Lean (c : Written) : Type 0 where
  pub plain : groups (as_written (meant c)) ≤ groups c
  pub guarded : (least : ℕ) → least ≤ rank c → groups (in_parentheses least (meant c) (as_written (meant c))) ≤ groups c

not_grouped : (c : Written) → rank c ≤ binding (meant c) → groups (as_written (meant c)) ≤ groups c → Lean c
not_grouped c high h = record {
  plain = h;
  guarded = λ least low. no_guard c least (λ w. groups w ≤ groups c) high low h;
}

lean_group : (a : Written) → Lean a → Lean (Group a)
lean_group a h = record {
  plain = omega (arith, h.plain);
  guarded = λ least low. cond_holds (λ w. groups w ≤ suc (groups a)) (nat_lt (binding (meant a)) least) (Group (as_written (meant a)))
      (as_written (meant a)) (omega (arith, h.plain)) (omega (arith, h.plain));
}

pub prints_lean : (c : Written) → IsGrammatical c → Lean c
prints_lean (Digits value power) h = not_grouped (Digits value power) (omega arith) (omega arith)
prints_lean (Word name) h = not_grouped (Word name) (omega arith) (omega arith)
prints_lean (Minused a) h =
    let inside = prints_lean a h.1 in
    not_grouped (Minused a) (omega arith) (inside.guarded 2 h.0)
prints_lean (Both s a c) h =
    let left = prints_lean a h.1.1.0 in
    let right = prints_lean c h.1.1.1 in
    not_grouped (Both s a c) (omega arith) (omega (arith, left.guarded (tight s) h.0, right.guarded (suc (tight s)) h.1.0))
prints_lean (Powered a minus value power) h =
    let inside = prints_lean a h.1 in
    not_grouped (Powered a minus value power) (omega arith) (inside.guarded 4 h.0)
prints_lean (Group a) h = lean_group a (prints_lean a h)
