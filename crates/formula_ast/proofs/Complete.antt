-- What spells a formula is accepted as it, by the machine over any parts.
use Rattle.std.specs.Prelude.{◌≡◌, ℕ, suc, ◌+◌, ◌≤◌, ◌<◌, Bool, true, false, List, [], ◌∷◌, ◌++◌, Option, None, Some, IfSome, Result, Err, refl}
use Rattle.std.proofs.Common.{sym, ap, subst, ◌∙◌, arith, append_assoc}
use mathlib.Core.List.{append-nil}
use Rattle.decimal18.specs.Bound.{Bound}
use Rattle.formula_ast.specs.Trees.{Tree, Opposite, Joined, Raised}
use Rattle.formula_ast.specs.Tokens.{Token, tokens, kinds}
use Rattle.formula_ast.specs.Grammar.{Written, Digits, Word, Minused, Both, Powered, Group, tight, rank, IsGrammatical, spelling, exponent_spelling, exponent_of, meant, Spells, SpellsText}
use Rattle.formula_ast.specs.Machine.{Parts, trees, writings, Waiting, Stage, AtOperand, AtAtom, AtEnd, AtExponent, put, factor_done, fresh, minused, first_stage, adding, multiplying, signed_on, step, then_some, run}
use Rattle.formula_ast.specs.Reading.{at_end, unless_refused, goes_on, syntax_place, or_else, operand_fault, exponent_fault, word_fault, is_too_deep, refusal, opens_next, node_count, reading, reading_of}
use Rattle.formula_ast.specs.Rules.{IsReadOrRuled}
use Rattle.formula_ast.specs.declared.fault.FormulaFault.{FormulaFault}
use Rattle.formula_ast.specs.declared.fault.FormulaFault.TheVariants.{Syntax, UnknownFunction, TooMany, OutOfMemory}
use Rattle.formula_ast.specs.declared.token.Sign.{Sign}
use Rattle.formula_ast.specs.declared.token.Sign.TheVariants.{Plus, Minus, Times, Over}
use Rattle.formula_ast.specs.declared.token.Kind.{Kind}
use Rattle.formula_ast.specs.declared.token.Kind.TheVariants.{Number, Name, Joins, Hat, Close}
use Rattle.formula_ast.proofs.Guards.{cond_holds}

-- ---- what may follow a power and a term
abbrev pub NoHat : List Kind → Type 0
NoHat (Hat ∷ ks) = ⊥
NoHat ks = Unit {0}

abbrev pub EndsTerm : List Kind → Type 0
EndsTerm (Joins s ∷ ks) = tight s ≡ 0
EndsTerm (Hat ∷ ks) = ⊥
EndsTerm ks = Unit {0}

no_hat : (ks : List Kind) → EndsTerm ks → NoHat ks
no_hat (Hat ∷ ks) h = h
no_hat ks h = tt

module _ {A : Type 0} (m : Parts A) where
  -- the formula put together by these parts
  abbrev pub made : Written → A
  made (Digits value power) = m.number value power
  made (Word name) = m.variable name
  made (Minused a) = m.opposite (made a)
  made (Both s a b) = m.joined s (made a) (made b)
  made (Powered a minus value power) = m.raised (made a) minus value power
  made (Group a) = m.group (made a)

  atom_ends : (l : Waiting A) (x : A) (o : List (Waiting A)) (ks : List Kind) → NoHat ks
      → run m (AtAtom l x o) ks ≡ run m (AtEnd l.base l.added (factor_done m l x) o) ks
  atom_ends l x [] [] h = refl
  atom_ends l x (w ∷ o) [] h = refl
  atom_ends l x o (Hat ∷ ks) h = absurd h
  atom_ends l x o ks h = refl

  sum_sign : (b : ℕ) (left : Option (A × Sign)) (x : A) (o : List (Waiting A)) (s : Sign) → tight s ≡ 0
      → signed_on m b left x o s ≡ adding b (put m left x) s o
  sum_sign b left x o Plus h = refl
  sum_sign b left x o Minus h = refl
  sum_sign b left x o s h = absurd (omega arith)

  product_sign : (b : ℕ) (left : Option (A × Sign)) (x : A) (o : List (Waiting A)) (s : Sign) → tight s ≡ 1
      → signed_on m b left x o s ≡ multiplying b left x s o
  product_sign b left x o Times h = refl
  product_sign b left x o Over h = refl
  product_sign b left x o s h = absurd (omega arith)

  term_ends : (b : ℕ) (left : Option (A × Sign)) (x : A) (o : List (Waiting A)) (ks : List Kind) → EndsTerm ks
      → run m (AtEnd b left x o) ks ≡ run m (AtEnd b None (put m left x) o) ks
  term_ends b left x [] [] h = refl
  term_ends b left x (w ∷ o) [] h = refl
  term_ends b left x o (Joins s ∷ ks) h =
      ap (λ t. run m t ks) (sum_sign b left x o s h ∙ sym (sum_sign b None (put m left x) o s h))
  term_ends b left x o (Hat ∷ ks) h = absurd h
  term_ends b left x o ks h = refl

  -- ---- what the machine does with the tokens of a formula, as an atom, a factor, a term and a sum
  abbrev pub AtomRead : Written → Type 0
  AtomRead c = (l : Waiting A) (o : List (Waiting A)) (ks : List Kind)
      → run m (AtOperand l o) (spelling c ++ ks) ≡ run m (AtAtom l (made c) o) ks

  abbrev pub FactorRead : Written → Type 0
  FactorRead c = (l : Waiting A) (o : List (Waiting A)) (ks : List Kind) → NoHat ks
      → run m (AtOperand l o) (spelling c ++ ks) ≡ run m (AtEnd l.base l.added (factor_done m l (made c)) o) ks

  -- a term begins
  abbrev pub after_left : ℕ → Option (A × Sign) → Waiting A
  after_left b left = record { added = left; multiplied = None; minuses = 0; base = b }

  abbrev pub TermRead : Written → Type 0
  TermRead c = (b : ℕ) (left : Option (A × Sign)) (o : List (Waiting A)) (ks : List Kind) → NoHat ks
      → run m (AtOperand (after_left b left) o) (spelling c ++ ks) ≡ run m (AtEnd b left (made c) o) ks

  abbrev pub SumRead : Written → Type 0
  SumRead c = (b : ℕ) (o : List (Waiting A)) (ks : List Kind) → EndsTerm ks
      → run m (AtOperand (fresh b) o) (spelling c ++ ks) ≡ run m (AtEnd b None (made c) o) ks

  pub record Does (c : Written) : Type 0 where
    pub atom : 4 ≤ rank c → AtomRead c
    pub factor : 2 ≤ rank c → FactorRead c
    pub term : 1 ≤ rank c → TermRead c
    pub sum : SumRead c

  factor_of_atom : (c : Written) → AtomRead c → FactorRead c
  factor_of_atom c h l o ks n = h l o ks ∙ atom_ends l (made c) o ks n

  term_of_factor : (c : Written) → FactorRead c → TermRead c
  term_of_factor c h b left o ks n = h (after_left b left) o ks n

  sum_of_term : (c : Written) → TermRead c → SumRead c
  sum_of_term c h b o ks e = h b None o ks (no_hat ks e)

  does_atom : (c : Written) → AtomRead c → Does c
  does_atom c h =
      let factor = factor_of_atom c h in
      let term = term_of_factor c factor in
      record { atom = λ r. h; factor = λ r. factor; term = λ r. term; sum = sum_of_term c term }

  does_factor : (c : Written) → rank c < 4 → FactorRead c → Does c
  does_factor c low h =
      let term = term_of_factor c h in
      record { atom = λ r. absurd (omega arith); factor = λ r. h; term = λ r. term; sum = sum_of_term c term }

  does_term : (c : Written) → rank c < 2 → TermRead c → Does c
  does_term c low h = record {
    atom = λ r. absurd (omega arith);
    factor = λ r. absurd (omega arith);
    term = λ r. h;
    sum = sum_of_term c h;
  }

  does_sum : (c : Written) → rank c < 1 → SumRead c → Does c
  does_sum c low h = record {
    atom = λ r. absurd (omega arith);
    factor = λ r. absurd (omega arith);
    term = λ r. absurd (omega arith);
    sum = h;
  }

  group_read : (a : Written) → Does a → AtomRead (Group a)
  group_read a h l o ks =
      ap (λ t. run m (AtOperand (fresh (suc (l.base + l.minuses))) (l ∷ o)) t) (append_assoc (spelling a) (Close ∷ []) ks)
      ∙ h.sum (suc (l.base + l.minuses)) (l ∷ o) (Close ∷ ks) tt

  minused_read : (a : Written) → 2 ≤ rank a → Does a → FactorRead (Minused a)
  minused_read a r h l o ks n = h.factor r (minused l) o ks n

  exponent_read : (a : Written) (minus : Bool) (value : Option Bound) (power : Option ℕ) (l : Waiting A) (o : List (Waiting A)) (ks : List Kind)
      → run m (AtAtom l (made a) o) (Hat ∷ (exponent_spelling minus value power ++ ks))
      ≡ run m (AtEnd l.base l.added (factor_done m l (m.raised (made a) minus value power)) o) ks
  exponent_read a false value power l o ks = refl
  exponent_read a true value power l o ks = refl

  powered_read : (a : Written) (minus : Bool) (value : Option Bound) (power : Option ℕ) → 4 ≤ rank a → Does a
      → FactorRead (Powered a minus value power)
  powered_read a minus value power r h l o ks n =
      ap (λ t. run m (AtOperand l o) t) (append_assoc (spelling a) (Hat ∷ exponent_spelling minus value power) ks)
      ∙ h.atom r l o (Hat ∷ (exponent_spelling minus value power ++ ks))
      ∙ exponent_read a minus value power l o ks

  sum_read : (s : Sign) (a b : Written) → tight s ≡ 0 → 1 ≤ rank b → Does a → Does b → SumRead (Both s a b)
  sum_read s a b t r f g n o ks e =
      ap (λ w. run m (AtOperand (fresh n) o) w) (append_assoc (spelling a) (Joins s ∷ spelling b) ks)
      ∙ f.sum n o (Joins s ∷ (spelling b ++ ks)) t
      ∙ ap (λ w. run m w (spelling b ++ ks)) (sum_sign n None (made a) o s t)
      ∙ g.term r n (Some (made a, s)) o ks (no_hat ks e)
      ∙ term_ends n (Some (made a, s)) (made b) o ks e

  product_read : (s : Sign) (a b : Written) → tight s ≡ 1 → 1 ≤ rank a → 2 ≤ rank b → Does a → Does b → TermRead (Both s a b)
  product_read s a b t q r f g n left o ks e =
      ap (λ w. run m (AtOperand (after_left n left) o) w) (append_assoc (spelling a) (Joins s ∷ spelling b) ks)
      ∙ f.term q n left o (Joins s ∷ (spelling b ++ ks)) tt
      ∙ ap (λ w. run m w (spelling b ++ ks)) (product_sign n left (made a) o s t)
      ∙ g.factor r (record { added = left; multiplied = Some (made a, s); minuses = 0; base = n }) o ks e

  pub does : (c : Written) → IsGrammatical c → Does c
  does (Digits value power) h = does_atom (Digits value power) (λ l o ks. refl)
  does (Word name) h = does_atom (Word name) (λ l o ks. refl)
  does (Minused a) h = does_factor (Minused a) (omega arith) (minused_read a h.0 (does a h.1))
  does (Both Plus a b) h = does_sum (Both Plus a b) (omega arith) (sum_read Plus a b refl h.1.0 (does a h.1.1.0) (does b h.1.1.1))
  does (Both Minus a b) h = does_sum (Both Minus a b) (omega arith) (sum_read Minus a b refl h.1.0 (does a h.1.1.0) (does b h.1.1.1))
  does (Both Times a b) h = does_term (Both Times a b) (omega arith) (product_read Times a b refl h.0 h.1.0 (does a h.1.1.0) (does b h.1.1.1))
  does (Both Over a b) h = does_term (Both Over a b) (omega arith) (product_read Over a b refl h.0 h.1.0 (does a h.1.1.0) (does b h.1.1.1))
  does (Powered a minus value power) h = does_factor (Powered a minus value power) (omega arith) (powered_read a minus value power h.0 (does a h.1))
  does (Group a) h = does_atom (Group a) (group_read a (does a h))

  -- the tokens of a formula are accepted as the formula
  pub accepted : (c : Written) → IsGrammatical c → run m first_stage (spelling c) ≡ Some (made c)
  accepted c h =
      ap (λ ks. run m first_stage ks) (sym (append-nil (spelling c))) ∙ (does c h).sum 0 [] [] tt

made_meant : (c : Written) → made trees c ≡ meant c
made_meant (Digits value power) = refl
made_meant (Word name) = refl
made_meant (Minused a) = ap Opposite (made_meant a)
made_meant (Both s a b) = ap (λ x. Joined s x (made trees b)) (made_meant a) ∙ ap (λ x. Joined s (meant a) x) (made_meant b)
made_meant (Powered a minus value power) = ap (λ x. Raised x (exponent_of minus power)) (made_meant a)
made_meant (Group a) = made_meant a

made_written : (c : Written) → made writings c ≡ c
made_written (Digits value power) = refl
made_written (Word name) = refl
made_written (Minused a) = ap Minused (made_written a)
made_written (Both s a b) = ap (λ x. Both s x (made writings b)) (made_written a) ∙ ap (λ x. Both s a x) (made_written b)
made_written (Powered a minus value power) = ap (λ x. Powered x minus value power) (made_written a)
made_written (Group a) = ap Group (made_written a)

-- what spells a formula is accepted as it, and as it is written
pub spelt_accepted : (ks : List Kind) (f : Tree) → Spells ks f → run trees first_stage ks ≡ Some f
spelt_accepted ks f h =
    ap (λ t. run trees first_stage t) (sym h.spelt) ∙ accepted trees h.written h.grammatical
    ∙ ap Some (made_meant h.written ∙ h.means)

pub written_again : (c : Written) → IsGrammatical c → run writings first_stage (spelling c) ≡ Some c
written_again c h = accepted writings c h ∙ ap Some (made_written c)

-- none are written in two ways
pub one_writing : (a b : Written) → IsGrammatical a → IsGrammatical b → spelling a ≡ spelling b → a ≡ b
one_writing a b h k e =
    let first = written_again a h in
    let second = written_again b k in
    let same = ap (λ ks. run writings first_stage ks) e in
    cc

-- no tokens spell two formulas
pub spell_one : (ks : List Kind) (f g : Tree) → Spells ks f → Spells ks g → f ≡ g
spell_one ks f g h k =
    let a = spelt_accepted ks f h in
    let b = spelt_accepted ks g k in
    cc

-- ---- the reading
abbrev pub IsRuled : FormulaFault → Type 0
IsRuled (Syntax at) = ⊥
IsRuled OutOfMemory = ⊥
IsRuled fault = Unit {0}

else_ruled : (x y : Option FormulaFault) → IfSome x IsRuled → IfSome y IsRuled → IfSome (or_else x y) IsRuled
else_ruled None y h k = k
else_ruled (Some x) y h k = h

operand_ruled : (k : Kind) (at : ℕ) (opens : Bool) → IfSome (operand_fault k at opens) IsRuled
operand_ruled (Name name) at opens = cond_holds (λ r. IfSome r IsRuled) opens (Some (UnknownFunction at)) None tt tt
operand_ruled (Number None power) at opens = tt
operand_ruled k at opens = tt

exponent_ruled : (k : Kind) (at : ℕ) → IfSome (exponent_fault k at) IsRuled
exponent_ruled (Number value None) at = tt
exponent_ruled k at = tt

word_ruled : (s : Stage Tree) (at : ℕ) (k : Kind) (opens : Bool) → IfSome (word_fault s at k opens) IsRuled
word_ruled (AtOperand l o) at k opens = operand_ruled k at opens
word_ruled (AtExponent l x minus o) at k opens = exponent_ruled k at
word_ruled s at k opens = tt

pub refusal_ruled : (s : Stage Tree) (n at : ℕ) (k : Kind) (opens : Bool) → IfSome (refusal s n at k opens) IsRuled
refusal_ruled s n at k opens =
    else_ruled (word_fault s at k opens) _ (word_ruled s at k opens)
    (cond_holds (λ r. IfSome r IsRuled) (is_too_deep s k) _ _ tt (cond_holds (λ r. IfSome r IsRuled) _ (Some (TooMany at)) None tt tt))

-- a fault that is none of the rules' is not theirs
pub not_refused : (r : Option FormulaFault) (fault : FormulaFault) (e : Result Tree FormulaFault) → IfSome r IsRuled → (IsRuled fault → ⊥)
    → unless_refused r e ≡ Err fault → e ≡ Err fault
not_refused None fault e ruled free h = h
not_refused (Some other) fault e ruled free h =
    let same : other ≡ fault = cc in
    absurd (free (subst IsRuled same ruled))

ruled_fault : (fault : FormulaFault) (f : Tree) → IsRuled fault → IsReadOrRuled (Err fault) f
ruled_fault (Syntax at) f h = h
ruled_fault OutOfMemory f h = h
ruled_fault fault f h = tt

goes_on_read : (o : Option (Stage Tree)) (place : ℕ) (r : Option FormulaFault) (next : Stage Tree → Result Tree FormulaFault)
    (g : Stage Tree → Option Tree) (f : Tree) → IfSome r IsRuled → ((s : Stage Tree) → g s ≡ Some f → IsReadOrRuled (next s) f)
    → then_some o g ≡ Some f → IsReadOrRuled (goes_on o place r next) f
goes_on_read None place r next g f q k h = absurd (cc)
goes_on_read (Some s) place None next g f q k h = k s h
goes_on_read (Some s) place (Some fault) next g f q k h = ruled_fault fault f q

reading_read : (ts : List Token) (s : Stage Tree) (n end : ℕ) (f : Tree) → run trees s (kinds ts) ≡ Some f → IsReadOrRuled (reading s n end ts) f
reading_read [] s n end f h = subst (λ o. IsReadOrRuled (at_end o end) f) (sym h) refl
reading_read (t ∷ ts) s n end f h =
    goes_on_read (step trees s t.kind) (syntax_place s t.place t.len t.kind) (refusal s n t.place t.kind (opens_next ts))
    (λ next. reading next (n + node_count s t.kind) (t.place + t.len) ts) (λ next. run trees next (kinds ts)) f
    (refusal_ruled s n t.place t.kind (opens_next ts))
    (λ next. reading_read ts next (n + node_count s t.kind) (t.place + t.len) f) h

-- what spells a formula is read as it, or a rule beyond the grammar refuses it
pub spelt_read : (text : List ℕ) (f : Tree) → SpellsText text f → IsReadOrRuled (reading_of text) f
unfolding reading_of
spelt_read text f h =
    reading_read (tokens text 0 0) first_stage 0 0 f (spelt_accepted (kinds (tokens text 0 0)) f h)
