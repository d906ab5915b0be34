-- What the reading accepts is spelt by the tokens that were read.
use Rattle.std.specs.Prelude.{◌≡◌, ℕ, zero, suc, ◌+◌, ◌≤◌, Bool, true, false, List, [], ◌∷◌, ◌++◌, Option, None, Some, option_map, IfSome, Result, Ok, refl}
use Rattle.std.proofs.Common.{sym, ap, subst, ◌∙◌, arith, append_assoc}
use mathlib.Core.List.{append-nil}
use Rattle.formula_ast.specs.Trees.{Tree}
use Rattle.formula_ast.specs.Tokens.{Token, tokens, kinds}
use Rattle.formula_ast.specs.Grammar.{Written, Minused, Powered, tight, rank, IsGrammatical, spelling, meant, Spells, SpellsText}
use Rattle.formula_ast.specs.Machine.{trees, writings, Waiting, Stage, AtOperand, AtAtom, AtEnd, AtExponent, put, negated, factor_done, first_stage, step, finish, then_some, run}
use Rattle.formula_ast.specs.Reading.{syntax_place, refusal, opens_next, node_count, reading, reading_of}
use Rattle.formula_ast.specs.declared.fault.FormulaFault.{FormulaFault}
use Rattle.formula_ast.specs.declared.token.Sign.{Sign}
use Rattle.formula_ast.specs.declared.token.Sign.TheVariants.{Minus}
use Rattle.formula_ast.specs.declared.token.Kind.{Kind}
use Rattle.formula_ast.specs.declared.token.Kind.TheVariants.{Joins, Hat, Open, Close}
use Rattle.formula_ast.proofs.Steps.{IsStep, TakesNumber, TakesName, Opens, EndsAtom, Adds, Multiplies, Closes, TakesExponent, each_step, then_each, first_read, last_read}
use Rattle.formula_ast.proofs.Runs.{run_meant}

-- ---- the tokens that were read before a stage
abbrev pub left_told : Option (Written × Sign) → List Kind
left_told None = []
left_told (Some p) = spelling p.0 ++ Joins p.1 ∷ []

abbrev pub minuses_told : ℕ → List Kind
minuses_told zero = []
minuses_told (suc n) = minuses_told n ++ Joins Minus ∷ []

abbrev pub waiting_told : Waiting Written → List Kind
waiting_told l = left_told l.added ++ (left_told l.multiplied ++ minuses_told l.minuses)

abbrev pub outer_told : List (Waiting Written) → List Kind
outer_told [] = []
outer_told (l ∷ o) = outer_told o ++ (waiting_told l ++ Open ∷ [])

abbrev pub hat_told : Bool → List Kind
hat_told false = Hat ∷ []
hat_told true = Hat ∷ Joins Minus ∷ []

abbrev pub told : Stage Written → List Kind
told (AtOperand l o) = outer_told o ++ waiting_told l
told (AtAtom l x o) = outer_told o ++ (waiting_told l ++ spelling x)
told (AtEnd b left x o) = outer_told o ++ (left_told left ++ spelling x)
told (AtExponent l x minus o) = outer_told o ++ (waiting_told l ++ (spelling x ++ hat_told minus))

-- ---- what waits stands where the grammar has it
abbrev pub IsLeft : ℕ → Option (Written × Sign) → Type 0
IsLeft n None = Unit {0}
IsLeft n (Some p) = (tight p.1 ≡ n) × ((n ≤ rank p.0) × IsGrammatical p.0)

abbrev pub IsWaiting : Waiting Written → Type 0
IsWaiting l = IsLeft 0 l.added × IsLeft 1 l.multiplied

abbrev pub AreWaiting : List (Waiting Written) → Type 0
AreWaiting [] = Unit {0}
AreWaiting (l ∷ o) = IsWaiting l × AreWaiting o

abbrev pub IsRanked : ℕ → Written → Type 0
IsRanked n x = (n ≤ rank x) × IsGrammatical x

abbrev pub IsSound : Stage Written → Type 0
IsSound (AtOperand l o) = IsWaiting l × AreWaiting o
IsSound (AtAtom l x o) = IsRanked 4 x × (IsWaiting l × AreWaiting o)
IsSound (AtEnd b left x o) = IsRanked 1 x × (IsLeft 0 left × AreWaiting o)
IsSound (AtExponent l x minus o) = IsRanked 4 x × (IsWaiting l × AreWaiting o)

-- ---- what is put together
negated_sound : (n : ℕ) (x : Written) → IsRanked 2 x → IsRanked 2 (negated writings n x)
negated_sound zero x h = h
negated_sound (suc n) x h = negated_sound n (Minused x) (omega arith, h)

negated_told : (n : ℕ) (x : Written) → spelling (negated writings n x) ≡ minuses_told n ++ spelling x
negated_told zero x = refl
negated_told (suc n) x = negated_told n (Minused x) ∙ simp append_assoc

product_sound : (p : Option (Written × Sign)) (x : Written) → IsLeft 1 p → IsRanked 2 x → IsRanked 1 (put writings p x)
product_sound None x h k = (omega (arith, k.0), k.1)
product_sound (Some p) x h k = (omega (arith, h.0), (omega (arith, h.0, h.1.0), (omega (arith, h.0, k.0), (h.1.1, k.1))))

sum_sound : (p : Option (Written × Sign)) (x : Written) → IsLeft 0 p → IsRanked 1 x → IsGrammatical (put writings p x)
sum_sound None x h k = k.1
sum_sound (Some p) x h k = (omega (arith, h.0, h.1.0), (omega (arith, h.0, k.0), (h.1.1, k.1)))

put_told : (p : Option (Written × Sign)) (x : Written) → spelling (put writings p x) ≡ left_told p ++ spelling x
put_told None x = refl
put_told (Some p) x = simp append_assoc

factor_sound : (l : Waiting Written) (x : Written) → IsWaiting l → IsRanked 2 x → IsRanked 1 (factor_done writings l x)
factor_sound l x h k = product_sound l.multiplied (negated writings l.minuses x) h.1 (negated_sound l.minuses x k)

factor_told : (l : Waiting Written) (x : Written) → spelling (factor_done writings l x) ≡ left_told l.multiplied ++ (minuses_told l.minuses ++ spelling x)
factor_told l x = put_told l.multiplied (negated writings l.minuses x) ∙ ap (λ t. left_told l.multiplied ++ t) (negated_told l.minuses x)

-- ---- each step
pub record Goes (before : List Kind) (k : Kind) (v : Stage Written) : Type 0 where
  pub sound : IsSound v
  pub spelt : told v ≡ before ++ k ∷ []

ended_told : (l : Waiting Written) (x : Written) (o : List (Waiting Written))
    → told (AtEnd l.base l.added (factor_done writings l x) o) ≡ told (AtAtom l x o)
ended_told l x o = ap (λ t. outer_told o ++ (left_told l.added ++ t)) (factor_told l x) ∙ simp append_assoc

pub sound_next : {w v : Stage Written} {k : Kind} → IsStep writings w k v → IsSound w → IsSound v
sound_next (TakesNumber l o value power) h = ((omega arith, tt), h)
sound_next (TakesName l o name) h = ((omega arith, tt), h)
sound_next (Opens l o) h = ((tt, tt), h)
sound_next (EndsAtom l x o s) h = sound_next s (factor_sound l x h.1.0 (omega (arith, h.0.0), h.0.1), (h.1.0.0, h.1.1))
sound_next (Adds b left x o s t) h = (((t, (omega arith, sum_sound left x h.1.0 h.0)), tt), h.1.1)
sound_next (Multiplies b left x o s t) h = ((h.1.0, (t, h.0)), h.1.1)
sound_next (Closes b left x l o) h = ((omega arith, sum_sound left x h.1.0 h.0), h.1.1)
sound_next (TakesExponent l x minus o value power) h =
    (factor_sound l (Powered x minus value power) h.1.0 (omega arith, h.0), (h.1.0.0, h.1.1))
sound_next s h = h

pub told_next : {w v : Stage Written} {k : Kind} → IsStep writings w k v → told v ≡ told w ++ k ∷ []
told_next (EndsAtom l x o {k = k} s) = told_next s ∙ ap (λ t. t ++ k ∷ []) (ended_told l x o)
told_next (Adds b left x o s t) =
    ap (λ w. outer_told o ++ ((w ++ Joins s ∷ []) ++ [])) (put_told left x) ∙ simp (append_assoc, append-nil)
told_next (Closes b left x l o) =
    ap (λ t. outer_told o ++ (waiting_told l ++ Open ∷ (t ++ Close ∷ []))) (put_told left x) ∙ simp append_assoc
told_next (TakesExponent l x false o value power) = ended_told l (Powered x false value power) o ∙ simp append_assoc
told_next (TakesExponent l x true o value power) = ended_told l (Powered x true value power) o ∙ simp append_assoc
told_next (Opens l o) = simp (append_assoc, append-nil)
told_next (Multiplies b left x o s t) = simp (append_assoc, append-nil)
told_next s = simp append_assoc

pub step_goes : (w : Stage Written) (k : Kind) → IsSound w → IfSome (step writings w k) (Goes (told w) k)
step_goes w k h = each_step writings w k (λ v s. record { sound = sound_next s h; spelt = told_next s })

-- ---- whole runs
pub record IsSpelt (ks : List Kind) (x : Written) : Type 0 where
  pub grammatical : IsGrammatical x
  pub spelt : spelling x ≡ ks

finish_spelt : (w : Stage Written) → IsSound w → IfSome (finish writings w) (IsSpelt (told w))
finish_spelt (AtAtom l x []) h = record {
  grammatical = sum_sound l.added (factor_done writings l x) h.1.0.0 (factor_sound l x h.1.0 (omega (arith, h.0.0), h.0.1));
  spelt = put_told l.added (factor_done writings l x) ∙ ended_told l x [];
}
finish_spelt (AtEnd b left x []) h = record { grammatical = sum_sound left x h.1.0 h.0; spelt = put_told left x }
finish_spelt w h = tt

-- what is read from a stage is written by the tokens before it and those that are read
pub run_spelt : (ks : List Kind) (w : Stage Written) → IsSound w → IfSome (run writings w ks) (IsSpelt (told w ++ ks))
run_spelt [] w h = subst (λ t. IfSome (finish writings w) (IsSpelt t)) (sym (append-nil (told w))) (finish_spelt w h)
run_spelt (k ∷ ks) w h = then_each (IsSpelt (told w ++ k ∷ ks)) (step writings w k) (λ v. run writings v ks) (step_goes w k h) (λ v e g.
    let same : told v ++ ks ≡ told w ++ k ∷ ks = ap (λ t. t ++ ks) g.spelt ∙ simp append_assoc in
    subst (λ t. IfSome (run writings v ks) (IsSpelt t)) same (run_spelt ks v g.sound))

writing_spells : (ks : List Kind) (o : Option Written) (f : Tree) → IfSome o (IsSpelt ks) → option_map meant o ≡ Some f → Spells ks f
writing_spells ks None f h e = absurd (cc)
writing_spells ks (Some x) f h e = record { written = x; grammatical = h.grammatical; spelt = h.spelt; means = cc }

pub accepted_spelt : (ks : List Kind) (f : Tree) → run trees first_stage ks ≡ Some f → Spells ks f
accepted_spelt ks f h =
    writing_spells ks (run writings first_stage ks) f (run_spelt ks first_stage ((tt, tt), tt)) (sym (run_meant ks first_stage) ∙ h)

-- ---- the reading
pub reading_accepted : (ts : List Token) (s : Stage Tree) (n end : ℕ) (f : Tree) → reading s n end ts ≡ Ok f → run trees s (kinds ts) ≡ Some f
reading_accepted [] s n end f h = last_read (finish trees s) end f h
reading_accepted (t ∷ ts) s n end f h =
    let next : Stage Tree → Result Tree FormulaFault = λ v. reading v (n + node_count s t.kind) (t.place + t.len) ts in
    let first = first_read s t.kind (syntax_place s t.place t.len t.kind) (refusal s n t.place t.kind (opens_next ts)) next f h in
    ap (λ o. then_some o (λ v. run trees v (kinds ts))) first.gives
    ∙ reading_accepted ts first.stage (n + node_count s t.kind) (t.place + t.len) f first.rest

-- what is read as a formula spells it
pub read_spelt : (text : List ℕ) (f : Tree) → reading_of text ≡ Ok f → SpellsText text f
unfolding reading_of
read_spelt text f h = accepted_spelt (kinds (tokens text 0 0)) f (reading_accepted (tokens text 0 0) first_stage 0 0 f h)
