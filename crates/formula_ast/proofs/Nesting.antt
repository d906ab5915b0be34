-- How deep a formula nests as it is written, and the depth at the tokens of its reading.
use Rattle.std.specs.Prelude.{◌≡◌, ℕ, zero, suc, ◌+◌, ◌≤◌, Bool, false, nat_le, List, [], ◌∷◌, Option, None, Some, IfSome, refl}
use Rattle.std.proofs.Common.{sym, subst, arith}
use Rattle.std.proofs.lemmas.Option.{MatchOption-at_some}
use Rattle.std.proofs.lemmas.Bool.Decides.{nat_tests}
use Rattle.formula_ast.specs.Grammar.{Written, Digits, Word, Minused, Both, Powered, Group}
use Rattle.formula_ast.specs.Machine.{writings, Waiting, Stage, AtOperand, AtAtom, AtEnd, AtExponent, put, negated, factor_done, step, finish, run}
use Rattle.formula_ast.specs.Reading.{deepest, word_fault, is_too_deep}
use Rattle.formula_ast.specs.declared.token.Sign.{Sign}
use Rattle.formula_ast.specs.declared.token.Kind.{Kind}
use Rattle.formula_ast.proofs.Steps.{IsStep, TakesNumber, TakesMinus, Opens, EndsAtom, Adds, Multiplies, Closes, TakesExponent, each_step, first_step}

abbrev pub Has : {A : Type 0} → Option A → Type 0
Has None = ⊥
Has (Some x) = Unit {0}

-- inside so many open parentheses and minuses the formula nests no deeper than it may, its numbers are
-- bounds and its exponents are from 1 to 9
abbrev pub Fits : ℕ → Written → Type 0
Fits b (Digits value power) = Has value × (b ≤ deepest)
Fits b (Word name) = b ≤ deepest
Fits b (Minused a) = Fits (suc b) a
Fits b (Both s a c) = Fits b a × Fits b c
Fits b (Powered a minus value power) = Fits b a × Has power
Fits b (Group a) = Fits (suc b) a

-- ---- the same of what waits
abbrev pub FitsLeft : ℕ → Option (Written × Sign) → Type 0
FitsLeft b None = Unit {0}
FitsLeft b (Some p) = Fits b p.0

abbrev pub FitsWaiting : Waiting Written → Type 0
FitsWaiting l = FitsLeft l.base l.added × FitsLeft l.base l.multiplied

abbrev pub FitsOuter : List (Waiting Written) → Type 0
FitsOuter [] = Unit {0}
FitsOuter (l ∷ o) = FitsWaiting l × FitsOuter o

abbrev pub FitsStage : Stage Written → Type 0
FitsStage (AtOperand l o) = (l.base + l.minuses ≤ deepest) × (FitsWaiting l × FitsOuter o)
FitsStage (AtAtom l x o) = Fits (l.base + l.minuses) x × (FitsWaiting l × FitsOuter o)
FitsStage (AtEnd b left x o) = Fits b x × (FitsLeft b left × FitsOuter o)
FitsStage (AtExponent l x minus o) = Fits (l.base + l.minuses) x × (FitsWaiting l × FitsOuter o)

-- the nesting outside is what was counted
abbrev pub IsBased : ℕ → List (Waiting Written) → Type 0
IsBased b [] = b ≡ 0
IsBased b (l ∷ o) = (b ≡ suc (l.base + l.minuses)) × IsBased l.base o

abbrev pub StageBased : Stage Written → Type 0
StageBased (AtOperand l o) = IsBased l.base o
StageBased (AtAtom l x o) = IsBased l.base o
StageBased (AtEnd b left x o) = IsBased b o
StageBased (AtExponent l x minus o) = IsBased l.base o

-- ---- the nesting outside, at each step
pub based_next : {w v : Stage Written} {k : Kind} → IsStep writings w k v → StageBased w → StageBased v
based_next (Opens l o) h = (refl, h)
based_next (EndsAtom l x o s) h = based_next s h
based_next (Closes b left x l o) h = h.1
based_next s h = h

pub step_based : (w : Stage Written) (k : Kind) → StageBased w → IfSome (step writings w k) StageBased
step_based w k h = each_step writings w k (λ v s. based_next s h)

-- ---- what is put together fits, and its parts do
pub fits_less : (c : Written) (b : ℕ) → Fits (suc b) c → Fits b c
fits_less (Digits value power) b h = (h.0, omega (arith, h.1))
fits_less (Word name) b h = omega arith
fits_less (Minused a) b h = fits_less a (suc b) h
fits_less (Both s a c) b h = (fits_less a b h.0, fits_less c b h.1)
fits_less (Powered a minus value power) b h = (fits_less a b h.0, h.1)
fits_less (Group a) b h = fits_less a (suc b) h

fits_deep : (c : Written) (b : ℕ) → Fits b c → b ≤ deepest
fits_deep (Digits value power) b h = h.1
fits_deep (Word name) b h = h
fits_deep (Minused a) b h = let inside = fits_deep a (suc b) h in omega arith
fits_deep (Both s a c) b h = fits_deep a b h.0
fits_deep (Powered a minus value power) b h = fits_deep a b h.0
fits_deep (Group a) b h = let inside = fits_deep a (suc b) h in omega arith

put_fits : (b : ℕ) (p : Option (Written × Sign)) (x : Written) → FitsLeft b p → Fits b x → Fits b (put writings p x)
put_fits b None x h k = k
put_fits b (Some p) x h k = (h, k)

put_parts : (b : ℕ) (p : Option (Written × Sign)) (x : Written) → Fits b (put writings p x) → Fits b x × FitsLeft b p
put_parts b None x h = (h, tt)
put_parts b (Some p) x h = (h.1, h.0)

negated_fits : (n b : ℕ) (x : Written) → Fits (b + n) x → Fits b (negated writings n x)
negated_fits zero b x h = subst (λ d. Fits d x) (omega arith) h
negated_fits (suc n) b x h = negated_fits n b (Minused x) (subst (λ d. Fits d x) (omega arith) h)

negated_parts : (n b : ℕ) (x : Written) → Fits b (negated writings n x) → Fits (b + n) x
negated_parts zero b x h = subst (λ d. Fits d x) (omega arith) h
negated_parts (suc n) b x h = subst (λ d. Fits d x) (omega arith) (negated_parts n b (Minused x) h)

factor_fits : (l : Waiting Written) (x : Written) → FitsLeft l.base l.multiplied → Fits (l.base + l.minuses) x → Fits l.base (factor_done writings l x)
factor_fits l x h k = put_fits l.base l.multiplied (negated writings l.minuses x) h (negated_fits l.minuses l.base x k)

factor_parts : (l : Waiting Written) (x : Written) → Fits l.base (factor_done writings l x) → Fits (l.base + l.minuses) x × FitsLeft l.base l.multiplied
factor_parts l x h =
    let parts = put_parts l.base l.multiplied (negated writings l.minuses x) h in
    (negated_parts l.minuses l.base x parts.0, parts.1)

deeper : (n : ℕ) → nat_le deepest n ≡ false → suc n ≤ deepest
deeper n h = grind (arith, nat_tests)

not_too_deep : (n : ℕ) → suc n ≤ deepest → nat_le deepest n ≡ false
not_too_deep n h = grind (arith, nat_tests)

-- ---- forward: a stage that fits, and a token that is not refused
pub fits_next : {w v : Stage Written} {k : Kind} (at : ℕ) (opens : Bool) → IsStep writings w k v → FitsStage w → StageBased w
    → word_fault w at k opens ≡ None → is_too_deep w k ≡ false → FitsStage v
fits_next at opens (TakesNumber l o None power) h based e d = absurd (cc)
fits_next at opens (TakesNumber l o (Some b) power) h based e d = ((tt, h.0), h.1)
fits_next at opens (TakesMinus l o) h based e d = (omega (arith, deeper (l.base + l.minuses) d), h.1)
fits_next at opens (Opens l o) h based e d = (omega (arith, deeper (l.base + l.minuses) d), ((tt, tt), h.1))
fits_next at opens (EndsAtom l x o s) h based e d =
    fits_next at opens s (factor_fits l x h.1.0.1 h.0, (h.1.0.0, h.1.1)) based refl refl
fits_next at opens (Adds b left x o s t) h based e d = (omega (arith, fits_deep x b h.0), ((put_fits b left x h.1.0 h.0, tt), h.1.1))
fits_next at opens (Multiplies b left x o s t) h based e d = (omega (arith, fits_deep x b h.0), ((h.1.0, h.0), h.1.1))
fits_next at opens (Closes b left x l o) h based e d =
    (subst (λ n. Fits n (put writings left x)) based.0 (put_fits b left x h.1.0 h.0), h.1.1)
fits_next at opens (TakesExponent l x minus o value None) h based e d = absurd (cc)
fits_next at opens (TakesExponent l x minus o value (Some n)) h based e d =
    (factor_fits l (Powered x minus value (Some n)) h.1.0.1 (h.0, tt), (h.1.0.0, h.1.1))
fits_next at opens s h based e d = h

pub finish_fits : (w : Stage Written) → FitsStage w → StageBased w → IfSome (finish writings w) (Fits 0)
finish_fits (AtAtom l x []) h based =
    subst (λ d. Fits d (put writings l.added (factor_done writings l x))) based
    (put_fits l.base l.added (factor_done writings l x) h.1.0.0 (factor_fits l x h.1.0.1 h.0))
finish_fits (AtEnd b left x []) h based = subst (λ d. Fits d (put writings left x)) based (put_fits b left x h.1.0 h.0)
finish_fits w h based = tt

-- ---- backward: a stage after which it fits, and its token is not refused
pub record Passed (w : Stage Written) (k : Kind) : Type 0 where
  pub fits : FitsStage w
  pub word : (at : ℕ) → word_fault w at k false ≡ None
  pub deep : is_too_deep w k ≡ false

fits_before : {w v : Stage Written} {k : Kind} → IsStep writings w k v → StageBased w → FitsStage v → FitsStage w
fits_before (TakesNumber l o value power) based h = (h.0.1, h.1)
fits_before (TakesMinus l o) based h = (omega (arith, h.0), h.1)
fits_before (Opens l o) based h = (omega (arith, h.0), h.1.1)
fits_before (EndsAtom l x o s) based h =
    let end = fits_before s based h in
    let parts = factor_parts l x end.0 in
    (parts.0, ((end.1.0, parts.1), end.1.1))
fits_before (Adds b left x o s t) based h = let parts = put_parts b left x h.1.0.0 in (parts.0, (parts.1, h.1.1))
fits_before (Multiplies b left x o s t) based h = (h.1.0.1, (h.1.0.0, h.1.1))
fits_before (Closes b left x l o) based h =
    let parts = put_parts b left x (subst (λ d. Fits d (put writings left x)) (sym based.0) h.0) in
    (parts.0, (parts.1, h.1))
fits_before (TakesExponent l x minus o value power) based h =
    let parts = factor_parts l (Powered x minus value power) h.0 in
    (parts.0.0, ((h.1.0, parts.1), h.1.1))
fits_before s based h = h

pub word_passed : {w v : Stage Written} {k : Kind} → IsStep writings w k v → FitsStage v → (at : ℕ) → word_fault w at k false ≡ None
word_passed (TakesNumber l o None power) h at = absurd h.0.0
word_passed (TakesNumber l o (Some b) power) h at = refl
word_passed (TakesExponent l x minus o value None) h at = absurd (factor_parts l (Powered x minus value None) h.0).0.1
word_passed (TakesExponent l x minus o value (Some n)) h at = refl
word_passed s h at = refl

pub deep_passed : {w v : Stage Written} {k : Kind} → IsStep writings w k v → FitsStage v → is_too_deep w k ≡ false
deep_passed (TakesMinus l o) h = not_too_deep (l.base + l.minuses) (omega (arith, h.0))
deep_passed (Opens l o) h = not_too_deep (l.base + l.minuses) (omega (arith, h.0))
deep_passed s h = refl

finish_parts : (w : Stage Written) → StageBased w → IfSome (finish writings w) (λ c. Fits 0 c → FitsStage w)
finish_parts (AtAtom l x []) based = λ h.
    let all = subst (λ d. Fits d (put writings l.added (factor_done writings l x))) (sym based) h in
    let parts = put_parts l.base l.added (factor_done writings l x) all in
    let factor = factor_parts l x parts.0 in
    (factor.0, ((parts.1, factor.1), tt))
finish_parts (AtEnd b left x []) based = λ h.
    let parts = put_parts b left x (subst (λ d. Fits d (put writings left x)) (sym based) h) in
    (parts.0, (parts.1, tt))
finish_parts w based = tt

-- the stage before tokens that give a formula which fits
pub fits_back : (ks : List Kind) (w : Stage Written) (c : Written) → StageBased w → Fits 0 c → run writings w ks ≡ Some c → FitsStage w
fits_back [] w c based f h = MatchOption-at_some _ (λ x. Fits 0 x → FitsStage w) c h (finish_parts w based) f
fits_back (k ∷ ks) w c based f h =
    let first = first_step writings w k (λ v. run writings v ks) c h in
    fits_before first.is based (fits_back ks first.stage c (based_next first.is based) f first.rest)
