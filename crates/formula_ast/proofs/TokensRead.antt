-- The tokens that were read before a stage: that they are those, their nodes, and whether an exponent
-- comes after them.
use Rattle.std.specs.Prelude.{◌≡◌, ◌+◌, Bool, true, false, List, [], ◌∷◌, ◌++◌, Option, None, Some, IfSome, refl}
use Rattle.std.proofs.Common.{sym, ap, subst, ◌∙◌, arith, inl, inr, append_assoc}
use mathlib.Core.List.{append-nil}
use Rattle.formula_ast.specs.Trees.{Tree, nodes}
use Rattle.formula_ast.specs.Grammar.{Written, Digits, Word, Minused, Both, Powered, Group, spelling, meant, Spells}
use Rattle.formula_ast.specs.Machine.{writings, Waiting, Stage, AtOperand, AtAtom, AtEnd, AtExponent, step, then_some, stages}
use Rattle.formula_ast.specs.Reading.{node_count}
use Rattle.formula_ast.specs.Refusals.{IsBeforeExponent, nodes_from, nodes_in}
use Rattle.formula_ast.specs.declared.token.Sign.TheVariants.{Minus}
use Rattle.formula_ast.specs.declared.token.Kind.{Kind}
use Rattle.formula_ast.specs.declared.token.Kind.TheVariants.{Number, Joins, Hat, Close}
use Rattle.formula_ast.proofs.Runs.{stage_meant}
use Rattle.formula_ast.proofs.Sound.{outer_told, waiting_told, told, IsSound, sound_next, told_next}
use Rattle.formula_ast.proofs.Steps.{IsStep, EndsAtom, Adds, Multiplies, Closes, each_step, first_step}

-- ---- the tokens themselves
pub stages_told : (ks : List Kind) (w v : Stage Written) → IsSound w → stages writings w ks ≡ Some v → told v ≡ told w ++ ks
stages_told [] w v s h =
    let same : w ≡ v = cc in
    ap told (sym same) ∙ sym (append-nil (told w))
stages_told (k ∷ ks) w v s h =
    let first = first_step writings w k (λ u. stages writings u ks) v h in
    stages_told ks first.stage v (sound_next first.is s) first.rest ∙ ap (λ t. t ++ ks) (told_next first.is) ∙ simp append_assoc

-- the stage after two parts of the tokens
then_append : (o : Option (Stage Written)) (ks ms : List Kind)
    → ((u : Stage Written) → stages writings u (ks ++ ms) ≡ then_some (stages writings u ks) (λ t. stages writings t ms))
    → then_some o (λ u. stages writings u (ks ++ ms)) ≡ then_some (then_some o (λ u. stages writings u ks)) (λ t. stages writings t ms)
then_append None ks ms all = refl
then_append (Some u) ks ms all = all u

pub stages_append : (ks ms : List Kind) (w : Stage Written)
    → stages writings w (ks ++ ms) ≡ then_some (stages writings w ks) (λ u. stages writings u ms)
stages_append [] ms w = refl
stages_append (k ∷ ks) ms w = then_append (step writings w k) ks ms (λ u. stages_append ks ms u)

-- ---- exponents
abbrev pub in_exponent : Stage Written → Bool
in_exponent (AtOperand l o) = false
in_exponent (AtAtom l x o) = false
in_exponent (AtEnd b left x o) = false
in_exponent (AtExponent l x minus o) = true

pub before_exponent : (w : Stage Written) → in_exponent w ≡ true → IsBeforeExponent (told w)
before_exponent (AtOperand l o) h = absurd (cc)
before_exponent (AtAtom l x o) h = absurd (cc)
before_exponent (AtEnd b left x o) h = absurd (cc)
before_exponent (AtExponent l x false o) h = inl (record { start = outer_told o ++ (waiting_told l ++ spelling x); parts = simp append_assoc })
before_exponent (AtExponent l x true o) h = inr (record { start = outer_told o ++ (waiting_told l ++ spelling x); parts = simp append_assoc })

-- `^`, or `^` and a minus, was read last
is_exponent : (l : Waiting Written) (x : Written) (minus : Bool) (o : List (Waiting Written)) (v : Stage Written)
    → Some (AtExponent l x minus o) ≡ Some v → in_exponent v ≡ true
is_exponent l x minus o v h =
    let same : AtExponent l x minus o ≡ v = cc in
    subst (λ w. in_exponent w ≡ true) same refl

hat_last : (o : Option (Stage Written)) (v : Stage Written) → then_some o (λ u. stages writings u (Hat ∷ [])) ≡ Some v → in_exponent v ≡ true
hat_last None v h = absurd (cc)
hat_last (Some (AtOperand l o)) v h = absurd (cc)
hat_last (Some (AtAtom l x o)) v h = is_exponent l x false o v h
hat_last (Some (AtEnd b left x o)) v h = absurd (cc)
hat_last (Some (AtExponent l x minus o)) v h = absurd (cc)

minus_last : (o : Option (Stage Written)) (v : Stage Written) → then_some o (λ u. stages writings u (Hat ∷ Joins Minus ∷ [])) ≡ Some v
    → in_exponent v ≡ true
minus_last None v h = absurd (cc)
minus_last (Some (AtOperand l o)) v h = absurd (cc)
minus_last (Some (AtAtom l x o)) v h = is_exponent l x true o v h
minus_last (Some (AtEnd b left x o)) v h = absurd (cc)
minus_last (Some (AtExponent l x minus o)) v h = absurd (cc)

pub exponent_read : (ks : List Kind) (w v : Stage Written) → stages writings w ks ≡ Some v → IsBeforeExponent ks → in_exponent v ≡ true
exponent_read ks w v h (inl e) =
    hat_last (stages writings w e.start) v
    (sym (stages_append e.start (Hat ∷ []) w) ∙ ap (λ us. stages writings w us) e.parts ∙ h)
exponent_read ks w v h (inr e) =
    minus_last (stages writings w e.start) v
    (sym (stages_append e.start (Hat ∷ Joins Minus ∷ []) w) ∙ ap (λ us. stages writings w us) e.parts ∙ h)

-- ---- nodes
abbrev Counts : Stage Written → Kind → List Kind → Stage Written → Type 0
Counts w k ks v = nodes_from (k ∷ ks) (in_exponent w) ≡ node_count (stage_meant w) k + nodes_from ks (in_exponent v)

counts_next : {w v : Stage Written} {k : Kind} → IsStep writings w k v → (ks : List Kind) → Counts w k ks v
counts_next (EndsAtom l x o (Adds b left y r s t)) ks = omega arith
counts_next (EndsAtom l x o (Multiplies b left y r s t)) ks = omega arith
counts_next (EndsAtom l x o (Closes b left y w r)) ks = omega arith
counts_next s ks = omega arith

pub step_counts : (w : Stage Written) (k : Kind) (ks : List Kind) → IfSome (step writings w k) (Counts w k ks)
step_counts w k ks = each_step writings w k (λ v s. counts_next s ks)

-- the nodes of two parts of the tokens
pub stages_nodes : (ks ms : List Kind) (w v : Stage Written) → stages writings w ks ≡ Some v
    → nodes_from (ks ++ ms) (in_exponent w) ≡ nodes_from ks (in_exponent w) + nodes_from ms (in_exponent v)
stages_nodes [] ms w v h =
    let same : w ≡ v = cc in
    ap (λ u. nodes_from ms (in_exponent u)) same ∙ omega arith
stages_nodes (k ∷ ks) ms w v h =
    let first = first_step writings w k (λ u. stages writings u ks) v h in
    omega (arith, counts_next first.is ks, counts_next first.is (ks ++ ms), stages_nodes ks ms first.stage v first.rest)

-- tokens that spell a formula write its nodes
spelt_nodes : (c : Written) (ms : List Kind) → nodes_from (spelling c ++ ms) false ≡ nodes (meant c) + nodes_from ms false
spelt_nodes (Digits value power) ms = omega arith
spelt_nodes (Word name) ms = omega arith
spelt_nodes (Minused a) ms = omega (arith, spelt_nodes a ms)
spelt_nodes (Both s a b) ms =
    ap (λ ks. nodes_from ks false) (append_assoc (spelling a) (Joins s ∷ spelling b) ms)
    ∙ spelt_nodes a (Joins s ∷ (spelling b ++ ms)) ∙ omega (arith, spelt_nodes b ms)
spelt_nodes (Powered a false value power) ms =
    ap (λ ks. nodes_from ks false) (append_assoc (spelling a) (Hat ∷ Number value power ∷ []) ms)
    ∙ spelt_nodes a (Hat ∷ Number value power ∷ ms) ∙ omega arith
spelt_nodes (Powered a true value power) ms =
    ap (λ ks. nodes_from ks false) (append_assoc (spelling a) (Hat ∷ Joins Minus ∷ Number value power ∷ []) ms)
    ∙ spelt_nodes a (Hat ∷ Joins Minus ∷ Number value power ∷ ms) ∙ omega arith
spelt_nodes (Group a) ms =
    ap (λ ks. nodes_from ks false) (append_assoc (spelling a) (Close ∷ []) ms) ∙ spelt_nodes a (Close ∷ ms)

pub nodes_spelt : (ks : List Kind) (f : Tree) → Spells ks f → nodes_in ks ≡ nodes f
nodes_spelt ks f h =
    ap nodes_in (sym h.spelt ∙ sym (append-nil (spelling h.written))) ∙ spelt_nodes h.written [] ∙ omega (arith, ap nodes h.means)
