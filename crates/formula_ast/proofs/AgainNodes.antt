-- The nodes that were read before a stage, and the reading of tokens that give a formula within the limits.
use Rattle.std.specs.Prelude.{◌≡◌, ℕ, zero, suc, ◌+◌, ◌≤◌, ◌&&◌, Bool, true, false, cond, nat_le, List, [], ◌∷◌, Option, None, Some, option_map, IfSome, Result, Ok, refl}
use Rattle.std.proofs.Common.{sym, ap, ◌∙◌, arith}
use Rattle.std.proofs.lemmas.Bool.Decides.{nat_tests}
use Rattle.std.proofs.lemmas.Option.{same_Some, MatchOption-at_some}
use Rattle.formula_ast.specs.Trees.{Tree, Opposite, nodes}
use Rattle.formula_ast.specs.Tokens.{Token, kinds}
use Rattle.formula_ast.specs.Grammar.{Written, meant}
use Rattle.formula_ast.specs.Machine.{trees, writings, Waiting, Stage, AtOperand, AtAtom, AtEnd, AtExponent, put, negated, factor_done, step, finish, then_some, run}
use Rattle.formula_ast.specs.Reading.{most_nodes, at_end, unless_refused, goes_on, or_else, word_fault, is_too_deep, is_node, syntax_place, refusal, is_open, opens_next, node_count, reading}
use Rattle.formula_ast.specs.declared.fault.FormulaFault.{FormulaFault}
use Rattle.formula_ast.specs.declared.fault.FormulaFault.TheVariants.{TooDeep, TooMany}
use Rattle.formula_ast.specs.declared.token.Sign.{Sign}
use Rattle.formula_ast.specs.declared.token.Kind.{Kind}
use Rattle.formula_ast.specs.declared.token.Kind.TheVariants.{Number, Name, Open}
use Rattle.formula_ast.proofs.Runs.{stage_meant, step_meant, finish_meant, run_meant}
use Rattle.formula_ast.proofs.Nesting.{Fits, FitsStage, StageBased, based_next, fits_next, finish_fits, word_passed, deep_passed, fits_back}
use Rattle.formula_ast.proofs.Steps.{IsStep, EndsAtom, Adds, Multiplies, Closes, TakesExponent, step_is, first_step, then_each, first_read, last_read}

-- ---- the nodes that were read before a stage
abbrev pub left_nodes : Option (Tree × Sign) → ℕ
left_nodes None = 0
left_nodes (Some p) = suc (nodes p.0)

abbrev pub waiting_nodes : Waiting Tree → ℕ
waiting_nodes l = left_nodes l.added + left_nodes l.multiplied + l.minuses

abbrev pub outer_nodes : List (Waiting Tree) → ℕ
outer_nodes [] = 0
outer_nodes (l ∷ o) = waiting_nodes l + outer_nodes o

abbrev pub stage_nodes : Stage Tree → ℕ
stage_nodes (AtOperand l o) = waiting_nodes l + outer_nodes o
stage_nodes (AtAtom l x o) = nodes x + waiting_nodes l + outer_nodes o
stage_nodes (AtEnd b left x o) = nodes x + left_nodes left + outer_nodes o
stage_nodes (AtExponent l x minus o) = suc (nodes x) + waiting_nodes l + outer_nodes o

put_nodes : (p : Option (Tree × Sign)) (x : Tree) → nodes (put trees p x) ≡ left_nodes p + nodes x
put_nodes None x = omega arith
put_nodes (Some p) x = omega arith

negated_nodes : (n : ℕ) (x : Tree) → nodes (negated trees n x) ≡ n + nodes x
negated_nodes zero x = omega arith
negated_nodes (suc n) x = negated_nodes n (Opposite x) ∙ omega arith

factor_nodes : (l : Waiting Tree) (x : Tree) → nodes (factor_done trees l x) ≡ left_nodes l.multiplied + (l.minuses + nodes x)
factor_nodes l x =
    put_nodes l.multiplied (negated trees l.minuses x) ∙ ap (λ n. left_nodes l.multiplied + n) (negated_nodes l.minuses x)

-- ---- each step
ended_same : (l : Waiting Tree) (x : Tree) (o : List (Waiting Tree))
    → stage_nodes (AtEnd l.base l.added (factor_done trees l x) o) ≡ stage_nodes (AtAtom l x o)
ended_same l x o = omega (arith, factor_nodes l x)

counted : {s v : Stage Tree} {k : Kind} → IsStep trees s k v → stage_nodes v ≡ stage_nodes s + node_count s k
counted (EndsAtom l x o (Adds b left y p s t)) = omega (arith, put_nodes left y, ended_same l x o)
counted (EndsAtom l x o (Multiplies b left y p s t)) = omega (arith, ended_same l x o)
counted (EndsAtom l x o (Closes b left y w p)) = omega (arith, put_nodes left y, ended_same l x o)
counted (Adds b left x o s t) = omega (arith, put_nodes left x)
counted (Closes b left x l o) = omega (arith, put_nodes left x)
counted (TakesExponent l x minus o value power) = omega (arith, ended_same l (trees.raised x minus value power) o)
counted s = omega arith

finish_counted : (s : Stage Tree) → IfSome (finish trees s) (λ f. nodes f ≡ stage_nodes s)
finish_counted (AtAtom l x []) = omega (arith, put_nodes l.added (factor_done trees l x), factor_nodes l x)
finish_counted (AtEnd b left x []) = omega (arith, put_nodes left x)
finish_counted s = tt

-- ---- whole runs
pub some_is : {A : Type 0} (o : Option A) (P : A → Type 0) (x : A) → IfSome o P → o ≡ Some x → P x
some_is o P x h e = MatchOption-at_some _ P x e h

-- no stage on the way has more nodes than the formula
run_counted : (ks : List Kind) (s : Stage Tree) (f : Tree) → run trees s ks ≡ Some f → stage_nodes s ≤ nodes f
run_counted [] s f h = omega (arith, some_is (finish trees s) (λ g. nodes g ≡ stage_nodes s) f (finish_counted s) h)
run_counted (k ∷ ks) s f h =
    let first = first_step trees s k (λ v. run trees v ks) f h in
    omega (arith, counted first.is, run_counted ks first.stage f first.rest)

-- ---- what is not refused
pub record Unrefused (s : Stage Tree) (n at : ℕ) (k : Kind) (opens : Bool) : Type 0 where
  pub word : word_fault s at k opens ≡ None
  pub deep : is_too_deep s k ≡ false
  pub many : (is_node s k && nat_le most_nodes n) ≡ false

parts_of : (word : Option FormulaFault) (deep many : Bool) (at : ℕ)
    → or_else word (cond deep (Some (TooDeep at)) (cond many (Some (TooMany at)) None)) ≡ None
    → (word ≡ None) × ((deep ≡ false) × (many ≡ false))
parts_of (Some x) deep many at h = absurd (cc)
parts_of None true many at h = absurd (cc)
parts_of None false true at h = absurd (cc)
parts_of None false false at h = (refl, (refl, refl))

pub unrefused : (s : Stage Tree) (n at : ℕ) (k : Kind) (opens : Bool) → refusal s n at k opens ≡ None → Unrefused s n at k opens
unrefused s n at k opens h =
    let parts = parts_of (word_fault s at k opens) (is_too_deep s k) (is_node s k && nat_le most_nodes n) at h in
    record { word = parts.0; deep = parts.1.0; many = parts.1.1 }

refused_none : (s : Stage Tree) (n at : ℕ) (k : Kind) (opens : Bool) → Unrefused s n at k opens → refusal s n at k opens ≡ None
refused_none s n at k opens h = rw (h.word, h.deep, h.many) refl

pub few_more : (t : Bool) (n : ℕ) → n ≤ most_nodes → (t && nat_le most_nodes n) ≡ false → n + cond t 1 0 ≤ most_nodes
few_more true n h e = grind (arith, nat_tests)
few_more false n h e = omega arith

not_many : (t : Bool) (n : ℕ) → n + cond t 1 0 ≤ most_nodes → (t && nat_le most_nodes n) ≡ false
not_many true n h = grind (arith, nat_tests)
not_many false n h = refl

word_same : (w : Stage Written) (at : ℕ) (k : Kind) (opens : Bool) → word_fault (stage_meant w) at k opens ≡ word_fault w at k opens
word_same (AtOperand l o) at k opens = refl
word_same w at k opens = refl

deep_same : (w : Stage Written) (k : Kind) → is_too_deep (stage_meant w) k ≡ is_too_deep w k
deep_same (AtOperand l o) k = refl
deep_same w k = refl

-- ---- what was read has few nodes
pub reading_few : (ts : List Token) (s : Stage Tree) (n end : ℕ) (f : Tree) → n ≡ stage_nodes s → n ≤ most_nodes
    → reading s n end ts ≡ Ok f → nodes f ≤ most_nodes
reading_few [] s n end f e few h =
    let ends = last_read (finish trees s) end f h in
    omega (arith, some_is (finish trees s) (λ g. nodes g ≡ stage_nodes s) f (finish_counted s) ends, e, few)
reading_few (t ∷ ts) s n end f e few h =
    let refused = refusal s n t.place t.kind (opens_next ts) in
    let next : Stage Tree → Result Tree FormulaFault = λ v. reading v (n + node_count s t.kind) (t.place + t.len) ts in
    let first = first_read s t.kind (syntax_place s t.place t.len t.kind) refused next f h in
    let few_next = few_more (is_node s t.kind) n few (unrefused s n t.place t.kind (opens_next ts) first.passed).many in
    reading_few ts first.stage (n + node_count s t.kind) (t.place + t.len) f (omega (arith, counted first.is, e)) few_next first.rest

-- ---- what was read fits
pub reading_fits : (ts : List Token) (w : Stage Written) (n end : ℕ) (f : Tree) → StageBased w → FitsStage w
    → reading (stage_meant w) n end ts ≡ Ok f → IfSome (run writings w (kinds ts)) (Fits 0)
reading_fits [] w n end f based fits h = finish_fits w fits based
reading_fits (t ∷ ts) w n end f based fits h =
    let next : Stage Tree → Result Tree FormulaFault = λ v. reading v (n + node_count (stage_meant w) t.kind) (t.place + t.len) ts in
    let place = syntax_place (stage_meant w) t.place t.len t.kind in
    let first = first_read (stage_meant w) t.kind place (refusal (stage_meant w) n t.place t.kind (opens_next ts)) next f h in
    let passed = unrefused (stage_meant w) n t.place t.kind (opens_next ts) first.passed in
    let word = sym (word_same w t.place t.kind (opens_next ts)) ∙ passed.word in
    then_each (Fits 0) (step writings w t.kind) (λ v. run writings v (kinds ts)) (step_is writings w t.kind) (λ v e s.
    let steps : step trees (stage_meant w) t.kind ≡ Some (stage_meant v) = step_meant w t.kind ∙ ap (option_map stage_meant) e in
    let same : first.stage ≡ stage_meant v = same_Some _ _ (sym first.gives ∙ steps) in
    reading_fits ts v (n + node_count (stage_meant w) t.kind) (t.place + t.len) f (based_next s based)
    (fits_next t.place (opens_next ts) s fits based word (sym (deep_same w t.kind) ∙ passed.deep)) (ap next (sym same) ∙ first.rest))

-- ---- tokens of a formula that fits and has few nodes are read as it
-- after a name no parenthesis opens
no_open : (ts : List Token) (l : Waiting Written) (x : Written) (o : List (Waiting Written)) (c : Written)
    → run writings (AtAtom l x o) (kinds ts) ≡ Some c → opens_next ts ≡ false
no_open [] l x o c h = refl
no_open (t ∷ ts) l x o c h = by t.kind refl where
  by : (k : Kind) → t.kind ≡ k → is_open t.kind ≡ false
  by Open e =
      let none = ap (λ k. then_some (step writings (AtAtom l x o) k) (λ v. run writings v (kinds ts))) e in
      absurd (cc)
  by k e = ap is_open e

word_opens : (w : Stage Written) (at : ℕ) (k : Kind) (ts : List Token) (c : Written)
    → then_some (step writings w k) (λ v. run writings v (kinds ts)) ≡ Some c
    → word_fault w at k false ≡ None → word_fault w at k (opens_next ts) ≡ None
word_opens (AtOperand l o) at (Name name) ts c h e = rw (no_open ts l (writings.variable name) o c h) refl
word_opens (AtOperand l o) at (Number None power) ts c h e = e
word_opens w at k ts c h e = e

pub reading_again : (ts : List Token) (w : Stage Written) (n end : ℕ) (c : Written) → StageBased w → Fits 0 c
    → n ≡ stage_nodes (stage_meant w) → nodes (meant c) ≤ most_nodes
    → run writings w (kinds ts) ≡ Some c → reading (stage_meant w) n end ts ≡ Ok (meant c)
reading_again [] w n end c based fits e few h =
    ap (λ o. at_end o end) (finish_meant w ∙ ap (option_map meant) h)
reading_again (t ∷ ts) w n end c based fits e few h =
    let s = stage_meant w in
    let opens = opens_next ts in
    let next : Stage Tree → Result Tree FormulaFault = λ v. reading v (n + node_count s t.kind) (t.place + t.len) ts in
    let place = syntax_place s t.place t.len t.kind in
    let first = first_step writings w t.kind (λ v. run writings v (kinds ts)) c h in
    let v = first.stage in
    let steps : step trees s t.kind ≡ Some (stage_meant v) = step_meant w t.kind ∙ ap (option_map stage_meant) first.gives in
    let is = some_is (step trees s t.kind) (IsStep trees s t.kind) (stage_meant v) (step_is trees s t.kind) steps in
    let count = counted is in
    let total = run_counted (kinds ts) (stage_meant v) (meant c) (run_meant (kinds ts) v ∙ ap (option_map meant) first.rest) in
    let fits_after : FitsStage v = fits_back (kinds ts) v c (based_next first.is based) fits first.rest in
    let none : refusal s n t.place t.kind opens ≡ None = refused_none s n t.place t.kind opens (record {
      word = word_same w t.place t.kind opens ∙ word_opens w t.place t.kind ts c h (word_passed first.is fits_after t.place);
      deep = deep_same w t.kind ∙ deep_passed first.is fits_after;
      many = not_many (is_node s t.kind) n (omega (arith, count, total, few, e));
    }) in
    ap (λ o. goes_on o place (refusal s n t.place t.kind opens) next) steps
    ∙ ap (λ r. unless_refused r (next (stage_meant v))) none
    ∙ reading_again ts v (n + node_count s t.kind) (t.place + t.len) c (based_next first.is based) fits (omega (arith, count, e)) few first.rest
