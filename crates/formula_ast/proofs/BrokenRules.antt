-- The rules for tokens, and the refusal of one token of a text by the reading.
use Rattle.std.specs.Prelude.{◌≡◌, ℕ, suc, ◌+◌, ◌≤◌, ◌<◌, ◌&&◌, Bool, true, false, cond, nat_le, max, List, [], ◌∷◌, ◌++◌, Option, None, Some, option_map, refl}
use Rattle.std.proofs.Common.{sym, ap, subst, ◌∙◌, arith}
use Rattle.std.proofs.lemmas.Bool.Decides.{nat_tests}
use Rattle.std.proofs.lemmas.Bool.{and_parts}
use Rattle.decimal18.specs.Bound.{Bound}
use Rattle.decimal18.specs.declared.literal.NumFault.TheVariants.{NumberRange}
use Rattle.formula_ast.specs.Tokens.{Token, kinds}
use Rattle.formula_ast.specs.Grammar.{Written, GoesOn}
use Rattle.formula_ast.specs.Machine.{writings, Stage, AtOperand, AtAtom, AtEnd, AtExponent, first_stage, step, then_some, stages, run}
use Rattle.formula_ast.specs.Reading.{deepest, most_nodes, or_else, operand_fault, exponent_fault, word_fault, nests, is_too_deep, is_node, refusal, is_open, opens_next, node_count}
use Rattle.formula_ast.specs.Refusals.{IsBeforeExponent, nodes_from, nodes_in, MayNest, Opens, Breaks, order, place_of}
use Rattle.formula_ast.specs.declared.fault.FormulaFault.{FormulaFault}
use Rattle.formula_ast.specs.declared.fault.FormulaFault.TheVariants.{Syntax, UnknownFunction, Number as NumberFault, BadPower, TooDeep, TooMany, OutOfMemory}
use Rattle.formula_ast.specs.declared.token.Kind.{Kind}
use Rattle.formula_ast.specs.declared.token.Kind.TheVariants.{Number, Name, Joins, Hat, Open, Close, Glued, Wrong}
use Rattle.formula_ast.proofs.Runs.{stage_meant, stages_meant}
use Rattle.formula_ast.proofs.Sound.{IsSpelt, run_spelt}
use Rattle.formula_ast.proofs.Complete.{written_again}
use Rattle.formula_ast.proofs.Stages.{stages_run, goes_on_by_stages}
use Rattle.formula_ast.proofs.Nesting.{StageBased, step_based}
use Rattle.formula_ast.proofs.AgainNodes.{some_is, few_more}
use Rattle.formula_ast.proofs.WrittenDepths.{stage_nesting, token_nesting, step_deepens, run_nesting, ends_flat}
use Rattle.formula_ast.proofs.TokensRead.{stages_told, stages_append, in_exponent, before_exponent, exponent_read, step_counts, stages_nodes}

-- ---- the depth after a token
deepened : (t : Bool) (n : ℕ) → (t && nat_le deepest n) ≡ true → suc deepest ≤ cond t (suc n) 0
deepened true n h = grind (arith, nat_tests)
deepened false n h = absurd (cc)

not_deepened : (t : Bool) (n : ℕ) → (t && nat_le deepest n) ≡ false → cond t (suc n) 0 ≤ deepest
not_deepened true n h = grind (arith, nat_tests)
not_deepened false n h = omega arith

token_deep : (w : Stage Written) (k : Kind) → is_too_deep (stage_meant w) k ≡ true → suc deepest ≤ token_nesting w k
token_deep (AtOperand l o) k h = deepened (nests k) (l.base + l.minuses) h
token_deep (AtAtom l x o) k h = absurd (cc)
token_deep (AtEnd b left x o) k h = absurd (cc)
token_deep (AtExponent l x minus o) k h = absurd (cc)

token_not_deep : (w : Stage Written) (k : Kind) → is_too_deep (stage_meant w) k ≡ false → token_nesting w k ≤ deepest
token_not_deep (AtOperand l o) k h = not_deepened (nests k) (l.base + l.minuses) h
token_not_deep (AtAtom l x o) k h = omega arith
token_not_deep (AtEnd b left x o) k h = omega arith
token_not_deep (AtExponent l x minus o) k h = omega arith

next_nesting : (w v : Stage Written) (k : Kind) → StageBased w → step writings w k ≡ Some v
    → stage_nesting v ≡ max (stage_nesting w) (token_nesting w k)
next_nesting w v k b h = some_is (step writings w k) (λ u. stage_nesting u ≡ max (stage_nesting w) (token_nesting w k)) v (step_deepens w k b) h

token_nests : (w : Stage Written) (k : Kind) → is_too_deep (stage_meant w) k ≡ true → nests k ≡ true
token_nests (AtOperand l o) k h = (and_parts (nests k) (nat_le deepest (l.base + l.minuses)) h).0
token_nests (AtAtom l x o) k h = absurd (cc)
token_nests (AtEnd b left x o) k h = absurd (cc)
token_nests (AtExponent l x minus o) k h = absurd (cc)

-- ---- tokens may nest exactly where the stage after them does
may_nest : (ks : List Kind) (v : Stage Written) → stages writings first_stage ks ≡ Some v → StageBased v → stage_nesting v ≤ deepest → MayNest ks
may_nest ks v passed based d =
    let e = ends_flat v based in
    let all = ks ++ e.more in
    let ends = stages_run writings ks first_stage v e.more passed ∙ e.ends in
    let spelt = some_is (run writings first_stage all) (IsSpelt all) e.value (run_spelt all first_stage ((tt, tt), tt)) ends in
    record { more = e.more; written = e.value; grammatical = spelt.grammatical; spelt = spelt.spelt; nested = omega (arith, e.flat, d) }

nests_less : (ks : List Kind) (v : Stage Written) → stages writings first_stage ks ≡ Some v → StageBased v → MayNest ks → stage_nesting v ≤ deepest
nests_less ks v passed based m =
    let reads : run writings v m.more ≡ Some m.written =
    sym (stages_run writings ks first_stage v m.more passed)
    ∙ ap (λ us. run writings first_stage us) (sym m.spelt) ∙ written_again m.written m.grammatical in
    omega (arith, m.nested, run_nesting m.more v m.written based reads)

-- ---- a token of the reading of a text, with what was read before it
pub record Stands (w v : Stage Written) (ks : List Kind) (k : Kind) : Type 0 where
  pub passed : stages writings first_stage ks ≡ Some w
  pub steps : step writings w k ≡ Some v
  pub based : StageBased w
  pub deep : stage_nesting w ≤ deepest
  pub few : nodes_in ks ≤ most_nodes

module _ (w v : Stage Written) (ks : List Kind) (k : Kind) (h : Stands w v ks k) where
  pub then_passed : stages writings first_stage (ks ++ k ∷ []) ≡ Some v
  then_passed =
      stages_append ks (k ∷ []) first_stage
      ∙ ap (λ o. then_some o (λ u. stages writings u (k ∷ []))) h.passed
      ∙ ap (λ o. then_some o (λ u. Some u)) h.steps

  pub token_goes_on : GoesOn (ks ++ k ∷ [])
  token_goes_on =
      goes_on_by_stages (ks ++ k ∷ []) (stage_meant v)
      (stages_meant (ks ++ k ∷ []) first_stage ∙ ap (option_map stage_meant) then_passed)

  pub next_based : StageBased v
  next_based = some_is (step writings w k) StageBased v (step_based w k h.based) h.steps

  -- ---- its depth
  pub breaks_deep : is_too_deep (stage_meant w) k ≡ true → (nests k ≡ true) × (MayNest ks × (MayNest (ks ++ k ∷ []) → ⊥))
  breaks_deep e = (
    token_nests w k e,
    (
      may_nest ks w h.passed h.based h.deep,
      λ m. omega (arith, nests_less (ks ++ k ∷ []) v then_passed next_based m, next_nesting w v k h.based h.steps, token_deep w k e),
    ),
  )

  pub next_deep : is_too_deep (stage_meant w) k ≡ false → stage_nesting v ≤ deepest
  next_deep e = omega (arith, next_nesting w v k h.based h.steps, token_not_deep w k e, h.deep)

  pub keeps_deep : is_too_deep (stage_meant w) k ≡ false → MayNest (ks ++ k ∷ [])
  keeps_deep e = may_nest (ks ++ k ∷ []) v then_passed next_based (next_deep e)

  -- ---- its nodes
  pub next_nodes : nodes_in (ks ++ k ∷ []) ≡ nodes_in ks + node_count (stage_meant w) k
  next_nodes =
      let counts = some_is (step writings w k)
      (λ u. nodes_from (k ∷ []) (in_exponent w) ≡ node_count (stage_meant w) k + nodes_from [] (in_exponent u)) v (step_counts w k []) h.steps in
      omega (arith, stages_nodes ks (k ∷ []) first_stage w h.passed, counts)

  pub breaks_many : (is_node (stage_meant w) k && nat_le most_nodes (nodes_in ks)) ≡ true
      → (nodes_in ks ≡ most_nodes) × (nodes_in (ks ++ k ∷ []) ≡ suc most_nodes)
  breaks_many e =
      let full = one_more (is_node (stage_meant w) k) (nodes_in ks) h.few e in
      (full.0, next_nodes ∙ full.1) where
        one_more : (t : Bool) (n : ℕ) → n ≤ most_nodes → (t && nat_le most_nodes n) ≡ true → (n ≡ most_nodes) × (n + cond t 1 0 ≡ suc most_nodes)
        one_more true n few e = let least : most_nodes ≤ n = grind (arith, nat_tests) in (omega arith, omega arith)
        one_more false n few e = absurd (cc)

  pub next_few : (is_node (stage_meant w) k && nat_le most_nodes (nodes_in ks)) ≡ false → nodes_in (ks ++ k ∷ []) ≤ most_nodes
  next_few e = omega (arith, next_nodes, few_more (is_node (stage_meant w) k) (nodes_in ks) h.few e)

-- ---- the rules for names, numbers and exponents
opens_then : (ts : List Token) → opens_next ts ≡ true → Opens (kinds ts)
opens_then [] h = absurd (cc)
opens_then (t ∷ ts) h = (kinds ts, ap (λ j. j ∷ kinds ts) (by t.kind h)) where
  by : (k : Kind) → is_open k ≡ true → k ≡ Open
  by Open h = refl
  by (Number value power) h = absurd (cc)
  by (Name name) h = absurd (cc)
  by (Joins s) h = absurd (cc)
  by Hat h = absurd (cc)
  by Close h = absurd (cc)
  by Glued h = absurd (cc)
  by Wrong h = absurd (cc)

then_opens : (ts : List Token) → Opens (kinds ts) → opens_next ts ≡ true
then_opens [] h = let none : [] ≡ Open ∷ h.0 = h.1 in absurd (cc)
then_opens (t ∷ ts) h =
    let same : t.kind ∷ kinds ts ≡ Open ∷ h.0 = h.1 in
    let first : t.kind ≡ Open = cc in
    ap is_open first

record WordBroken (at : ℕ) (ks : List Kind) (k : Kind) (after : List Kind) (f : FormulaFault) : Type 0 where
  place : place_of f ≡ Some at
  breaks : Breaks f ks k after
  word : order f ≡ 1

operand_broken : (k : Kind) (ks after : List Kind) (at : ℕ) (opens : Bool) (f : FormulaFault)
    → (IsBeforeExponent ks → ⊥) → (opens ≡ true → Opens after) → operand_fault k at opens ≡ Some f → WordBroken at ks k after f
operand_broken (Name name) ks after at true f e o h =
    let same : UnknownFunction at ≡ f = cc in
    subst (λ g. WordBroken at ks (Name name) after g) same (record { place = refl; breaks = ((name, refl), o refl); word = refl })
operand_broken (Name name) ks after at false f e o h = absurd (cc)
operand_broken (Number None power) ks after at opens f e o h =
    let same : NumberFault NumberRange at ≡ f = cc in
    subst (λ g. WordBroken at ks (Number None power) after g) same (record { place = refl; breaks = (refl, ((power, refl), e)); word = refl })
operand_broken (Number (Some b) power) ks after at opens f e o h = absurd (cc)
operand_broken (Joins s) ks after at opens f e o h = absurd (cc)
operand_broken Hat ks after at opens f e o h = absurd (cc)
operand_broken Open ks after at opens f e o h = absurd (cc)
operand_broken Close ks after at opens f e o h = absurd (cc)
operand_broken Glued ks after at opens f e o h = absurd (cc)
operand_broken Wrong ks after at opens f e o h = absurd (cc)

exponent_broken : (k : Kind) (ks after : List Kind) (at : ℕ) (f : FormulaFault)
    → IsBeforeExponent ks → exponent_fault k at ≡ Some f → WordBroken at ks k after f
exponent_broken (Number value None) ks after at f e h =
    let same : BadPower at ≡ f = cc in
    subst (λ g. WordBroken at ks (Number value None) after g) same (record { place = refl; breaks = ((value, refl), e); word = refl })
exponent_broken (Number value (Some n)) ks after at f e h = absurd (cc)
exponent_broken (Name name) ks after at f e h = absurd (cc)
exponent_broken (Joins s) ks after at f e h = absurd (cc)
exponent_broken Hat ks after at f e h = absurd (cc)
exponent_broken Open ks after at f e h = absurd (cc)
exponent_broken Close ks after at f e h = absurd (cc)
exponent_broken Glued ks after at f e h = absurd (cc)
exponent_broken Wrong ks after at f e h = absurd (cc)

word_broken : (w : Stage Written) (k : Kind) (ks after : List Kind) (at : ℕ) (opens : Bool) (f : FormulaFault)
    → (in_exponent w ≡ true → IsBeforeExponent ks) → (IsBeforeExponent ks → in_exponent w ≡ true) → (opens ≡ true → Opens after)
    → word_fault (stage_meant w) at k opens ≡ Some f → WordBroken at ks k after f
word_broken (AtOperand l o) k ks after at opens f to from next h =
    operand_broken k ks after at opens f (λ e. let no : false ≡ true = from e in absurd (cc)) next h
word_broken (AtAtom l x o) k ks after at opens f to from next h = absurd (cc)
word_broken (AtEnd b left x o) k ks after at opens f to from next h = absurd (cc)
word_broken (AtExponent l x minus o) k ks after at opens f to from next h = exponent_broken k ks after at f (to refl) h

-- a token that breaks one of them is refused for it
name_refused : (w v : Stage Written) (name : List ℕ) (at : ℕ) → step writings w (Name name) ≡ Some v
    → word_fault (stage_meant w) at (Name name) true ≡ Some (UnknownFunction at)
name_refused (AtOperand l o) v name at h = refl
name_refused (AtAtom l x o) v name at h = absurd (cc)
name_refused (AtEnd b left x o) v name at h = absurd (cc)
name_refused (AtExponent l x minus o) v name at h = absurd (cc)

number_refused : (w v : Stage Written) (power : Option ℕ) (at : ℕ) (opens : Bool) → step writings w (Number None power) ≡ Some v
    → (in_exponent w ≡ true → ⊥) → word_fault (stage_meant w) at (Number None power) opens ≡ Some (NumberFault NumberRange at)
number_refused (AtOperand l o) v power at opens h e = refl
number_refused (AtAtom l x o) v power at opens h e = absurd (cc)
number_refused (AtEnd b left x o) v power at opens h e = absurd (cc)
number_refused (AtExponent l x minus o) v power at opens h e = absurd (e refl)

power_refused : (w : Stage Written) (value : Option Bound) (at : ℕ) (opens : Bool) → in_exponent w ≡ true
    → word_fault (stage_meant w) at (Number value None) opens ≡ Some (BadPower at)
power_refused (AtOperand l o) value at opens e = absurd (cc)
power_refused (AtAtom l x o) value at opens e = absurd (cc)
power_refused (AtEnd b left x o) value at opens e = absurd (cc)
power_refused (AtExponent l x minus o) value at opens e = refl

-- ---- the refusal of a token
-- the token breaks the rule of f, and no other that comes first
pub record IsBroken (at : ℕ) (ks : List Kind) (k : Kind) (after : List Kind) (f : FormulaFault) : Type 0 where
  pub place : place_of f ≡ Some at
  pub breaks : Breaks f ks k after
  pub first : (other : FormulaFault) → order other < order f → Breaks other ks k after → ⊥

abbrev pub Says : ℕ → List Kind → Kind → List Kind → Option FormulaFault → Type 0
Says at ks k after None = (f : FormulaFault) → Breaks f ks k after → ⊥
Says at ks k after (Some f) = IsBroken at ks k after f

-- the refusal that r is has the rule of f, and is f where it has the place of f
record RefusedFor (r : Option FormulaFault) (at : ℕ) (f : FormulaFault) : Type 0 where
  fault : FormulaFault
  is : r ≡ Some fault
  same : place_of f ≡ Some at → fault ≡ f

module _ (w v : Stage Written) (ks : List Kind) (k : Kind) (h : Stands w v ks k) (at : ℕ) (ts : List Token) where
  -- what the tests of the reading say
  abbrev word_test : Option FormulaFault
  word_test = word_fault (stage_meant w) at k (opens_next ts)

  abbrev deep_test : Bool
  deep_test = is_too_deep (stage_meant w) k

  abbrev many_test : Bool
  many_test = is_node (stage_meant w) k && nat_le most_nodes (nodes_in ks)

  to_exponent : in_exponent w ≡ true → IsBeforeExponent ks
  to_exponent e = subst IsBeforeExponent (stages_told ks first_stage w ((tt, tt), tt) h.passed) (before_exponent w e)

  from_exponent : IsBeforeExponent ks → in_exponent w ≡ true
  from_exponent e = exponent_read ks first_stage w h.passed e

  word_refused : (f : FormulaFault) → order f ≡ 1 → Breaks f ks k (kinds ts) → RefusedFor word_test at f
  word_refused (UnknownFunction n) one b =
      let steps = subst (λ j. step writings w j ≡ Some v) b.0.1 h.steps in
      record {
        fault = UnknownFunction at;
        is = rw (b.0.1, then_opens ts b.1) (name_refused w v b.0.0 at steps);
        same = λ e. let places : n ≡ at = cc in ap UnknownFunction (sym places);
      }
  word_refused (NumberFault fault n) one b =
      let steps = subst (λ j. step writings w j ≡ Some v) b.1.0.1 h.steps in
      record {
        fault = NumberFault NumberRange at;
        is = rw b.1.0.1 (number_refused w v b.1.0.0 at (opens_next ts) steps (λ e. b.1.1 (to_exponent e)));
        same = λ e. let places : n ≡ at = cc in ap (λ g. NumberFault g at) (sym b.0) ∙ ap (λ m. NumberFault fault m) (sym places);
      }
  word_refused (BadPower n) one b = record {
    fault = BadPower at;
    is = rw b.0.1 (power_refused w b.0.0 at (opens_next ts) (from_exponent b.1));
    same = λ e. let places : n ≡ at = cc in ap BadPower (sym places);
  }
  word_refused (Syntax n) one b = absurd (omega arith)
  word_refused (TooDeep n) one b = absurd (omega arith)
  word_refused (TooMany n) one b = absurd (omega arith)
  word_refused OutOfMemory one b = absurd (omega arith)

  word_kept : (f : FormulaFault) → order f ≡ 1 → word_test ≡ None → Breaks f ks k (kinds ts) → ⊥
  word_kept f one e b =
      let r = word_refused f one b in
      let none : None ≡ Some r.fault = sym e ∙ r.is in
      absurd (cc)

  -- it breaks no rule that comes before the n-th, where the tests of the reading for them fail
  keeps : (n : ℕ) → (1 < n → word_test ≡ None) → (2 < n → deep_test ≡ false) → (3 < n → many_test ≡ false)
      → (f : FormulaFault) → order f < n → Breaks f ks k (kinds ts) → ⊥
  keeps n e d m (Syntax a) less b = b (token_goes_on w v ks k h)
  keeps n e d m (UnknownFunction a) less b = word_kept (UnknownFunction a) refl (e (omega arith)) b
  keeps n e d m (NumberFault fault a) less b = word_kept (NumberFault fault a) refl (e (omega arith)) b
  keeps n e d m (BadPower a) less b = word_kept (BadPower a) refl (e (omega arith)) b
  keeps n e d m (TooDeep a) less b = b.1.1 (keeps_deep w v ks k h (d (omega arith)))
  keeps n e d m (TooMany a) less b = omega (arith, b.1, next_few w v ks k h (m (omega arith)))
  keeps n e d m OutOfMemory less b = b

  -- what the reading says of the token
  pub says : Says at ks k (kinds ts) (refusal (stage_meant w) (nodes_in ks) at k (opens_next ts))
  says =
      by word_test refl deep_test refl many_test refl where
        by : (word : Option FormulaFault) → word_test ≡ word → (deep : Bool) → deep_test ≡ deep → (many : Bool) → many_test ≡ many
            → Says at ks k (kinds ts) (or_else word (cond deep (Some (TooDeep at)) (cond many (Some (TooMany at)) None)))
        by (Some f) e deep d many m =
            let b = word_broken w k ks (kinds ts) at (opens_next ts) f to_exponent from_exponent (opens_then ts) e in
            record {
              place = b.place;
              breaks = b.breaks;
              first = keeps (order f) (λ x. absurd (omega (arith, x, b.word))) (λ x. absurd (omega (arith, x, b.word)))
                  (λ x. absurd (omega (arith, x, b.word)));
            }
        by None e true d many m = record {
          place = refl;
          breaks = breaks_deep w v ks k h d;
          first = keeps 2 (λ x. e) (λ x. absurd (omega arith)) (λ x. absurd (omega arith));
        }
        by None e false d true m = record {
          place = refl;
          breaks = breaks_many w v ks k h m;
          first = keeps 3 (λ x. e) (λ x. d) (λ x. absurd (omega arith));
        }
        by None e false d false m = λ f b. keeps 5 (λ x. e) (λ x. d) (λ x. m) f (last f) b where
          last : (f : FormulaFault) → order f < 5
          last (Syntax a) = omega arith
          last (UnknownFunction a) = omega arith
          last (NumberFault fault a) = omega arith
          last (BadPower a) = omega arith
          last (TooDeep a) = omega arith
          last (TooMany a) = omega arith
          last OutOfMemory = omega arith

  -- and a rule that is broken first is what it says
  pub refused_for : (f : FormulaFault) → IsBroken at ks k (kinds ts) f
      → refusal (stage_meant w) (nodes_in ks) at k (opens_next ts) ≡ Some f
  refused_for f b =
      by f b word_test refl deep_test refl many_test refl where
        by_word : (f : FormulaFault) → order f ≡ 1 → IsBroken at ks k (kinds ts) f → (word other : Option FormulaFault)
            → word_test ≡ word → or_else word other ≡ Some f
        by_word f one b word other e =
            let r = word_refused f one b.breaks in
            ap (λ o. or_else o other) (sym e ∙ r.is ∙ ap Some (r.same b.place))

        no_word : (f g : FormulaFault) → 1 < order f → IsBroken at ks k (kinds ts) f → word_test ≡ Some g → ⊥
        no_word f g more b e =
            let other = word_broken w k ks (kinds ts) at (opens_next ts) g to_exponent from_exponent (opens_then ts) e in
            b.first g (omega (arith, more, other.word)) other.breaks

        by : (f : FormulaFault) → IsBroken at ks k (kinds ts) f
            → (word : Option FormulaFault) → word_test ≡ word → (deep : Bool) → deep_test ≡ deep → (many : Bool) → many_test ≡ many
            → or_else word (cond deep (Some (TooDeep at)) (cond many (Some (TooMany at)) None)) ≡ Some f
        by (Syntax a) b word e deep d many m = absurd (b.breaks (token_goes_on w v ks k h))
        by (UnknownFunction a) b word e deep d many m = by_word (UnknownFunction a) refl b word _ e
        by (NumberFault fault a) b word e deep d many m = by_word (NumberFault fault a) refl b word _ e
        by (BadPower a) b word e deep d many m = by_word (BadPower a) refl b word _ e
        by (TooDeep a) b (Some g) e deep d many m = absurd (no_word (TooDeep a) g (omega arith) b e)
        by (TooDeep a) b None e true d many m = let place : Some a ≡ Some at = b.place in cc
        by (TooDeep a) b None e false d many m = absurd (b.breaks.1.1 (keeps_deep w v ks k h d))
        by (TooMany a) b (Some g) e deep d many m = absurd (no_word (TooMany a) g (omega arith) b e)
        by (TooMany a) b None e true d many m = absurd (b.first (TooDeep at) (omega arith) (breaks_deep w v ks k h d))
        by (TooMany a) b None e false d true m = let place : Some a ≡ Some at = b.place in cc
        by (TooMany a) b None e false d false m = absurd (omega (arith, b.breaks.1, next_few w v ks k h m))
        by OutOfMemory b word e deep d many m = absurd b.breaks
