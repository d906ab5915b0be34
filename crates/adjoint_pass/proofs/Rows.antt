-- What a row uses, and its partial derivatives, which depend on what it uses alone.
use Rattle.std.specs.Prelude.{◌≡◌, ℕ, zero, suc, ◌+◌, ◌≤◌, ◌<◌, Bool, true, false, nat_eq, if◌then◌else◌, List, [], ◌∷◌, map, find, drop, get_or, length, is_some, Option, None, Some, Result, Ok, Err, refl}
use Rattle.std.specs.Option.{ok_or, option_or}
use Rattle.std.proofs.Common.{arith, sym, ◌∙◌, ap, ap₂}
use Rattle.std.proofs.lemmas.List.{drop_all}
use Rattle.fixed_interval.specs.Interval.{Interval}
use Rattle.fixed_interval.specs.Sums.{zero_span}
use Rattle.fixed_interval.specs.declared.faults.Overflow.{Overflow}
use Rattle.dep_graph.specs.Nodes.{has}
use Rattle.formula_ast.specs.Trees.{Tree, names_of, uses}
use Rattle.formula_box.specs.Values.{Answer, span_of}
use Rattle.formula_box.specs.Slopes.{partial_of, there}
use Rattle.formula_box.specs.Parts.{has_value}
use Rattle.formula_box.specs.declared.fault.EvalFault.TheVariants.{Arith, NoValue}
use Rattle.value_cache.specs.Quantities.{Body, Input, Function, Column}
use Rattle.value_cache.specs.Evaluations.{Found, Named, span_in, is_fault, first_fault, settled, evaluation_of_formula}
use Rattle.value_cache.specs.Rules.{Bodies, AreRight, cell_by, uses_of as used_of}
use Rattle.value_cache.specs.declared.evaluation.Evaluation.{Evaluation}
use Rattle.value_cache.specs.declared.evaluation.Evaluation.TheVariants.{Enclosed, Fault}
use Rattle.value_cache.specs.Slots.{key_by, span_through, IsNumbered}
use Rattle.value_cache.proofs.Rules.{AllNames-used}
use Rattle.value_cache.proofs.Numbers.{numbers-named, spans-through, span_of-through}
use Rattle.adjoint_pass.specs.Sensitivities.{uses_of, part_of}
use Rattle.adjoint_pass.specs.Gathering.{name_beside, part_in}
use Rattle.adjoint_pass.proofs.Formulas.{partial_same}
use Rattle.adjoint_pass.proofs.Numbers.{has-turned}

-- ---- what a row uses
abbrev pub uses_at : Option (Body ℕ) → ℕ → Bool
uses_at None n = false
uses_at (Some body) n = uses_of nat_eq body n

pub uses_at-has : (body : Option (Body ℕ)) (n : ℕ) → uses_at body n ≡ has (used_of body) n
uses_at-has None n = refl
uses_at-has (Some (Input estimate)) n = refl
uses_at-has (Some (Function f key)) n = has-turned _ n
uses_at-has (Some (Column t column)) n = refl

-- ---- partial derivatives where the spans of what is used are the same
pub part_same : (given others : ℕ → Option Interval) (body : Option (Body ℕ)) (n : ℕ) → ((m : ℕ) → has (used_of body) m ≡ true → given m ≡ others m)
    → part_in given body n ≡ part_in others body n
part_same given others None n same = refl
part_same given others (Some (Input estimate)) n same = refl
part_same given others (Some (Column t column)) n same = refl
part_same given others (Some (Function f key)) n same =
    partial_same (λ m. given (key m)) (λ m. others (key m)) f (find (λ name. nat_eq (key name) n) (names_of f))
    (AllNames-used (λ m. given m ≡ others m) key f same)

-- ---- a search for the name beside which a number stands
none_beside : (ms : List (List ℕ)) (n : ℕ) → name_beside ms [] n ≡ None
none_beside [] n = refl
none_beside (m ∷ ms) n = refl

no_names : (k : ℕ) (ids : List ℕ) (n : ℕ) → name_beside (drop k []) ids n ≡ None
no_names zero ids n = refl
no_names (suc k) ids n = refl

pub beside_later : (ms : List (List ℕ)) (ids : List ℕ) (at n id : ℕ) → at < length ids → id ≡ get_or ids at id → nat_eq id n ≡ false
    → name_beside (drop (at + 1) ms) (drop (at + 1) ids) n ≡ name_beside (drop at ms) (drop at ids) n
beside_later ms [] at n id low is off = absurd (omega (arith, low))
beside_later [] (i ∷ ids) at n id low is off =
    no_names (at + 1) (drop (at + 1) (i ∷ ids)) n ∙ sym (no_names at (drop at (i ∷ ids)) n)
beside_later (m ∷ ms) (i ∷ ids) zero n id low is off =
    let t : nat_eq i n ≡ false = ap (λ k. nat_eq k n) (sym is) ∙ off in rw t refl
beside_later (m ∷ ms) (i ∷ ids) (suc at) n id low is off =
    let e : suc at + 1 ≡ suc (at + 1) = omega arith in rw e (beside_later ms ids at n id (omega (arith, low)) is off)

pub beside_none : (ms : List (List ℕ)) (ids : List ℕ) (at n : ℕ) → length ids ≤ at → name_beside (drop at ms) (drop at ids) n ≡ None
beside_none ms ids at n past = ap (λ l. name_beside (drop at ms) l n) (drop_all at ids past) ∙ none_beside (drop at ms) n

-- ---- a formula by names that stand for numbers
beside_keys : (key : List ℕ → ℕ) (names : List (List ℕ)) (n : ℕ) → name_beside names (map key names) n ≡ find (λ name. nat_eq (key name) n) names
beside_keys key [] n = refl
beside_keys key (m ∷ ms) n = ap (λ o. if nat_eq (key m) n then Some m else o) (beside_keys key ms n)

beside_is : (f : Tree) (names : List (List ℕ)) (ids : List ℕ) → IsNumbered f names ids → (n : ℕ)
    → name_beside names ids n ≡ find (λ name. nat_eq (key_by names ids name) n) (names_of f)
beside_is f names ids h n =
    ap₂ (λ ms ns. name_beside ms ns n) h.named (sym (numbers-named f names ids h)) ∙ beside_keys (key_by names ids) (names_of f) n

through_is : (cells : Found ℕ) (f : Tree) (names : List (List ℕ)) (ids : List ℕ) → IsNumbered f names ids → (name : List ℕ)
    → there (partial_of (λ m. span_through names ids cells m) name f) ≡ there (partial_of (λ m. span_in (cells (key_by names ids m))) name f)
through_is cells f names ids h name =
    partial_same (λ m. span_through names ids cells m) (λ m. span_in (cells (key_by names ids m))) f (Some name) (spans-through cells f names ids h)

-- the answers of the call that finds a partial derivative
pub no_name : (cells : Found ℕ) (f : Tree) (names : List (List ℕ)) (ids : List ℕ) → IsNumbered f names ids → (n : ℕ) (s : Interval)
    → None ≡ name_beside names ids n → s ≡ zero_span
    → ◌≡◌ {A = Result Interval Overflow} (Ok s) (ok_or (part_of nat_eq (λ k. span_in (cells k)) (Function f (key_by names ids)) n) (record {}))
no_name cells f names ids h n s e z =
    let none : find (λ name. nat_eq (key_by names ids name) n) (names_of f) ≡ None = sym (beside_is f names ids h n) ∙ sym e in
    rw (none, z) refl

by_name : (cells : Found ℕ) (f : Tree) (names : List (List ℕ)) (ids : List ℕ) → IsNumbered f names ids → (n : ℕ) (name : List ℕ) (r : Answer)
    → Some name ≡ name_beside names ids n → r ≡ partial_of (λ m. span_through names ids cells m) name f
    → part_of nat_eq (λ k. span_in (cells k)) (Function f (key_by names ids)) n ≡ there r
by_name cells f names ids h n name r e p =
    let some : find (λ m. nat_eq (key_by names ids m) n) (names_of f) ≡ Some name = sym (beside_is f names ids h n) ∙ sym e in
    rw some (sym (ap there p ∙ through_is cells f names ids h name))

pub named : (cells : Found ℕ) (f : Tree) (names : List (List ℕ)) (ids : List ℕ) → IsNumbered f names ids → (n : ℕ) (name : List ℕ) (r : Result Interval Overflow)
    → Some name ≡ name_beside names ids n → r ≡ ok_or (there (partial_of (λ m. span_through names ids cells m) name f)) (record {})
    → r ≡ ok_or (part_of nat_eq (λ k. span_in (cells k)) (Function f (key_by names ids)) n) (record {})
named cells f names ids h n name r e p = p ∙ ap (λ o. ok_or o (record {})) (sym (by_name cells f names ids h n name _ e refl))

-- ---- the row of a quantity that has a span
no_span_at : (o : Option (Evaluation ℕ)) (s : Interval) → (if is_fault o then o else None) ≡ Some (Enclosed s) → ⊥
no_span_at None s e = cc
no_span_at (Some (Fault fault row)) s e = cc
no_span_at (Some (Enclosed t)) s e = cc

no_span_next : (o : Option (Evaluation ℕ)) (t : Bool) (rest : Option (Evaluation ℕ)) (s : Interval) → ((if t then o else None) ≡ Some (Enclosed s) → ⊥)
    → (rest ≡ Some (Enclosed s) → ⊥) → option_or (if t then o else None) rest ≡ Some (Enclosed s) → ⊥
no_span_next None true rest s h k e = k e
no_span_next None false rest s h k e = k e
no_span_next (Some cell) true rest s h k e = h e
no_span_next (Some cell) false rest s h k e = k e

no_span_among : (found : Named ℕ) (ns : List (List ℕ)) (s : Interval) → first_fault found ns ≡ Some (Enclosed s) → ⊥
no_span_among found [] s e = cc
no_span_among found (n ∷ ns) s e =
    no_span_next (found n) (is_fault (found n)) (first_fault found ns) s (no_span_at (found n) s) (no_span_among found ns s) e

settled_value : (found : Named ℕ) (row : ℕ) (f : Tree) (r : Answer) (s : Interval) → settled found row f r ≡ Some (Enclosed s) → is_some (there r) ≡ true
settled_value found row f (Ok t) s e = refl
settled_value found row f (Err (Arith fault)) s e = absurd (cc)
settled_value found row f (Err (NoValue k)) s e = absurd (no_span_among found (uses f) s e)

found_value : (cells : Found ℕ) (row : ℕ) (f : Tree) (key : List ℕ → ℕ) (t : Bool) (s : Interval)
    → (if t then evaluation_of_formula (λ n. cells (key n)) row f else None) ≡ Some (Enclosed s)
    → is_some (there (span_of (λ n. span_in (cells (key n))) f)) ≡ true
found_value cells row f key true s e = settled_value (λ n. cells (key n)) row f _ s e
found_value cells row f key false s e = absurd (cc)

cell_value : (cells : Found ℕ) (row : ℕ) (f : Tree) (key : List ℕ → ℕ) (s : Interval) → cell_by cells row (Some (Function f key)) ≡ Some (Enclosed s)
    → is_some (there (span_of (λ n. span_in (cells (key n))) f)) ≡ true
unfolding cell_by
cell_value cells row f key s e = found_value cells row f key _ s e

pub row_value : (bodies : Bodies) (cells : Found ℕ) → AreRight bodies cells → (m : ℕ) (f : Tree) (names : List (List ℕ)) (ids : List ℕ) → IsNumbered f names ids
    → bodies m ≡ Some (Function f (key_by names ids)) → is_some (span_in (cells m)) ≡ true
    → has_value (λ k. span_through names ids cells k) f ≡ true
row_value bodies cells right m f names ids h body some = by (cells m) refl some where
  by : (o : Option (Evaluation ℕ)) → cells m ≡ o → is_some (span_in o) ≡ true → has_value (λ k. span_through names ids cells k) f ≡ true
  by None e k = absurd (cc)
  by (Some (Fault fault row)) e k = absurd (cc)
  by (Some (Enclosed s)) e k =
      ap (λ r. is_some (there r)) (span_of-through cells f names ids h)
      ∙ cell_value cells m f (key_by names ids) s (ap (cell_by cells m) (sym body) ∙ right.each m (Enclosed s) e)
