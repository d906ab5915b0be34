-- How the evaluation of a formula depends on those of its names.
use Rattle.std.specs.Prelude.{◌≡◌, ℕ, Bool, true, false, if◌then◌else◌, not, List, [], ◌∷◌, ◌++◌, filter, bytes_eq, is_some, Option, Some, None, Result, Ok, Err, refl}
use Rattle.std.specs.Option.{option_or}
use Rattle.std.proofs.Common.{sym, ◌∙◌, ap, ap₂, subst}
use Rattle.std.proofs.lemmas.Bool.{true≢false}
use Rattle.std.proofs.lemmas.Slice.Eq.{bytes_eq-Decides}
use Rattle.fixed_interval.specs.Interval.{Interval}
use Rattle.fixed_interval.specs.Rules.{quotient}
use Rattle.fixed_interval.specs.Powers.{power}
use Rattle.fixed_interval.specs.declared.faults.ArithFault.{ArithFault}
use Rattle.formula_ast.specs.Trees.{Tree, Number, Variable, Opposite, Joined, Raised, uses, distinct}
use Rattle.formula_ast.specs.declared.token.Sign.{Sign}
use Rattle.formula_ast.specs.declared.token.Sign.TheVariants.{Plus, Minus, Times, Over}
use Rattle.formula_box.specs.Values.{Answer, then_with, in_range, arithmetic, used, use_after, joined_span, span_from, span_of}
use Rattle.formula_box.specs.declared.fault.EvalFault.TheVariants.{Arith, NoValue}
use Rattle.value_cache.specs.Evaluations.{Named, span_in, is_fault, fault_at, first_fault, settled, evaluation_of_formula}
use Rattle.value_cache.specs.declared.evaluation.Evaluation.{Evaluation}
use Rattle.value_cache.specs.declared.evaluation.Evaluation.TheVariants.{Enclosed, Fault}
use Rattle.value_cache.proofs.Names.{AllNames, AllNames-map}

-- ---- a formula is evaluated alike where its names are
pub span_same : (given others : List ℕ → Option Interval) (k : ℕ) (f : Tree) → AllNames (λ n. given n ≡ others n) f
    → span_from given k f ≡ span_from others k f
span_same given others k (Number q) h = refl
span_same given others k (Variable n) h = ap (used k) h
span_same given others k (Opposite a) h = rw (span_same given others k a h) refl
span_same given others k (Joined s a b) h =
    rw (span_same given others k a h.0, span_same given others (use_after k a) b h.1) refl
span_same given others k (Raised a e) h = rw (span_same given others k a h) refl

or_assoc : {K : Type 0} (a b c : Option (Evaluation K)) → option_or a (option_or b c) ≡ option_or (option_or a b) c
or_assoc None b c = refl
or_assoc (Some x) b c = refl

fault-append : {K : Type 0} (found : Named K) (xs ys : List (List ℕ)) → first_fault found (xs ++ ys) ≡ option_or (first_fault found xs) (first_fault found ys)
fault-append found [] ys = refl
fault-append found (x ∷ xs) ys = ap (option_or (fault_at found x)) (fault-append found xs ys) ∙ or_assoc (fault_at found x) (first_fault found xs) (first_fault found ys)

fault_same : {K : Type 0} (found others : Named K) (f : Tree) → AllNames (λ n. found n ≡ others n) f → first_fault found (uses f) ≡ first_fault others (uses f)
fault_same found others (Number q) k = refl
fault_same found others (Variable n) k = ap (λ o. option_or (if is_fault o then o else None) None) k
fault_same found others (Opposite a) k = fault_same found others a k
fault_same found others (Joined s a b) k =
    fault-append found (uses a) (uses b) ∙ ap₂ option_or (fault_same found others a k.0) (fault_same found others b k.1)
    ∙ sym (fault-append others (uses a) (uses b))
fault_same found others (Raised a e) k = fault_same found others a k

settled_same : {K : Type 0} (found others : Named K) (row : K) (f : Tree) (r : Answer) → first_fault found (uses f) ≡ first_fault others (uses f)
    → settled found row f r ≡ settled others row f r
settled_same found others row f (Ok s) h = refl
settled_same found others row f (Err (Arith fault)) h = refl
settled_same found others row f (Err (NoValue k)) h = h

pub evaluation_same : {K : Type 0} (found others : Named K) (row : K) (f : Tree) → AllNames (λ n. found n ≡ others n) f
    → evaluation_of_formula found row f ≡ evaluation_of_formula others row f
unfolding span_of
evaluation_same found others row f h =
    settled_same found others row f _ (fault_same found others f h)
    ∙ ap (settled others row f)
    (span_same (λ n. span_in (found n)) (λ n. span_in (others n)) 0 f (AllNames-map _ _ (λ n e. ap span_in e) f h))

-- ---- a formula whose names all have a span or a fault has one
-- the answer is no lack of a value
abbrev IsSettled : Answer → Type 0
IsSettled (Ok s) = Unit {0}
IsSettled (Err (Arith fault)) = Unit {0}
IsSettled (Err (NoValue k)) = ⊥

range_settled : (o : Option Interval) → IsSettled (in_range o)
range_settled None = tt
range_settled (Some s) = tt

arithmetic_settled : (r : Result Interval ArithFault) → IsSettled (arithmetic r)
arithmetic_settled (Err fault) = tt
arithmetic_settled (Ok s) = tt

then_settled : (r : Answer) (next : Interval → Answer) → IsSettled r → ((s : Interval) → IsSettled (next s)) → IsSettled (then_with r next)
then_settled (Ok s) next h k = k s
then_settled (Err (Arith fault)) next h k = tt
then_settled (Err (NoValue j)) next h k = h

joined_settled : (s : Sign) (x y : Interval) → IsSettled (joined_span s x y)
joined_settled Plus x y = range_settled _
joined_settled Minus x y = range_settled _
joined_settled Times x y = range_settled _
joined_settled Over x y = arithmetic_settled (quotient x y)

used_settled : (k : ℕ) (o : Option Interval) → is_some o ≡ true → IsSettled (used k o)
used_settled k None e = absurd (true≢false (sym e))
used_settled k (Some s) e = tt

span_settled : (given : List ℕ → Option Interval) (k : ℕ) (f : Tree) → AllNames (λ n. is_some (given n) ≡ true) f → IsSettled (span_from given k f)
span_settled given k (Number q) h = tt
span_settled given k (Variable n) h = used_settled k (given n) h
span_settled given k (Opposite a) h = then_settled _ _ (span_settled given k a h) (λ s. tt)
span_settled given k (Joined s a b) h =
    then_settled _ _ (span_settled given k a h.0)
    (λ x. then_settled _ _ (span_settled given (use_after k a) b h.1) (λ y. joined_settled s x y))
span_settled given k (Raised a e) h = then_settled _ _ (span_settled given k a h) (λ s. arithmetic_settled (power s e))

-- without a fault among them all names have spans
span_there : {K : Type 0} (o : Option (Evaluation K)) → is_some o ≡ true → option_or (if is_fault o then o else None) None ≡ None → is_some (span_in o) ≡ true
span_there None h e = h
span_there (Some (Fault fault row)) h e = absurd (cc)
span_there (Some (Enclosed s)) h e = refl

both_none : {K : Type 0} (a b : Option (Evaluation K)) → option_or a b ≡ None → (a ≡ None) × (b ≡ None)
both_none None b e = (refl, e)
both_none (Some x) b e = absurd (cc)

no_fault : {K : Type 0} (found : Named K) (f : Tree) → AllNames (λ n. is_some (found n) ≡ true) f → first_fault found (uses f) ≡ None
    → AllNames (λ n. is_some (span_in (found n)) ≡ true) f
no_fault found (Number q) h e = tt
no_fault found (Variable n) h e = span_there (found n) h e
no_fault found (Opposite a) h e = no_fault found a h e
no_fault found (Joined s a b) h e =
    let none = both_none _ _ (sym (fault-append found (uses a) (uses b)) ∙ e) in
    (no_fault found a h.0 none.0, no_fault found b h.1 none.1)
no_fault found (Raised a k) h e = no_fault found a h e

pub is_evaluated : {K : Type 0} (found : Named K) (row : K) (f : Tree) → AllNames (λ n. is_some (found n) ≡ true) f
    → is_some (evaluation_of_formula found row f) ≡ true
unfolding span_of
is_evaluated found row f h = by (span_from (λ n. span_in (found n)) 0 f) refl (first_fault found (uses f)) refl where
  by : (r : Answer) → span_from (λ n. span_in (found n)) 0 f ≡ r → (o : Option (Evaluation _)) → first_fault found (uses f) ≡ o
      → is_some (settled found row f r) ≡ true
  by (Ok s) e o g = refl
  by (Err (Arith fault)) e o g = refl
  by (Err (NoValue k)) e (Some x) g = rw g refl
  by (Err (NoValue k)) e None g =
      absurd (subst IsSettled e (span_settled (λ n. span_in (found n)) 0 f (no_fault found f h g)))

-- ---- the first fault is the same among the distinct names
fault-without : {K : Type 0} (found : Named K) (n : List ℕ) (ns : List (List ℕ)) → fault_at found n ≡ None
    → first_fault found (filter (λ m. not (bytes_eq n m)) ns) ≡ first_fault found ns
fault-without found n [] h = refl
fault-without found n (m ∷ ns) h = by (bytes_eq n m) refl (fault-without found n ns h) where
  by : (same : Bool) → bytes_eq n m ≡ same → first_fault found (filter (λ m. not (bytes_eq n m)) ns) ≡ first_fault found ns
      → first_fault found (filter (λ m. not (bytes_eq n m)) (m ∷ ns)) ≡ first_fault found (m ∷ ns)
  by true e rest =
      let absent : fault_at found m ≡ None = ap (fault_at found) (sym ((bytes_eq-Decides n m).0 e)) ∙ h in
      rw (e, absent) rest
  by false e rest = rw e (ap (option_or (fault_at found m)) rest)

pub fault-distinct : {K : Type 0} (found : Named K) (ns : List (List ℕ)) → first_fault found (distinct ns) ≡ first_fault found ns
fault-distinct found [] = refl
fault-distinct found (n ∷ ns) = by (fault_at found n) refl (fault-distinct found ns) where
  by : (o : Option (Evaluation _)) → fault_at found n ≡ o → first_fault found (distinct ns) ≡ first_fault found ns
      → first_fault found (distinct (n ∷ ns)) ≡ first_fault found (n ∷ ns)
  by (Some x) e rest = rw e refl
  by None e rest = rw e (fault-without found n (distinct ns) e ∙ rest)
