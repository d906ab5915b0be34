-- Names that stand for numbers, and the evaluation of a formula through them.
use Rattle.std.specs.Prelude.{◌≡◌, ◌+◌, ◌<◌, ℕ, zero, suc, Bool, true, false, ◌||◌, not, if◌then◌else◌, List, [], ◌∷◌, map, find, filter, drop, length, get_or, nat_eq, bytes_eq, is_some, Option, Some, None, Ok, Err, refl}
use Rattle.std.specs.List.{list_all, list_any}
use Rattle.std.specs.Option.{option_or, option_and_then, unwrap_or}
use Rattle.std.proofs.Common.{arith, sym, ◌∙◌, ap, subst}
use Rattle.std.proofs.lemmas.Bool.{true≢false, and_parts}
use Rattle.std.proofs.lemmas.Slice.Eq.{bytes_eq-Decides}
use Rattle.formula_ast.specs.Trees.{Tree, uses, distinct, names_of}
use Rattle.dep_graph.specs.Nodes.{has}
use Rattle.fixed_interval.specs.Interval.{Interval}
use Rattle.fixed_interval.specs.declared.faults.ArithFault.{ArithFault}
use Rattle.formula_box.specs.Values.{Answer, span_of}
use Rattle.formula_box.specs.declared.fault.EvalFault.TheVariants.{Arith, NoValue}
use Rattle.value_cache.specs.Evaluations.{Found, span_in, first_fault, settled, evaluation_of_formula}
use Rattle.value_cache.specs.Rules.{are_found, fault_of, fault_among}
use Rattle.value_cache.specs.Slots.{id_of, key_by, span_through, IsNumbered}
use Rattle.value_cache.specs.declared.evaluation.Evaluation.TheVariants.{Enclosed, Fault}
use Rattle.value_cache.proofs.Names.{AllNames, AllNames-map, names_known, find-distinct, find-distinct_keys}
use Rattle.value_cache.proofs.Faults.{span_same, is_evaluated, fault-distinct}
use Rattle.value_cache.proofs.Rules.{AllNames-used, found-each}

-- ---- each of the names has a number
-- what is known of one more name is known still
find-more : (p q : List ℕ → Bool) (ns : List (List ℕ)) → ((n : List ℕ) → p n ≡ true → q n ≡ true)
    → find (λ n. not (p n)) ns ≡ None → find (λ n. not (q n)) ns ≡ None
find-more p q [] more e = refl
find-more p q (n ∷ ns) more e = by (p n) refl (find-more p q ns more) where
  by : (b : Bool) → p n ≡ b → (find (λ n. not (p n)) ns ≡ None → find (λ n. not (q n)) ns ≡ None) → find (λ n. not (q n)) (n ∷ ns) ≡ None
  by true r rest = rw (more n r) (rest (rw r at e))
  by false r rest = cc (rw r at e)

all-numbered : (names : List (List ℕ)) (ids : List ℕ) → length ids ≡ length names → find (λ n. not (is_some (id_of names ids n))) names ≡ None
all-numbered [] ids h = refl
all-numbered (m ∷ ms) [] h = absurd (omega (arith, h))
all-numbered (m ∷ ms) (id ∷ ids) h =
    let itself : bytes_eq m m ≡ true = (bytes_eq-Decides m m).1 refl in
    rw itself
    (find-more (λ n. is_some (id_of ms ids n)) (λ n. is_some (id_of (m ∷ ms) (id ∷ ids) n)) ms (λ n known. by n (bytes_eq n m) known) (all-numbered ms ids (omega (arith, h)))) where
      by : (n : List ℕ) (t : Bool) → is_some (id_of ms ids n) ≡ true → is_some (if t then Some id else id_of ms ids n) ≡ true
      by n true known = refl
      by n false known = known

pub names-numbered : (f : Tree) (names : List (List ℕ)) (ids : List ℕ) → IsNumbered f names ids → AllNames (λ n. is_some (id_of names ids n) ≡ true) f
names-numbered f names ids h =
    let known : List ℕ → Bool = λ n. is_some (id_of names ids n) in
    names_known known f
    (sym (find-distinct (λ n. not (known n)) (uses f)) ∙ ap (find (λ n. not (known n))) (sym h.named) ∙ all-numbered names ids h.numbers)

-- ---- the numbers are those for which the names stand
-- n is none of these
abbrev is_other : List ℕ → List (List ℕ) → Bool
is_other n ns = list_all (λ m. not (bytes_eq n m)) ns

abbrev AreOther : List (List ℕ) → Type 0
AreOther [] = Unit {0}
AreOther (n ∷ ns) = (is_other n ns ≡ true) × AreOther ns

others-filtered : (p : List ℕ → Bool) (n : List ℕ) (ns : List (List ℕ)) → is_other n ns ≡ true → is_other n (filter p ns) ≡ true
others-filtered p n [] h = refl
others-filtered p n (m ∷ ns) h = by (p m) (others-filtered p n ns (and_parts (not (bytes_eq n m)) (is_other n ns) h).1) where
  by : (t : Bool) → is_other n (filter p ns) ≡ true → is_other n (if t then m ∷ filter p ns else filter p ns) ≡ true
  by true rest = rw ((and_parts (not (bytes_eq n m)) (is_other n ns) h).0) rest
  by false rest = rest

other-filtered : (p : List ℕ → Bool) (ns : List (List ℕ)) → AreOther ns → AreOther (filter p ns)
other-filtered p [] h = tt
other-filtered p (n ∷ ns) h = by (p n) (other-filtered p ns h.1) where
  by : (t : Bool) → AreOther (filter p ns) → AreOther (if t then n ∷ filter p ns else filter p ns)
  by true rest = (others-filtered p n ns h.0, rest)
  by false rest = rest

other-without : (n : List ℕ) (ns : List (List ℕ)) → is_other n (filter (λ m. not (bytes_eq n m)) ns) ≡ true
other-without n [] = refl
other-without n (m ∷ ns) = by (not (bytes_eq n m)) refl (other-without n ns) where
  by : (t : Bool) → not (bytes_eq n m) ≡ t → is_other n (filter (λ m. not (bytes_eq n m)) ns) ≡ true
      → is_other n (if t then m ∷ filter (λ m. not (bytes_eq n m)) ns else filter (λ m. not (bytes_eq n m)) ns) ≡ true
  by true e rest = rw e rest
  by false e rest = rest

other-distinct : (ns : List (List ℕ)) → AreOther (distinct ns)
other-distinct [] = tt
other-distinct (n ∷ ns) = (other-without n (distinct ns), other-filtered (λ m. not (bytes_eq n m)) (distinct ns) (other-distinct ns))

bytes_eq-turned : (m n : List ℕ) → not (bytes_eq m n) ≡ true → bytes_eq n m ≡ false
bytes_eq-turned m n h = by (bytes_eq n m) refl where
  by : (t : Bool) → bytes_eq n m ≡ t → t ≡ false
  by true e =
      let same : n ≡ m = (bytes_eq-Decides n m).0 e in
      let turned : bytes_eq m n ≡ true = (bytes_eq-Decides m n).1 (sym same) in
      absurd (true≢false (sym h ∙ ap not turned))
  by false e = refl

-- a name more, which is none of these, changes nothing of these
keys-other : (m : List ℕ) (ms : List (List ℕ)) (id : ℕ) (ids : List ℕ) (ns : List (List ℕ)) → is_other m ns ≡ true
    → map (key_by (m ∷ ms) (id ∷ ids)) ns ≡ map (key_by ms ids) ns
keys-other m ms id ids [] h = refl
keys-other m ms id ids (n ∷ ns) h =
    let both = and_parts (not (bytes_eq m n)) (is_other m ns) h in
    rw (bytes_eq-turned m n both.0) (ap (λ ks. key_by ms ids n ∷ ks) (keys-other m ms id ids ns both.1))

keys-are : (names : List (List ℕ)) (ids : List ℕ) → AreOther names → length ids ≡ length names → map (key_by names ids) names ≡ ids
keys-are [] [] other h = refl
keys-are [] (id ∷ ids) other h = absurd (omega (arith, h))
keys-are (m ∷ ms) [] other h = absurd (omega (arith, h))
keys-are (m ∷ ms) (id ∷ ids) other h =
    let itself : bytes_eq m m ≡ true = (bytes_eq-Decides m m).1 refl in
    rw itself (ap (λ ks. id ∷ ks) (keys-other m ms id ids ms other.0 ∙ keys-are ms ids other.1 (omega (arith, h))))

-- the numbers beside the names of a formula, by the names
pub numbers-named : (f : Tree) (names : List (List ℕ)) (ids : List ℕ) → IsNumbered f names ids → map (key_by names ids) (names_of f) ≡ ids
numbers-named f names ids h =
    ap (map (key_by names ids)) (sym h.named)
    ∙ keys-are names ids (subst AreOther (sym h.named) (other-distinct (uses f))) h.numbers

any-found : (p : ℕ → Bool) (ns : List ℕ) → list_any p ns ≡ is_some (find p ns)
any-found p [] = refl
any-found p (n ∷ ns) = by (p n) (any-found p ns) where
  by : (t : Bool) → list_any p ns ≡ is_some (find p ns) → (t || list_any p ns) ≡ is_some (if t then Some n else find p ns)
  by true rest = refl
  by false rest = rest

-- they are those that the formula uses
pub numbers-used : (f : Tree) (names : List (List ℕ)) (ids : List ℕ) → IsNumbered f names ids → (m : ℕ) → has ids m ≡ has (map (key_by names ids) (uses f)) m
numbers-used f names ids h m =
    let key = key_by names ids in
    ap (λ ns. has ns m) (sym (numbers-named f names ids h))
    ∙ any-found (nat_eq m) (map key (names_of f))
    ∙ ap is_some (find-distinct_keys (nat_eq m) key (uses f))
    ∙ sym (any-found (nat_eq m) (map key (uses f)))

-- ---- a formula through the names
fault-named : (cells : Found ℕ) (key : List ℕ → ℕ) (ns : List (List ℕ)) → fault_among cells (map key ns) ≡ first_fault (λ n. cells (key n)) ns
fault-named cells key [] = refl
fault-named cells key (n ∷ ns) = ap (option_or (fault_of cells (key n))) (fault-named cells key ns)

pub faults-through : (cells : Found ℕ) (f : Tree) (names : List (List ℕ)) (ids : List ℕ) → IsNumbered f names ids
    → fault_among cells ids ≡ first_fault (λ n. cells (key_by names ids n)) (names_of f)
faults-through cells f names ids h =
    ap (fault_among cells) (sym (numbers-named f names ids h)) ∙ fault-named cells (key_by names ids) (names_of f)

span-through : (cells : Found ℕ) (o : Option ℕ) → is_some o ≡ true → option_and_then (λ id. span_in (cells id)) o ≡ span_in (cells (unwrap_or o 0))
span-through cells None h = absurd (true≢false (sym h))
span-through cells (Some id) h = refl

-- the code's look-up is that of the definition at the names of the formula
pub spans-through : (cells : Found ℕ) (f : Tree) (names : List (List ℕ)) (ids : List ℕ) → IsNumbered f names ids
    → AllNames (λ n. span_through names ids cells n ≡ span_in (cells (key_by names ids n))) f
spans-through cells f names ids h =
    AllNames-map (λ n. is_some (id_of names ids n) ≡ true) (λ n. span_through names ids cells n ≡ span_in (cells (key_by names ids n)))
    (λ n known. span-through cells (id_of names ids n) known) f (names-numbered f names ids h)

pub span_of-through : (cells : Found ℕ) (f : Tree) (names : List (List ℕ)) (ids : List ℕ) → IsNumbered f names ids
    → span_of (λ n. span_through names ids cells n) f ≡ span_of (λ n. span_in (cells (key_by names ids n))) f
unfolding span_of
span_of-through cells f names ids h =
    span_same (λ n. span_through names ids cells n) (λ n. span_in (cells (key_by names ids n))) 0 f (spans-through cells f names ids h)

-- what a formula evaluates to, by the code's answer
evaluated-through : (cells : Found ℕ) (row : ℕ) (f : Tree) (names : List (List ℕ)) (ids : List ℕ) (r : Answer) → IsNumbered f names ids
    → r ≡ span_of (λ n. span_through names ids cells n) f
    → evaluation_of_formula (λ n. cells (key_by names ids n)) row f ≡ settled (λ n. cells (key_by names ids n)) row f r
evaluated-through cells row f names ids r h e =
    ap (settled (λ n. cells (key_by names ids n)) row f) (sym (e ∙ span_of-through cells f names ids h))

pub evaluated-span : (cells : Found ℕ) (row : ℕ) (f : Tree) (names : List (List ℕ)) (ids : List ℕ) (s : Interval) → IsNumbered f names ids
    → Ok s ≡ span_of (λ n. span_through names ids cells n) f → evaluation_of_formula (λ n. cells (key_by names ids n)) row f ≡ Some (Enclosed s)
evaluated-span cells row f names ids s h e = evaluated-through cells row f names ids (Ok s) h e

pub evaluated-arith : (cells : Found ℕ) (row : ℕ) (f : Tree) (names : List (List ℕ)) (ids : List ℕ) (fault : ArithFault) → IsNumbered f names ids
    → Err (Arith fault) ≡ span_of (λ n. span_through names ids cells n) f → evaluation_of_formula (λ n. cells (key_by names ids n)) row f ≡ Some (Fault fault row)
evaluated-arith cells row f names ids fault h e = evaluated-through cells row f names ids (Err (Arith fault)) h e

pub evaluated-among : (cells : Found ℕ) (row : ℕ) (f : Tree) (names : List (List ℕ)) (ids : List ℕ) (k : ℕ) → IsNumbered f names ids
    → Err (NoValue k) ≡ span_of (λ n. span_through names ids cells n) f → evaluation_of_formula (λ n. cells (key_by names ids n)) row f ≡ fault_among cells ids
evaluated-among cells row f names ids k h e =
    evaluated-through cells row f names ids (Err (NoValue k)) h e
    ∙ sym (faults-through cells f names ids h ∙ fault-distinct (λ n. cells (key_by names ids n)) (uses f))

-- where all that a formula uses has cells, it is evaluated
pub ready-evaluates : (cells : Found ℕ) (row : ℕ) (f : Tree) (key : List ℕ → ℕ) → are_found cells (map key (uses f)) ≡ true
    → is_some (evaluation_of_formula (λ n. cells (key n)) row f) ≡ true
ready-evaluates cells row f key all =
    is_evaluated (λ n. cells (key n)) row f (AllNames-used (λ m. is_some (cells m) ≡ true) key f (found-each cells (map key (uses f)) all))

-- ---- the look-up of a name, place by place
none-left : (ms : List (List ℕ)) (n : List ℕ) → id_of ms [] n ≡ None
none-left [] n = refl
none-left (m ∷ ms) n = refl

pub number-later : (ms : List (List ℕ)) (ids : List ℕ) (at : ℕ) (n m : List ℕ) → at < length ms → m ≡ get_or ms at m → bytes_eq n m ≡ false
    → id_of (drop (at + 1) ms) (drop (at + 1) ids) n ≡ id_of (drop at ms) (drop at ids) n
number-later [] ids at n m low is off = absurd (omega (arith, low))
number-later (k ∷ ms) [] zero n m low is off = none-left ms n
number-later (k ∷ ms) (i ∷ ids) zero n m low is off = let t : bytes_eq n k ≡ false = ap (bytes_eq n) (sym is) ∙ off in rw t refl
number-later (k ∷ ms) [] (suc at) n m low is off =
    let e : suc at + 1 ≡ suc (at + 1) = omega arith in rw e (none-left (drop (at + 1) ms) n ∙ sym (none-left (drop at ms) n))
number-later (k ∷ ms) (i ∷ ids) (suc at) n m low is off =
    let e : suc at + 1 ≡ suc (at + 1) = omega arith in rw e (number-later ms ids at n m (omega (arith, low)) is off)
