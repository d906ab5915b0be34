-- Quantities in order: cones, and what is kept of them.
use Rattle.std.specs.Prelude.{◌≡◌, ℕ, zero, suc, ◌≤◌, Bool, true, false, ◌||◌, not, if◌then◌else◌, nat_eq, List, [], ◌∷◌, ◌++◌, length, find, filter, is_some, Option, Some, None, refl}
use Rattle.std.proofs.Common.{arith, sym, ◌∙◌, ap, subst}
use Rattle.std.proofs.lemmas.Bool.{true≢false, or_right, and_parts}
use Rattle.std.proofs.lemmas.Bool.Decides.{nat_tests}
use Rattle.std.proofs.lemmas.List.{append_assoc, append-nil}
use Rattle.std.proofs.lemmas.Option.{none-some}
use Rattle.dep_graph.proofs.Orders.{has-filter, has-reverse}
use Rattle.dep_graph.proofs.Searches.{chain-more}
use mathlib.Core.List.{reverse_aux}
use Rattle.dep_graph.specs.Nodes.{Node, has, ids_of, uses_in}
use Rattle.dep_graph.specs.Reaching.{IsChain, IsCone}
use Rattle.value_cache.specs.Quantities.{Body, Quantity, body_of, is_there, used_by}
use Rattle.value_cache.specs.Evaluations.{Found, evaluation_of_body, evaluation_through, evaluation_of}
use Rattle.value_cache.specs.Evaluable.{AreInOrder}
use Rattle.value_cache.specs.Rules.{Bodies, uses_of, AreRight, before, numbered, IsGraphOf, AreFalling}
use Rattle.value_cache.specs.declared.evaluation.Evaluation.{Evaluation}
use Rattle.value_cache.proofs.Rules.{has-first, found-each, body-same, cell-found, cell-evaluates, used-found, has-body}

-- ---- quantities by numbers
pub body_of-numbered : (bodies : Bodies) (ns : List ℕ) (n : ℕ) → body_of nat_eq (numbered bodies ns) n ≡ (if has ns n then bodies n else None)
body_of-numbered bodies [] n = refl
body_of-numbered bodies (m ∷ ns) n = by (bodies m) refl (nat_eq n m) refl (body_of-numbered bodies ns n) where
  or-none : (o : Option (Body ℕ)) → o ≡ None → (t : Bool) → (if t then o else None) ≡ None
  or-none o e true = e
  or-none o e false = refl

  by : (b : Option (Body ℕ)) → bodies m ≡ b → (t : Bool) → nat_eq n m ≡ t
      → body_of nat_eq (numbered bodies ns) n ≡ (if has ns n then bodies n else None)
      → body_of nat_eq (before m b (numbered bodies ns)) n ≡ (if nat_eq n m || has ns n then bodies n else None)
  by None e true q rest =
      let same : m ≡ n = grind (arith, nat_tests) in
      let none : bodies n ≡ None = ap bodies (sym same) ∙ e in
      rw q (rest ∙ or-none (bodies n) none (has ns n) ∙ sym none)
  by None e false q rest = rw q rest
  by (Some body) e true q rest =
      let same : m ≡ n = grind (arith, nat_tests) in
      let turned : nat_eq m n ≡ true = grind (arith, nat_tests) in
      rw (q, turned) (sym e ∙ ap bodies same)
  by (Some body) e false q rest = let turned : nat_eq m n ≡ false = grind (arith, nat_tests) in rw (q, turned) rest

-- what is among the quantities of these numbers is one of these
pub there-numbered : (bodies : Bodies) (ns : List ℕ) (n : ℕ) → is_there nat_eq (numbered bodies ns) n ≡ true → has ns n ≡ true
there-numbered bodies ns n h = by (has ns n) (ap is_some (sym (body_of-numbered bodies ns n)) ∙ h) where
  by : (t : Bool) → is_some (if t then bodies n else None) ≡ true → t ≡ true
  by true e = refl
  by false e = absurd (true≢false (sym e))

pub numbered-last : (bodies : Bodies) (ns : List ℕ) (n : ℕ) (body : Body ℕ) → bodies n ≡ Some body
    → numbered bodies (ns ++ n ∷ []) ≡ numbered bodies ns ++ record { key = n; body = body } ∷ []
numbered-last bodies [] n body e = rw e refl
numbered-last bodies (m ∷ ns) n body e = by (bodies m) (numbered-last bodies ns n body e) where
  by : (b : Option (Body ℕ)) → numbered bodies (ns ++ n ∷ []) ≡ numbered bodies ns ++ record { key = n; body = body } ∷ []
      → before m b (numbered bodies (ns ++ n ∷ [])) ≡ before m b (numbered bodies ns) ++ record { key = n; body = body } ∷ []
  by None rest = rest
  by (Some other) rest = ap (λ qs. record { key = m; body = other } ∷ qs) rest

length-numbered : (bodies : Bodies) (ns : List ℕ) → ((n : ℕ) → has ns n ≡ true → is_some (bodies n) ≡ true) → length (numbered bodies ns) ≡ length ns
length-numbered bodies [] there = refl
length-numbered bodies (m ∷ ns) there =
    by (bodies m) (there m (has-first m ns)) (length-numbered bodies ns (λ n h. there n (or_right (nat_eq n m) (has ns n) h))) where
      by : (b : Option (Body ℕ)) → is_some b ≡ true → length (numbered bodies ns) ≡ length ns → length (before m b (numbered bodies ns)) ≡ suc (length ns)
      by None h rest = absurd (true≢false (sym h))
      by (Some body) h rest = ap suc rest

-- a search for an unknown one that finds none
found-none : (known : ℕ → Bool) (ns : List ℕ) → find (λ n. not (known n)) ns ≡ None → (m : ℕ) → has ns m ≡ true → known m ≡ true
found-none known [] e m h = absurd (true≢false (sym h))
found-none known (n ∷ ns) e m h = by (known n) refl (nat_eq m n) refl (λ e t. found-none known ns e m t) where
  by : (k : Bool) → known n ≡ k → (t : Bool) → nat_eq m n ≡ t → (find (λ n. not (known n)) ns ≡ None → has ns m ≡ true → known m ≡ true) → known m ≡ true
  by false r t q rest = let none : Some n ≡ None = rw r at e in absurd (none-some n (sym none))
  by true r true q rest = let same : n ≡ m = grind (arith, nat_tests) in ap known (sym same) ∙ r
  by true r false q rest = rest (rw r at e) (rw q at h)

-- the next of the numbers in order: it is new, and uses those before it alone
pub record IsNext (bodies : Bodies) (done : List ℕ) (n : ℕ) (ns : List ℕ) : Type 0 where
  pub new : has done n ≡ false
  pub used : (m : ℕ) → has (uses_of (bodies n)) m ≡ true → has done m ≡ true
  pub rest : AreInOrder nat_eq (numbered bodies (done ++ n ∷ [])) (numbered bodies ns)

pub next : (bodies : Bodies) (done : List ℕ) (n : ℕ) (ns : List ℕ) → is_some (bodies n) ≡ true
    → AreInOrder nat_eq (numbered bodies done) (numbered bodies (n ∷ ns)) → IsNext bodies done n ns
next bodies done n ns there order = by (bodies n) refl there where
  new : (body : Body ℕ) → bodies n ≡ Some body → (t : Bool) → has done n ≡ t → is_there nat_eq (numbered bodies done) n ≡ false → t ≡ false
  new body e true q h =
      absurd (true≢false (ap is_some (sym e) ∙ ap (λ t. is_some (if t then bodies n else None)) (sym q) ∙ ap is_some (sym (body_of-numbered bodies done n)) ∙ h))
  new body e false q h = refl

  by : (b : Option (Body ℕ)) → bodies n ≡ b → is_some b ≡ true → IsNext bodies done n ns
  by None e h = absurd (true≢false (sym h))
  by (Some body) e h =
      let whole : AreInOrder nat_eq (numbered bodies done) (record { key = n; body = body } ∷ numbered bodies ns) =
      subst (λ b. AreInOrder nat_eq (numbered bodies done) (before n b (numbered bodies ns))) e order in
      record {
        new = new body e (has done n) refl whole.0;
        used = λ m used. there-numbered bodies done m
            (found-none (is_there nat_eq (numbered bodies done)) (used_by body) whole.1 m (ap (λ b. has (uses_of b) m) (sym e) ∙ used));
        rest = subst (λ qs. AreInOrder nat_eq qs (numbered bodies ns)) (sym (numbered-last bodies done n body e)) whole.2;
      }

pub has-last : (xs : List ℕ) (x n : ℕ) → has (xs ++ x ∷ []) n ≡ (has xs n || nat_eq n x)
has-last [] x n = or-last (nat_eq n x) where
  or-last : (b : Bool) → (b || false) ≡ b
  or-last true = refl
  or-last false = refl
has-last (y ∷ xs) x n = ap (λ b. nat_eq n y || b) (has-last xs x n) ∙ or-assoc (nat_eq n y) (has xs n) (nat_eq n x) where
  or-assoc : (a b c : Bool) → (a || (b || c)) ≡ ((a || b) || c)
  or-assoc true b c = refl
  or-assoc false b c = refl

-- ---- right cells are evaluations
is-some : {X : Type 0} (o : Option X) → is_some o ≡ true → (x : X) × (o ≡ Some x)
is-some None h = absurd (true≢false (sym h))
is-some (Some x) h = (x, refl)

length-last : (xs : List ℕ) (x : ℕ) → length (xs ++ x ∷ []) ≡ suc (length xs)
length-last [] x = refl
length-last (y ∷ xs) x = ap suc (length-last xs x)

or-false : (a b : Bool) → (a || b) ≡ true → b ≡ false → a ≡ true
or-false true b h off = refl
or-false false b h off = absurd (true≢false (sym h ∙ off))

-- the cells of these are found in as many turns as there are of them
pub record AreThrough (qs : List (Quantity ℕ)) (cells : Found ℕ) (done : List ℕ) : Type 0 where
  pub each : (k n : ℕ) (cell : Evaluation ℕ) → length done ≤ k → has done n ≡ true → cells n ≡ Some cell → evaluation_through nat_eq qs k n ≡ Some cell

through-last : (bodies : Bodies) (cells : Found ℕ) → AreRight bodies cells → (qs : List (Quantity ℕ)) (done : List ℕ) (n : ℕ) → body_of nat_eq qs n ≡ bodies n
    → ((m : ℕ) → has (uses_of (bodies n)) m ≡ true → has done m ≡ true) → AreThrough qs cells done → AreThrough qs cells (done ++ n ∷ [])
through-last bodies cells right qs done n placed used through = record { each = each } where
  itself : (k : ℕ) (cell : Evaluation ℕ) → length done ≤ k → cells n ≡ Some cell → evaluation_through nat_eq qs (suc k) n ≡ Some cell
  itself k cell low is =
      let rule = right.each n cell is in
      let all = cell-found cells n (bodies n) cell rule in
      let same : (m : ℕ) → has (uses_of (bodies n)) m ≡ true → evaluation_through nat_eq qs k m ≡ cells m = λ m u.
      let some = is-some (cells m) (found-each cells (uses_of (bodies n)) all m u) in
      through.each k m some.0 low (used m u) some.1 ∙ sym some.1 in
      ap (evaluation_of_body (evaluation_through nat_eq qs k) n) placed
      ∙ body-same (evaluation_through nat_eq qs k) cells n (bodies n) same
      ∙ sym (cell-evaluates cells n (bodies n) all)
      ∙ rule

  by : (k m : ℕ) (cell : Evaluation ℕ) → length done ≤ k → has (done ++ n ∷ []) m ≡ true → cells m ≡ Some cell → (t : Bool) → nat_eq m n ≡ t
      → evaluation_through nat_eq qs (suc k) m ≡ Some cell
  by k m cell low h is true q = let e : m ≡ n = grind (arith, nat_tests) in rw e (itself k cell low (ap cells (sym e) ∙ is))
  by k m cell low h is false q =
      through.each (suc k) m cell (omega (arith, low)) (or-false (has done m) (nat_eq m n) (sym (has-last done n m) ∙ h) q) is

  each : (k m : ℕ) (cell : Evaluation ℕ) → length (done ++ n ∷ []) ≤ k → has (done ++ n ∷ []) m ≡ true → cells m ≡ Some cell
      → evaluation_through nat_eq qs k m ≡ Some cell
  each zero m cell low h is = absurd (omega (arith, low, length-last done n))
  each (suc k) m cell low h is = by k m cell (omega (arith, low, length-last done n)) h is (nat_eq m n) refl

through-all : (bodies : Bodies) (cells : Found ℕ) → AreRight bodies cells → (qs : List (Quantity ℕ)) → ((n : ℕ) → is_some (bodies n) ≡ true → body_of nat_eq qs n ≡ bodies n)
    → (done ns : List ℕ) → ((n : ℕ) → has ns n ≡ true → is_some (bodies n) ≡ true) → AreInOrder nat_eq (numbered bodies done) (numbered bodies ns)
    → AreThrough qs cells done → AreThrough qs cells (done ++ ns)
through-all bodies cells right qs placed done [] there order through = subst (AreThrough qs cells) (sym (append-nil done)) through
through-all bodies cells right qs placed done (n ∷ ns) there order through =
    let here : is_some (bodies n) ≡ true = there n (has-first n ns) in
    let step = next bodies done n ns here order in
    subst (AreThrough qs cells) (append_assoc done (n ∷ []) ns)
    (through-all bodies cells right qs placed (done ++ n ∷ []) ns (λ m h. there m (or_right (nat_eq m n) (has ns m) h)) step.rest
    (through-last bodies cells right qs done n (placed n here) step.used through))

-- a cell is the evaluation of its quantity
pub right-evaluation : (nodes : List Node) (bodies : Bodies) (cells : Found ℕ) → IsGraphOf nodes bodies → AreRight bodies cells
    → (n : ℕ) (cell : Evaluation ℕ) → cells n ≡ Some cell → evaluation_of nat_eq (numbered bodies (ids_of nodes)) n ≡ Some cell
unfolding evaluation_of
right-evaluation nodes bodies cells graph right n cell is =
    let ids : List ℕ = ids_of nodes in
    let qs : List (Quantity ℕ) = numbered bodies ids in
    let there : (m : ℕ) → has ids m ≡ true → is_some (bodies m) ≡ true = λ m h. sym (graph.placed m) ∙ h in
    let placed : (m : ℕ) → is_some (bodies m) ≡ true → body_of nat_eq qs m ≡ bodies m =
    λ m h. body_of-numbered bodies ids m ∙ ap (λ t. if t then bodies m else None) (graph.placed m ∙ h) in
    let all = through-all bodies cells right qs placed [] ids there graph.earlier (record { each = λ k m c low h. absurd (true≢false (sym h)) }) in
    all.each (length qs) n cell (omega (arith, length-numbered bodies ids there)) (graph.placed n ∙ has-body bodies cells right n cell is) is

-- ---- cones
or-turned : (a b c : Bool) → (a || b) ≡ true → (a ≡ true → c ≡ true) → (b || c) ≡ true
or-turned true true c h more = refl
or-turned true false c h more = more refl
or-turned false true c h more = refl
or-turned false false c h more = absurd (true≢false (sym h))

-- one number more, of those in order that pass, turned round
falling-step : (bodies : Bodies) (p : ℕ → Bool) → ((n m : ℕ) → p n ≡ true → has (uses_of (bodies n)) m ≡ true → p m ≡ true)
    → (done ns after : List ℕ) (n : ℕ) → IsNext bodies done n ns → ((m : ℕ) → has done m ≡ true → p m ≡ true → has after m ≡ true) → AreFalling bodies after
    → ((after : List ℕ) → ((m : ℕ) → has (done ++ n ∷ []) m ≡ true → p m ≡ true → has after m ≡ true) → AreFalling bodies after
    → AreFalling bodies (reverse_aux (filter p ns) after))
    → (t : Bool) → p n ≡ t → AreFalling bodies (reverse_aux (filter p (n ∷ ns)) after)
falling-step bodies p closed done ns after n step found falling rest true q =
    rw q (rest (n ∷ after) (λ m h pass. or-turned (has done m) (nat_eq m n) (has after m) (sym (has-last done n m) ∙ h) (λ d. found m d pass))
    (λ m used. found m (step.used m used) (closed n m q used), falling))
falling-step bodies p closed done ns after n step found falling rest false q = rw q (rest after (λ m h pass. by m h pass (nat_eq m n) refl) falling) where
  by : (m : ℕ) → has (done ++ n ∷ []) m ≡ true → p m ≡ true → (t : Bool) → nat_eq m n ≡ t → has after m ≡ true
  by m h pass true r = let e : m ≡ n = grind (arith, nat_tests) in absurd (true≢false (sym pass ∙ ap p e ∙ q))
  by m h pass false r = found m (or-false (has done m) (nat_eq m n) (sym (has-last done n m) ∙ h) r) pass

falling-turned : (bodies : Bodies) (p : ℕ → Bool) → ((n m : ℕ) → p n ≡ true → has (uses_of (bodies n)) m ≡ true → p m ≡ true)
    → (done ns after : List ℕ) → ((n : ℕ) → has ns n ≡ true → is_some (bodies n) ≡ true) → AreInOrder nat_eq (numbered bodies done) (numbered bodies ns)
    → ((m : ℕ) → has done m ≡ true → p m ≡ true → has after m ≡ true) → AreFalling bodies after → AreFalling bodies (reverse_aux (filter p ns) after)
falling-turned bodies p closed done [] after there order found falling = falling
falling-turned bodies p closed done (n ∷ ns) after there order found falling =
    let step = next bodies done n ns (there n (has-first n ns)) order in
    falling-step bodies p closed done ns after n step found falling
    (λ after found falling. falling-turned bodies p closed (done ++ n ∷ []) ns after (λ m h. there m (or_right (nat_eq m n) (has ns m) h)) step.rest found falling)
    (p n) refl

-- a cone has bodies, and each uses those after it alone
pub record IsWay (bodies : Bodies) (cone : List ℕ) : Type 0 where
  pub placed : (n : ℕ) → has cone n ≡ true → is_some (bodies n) ≡ true
  pub falling : AreFalling bodies cone

pub way-of : (nodes : List Node) (bodies : Bodies) (y : ℕ) (cone : List ℕ) → IsGraphOf nodes bodies → IsCone nodes y cone → IsWay bodies cone
way-of nodes bodies y cone graph is =
    let ids : List ℕ = ids_of nodes in
    let there : (n : ℕ) → has ids n ≡ true → is_some (bodies n) ≡ true = λ n h. sym (graph.placed n) ∙ h in
    let closed : (n m : ℕ) → has cone n ≡ true → has (uses_of (bodies n)) m ≡ true → has cone m ≡ true = λ n m h used.
    let far = (is.exactly n).0 h in
    (is.exactly m).1 (record { chain = far.chain ++ m ∷ []; is = chain-more (uses_in nodes) far.chain y n m far.is (graph.uses n m ∙ used) }) in
    record {
      placed = λ n h. there n (and_parts (has ids n) (has cone n) (sym (has-filter (has cone) ids n) ∙ sym (has-reverse (filter (has cone) ids) n) ∙ ap (λ l. has l n) (sym is.falling) ∙ h)).0;
      falling = subst (AreFalling bodies) (sym is.falling)
          (falling-turned bodies (has cone) closed [] ids [] there graph.earlier (λ m h pass. h) tt);
    }

-- what a quantity with a cell rests on has cells
pub chain-found : (nodes : List Node) (bodies : Bodies) (cells : Found ℕ) → IsGraphOf nodes bodies → AreRight bodies cells → (ms : List ℕ) (y n : ℕ)
    → is_some (cells y) ≡ true → IsChain (uses_in nodes) y ms n → is_some (cells n) ≡ true
chain-found nodes bodies cells graph right [] y n there chain = ap (λ n. is_some (cells n)) (sym chain) ∙ there
chain-found nodes bodies cells graph right (m ∷ ms) y n there chain =
    chain-found nodes bodies cells graph right ms m n (used-found bodies cells right y m there (sym (graph.uses y m) ∙ chain.0)) chain.1
