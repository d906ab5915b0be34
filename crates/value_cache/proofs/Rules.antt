-- Cells under the rule of one row.
use Rattle.std.specs.Prelude.{◌≡◌, ℕ, Bool, true, false, ◌||◌, ◌&&◌, if◌then◌else◌, nat_eq, List, [], ◌∷◌, ◌++◌, map, is_some, Option, Some, None, refl}
use Rattle.std.proofs.Common.{arith, sym, ◌∙◌, ap}
use Rattle.std.proofs.lemmas.Bool.{true≢false, and_parts, or_left, or_right}
use Rattle.std.proofs.lemmas.Bool.Decides.{nat_tests}
use Rattle.std.proofs.lemmas.List.{map-append}
use Rattle.std.proofs.lemmas.List.Folds.{list_any-append}
use Rattle.dep_graph.specs.Nodes.{has}
use Rattle.formula_ast.specs.Trees.{Tree, Number, Variable, Opposite, Joined, Raised, uses}
use Rattle.value_cache.specs.Quantities.{Body, Input, Function, Column}
use Rattle.value_cache.specs.Evaluations.{Found, evaluation_of_body}
use Rattle.value_cache.specs.Rules.{Bodies, uses_of, are_found, cell_by, AreRight}
use Rattle.value_cache.specs.declared.evaluation.Evaluation.{Evaluation}
use Rattle.value_cache.proofs.Names.{AllNames}
use Rattle.value_cache.proofs.Faults.{evaluation_same}

-- ---- membership
pub has-first : (m : ℕ) (ms : List ℕ) → has (m ∷ ms) m ≡ true
has-first m ms = let e : nat_eq m m ≡ true = grind (arith, nat_tests) in rw e refl

-- what holds of each quantity that a formula uses, by the names that stand for them
pub AllNames-used : (P : ℕ → Type 0) (key : List ℕ → ℕ) (f : Tree) → ((m : ℕ) → has (map key (uses f)) m ≡ true → P m) → AllNames (λ n. P (key n)) f
AllNames-used P key (Number q) h = tt
AllNames-used P key (Variable n) h = h (key n) (has-first (key n) [])
AllNames-used P key (Opposite a) h = AllNames-used P key a h
AllNames-used P key (Joined s a b) h =
    let split : (m : ℕ) → has (map key (uses a ++ uses b)) m ≡ (has (map key (uses a)) m || has (map key (uses b)) m) =
    λ m. ap (λ ms. has ms m) (map-append key (uses a) (uses b)) ∙ list_any-append (nat_eq m) (map key (uses a)) (map key (uses b)) in (
      AllNames-used P key a (λ m t. h m (split m ∙ or_left (has (map key (uses a)) m) (has (map key (uses b)) m) t)),
      AllNames-used P key b (λ m t. h m (split m ∙ or_right (has (map key (uses a)) m) (has (map key (uses b)) m) t)),
    )
AllNames-used P key (Raised a k) h = AllNames-used P key a h

-- ---- what is found
both-true : (a b : Bool) → a ≡ true → b ≡ true → (a && b) ≡ true
both-true a b p q = rw (p, q) refl

pub found-from : (cells : Found ℕ) (ms : List ℕ) → ((m : ℕ) → has ms m ≡ true → is_some (cells m) ≡ true) → are_found cells ms ≡ true
found-from cells [] each = refl
found-from cells (m ∷ ms) each =
    both-true (is_some (cells m)) (are_found cells ms) (each m (has-first m ms))
    (found-from cells ms (λ k h. each k (or_right (nat_eq k m) (has ms k) h)))

pub found-each : (cells : Found ℕ) (ms : List ℕ) → are_found cells ms ≡ true → (m : ℕ) → has ms m ≡ true → is_some (cells m) ≡ true
found-each cells [] all m h = absurd (true≢false (sym h))
found-each cells (k ∷ ms) all m h = by (nat_eq m k) refl (found-each cells ms (and_parts (is_some (cells k)) (are_found cells ms) all).1 m) where
  by : (b : Bool) → nat_eq m k ≡ b → (has ms m ≡ true → is_some (cells m) ≡ true) → is_some (cells m) ≡ true
  by true q more = let e : m ≡ k = grind (arith, nat_tests) in rw e ((and_parts (is_some (cells k)) (are_found cells ms) all).0)
  by false q more = more (rw q at h)

-- ---- the rule looks at what is used alone
found-same : (f g : Found ℕ) (ms : List ℕ) → ((m : ℕ) → has ms m ≡ true → f m ≡ g m) → are_found f ms ≡ are_found g ms
found-same f g [] same = refl
found-same f g (m ∷ ms) same =
    let first : f m ≡ g m = same m (has-first m ms) in
    let rest : are_found f ms ≡ are_found g ms = found-same f g ms (λ k h. same k (or_right (nat_eq k m) (has ms k) h)) in
    rw (first, rest) refl

pub body-same : (f g : Found ℕ) (n : ℕ) (body : Option (Body ℕ)) → ((m : ℕ) → has (uses_of body) m ≡ true → f m ≡ g m)
    → evaluation_of_body f n body ≡ evaluation_of_body g n body
body-same f g n None same = refl
body-same f g n (Some (Input estimate)) same = refl
body-same f g n (Some (Column t column)) same = refl
body-same f g n (Some (Function tree key)) same =
    evaluation_same (λ k. f (key k)) (λ k. g (key k)) n tree (AllNames-used (λ m. f m ≡ g m) key tree same)

pub cell-same : (f g : Found ℕ) (n : ℕ) (body : Option (Body ℕ)) → ((m : ℕ) → has (uses_of body) m ≡ true → f m ≡ g m)
    → cell_by f n body ≡ cell_by g n body
unfolding cell_by
cell-same f g n body same = rw (found-same f g (uses_of body) same, body-same f g n body same) refl

pub cell-found : (cells : Found ℕ) (n : ℕ) (body : Option (Body ℕ)) (cell : Evaluation ℕ) → cell_by cells n body ≡ Some cell
    → are_found cells (uses_of body) ≡ true
unfolding cell_by
cell-found cells n body cell h = by (are_found cells (uses_of body)) refl where
  by : (b : Bool) → are_found cells (uses_of body) ≡ b → are_found cells (uses_of body) ≡ true
  by true q = q
  by false q = cc (rw q at h)

-- where all that is used is found, the rule is the body's evaluation
pub cell-evaluates : (cells : Found ℕ) (n : ℕ) (body : Option (Body ℕ)) → are_found cells (uses_of body) ≡ true
    → cell_by cells n body ≡ evaluation_of_body cells n body
unfolding cell_by
cell-evaluates cells n body all = rw all refl

-- what a quantity with a cell uses has cells
pub used-found : (bodies : Bodies) (cells : Found ℕ) → AreRight bodies cells → (n m : ℕ) → is_some (cells n) ≡ true
    → has (uses_of (bodies n)) m ≡ true → is_some (cells m) ≡ true
used-found bodies cells right n m there used = by (cells n) refl where
  by : (o : Option (Evaluation ℕ)) → cells n ≡ o → is_some (cells m) ≡ true
  by None q = absurd (true≢false (sym there ∙ ap is_some q))
  by (Some cell) q = found-each cells (uses_of (bodies n)) (cell-found cells n (bodies n) cell (right.each n cell q)) m used

-- what has a cell has a body
pub has-body : (bodies : Bodies) (cells : Found ℕ) → AreRight bodies cells → (n : ℕ) (cell : Evaluation ℕ) → cells n ≡ Some cell → is_some (bodies n) ≡ true
unfolding cell_by
has-body bodies cells right n cell h = by (bodies n) (right.each n cell h) where
  by : (b : Option (Body ℕ)) → cell_by cells n b ≡ Some cell → is_some b ≡ true
  by None e = cc e
  by (Some body) e = refl

-- ---- changes that keep cells right
-- the same bodies and cells at each number
pub right-same : (bodies new : Bodies) (cells now : Found ℕ) → ((n : ℕ) → new n ≡ bodies n) → ((n : ℕ) → now n ≡ cells n)
    → AreRight bodies cells → AreRight new now
right-same bodies new cells now b c right = record {
  each = λ n cell h.
      cell-same now cells n (new n) (λ m used. c m) ∙ ap (cell_by cells n) (b n) ∙ right.each n cell (sym (c n) ∙ h);
}

-- one body more, of a number without a cell
pub right-placed : (bodies new : Bodies) (cells now : Found ℕ) (id : ℕ) → cells id ≡ None → ((n : ℕ) → nat_eq n id ≡ false → new n ≡ bodies n)
    → ((n : ℕ) → now n ≡ cells n) → AreRight bodies cells → AreRight new now
right-placed bodies new cells now id none b c right = record { each = λ n cell h. by n cell (sym (c n) ∙ h) (nat_eq n id) refl } where
  by : (n : ℕ) (cell : Evaluation ℕ) → cells n ≡ Some cell → (t : Bool) → nat_eq n id ≡ t → cell_by now n (new n) ≡ Some cell
  by n cell h true q = let e : n ≡ id = grind (arith, nat_tests) in let off : cells n ≡ None = ap cells e ∙ none in cc (sym off ∙ h)
  by n cell h false q = cell-same now cells n (new n) (λ m used. c m) ∙ ap (cell_by cells n) (b n q) ∙ right.each n cell h

-- one cell more, which its row gives
pub right-found : (bodies new : Bodies) (cells now : Found ℕ) (id : ℕ) (cell : Evaluation ℕ) → cells id ≡ None → cell_by cells id (bodies id) ≡ Some cell
    → ((n : ℕ) → new n ≡ bodies n) → ((n : ℕ) → now n ≡ (if nat_eq n id then Some cell else cells n)) → AreRight bodies cells → AreRight new now
right-found bodies new cells now id cell none rule b c right = record { each = λ n found h. by n found h (nat_eq n id) refl } where
  stays-by : (m : ℕ) → is_some (cells m) ≡ true → (t : Bool) → nat_eq m id ≡ t → now m ≡ cells m
  stays-by m there true q = let e : m ≡ id = grind (arith, nat_tests) in absurd (true≢false (sym there ∙ ap is_some (ap cells e ∙ none)))
  stays-by m there false q = c m ∙ ap (λ t. if t then Some cell else cells m) q

  moved : (n : ℕ) (found : Evaluation ℕ) → cell_by cells n (bodies n) ≡ Some found → cell_by now n (new n) ≡ Some found
  moved n found is =
      ap (cell_by now n) (b n)
      ∙ cell-same now cells n (bodies n)
      (λ m used. stays-by m (found-each cells (uses_of (bodies n)) (cell-found cells n (bodies n) found is) m used) (nat_eq m id) refl)
      ∙ is

  by : (n : ℕ) (found : Evaluation ℕ) → now n ≡ Some found → (t : Bool) → nat_eq n id ≡ t → cell_by now n (new n) ≡ Some found
  by n found h true q =
      let e : n ≡ id = grind (arith, nat_tests) in
      let same : Some cell ≡ Some found = sym (c n ∙ ap (λ t. if t then Some cell else cells n) q) ∙ h in
      moved n found (ap (λ k. cell_by cells k (bodies k)) e ∙ rule ∙ same)
  by n found h false q = moved n found (right.each n found (sym (c n ∙ ap (λ t. if t then Some cell else cells n) q) ∙ h))
