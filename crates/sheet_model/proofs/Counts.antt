-- How often a name stands in a list: once, or not at all.
use Rattle.std.specs.Prelude.{◌≡◌, ℕ, ◌+◌, Bool, true, false, ◌&&◌, ◌||◌, not, cond, List, [], ◌∷◌, ◌++◌, bytes_eq, refl}
use Rattle.std.specs.List.{list_any}
use Rattle.std.proofs.Common.{sym, ap, ap₂, ◌∙◌, arith}
use Rattle.std.proofs.lemmas.Bool.{true≢false, and_from, and_parts, or_parts, not-true}
use Rattle.exact_law.specs.Model.{absent, once}
use Rattle.exact_law.specs.Law.{stand_in}
use Rattle.formula_ast.specs.NewNames.{has}
use Rattle.table_records.specs.Header.{are_distinct}
use Rattle.sheet_rows.proofs.Tests.{other_way, same_name, named_itself, both_ways_same}

abbrev pub one_if : Bool → ℕ
one_if true = 1
one_if false = 0

abbrev pub count : List ℕ → List (List ℕ) → ℕ
count n [] = 0
count n (m ∷ ms) = one_if (bytes_eq m n) + count n ms

plus_assoc : (a b c : ℕ) → a + (b + c) ≡ (a + b) + c
plus_assoc a b c = omega arith

pub count_append : (n : List ℕ) (xs ys : List (List ℕ)) → count n (xs ++ ys) ≡ count n xs + count n ys
count_append n [] ys = omega arith
count_append n (x ∷ xs) ys =
    ap (λ k. one_if (bytes_eq x n) + k) (count_append n xs ys) ∙ plus_assoc (one_if (bytes_eq x n)) (count n xs) (count n ys)

absent_by : (n : List ℕ) (ms : List (List ℕ)) (t : Bool) → (count n ms ≡ 0 → absent bytes_eq n ms ≡ true) → one_if t + count n ms ≡ 0
    → (not t && absent bytes_eq n ms) ≡ true
absent_by n ms true rest e = absurd (omega (arith, e))
absent_by n ms false rest e = rest (omega (arith, e))

pub absent_counted : (n : List ℕ) (ms : List (List ℕ)) → count n ms ≡ 0 → absent bytes_eq n ms ≡ true
unfolding absent
absent_counted n [] e = refl
absent_counted n (m ∷ ms) e = absent_by n ms (bytes_eq m n) (absent_counted n ms) e

once_by : (n : List ℕ) (ms : List (List ℕ)) (t : Bool) → (count n ms ≡ 1 → once bytes_eq n ms ≡ true) → one_if t + count n ms ≡ 1
    → cond t (absent bytes_eq n ms) (once bytes_eq n ms) ≡ true
once_by n ms true rest e = absent_counted n ms (omega (arith, e))
once_by n ms false rest e = rest (omega (arith, e))

pub once_counted : (n : List ℕ) (ms : List (List ℕ)) → count n ms ≡ 1 → once bytes_eq n ms ≡ true
unfolding once
once_counted n [] e = absurd (omega (arith, e))
once_counted n (m ∷ ms) e = once_by n ms (bytes_eq m n) (once_counted n ms) e

-- ---- names that stand in a list at most once
pub later : (a b : Bool) → b ≡ true → (a || b) ≡ true
later true b e = refl
later false b e = e

pub count_absent : (n : List ℕ) (ms : List (List ℕ)) → list_any (bytes_eq n) ms ≡ false → count n ms ≡ 0
count_absent n [] e = refl
count_absent n (m ∷ ms) e =
    let both = or_parts (bytes_eq n m) (list_any (bytes_eq n) ms) e in
    ap₂ (λ a b. one_if a + b) (other_way n m both.0) (count_absent n ms both.1)

has_any : (ms : List (List ℕ)) (n : List ℕ) → has ms n ≡ list_any (bytes_eq n) ms
has_any [] n = refl
has_any (m ∷ ms) n = ap₂ (λ a b. a || b) (both_ways_same m n) (has_any ms n)

pub count_distinct : (n : List ℕ) (ms : List (List ℕ)) → are_distinct ms ≡ true → list_any (bytes_eq n) ms ≡ true → count n ms ≡ 1
count_distinct n [] h e = absurd (true≢false (sym e))
count_distinct n (m ∷ ms) h e = by (bytes_eq n m) refl e (count_distinct n ms both.1) where
  both : (not (has ms m) ≡ true) × (are_distinct ms ≡ true)
  both = and_parts (not (has ms m)) (are_distinct ms) h

  by : (t : Bool) → bytes_eq n m ≡ t → (t || list_any (bytes_eq n) ms) ≡ true → (list_any (bytes_eq n) ms ≡ true → count n ms ≡ 1)
      → count n (m ∷ ms) ≡ 1
  by true q g rest =
      ap₂ (λ a b. one_if a + b) (both_ways_same m n ∙ q)
      (count_absent n ms (ap (λ k. list_any (bytes_eq k) ms) (same_name n m q) ∙ sym (has_any ms m) ∙ not-true (has ms m) both.0))
  by false q g rest = ap₂ (λ a b. one_if a + b) (other_way n m q) (rest g)

-- ---- names each of which stands once among the inputs
pub stand_more : (inputs : List (List ℕ)) (n : List ℕ) (ns : List (List ℕ)) → count n inputs ≡ 1 → stand_in bytes_eq inputs ns ≡ true
    → stand_in bytes_eq inputs (n ∷ ns) ≡ true
unfolding stand_in
stand_more inputs n ns e h = and_from (once bytes_eq n inputs) (stand_in bytes_eq inputs ns) (once_counted n inputs e) h

pub stand_each : (inputs ns rest : List (List ℕ)) → ((n : List ℕ) → list_any (bytes_eq n) ns ≡ true → count n inputs ≡ 1)
    → stand_in bytes_eq inputs rest ≡ true → stand_in bytes_eq inputs (ns ++ rest) ≡ true
stand_each inputs [] rest h k = k
stand_each inputs (n ∷ ns) rest h k =
    stand_more inputs n (ns ++ rest) (h n (ap (λ b. b || list_any (bytes_eq n) ns) (named_itself n)))
    (stand_each inputs ns rest (λ m e. h m (later (bytes_eq m n) (list_any (bytes_eq m) ns) e)) k)

pub stand_none : (inputs : List (List ℕ)) → stand_in bytes_eq inputs [] ≡ true
unfolding stand_in
stand_none inputs = refl

pub stand_parts : (inputs xs ys : List (List ℕ)) → stand_in bytes_eq inputs (xs ++ ys) ≡ true
    → (stand_in bytes_eq inputs xs ≡ true) × (stand_in bytes_eq inputs ys ≡ true)
unfolding stand_in
stand_parts inputs [] ys h = (refl, h)
stand_parts inputs (x ∷ xs) ys h =
    let both = and_parts (once bytes_eq x inputs) (stand_in bytes_eq inputs (xs ++ ys)) h in
    let rest = stand_parts inputs xs ys both.1 in
    (and_from (once bytes_eq x inputs) (stand_in bytes_eq inputs xs) both.0 rest.0, rest.1)
