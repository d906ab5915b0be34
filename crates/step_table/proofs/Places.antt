-- Keys that rise, by index: each is below each later one, and a place parts those that are not above a
-- number from those that are.
use Rattle.std.specs.Prelude.{◌≡◌, ℕ, zero, suc, ◌+◌, ◌<◌, ◌≤◌, ◌-◌, true, false, List, [], ◌∷◌, length, slice_index, slice_index_or, nat_lt, refl, ◌⊎◌, Option, None, Some, IfSome, IsNone, SomeIff, ◌↔◌}
use Rattle.std.proofs.Common.{add-one, arith, inl, inr, leb, le_refl}
use Rattle.std.proofs.lemmas.Bool.{and_parts, and_from, ltb-true, lt-ltb, leb-true, leb-false, cases_lt, true≢false}
use Rattle.std.proofs.lemmas.List.Sorted.{IsPartitionedBy-leb}
use Rattle.std.specs.List.Sorted.{IsPartitionPoint, IsPartitionedBy, IsNonDecreasing}
use Rattle.step_table.specs.Rising.{rises, rises_above, IsRising, IsPlace, AreAbove}

above : (low : ℕ) (keys : List ℕ) → rises_above low keys ≡ true → (j d : ℕ) → j < length keys → low < slice_index_or keys j d
above low [] h j d within = absurd (omega arith)
above low (key ∷ keys) h zero d within = ltb-true _ _ (and_parts (nat_lt low key) (rises_above key keys) h).0
above low (key ∷ keys) h (suc j) d within =
    let parts = and_parts (nat_lt low key) (rises_above key keys) h in
    let first : low < key = ltb-true _ _ parts.0 in
    let rest : key < slice_index_or keys j d = above key keys parts.1 j d (omega arith) in
    omega arith

pub later_above : (keys : List ℕ) → rises keys ≡ true → (i j d : ℕ) → i < j → j < length keys
    → slice_index_or keys i d < slice_index_or keys j d
later_above [] h i j d before within = absurd (omega arith)
later_above (key ∷ keys) h zero zero d before within = absurd (omega arith)
later_above (key ∷ keys) h zero (suc j) d before within = above key keys h j d (omega arith)
later_above (key ∷ keys) h (suc i) zero d before within = absurd (omega arith)
later_above (key ∷ []) h (suc i) (suc j) d before within = absurd (omega arith)
later_above (key ∷ (next ∷ keys)) h (suc i) (suc j) d before within =
    later_above (next ∷ keys) (and_parts (nat_lt key next) (rises_above next keys) h).1 i j d (omega arith) (omega arith)

rising_by_next : (keys : List ℕ) → ((k : ℕ) → suc k < length keys → slice_index_or keys k 0 < slice_index_or keys (suc k) 0) → rises keys ≡ true
rising_by_next [] h = refl
rising_by_next (key ∷ []) h = refl
rising_by_next (key ∷ (next ∷ keys)) h =
    and_from (nat_lt key next) (rises_above next keys) (lt-ltb _ _ (h 0 (omega arith)))
    (rising_by_next (next ∷ keys) (λ k within. h (suc k) (omega arith)))

pub rising_from : (keys : List ℕ) → ((k : ℕ) → k + 1 < length keys → slice_index_or keys k 0 < slice_index_or keys (k + 1) 0) → rises keys ≡ true
rising_from keys h = rising_by_next keys (λ k within. rw (← add-one k) (h k (omega arith)))

pub not_rising : (keys : List ℕ) (i j : ℕ) → i < j → j < length keys → slice_index_or keys j 0 ≤ slice_index_or keys i 0 → rises keys ≡ true → ⊥
not_rising keys i j before within low h = let g = later_above keys h i j 0 before within in omega arith

-- what a search says that parts the keys that are not above `key` from the later ones
pub record IsParted (keys : List ℕ) (key count : ℕ) : Type 0 where
  pub most : count ≤ length keys
  pub low : (place : ℕ) → place < count → slice_index keys place ≤ key
  pub high : (place : ℕ) → count ≤ place → place < length keys → key < slice_index keys place

-- the last of them is the greatest
pub place_of : (keys : List ℕ) (key count : ℕ) (answer : Option ℕ) → IsParted keys key count → SomeIff answer (1 ≤ count) (count - 1)
    → IfSome answer (IsPlace keys key)
place_of keys key count None h k = tt
place_of keys key count (Some place) h k = record {
  within = omega (arith, h.most, k.0, k.1);
  not_above = h.low place (omega (arith, k.0, k.1));
  greatest = λ later after within. h.high later (omega (arith, k.0, k.1)) within;
}

pub place_within : (keys : List ℕ) (key count : ℕ) (answer : Option ℕ) → IsParted keys key count → SomeIff answer (1 ≤ count) (count - 1)
    → IfSome answer (λ place. place < length keys)
place_within keys key count None h k = tt
place_within keys key count (Some place) h k = omega (arith, h.most, k.0, k.1)

-- there is none where each key is above
pub none_of : (keys : List ℕ) (key count : ℕ) (answer : Option ℕ) → IsParted keys key count → SomeIff answer (1 ≤ count) (count - 1)
    → IsNone answer ↔ AreAbove keys key
none_of keys key count None h k = (λ _ place within. h.high place (omega (arith, k)) within, λ _. refl)
none_of keys key count (Some place) h k =
    (λ e. absurd (true≢false e), λ all. absurd (omega (arith, all 0 (omega (arith, h.most, k.0)), h.low 0 (omega (arith, k.0)))))

-- what the search asks, and what it says
pub parted_by : (keys : List ℕ) (key : ℕ) → IsRising keys → IsPartitionedBy (λ each. leb each key) keys
parted_by keys key rising = IsPartitionedBy-leb (λ each. each) keys key (not_falling keys rising) where
  not_falling : (keys : List ℕ) → rises keys ≡ true → IsNonDecreasing keys
  not_falling keys h i j d before within = by (cases_lt i j) where
    by : (i < j) ⊎ (j ≤ i) → slice_index_or keys i d ≤ slice_index_or keys j d
    by (inl less) = let g = later_above keys h i j d less within in omega arith
    by (inr same) = let e : i ≡ j = omega arith in rw e (le_refl _)

pub IsParted-from : (keys : List ℕ) (key count : ℕ) → count ≤ length keys
    → IsPartitionPoint (λ each. leb each key ≡ true) (λ each. leb each key ≡ false) keys count → IsParted keys key count
IsParted-from keys key count most h = record {
  most = most;
  low = λ place before. leb-true _ _ (h.0 place 0 (omega arith) before);
  high = λ place from within. leb-false _ _ (h.1 place 0 from within);
}
