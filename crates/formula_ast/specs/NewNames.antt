-- A list of names that grows by those that it does not have yet.
use Rattle.std.specs.Prelude.{ℕ, Bool, false, ◌||◌, cond, List, [], ◌∷◌, ◌++◌, bytes_eq}

-- the name is in the list
abbrev pub has : List (List ℕ) → List ℕ → Bool
has [] name = false
has (other ∷ others) name = bytes_eq other name || has others name

abbrev pub with_new : List (List ℕ) → List ℕ → List (List ℕ)
with_new names name = cond (has names name) names (names ++ name ∷ [])

abbrev pub with_all_new : List (List ℕ) → List (List ℕ) → List (List ℕ)
with_all_new names [] = names
with_all_new names (name ∷ others) = with_all_new (with_new names name) others
