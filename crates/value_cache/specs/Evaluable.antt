-- Quantities each of which uses quantities that are there.
use Rattle.std.specs.Prelude.{◌≡◌, ℕ, ◌≤◌, Bool, false, List, [], ◌∷◌, ◌++◌, length, Some, None, is_some}
use Rattle.value_cache.specs.Quantities.{Body, Quantity, body_of, is_there, first_unknown, used_by, HasItsColumn}
use Rattle.value_cache.specs.Evaluations.{evaluation_through, evaluation_of}

-- what the body uses is there. Of inputs and formulas the second field asks nothing
pub record UsesOnly {K : Type 0} (same : K → K → Bool) (qs : List (Quantity K)) (body : Body K) : Type 0 where
  -- each quantity
  pub known : first_unknown same qs (used_by body) ≡ None
  -- the column, in a table that is taken: the mean of such a column has a span
  pub column : HasItsColumn body

-- quantities that can be evaluated
pub record IsEvaluable {K : Type 0} (same : K → K → Bool) (qs : List (Quantity K)) : Type 0 where
  -- as many turns as there are quantities are enough
  pub settled : (k : ℕ) (n : K) → length qs ≤ k → evaluation_through same qs k n ≡ evaluation_of same qs n
  -- each uses quantities that are there, or a column that is there
  pub closed : (n : K) (body : Body K) → body_of same qs n ≡ Some body → UsesOnly same qs body
  -- each has a span or a fault
  pub found : (n : K) → is_some (evaluation_of same qs n) ≡ is_there same qs n

-- after these quantities, each has a new key and uses those before it alone
abbrev pub AreInOrder : {K : Type 0} → (K → K → Bool) → List (Quantity K) → List (Quantity K) → Type 0
AreInOrder same before [] = Unit {0}
AreInOrder same before (q ∷ qs) =
    (is_there same before q.key ≡ false) × (first_unknown same before (used_by q.body) ≡ None) × AreInOrder same (before ++ q ∷ []) qs
