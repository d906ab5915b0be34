-- Sums over a list.
use Rattle.std.specs.Prelude.{ℕ, zero, suc, List, [], ◌∷◌, pos}
use Rattle.exact_fraction.specs.Number.{ℚ, of_ℤ, ◌+ℚ◌}

-- the sum of f over the list
unfoldable pub total : {A : Type 0} → (A → ℚ) → List A → ℚ
total f [] = of_ℤ (pos 0)
total f (x ∷ xs) = f x +ℚ total f xs

-- the whole numbers below n
unfoldable pub below : ℕ → List ℕ
below zero = []
below (suc n) = n ∷ below n
