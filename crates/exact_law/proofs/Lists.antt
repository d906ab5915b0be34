-- Lists of numbers by a test.
use Rattle.std.specs.Prelude.{◌≡◌, Bool, true, false, ◌&&◌, List, [], ◌∷◌, refl}
use Rattle.std.proofs.Common.{sym, ap₂}
use Rattle.std.proofs.lemmas.Bool.{and_parts, true≢false}
use Rattle.exact_fraction.specs.Number.{ℚ, ◌+ℚ◌, neg_ℚ, is_zero_ℚ}
use Rattle.exact_fraction.proofs.Ring.{same_by_test}

abbrev pub are_same : List ℚ → List ℚ → Bool
are_same [] [] = true
are_same [] (y ∷ ys) = false
are_same (x ∷ xs) [] = false
are_same (x ∷ xs) (y ∷ ys) = is_zero_ℚ (x +ℚ neg_ℚ y) && are_same xs ys

pub same_lists : (xs ys : List ℚ) → are_same xs ys ≡ true → xs ≡ ys
same_lists [] [] h = refl
same_lists [] (y ∷ ys) h = absurd (true≢false (sym h))
same_lists (x ∷ xs) [] h = absurd (true≢false (sym h))
same_lists (x ∷ xs) (y ∷ ys) h = ap₂ (λ a bs. a ∷ bs) (same_by_test x y (and_parts _ _ h).0) (same_lists xs ys (and_parts _ _ h).1)
