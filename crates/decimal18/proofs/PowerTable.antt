-- The tables of the powers of ten.
use Rattle.std.specs.Prelude.{◌≡◌, ℕ, zero, suc, ◌+◌, ◌^◌, ◌<◌, ◌==◌, ◌&&◌, Bool, true, List, [], ◌∷◌, length}
use Rattle.std.proofs.Common.{arith, get_or, ap, subst, sym, ◌∙◌}
use Rattle.std.proofs.Math.Nat.{one-le-pow}
use Rattle.std.proofs.Math.Dec.{lit≤}
use Rattle.std.proofs.lemmas.Bool.{and_parts, eqb-true}

-- whether the list is that of the powers of ten from that with the exponent k on
abbrev pub are_powers : ℕ → List ℕ → Bool
are_powers k [] = true
are_powers k (power ∷ powers) = (power == 10 ^ k) && are_powers (suc k) powers

pub power_at : (table : List ℕ) (k i j : ℕ) → are_powers k table ≡ true → i < length table → k + i ≡ j → get_or table i 0 ≡ 10 ^ j
power_at [] k i j h below e = absurd (omega arith)
power_at (x ∷ xs) k zero j h below e =
    let same : k ≡ j = omega arith in
    eqb-true x (10 ^ k) (and_parts (x == 10 ^ k) (are_powers (suc k) xs) h).0 ∙ ap (λ m. 10 ^ m) same
power_at (x ∷ xs) k (suc i) j h below e =
    power_at xs (suc k) i j (and_parts (x == 10 ^ k) (are_powers (suc k) xs) h).1 (omega arith) (omega arith)

pub power_above : (a i : ℕ) → a ≡ 10 ^ i → 0 < a
power_above a i e = subst (λ n. 0 < n) (sym e) (one-le-pow i 10 (lit≤ tt))
