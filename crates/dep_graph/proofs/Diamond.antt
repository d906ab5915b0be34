-- The worked graph.
use Rattle.std.proofs.Common.{ap, sym, ◌∙◌, arith, ◌≡◌, ◌||◌, true, false, true≢false, ℕ, Bool, List, [], ◌∷◌, nat_eq, refl, subst}
use Rattle.std.proofs.lemmas.Bool.Decides.{nat_tests}
use Rattle.dep_graph.specs.Nodes.{has, uses_in}
use Rattle.dep_graph.specs.Reaching.{IsChain, Reaches, DependsOn, IsCone, AreDependents}
use Rattle.dep_graph.specs.Worked.{diamond}
use Rattle.dep_graph.proofs.Searches.{closed, or-cases}

one_of : (P : ℕ → Type 0) (k : ℕ) (ks : List ℕ) → P k → ((n : ℕ) → has ks n ≡ true → P n) → (n : ℕ) → has (k ∷ ks) n ≡ true → P n
one_of P k ks first rest n h = or-cases (nat_eq n k) (has ks n) h (λ q. let same : k ≡ n = grind (arith, nat_tests) in subst P same first) (rest n)

none_of : (P : ℕ → Type 0) (n : ℕ) → has [] n ≡ true → P n
none_of P n h = absurd (true≢false (sym h))

reached : (n : ℕ) → has (2 ∷ 9 ∷ 5 ∷ 8 ∷ []) n ≡ true → DependsOn diamond 2 n
reached = one_of P 2 (9 ∷ 5 ∷ 8 ∷ []) (record { chain = []; is = refl }) (one_of P 9 (5 ∷ 8 ∷ []) (record { chain = 9 ∷ []; is = (refl, refl) })
    (one_of P 5 (8 ∷ []) (record { chain = 5 ∷ []; is = (refl, refl) }) (one_of P 8 [] (record { chain = 5 ∷ 8 ∷ []; is = (refl, (refl, refl)) }) (none_of P))))
  where
    P : ℕ → Type 0
    P n = DependsOn diamond 2 n

step : (m : ℕ) → has (2 ∷ 9 ∷ 5 ∷ 8 ∷ []) m ≡ true → (n : ℕ) → has (uses_in diamond m) n ≡ true → has (2 ∷ 9 ∷ 5 ∷ 8 ∷ []) n ≡ true
step = one_of P 2 (9 ∷ 5 ∷ 8 ∷ []) (one_of Q 5 (9 ∷ 5 ∷ []) refl (one_of Q 9 (5 ∷ []) refl (one_of Q 5 [] refl (none_of Q))))
    (one_of P 9 (5 ∷ 8 ∷ []) (one_of Q 8 [] refl (none_of Q)) (one_of P 5 (8 ∷ []) (one_of Q 8 [] refl (none_of Q)) (one_of P 8 [] (none_of Q) (none_of P))))
  where
    Q : ℕ → Type 0
    Q n = has (2 ∷ 9 ∷ 5 ∷ 8 ∷ []) n ≡ true

    P : ℕ → Type 0
    P m = (n : ℕ) → has (uses_in diamond m) n ≡ true → has (2 ∷ 9 ∷ 5 ∷ 8 ∷ []) n ≡ true

pub cone : IsCone diamond 2 (2 ∷ 9 ∷ 5 ∷ 8 ∷ [])
cone = record {
  exactly = λ n. (reached n, λ r. closed (uses_in diamond) (2 ∷ 9 ∷ 5 ∷ 8 ∷ []) (λ m k h t. step m h k t) r.chain 2 n refl r.is);
  falling = refl;
}

over : (y : ℕ) → has (5 ∷ 9 ∷ 2 ∷ []) y ≡ true → (nat_eq y 8 ≡ false) × DependsOn diamond y 8
over = one_of P 5 (9 ∷ 2 ∷ []) (refl, record { chain = 8 ∷ []; is = (refl, refl) }) (one_of P 9 (2 ∷ []) (refl, record { chain = 8 ∷ []; is = (refl, refl) })
    (one_of P 2 [] (refl, record { chain = 9 ∷ 8 ∷ []; is = (refl, (refl, refl)) }) (none_of P)))
  where
    P : ℕ → Type 0
    P y = (nat_eq y 8 ≡ false) × DependsOn diamond y 8

-- only these use others
using : (y m : ℕ) → has (uses_in diamond y) m ≡ true → has (5 ∷ 9 ∷ 2 ∷ []) y ≡ true
using y m h = by (nat_eq y 8) (nat_eq y 5) (nat_eq y 9) (nat_eq y 2) refl refl refl refl
  where
    by : (a b c d : Bool) → nat_eq y 8 ≡ a → nat_eq y 5 ≡ b → nat_eq y 9 ≡ c → nat_eq y 2 ≡ d → has (5 ∷ 9 ∷ 2 ∷ []) y ≡ true
    by true b c d p q r s = absurd (true≢false (sym (rw p at h)))
    by false true c d p q r s = rw q refl
    by false false true d p q r s = rw q (rw r refl)
    by false false false true p q r s = rw q (rw r (rw s refl))
    by false false false false p q r s = absurd (true≢false (sym (let t = rw p at h in let u = rw q at t in let v = rw r at u in rw s at v)))

under : (ms : List ℕ) (y : ℕ) → nat_eq y 8 ≡ false → IsChain (uses_in diamond) y ms 8 → has (5 ∷ 9 ∷ 2 ∷ []) y ≡ true
under [] y off c = absurd (true≢false (sym (ap (λ k. nat_eq k 8) c) ∙ off))
under (m ∷ ms) y off c = using y m c.0

pub dependents : AreDependents diamond 8 (5 ∷ 9 ∷ 2 ∷ [])
dependents = record { exactly = λ y. (over y, λ d. under d.1.chain y d.0 d.1.is); rising = refl }
