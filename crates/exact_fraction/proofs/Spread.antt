-- The spread of the first n terms of two sequences, which grows with one term more by the products of the
-- differences from it.
use Rattle.std.specs.Prelude.{◌≡◌, ℕ, zero, suc, ◌+◌, ◌-◌, ◌*◌, ◌<◌, ◌≤◌, pos, [], ◌∷◌, refl}
use Rattle.std.proofs.Common.{sym, ◌∙◌, ap, arith}
use Rattle.exact_fraction.specs.Number.{ℚ, of_ℤ, ◌+ℚ◌, ◌*ℚ◌, ◌-ℚ◌, ◌≤ℚ◌}
use Rattle.exact_fraction.specs.NumberLaws.{≤ℚ_refl, *ℚ-≤ℚ}
use Rattle.exact_fraction.specs.Sums.{total, below}
use Rattle.exact_fraction.proofs.OrderLaws.{+ℚ-not_negative, square-not_negative}
use Rattle.exact_fraction.proofs.Ring.{Var, Whole, ◌:+◌, ◌:-◌, ◌:*◌, x0, x1, x2, x3, x4, x5, ring}
use Rattle.exact_fraction.proofs.Signs.{not_negative-same, total-not_negative, of_pos-≤ℚ, of_pos-+, of_pos-suc, of_pos-*}
use Rattle.exact_fraction.proofs.Within.{Within, within_sum, within_difference, within_product, within_more, within_same, within_as, within_zero, within_total}

-- n Σqr - Σq Σr, over the numbers below n
abbrev pub spread : ℕ → (ℕ → ℚ) → (ℕ → ℚ) → ℚ
spread n q r = (of_ℤ (pos n) *ℚ total (λ t. q t *ℚ r t) (below n)) -ℚ (total q (below n) *ℚ total r (below n))

-- the sum of the products of the differences from z and from w
crossed : (q r : ℕ → ℚ) (z w : ℚ) (n : ℕ)
    → total (λ t. (q t -ℚ z) *ℚ (r t -ℚ w)) (below n)
    ≡ ((total (λ t. q t *ℚ r t) (below n) -ℚ (z *ℚ total r (below n))) -ℚ (w *ℚ total q (below n))) +ℚ (of_ℤ (pos n) *ℚ (z *ℚ w))
unfolding total below
crossed q r z w zero =
    ring (z ∷ w ∷ []) (Whole (pos 0)) (((Whole (pos 0) :- x0 :* Whole (pos 0)) :- x1 :* Whole (pos 0)) :+ Whole (pos 0) :* (x0 :* x1)) refl
crossed q r z w (suc n) =
    ap (λ t. ((q n -ℚ z) *ℚ (r n -ℚ w)) +ℚ t) (crossed q r z w n)
    ∙ ring (z ∷ w ∷ q n ∷ r n ∷ of_ℤ (pos n) ∷ total (λ t. q t *ℚ r t) (below n) ∷ total q (below n) ∷ total r (below n) ∷ [])
    (((x2 :- x0) :* (x3 :- x1)) :+ (((x5 :- x0 :* Var 7) :- x1 :* Var 6) :+ x4 :* (x0 :* x1)))
    ((((x2 :* x3 :+ x5) :- x0 :* (x3 :+ Var 7)) :- x1 :* (x2 :+ Var 6)) :+ (Whole (pos 1) :+ x4) :* (x0 :* x1)) refl
    ∙ ap (λ t. ((((q n *ℚ r n) +ℚ total (λ t. q t *ℚ r t) (below n)) -ℚ (z *ℚ (r n +ℚ total r (below n)))) -ℚ (w *ℚ (q n +ℚ total q (below n)))) +ℚ (t *ℚ (z *ℚ w)))
    (sym (of_pos-suc n))

next_spread : (q r : ℕ → ℚ) (n : ℕ) → spread (suc n) q r ≡ spread n q r +ℚ total (λ t. (q t -ℚ q n) *ℚ (r t -ℚ r n)) (below n)
unfolding total below
next_spread q r n =
    ap (λ t. (t *ℚ ((q n *ℚ r n) +ℚ total (λ t. q t *ℚ r t) (below n))) -ℚ ((q n +ℚ total q (below n)) *ℚ (r n +ℚ total r (below n)))) (of_pos-suc n)
    ∙ ring (q n ∷ r n ∷ of_ℤ (pos n) ∷ total (λ t. q t *ℚ r t) (below n) ∷ total q (below n) ∷ total r (below n) ∷ [])
    ((Whole (pos 1) :+ x2) :* (x0 :* x1 :+ x3) :- (x0 :+ x4) :* (x1 :+ x5))
    ((x2 :* x3 :- x4 :* x5) :+ (((x3 :- x0 :* x5) :- x1 :* x4) :+ x2 :* (x0 :* x1))) refl
    ∙ ap (λ t. spread n q r +ℚ t) (sym (crossed q r (q n) (r n) n))

-- ---- not negative, of a list with itself
nothing : (q r : ℕ → ℚ) → spread 0 q r ≡ of_ℤ (pos 0)
unfolding total below
nothing q r = ring [] (Whole (pos 0) :* Whole (pos 0) :- Whole (pos 0) :* Whole (pos 0)) (Whole (pos 0)) refl

pub spread-not_negative : (q : ℕ → ℚ) (n : ℕ) → of_ℤ (pos 0) ≤ℚ spread n q q
spread-not_negative q zero = not_negative-same _ (of_ℤ (pos 0)) (nothing q q) (≤ℚ_refl _)
spread-not_negative q (suc n) =
    not_negative-same _ _ (next_spread q q n)
    (+ℚ-not_negative _ _ (spread-not_negative q n) (total-not_negative _ (below n) (λ t. square-not_negative (q t -ℚ q n))))

-- ---- bounded
-- 2 n (n - 1): each of the n (n - 1) / 2 pairs of places brings at most 4 K²
pairs : ℕ → ℕ
pairs zero = 0
pairs (suc n) = pairs n + n * 4

pairs_are : (n : ℕ) → pairs n + 2 * n ≡ 2 * (n * n)
unfolding pairs
pairs_are zero = refl
pairs_are (suc n) = omega (arith, pairs_are n)

few_by : (n l m p : ℕ) → n ≡ m + 2 → l ≡ m + 1 → p + 2 * n ≡ 2 * (n * n) → p ≤ n * n * l
few_by n l m p e f h =
    let g : p + 2 * (m + 2) ≡ 2 * ((m + 2) * (m + 2)) = rw e at h in
    rw (e, f) (omega (arith, g))

few_pairs : (n : ℕ) → 2 ≤ n → pairs n ≤ n * n * (n - 1)
few_pairs n h = few_by n (n - 1) (n - 2) (pairs n) (omega (arith, h)) (omega (arith, h)) (pairs_are n)

within_pairs : (q r : ℕ → ℚ) (k : ℚ) (n : ℕ) → ((i : ℕ) → i < n → Within (q i) k) → ((i : ℕ) → i < n → Within (r i) k)
    → Within (spread n q r) (of_ℤ (pos (pairs n)) *ℚ (k *ℚ k))
unfolding pairs
within_pairs q r k zero f g =
    within_same _ (of_ℤ (pos 0)) _ (nothing q r)
    (within_as (of_ℤ (pos 0)) (of_ℤ (pos 0)) _ (ring (k ∷ []) (Whole (pos 0)) (Whole (pos 0) :* (x0 :* x0)) refl) within_zero)
within_pairs q r k (suc n) f g =
    within_same _ _ _ (next_spread q r n)
    (within_as _ ((of_ℤ (pos (pairs n)) *ℚ (k *ℚ k)) +ℚ (of_ℤ (pos n) *ℚ ((k +ℚ k) *ℚ (k +ℚ k)))) _
    (ring (k ∷ of_ℤ (pos n) ∷ of_ℤ (pos (pairs n)) ∷ []) (x2 :* (x0 :* x0) :+ x1 :* ((x0 :+ x0) :* (x0 :+ x0))) ((x2 :+ x1 :* Whole (pos 4)) :* (x0 :* x0)) refl
    ∙ ap (λ t. t *ℚ (k *ℚ k)) (sym (of_pos-+ (pairs n) (n * 4) ∙ ap (λ t. of_ℤ (pos (pairs n)) +ℚ t) (of_pos-* n 4))))
    (within_sum _ _ _ _ (within_pairs q r k n (λ i l. f i (omega (arith, l))) (λ i l. g i (omega (arith, l))))
    (within_total (λ t. (q t -ℚ q n) *ℚ (r t -ℚ r n)) ((k +ℚ k) *ℚ (k +ℚ k)) n
    (λ i l. within_product _ _ _ _ (within_difference (q i) (q n) k k (f i (omega (arith, l))) (f n (omega arith)))
    (within_difference (r i) (r n) k k (g i (omega (arith, l))) (g n (omega arith)))))))

pub within_spread : (q r : ℕ → ℚ) (k : ℚ) (n : ℕ) → 2 ≤ n → ((i : ℕ) → i < n → Within (q i) k) → ((i : ℕ) → i < n → Within (r i) k)
    → Within (spread n q r) (of_ℤ (pos (n * n * (n - 1))) *ℚ (k *ℚ k))
within_spread q r k n h f g =
    within_more _ _ _
    (*ℚ-≤ℚ (of_ℤ (pos (pairs n))) (of_ℤ (pos (n * n * (n - 1)))) (k *ℚ k) (square-not_negative k)
    (of_pos-≤ℚ (pairs n) (n * n * (n - 1)) (few_pairs n h)))
    (within_pairs q r k n f g)
