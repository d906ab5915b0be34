-- Numbers between -K and K, and their sums, products and quotients.
use Rattle.std.specs.Prelude.{◌≡◌, ℕ, zero, suc, ◌<◌, false, pos, [], ◌∷◌, refl}
use Rattle.std.proofs.Common.{sym, ◌∙◌, ap, arith}
use Rattle.std.proofs.Math.Dec.{lit<}
use Rattle.exact_fraction.specs.Number.{ℚ, of_ℤ, ◌+ℚ◌, ◌*ℚ◌, ◌/ℚ◌, neg_ℚ, ◌-ℚ◌, is_zero_ℚ, ◌≤ℚ◌}
use Rattle.exact_fraction.specs.NumberLaws.{≤ℚ_refl, ≤ℚ_trans, ≤ℚ_same, +ℚ-≤ℚ_both}
use Rattle.exact_fraction.specs.Sums.{total, below}
use Rattle.exact_fraction.proofs.OrderLaws.{≤ℚ_left, ≤ℚ_right, ≤ℚ_by, ≤ℚ-difference, ≤ℚ_cancel, +ℚ-not_negative, *ℚ-not_negative, ≤ℚ-/ℚ, /ℚ-≤ℚ_iff}
use Rattle.exact_fraction.proofs.Quotients.{positive_not_zero}
use Rattle.exact_fraction.proofs.Signs.{whole-not_negative, of_pos-suc}
use Rattle.exact_fraction.proofs.Ring.{Whole, ◌:+◌, ◌:-◌, ◌:*◌, Minus, x0, x1, x2, x3, ring}

pub record Within (x k : ℚ) : Type 0 where
  pub low : neg_ℚ k ≤ℚ x
  pub high : x ≤ℚ k

pub within_sum : (x y k m : ℚ) → Within x k → Within y m → Within (x +ℚ y) (k +ℚ m)
within_sum x y k m h g = record {
  low = ≤ℚ_left _ (neg_ℚ k +ℚ neg_ℚ m) _ (ring (k ∷ m ∷ []) (Minus (x0 :+ x1)) (Minus x0 :+ Minus x1) refl) (+ℚ-≤ℚ_both _ _ _ _ h.low g.low);
  high = +ℚ-≤ℚ_both _ _ _ _ h.high g.high;
}

pub within_difference : (x y k m : ℚ) → Within x k → Within y m → Within (x -ℚ y) (k +ℚ m)
within_difference x y k m h g = within_sum x (neg_ℚ y) k m h (within_negative y m g) where
  within_negative : (y m : ℚ) → Within y m → Within (neg_ℚ y) m
  within_negative y m g = record {
    low = ≤ℚ_by (neg_ℚ m) (neg_ℚ y) (m -ℚ y) (ring (y ∷ m ∷ []) (Minus x1 :+ (x1 :- x0)) (Minus x0) refl) (≤ℚ-difference y m g.high);
    high = ≤ℚ_by (neg_ℚ y) m (y -ℚ neg_ℚ m) (ring (y ∷ m ∷ []) (Minus x0 :+ (x0 :- Minus x1)) x1 refl) (≤ℚ-difference (neg_ℚ m) y g.low);
  }

half : (d : ℚ) → of_ℤ (pos 0) ≤ℚ d *ℚ of_ℤ (pos 2) → of_ℤ (pos 0) ≤ℚ d
half d h =
    ≤ℚ_cancel (of_ℤ (pos 0)) d (of_ℤ (pos 2)) (whole-not_negative 2) (positive_not_zero 2 (lit< tt))
    (≤ℚ_left _ (of_ℤ (pos 0)) _ (ring [] (Whole (pos 0) :* Whole (pos 2)) (Whole (pos 0)) refl) h)

-- 2 (km - xy) is (k - x) (m + y) + (k + x) (m - y), and 2 (km + xy) is (k - x) (m - y) + (k + x) (m + y)
pub within_product : (x y k m : ℚ) → Within x k → Within y m → Within (x *ℚ y) (k *ℚ m)
within_product x y k m h g =
    let kx = ≤ℚ-difference x k h.high in
    let xk = ≤ℚ-difference (neg_ℚ k) x h.low in
    let my = ≤ℚ-difference y m g.high in
    let ym = ≤ℚ-difference (neg_ℚ m) y g.low in
    record {
      low =
          ≤ℚ_by (neg_ℚ (k *ℚ m)) (x *ℚ y) ((k *ℚ m) +ℚ (x *ℚ y))
          (ring (x ∷ y ∷ k ∷ m ∷ []) (Minus (x2 :* x3) :+ (x2 :* x3 :+ x0 :* x1)) (x0 :* x1) refl)
          (half _ (≤ℚ_right _ (((k -ℚ x) *ℚ (m -ℚ y)) +ℚ ((x -ℚ neg_ℚ k) *ℚ (y -ℚ neg_ℚ m))) _
          (ring (x ∷ y ∷ k ∷ m ∷ []) ((x2 :- x0) :* (x3 :- x1) :+ (x0 :- Minus x2) :* (x1 :- Minus x3)) ((x2 :* x3 :+ x0 :* x1) :* Whole (pos 2)) refl)
          (+ℚ-not_negative _ _ (*ℚ-not_negative _ _ kx my) (*ℚ-not_negative _ _ xk ym))));
      high =
          ≤ℚ_by (x *ℚ y) (k *ℚ m) ((k *ℚ m) -ℚ (x *ℚ y))
          (ring (x ∷ y ∷ k ∷ m ∷ []) (x0 :* x1 :+ (x2 :* x3 :- x0 :* x1)) (x2 :* x3) refl)
          (half _ (≤ℚ_right _ (((k -ℚ x) *ℚ (y -ℚ neg_ℚ m)) +ℚ ((x -ℚ neg_ℚ k) *ℚ (m -ℚ y))) _
          (ring (x ∷ y ∷ k ∷ m ∷ []) ((x2 :- x0) :* (x1 :- Minus x3) :+ (x0 :- Minus x2) :* (x3 :- x1)) ((x2 :* x3 :- x0 :* x1) :* Whole (pos 2)) refl)
          (+ℚ-not_negative _ _ (*ℚ-not_negative _ _ kx ym) (*ℚ-not_negative _ _ xk my))));
    }

pub within_quotient : (x k z : ℚ) → of_ℤ (pos 0) ≤ℚ z → is_zero_ℚ z ≡ false → Within x (k *ℚ z) → Within (x /ℚ z) k
within_quotient x k z z0 n h = record {
  low = (≤ℚ-/ℚ (neg_ℚ k) x z z0 n).1 (≤ℚ_left _ (neg_ℚ (k *ℚ z)) _ (ring (k ∷ z ∷ []) (Minus x0 :* x1) (Minus (x0 :* x1)) refl) h.low);
  high = (/ℚ-≤ℚ_iff x k z z0 n).1 h.high;
}

pub within_more : (x k m : ℚ) → k ≤ℚ m → Within x k → Within x m
within_more x k m h g = record {
  low = ≤ℚ_trans _ _ _ (≤ℚ_by (neg_ℚ m) (neg_ℚ k) (m -ℚ k) (ring (k ∷ m ∷ []) (Minus x1 :+ (x1 :- x0)) (Minus x0) refl) (≤ℚ-difference k m h)) g.low;
  high = ≤ℚ_trans _ _ _ g.high h;
}

pub within_same : (x y k : ℚ) → x ≡ y → Within y k → Within x k
within_same x y k e h = record { low = ≤ℚ_right _ y x (sym e) h.low; high = ≤ℚ_left x y _ e h.high }

pub within_as : (x k m : ℚ) → k ≡ m → Within x k → Within x m
within_as x k m e h = within_more x k m (≤ℚ_same k m e) h

pub within_zero : Within (of_ℤ (pos 0)) (of_ℤ (pos 0))
within_zero = record { low = ≤ℚ_left _ (of_ℤ (pos 0)) _ (ring [] (Minus (Whole (pos 0))) (Whole (pos 0)) refl) (≤ℚ_refl _); high = ≤ℚ_refl _ }

-- a sum of n terms between -K and K is between -nK and nK
pub within_total : (f : ℕ → ℚ) (k : ℚ) (n : ℕ) → ((i : ℕ) → i < n → Within (f i) k) → Within (total f (below n)) (of_ℤ (pos n) *ℚ k)
unfolding total below
within_total f k zero h =
    within_as (of_ℤ (pos 0)) (of_ℤ (pos 0)) _ (ring (k ∷ []) (Whole (pos 0)) (Whole (pos 0) :* x0) refl) within_zero
within_total f k (suc n) h =
    within_as _ (k +ℚ (of_ℤ (pos n) *ℚ k)) _
    (ring (k ∷ of_ℤ (pos n) ∷ []) (x0 :+ x1 :* x0) ((Whole (pos 1) :+ x1) :* x0) refl ∙ ap (λ t. t *ℚ k) (sym (of_pos-suc n)))
    (within_sum (f n) (total f (below n)) k (of_ℤ (pos n) *ℚ k) (h n (omega arith)) (within_total f k n (λ i l. h i (omega (arith, l)))))
