-- Effective degrees of freedom are at least the least degrees that enter them.
use Rattle.std.specs.Prelude.{◌≡◌, ◌-◌, Bool, true, false, cond, not, ◌&&◌, List, [], ◌∷◌, pos, refl}
use Rattle.std.proofs.Common.{sym, ◌∙◌, ap}
use Rattle.std.proofs.lemmas.Bool.{true≢false}
use Rattle.exact_fraction.specs.Number.{ℚ, of_ℤ, ◌+ℚ◌, ◌*ℚ◌, ◌/ℚ◌, inv_ℚ, is_zero_ℚ, ◌≤ℚ◌}
use Rattle.exact_fraction.specs.NumberLaws.{≤ℚ_refl, ≤ℚ_trans, ≤ℚ_antisym, *ℚ-≤ℚ, *ℚ-inv, +ℚ-≤ℚ_both}
use Rattle.exact_fraction.proofs.Quotients.{is_zero_ℚ-≡, ≡-is_zero_ℚ, ≢-is_zero_ℚ}
use Rattle.exact_fraction.proofs.OrderLaws.{≤ℚ_left, ≤ℚ_right, ≤ℚ_by, ≤ℚ-/ℚ, *ℚ-≤ℚ_left, +ℚ-not_negative, *ℚ-not_negative, square-not_negative}
use Rattle.exact_fraction.proofs.Ring.{Whole, ◌:+◌, ◌:*◌, x0, x1, x2, ring}
use Rattle.exact_fraction.specs.Sums.{total}
use Rattle.exact_law.specs.Model.{Row, IsSameTest, exact_slope}
use Rattle.exact_law.specs.Law.{Group, Own, Pair, Joint, law, part, part_of, inputs_of, IsSound, AllGroups, IsSoundFor}
use Rattle.exact_law.specs.Degrees.{Share, counts, any_counts, weight, NoDegrees, InfiniteDegrees, FiniteDegrees, effective, inverse_degrees, share_of, shares_of, degrees_of}
use Rattle.exact_fraction.proofs.Signs.{product_zero, whole-not_negative, inv-not_negative}
use Rattle.exact_law.proofs.Split.{law_split, part-not_negative}

-- a share that is sound, and whose degrees are at least m where it counts
record IsAbove (m : ℚ) (s : Share) : Type 0 where
  part : of_ℤ (pos 0) ≤ℚ s.part
  inverse : of_ℤ (pos 0) ≤ℚ s.inverse_degrees
  above : counts s ≡ true → m ≤ℚ inv_ℚ s.inverse_degrees

abbrev AllShares : (Share → Type 0) → List Share → Type 0
AllShares P [] = Unit {0}
AllShares P (s ∷ ss) = P s × AllShares P ss

no_weight : (m : ℚ) (s : Share) → s.part *ℚ s.part *ℚ s.inverse_degrees ≡ of_ℤ (pos 0)
    → m *ℚ (s.part *ℚ s.part *ℚ s.inverse_degrees) ≤ℚ s.part *ℚ s.part
no_weight m s e =
    ≤ℚ_left _ (of_ℤ (pos 0)) _ (ap (λ t. m *ℚ t) e ∙ ring (m ∷ []) (x0 :* Whole (pos 0)) (Whole (pos 0)) refl)
    (square-not_negative s.part)

some_weight : (m p d : ℚ) → of_ℤ (pos 0) ≤ℚ d → is_zero_ℚ d ≡ false → m ≤ℚ inv_ℚ d → m *ℚ (p *ℚ p *ℚ d) ≤ℚ p *ℚ p
some_weight m p d d0 n h =
    ≤ℚ_left _ ((p *ℚ p) *ℚ (m *ℚ d)) _ (ring (m ∷ p ∷ d ∷ []) (x0 :* (x1 :* x1 :* x2)) ((x1 :* x1) :* (x0 :* x2)) refl)
    (≤ℚ_right _ ((p *ℚ p) *ℚ (inv_ℚ d *ℚ d)) _
    (ring (p ∷ d ∷ inv_ℚ d ∷ []) ((x0 :* x0) :* (x2 :* x1)) ((x0 :* x0) :* (x1 :* x2)) refl
    ∙ ap (λ t. (p *ℚ p) *ℚ t) (*ℚ-inv d n) ∙ ring (p ∷ []) ((x0 :* x0) :* Whole (pos 1)) (x0 :* x0) refl)
    (*ℚ-≤ℚ_left (m *ℚ d) (inv_ℚ d *ℚ d) (p *ℚ p) (square-not_negative p) (*ℚ-≤ℚ m (inv_ℚ d) d d0 h)))

-- m times the weight of a share is at most the square of its part
weight-below : (m : ℚ) (s : Share) → IsAbove m s → m *ℚ weight s ≤ℚ s.part *ℚ s.part
unfolding weight counts
weight-below m s h = by (is_zero_ℚ s.part) (is_zero_ℚ s.inverse_degrees) refl refl h.above where
  by : (a b : Bool) → is_zero_ℚ s.part ≡ a → is_zero_ℚ s.inverse_degrees ≡ b
      → ((not a && not b) ≡ true → m ≤ℚ inv_ℚ s.inverse_degrees)
      → m *ℚ (s.part *ℚ s.part *ℚ s.inverse_degrees) ≤ℚ s.part *ℚ s.part
  by true b e f k =
      no_weight m s (ap (λ t. t *ℚ t *ℚ s.inverse_degrees) (is_zero_ℚ-≡ s.part e)
      ∙ ring (s.inverse_degrees ∷ []) (Whole (pos 0) :* Whole (pos 0) :* x0) (Whole (pos 0)) refl)
  by false true e f k =
      no_weight m s (ap (λ t. s.part *ℚ s.part *ℚ t) (is_zero_ℚ-≡ s.inverse_degrees f)
      ∙ ring (s.part ∷ []) (x0 :* x0 :* Whole (pos 0)) (Whole (pos 0)) refl)
  by false false e f k = some_weight m s.part s.inverse_degrees h.inverse f (k refl)

-- ---- their sums
parts-not_negative : (m : ℚ) (ss : List Share) → AllShares (IsAbove m) ss → of_ℤ (pos 0) ≤ℚ total (λ s. s.part) ss
unfolding total
parts-not_negative m [] h = ≤ℚ_refl _
parts-not_negative m (s ∷ ss) h = +ℚ-not_negative _ _ (h.0).part (parts-not_negative m ss h.1)

weights-below : (m : ℚ) (ss : List Share) → AllShares (IsAbove m) ss
    → m *ℚ total weight ss ≤ℚ total (λ s. s.part) ss *ℚ total (λ s. s.part) ss
unfolding total
weights-below m [] h =
    ≤ℚ_left _ (of_ℤ (pos 0)) _ (ring (m ∷ []) (x0 :* Whole (pos 0)) (Whole (pos 0)) refl) (square-not_negative (of_ℤ (pos 0)))
weights-below m (s ∷ ss) h =
    ≤ℚ_left _ ((m *ℚ weight s) +ℚ (m *ℚ total weight ss)) _
    (ring (m ∷ weight s ∷ total weight ss ∷ []) (x0 :* (x1 :+ x2)) (x0 :* x1 :+ x0 :* x2) refl)
    (≤ℚ_trans _ ((s.part *ℚ s.part) +ℚ (total (λ s. s.part) ss *ℚ total (λ s. s.part) ss)) _
    (+ℚ-≤ℚ_both _ _ _ _ (weight-below m s h.0) (weights-below m ss h.1))
    (≤ℚ_by _ _ (of_ℤ (pos 2) *ℚ (s.part *ℚ total (λ s. s.part) ss))
    (ring (s.part ∷ total (λ s. s.part) ss ∷ []) ((x0 :* x0 :+ x1 :* x1) :+ Whole (pos 2) :* (x0 :* x1)) ((x0 :+ x1) :* (x0 :+ x1)) refl)
    (*ℚ-not_negative _ _ (whole-not_negative 2) (*ℚ-not_negative _ _ (h.0).part (parts-not_negative m ss h.1)))))

weight-not_negative : (m : ℚ) (s : Share) → IsAbove m s → of_ℤ (pos 0) ≤ℚ weight s
unfolding weight
weight-not_negative m s h = *ℚ-not_negative _ _ (square-not_negative s.part) h.inverse

weights-not_negative : (m : ℚ) (ss : List Share) → AllShares (IsAbove m) ss → of_ℤ (pos 0) ≤ℚ total weight ss
unfolding total
weights-not_negative m [] h = ≤ℚ_refl _
weights-not_negative m (s ∷ ss) h = +ℚ-not_negative _ _ (weight-not_negative m s h.0) (weights-not_negative m ss h.1)

left_zero : (x y : ℚ) → of_ℤ (pos 0) ≤ℚ x → of_ℤ (pos 0) ≤ℚ y → x +ℚ y ≡ of_ℤ (pos 0) → x ≡ of_ℤ (pos 0)
left_zero x y x0' y0 e = ≤ℚ_antisym _ _ (≤ℚ_by x (of_ℤ (pos 0)) y e y0) x0'

-- a share that counts has a weight
weight-counts : (s : Share) → weight s ≡ of_ℤ (pos 0) → counts s ≡ false
unfolding weight counts
weight-counts s e = by (is_zero_ℚ s.part) (is_zero_ℚ s.inverse_degrees) refl refl where
  by : (a b : Bool) → is_zero_ℚ s.part ≡ a → is_zero_ℚ s.inverse_degrees ≡ b → (not a && not b) ≡ false
  by true b f g = refl
  by false true f g = refl
  by false false f g =
      absurd (true≢false (sym (≡-is_zero_ℚ s.inverse_degrees
      (product_zero s.part s.inverse_degrees f
      (product_zero s.part (s.part *ℚ s.inverse_degrees) f
      (ring (s.part ∷ s.inverse_degrees ∷ []) (x0 :* (x0 :* x1)) (x0 :* x0 :* x1) refl ∙ e)))) ∙ g))

no_weights : (m : ℚ) (ss : List Share) → AllShares (IsAbove m) ss → total weight ss ≡ of_ℤ (pos 0) → any_counts ss ≡ false
unfolding total any_counts
no_weights m [] h e = refl
no_weights m (s ∷ ss) h e =
    rw (weight-counts s (left_zero _ _ (weight-not_negative m s h.0) (weights-not_negative m ss h.1) e))
    (no_weights m ss h.1
    (left_zero _ (weight s) (weights-not_negative m ss h.1) (weight-not_negative m s h.0)
    (ring (weight s ∷ total weight ss ∷ []) (x1 :+ x0) (x0 :+ x1) refl ∙ e)))

-- ---- the effective degrees
effective-above : (m : ℚ) (ss : List Share) (v x : ℚ) → AllShares (IsAbove m) ss → v ≡ total (λ s. s.part) ss
    → effective v ss ≡ FiniteDegrees x → m ≤ℚ x
unfolding effective
effective-above m ss v x h e f = by (is_zero_ℚ v) (any_counts ss) refl f where
  quotient : any_counts ss ≡ true → m ≤ℚ v *ℚ v /ℚ total weight ss
  quotient c =
      (≤ℚ-/ℚ m (v *ℚ v) (total weight ss) (weights-not_negative m ss h)
      (≢-is_zero_ℚ (total weight ss) (λ z. true≢false (sym c ∙ no_weights m ss h z)))).1
      (≤ℚ_right _ _ _ (ap (λ t. t *ℚ t) (sym e)) (weights-below m ss h))

  by : (a b : Bool) → any_counts ss ≡ b
      → cond a NoDegrees (cond b (FiniteDegrees (v *ℚ v /ℚ total weight ss)) InfiniteDegrees) ≡ FiniteDegrees x → m ≤ℚ x
  by true b c g = absurd (cc)
  by false false c g = absurd (cc)
  by false true c g =
      let k : v *ℚ v /ℚ total weight ss ≡ x = cc in ≤ℚ_right _ _ _ k (quotient c)

-- ---- the shares of groups
inverse_degrees-not_negative : {K : Type 0} (g : Group K) → IsSound g → of_ℤ (pos 0) ≤ℚ inverse_degrees g
unfolding inverse_degrees IsSound
inverse_degrees-not_negative (Own k c d) h = h.1
inverse_degrees-not_negative (Pair k n v w c d) h = h.3
inverse_degrees-not_negative (Joint n columns) h = inv-not_negative _ (whole-not_negative (n - 1))

shares-above : {K : Type 0} (same : K → K → Bool) (model : List (Row K)) (y : K) (m : ℚ) (inputs : List K) (groups : List (Group K))
    → AllGroups (IsSoundFor same inputs) groups
    → AllGroups (λ g. counts (share_of same model y g) ≡ true → m ≤ℚ inv_ℚ (inverse_degrees g)) groups
    → AllShares (IsAbove m) (shares_of same model y groups)
unfolding AllGroups shares_of share_of part_of
shares-above same model y m inputs [] h a = tt
shares-above same model y m inputs (g ∷ gs) h a = (
  record {
    part = part-not_negative g (exact_slope same model y) (h.0).sound;
    inverse = inverse_degrees-not_negative g (h.0).sound;
    above = a.0;
  },
  shares-above same model y m inputs gs h.1 a.1,
)

total-shares : {K : Type 0} (same : K → K → Bool) (model : List (Row K)) (y : K) (groups : List (Group K))
    → total (λ g. part g (exact_slope same model y) (exact_slope same model y)) groups
    ≡ total (λ s. s.part) (shares_of same model y groups)
unfolding total shares_of share_of part_of
total-shares same model y [] = refl
total-shares same model y (g ∷ gs) = ap (λ t. part g (exact_slope same model y) (exact_slope same model y) +ℚ t) (total-shares same model y gs)

pub degrees-above : {K : Type 0} (same : K → K → Bool) → IsSameTest same → (model : List (Row K)) (groups : List (Group K))
    → AllGroups (IsSoundFor same (inputs_of model)) groups → (y : K) (m x : ℚ)
    → AllGroups (λ g. counts (share_of same model y g) ≡ true → m ≤ℚ inv_ℚ (inverse_degrees g)) groups
    → degrees_of same model groups y ≡ FiniteDegrees x → m ≤ℚ x
unfolding degrees_of law
degrees-above same law model groups h y m x a f =
    effective-above m (shares_of same model y groups) _ x (shares-above same model y m (inputs_of model) groups h a)
    (law_split same law (inputs_of model) (exact_slope same model y) (exact_slope same model y) groups h ∙ total-shares same model y groups) f
