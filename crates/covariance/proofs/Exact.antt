-- The exact covariances of a group, its part in the law as their double sum, and that it is sound.
use Rattle.std.specs.Prelude.{◌≡◌, ◌*◌, ℕ, zero, suc, true, List, [], ◌∷◌, map, length, pos, refl}
use Rattle.std.proofs.Common.{◌∙◌, ap₂}
use Rattle.exact_fraction.specs.Number.{ℚ, of_ℤ, ◌+ℚ◌, ◌*ℚ◌, ◌/ℚ◌, ◌≤ℚ◌}
use Rattle.exact_fraction.specs.NumberLaws.{≤ℚ_refl}
use Rattle.exact_fraction.specs.Sums.{total}
use Rattle.exact_fraction.proofs.Ring.{ring, Whole, ◌:+◌, ◌:*◌, Var, x0, x1, x2, x3, x4}
use Rattle.exact_fraction.proofs.OrderLaws.{+ℚ-not_negative, *ℚ-not_negative, square-not_negative}
use Rattle.exact_fraction.proofs.Signs.{whole-not_negative, inv-not_negative}
use Rattle.exact_fraction.proofs.SumLaws.{total-same}
use Rattle.exact_law.specs.Law.{part, joint, IsSound}
use Rattle.exact_law.proofs.RenamingLaws.{total-map}
use Rattle.exact_law.proofs.Schwarz.{joint-sym}
use Rattle.exact_law.proofs.Split.{declared_sound}
use Rattle.decimal18.specs.Bound.{Bound, value_of}
use Rattle.type_b.specs.declared.shape.Shape.{Shape}
use Rattle.type_b.specs.declared.shape.Shape.TheVariants.{Exact, Std, Exp, Norm, Rect, Tri, Trap, Arcsine}
use Rattle.type_b.specs.declared.shape.Dof.{Dof}
use Rattle.type_b.specs.declared.shape.Dof.TheVariants.{Inf, Whole as WholeDegrees, Rel}
use Rattle.type_b.specs.Shapes.{inverse_degrees}
use Rattle.type_b.specs.Variances.{variance_of, deviation_of, states_deviation}
use Rattle.type_a.specs.Statistics.{exact_reading}
use Rattle.covariance.specs.Groups.{Group, Single, Pair, Columns, members, IsRegular, placed, column, exact_group, exact_pair, exact_within}

-- ---- symmetric
pair-sym : (s t : Shape) (r : Bound) (i j : ℕ) → exact_pair s t r i j ≡ exact_pair s t r j i
pair-sym s t r zero zero = refl
pair-sym s t r zero (suc j) = refl
pair-sym s t r (suc i) zero = refl
pair-sym s t r (suc i) (suc j) = refl

pub within-sym : {K : Type 0} (g : Group K) (i j : ℕ) → exact_within g i j ≡ exact_within g j i
within-sym (Single k shape dof) i j = refl
within-sym (Pair k s m t r) i j = pair-sym s t r i j
within-sym (Columns ks readings) i j = joint-sym (length readings) (exact_reading readings i) (exact_reading readings j)

-- ---- not negative
quotient-not_negative : (x : ℚ) (n : ℕ) → of_ℤ (pos 0) ≤ℚ x → of_ℤ (pos 0) ≤ℚ x /ℚ of_ℤ (pos n)
quotient-not_negative x n h = *ℚ-not_negative x _ h (inv-not_negative _ (whole-not_negative n))

pub variance-not_negative : (s : Shape) → of_ℤ (pos 0) ≤ℚ variance_of s
variance-not_negative Exact = ≤ℚ_refl _
variance-not_negative (Std u) = square-not_negative _
variance-not_negative (Exp expanded k) = square-not_negative _
variance-not_negative (Norm half level) = square-not_negative _
variance-not_negative (Rect half) = quotient-not_negative _ 3 (square-not_negative _)
variance-not_negative (Tri half) = quotient-not_negative _ 6 (square-not_negative _)
variance-not_negative (Trap half beta) =
    quotient-not_negative _ 6 (*ℚ-not_negative _ _ (square-not_negative _) (+ℚ-not_negative _ _ (whole-not_negative 1) (square-not_negative _)))
variance-not_negative (Arcsine half) = quotient-not_negative _ 2 (square-not_negative _)

degrees-not_negative : (d : Dof) → of_ℤ (pos 0) ≤ℚ inverse_degrees d
degrees-not_negative Inf = ≤ℚ_refl _
degrees-not_negative (WholeDegrees n) = quotient-not_negative _ n (whole-not_negative 1)
degrees-not_negative (Rel p) = quotient-not_negative _ 5000 (whole-not_negative (p * p))

pub regular-sound : {K : Type 0} (g : Group K) → IsRegular g → IsSound (exact_group g)
unfolding IsSound
regular-sound (Single k shape dof) h = (variance-not_negative shape, degrees-not_negative dof)
regular-sound (Pair k s m t r) h = declared_sound k m (value_of r) (deviation_of s) (deviation_of t) h.4 h.5
regular-sound (Columns ks readings) h = tt

-- ---- the part as a double sum over the members
stated_square : (s : Shape) → states_deviation s ≡ true → deviation_of s *ℚ deviation_of s ≡ variance_of s
stated_square Exact h = absurd (cc)
stated_square (Std u) h = refl
stated_square (Exp expanded k) h = refl
stated_square (Norm half level) h = refl
stated_square (Rect half) h = absurd (cc)
stated_square (Tri half) h = absurd (cc)
stated_square (Trap half beta) h = absurd (cc)
stated_square (Arcsine half) h = absurd (cc)

abbrev pub double_sum : {K : Type 0} → Group K → (K → ℚ) → (K → ℚ) → ℚ
double_sum g u w =
    total (λ p. total (λ q. u p.1 *ℚ w q.1 *ℚ exact_within g p.0 q.0) (placed 0 (members g))) (placed 0 (members g))

pub part-double_sum : {K : Type 0} (g : Group K) → IsRegular g → (u w : K → ℚ) → part (exact_group g) u w ≡ double_sum g u w
unfolding part total
part-double_sum (Single k shape dof) h u w =
    ring (u k ∷ w k ∷ variance_of shape ∷ []) (x0 :* x1 :* x2) ((x0 :* x1 :* x2 :+ Whole (pos 0)) :+ Whole (pos 0)) refl
part-double_sum (Pair k s m t r) h u w =
    let c : ℚ = value_of r *ℚ (deviation_of s *ℚ deviation_of t) in
    ap₂ (λ x y. ((u k *ℚ w k *ℚ x) +ℚ (u m *ℚ w m *ℚ y)) +ℚ ((u k *ℚ w m *ℚ c) +ℚ (u m *ℚ w k *ℚ c)))
    (stated_square s h.1) (stated_square t h.3)
    ∙ ring (u k ∷ u m ∷ w k ∷ w m ∷ c ∷ variance_of s ∷ variance_of t ∷ [])
    ((x0 :* x2 :* Var 5 :+ x1 :* x3 :* Var 6) :+ (x0 :* x3 :* x4 :+ x1 :* x2 :* x4))
    ((x0 :* x2 :* Var 5 :+ (x0 :* x3 :* x4 :+ Whole (pos 0)))
    :+ ((x1 :* x2 :* x4 :+ (x1 :* x3 :* Var 6 :+ Whole (pos 0))) :+ Whole (pos 0))) refl
part-double_sum (Columns ks readings) h u w =
    let ps : List (ℕ × _) = placed 0 ks in
    total-map (column readings) (λ a. total (λ b. u a.key *ℚ w b.key *ℚ joint (length readings) a.reading b.reading) (map (column readings) ps)) ps
    ∙ total-same _ _ ps (λ p. total-map (column readings) (λ b. u p.1 *ℚ w b.key *ℚ joint (length readings) (exact_reading readings p.0) b.reading) ps)
