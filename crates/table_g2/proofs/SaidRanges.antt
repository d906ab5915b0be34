-- What is said of a range holds of the exact degrees in it.
use Rattle.std.specs.Prelude.{◌≡◌, ℕ, Bool, true, false, Option, None, Some, ℤ, pos, negsuc, ◌≤ℤ◌, unsigned_abs, refl}
use Rattle.std.proofs.Common.{sym, ap, subst, ◌∙◌, inl, inr, arith}
use Rattle.std.proofs.lemmas.Int.{ints}
use Rattle.std.specs.Ordering.{int_eq}
use Rattle.std.specs.Cmp.{signed_Decides}
use Rattle.std.specs.declared.cmp.Ordering.{Ordering}
use Rattle.std.specs.declared.cmp.Ordering.TheVariants.{Less, Equal, Greater}
use Rattle.exact_fraction.specs.Number.{ℚ, of_ℤ, ◌≤ℚ◌, floor_ℚ}
use Rattle.exact_fraction.specs.NumberLaws.{≤ℚ_trans, ≤floor_ℚ, floor_ℚ-≤}
use Rattle.exact_fraction.specs.Ratio.{IsOrderOf}
use Rattle.decimal18.specs.Bound.{Bound, scaled, value_of, IsCanonical}
use Rattle.decimal18.specs.Order.{compare_ℚ, order}
use Rattle.decimal18.specs.OrderLaws.{compare_ℚ-says, order-by_value}
use Rattle.decimal18.proofs.Canonical.{one_canonical}
use Rattle.decimal18.proofs.Values.{value-whole}
use Rattle.exact_law.specs.Degrees.{Degrees, FiniteDegrees}
use Rattle.exact_law.proofs.RoundingLaws.{floor-between}
use Rattle.table_g2.specs.Known.{IsRange, AreDegrees, Allows, IsBelow, told_apart}
use Rattle.table_g2.specs.Said.{said, said_of_range, IsSaid}
use Rattle.table_g2.specs.declared.known.Nu.{Nu}
use Rattle.table_g2.specs.declared.known.Nu.TheVariants.{None as NoNu, Infinite, Range}
use Rattle.table_g2.specs.declared.settled.DofSaid.{DofSaid}

-- the order of the code is that of the values
pub compared : (lo limit : Bound) (r : Ordering) → limit ≡ scaled (pos told_apart) 0 → IsCanonical lo → IsCanonical limit
    → r ≡ order lo limit → compare_ℚ (value_of lo) (of_ℤ (pos told_apart)) ≡ r
compared lo limit r e m n h =
    sym (h ∙ order-by_value lo limit (one_canonical lo limit m n) ∙ ap (compare_ℚ (value_of lo)) (ap value_of e ∙ value-whole (pos told_apart)))

pub as_said : (lo hi : Bound) (end : Option Bound) → end ≡ Some hi → (r : Ordering) → compare_ℚ (value_of lo) (of_ℤ (pos told_apart)) ≡ r
    → (answer : DofSaid) → answer ≡ said_of_range r (floor_ℚ (value_of lo)) (floor_ℚ (value_of hi)) → answer ≡ said (Range lo end)
as_said lo hi end f r e answer h =
    h ∙ ap (λ o. said_of_range o (floor_ℚ (value_of lo)) (floor_ℚ (value_of hi))) (sym e) ∙ ap (λ o. said (Range lo o)) (sym f)

pub upper_end : (lo hi : Bound) (end : Option Bound) → end ≡ Some hi → IsRange lo end → of_ℤ (pos 1) ≤ℚ value_of hi
upper_end lo hi end f h = by (subst (IsRange lo) f h) where
  by : IsRange lo (Some hi) → of_ℤ (pos 1) ≤ℚ value_of hi
  by h = ≤ℚ_trans _ _ _ h.at_least_one h.ordered

-- ---- what is said holds
not_negative : (z : ℤ) → pos 1 ≤ℤ z → z ≡ pos (unsigned_abs z)
not_negative (pos n) h = refl
not_negative (negsuc n) h = absurd (by n h) where
  by : (n : ℕ) → pos 1 ≤ℤ negsuc n → ⊥
  by n h = omega (arith, ints)

-- both ends have the same whole part below what is not told apart
whole_holds : (lo hi : Bound) (x : ℚ) → of_ℤ (pos 1) ≤ℚ value_of lo → ¬ (of_ℤ (pos told_apart) ≤ℚ value_of lo)
    → floor_ℚ (value_of lo) ≡ floor_ℚ (value_of hi) → value_of lo ≤ℚ x → IsBelow x hi → floor_ℚ x ≡ pos (unsigned_abs (floor_ℚ (value_of lo)))
whole_holds lo hi x one apart e low (inl high) =
    floor-between (value_of lo) x (value_of hi) (floor_ℚ (value_of lo)) low high refl (sym e)
    ∙ not_negative (floor_ℚ (value_of lo)) (≤floor_ℚ (pos 1) (value_of lo) one)
whole_holds lo hi x one apart e low (inr great) =
    absurd (apart (floor_ℚ-≤ (pos told_apart) (value_of lo) (subst (λ z. pos told_apart ≤ℤ z) (sym e) (≤floor_ℚ (pos told_apart) (value_of hi) great))))

range_holds : (lo hi : Bound) (x : ℚ) → of_ℤ (pos 1) ≤ℚ value_of lo → value_of lo ≤ℚ x → IsBelow x hi
    → (r : Ordering) → IsOrderOf r (value_of lo) (of_ℤ (pos told_apart))
    → (b : Bool) → int_eq (floor_ℚ (value_of lo)) (floor_ℚ (value_of hi)) ≡ b
    → IsSaid (said_of_range r (floor_ℚ (value_of lo)) (floor_ℚ (value_of hi))) (FiniteDegrees x)
range_holds lo hi x one low high Less apart true e =
    rw e (x, (refl, whole_holds lo hi x one apart ((signed_Decides (floor_ℚ (value_of lo)) (floor_ℚ (value_of hi))).0 e) low high))
range_holds lo hi x one low high Less apart false e = rw e tt
range_holds lo hi x one low high Equal same b e = (x, (refl, subst (λ y. y ≤ℚ x) same low))
range_holds lo hi x one low high Greater apart b e = tt

said_holds : (nu : Nu) (d : Degrees) → AreDegrees nu → Allows nu d → IsSaid (said nu) d
said_holds NoNu d a h = h
said_holds Infinite d a h = h
said_holds (Range lo None) d a h = tt
said_holds (Range lo (Some hi)) d a (x, (e, low, high)) =
    subst (IsSaid (said (Range lo (Some hi)))) (sym e)
    (range_holds lo hi x a.at_least_one low high (compare_ℚ (value_of lo) (of_ℤ (pos told_apart))) (compare_ℚ-says _ _) _ refl)

pub answer_holds : (nu : Nu) (answer : DofSaid) → answer ≡ said nu → AreDegrees nu → (d : Degrees) → Allows nu d → IsSaid answer d
answer_holds nu answer e a d h = subst (λ s. IsSaid s d) (sym e) (said_holds nu d a h)
