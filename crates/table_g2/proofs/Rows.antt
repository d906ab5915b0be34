-- The row of degrees of freedom, by their whole part and by the place of that in the keys.
use Rattle.std.specs.Prelude.{◌≡◌, ℕ, zero, suc, ◌<◌, ◌≤◌, Bool, true, false, cond, nat_le, List, [], ◌∷◌, map, get_or, pos, ◌≤ℤ◌, Option, None, Some, IfSome, IsSome, IsNone, ◌↔◌, refl, slice_index, slice_index_or, nat_lt}
use Rattle.std.proofs.Common.{sym, ◌∙◌, ap, ap₂, subst, arith}
use Rattle.std.proofs.lemmas.Bool.{leb-true, leb-false, le-leb, and_parts}
use Rattle.std.proofs.lemmas.Int.{ints}
use Rattle.std.proofs.lemmas.List.{get_or-map, length-map}
use Rattle.exact_fraction.specs.Number.{ℚ, of_ℤ, ◌≤ℚ◌, is_at_most_ℚ, floor_ℚ}
use Rattle.exact_fraction.specs.NumberLaws.{≤ℚ_trans, of_ℤ-≤ℚ, ≤floor_ℚ, floor_ℚ-≤}
use Rattle.exact_fraction.proofs.OrderLaws.{floor_ℚ-not_above}
use Rattle.exact_law.specs.Degrees.{Factors, row, first_row, later_rows, row_at, row_of, FiniteDegrees}
use Rattle.step_table.specs.Rising.{rises_above, IsRising, IsPlace, AreAbove}
use Rattle.step_table.proofs.Places.{later_above}
use Rattle.table_g2.specs.Factors.{finite_rows, held}
use Rattle.table_g2.specs.declared.table.Factors.{Factors as HeldFactors}

-- a whole number is not above x exactly where it is not above the whole part of x
below_whole : (n : ℕ) (x : ℚ) (w : ℕ) → floor_ℚ x ≡ pos w → of_ℤ (pos n) ≤ℚ x → n ≤ w
below_whole n x w e h = let k : pos n ≤ℤ pos w = subst (λ z. pos n ≤ℤ z) e (≤floor_ℚ (pos n) x h) in omega (arith, ints)

whole_below : (n : ℕ) (x : ℚ) (w : ℕ) → floor_ℚ x ≡ pos w → n ≤ w → of_ℤ (pos n) ≤ℚ x
whole_below n x w e h = let k : pos n ≤ℤ pos w = omega (arith, ints) in floor_ℚ-≤ (pos n) x (subst (λ z. pos n ≤ℤ z) (sym e) k)

by_whole_part : (n : ℕ) (x : ℚ) (w : ℕ) → floor_ℚ x ≡ pos w → is_at_most_ℚ (of_ℤ (pos n)) x ≡ nat_le n w
by_whole_part n x w e = by (is_at_most_ℚ (of_ℤ (pos n)) x) (nat_le n w) refl refl where
  by : (b c : Bool) → is_at_most_ℚ (of_ℤ (pos n)) x ≡ b → nat_le n w ≡ c → b ≡ c
  by true true g h = refl
  by false false g h = refl
  by true false g h = sym (le-leb _ _ (below_whole n x w e (record { holds = g }))) ∙ h
  by false true g h = sym g ∙ (whole_below n x w e (leb-true _ _ h)).holds

-- so the row of x is that of its whole part
same_test : (n : ℕ) (x : ℚ) → is_at_most_ℚ (of_ℤ (pos n)) x ≡ is_at_most_ℚ (of_ℤ (pos n)) (of_ℤ (floor_ℚ x))
same_test n x = by (is_at_most_ℚ (of_ℤ (pos n)) x) (is_at_most_ℚ (of_ℤ (pos n)) (of_ℤ (floor_ℚ x))) refl refl where
  by : (b c : Bool) → is_at_most_ℚ (of_ℤ (pos n)) x ≡ b → is_at_most_ℚ (of_ℤ (pos n)) (of_ℤ (floor_ℚ x)) ≡ c → b ≡ c
  by true true g h = refl
  by false false g h = refl
  by true false g h = sym (of_ℤ-≤ℚ (pos n) (floor_ℚ x) (≤floor_ℚ (pos n) x (record { holds = g }))).holds ∙ h
  by false true g h = sym g ∙ (≤ℚ_trans _ _ _ (record { holds = h }) (floor_ℚ-not_above x)).holds

row_at-floor : (x : ℚ) (f : Factors) (gs : List Factors) → row_at x f gs ≡ row_at (of_ℤ (floor_ℚ x)) f gs
unfolding row_at
row_at-floor x f [] = refl
row_at-floor x f (g ∷ gs) = ap₂ (λ b h. cond b h f) (same_test g.degrees x) (row_at-floor x g gs)

pub row_of-floor : (x : ℚ) → row_of (FiniteDegrees x) ≡ row_of (FiniteDegrees (of_ℤ (floor_ℚ x)))
unfolding row_of
row_of-floor x = row_at-floor x first_row later_rows

-- ---- the row at a place
abbrev degrees : List Factors → List ℕ
degrees fs = map (λ f. f.degrees) fs

-- the place among the keys but the first
rest : (n : ℕ) (ns : List ℕ) (w place : ℕ) → IsPlace (n ∷ ns) w (suc place) → IsPlace ns w place
rest n ns w place h = record {
  within = omega (arith, h.within);
  not_above = h.not_above;
  greatest = λ later after within. h.greatest (suc later) (omega arith) (omega arith);
}

row_at-place : (x : ℚ) (w : ℕ) → floor_ℚ x ≡ pos w → (f : Factors) (gs : List Factors) (place : ℕ) (d : Factors)
    → IsRising (degrees (f ∷ gs)) → IsPlace (degrees (f ∷ gs)) w place → row_at x f gs ≡ get_or (f ∷ gs) place d
unfolding row_at
row_at-place x w e f [] zero d rising h = refl
row_at-place x w e f [] (suc place) d rising h = absurd (omega (arith, h.within))
row_at-place x w e f (g ∷ gs) place d rising h =
    rw (by_whole_part g.degrees x w e)
    (by (λ place. row_at-place x w e g gs place d (and_parts (nat_lt f.degrees g.degrees) (rises_above g.degrees (degrees gs)) rising).1)
    (nat_le g.degrees w) refl place h) where
      by : ((place : ℕ) → IsPlace (degrees (g ∷ gs)) w place → row_at x g gs ≡ get_or (g ∷ gs) place d)
          → (b : Bool) → nat_le g.degrees w ≡ b → (place : ℕ) → IsPlace (degrees (f ∷ g ∷ gs)) w place
          → cond b (row_at x g gs) f ≡ get_or (f ∷ g ∷ gs) place d
      by again true k zero h =
          let low : g.degrees ≤ w = leb-true _ _ k in
          let high : w < g.degrees = h.greatest 1 (omega arith) (omega arith) in
          absurd (omega (arith, low, high))
      by again true k (suc place) h = again place (rest f.degrees (degrees (g ∷ gs)) w place h)
      by again false k zero h = refl
      by again false k (suc zero) h = absurd (omega (arith, h.not_above, leb-false _ _ k))
      by again false k (suc (suc place)) h =
          let above : g.degrees < slice_index (degrees gs) place = later_above (degrees (f ∷ g ∷ gs)) rising 1 (suc (suc place)) 0 (omega arith) h.within in
          let low : slice_index (degrees gs) place ≤ w = h.not_above in
          absurd (omega (arith, above, low, leb-false _ _ k))

rising_rows : IsRising (degrees finite_rows)
unfolding first_row later_rows row
rising_rows = refl

row_in : (x : ℚ) (w : ℕ) → floor_ℚ x ≡ pos w → (place : ℕ) → IsPlace (degrees finite_rows) w place → (d : HeldFactors)
    → slice_index_or (map held finite_rows) place d ≡ held (row_of (FiniteDegrees x))
unfolding row_of
row_in x w e place h d =
    get_or-map held finite_rows place first_row d (subst (λ n. place < n) (length-map finite_rows (λ f. f.degrees)) h.within)
    ∙ ap held (sym (row_at-place x w e first_row later_rows place first_row rising_rows h))

-- what the code finds
pub row_of-found : (x : ℚ) (w : ℕ) → floor_ℚ x ≡ pos w → (keys : List ℕ) → keys ≡ degrees finite_rows
    → (rows : List HeldFactors) → rows ≡ map held finite_rows → (answer : Option ℕ) → IfSome answer (IsPlace keys w)
    → (place : ℕ) → answer ≡ Some place → (d : HeldFactors) → slice_index_or rows place d ≡ held (row_of (FiniteDegrees x))
row_of-found x w e keys k rows r answer h place a d =
    let found : IsPlace keys w place = subst (λ o. IfSome o (IsPlace keys w)) a h in
    ap (λ fs. slice_index_or fs place d) r ∙ row_in x w e place (subst (λ ns. IsPlace ns w place) k found) d

-- the first key is 1
pub some_place : (x : ℚ) (w : ℕ) → floor_ℚ x ≡ pos w → of_ℤ (pos 1) ≤ℚ x → (keys : List ℕ) → keys ≡ degrees finite_rows
    → (place : Option ℕ) → IsNone place ↔ AreAbove keys w → IsSome place
unfolding first_row later_rows row
some_place x w e h keys k (Some place) f = refl
some_place x w e h keys k None f =
    let above : w < slice_index keys 0 = (f.0 refl) 0 (rw k (omega arith)) in
    let first : slice_index keys 0 ≡ 1 = rw k refl in
    absurd (omega (arith, above, first, below_whole 1 x w e h))
