-- The factor of Table G.2 falls as the degrees of freedom grow.
use Rattle.std.specs.Prelude.{◌≡◌, ℕ, ◌≤◌, Bool, true, false, cond, ◌&&◌, nat_le, List, [], ◌∷◌, pos, refl}
use Rattle.std.proofs.Common.{sym, ◌∙◌, ap}
use Rattle.std.proofs.lemmas.Bool.{and_parts, leb-true, true≢false}
use Rattle.std.proofs.Math.Nat.{le_refl, le_trans}
use Rattle.exact_fraction.specs.Number.{ℚ, of_ℤ, inv_ℚ, is_at_most_ℚ, ◌≤ℚ◌}
use Rattle.exact_fraction.specs.NumberLaws.{≤ℚ_trans, *ℚ-≤ℚ}
use Rattle.exact_law.specs.Degrees.{Level, Percent95, Percent9545, Percent99, Factors, row, thousandths, first_row, later_rows, infinite_row, factor_in, row_at, row_of, factor, InfiniteDegrees, FiniteDegrees}
use Rattle.exact_fraction.proofs.Signs.{of_pos-≤ℚ, whole-not_negative, inv-not_negative}

-- the factors fall from row to row, down to n
falls : ℕ → Level → Factors → List Factors → Bool
falls n level f [] = nat_le n (thousandths level f)
falls n level f (g ∷ gs) = nat_le (thousandths level g) (thousandths level f) && falls n level g gs

table-falls : (level : Level) → falls (thousandths level infinite_row) level first_row later_rows ≡ true
unfolding falls thousandths infinite_row first_row later_rows row
table-falls Percent95 = refl
table-falls Percent9545 = refl
table-falls Percent99 = refl

falls-next : (n : ℕ) (level : Level) (f g : Factors) (gs : List Factors) → falls n level f (g ∷ gs) ≡ true
    → thousandths level g ≤ thousandths level f
unfolding falls
falls-next n level f g gs h = leb-true _ _ (and_parts _ _ h).0

falls-rest : (n : ℕ) (level : Level) (f g : Factors) (gs : List Factors) → falls n level f (g ∷ gs) ≡ true
    → falls n level g gs ≡ true
unfolding falls
falls-rest n level f g gs h = (and_parts _ _ h).1

falls-low : (n : ℕ) (level : Level) (f : Factors) (gs : List Factors) → falls n level f gs ≡ true → n ≤ thousandths level f
unfolding falls
falls-low n level f [] h = leb-true _ _ h
falls-low n level f (g ∷ gs) h =
    le_trans (falls-low n level g gs (and_parts _ _ h).1) (leb-true _ _ (and_parts _ _ h).0)

row_at-low : (n : ℕ) (level : Level) (x : ℚ) (f : Factors) (gs : List Factors) → falls n level f gs ≡ true
    → n ≤ thousandths level (row_at x f gs)
unfolding row_at
row_at-low n level x f [] h = falls-low n level f [] h
row_at-low n level x f (g ∷ gs) h = by (is_at_most_ℚ (of_ℤ (pos g.degrees)) x) (row_at-low n level x g gs (falls-rest n level f g gs h)) where
  by : (b : Bool) → n ≤ thousandths level (row_at x g gs) → n ≤ thousandths level (cond b (row_at x g gs) f)
  by true k = k
  by false k = falls-low n level f (g ∷ gs) h

row_at-high : (n : ℕ) (level : Level) (x : ℚ) (f : Factors) (gs : List Factors) → falls n level f gs ≡ true
    → thousandths level (row_at x f gs) ≤ thousandths level f
unfolding row_at
row_at-high n level x f [] h = le_refl _
row_at-high n level x f (g ∷ gs) h = by (is_at_most_ℚ (of_ℤ (pos g.degrees)) x) (row_at-high n level x g gs (falls-rest n level f g gs h)) where
  by : (b : Bool) → thousandths level (row_at x g gs) ≤ thousandths level g → thousandths level (cond b (row_at x g gs) f) ≤ thousandths level f
  by true k = le_trans k (falls-next n level f g gs h)
  by false k = le_refl _

row_at-falls : (n : ℕ) (level : Level) (x y : ℚ) → x ≤ℚ y → (f : Factors) (gs : List Factors) → falls n level f gs ≡ true
    → thousandths level (row_at y f gs) ≤ thousandths level (row_at x f gs)
unfolding row_at
row_at-falls n level x y l f [] h = le_refl _
row_at-falls n level x y l f (g ∷ gs) h =
    by (is_at_most_ℚ (of_ℤ (pos g.degrees)) x) (is_at_most_ℚ (of_ℤ (pos g.degrees)) y) refl refl
    (row_at-falls n level x y l g gs (falls-rest n level f g gs h)) where
      by : (b c : Bool) → is_at_most_ℚ (of_ℤ (pos g.degrees)) x ≡ b → is_at_most_ℚ (of_ℤ (pos g.degrees)) y ≡ c
          → thousandths level (row_at y g gs) ≤ thousandths level (row_at x g gs)
          → thousandths level (cond c (row_at y g gs) f) ≤ thousandths level (cond b (row_at x g gs) f)
      by true true d e k = k
      by true false d e k = absurd (true≢false (sym (≤ℚ_trans (of_ℤ (pos g.degrees)) x y (record { holds = d }) l).holds ∙ e))
      by false true d e k = le_trans (row_at-high n level y g gs (falls-rest n level f g gs h)) (falls-next n level f g gs h)
      by false false d e k = le_refl _

factor_in-≤ : (level : Level) (f g : Factors) → thousandths level f ≤ thousandths level g → factor_in level f ≤ℚ factor_in level g
unfolding factor_in
factor_in-≤ level f g h =
    *ℚ-≤ℚ _ _ (inv_ℚ (of_ℤ (pos 1000))) (inv-not_negative _ (whole-not_negative 1000))
    (of_pos-≤ℚ _ _ h)

pub factor-falls : (level : Level) (x y : ℚ) → x ≤ℚ y → factor level (FiniteDegrees y) ≤ℚ factor level (FiniteDegrees x)
unfolding factor row_of
factor-falls level x y l =
    factor_in-≤ level (row_at y first_row later_rows) (row_at x first_row later_rows)
    (row_at-falls (thousandths level infinite_row) level x y l first_row later_rows (table-falls level))

pub factor-infinite : (level : Level) (x : ℚ) → factor level InfiniteDegrees ≤ℚ factor level (FiniteDegrees x)
unfolding factor row_of
factor-infinite level x =
    factor_in-≤ level infinite_row (row_at x first_row later_rows)
    (row_at-low (thousandths level infinite_row) level x first_row later_rows (table-falls level))

-- ---- from 100 on
none_above : ℕ → List Factors → Bool
none_above n [] = true
none_above n (g ∷ gs) = nat_le g.degrees n && none_above n gs

row_at-above : (n : ℕ) (x : ℚ) (f : Factors) (gs : List Factors) → none_above n gs ≡ true → of_ℤ (pos n) ≤ℚ x → row_at x f gs ≡ row_at (of_ℤ (pos n)) f gs
unfolding row_at none_above
row_at-above n x f [] h l = refl
row_at-above n x f (g ∷ gs) h l =
    let d = of_pos-≤ℚ g.degrees n (leb-true _ _ (and_parts _ _ h).0) in
    rw ((≤ℚ_trans _ _ _ d l).holds, d.holds) (row_at-above n x g gs (and_parts _ _ h).1 l)

table-none_above : none_above 100 later_rows ≡ true
unfolding none_above later_rows row
table-none_above = refl

pub factor-from_100 : (level : Level) (x : ℚ) → of_ℤ (pos 100) ≤ℚ x → factor level (FiniteDegrees x) ≡ factor level (FiniteDegrees (of_ℤ (pos 100)))
unfolding factor row_of
factor-from_100 level x l = ap (factor_in level) (row_at-above 100 x first_row later_rows table-none_above l)
