-- The canonical form keeps the value, and a value has only one.
use Rattle.std.specs.Prelude.{◌≡◌, ℕ, zero, suc, ◌+◌, ◌-◌, ◌*◌, ◌/◌, ◌%◌, ◌^◌, ◌<◌, ◌≤◌, ◌==◌, Bool, true, false, cond, ℤ, pos, negsuc, ◌*ℤ◌, neg_ℤ, unsigned_abs, int_div, refl, ◌⊎◌}
use Rattle.std.proofs.Common.{sym, ap, subst, ◌∙◌, arith, inl, inr}
use Rattle.std.proofs.Math.IntN.{*ℤ_comm}
use Rattle.std.proofs.Math.Nat.{eq_of_mul-eq-mul_right, one-le-pow, le_antisymm}
use Rattle.std.proofs.Math.Dec.{lit≤}
use Rattle.std.proofs.Math.Pow.{pow-add}
use Rattle.std.proofs.lemmas.Bool.{eqb-false, cases_lt}
use Rattle.std.proofs.lemmas.Int.{unsigned_abs-mul}
use Rattle.exact_fraction.specs.Whole.{same_cancel}
use Rattle.exact_fraction.specs.NumberLaws.{≈-of_≡}
use Rattle.decimal18.specs.Bound.{Bound, scaled, fraction_of, value_of, canonical, IsCanonical}
use Rattle.decimal18.proofs.Values.{value-shifted}

negative_tenth : (q n : ℕ) → suc n ≡ q * 10 → (neg_ℤ (pos q) *ℤ pos 10) ≡ negsuc n
negative_tenth zero n e = absurd (omega arith)
negative_tenth (suc q) n e = rw (← e) refl

-- a number whose last digit is 0 is ten times its tenth
tenth : (c : ℤ) → unsigned_abs c % 10 ≡ 0 → (int_div c (pos 10) *ℤ pos 10) ≡ c
tenth (pos a) h = ap pos (omega arith)
tenth (negsuc a) h = negative_tenth (suc a / 10) a (omega arith)

tenth_below : (c : ℤ) → unsigned_abs (int_div c (pos 10)) ≤ unsigned_abs c
tenth_below (pos a) = omega arith
tenth_below (negsuc a) = below (suc a / 10) (suc a) (omega arith) where
  below : (q n : ℕ) → q ≤ n → unsigned_abs (neg_ℤ (pos q)) ≤ n
  below zero n h = h
  below (suc q) n h = h

-- b has the value of c / 10 ^ p with the fewest places
pub record IsReduced (c : ℤ) (p : ℕ) (b : Bound) : Type 0 where
  pub same : value_of b ≡ value_of (scaled c p)
  pub canonical : IsCanonical b
  pub smaller : unsigned_abs b.coefficient ≤ unsigned_abs c
  pub fewer : b.places ≤ p

pub step : (c : ℤ) (p : ℕ) (t : Bool) → (unsigned_abs c % 10 == 0) ≡ t → IsReduced (int_div c (pos 10)) p (canonical (int_div c (pos 10)) p)
    → IsReduced c (suc p) (cond t (canonical (int_div c (pos 10)) p) (scaled c (suc p)))
step c p true e h =
    let zero_last : unsigned_abs c % 10 ≡ 0 = grind arith in
    let shift : value_of (scaled (int_div c (pos 10) *ℤ pos (10 ^ 1)) (p + 1)) ≡ value_of (scaled (int_div c (pos 10)) p) = value-shifted (int_div c (pos 10)) p 1 in
    record {
      same = h.same ∙ sym shift ∙ ap (λ z. value_of (scaled z (p + 1))) (tenth c zero_last) ∙ ap (λ n. value_of (scaled c n)) (omega arith);
      canonical = h.canonical;
      smaller = omega (arith, h.smaller, tenth_below c);
      fewer = omega (arith, h.fewer);
    }
step c p false e h = record {
  same = refl;
  canonical = record { least = λ _ z. eqb-false _ _ e z };
  smaller = omega arith;
  fewer = omega arith;
}

pub IsReduced-canonical : (c : ℤ) (p : ℕ) → IsReduced c p (canonical c p)
IsReduced-canonical c zero = record { same = refl; canonical = record { least = λ h. absurd (omega arith) }; smaller = omega arith; fewer = omega arith }
IsReduced-canonical c (suc p) = step c p (unsigned_abs c % 10 == 0) refl (IsReduced-canonical (int_div c (pos 10)) p)

-- ---- one value, one canonical form
-- the cross products of two decimal numbers of one value
pub crossed : (a b : Bound) → value_of a ≡ value_of b → (a.coefficient *ℤ pos (10 ^ b.places)) ≡ (b.coefficient *ℤ pos (10 ^ a.places))
unfolding value_of
crossed a b e = (≈-of_≡ (fraction_of a) (fraction_of b) e).same

sizes : (a b : Bound) → value_of a ≡ value_of b
    → unsigned_abs a.coefficient * 10 ^ b.places ≡ unsigned_abs b.coefficient * 10 ^ a.places
sizes a b e =
    sym (unsigned_abs-mul a.coefficient (pos (10 ^ b.places))) ∙ ap unsigned_abs (crossed a b e)
    ∙ unsigned_abs-mul b.coefficient (pos (10 ^ a.places))

pub power_positive : (p : ℕ) → 0 < 10 ^ p
power_positive p = one-le-pow p 10 (lit≤ tt)

-- with more places than a number of the same value the last digit is 0
last_is_zero : (x y p k : ℕ) → x * 10 ^ (p + (k + 1)) ≡ y * 10 ^ p → y % 10 ≡ 0
last_is_zero x y p k e =
    let t = 10 ^ p in
    let r = 10 ^ k in
    let f : 10 ^ (p + (k + 1)) ≡ t * (r * 10) = pow-add 10 p (k + 1) ∙ ap (λ n. 10 ^ p * n) (pow-add 10 k 1) in
    let g : (x * r * 10) * t ≡ y * t = omega (arith, e, ap (λ n. x * n) f) in
    let h : x * r * 10 ≡ y = eq_of_mul-eq-mul_right t (power_positive p) (x * r * 10) y g in
    rw (← h) (omega arith)

no_more_places : (a b : Bound) → IsCanonical b → value_of a ≡ value_of b → b.places ≤ a.places
no_more_places a b least e = by (cases_lt a.places b.places) where
  by : (a.places < b.places) ⊎ (b.places ≤ a.places) → b.places ≤ a.places
  by (inr h) = h
  by (inl h) =
      let split : a.places + ((b.places - (a.places + 1)) + 1) ≡ b.places = omega arith in
      absurd (least.least (omega arith)
      (last_is_zero (unsigned_abs a.coefficient) (unsigned_abs b.coefficient) a.places (b.places - (a.places + 1))
      (rw split (sizes a b e))))

one_form : (c d : ℤ) (p q : ℕ) → p ≡ q → (c *ℤ pos (10 ^ q)) ≡ (d *ℤ pos (10 ^ p)) → scaled c p ≡ scaled d q
one_form c d p q e h =
    let g : (c *ℤ pos (10 ^ p)) ≡ (d *ℤ pos (10 ^ p)) = subst (λ n. (c *ℤ pos (10 ^ n)) ≡ (d *ℤ pos (10 ^ p))) (sym e) h in
    let f : (pos (10 ^ p) *ℤ c) ≡ (pos (10 ^ p) *ℤ d) = *ℤ_comm (pos (10 ^ p)) c ∙ g ∙ *ℤ_comm d (pos (10 ^ p)) in
    ap (λ n. scaled c n) e ∙ ap (λ z. scaled z q) (same_cancel (10 ^ p) c d (power_positive p) f)

-- two canonical numbers of one value are one
pub one_canonical : (a b : Bound) → IsCanonical a → IsCanonical b → value_of a ≡ value_of b → a ≡ b
one_canonical a b canonical_a canonical_b e =
    one_form a.coefficient b.coefficient a.places b.places
    (le_antisymm (no_more_places b a canonical_a (sym e)) (no_more_places a b canonical_b e)) (crossed a b e)
