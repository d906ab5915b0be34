-- What the first digits of a number say of the bounds next to it.
use Rattle.std.specs.Prelude.{◌≡◌, ◌↔◌, ◌⊎◌, ℕ, zero, suc, ◌+◌, ◌-◌, ◌*◌, ◌^◌, ◌<◌, ◌≤◌, Bool, true, false, ℤ, pos, negsuc, ◌*ℤ◌, ◌≤ℤ◌, neg_ℤ, unsigned_abs, Option, None, Some, IsSome, IfSome, refl}
use Rattle.std.specs.Option.{option_map}
use Rattle.std.proofs.Common.{sym, ap, subst, ◌∙◌, arith, inl, inr, add-one, add-zero}
use Rattle.std.proofs.Math.Nat.{one-le-pow, mul-le-mul_right}
use Rattle.std.proofs.Math.Dec.{lit≤}
use Rattle.std.proofs.Math.Pow.{pow-add}
use Rattle.std.proofs.Math.IntN.{*ℤ_comm}
use Rattle.std.proofs.lemmas.Int.{ints, by_lt_z}
use Rattle.std.proofs.lemmas.Bool.{true≢false, false≢true, cases_lt, lt-ltb, le-ltb}
use lib.Signed.{≤ℤ_refl}
use Rattle.exact_fraction.specs.Whole.{le_both, le_same, le_cancel}
use Rattle.exact_fraction.specs.Number.{ℚ, of_ℤ, ◌≤ℚ◌, neg_ℚ}
use Rattle.exact_fraction.specs.NumberLaws.{≤ℚ_refl, ≤ℚ_trans, ≤ℚ_antisym, ≤ℚ_same, ≤ℚ_total, neg_ℚ-≤ℚ, ≼-of_≤ℚ, ≤ℤ-of_≤ℚ}
use Rattle.decimal18.specs.declared.direction.Direction.{Direction}
use Rattle.decimal18.specs.declared.direction.Direction.TheVariants.{Down, Up}
use Rattle.decimal18.specs.Bound.{Bound, scaled, fraction_of, value_of, canonical, IsBound}
use Rattle.decimal18.specs.Down.{IsDown, IsInRange, top, down, up, floor_at, fits_18_digits, negated}
use Rattle.decimal18.specs.Digits.{signed, signed_ℚ, rounded, growth, IsCutOff, IsEnough, IsFirst, IsPast}
use Rattle.decimal18.proofs.Values.{value-shifted, value-rises, value-whole, under_floor, under_value}
use Rattle.decimal18.proofs.Canonical.{IsReduced-canonical, one_canonical}
use Rattle.decimal18.proofs.Rounding.{times_bottom, IsLong, long-of_36, long-of_unfit, greatest_at, down_some, some_down, none_down}
use Rattle.decimal18.proofs.Zeros.{size_of_signed}
use Rattle.decimal18.proofs.Upward.{neg-neg, neg_ℚ-neg_ℚ, value-negated, IsCanonical-negated, IsInRange-neg_ℚ, none_up, up_some}

-- the order of values is that of the coefficients at one number of places
pub value-order : (m n : ℤ) (p : ℕ) → value_of (scaled m p) ≤ℚ value_of (scaled n p) → m ≤ℤ n
unfolding value_of
value-order m n p h = cancel m n (10 ^ p) (one-le-pow p 10 (lit≤ tt)) (≼-of_≤ℚ (fraction_of (scaled m p)) (fraction_of (scaled n p)) h).at_most where
  cancel : (m n : ℤ) (t : ℕ) → 0 < t → (m *ℤ pos t) ≤ℤ (n *ℤ pos t) → m ≤ℤ n
  cancel m n t t0 h = le_cancel t m n t0 (rw (*ℤ_comm (pos t) m, *ℤ_comm (pos t) n) h)

pub le_pos : {m n : ℕ} → m ≤ n → pos m ≤ℤ pos n
le_pos h = omega (arith, ints)

-- ---- bounds and the range
times_top : (c : ℤ) (t : ℕ) → 0 < t → unsigned_abs c < 10 ^ 18 → c ≤ℤ (top *ℤ pos t)
times_top (pos a) t t0 h = let g = mul-le-mul_right {m = 1} {n = t} (10 ^ 18 - 1) t0 in omega (arith, ints)
times_top (negsuc a) t t0 h = omega (arith, ints)

pub below_top : (b : Bound) → IsBound b → value_of b ≤ℚ of_ℤ top
below_top b h =
    ≤ℚ_trans _ _ _ (value-rises b.coefficient (top *ℤ pos (10 ^ b.places)) b.places (times_top b.coefficient _ (one-le-pow b.places 10 (lit≤ tt)) h.digits))
    (≤ℚ_same _ _ (ap (λ n. value_of (scaled (top *ℤ pos (10 ^ b.places)) n)) (omega arith) ∙ value-shifted top 0 b.places ∙ value-whole top))

pub above_bottom : (b : Bound) → IsBound b → of_ℤ (neg_ℤ top) ≤ℚ value_of b
above_bottom b h =
    ≤ℚ_trans _ _ _ (≤ℚ_same _ _ (sym (ap (λ n. value_of (scaled (neg_ℤ top *ℤ pos (10 ^ b.places)) n)) (omega arith) ∙ value-shifted (neg_ℤ top) 0 b.places ∙ value-whole (neg_ℤ top))))
    (value-rises (neg_ℤ top *ℤ pos (10 ^ b.places)) b.coefficient b.places (times_bottom b.coefficient _ (one-le-pow b.places 10 (lit≤ tt)) h.digits))

in_range_between : (x : ℚ) (a b : Bound) → IsBound a → IsBound b → value_of a ≤ℚ x → x ≤ℚ value_of b → IsInRange x
in_range_between x a b bound_a bound_b low high = record {
  low = ≤ℚ_trans _ _ _ (above_bottom a bound_a) low;
  high = ≤ℚ_trans _ _ _ high (below_top b bound_b);
}

-- the canonical form of few digits is a bound
pub canonical_bound : (c : ℤ) (p : ℕ) → unsigned_abs c < 10 ^ 18 → p ≤ 36 → IsBound (canonical c p)
canonical_bound c p digits most =
    let reduced = IsReduced-canonical c p in
    record { digits = omega (arith, reduced.smaller); most = omega (arith, reduced.fewer) }

-- a bound is rounded to itself
pub exact_down : (x : ℚ) (c : ℤ) (p : ℕ) → x ≡ value_of (scaled c p) → unsigned_abs c < 10 ^ 18 → p ≤ 36 → down x ≡ Some (canonical c p)
exact_down x c p e digits most =
    let reduced = IsReduced-canonical c p in
    let bound = canonical_bound c p digits most in
    let same : value_of (canonical c p) ≡ x = reduced.same ∙ sym e in
    some_down x (canonical c p)
    (in_range_between x _ _ bound bound (≤ℚ_same _ _ same) (≤ℚ_same _ _ (sym same)))
    (record { bound = bound; not_above = ≤ℚ_same _ _ same; greatest = λ b _ below. ≤ℚ_trans _ _ _ below (≤ℚ_same _ _ (sym same)) })
    reduced.canonical

-- ---- the digits
pub not_below : (x : ℚ) (d p : ℕ) (lost : Bool) → IsCutOff x d p lost → value_of (scaled (pos d) p) ≤ℚ x
not_below x d p lost h = under_value (pos d) p x (le_same _ _ (sym h.first))

pub not_next : (x : ℚ) (d p : ℕ) (lost : Bool) → IsCutOff x d p lost → value_of (scaled (pos (d + 1)) p) ≤ℚ x → ⊥
not_next x d p lost h g =
    let f : pos (d + 1) ≤ℤ pos d = subst (λ z. pos (d + 1) ≤ℤ z) h.first (under_floor (pos (d + 1)) p x g) in
    omega (arith, ints)

pub not_above : (x : ℚ) (d p : ℕ) (lost : Bool) → IsCutOff x d p lost → x ≤ℚ value_of (scaled (pos (d + 1)) p)
not_above x d p lost h = by (≤ℚ_total x (value_of (scaled (pos (d + 1)) p))) where
  by : (x ≤ℚ value_of (scaled (pos (d + 1)) p)) ⊎ (value_of (scaled (pos (d + 1)) p) ≤ℚ x) → x ≤ℚ value_of (scaled (pos (d + 1)) p)
  by (inl g) = g
  by (inr g) = absurd (not_next x d p lost h g)

-- what has more than its digits is above them
pub not_all : (x : ℚ) (d p : ℕ) → IsCutOff x d p true → x ≤ℚ value_of (scaled (pos d) p) → ⊥
not_all x d p h g = true≢false (h.all.1 (≤ℚ_antisym _ _ g (not_below x d p true h)))

unfit_large : (z : ℤ) → pos (10 ^ 18) ≤ℤ z → fits_18_digits z ≡ false
unfit_large (pos a) h = le-ltb _ _ (omega (arith, ints))
unfit_large (negsuc a) h = absurd (omega (arith, ints))

unfit_low : (z : ℤ) → z ≤ℤ neg_ℤ (pos (10 ^ 18)) → fits_18_digits z ≡ false
unfit_low (pos a) h = absurd (omega (arith, ints))
unfit_low (negsuc a) h = le-ltb _ _ (omega (arith, ints))

-- ten times the digits at one more place
next_place : (x : ℚ) (m : ℤ) (p : ℕ) → value_of (scaled m p) ≤ℚ x → (m *ℤ pos 10) ≤ℤ floor_at x (p + 1)
next_place x m p h = under_floor (m *ℤ pos 10) (p + 1) x (≤ℚ_trans _ _ _ (≤ℚ_same _ _ (value-shifted m p 1)) h)

long_up : (x : ℚ) (d p : ℕ) → IsCutOff x d p true → p ≤ 36 → IsEnough d p true → IsLong x p
long_up x d p h most enough = by enough.reason where
  by : (true ≡ false) ⊎ ((36 ≤ p) ⊎ (10 ^ 17 ≤ d)) → IsLong x p
  by (inl e) = absurd (true≢false e)
  by (inr (inl e)) = long-of_36 x p (omega arith)
  by (inr (inr e)) =
      let f = next_place x (pos d) p (not_below x d p true h) in
      long-of_unfit x p (unfit_large (floor_at x (p + 1)) (omega (arith, ints)))

-- downwards, what is above 0 is cut off
pub down_cut : (x : ℚ) (d p : ℕ) → IsCutOff x d p true → d < 10 ^ 18 → p ≤ 36 → IsEnough d p true → (IsPast d p true → ⊥)
    → IsInRange x → down x ≡ Some (canonical (pos d) p)
down_cut x d p h digits most enough not_past range =
    some_down x (canonical (pos d) p) range
    (subst (λ z. IsDown x (canonical z p)) h.first
    (greatest_at x p most (subst (λ z. fits_18_digits z ≡ true) (sym h.first) (lt-ltb _ _ digits)) (long_up x d p h most enough)))
    (IsReduced-canonical (pos d) p).canonical

-- ---- the range
-- the next number of as many digits, in canonical form, is a bound but past the greatest of all
next_bound : (d p : ℕ) → d < 10 ^ 18 → p ≤ 36 → (d ≡ 10 ^ 18 - 1 → p ≡ 0 → ⊥) → IsBound (canonical (pos (d + 1)) p)
next_bound d p digits most not_past = by (cases_lt (d + 1) (10 ^ 18)) p most not_past where
  by : ((d + 1) < 10 ^ 18) ⊎ (10 ^ 18 ≤ (d + 1)) → (p : ℕ) → p ≤ 36 → (d ≡ 10 ^ 18 - 1 → p ≡ 0 → ⊥) → IsBound (canonical (pos (d + 1)) p)
  by (inl h) p most not_past = canonical_bound (pos (d + 1)) p h most
  by (inr h) zero most not_past = absurd (not_past (omega arith) refl)
  by (inr h) (suc p) most not_past =
      let e : d + 1 ≡ 10 ^ 18 = omega arith in
      subst (λ n. IsBound (canonical (pos n) (suc p))) (sym e) (canonical_bound (pos (10 ^ 17)) p (omega arith) (omega arith))

pub cut_in_range : (x : ℚ) (d p : ℕ) → IsCutOff x d p true → d < 10 ^ 18 → p ≤ 36 → (IsPast d p true → ⊥) → IsInRange x
cut_in_range x d p h digits most not_past =
    in_range_between x (canonical (pos d) p) (canonical (pos (d + 1)) p) (canonical_bound (pos d) p digits most)
    (next_bound d p digits most (λ e f. not_past (record { more = refl; whole = f; greatest = e })))
    (≤ℚ_trans _ _ _ (≤ℚ_same _ _ (IsReduced-canonical (pos d) p).same) (not_below x d p true h))
    (≤ℚ_trans _ _ _ (not_above x d p true h) (≤ℚ_same _ _ (sym (IsReduced-canonical (pos (d + 1)) p).same)))

pub past_range : (x : ℚ) (d p : ℕ) (lost : Bool) → IsCutOff x d p lost → IsPast d p lost → IsInRange x → ⊥
past_range x d p true h past range =
    not_all x d p h (≤ℚ_trans _ _ _ range.high (≤ℚ_same _ _ (sym (ap (λ n. value_of (scaled (pos n) p)) past.greatest ∙ ap (λ n. value_of (scaled top n)) past.whole ∙ value-whole top))))
past_range x d p false h past range = false≢true past.more

pub too_many_digits : (x : ℚ) (d p : ℕ) (lost : Bool) → IsCutOff x d p lost → 10 ^ (18 + p) ≤ d → IsInRange x → ⊥
too_many_digits x d p lost h many range =
    let f : (pos (10 ^ 18) *ℤ pos (10 ^ p)) ≤ℤ pos d = le_pos (subst (λ n. n ≤ d) (pow-add 10 18 p) many) in
    let g : value_of (scaled (pos (10 ^ 18)) 0) ≤ℚ value_of (scaled (pos d) p) =
    ≤ℚ_trans _ _ _ (≤ℚ_same _ _ (sym (ap (λ n. value_of (scaled (pos (10 ^ 18) *ℤ pos (10 ^ p)) n)) (omega arith) ∙ value-shifted (pos (10 ^ 18)) 0 p))) (value-rises _ _ p f) in
    let k : of_ℤ (pos (10 ^ 18)) ≤ℚ of_ℤ top =
    ≤ℚ_trans _ _ _ (≤ℚ_same _ _ (sym (value-whole (pos (10 ^ 18))))) (≤ℚ_trans _ _ _ g (≤ℚ_trans _ _ _ (not_below x d p lost h) range.high)) in
    let m = ≤ℤ-of_≤ℚ _ _ k in
    omega (arith, ints)

-- ---- downwards, what is below 0 gets one more digit
-- the digits of the negative: the floor is one below, as there are more digits
floor_negative : (x : ℚ) (d p : ℕ) → IsCutOff x d p true → floor_at (neg_ℚ x) p ≡ negsuc d
floor_negative x d p h = le_both _ _ high low where
  above : value_of (scaled (negsuc d) p) ≤ℚ neg_ℚ x
  above =
      ≤ℚ_trans _ _ _ (≤ℚ_same _ _ (ap (λ n. value_of (scaled (neg_ℤ (pos n)) p)) (sym (add-one d)) ∙ value-negated (scaled (pos (d + 1)) p)))
      (neg_ℚ-≤ℚ _ _ (not_above x d p true h))

  low : negsuc d ≤ℤ floor_at (neg_ℚ x) p
  low = under_floor (negsuc d) p (neg_ℚ x) above

  high : floor_at (neg_ℚ x) p ≤ℤ negsuc d
  high = by_lt_z (negsuc d) (floor_at (neg_ℚ x) p) (λ g. absurd (no_more (omega (arith, ints)))) (λ g. g) where
    no_more : neg_ℤ (pos d) ≤ℤ floor_at (neg_ℚ x) p → ⊥
    no_more g =
        let f : neg_ℚ (value_of (scaled (pos d) p)) ≤ℚ neg_ℚ x =
        ≤ℚ_trans _ _ _ (≤ℚ_same _ _ (sym (value-negated (scaled (pos d) p)))) (under_value (neg_ℤ (pos d)) p (neg_ℚ x) g) in
        not_all x d p h (≤ℚ_trans _ _ _ (≤ℚ_same _ _ (sym (neg_ℚ-neg_ℚ x)))
        (≤ℚ_trans _ _ _ (neg_ℚ-≤ℚ _ _ f) (≤ℚ_same _ _ (neg_ℚ-neg_ℚ (value_of (scaled (pos d) p))))))

-- the floor of the negative at one more place is as low as the digits tell
negative_next : (x : ℚ) (d p : ℕ) → IsCutOff x d p true → floor_at (neg_ℚ x) (p + 1) ≤ℤ (neg_ℤ (pos d) *ℤ pos 10)
negative_next x d p h =
    value-order (floor_at (neg_ℚ x) (p + 1)) (neg_ℤ (pos d) *ℤ pos 10) (p + 1)
    (≤ℚ_trans _ _ _ (under_value _ (p + 1) (neg_ℚ x) (≤ℤ_refl (floor_at (neg_ℚ x) (p + 1))))
    (≤ℚ_trans _ _ _ (neg_ℚ-≤ℚ _ _ (not_below x d p true h))
    (≤ℚ_same _ _ (sym (value-shifted (neg_ℤ (pos d)) p 1 ∙ value-negated (scaled (pos d) p))))))

long_down : (x : ℚ) (d p : ℕ) → IsCutOff x d p true → p ≤ 36 → IsEnough d p true → IsLong (neg_ℚ x) p
long_down x d p h most enough = by enough.reason where
  by : (true ≡ false) ⊎ ((36 ≤ p) ⊎ (10 ^ 17 ≤ d)) → IsLong (neg_ℚ x) p
  by (inl e) = absurd (true≢false e)
  by (inr (inl e)) = long-of_36 (neg_ℚ x) p (omega arith)
  by (inr (inr e)) =
      let f = negative_next x d p h in
      long-of_unfit (neg_ℚ x) p (unfit_low (floor_at (neg_ℚ x) (p + 1)) (omega (arith, ints)))

-- where the digits are eighteen nines, the next size is 1 and zeros, and one place less suffices
carry_down : (x : ℚ) (d p : ℕ) → IsCutOff x d (p + 1) true → d + 1 ≡ 10 ^ 18 → floor_at (neg_ℚ x) p ≡ neg_ℤ (pos (10 ^ 17))
carry_down x d p h e = le_both _ _ high low where
  at_next : floor_at (neg_ℚ x) (p + 1) ≡ neg_ℤ (pos (10 ^ 18))
  at_next = floor_negative x d (p + 1) h ∙ ap (λ n. neg_ℤ (pos n)) (sym (add-one d) ∙ e)

  low : neg_ℤ (pos (10 ^ 17)) ≤ℤ floor_at (neg_ℚ x) p
  low = under_floor (neg_ℤ (pos (10 ^ 17))) p (neg_ℚ x)
      (≤ℚ_trans _ _ _ (≤ℚ_same _ _ (sym (value-shifted (neg_ℤ (pos (10 ^ 17))) p 1)))
      (under_value (neg_ℤ (pos (10 ^ 18))) (p + 1) (neg_ℚ x) (le_same _ _ (sym at_next))))

  high : floor_at (neg_ℚ x) p ≤ℤ neg_ℤ (pos (10 ^ 17))
  high =
      let f = next_place (neg_ℚ x) (floor_at (neg_ℚ x) p) p (under_value _ p (neg_ℚ x) (≤ℤ_refl (floor_at (neg_ℚ x) p))) in
      let g : (floor_at (neg_ℚ x) p *ℤ pos 10) ≤ℤ neg_ℤ (pos (10 ^ 18)) = subst (λ z. (floor_at (neg_ℚ x) p *ℤ pos 10) ≤ℤ z) at_next f in
      tenth (floor_at (neg_ℚ x) p) g where
        tenth : (z : ℤ) → (z *ℤ pos 10) ≤ℤ neg_ℤ (pos (10 ^ 18)) → z ≤ℤ neg_ℤ (pos (10 ^ 17))
        tenth (pos a) g = absurd (omega (arith, ints))
        tenth (negsuc a) g = omega (arith, ints)

fits_negsuc : (d : ℕ) → d + 1 < 10 ^ 18 → fits_18_digits (negsuc d) ≡ true
fits_negsuc d h = lt-ltb _ _ (omega arith)

pub down_negative : (x : ℚ) (d p : ℕ) → IsCutOff x d p true → d < 10 ^ 18 → p ≤ 36 → IsEnough d p true → (IsPast d p true → ⊥)
    → down (neg_ℚ x) ≡ Some (canonical (negsuc d) p)
down_negative x d p h digits most enough not_past = by (cases_lt (d + 1) (10 ^ 18)) p h most enough not_past where
  by : ((d + 1) < 10 ^ 18) ⊎ (10 ^ 18 ≤ (d + 1)) → (p : ℕ) → IsCutOff x d p true → p ≤ 36 → IsEnough d p true → (IsPast d p true → ⊥)
      → down (neg_ℚ x) ≡ Some (canonical (negsuc d) p)
  by (inl few) p h most enough not_past =
      let e = floor_negative x d p h in
      some_down (neg_ℚ x) (canonical (negsuc d) p) (IsInRange-neg_ℚ x (cut_in_range x d p h digits most not_past))
      (subst (λ z. IsDown (neg_ℚ x) (canonical z p)) e
      (greatest_at (neg_ℚ x) p most (subst (λ z. fits_18_digits z ≡ true) (sym e) (fits_negsuc d few)) (long_down x d p h most enough)))
      (IsReduced-canonical (negsuc d) p).canonical
  by (inr many) zero h most enough not_past = absurd (not_past (record { more = refl; whole = refl; greatest = omega arith }))
  by (inr many) (suc p) h most enough not_past =
      let one : d + 1 ≡ 10 ^ 18 = omega arith in
      let k : IsCutOff x d (p + 1) true = subst (λ n. IsCutOff x d n true) (sym (add-one p)) h in
      let e = carry_down x d p k one in
      let unfit : fits_18_digits (floor_at (neg_ℚ x) (p + 1)) ≡ false =
      subst (λ z. fits_18_digits z ≡ false) (sym (floor_negative x d (p + 1) k)) (le-ltb _ _ (omega arith)) in
      let same : canonical (neg_ℤ (pos (10 ^ 17))) p ≡ canonical (negsuc d) (suc p) =
      ap (λ n. canonical (neg_ℤ (pos n)) (suc p)) (sym one ∙ add-one d) in
      subst (λ b. down (neg_ℚ x) ≡ Some b) same
      (some_down (neg_ℚ x) (canonical (neg_ℤ (pos (10 ^ 17))) p) (IsInRange-neg_ℚ x (cut_in_range x d (suc p) h digits most not_past))
      (subst (λ z. IsDown (neg_ℚ x) (canonical z p)) e
      (greatest_at (neg_ℚ x) p (omega arith) (subst (λ z. fits_18_digits z ≡ true) (sym e) refl) (long-of_unfit (neg_ℚ x) p unfit)))
      (IsReduced-canonical (neg_ℤ (pos (10 ^ 17))) p).canonical)

-- ---- both directions and signs
pub negated-canonical : (c : ℤ) (p : ℕ) → negated (canonical c p) ≡ canonical (neg_ℤ c) p
negated-canonical c p =
    let reduced = IsReduced-canonical c p in
    let opposite = IsReduced-canonical (neg_ℤ c) p in
    one_canonical _ _ (IsCanonical-negated _ reduced.canonical) opposite.canonical
    (value-negated (canonical c p) ∙ ap neg_ℚ reduced.same ∙ sym (value-negated (scaled c p)) ∙ sym opposite.same)

up_from : (y : ℚ) (c : ℤ) (p : ℕ) → down (neg_ℚ y) ≡ Some (canonical c p) → up y ≡ Some (canonical (neg_ℤ c) p)
unfolding up
up_from y c p e = ap (option_map negated) e ∙ ap Some (negated-canonical c p)

-- what is to be shown of the four: x and its negative, each rounded down
record IsDownBoth (x : ℚ) (d p : ℕ) (lost : Bool) : Type 0 where
  above : down x ≡ Some (canonical (pos d) p)
  below : down (neg_ℚ x) ≡ Some (canonical (neg_ℤ (pos (d + growth true lost Down))) p)

down_both : (x : ℚ) (d p : ℕ) (lost : Bool) → IsCutOff x d p lost → d < 10 ^ 18 → p ≤ 36 → IsEnough d p lost → (IsPast d p lost → ⊥)
    → IsDownBoth x d p lost
down_both x d p true h digits most enough not_past = record {
  above = down_cut x d p h digits most enough not_past (cut_in_range x d p h digits most not_past);
  below = down_negative x d p h digits most enough not_past ∙ ap (λ n. Some (canonical (neg_ℤ (pos n)) p)) (sym (add-one d));
}
down_both x d p false h digits most enough not_past =
    let e = h.all.0 refl in
    record {
      above = exact_down x (pos d) p e digits most;
      below = exact_down (neg_ℚ x) (neg_ℤ (pos d)) p (ap neg_ℚ e ∙ sym (value-negated (scaled (pos d) p)))
          (subst (λ n. n < 10 ^ 18) (sym (size_of_signed true d)) digits) most
          ∙ ap (λ n. Some (canonical (neg_ℤ (pos n)) p)) (sym (add-zero d));
    }

up_negative : (x : ℚ) (d p : ℕ) → down x ≡ Some (canonical (pos d) p) → up (neg_ℚ x) ≡ Some (canonical (neg_ℤ (pos (d + 0))) p)
up_negative x d p e =
    up_from (neg_ℚ x) (pos d) p (ap down (neg_ℚ-neg_ℚ x) ∙ e) ∙ ap (λ n. Some (canonical (neg_ℤ (pos n)) p)) (sym (add-zero d))

both_directions : (x : ℚ) (d p : ℕ) (lost negative : Bool) (direction : Direction) → IsDownBoth x d p lost
    → rounded direction (signed_ℚ negative x) ≡ Some (canonical (signed negative (d + growth negative lost direction)) p)
both_directions x d p true false Down h = h.above ∙ ap (λ n. Some (canonical (pos n) p)) (sym (add-zero d))
both_directions x d p false false Down h = h.above ∙ ap (λ n. Some (canonical (pos n) p)) (sym (add-zero d))
both_directions x d p lost true Down h = h.below
both_directions x d p true false Up h = up_from x _ p h.below ∙ ap (λ z. Some (canonical z p)) (neg-neg (pos (d + 1)))
both_directions x d p false false Up h = up_from x _ p h.below ∙ ap (λ z. Some (canonical z p)) (neg-neg (pos (d + 0)))
both_directions x d p true true Up h = up_negative x d p h.above
both_directions x d p false true Up h = up_negative x d p h.above

-- the bound in a direction is that of the digits, one more away from 0 where there are more digits
pub rounded_is : (x : ℚ) (d p : ℕ) (lost negative : Bool) (direction : Direction) → IsCutOff x d p lost → d < 10 ^ 18 → p ≤ 36
    → IsEnough d p lost → (IsPast d p lost → ⊥)
    → rounded direction (signed_ℚ negative x) ≡ Some (canonical (signed negative (d + growth negative lost direction)) p)
rounded_is x d p lost negative direction h digits most enough not_past =
    both_directions x d p lost negative direction (down_both x d p lost h digits most enough not_past)

pub rounded_none : (x : ℚ) (negative : Bool) (direction : Direction) → (IsInRange x → ⊥) → rounded direction (signed_ℚ negative x) ≡ None
rounded_none x false Down h = none_down x h
rounded_none x false Up h = none_up x h
rounded_none x true Down h = none_down (neg_ℚ x) (λ range. h (subst IsInRange (neg_ℚ-neg_ℚ x) (IsInRange-neg_ℚ (neg_ℚ x) range)))
rounded_none x true Up h = none_up (neg_ℚ x) (λ range. h (subst IsInRange (neg_ℚ-neg_ℚ x) (IsInRange-neg_ℚ (neg_ℚ x) range)))

rounded_bound : (x : ℚ) (direction : Direction) (b : Bound) → rounded direction x ≡ Some b → IsBound b
rounded_bound x Down b e = (down_some x b e).1.bound
rounded_bound x Up b e = (up_some x b e).1.bound

-- an answer that is there exactly for a bound is what rounding gives
pub answer_is : (x : ℚ) (direction : Direction) (r : Option Bound) (b : Bound) → IsSome r ↔ IsBound b → IfSome r (λ d. d ≡ b)
    → rounded direction x ≡ Some b → r ≡ rounded direction x
answer_is x direction None b valid value e = absurd (false≢true (valid.1 (rounded_bound x direction b e)))
answer_is x direction (Some d) b valid value e = ap Some value ∙ sym e

-- ---- fewer digits
pub floor_at-value : (c : ℤ) (p : ℕ) → floor_at (value_of (scaled c p)) p ≡ c
floor_at-value c p =
    le_both _ _ (value-order _ _ p (under_value _ p (value_of (scaled c p)) (≤ℤ_refl (floor_at (value_of (scaled c p)) p))))
    (under_floor c p (value_of (scaled c p)) (≤ℚ_refl (value_of (scaled c p))))

pub pos_same : {m n : ℕ} → pos m ≡ pos n → m ≡ n
pos_same e = cc

pub below_quotient : (m : ℤ) (n d t r : ℕ) → (m *ℤ pos t) ≤ℤ pos n → n ≡ d * t + r → r < t → m ≤ℤ pos d
below_quotient (pos a) n d t r h e b = by (cases_lt d a) where
  by : (d < a) ⊎ (a ≤ d) → pos a ≤ℤ pos d
  by (inr g) = omega (arith, ints)
  by (inl g) = let f : suc d * t ≤ a * t = mul-le-mul_right t g in absurd (omega (arith, ints))
below_quotient (negsuc a) n d t r h e b = omega (arith, ints)

-- digits left out at the end: the others are still those of x
pub part_cut : (x : ℚ) (n p k : ℕ) (lost : Bool) (d r : ℕ) (more : Bool) → IsCutOff x n (p + k) lost → n ≡ d * 10 ^ k + r → r < 10 ^ k
    → (more ≡ false) ↔ ((lost ≡ false) × (r ≡ 0)) → IsCutOff x d p more
part_cut x n p k lost d r more h split below left = record {
  first = le_both _ _ high low;
  all = (λ e. all (left.0 e), λ e. left.1 (none e));
} where
  shifted : value_of (scaled (pos d *ℤ pos (10 ^ k)) (p + k)) ≡ value_of (scaled (pos d) p)
  shifted = value-shifted (pos d) p k

  low : pos d ≤ℤ floor_at x p
  low = under_floor (pos d) p x (≤ℚ_trans _ _ _ (≤ℚ_same _ _ (sym shifted))
      (≤ℚ_trans _ _ _ (value-rises (pos d *ℤ pos (10 ^ k)) (pos n) (p + k) (le_pos (at_most n d (10 ^ k) r split))) (not_below x n (p + k) lost h))) where
        at_most : (n d t r : ℕ) → n ≡ d * t + r → d * t ≤ n
        at_most n d t r e = omega arith

  high : floor_at x p ≤ℤ pos d
  high =
      let m = floor_at x p in
      let g : (m *ℤ pos (10 ^ k)) ≤ℤ floor_at x (p + k) =
      under_floor (m *ℤ pos (10 ^ k)) (p + k) x (≤ℚ_trans _ _ _ (≤ℚ_same _ _ (value-shifted m p k)) (under_value m p x (≤ℤ_refl m))) in
      below_quotient m n d (10 ^ k) r (subst (λ z. (m *ℤ pos (10 ^ k)) ≤ℤ z) h.first g) split below

  all : (lost ≡ false) × (r ≡ 0) → x ≡ value_of (scaled (pos d) p)
  all e = h.all.0 e.0 ∙ ap (λ n. value_of (scaled (pos n) (p + k))) (whole n d (10 ^ k) r split e.1) ∙ shifted where
    whole : (n d t r : ℕ) → n ≡ d * t + r → r ≡ 0 → n ≡ d * t
    whole n d t r e z = omega arith

  none : x ≡ value_of (scaled (pos d) p) → (lost ≡ false) × (r ≡ 0)
  none e =
      let g : x ≡ value_of (scaled (pos (d * 10 ^ k)) (p + k)) = e ∙ sym shifted in
      let f : n ≡ d * 10 ^ k =
      pos_same (sym h.first ∙ ap (λ y. floor_at y (p + k)) g ∙ floor_at-value (pos (d * 10 ^ k)) (p + k)) in
      (h.all.1 (g ∙ ap (λ n. value_of (scaled (pos n) (p + k))) (sym f)), no_rest n d (10 ^ k) r split f) where
        no_rest : (n d t r : ℕ) → n ≡ d * t + r → n ≡ d * t → r ≡ 0
        no_rest n d t r e k = omega arith

pub first_cut : (x : ℚ) (digits places : ℕ) (lost : Bool) (d p : ℕ) (more : Bool) → IsCutOff x digits places lost → IsFirst digits places lost d p more
    → IsCutOff x d p more
first_cut x digits places lost d p more h f =
    part_cut x digits p f.count lost d f.rest more (subst (λ n. IsCutOff x digits n lost) f.at_places h) f.split f.below f.all

-- a decimal number has no more than its digits
pub exact_cut : (d p : ℕ) → IsCutOff (value_of (scaled (pos d) p)) d p false
exact_cut d p = record { first = floor_at-value (pos d) p; all = (λ _. refl, λ _. refl) }

pub exact_cut_at : (d p q : ℕ) → q ≡ p → IsCutOff (value_of (scaled (pos d) p)) d q false
exact_cut_at d p q e = subst (λ n. IsCutOff (value_of (scaled (pos d) p)) d n false) (sym e) (exact_cut d p)

pub value-signed : (negative : Bool) (d p : ℕ) → signed_ℚ negative (value_of (scaled (pos d) p)) ≡ value_of (scaled (signed negative d) p)
value-signed true d p = sym (value-negated (scaled (pos d) p))
value-signed false d p = refl

pub first_enough : (digits places : ℕ) (lost : Bool) (d p : ℕ) (more : Bool) → IsFirst digits places lost d p more → IsEnough digits places lost
    → IsEnough d p more
first_enough digits places lost d p more f enough = by f.as_many enough.reason where
  by : (f.count ≡ 0) ⊎ ((36 ≤ p) ⊎ (10 ^ 17 ≤ d)) → (lost ≡ false) ⊎ ((36 ≤ places) ⊎ (10 ^ 17 ≤ digits)) → IsEnough d p more
  by (inr e) g = record { reason = inr e }
  by (inl e) (inl g) = record { reason = inl (f.all.1 (g, none_cut f.rest f.count f.below e)) } where
    none_cut : (r k : ℕ) → r < 10 ^ k → k ≡ 0 → r ≡ 0
    none_cut r k b e = let c : r < 1 = subst (λ n. r < 10 ^ n) e b in omega arith
  by (inl e) (inr (inl g)) = record { reason = inr (inl (omega (arith, f.at_places))) }
  by (inl e) (inr (inr g)) = record { reason = inr (inr (same digits d f.count f.rest f.split f.below e g)) } where
    same : (n d k r : ℕ) → n ≡ d * 10 ^ k + r → r < 10 ^ k → k ≡ 0 → 10 ^ 17 ≤ n → 10 ^ 17 ≤ d
    same n d k r s b e g =
        let c : r < 1 = subst (λ m. r < 10 ^ m) e b in
        let f : n ≡ d * 1 + r = subst (λ m. n ≡ d * 10 ^ m + r) e s in
        omega arith

-- a number that has all its digits, where a bound holds them
no_growth : (negative : Bool) (direction : Direction) → growth negative false direction ≡ 0
no_growth true Down = refl
no_growth true Up = refl
no_growth false Down = refl
no_growth false Up = refl

pub rounded_exact : (x : ℚ) (d p : ℕ) (lost negative : Bool) (direction : Direction) → lost ≡ false → IsCutOff x d p lost → d < 10 ^ 18 → p ≤ 36
    → Some (canonical (signed negative d) p) ≡ rounded direction (signed_ℚ negative x)
rounded_exact x d p true negative direction e h digits most = absurd (true≢false e)
rounded_exact x d p false negative direction e h digits most =
    let same : d ≡ d + growth negative false direction = sym (add-zero d) ∙ ap (λ n. d + n) (sym (no_growth negative direction)) in
    ap (λ n. Some (canonical (signed negative n) p)) same
    ∙ sym (rounded_is x d p false negative direction h digits most (record { reason = inl refl }) (λ past. false≢true past.more))
