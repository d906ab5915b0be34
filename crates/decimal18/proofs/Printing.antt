-- The last digits of a number, the first of them first.
use Rattle.std.specs.Prelude.{◌≡◌, ℕ, zero, suc, ◌+◌, ◌-◌, ◌*◌, ◌/◌, ◌%◌, ◌^◌, ◌<◌, ◌≤◌, List, [], ◌∷◌, ◌++◌, length, codes, decimal, refl}
use Rattle.std.proofs.Common.{sym, ap, subst, ◌∙◌, arith, append_assoc, add-one, replicate, take, drop, length-append}
use mathlib.Core.List.{append-nil}
use Rattle.std.proofs.Math.Dec.{lit≤}
use Rattle.std.proofs.Math.Seq.{take-append_seam, drop-append_seam}
use Rattle.std.proofs.lemmas.Fmt.{decimal_step, decimal_digit}
use Rattle.std.proofs.Math.Nat.{pow-suc, one-le-pow, div-div-eq-div-mul, div-one, div-eq_of_lt, div-eq_of_lt-le}
use Rattle.decimal18.specs.Text.{last_digits, after_point}
use Rattle.decimal18.proofs.Counting.{powers_rise}

pub first_digit : (k n : ℕ) → last_digits (suc k) n ≡ (48 + n / 10 ^ k % 10) ∷ last_digits k n
first_digit zero n = ap (λ m. (48 + m % 10) ∷ []) (sym (div-one n))
first_digit (suc k) n =
    ap (λ s. s ++ (48 + n % 10) ∷ []) (first_digit k (n / 10))
    ∙ ap (λ m. (48 + m % 10) ∷ (last_digits k (n / 10) ++ (48 + n % 10) ∷ [])) (div-div-eq-div-mul n 10 (10 ^ k) ∙ ap (λ t. n / t) (power k)) where
      power : (k : ℕ) → 10 * 10 ^ k ≡ 10 ^ suc k
      power k = sym (pow-suc 10 k ∙ turned (10 ^ k)) where
        turned : (t : ℕ) → t * 10 ≡ 10 * t
        turned t = omega arith

-- ten times a power
ten_times : (p : ℕ) → 10 * 10 ^ p ≡ 10 ^ suc p
ten_times p = sym (pow-suc 10 p ∙ turned (10 ^ p)) where
  turned : (t : ℕ) → t * 10 ≡ 10 * t
  turned t = omega arith

-- the digits of a number are those of its whole part, then the last ones
pub digits_split : (p n : ℕ) → 10 ^ p ≤ n → n < 2 ^ 64 → decimal n ≡ decimal (n / 10 ^ p) ++ last_digits p n
digits_split zero n h small = ap decimal (sym (div-one n)) ∙ sym (append-nil (decimal (n / 1)))
digits_split (suc p) n h small =
    let t = 10 ^ p in
    let e : 10 * t ≡ 10 ^ suc p = ten_times p in
    let t0 : 0 < t = one-le-pow p 10 (lit≤ tt) in
    let f : 10 * t ≤ n = subst (λ i. i ≤ n) (sym e) h in
    let g : t ≤ n / 10 = omega arith in
    decimal_step n (omega arith) small
    ∙ ap (λ s. s ++ (48 + n % 10) ∷ []) (digits_split p (n / 10) g (omega arith))
    ∙ append_assoc (decimal (n / 10 / t)) (last_digits p (n / 10)) ((48 + n % 10) ∷ [])
    ∙ ap (λ m. decimal m ++ (last_digits p (n / 10) ++ (48 + n % 10) ∷ [])) (div-div-eq-div-mul n 10 t ∙ ap (λ i. n / i) e)

-- what stands before them does not count
last_same : (p n : ℕ) → last_digits p (10 ^ p + n) ≡ last_digits p n
last_same zero n = refl
last_same (suc p) n =
    let t = 10 ^ p in
    let e : 10 * t ≡ 10 ^ suc p = ten_times p in
    let a : (10 ^ suc p + n) / 10 ≡ t + n / 10 = ap (λ i. (i + n) / 10) (sym e) ∙ front t n in
    let b : (10 ^ suc p + n) % 10 ≡ n % 10 = ap (λ i. (i + n) % 10) (sym e) ∙ end t n in
    ap (λ m. last_digits p m ++ (48 + (10 ^ suc p + n) % 10) ∷ []) a ∙ ap (λ d. last_digits p (t + n / 10) ++ (48 + d) ∷ []) b
    ∙ ap (λ s. s ++ (48 + n % 10) ∷ []) (last_same p (n / 10)) where
      front : (t n : ℕ) → (10 * t + n) / 10 ≡ t + n / 10
      front t n = omega arith

      end : (t n : ℕ) → (10 * t + n) % 10 ≡ n % 10
      end t n = omega arith

pub behind_one : (p n t : ℕ) → n < 10 ^ p → p ≤ 18 → t ≡ 10 ^ p → decimal (t + n) ≡ 49 ∷ last_digits p n
behind_one p n t h most e =
    let t0 : 0 < 10 ^ p = one-le-pow p 10 (lit≤ tt) in
    let f : 10 ^ p ≤ 10 ^ 18 = powers_rise p 18 most in
    let one : (10 ^ p + n) / 10 ^ p ≡ 1 = div-eq_of_lt-le {k = 1} (10 ^ p) {m = 10 ^ p + n} (omega arith) (omega arith) in
    ap (λ i. decimal (i + n)) e
    ∙ digits_split p (10 ^ p + n) (omega arith) (omega arith)
    ∙ ap (λ m. decimal m ++ last_digits p (10 ^ p + n)) one
    ∙ ap (λ s. s ++ last_digits p (10 ^ p + n)) (decimal_digit 1 (omega arith))
    ∙ ap (λ s. 49 ∷ s) (last_same p n)

-- zeros stand before a smaller number
pub zeros_first : (k p n : ℕ) → n < 10 ^ p → last_digits (k + p) n ≡ replicate k 48 ++ last_digits p n
zeros_first zero p n h = let e : 0 + p ≡ p = omega arith in ap (λ i. last_digits i n) e
zeros_first (suc k) p n h =
    let f : 10 ^ p ≤ 10 ^ (k + p) = powers_rise p (k + p) (omega arith) in
    let e : suc k + p ≡ suc (k + p) = omega arith in
    ap (λ i. last_digits i n) e ∙ first_digit (k + p) n
    ∙ ap (λ d. (48 + d % 10) ∷ last_digits (k + p) n) (div-eq_of_lt {n = n} {m = 10 ^ (k + p)} (omega arith))
    ∙ ap (λ s. 48 ∷ s) (zeros_first k p n h)

-- the point, where there are digits after it
pub point_first : (p n : ℕ) → 0 < p → after_point p n ≡ codes "." ++ last_digits p n
point_first zero n h = absurd (omega arith)
point_first (suc p) n h = refl

-- the digit that is put, and the digits after it
pub one_more : (text goal : List ℕ) (k n : ℕ) → text ++ last_digits (k + 1) n ≡ goal
    → (text ++ (48 + n / 10 ^ k % 10) ∷ []) ++ last_digits k n ≡ goal
one_more text goal k n h = append_assoc text ((48 + n / 10 ^ k % 10) ∷ []) (last_digits k n)
    ∙ ap (λ s. text ++ s) (sym (first_digit k n)) ∙ ap (λ m. text ++ last_digits m n) (sym (add-one k)) ∙ h

-- ---- parts that are put one after the other
pub put_around_point : (text one two front back a : List ℕ) (p n : ℕ) → one ≡ text ++ front → two ≡ one ++ (46 ∷ []) → front ≡ a → back ≡ last_digits p n → 0 < p
    → two ++ back ≡ text ++ a ++ after_point p n
put_around_point text one two front back a p n e1 e2 ef eb p0 =
    ap (λ t. t ++ back) (e2 ∙ ap (λ t. t ++ (46 ∷ [])) (e1 ∙ ap (λ f. text ++ f) ef)) ∙ ap (λ b. ((text ++ a) ++ (46 ∷ [])) ++ b) eb
    ∙ append_assoc (text ++ a) (46 ∷ []) (last_digits p n) ∙ ap (λ s. (text ++ a) ++ s) (sym (point_first p n p0))

pub put_behind_point : (text one : List ℕ) (p n : ℕ) → one ≡ text ++ codes "0." → n < 10 ^ p → 0 < p
    → one ++ last_digits p n ≡ text ++ decimal (n / 10 ^ p) ++ after_point p n
put_behind_point text one p n e h p0 =
    ap (λ t. t ++ last_digits p n) e ∙ append_assoc text (codes "0.") (last_digits p n)
    ∙ sym (append_assoc text (48 ∷ []) (46 ∷ last_digits p n))
    ∙ ap (λ s. (text ++ (48 ∷ [])) ++ s) (sym (point_first p n p0))
    ∙ ap (λ s. (text ++ s) ++ after_point p n) (sym (ap decimal (div-eq_of_lt {n = n} {m = 10 ^ p} h) ∙ decimal_digit 0 (omega arith)))

pub put_zeros : (text one zeros : List ℕ) (k p n : ℕ) → one ≡ text ++ zeros → zeros ≡ replicate k 48 → n < 10 ^ 18 → k + 18 ≡ p
    → one ++ last_digits 18 n ≡ text ++ last_digits p n
put_zeros text one zeros k p n e ez h ep =
    ap (λ t. t ++ last_digits 18 n) (e ∙ ap (λ z. text ++ z) ez) ∙ append_assoc text (replicate k 48) (last_digits 18 n)
    ∙ ap (λ s. text ++ s) (sym (zeros_first k 18 n h)) ∙ ap (λ i. text ++ last_digits i n) ep

-- a list of two parts, of which the second has so many items
pub parts_of : (ds a b : List ℕ) (p : ℕ) → ds ≡ a ++ b → length b ≡ p → (take (length ds - p) ds ≡ a) × (drop (length ds - p) ds ≡ b)
parts_of ds a b p e h =
    let n : length ds - p ≡ length a = omega (arith, ap length e, length-append a b) in
    (ap (λ k. take k ds) n ∙ ap (λ s. take (length a) s) e ∙ take-append_seam a b, ap (λ k. drop k ds) n ∙ ap (λ s. drop (length a) s) e ∙ drop-append_seam a b)
