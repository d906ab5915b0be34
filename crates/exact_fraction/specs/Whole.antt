-- Lemmas on whole numbers with a sign, by which each identity and each inequality between polynomials
-- of them is one line. A number is read as a difference of two natural numbers, `push` carries sums,
-- products and negations into the two, and `omega` compares them.
use Rattle.std.specs.Prelude.{◌≡◌, ℕ, ◌+◌, ◌*◌, ◌<◌, ◌≤◌, suc, ℤ, pos, negsuc, ◌+ℤ◌, ◌*ℤ◌, ◌≤ℤ◌, neg_ℤ}
use Rattle.std.proofs.Common.{ap, sym, arith}
use Rattle.std.proofs.Math.Nat.{mul-le-mul_right, le_of_mul-le-mul_right}
use Rattle.std.proofs.lemmas.Int.{ints}
use borrow.Author.Differences.{up, down}

-- p - m. Opaque, so that no tactic looks inside
pub diff : ℕ → ℕ → ℤ
diff p m = pos p +ℤ neg_ℤ (pos m)

pub diff_of : (z : ℤ) → diff (up z) (down z) ≡ z
unfolding diff
diff_of z = omega (arith, ints)

pub diff-+ : (p m q n : ℕ) → (diff p m +ℤ diff q n) ≡ diff (p + q) (m + n)
unfolding diff
diff-+ p m q n = omega (arith, ints)

pub diff-neg : (p m : ℕ) → neg_ℤ (diff p m) ≡ diff m p
unfolding diff
diff-neg p m = omega (arith, ints)

-- the two parts of a difference, as one equation
parts : (p m : ℕ) → up (diff p m) + m ≡ down (diff p m) + p
unfolding diff
parts p m = omega (arith, ints)

pub diff-* : (p m q n : ℕ) → (diff p m *ℤ diff q n) ≡ diff (p * q + m * n) (p * n + m * q)
diff-* p m q n =
    let e = parts p m in
    let f = parts q n in
    let g = parts (p * q + m * n) (p * n + m * q) in
    let u = up (diff q n) in
    let d = down (diff q n) in
    omega (arith, ints, ap (λ t. t * u) e, ap (λ t. t * d) e, ap (λ t. t * p) f, ap (λ t. t * m) f)

pub diff-pos : (p : ℕ) → pos p ≡ diff p 0
unfolding diff
diff-pos p = omega (arith, ints)

pub diff-neg_pos : (p : ℕ) → neg_ℤ (pos p) ≡ diff 0 p
unfolding diff
diff-neg_pos p = omega (arith, ints)

pub diff-negsuc : (p : ℕ) → negsuc p ≡ diff 0 (suc p)
unfolding diff
diff-negsuc p = omega (arith, ints)

pub diff_same : (p m q n : ℕ) → p + n ≡ q + m → diff p m ≡ diff q n
unfolding diff
diff_same p m q n e = omega (arith, ints)

pub same_diff : (p m q n : ℕ) → diff p m ≡ diff q n → p + n ≡ q + m
unfolding diff
same_diff p m q n e = omega (arith, ints)

pub diff_le : (p m q n : ℕ) → p + n ≤ q + m → diff p m ≤ℤ diff q n
unfolding diff
diff_le p m q n e = omega (arith, ints)

pub le_diff : (p m q n : ℕ) → diff p m ≤ℤ diff q n → p + n ≤ q + m
unfolding diff
le_diff p m q n e = omega (arith, ints)

pub ruleset push = (diff-neg_pos, diff-negsuc, diff-+, diff-neg, diff-*, diff-pos)

-- An equation follows from an equation times k, and an inequality from one or two times k: the
-- remaining equation is an identity, which `push` proves.
pub from_multiple : (k a b l r : ℤ) → a ≡ b → (l +ℤ (k *ℤ b)) ≡ (r +ℤ (k *ℤ a)) → l ≡ r
from_multiple k a b l r e h = omega (arith, ints, ap (λ t. k *ℤ t) e)

scaled_diff : (k p m q n : ℕ) → p + n ≤ q + m → (pos k *ℤ diff p m) ≤ℤ (pos k *ℤ diff q n)
scaled_diff k p m q n h =
    let g : (p + n) * k ≤ (q + m) * k = mul-le-mul_right k h in
    simp push (diff_le _ _ _ _ (omega arith))

pub scaled_le : (k : ℕ) (a b : ℤ) → a ≤ℤ b → (pos k *ℤ a) ≤ℤ (pos k *ℤ b)
scaled_le k a b h =
    rw (← diff_of a, ← diff_of b) (scaled_diff k _ _ _ _ (le_diff _ _ _ _ (rw (← diff_of a, ← diff_of b) at h)))

pub le_from : (k : ℕ) (a b l r : ℤ) → a ≤ℤ b → (l +ℤ (pos k *ℤ b)) ≡ (r +ℤ (pos k *ℤ a)) → l ≤ℤ r
le_from k a b l r e h = omega (arith, ints, scaled_le k a b e)

pub le_from_two : (k j : ℕ) (a b c d l r : ℤ) → a ≤ℤ b → c ≤ℤ d
    → ((l +ℤ (pos k *ℤ b)) +ℤ (pos j *ℤ d)) ≡ ((r +ℤ (pos k *ℤ a)) +ℤ (pos j *ℤ c)) → l ≤ℤ r
le_from_two k j a b c d l r e f h = omega (arith, ints, scaled_le k a b e, scaled_le j c d f)

cancel_diff : (k p m q n : ℕ) → 0 < k → (pos k *ℤ diff p m) ≤ℤ (pos k *ℤ diff q n) → p + n ≤ q + m
cancel_diff k p m q n k0 h =
    let g : (pos k *ℤ diff p m) ≤ℤ (pos k *ℤ diff q n) = h in
    let f = le_diff _ _ _ _ (simp push at g) in
    le_of_mul-le-mul_right {m = p + n} {n = q + m} {k = k} (omega (arith, f)) k0

pub le_cancel : (k : ℕ) (a b : ℤ) → 0 < k → (pos k *ℤ a) ≤ℤ (pos k *ℤ b) → a ≤ℤ b
le_cancel k a b k0 h =
    rw (← diff_of a, ← diff_of b) (diff_le _ _ _ _ (cancel_diff k _ _ _ _ k0 (rw (← diff_of a, ← diff_of b) at h)))

pub le_both : (a b : ℤ) → a ≤ℤ b → b ≤ℤ a → a ≡ b
le_both a b h k = omega (arith, ints)

pub le_same : (a b : ℤ) → a ≡ b → a ≤ℤ b
le_same a b h = omega (arith, ints)

pub same_cancel : (k : ℕ) (a b : ℤ) → 0 < k → (pos k *ℤ a) ≡ (pos k *ℤ b) → a ≡ b
same_cancel k a b k0 h =
    le_both a b (le_cancel k a b k0 (le_same _ _ h)) (le_cancel k b a k0 (le_same _ _ (sym h)))

pub same_from_two : (k j a b c d l r : ℤ) → a ≡ b → c ≡ d
    → ((l +ℤ (k *ℤ b)) +ℤ (j *ℤ d)) ≡ ((r +ℤ (k *ℤ a)) +ℤ (j *ℤ c)) → l ≡ r
same_from_two k j a b c d l r e f h = omega (arith, ints, ap (λ t. k *ℤ t) e, ap (λ t. j *ℤ t) f)
