-- Lemmas on fractions: equality is an equivalence, the order is total, sums, products and negatives
-- respect equality, and sums the order. Each is an identity or an inequality of whole numbers, stated
-- first over the fractions' parts.
use Rattle.std.specs.Prelude.{◌≡◌, ℕ, ◌+◌, ◌*◌, ◌<◌, ◌≤◌, ℤ, pos, negsuc, ◌+ℤ◌, ◌*ℤ◌, ◌≤ℤ◌, neg_ℤ, ◌⊎◌, refl, Bool, true, false}
use Rattle.std.proofs.Common.{sym, arith, inl, inr}
use Rattle.std.proofs.lemmas.Int.{ints}
use Rattle.std.proofs.lemmas.Bool.{cases_lt}
use borrow.Author.Differences.{up, down}
use Rattle.std.specs.Bool.{passes, one_answer}
use lib.Dec.{T}
use lib.IntN.{ℤ_set}
use std.Quotient.{IsEquivRel}
use Rattle.exact_fraction.specs.Fraction.{Fraction, ◌≈◌, ◌≼◌, ◌⊕◌, ◌⊗◌, negated, is_at_most}
use Rattle.exact_fraction.specs.Whole.{diff_of, diff_same, push, from_multiple, same_from_two, same_cancel, le_from, le_from_two, le_cancel, le_both, le_same}

-- ---- equality
same_trans : (a b c : ℤ) (k m n : ℕ) → 0 < m → (a *ℤ pos m) ≡ (b *ℤ pos k) → (b *ℤ pos n) ≡ (c *ℤ pos m)
    → (a *ℤ pos n) ≡ (c *ℤ pos k)
same_trans a b c k m n m0 h j =
    same_cancel m _ _ m0 (same_from_two (pos n) (pos k) _ _ _ _ _ _ h j
    (rw (← diff_of a, ← diff_of b, ← diff_of c) (simp push (diff_same _ _ _ _ (omega arith)))))

pub ≈_prop : (q r : Fraction) → IsProp (q ≈ r)
≈_prop q r = hlevel ℤ_set

pub ≈_refl : (q : Fraction) → q ≈ q
≈_refl q = record { same = refl }

pub ≈_sym : (q r : Fraction) → q ≈ r → r ≈ q
≈_sym q r h = record { same = sym h.same }

pub ≈_trans : (q r s : Fraction) → q ≈ r → r ≈ s → q ≈ s
≈_trans q r s h j = record { same = same_trans q.num r.num s.num _ _ _ r.positive h.same j.same }

pub ≈-IsEquivRel : IsEquivRel ◌≈◌
≈-IsEquivRel = record { reflexive = ≈_refl; symmetric = ≈_sym; transitive = ≈_trans }

-- ---- order
at_most_trans : (a b c : ℤ) (k m n : ℕ) → 0 < m → (a *ℤ pos m) ≤ℤ (b *ℤ pos k) → (b *ℤ pos n) ≤ℤ (c *ℤ pos m)
    → (a *ℤ pos n) ≤ℤ (c *ℤ pos k)
at_most_trans a b c k m n m0 h j =
    le_cancel m _ _ m0 (le_from_two n k _ _ _ _ _ _ h j
    (rw (← diff_of a, ← diff_of b, ← diff_of c) (simp push (diff_same _ _ _ _ (omega arith)))))

pub ≼_refl : (q : Fraction) → q ≼ q
≼_refl q = record { at_most = le_same _ _ refl }

pub ≼_trans : (q r s : Fraction) → q ≼ r → r ≼ s → q ≼ s
≼_trans q r s h j = record { at_most = at_most_trans q.num r.num s.num _ _ _ r.positive h.at_most j.at_most }

pub ≼_antisym : (q r : Fraction) → q ≼ r → r ≼ q → q ≈ r
≼_antisym q r h j = record { same = le_both _ _ h.at_most j.at_most }

pub ≼-of_≈ : (q r : Fraction) → q ≈ r → q ≼ r
≼-of_≈ q r h = record { at_most = le_same _ _ h.same }

pub ≼_total : (q r : Fraction) → (q ≼ r) ⊎ (r ≼ q)
≼_total q r = by (cases_lt (up b + down a) (up a + down b)) where
  a : ℤ
  a = q.num *ℤ pos r.den

  b : ℤ
  b = r.num *ℤ pos q.den

  by : ((up b + down a) < (up a + down b)) ⊎ ((up a + down b) ≤ (up b + down a)) → (q ≼ r) ⊎ (r ≼ q)
  by (inl h) = inr (record { at_most = omega (arith, ints) })
  by (inr h) = inl (record { at_most = omega (arith, ints) })

passed : (b : Bool) → T b → b ≡ true
passed true t = refl
passed false t = absurd t

-- the test and the order say the same
pub is_at_most-≼ : (q r : Fraction) → is_at_most q r ≡ true → q ≼ r
unfolding is_at_most
is_at_most-≼ q r h = record { at_most = record { le = passes _ h } }

pub ≼-is_at_most : (q r : Fraction) → q ≼ r → is_at_most q r ≡ true
unfolding is_at_most
≼-is_at_most q r h = passed _ h.at_most.le

pub is_at_most-same : (q q' r : Fraction) → q ≈ q' → is_at_most q r ≡ is_at_most q' r
is_at_most-same q q' r h =
    one_answer {P = q ≼ r} _ _ (is_at_most-≼ q r, ≼-is_at_most q r)
    (λ t. ≼_trans q q' r (≼-of_≈ q q' h) (is_at_most-≼ q' r t), λ k. ≼-is_at_most q' r (≼_trans q' q r (≼-of_≈ q' q (≈_sym q q' h)) k))

pub is_at_most-same_right : (q r r' : Fraction) → r ≈ r' → is_at_most q r ≡ is_at_most q r'
is_at_most-same_right q r r' h =
    one_answer {P = q ≼ r} _ _ (is_at_most-≼ q r, ≼-is_at_most q r)
    (λ t. ≼_trans q r' r (is_at_most-≼ q r' t) (≼-of_≈ r' r (≈_sym r r' h)), λ k. ≼-is_at_most q r' (≼_trans q r r' k (≼-of_≈ r r' h)))

-- ---- sum
sum_same : (a a' b : ℤ) (k k' m : ℕ) → (a *ℤ pos k') ≡ (a' *ℤ pos k)
    → (((a *ℤ pos m) +ℤ (b *ℤ pos k)) *ℤ pos (k' * m)) ≡ (((a' *ℤ pos m) +ℤ (b *ℤ pos k')) *ℤ pos (k * m))
sum_same a a' b k k' m h =
    from_multiple (pos (m * m)) _ _ _ _ h
    (rw (← diff_of a, ← diff_of a', ← diff_of b) (simp push (diff_same _ _ _ _ (omega arith))))

sum_comm : (a b : ℤ) (k m : ℕ)
    → (((a *ℤ pos m) +ℤ (b *ℤ pos k)) *ℤ pos (m * k)) ≡ (((b *ℤ pos k) +ℤ (a *ℤ pos m)) *ℤ pos (k * m))
sum_comm a b k m = rw (← diff_of a, ← diff_of b) (simp push (diff_same _ _ _ _ (omega arith)))

pub ⊕_comm : (q r : Fraction) → q ⊕ r ≈ r ⊕ q
unfolding ◌⊕◌
⊕_comm q r = record { same = sum_comm q.num r.num q.den r.den }

pub ⊕-same : (q q' r : Fraction) → q ≈ q' → q ⊕ r ≈ q' ⊕ r
unfolding ◌⊕◌
⊕-same q q' r h = record { same = sum_same q.num q'.num r.num _ _ _ h.same }

pub ⊕-same_right : (q r r' : Fraction) → r ≈ r' → q ⊕ r ≈ q ⊕ r'
⊕-same_right q r r' h =
    ≈_trans _ _ _ (⊕_comm q r) (≈_trans _ _ _ (⊕-same r r' q h) (⊕_comm r' q))

sum_assoc : (a b c : ℤ) (k m n : ℕ)
    → (((((a *ℤ pos m) +ℤ (b *ℤ pos k)) *ℤ pos n) +ℤ (c *ℤ pos (k * m))) *ℤ pos (k * (m * n)))
    ≡ (((a *ℤ pos (m * n)) +ℤ (((b *ℤ pos n) +ℤ (c *ℤ pos m)) *ℤ pos k)) *ℤ pos ((k * m) * n))
sum_assoc a b c k m n = rw (← diff_of a, ← diff_of b, ← diff_of c) (simp push (diff_same _ _ _ _ (omega arith)))

pub ⊕_assoc : (q r s : Fraction) → (q ⊕ r) ⊕ s ≈ q ⊕ (r ⊕ s)
unfolding ◌⊕◌
⊕_assoc q r s = record { same = sum_assoc q.num r.num s.num q.den r.den s.den }

sum_order : (a a' b : ℤ) (k k' m : ℕ) → (a *ℤ pos k') ≤ℤ (a' *ℤ pos k)
    → (((a *ℤ pos m) +ℤ (b *ℤ pos k)) *ℤ pos (k' * m)) ≤ℤ (((a' *ℤ pos m) +ℤ (b *ℤ pos k')) *ℤ pos (k * m))
sum_order a a' b k k' m h =
    le_from (m * m) _ _ _ _ h
    (rw (← diff_of a, ← diff_of a', ← diff_of b) (simp push (diff_same _ _ _ _ (omega arith))))

pub ⊕-≼ : (q q' r : Fraction) → q ≼ q' → q ⊕ r ≼ q' ⊕ r
unfolding ◌⊕◌
⊕-≼ q q' r h = record { at_most = sum_order q.num q'.num r.num _ _ _ h.at_most }

-- ---- product
product_same : (a a' b : ℤ) (k k' m : ℕ) → (a *ℤ pos k') ≡ (a' *ℤ pos k)
    → ((a *ℤ b) *ℤ pos (k' * m)) ≡ ((a' *ℤ b) *ℤ pos (k * m))
product_same a a' b k k' m h =
    from_multiple (b *ℤ pos m) _ _ _ _ h
    (rw (← diff_of a, ← diff_of a', ← diff_of b) (simp push (diff_same _ _ _ _ (omega arith))))

product_comm : (a b : ℤ) (k m : ℕ) → ((a *ℤ b) *ℤ pos (m * k)) ≡ ((b *ℤ a) *ℤ pos (k * m))
product_comm a b k m = rw (← diff_of a, ← diff_of b) (simp push (diff_same _ _ _ _ (omega arith)))

pub ⊗_comm : (q r : Fraction) → q ⊗ r ≈ r ⊗ q
unfolding ◌⊗◌
⊗_comm q r = record { same = product_comm q.num r.num q.den r.den }

pub ⊗-same : (q q' r : Fraction) → q ≈ q' → q ⊗ r ≈ q' ⊗ r
unfolding ◌⊗◌
⊗-same q q' r h = record { same = product_same q.num q'.num r.num _ _ _ h.same }

pub ⊗-same_right : (q r r' : Fraction) → r ≈ r' → q ⊗ r ≈ q ⊗ r'
⊗-same_right q r r' h =
    ≈_trans _ _ _ (⊗_comm q r) (≈_trans _ _ _ (⊗-same r r' q h) (⊗_comm r' q))

product_assoc : (a b c : ℤ) (k m n : ℕ)
    → (((a *ℤ b) *ℤ c) *ℤ pos (k * (m * n))) ≡ ((a *ℤ (b *ℤ c)) *ℤ pos ((k * m) * n))
product_assoc a b c k m n = rw (← diff_of a, ← diff_of b, ← diff_of c) (simp push (diff_same _ _ _ _ (omega arith)))

pub ⊗_assoc : (q r s : Fraction) → (q ⊗ r) ⊗ s ≈ q ⊗ (r ⊗ s)
unfolding ◌⊗◌
⊗_assoc q r s = record { same = product_assoc q.num r.num s.num q.den r.den s.den }

distributed : (a b c : ℤ) (k m n : ℕ)
    → ((a *ℤ ((b *ℤ pos n) +ℤ (c *ℤ pos m))) *ℤ pos ((k * m) * (k * n)))
    ≡ ((((a *ℤ b) *ℤ pos (k * n)) +ℤ ((a *ℤ c) *ℤ pos (k * m))) *ℤ pos (k * (m * n)))
distributed a b c k m n = rw (← diff_of a, ← diff_of b, ← diff_of c) (simp push (diff_same _ _ _ _ (omega arith)))

pub ⊗-⊕ : (q r s : Fraction) → q ⊗ (r ⊕ s) ≈ (q ⊗ r) ⊕ (q ⊗ s)
unfolding ◌⊗◌ ◌⊕◌
⊗-⊕ q r s = record { same = distributed q.num r.num s.num q.den r.den s.den }

-- ---- negative
negative_same : (a a' : ℤ) (k k' : ℕ) → (a *ℤ pos k') ≡ (a' *ℤ pos k) → (neg_ℤ a *ℤ pos k') ≡ (neg_ℤ a' *ℤ pos k)
negative_same a a' k k' h =
    from_multiple (negsuc 0) _ _ _ _ h
    (rw (← diff_of a, ← diff_of a') (simp push (diff_same _ _ _ _ (omega arith))))

pub negated-same : (q r : Fraction) → q ≈ r → negated q ≈ negated r
unfolding negated
negated-same q r h = record { same = negative_same q.num r.num _ _ h.same }
