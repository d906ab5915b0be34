-- Lemmas on sums over lists.
use Rattle.std.specs.Prelude.{◌≡◌, ℕ, zero, suc, ◌+◌, ◌<◌, ◌≤◌, List, [], ◌∷◌, ◌++◌, length, map, pos, refl}
use Rattle.std.proofs.Common.{sym, ◌∙◌, ap, ap₂, arith, drop}
use Rattle.std.proofs.lemmas.List.{drop_more, drop_all}
use Rattle.std.proofs.Math.ListN.{get_or}
use Rattle.std.proofs.Math.Path.{fun_ext}
use Rattle.exact_fraction.specs.Number.{ℚ, of_ℤ, ◌+ℚ◌, ◌*ℚ◌}
use Rattle.exact_fraction.specs.NumberLaws.{+ℚ-zero}
use Rattle.exact_fraction.specs.Sums.{total, below}
use Rattle.exact_fraction.proofs.Ring.{Whole, ◌:+◌, ◌:*◌, x0, x1, x2, x3, zero-+ℚ, ring}

pub total-same : {A : Type 0} (f g : A → ℚ) (xs : List A) → ((x : A) → f x ≡ g x) → total f xs ≡ total g xs
total-same f g xs h = ap (λ k. total k xs) (fun_ext h)

pub total-zero : {A : Type 0} (xs : List A) → total (λ x. of_ℤ (pos 0)) xs ≡ of_ℤ (pos 0)
unfolding total
total-zero [] = refl
total-zero (x ∷ xs) = ap (λ t. of_ℤ (pos 0) +ℚ t) (total-zero xs) ∙ ring [] (Whole (pos 0) :+ Whole (pos 0)) (Whole (pos 0)) refl

pub total-plus : {A : Type 0} (f g : A → ℚ) (xs : List A) → total (λ x. f x +ℚ g x) xs ≡ total f xs +ℚ total g xs
unfolding total
total-plus f g [] = ring [] (Whole (pos 0)) (Whole (pos 0) :+ Whole (pos 0)) refl
total-plus f g (x ∷ xs) =
    ap (λ t. (f x +ℚ g x) +ℚ t) (total-plus f g xs)
    ∙ ring (f x ∷ g x ∷ total f xs ∷ total g xs ∷ []) ((x0 :+ x1) :+ (x2 :+ x3)) ((x0 :+ x2) :+ (x1 :+ x3)) refl

pub total-times : {A : Type 0} (k : ℚ) (f : A → ℚ) (xs : List A) → total (λ x. k *ℚ f x) xs ≡ k *ℚ total f xs
unfolding total
total-times k f [] = ring (k ∷ []) (Whole (pos 0)) (x0 :* Whole (pos 0)) refl
total-times k f (x ∷ xs) =
    ap (λ t. (k *ℚ f x) +ℚ t) (total-times k f xs)
    ∙ ring (k ∷ f x ∷ total f xs ∷ []) (x0 :* x1 :+ x0 :* x2) (x0 :* (x1 :+ x2)) refl

pub total-times_right : {A : Type 0} (f : A → ℚ) (k : ℚ) (xs : List A) → total (λ x. f x *ℚ k) xs ≡ total f xs *ℚ k
unfolding total
total-times_right f k [] = ring (k ∷ []) (Whole (pos 0)) (Whole (pos 0) :* x0) refl
total-times_right f k (x ∷ xs) =
    ap (λ t. (f x *ℚ k) +ℚ t) (total-times_right f k xs)
    ∙ ring (k ∷ f x ∷ total f xs ∷ []) (x1 :* x0 :+ x2 :* x0) ((x1 :+ x2) :* x0) refl

pub total-append : {A : Type 0} (f : A → ℚ) (xs ys : List A) → total f (xs ++ ys) ≡ total f xs +ℚ total f ys
unfolding total
total-append f [] ys = ring (total f ys ∷ []) x0 (Whole (pos 0) :+ x0) refl
total-append f (x ∷ xs) ys =
    ap (λ t. f x +ℚ t) (total-append f xs ys)
    ∙ ring (f x ∷ total f xs ∷ total f ys ∷ []) (x0 :+ (x1 :+ x2)) ((x0 :+ x1) :+ x2) refl

-- a double sum in either order
pub total-swap : {A B : Type 0} (f : A → B → ℚ) (xs : List A) (ys : List B)
    → total (λ x. total (λ y. f x y) ys) xs ≡ total (λ y. total (λ x. f x y) xs) ys
unfolding total
total-swap f [] ys = sym (total-zero ys)
total-swap f (x ∷ xs) ys =
    ap (λ t. total (λ y. f x y) ys +ℚ t) (total-swap f xs ys)
    ∙ sym (total-plus (λ y. f x y) (λ y. total (λ x. f x y) xs) ys)

-- ---- the numbers below n
pub below_zero : (f : ℕ → ℚ) (s : ℚ) → s ≡ of_ℤ (pos 0) → s ≡ total f (below 0)
unfolding total below
below_zero f s e = e

pub below_next : (f : ℕ → ℚ) (k : ℕ) (s t : ℚ) → s ≡ total f (below k) → t ≡ f k +ℚ s → t ≡ total f (below (k + 1))
unfolding total below
below_next f k s t e h =
    let g : suc k ≡ k + 1 = omega arith in
    h ∙ ap (λ x. f k +ℚ x) e ∙ ap (λ n. total f (below n)) g

pub below_same : (f g : ℕ → ℚ) (n : ℕ) → ((i : ℕ) → i < n → f i ≡ g i) → total f (below n) ≡ total g (below n)
unfolding total below
below_same f g zero h = refl
below_same f g (suc n) h = ap₂ ◌+ℚ◌ (h n (omega arith)) (below_same f g n (λ i l. h i (omega (arith, l))))

-- ---- a list, of which the last part is still to come
pub none_yet : {A B : Type 0} (f : B → ℚ) (v : A → B) (xs : List A) (s : ℚ) → s ≡ of_ℤ (pos 0)
    → s +ℚ total f (map v (drop 0 xs)) ≡ total f (map v xs)
none_yet f v xs s e = ap (λ t. t +ℚ total f (map v xs)) e ∙ zero-+ℚ _

after_first : {A B : Type 0} (f : B → ℚ) (v : A → B) (x : A) (xs : List A) → total f (map v (x ∷ xs)) ≡ f (v x) +ℚ total f (map v xs)
unfolding total
after_first f v x xs = refl

pub one_more : {A B : Type 0} (f : B → ℚ) (v : A → B) (xs : List A) (k : ℕ) (x : A) (s s' t : ℚ) → k < length xs → get_or xs k x ≡ x
    → s +ℚ total f (map v (drop k xs)) ≡ t → s' ≡ s +ℚ f (v x) → s' +ℚ total f (map v (drop (k + 1) xs)) ≡ t
one_more f v xs k x s s' t l e h i =
    ap (λ u. u +ℚ total f (map v (drop (k + 1) xs))) i
    ∙ ring (s ∷ f (v x) ∷ total f (map v (drop (k + 1) xs)) ∷ []) ((x0 :+ x1) :+ x2) (x0 :+ (x1 :+ x2)) refl
    ∙ ap (λ u. s +ℚ u) (sym (after_first f v x (drop (k + 1) xs)))
    ∙ ap (λ y. s +ℚ total f (map v (y ∷ drop (k + 1) xs))) (sym e)
    ∙ ap (λ ys. s +ℚ total f (map v ys)) (sym (drop_more xs k x l)) ∙ h

at_end : {A B : Type 0} (f : B → ℚ) (v : A → B) → total f (map v []) ≡ of_ℤ (pos 0)
unfolding total
at_end f v = refl

pub all_summed : {A B : Type 0} (f : B → ℚ) (v : A → B) (xs : List A) (k : ℕ) (s t : ℚ) → length xs ≤ k
    → s +ℚ total f (map v (drop k xs)) ≡ t → s ≡ t
all_summed f v xs k s t l h =
    sym (+ℚ-zero s) ∙ ap (λ u. s +ℚ u) (sym (at_end f v)) ∙ ap (λ ys. s +ℚ total f (map v ys)) (sym (drop_all k xs l)) ∙ h
