-- Which keys have no value: those of no quantity, and those that a cycle of uses leaves.
use Rattle.std.specs.Prelude.{◌≡◌, ℕ, zero, suc, Bool, true, false, ◌&&◌, Option, Some, None, List, length, refl}
use Rattle.std.proofs.Common.{sym, ◌∙◌, ap, inl, inr}
use Rattle.std.specs.Prelude.{◌⊎◌}
use Rattle.std.proofs.lemmas.Bool.{or_cases, true≢false}
use Rattle.exact_fraction.specs.Number.{ℚ}
use Rattle.exact_law.specs.Model.{Expression, Num, Key, Neg, Add, Sub, Mul, Div, Pow, is_defined, uses, Body, Input, Formula, Row, body_of, is_input_body, is_input, estimate, replaced_body, expansion, expanded, has_value, body_uses, IsCyclic}
use Rattle.exact_law.proofs.Chain.{is_defined-replaced}

-- ---- a key of no quantity
expansion-missing : {K : Type 0} (same : K → K → Bool) (model : List (Row K)) (k : ℕ) (n : K) → body_of same model n ≡ None
    → expansion same model k n ≡ Key n
unfolding expansion replaced_body
expansion-missing same model zero n e = refl
expansion-missing same model (suc k) n e = ap (replaced_body (expansion same model k) n) e

pub no_quantity : {K : Type 0} (same : K → K → Bool) (model : List (Row K)) (n : K) → body_of same model n ≡ None
    → has_value same model n ≡ false
unfolding has_value expanded is_defined is_input is_input_body
no_quantity same model n e =
    ap (is_defined (estimate same model) (is_input same model)) (expansion-missing same model (length model) n e)
    ∙ ap is_input_body e

-- ---- an input
expansion-input : {K : Type 0} (same : K → K → Bool) (model : List (Row K)) (k : ℕ) (n : K) (q : ℚ) → body_of same model n ≡ Some (Input q)
    → expansion same model k n ≡ Key n
unfolding expansion replaced_body
expansion-input same model zero n q e = refl
expansion-input same model (suc k) n q e = ap (replaced_body (expansion same model k) n) e

pub input_has_value : {K : Type 0} (same : K → K → Bool) (model : List (Row K)) (n : K) (q : ℚ) → body_of same model n ≡ Some (Input q)
    → has_value same model n ≡ true
unfolding has_value expanded is_defined is_input is_input_body
input_has_value same model n q e =
    ap (is_defined (estimate same model) (is_input same model)) (expansion-input same model (length model) n q e)
    ∙ ap is_input_body e

-- ---- keys in cycles
both_false : (a b : Bool) → (a ≡ false) ⊎ (b ≡ false) → (a && b) ≡ false
both_false a b (inl e) = ap (λ t. t && b) e
both_false true b (inr e) = e
both_false false b (inr e) = refl

all_false : (a b c : Bool) → (a ≡ false) ⊎ (b ≡ false) → (a && b && c) ≡ false
all_false a b c (inl e) = ap (λ t. t && b && c) e
all_false true b c (inr e) = ap (λ t. t && c) e
all_false false b c (inr e) = refl

along_either : (A B C D : Type 0) → A ⊎ B → (A → C) → (B → D) → C ⊎ D
along_either A B C D (inl a) f g = inl (f a)
along_either A B C D (inr b) f g = inr (g b)

-- an expression that uses a key with no value has none
undefined_by_use : {K : Type 0} (v : K → ℚ) (known p : K → Bool) → ((n : K) → p n ≡ true → known n ≡ false) → (f : Expression K)
    → uses p f ≡ true → is_defined v known f ≡ false
unfolding uses is_defined
undefined_by_use v known p h (Num q) u = absurd (true≢false (sym u))
undefined_by_use v known p h (Key n) u = h n u
undefined_by_use v known p h (Neg a) u = undefined_by_use v known p h a u
undefined_by_use v known p h (Add a b) u =
    both_false (is_defined v known a) (is_defined v known b)
    (along_either _ _ _ _ (or_cases (uses p a) (uses p b) u) (undefined_by_use v known p h a) (undefined_by_use v known p h b))
undefined_by_use v known p h (Sub a b) u =
    both_false (is_defined v known a) (is_defined v known b)
    (along_either _ _ _ _ (or_cases (uses p a) (uses p b) u) (undefined_by_use v known p h a) (undefined_by_use v known p h b))
undefined_by_use v known p h (Mul a b) u =
    both_false (is_defined v known a) (is_defined v known b)
    (along_either _ _ _ _ (or_cases (uses p a) (uses p b) u) (undefined_by_use v known p h a) (undefined_by_use v known p h b))
undefined_by_use v known p h (Div a b) u =
    all_false (is_defined v known a) (is_defined v known b) _
    (along_either _ _ _ _ (or_cases (uses p a) (uses p b) u) (undefined_by_use v known p h a) (undefined_by_use v known p h b))
undefined_by_use v known p h (Pow a n) u = both_false (is_defined v known a) _ (inl (undefined_by_use v known p h a u))

-- at each depth of the expansion
cyclic_body : {K : Type 0} (v : K → ℚ) (known p : K → Bool) (s : K → Expression K) → ((n : K) → p n ≡ true → is_defined v known (s n) ≡ false)
    → (n : K) (b : Option (Body K)) → body_uses p b ≡ true → is_defined v known (replaced_body s n b) ≡ false
unfolding replaced_body body_uses
cyclic_body v known p s h n None u = absurd (true≢false (sym u))
cyclic_body v known p s h n (Some (Input q)) u = absurd (true≢false (sym u))
cyclic_body v known p s h n (Some (Formula f)) u =
    is_defined-replaced v known s f ∙ undefined_by_use _ (λ m. is_defined v known (s m)) p h f u

cyclic_key : {K : Type 0} (p : K → Bool) (b : Option (Body K)) → body_uses p b ≡ true → is_input_body b ≡ false
unfolding body_uses is_input_body
cyclic_key p None u = absurd (true≢false (sym u))
cyclic_key p (Some (Input q)) u = absurd (true≢false (sym u))
cyclic_key p (Some (Formula f)) u = refl

cyclic_expansion : {K : Type 0} (same : K → K → Bool) (model : List (Row K)) (p : K → Bool) → IsCyclic same model p
    → (k : ℕ) (n : K) → p n ≡ true → is_defined (estimate same model) (is_input same model) (expansion same model k n) ≡ false
unfolding expansion is_defined is_input
cyclic_expansion same model p c zero n h = cyclic_key p (body_of same model n) (c.each_uses_one n h)
cyclic_expansion same model p c (suc k) n h =
    cyclic_body (estimate same model) _ p (expansion same model k) (cyclic_expansion same model p c k) n (body_of same model n) (c.each_uses_one n h)

pub cyclic_no_value : {K : Type 0} (same : K → K → Bool) (model : List (Row K)) (p : K → Bool) → IsCyclic same model p
    → (n : K) → p n ≡ true → has_value same model n ≡ false
unfolding has_value expanded
cyclic_no_value same model p c n h = cyclic_expansion same model p c (length model) n h
