-- Sums over the inputs of a model, of which the last part is still to come.
use Rattle.std.specs.Prelude.{◌≡◌, ℕ, suc, ◌+◌, ◌<◌, ◌≤◌, List, [], ◌∷◌, length, pos, refl}
use Rattle.std.proofs.Common.{sym, ◌∙◌, ap, arith, drop}
use Rattle.std.proofs.lemmas.List.{drop_more, drop_all}
use Rattle.std.proofs.Math.ListN.{get_or}
use Rattle.exact_fraction.specs.Number.{ℚ, of_ℤ, ◌+ℚ◌}
use Rattle.exact_fraction.specs.NumberLaws.{+ℚ-zero}
use Rattle.exact_fraction.specs.Sums.{total}
use Rattle.exact_fraction.proofs.Ring.{◌:+◌, x0, x1, x2, zero-+ℚ, ring}
use Rattle.exact_law.specs.Law.{inputs_with, inputs_of}
use Rattle.plain_law.specs.declared.model.Body.{Body}
use Rattle.plain_law.specs.declared.model.Body.TheVariants.{Input, Formula}
use Rattle.plain_law.specs.Models.{rows_from, rows}
use Rattle.plain_law.specs.Groups.{if_input}

pub no_input_yet : (f : ℕ → ℚ) (bs : List Body) (s : ℚ) → s ≡ of_ℤ (pos 0)
    → s +ℚ total f (inputs_of (rows_from 0 (drop 0 bs))) ≡ total f (inputs_of (rows bs))
no_input_yet f bs s e = ap (λ t. t +ℚ total f (inputs_of (rows bs))) e ∙ zero-+ℚ _

after_row : (f : ℕ → ℚ) (k : ℕ) (b : Body) (bs : List Body)
    → total f (inputs_of (rows_from k (b ∷ bs))) ≡ if_input b (f k) +ℚ total f (inputs_of (rows_from (suc k) bs))
unfolding total inputs_of inputs_with rows_from
after_row f k (Input q) bs = refl
after_row f k (Formula g) bs = sym (zero-+ℚ _)

pub one_more_row : (f : ℕ → ℚ) (bs : List Body) (k : ℕ) (b : Body) (s s' t : ℚ) → k < length bs → get_or bs k b ≡ b
    → s +ℚ total f (inputs_of (rows_from k (drop k bs))) ≡ t → s' ≡ s +ℚ if_input b (f k)
    → s' +ℚ total f (inputs_of (rows_from (k + 1) (drop (k + 1) bs))) ≡ t
one_more_row f bs k b s s' t l e h i =
    let next : k + 1 ≡ suc k = omega arith in
    ap (λ u. u +ℚ total f (inputs_of (rows_from (k + 1) (drop (k + 1) bs)))) i
    ∙ ap (λ n. (s +ℚ if_input b (f k)) +ℚ total f (inputs_of (rows_from n (drop (k + 1) bs)))) next
    ∙ ring (s ∷ if_input b (f k) ∷ total f (inputs_of (rows_from (suc k) (drop (k + 1) bs))) ∷ []) ((x0 :+ x1) :+ x2) (x0 :+ (x1 :+ x2)) refl
    ∙ ap (λ u. s +ℚ u) (sym (after_row f k b (drop (k + 1) bs)))
    ∙ ap (λ y. s +ℚ total f (inputs_of (rows_from k (y ∷ drop (k + 1) bs)))) (sym e)
    ∙ ap (λ ys. s +ℚ total f (inputs_of (rows_from k ys))) (sym (drop_more bs k b l)) ∙ h

no_inputs : (f : ℕ → ℚ) (k : ℕ) → total f (inputs_of (rows_from k [])) ≡ of_ℤ (pos 0)
unfolding total inputs_of rows_from
no_inputs f k = refl

pub all_inputs : (f : ℕ → ℚ) (bs : List Body) (k : ℕ) (s t : ℚ) → length bs ≤ k
    → s +ℚ total f (inputs_of (rows_from k (drop k bs))) ≡ t → s ≡ t
all_inputs f bs k s t l h =
    sym (+ℚ-zero s) ∙ ap (λ u. s +ℚ u) (sym (no_inputs f k)) ∙ ap (λ ys. s +ℚ total f (inputs_of (rows_from k ys))) (sym (drop_all k bs l)) ∙ h
