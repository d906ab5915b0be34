-- Conditions for all limits, from those at each.
use Rattle.std.specs.Prelude.{◌≡◌, ℕ, ◌+◌, ◌<◌, ◌≤◌, Bool, ◌&&◌, List, [], ◌∷◌, ◌++◌, map, length, drop, refl}
use Rattle.std.proofs.Common.{sym, ◌∙◌, ap, get_or}
use Rattle.std.proofs.Math.Bool.{and_assoc}
use Rattle.std.proofs.lemmas.List.{drop_all, drop_more}
use Rattle.exact_fraction.specs.Number.{ℚ}
use Rattle.exact_law.specs.WrittenRule.{Rule, Span, Answer, Yes, No, Unsettled, all_of, all_over, both, above_lower, below_upper, distances, guard_square, is_guarded, is_inside, is_near, stated, stated_at, stated_by}
use Rattle.plain_law.specs.declared.interval_rule.Span.{Span as HeldSpan}
use Rattle.plain_law.specs.RuleViews.{span_of}

-- ---- over exact numbers
all_of-append : (p : ℚ → Bool) (xs ys : List ℚ) → all_of p (xs ++ ys) ≡ (all_of p xs && all_of p ys)
unfolding all_of
all_of-append p [] ys = refl
all_of-append p (x ∷ xs) ys = ap (λ t. p x && t) (all_of-append p xs ys) ∙ sym (and_assoc (p x) (all_of p xs) (all_of p ys))

pub joined_with : {a b c d e : Bool} → a ≡ (b && c) → b ≡ d → c ≡ e → a ≡ (d && e)
joined_with h k l = cc

pub stated_with : (rule : Rule) (y k v w : ℚ) (ds es : List ℚ) (g i n : Bool)
    → w ≡ guard_square rule k v → ds ≡ above_lower rule.lower y → es ≡ below_upper rule.upper y
    → g ≡ (all_of (is_guarded w) ds && all_of (is_guarded w) es)
    → i ≡ (all_of is_inside ds && all_of is_inside es)
    → n ≡ (all_of (is_near w) ds && all_of (is_near w) es)
    → stated_by rule.form g i n ≡ stated rule y k v
unfolding stated stated_at distances
stated_with rule y k v w ds es g i n hw hd he hg hi hn =
    rw (
      hg,
      hi,
      hn,
      hw,
      hd,
      he,
      ← all_of-append (is_guarded (guard_square rule k v)) (above_lower rule.lower y) (below_upper rule.upper y),
      ← all_of-append is_inside (above_lower rule.lower y) (below_upper rule.upper y),
      ← all_of-append (is_near (guard_square rule k v)) (above_lower rule.lower y) (below_upper rule.upper y),
    ) refl

-- ---- over intervals
both_yes : (a : Answer) → both a Yes ≡ a
unfolding both
both_yes Yes = refl
both_yes No = refl
both_yes Unsettled = refl

both_assoc : (a b c : Answer) → both (both a b) c ≡ both a (both b c)
unfolding both
both_assoc No b c = refl
both_assoc Yes b c = refl
both_assoc Unsettled No c = refl
both_assoc Unsettled Yes c = refl
both_assoc Unsettled Unsettled No = refl
both_assoc Unsettled Unsettled Yes = refl
both_assoc Unsettled Unsettled Unsettled = refl

pub yes_both : (a : Answer) → both Yes a ≡ a
unfolding both
yes_both a = refl

next-drop : {A : Type 0} (xs : List A) (i : ℕ) (x : A) → i < length xs → x ≡ get_or xs i x → drop i xs ≡ x ∷ drop (i + 1) xs
next-drop xs i x h e = drop_more xs i x h ∙ ap (λ t. t ∷ drop (i + 1) xs) (sym e)

pub all_over-next : (p : Span → Answer) (spans : List HeldSpan) (i : ℕ) (s : HeldSpan) (x y t : Answer) → i < length spans → s ≡ get_or spans i s
    → y ≡ p (span_of s) → both x (all_over p (map span_of (drop i spans))) ≡ t
    → both (both x y) (all_over p (map span_of (drop (i + 1) spans))) ≡ t
unfolding all_over
all_over-next p spans i s x y t h e f k =
    both_assoc x y (all_over p (map span_of (drop (i + 1) spans)))
    ∙ ap (λ a. both x (both a (all_over p (map span_of (drop (i + 1) spans))))) f
    ∙ sym (ap (λ l. both x (all_over p (map span_of l))) (next-drop spans i s h e)) ∙ k

pub all_over-end : (p : Span → Answer) (spans : List HeldSpan) (i : ℕ) (x t : Answer) → length spans ≤ i
    → both x (all_over p (map span_of (drop i spans))) ≡ t → x ≡ t
unfolding all_over
all_over-end p spans i x t h k =
    sym (both_yes x) ∙ sym (ap (λ l. both x (all_over p (map span_of l))) (drop_all i spans h)) ∙ k
