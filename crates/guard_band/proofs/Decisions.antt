-- What the code decides is the decision over the spans.
use Rattle.std.specs.Prelude.{◌≡◌, Option, Some, option_map, ◌++◌}
use Rattle.std.specs.Option.{option_zip}
use Rattle.std.proofs.Common.{sym, ◌∙◌, ap, ap₂}
use Rattle.exact_law.specs.WrittenRule.{all_over, decision, decision_by}
use Rattle.fixed_interval.specs.Interval.{Interval}
use Rattle.fixed_interval.specs.declared.faults.Truth.{Truth}
use Rattle.guard_band.specs.declared.rule.Rule.{Rule}
use Rattle.guard_band.specs.declared.rule.Condition.TheVariants.{Guarded, Inside, Near}
use Rattle.guard_band.specs.declared.rule.Said.{Said}
use Rattle.guard_band.specs.declared.distances.Distance.{Distance}
use Rattle.guard_band.specs.Statements.{exact_form, decision_of, guard_square_span, above, below, ends_of, at_limit, decision_over}
use Rattle.guard_band.specs.Distances.{answer_of, condition_over, exact_spans}

zipped : {A B C : Type 0} (f : A × B → C) (o : Option A) (p : Option B) (a : A) (b : B) → o ≡ Some a → p ≡ Some b
    → option_map f (option_zip o p) ≡ Some (f (a, b))
zipped f o p a b e g = ap₂ (λ s t. option_map f (option_zip s t)) e g

pub decided_is : (rule : Rule) (y v k w : Interval) (lower upper : Option Distance) (guarded inside near : Truth) (said : Said)
    → guard_square_span rule.guard k v ≡ Some w
    → at_limit (above y) rule.lower ≡ Some (exact_spans lower)
    → at_limit (below y) rule.upper ≡ Some (exact_spans upper)
    → answer_of guarded ≡ all_over (condition_over Guarded (ends_of w)) (exact_spans lower ++ exact_spans upper)
    → answer_of inside ≡ all_over (condition_over Inside (ends_of w)) (exact_spans lower ++ exact_spans upper)
    → answer_of near ≡ all_over (condition_over Near (ends_of w)) (exact_spans lower ++ exact_spans upper)
    → decision_of said ≡ decision_by (exact_form rule.form) (answer_of guarded) (answer_of inside) (answer_of near)
    → decision_over rule y v k ≡ Some (decision_of said)
unfolding decision
decided_is rule y v k w lower upper guarded inside near said e f g h i j l =
    zipped (λ found. decision (exact_form rule.form) (ends_of found.0) found.1) _ _ w (exact_spans lower ++ exact_spans upper) e
    (zipped (λ found. found.0 ++ found.1) _ _ (exact_spans lower) (exact_spans upper) f g)
    ∙ ap Some (sym (l
    ∙ ap (λ a. decision_by (exact_form rule.form) a (answer_of inside) (answer_of near)) h
    ∙ ap₂ (λ a b. decision_by (exact_form rule.form) (all_over (condition_over Guarded (ends_of w)) (exact_spans lower ++ exact_spans upper)) a b) i j))
