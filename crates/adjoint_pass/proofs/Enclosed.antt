-- The spans of sensitivities enclose the derivatives of the expanded formulas.
use Rattle.std.specs.Prelude.{◌≡◌, Bool, true, false, cond, is_some, List, [], ◌∷◌, map, filter, reverse, length, suc, Option, Some, None, pos, refl}
use Rattle.std.specs.List.{AllByRecursion}
use Rattle.std.proofs.Common.{sym, ◌∙◌, ap, ap₂}
use Rattle.std.proofs.lemmas.Bool.{or_left}
use Rattle.std.proofs.lemmas.Option.{same_Some}
use Rattle.exact_fraction.specs.Number.{ℚ, of_ℤ, ◌+ℚ◌, ◌*ℚ◌}
use Rattle.exact_fraction.specs.Sums.{total}
use Rattle.exact_fraction.proofs.Ring.{ring, Whole, ◌:+◌, ◌:*◌, x0}
use Rattle.exact_law.specs.Model.{Input as ModelInput, IsSameTest, AreOf, is_order, once, keys, unit, exact_value, exact_slope, has_value, body_of as model_body_of, body_partial, partial, brought, sweep}
use Rattle.exact_law.proofs.ChainRule.{gradient, sweep-backward}
use Rattle.exact_law.proofs.RenamingLaws.{total-map}
use Rattle.fixed_interval.specs.Interval.{Interval}
use Rattle.fixed_interval.specs.Sums.{Holds}
use Rattle.value_cache.specs.Quantities.{Quantity, body_of, is_there}
use Rattle.value_cache.specs.Evaluations.{span_in, evaluation_of}
use Rattle.value_cache.specs.Evaluable.{AreInOrder}
use Rattle.value_cache.specs.Model.{model_body, model_row, model_of, BodyHasExponents, AllHaveExponents, HasValueIn}
use Rattle.value_cache.specs.declared.evaluation.Evaluation.{Evaluation}
use Rattle.value_cache.specs.declared.evaluation.Evaluation.TheVariants.{Enclosed, Fault}
use Rattle.value_cache.proofs.Sound.{values_enclosed}
use Rattle.adjoint_pass.specs.Sweep.{Node, is_in_cone_through, is_in_cone}
use Rattle.adjoint_pass.specs.Sensitivities.{uses_of, node_of, span_at, nodes_of, depends_on, cone_of, sensitivity_of, KeepsNamesApart, AllKeepNamesApart}
use Rattle.adjoint_pass.proofs.Lists.{all_weaker, all_from_both, all_filtered, all_passing, all_unmapped, all_reversed, filter-map}
use Rattle.adjoint_pass.proofs.Order.{reversed}
use Rattle.adjoint_pass.proofs.Equations.{nodes_of-falling, depends_on-closed}
use Rattle.adjoint_pass.proofs.Enclosing.{HasPartials, brought_by, sensitivity_holds}
use Rattle.adjoint_pass.proofs.Partials.{Enclose, has_partials}
use Rattle.adjoint_pass.proofs.Cones.{found_by_key, rows_of_model, once_keys, is_order_of_passing, cone_uses_cone, none_uses_the_first}

-- ---- the spans of the quantities
enclosed_span : {K : Type 0} (o : Option (Evaluation K)) (s : Interval) → span_in o ≡ Some s → o ≡ Some (Enclosed s)
enclosed_span None s e = absurd (cc)
enclosed_span (Some (Fault fault row)) s e = absurd (cc)
enclosed_span (Some (Enclosed t)) s e = ap (λ u. Some (Enclosed u)) (same_Some t s e)

spans_enclose : {K : Type 0} (same : K → K → Bool) (qs : List (Quantity K)) → AllHaveExponents qs
    → Enclose (span_at same qs) (exact_value same (model_of qs)) (has_value same (model_of qs))
spans_enclose same qs h = record {
  defined = λ n s e. (at n s e).defined;
  enclosed = λ n s e. (at n s e).enclosed;
} where
  at : (n : _) (s : Interval) → span_at same qs n ≡ Some s → HasValueIn same qs n s
  at n s e = values_enclosed same qs h n s (enclosed_span (evaluation_of same qs n) s e)

-- the exact partial derivatives of a quantity's own formula
abbrev pub slopes : {K : Type 0} → (K → K → Bool) → List (Quantity K) → Quantity K → K → ℚ
slopes same qs q = body_partial same (exact_value same (model_of qs)) (model_body q.body)

-- ---- what holds of each quantity, the last first
abbrev pub IsRegular : {K : Type 0} → (K → K → Bool) → Quantity K → Type 0
IsRegular same q = BodyHasExponents q.body × KeepsNamesApart same q.body

all_regular : {K : Type 0} (same : K → K → Bool) (qs : List (Quantity K)) → AllHaveExponents qs → AllKeepNamesApart same qs → AllByRecursion (IsRegular same) qs
all_regular same [] h k = tt
all_regular same (q ∷ qs) h k = ((h.0, k.0), all_regular same qs h.1 k.1)

-- ---- the quantities on which y depends
abbrev pub cone_quantities : {K : Type 0} → (K → K → Bool) → List (Quantity K) → K → List (Quantity K)
cone_quantities same qs y = filter (λ q. depends_on same qs y q.key) (reverse qs)

pub cone_of-map : {K : Type 0} (same : K → K → Bool) (qs : List (Quantity K)) (y : K)
    → cone_of same qs y ≡ map (node_of same (span_at same qs)) (cone_quantities same qs y)
cone_of-map same qs y = filter-map (λ m. depends_on same qs y m.key) (node_of same (span_at same qs)) (reverse qs)

cone_rows : {K : Type 0} (same : K → K → Bool) → IsSameTest same → (qs : List (Quantity K)) → AreInOrder same [] qs → (y : K)
    → AreOf same (model_of qs) (model_of (cone_quantities same qs y))
cone_rows same law qs o y =
    let rev = reversed same law qs o in
    rows_of_model same qs (cone_quantities same qs y)
    (all_filtered (λ q. body_of same qs q.key ≡ Some q.body) (λ q. depends_on same qs y q.key) (reverse qs)
    (all_weaker (λ q. body_of same (reverse qs) q.key ≡ Some q.body) (λ q. body_of same qs q.key ≡ Some q.body)
    (λ q e. sym (rev.bodies q.key) ∙ e) (reverse qs) (found_by_key same law (reverse qs) rev.last_first)))

cone_in_order : {K : Type 0} (same : K → K → Bool) → IsSameTest same → (qs : List (Quantity K)) → AreInOrder same [] qs → (y : K)
    → is_order same (model_of (cone_quantities same qs y)) ≡ true
cone_in_order same law qs o y =
    is_order_of_passing same law (depends_on same qs y) (reverse qs) (reversed same law qs o).last_first
    (cone_uses_cone same law (span_at same qs) (depends_on same qs y) y (reverse qs) (depends_on-closed same law qs o y))

-- y is in its cone
pub depends_on-itself : {K : Type 0} (same : K → K → Bool) → IsSameTest same → (qs : List (Quantity K)) → AreInOrder same [] qs → (y : K)
    → depends_on same qs y y ≡ true
depends_on-itself same law qs o y = depends_on-closed same law qs o y y ∙ or_left (same y y) _ (law.complete y)

y_once : {K : Type 0} (same : K → K → Bool) → IsSameTest same → (qs : List (Quantity K)) → AreInOrder same [] qs → (y : K) → is_there same qs y ≡ true
    → once same y (keys (model_of (cone_quantities same qs y))) ≡ true
y_once same law qs o y there =
    let rev = reversed same law qs o in
    once_keys same law (depends_on same qs y) (reverse qs) rev.last_first y (ap is_some (rev.bodies y) ∙ there) (depends_on-itself same law qs o y)

cone_partials : {K : Type 0} (same : K → K → Bool) → IsSameTest same → (qs : List (Quantity K)) → AllHaveExponents qs → AllKeepNamesApart same qs → (y : K)
    → AllByRecursion (λ q. HasPartials (node_of same (span_at same qs) q) (slopes same qs q)) (cone_quantities same qs y)
cone_partials same law qs h k y =
    all_filtered _ (λ q. depends_on same qs y q.key) (reverse qs)
    (all_weaker (IsRegular same) _
    (λ q r. has_partials same law (span_at same qs) (exact_value same (model_of qs)) (has_value same (model_of qs)) (spans_enclose same qs h) q r.0 r.1)
    (reverse qs) (all_reversed (IsRegular same) qs (all_regular same qs h k)))

-- nothing on which y depends uses it
y_unused : {K : Type 0} (same : K → K → Bool) → IsSameTest same → (qs : List (Quantity K)) → AreInOrder same [] qs → (y : K)
    → AllByRecursion (λ q. uses_of same q.body y ≡ false) (cone_quantities same qs y)
unfolding is_in_cone
y_unused same law qs o y =
    all_passing (λ q. uses_of same q.body y ≡ false) (λ q. depends_on same qs y q.key) (reverse qs)
    (all_unmapped (λ m. is_in_cone_through same (nodes_of same qs) y (suc (length (nodes_of same qs))) m.key ≡ true → m.uses y ≡ false)
    (node_of same (span_at same qs)) (reverse qs)
    (none_uses_the_first same law (nodes_of same qs) (nodes_of-falling same law qs o) y (suc (length (nodes_of same qs)))))

-- ---- the exact sensitivities
nothing_brought : {X K : Type 0} (node : X → Node K) (d : X → K → ℚ) (xs : List X) (a : K → ℚ) (y : K)
    → AllByRecursion (λ x. d x y ≡ of_ℤ (pos 0)) xs → brought_by node d xs a y ≡ of_ℤ (pos 0)
unfolding total
nothing_brought node d [] a y h = refl
nothing_brought node d (x ∷ xs) a y h =
    ap₂ (λ s t. a (node x).key *ℚ s +ℚ t) h.0 (nothing_brought node d xs a y h.1)
    ∙ ring (a (node x).key ∷ []) (x0 :* Whole (pos 0) :+ Whole (pos 0)) (Whole (pos 0)) refl

itself_one : {K : Type 0} (same : K → K → Bool) → IsSameTest same → (y : K) → unit same y y ≡ of_ℤ (pos 1)
unfolding unit
itself_one same law y = ap (λ b. cond b (of_ℤ (pos 1)) (of_ℤ (pos 0))) (law.complete y)

rows_bring : {K : Type 0} (same : K → K → Bool) (qs : List (Quantity K)) (a : K → ℚ) (rs : List (Quantity K)) (n : K)
    → brought same (exact_value same (model_of qs)) (model_of rs) a n ≡ brought_by (node_of same (span_at same qs)) (slopes same qs) rs a n
unfolding brought partial
rows_bring same qs a rs n = total-map model_row (λ r. a r.key *ℚ partial same (exact_value same (model_of qs)) r n) rs

-- the sensitivities of y that the sweep finds
abbrev swept : {K : Type 0} → (K → K → Bool) → List (Quantity K) → K → K → ℚ
swept same qs y = sweep same (exact_value same (model_of qs)) (model_of (cone_quantities same qs y)) (λ n. unit same n y)

swept_solves : {K : Type 0} (same : K → K → Bool) → IsSameTest same → (qs : List (Quantity K)) → AreInOrder same [] qs → (y n : K)
    → swept same qs y n ≡ unit same n y +ℚ brought_by (node_of same (span_at same qs)) (slopes same qs) (cone_quantities same qs y) (swept same qs y) n
swept_solves same law qs o y n =
    (sweep-backward same law (exact_value same (model_of qs)) (model_of (cone_quantities same qs y)) y (cone_in_order same law qs o y)).equation n
    ∙ ap (λ t. unit same n y +ℚ t) (rows_bring same qs (swept same qs y) (cone_quantities same qs y) n)

swept_itself : {K : Type 0} (same : K → K → Bool) → IsSameTest same → (qs : List (Quantity K)) → AreInOrder same [] qs
    → AllHaveExponents qs → AllKeepNamesApart same qs → (y : K) → swept same qs y y ≡ of_ℤ (pos 1)
swept_itself same law qs o h k y =
    let cone = cone_quantities same qs y in
    let node = node_of same (span_at same qs) in
    let none = all_from_both (λ p. HasPartials (node p) (slopes same qs p)) (λ p. uses_of same p.body y ≡ false)
    (λ p. slopes same qs p y ≡ of_ℤ (pos 0)) (λ p e u. e.unused y u) cone (cone_partials same law qs h k y) (y_unused same law qs o y) in
    swept_solves same law qs o y y
    ∙ ap₂ ◌+ℚ◌ (itself_one same law y) (nothing_brought node (slopes same qs) cone (swept same qs y) y none)
    ∙ ring [] (Whole (pos 1) :+ Whole (pos 0)) (Whole (pos 1)) refl

pub slopes_enclosed : {K : Type 0} (same : K → K → Bool) → IsSameTest same → (qs : List (Quantity K)) → AreInOrder same [] qs
    → AllHaveExponents qs → AllKeepNamesApart same qs → (y : K) → is_there same qs y ≡ true
    → (i : K) (q : ℚ) → model_body_of same (model_of qs) i ≡ Some (ModelInput q)
    → Holds (sensitivity_of same qs y i) (exact_slope same (model_of qs) y i)
unfolding sensitivity_of
slopes_enclosed same law qs o h k y there i q is =
    let cone = cone_quantities same qs y in
    let order = cone_in_order same law qs o y in
    let back = sweep-backward same law (exact_value same (model_of qs)) (model_of cone) y order in
    rw (
      cone_of-map same qs y,
      gradient same law (model_of qs) (model_of cone) (cone_rows same law qs o y) order y (y_once same law qs o y there) (swept same qs y) back i q is,
    )
    (sensitivity_holds same law (node_of same (span_at same qs)) (slopes same qs) cone (cone_partials same law qs h k y) y (swept same qs y)
    (swept_itself same law qs o h k y) (swept_solves same law qs o y) i)
