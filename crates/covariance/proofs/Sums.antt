-- The terms that loops over members and over groups find.
use Rattle.std.specs.Prelude.{◌≡◌, ℕ, suc, ◌+◌, ◌<◌, ◌≤◌, List, [], ◌∷◌, ◌++◌, map, filter, drop, get_or, length, Bool, true, false, ◌||◌, if◌then◌else◌, Option, None, Some, Result, Ok, Err, is_err, refl}
use Rattle.std.specs.Option.{ok_or, option_map, unwrap_or}
use Rattle.std.proofs.Common.{◌∙◌, ap, ap₂, subst, arith}
use Rattle.std.proofs.lemmas.List.{drop_more, at_drop_more, at_drop_all}
use Rattle.decimal18.specs.Bound.{Bound}
use Rattle.fixed_interval.specs.Interval.{Interval}
use Rattle.fixed_interval.specs.Rules.{zero_bound, floored_span}
use Rattle.fixed_interval.specs.Sums.{sum_of, zero_span, Continues, term_if}
use Rattle.fixed_interval.specs.declared.faults.Overflow.{Overflow}
use Rattle.fixed_interval.proofs.SumLoops.{Leaves, step_missing, at_end, whole_missing, whole_there, refused_answer}
use Rattle.covariance.specs.declared.group.Group.{Group as CodeGroup}
use Rattle.covariance.specs.Gradients.{Gradient, found_at}
use Rattle.covariance.specs.Groups.{Group, members, placed, group_of, IsRegular, AreRegular}
use Rattle.covariance.specs.Variances.{terms, cross_terms, at_key, at_places, meets, group_variance_span, group_covariance_span}
use Rattle.covariance.specs.Partial.{placed_at, placed_from, row_at, rows_from, cross_row_at, cross_rows_from, part_of, parts_of, cross_part_of, cross_parts_of}

-- ---- members by their places
pub placed_from-next : (g : Group ℕ) (i : ℕ) → i < length (members g) → placed_from g i ≡ placed_at g i ∷ placed_from g (i + 1)
placed_from-next g i h =
    let e : suc i ≡ i + 1 = omega arith in
    at_drop_more (placed i) (members g) i 0 h ∙ ap (λ k. placed_at g i ∷ placed k (drop (i + 1) (members g))) e

pub placed_from-end : (g : Group ℕ) (i : ℕ) → length (members g) ≤ i → placed_from g i ≡ []
placed_from-end g i h = at_drop_all (placed i) (members g) i h

pub members-next : (f : ℕ × ℕ → Option Interval) (g : Group ℕ) (j : ℕ) → j < length (members g)
    → map f (placed_from g j) ≡ (f (placed_at g j) ∷ []) ++ map f (placed_from g (j + 1))
members-next f g j h = ap (map f) (placed_from-next g j h)

pub members-end : (f : ℕ × ℕ → Option Interval) (g : Group ℕ) (j : ℕ) → length (members g) ≤ j → map f (placed_from g j) ≡ []
members-end f g j h = ap (map f) (placed_from-end g j h)

pub rows-next : (y : Gradient) (g : Group ℕ) (i : ℕ) → i < length (members g) → rows_from y g i ≡ row_at y g i ++ rows_from y g (i + 1)
rows-next y g i h = ap (terms (at_key (found_at y)) (at_places g)) (placed_from-next g i h)

pub rows-end : (y : Gradient) (g : Group ℕ) (i : ℕ) → length (members g) ≤ i → rows_from y g i ≡ []
rows-end y g i h = ap (terms (at_key (found_at y)) (at_places g)) (placed_from-end g i h)

pub cross_rows-next : (y z : Gradient) (g : Group ℕ) (i : ℕ) → i < length (members g)
    → cross_rows_from y z g i ≡ cross_row_at y z g i ++ cross_rows_from y z g (i + 1)
cross_rows-next y z g i h = ap (cross_terms (at_key (found_at y)) (at_key (found_at z)) (at_places g) (placed_from g 0)) (placed_from-next g i h)

pub cross_rows-end : (y z : Gradient) (g : Group ℕ) (i : ℕ) → length (members g) ≤ i → cross_rows_from y z g i ≡ []
cross_rows-end y z g i h = ap (cross_terms (at_key (found_at y)) (at_key (found_at z)) (at_places g) (placed_from g 0)) (placed_from-end g i h)

-- ---- groups that count
filtered : {K : Type 0} (counts : Group K → Bool) (span : Group K → Option Interval) (g : Group K) (gs : List (Group K))
    → map span (filter counts (g ∷ gs)) ≡ term_if (counts g) (span g) ++ map span (filter counts gs)
filtered counts span g gs = by (counts g) where
  by : (b : Bool) → map span (if b then g ∷ filter counts gs else filter counts gs) ≡ term_if b (span g) ++ map span (filter counts gs)
  by true = refl
  by false = refl

groups-next : (counts : Group ℕ → Bool) (span : Group ℕ → Option Interval) (gs : List CodeGroup) (i : ℕ) (g : CodeGroup) → i < length gs → get_or gs i g ≡ g
    → map span (filter counts (map group_of (drop i gs)))
    ≡ term_if (counts (group_of g)) (span (group_of g)) ++ map span (filter counts (map group_of (drop (i + 1) gs)))
groups-next counts span gs i g h e =
    at_drop_more (λ xs. map span (filter counts (map group_of xs))) gs i g h
    ∙ ap (λ x. map span (filter counts (map group_of (x ∷ drop (i + 1) gs)))) e
    ∙ filtered counts span (group_of g) (map group_of (drop (i + 1) gs))

groups-end : (counts : Group ℕ → Bool) (span : Group ℕ → Option Interval) (gs : List CodeGroup) (i : ℕ) → length gs ≤ i
    → map span (filter counts (map group_of (drop i gs))) ≡ []
groups-end counts span gs i h = at_drop_all (λ xs. map span (filter counts (map group_of xs))) gs i h

pub parts-next : (y : Gradient) (gs : List CodeGroup) (i : ℕ) (g : CodeGroup) → i < length gs → get_or gs i g ≡ g
    → parts_of y (map group_of (drop i gs)) ≡ part_of y (group_of g) ++ parts_of y (map group_of (drop (i + 1) gs))
parts-next y = groups-next (meets (found_at y)) (group_variance_span (found_at y))

pub parts-end : (y : Gradient) (gs : List CodeGroup) (i : ℕ) → length gs ≤ i → parts_of y (map group_of (drop i gs)) ≡ []
parts-end y = groups-end (meets (found_at y)) (group_variance_span (found_at y))

pub cross_parts-next : (y z : Gradient) (gs : List CodeGroup) (i : ℕ) (g : CodeGroup) → i < length gs → get_or gs i g ≡ g
    → cross_parts_of y z (map group_of (drop i gs)) ≡ cross_part_of y z (group_of g) ++ cross_parts_of y z (map group_of (drop (i + 1) gs))
cross_parts-next y z = groups-next (λ g. meets (found_at y) g || meets (found_at z) g) (group_covariance_span (found_at y) (found_at z))

pub cross_parts-end : (y z : Gradient) (gs : List CodeGroup) (i : ℕ) → length gs ≤ i → cross_parts_of y z (map group_of (drop i gs)) ≡ []
cross_parts-end y z = groups-end (λ g. meets (found_at y) g || meets (found_at z) g) (group_covariance_span (found_at y) (found_at z))

pub regular-next : (gs : List CodeGroup) (i : ℕ) (g : CodeGroup) → i < length gs → get_or gs i g ≡ g → AreRegular (map group_of (drop i gs))
    → IsRegular (group_of g) × AreRegular (map group_of (drop (i + 1) gs))
regular-next gs i g h e r = subst (λ xs. AreRegular (map group_of xs)) (drop_more gs i g h ∙ ap (λ x. x ∷ drop (i + 1) gs) e) r

-- a group's variance, which is the sum raised to 0
pub refused_group : (r : Result Interval Overflow) → is_err r ≡ true → (y : Gradient) (g : Group ℕ) (sum : Option Interval) (i : ℕ) → i < length (members g)
    → Leaves sum (rows_from y g i) None (rows_from y g 0) → Continues sum (row_at y g i) (Err (record {}))
    → r ≡ ok_or (group_variance_span (found_at y) g) (record {})
unfolding group_variance_span
refused_group r i y g sum j l h k =
    refused_answer r i _ (ap (option_map (λ s. floored_span s zero_bound))
    (whole_missing (rows_from y g 0) (record {}) (step_missing sum None (rows_from y g j) (row_at y g j) (rows_from y g (j + 1)) (rows_from y g 0) (record {}) (record {}) (rows-next y g j l) h k)))

pub group_there : (y : Gradient) (g : Group ℕ) (sum : Option Interval) (i : ℕ) (s r : Interval) (z : Bound) → length (members g) ≤ i
    → Leaves sum (rows_from y g i) None (rows_from y g 0) → s ≡ unwrap_or sum zero_span → z ≡ zero_bound → r ≡ floored_span s z
    → ◌≡◌ {A = Result Interval Overflow} (Ok r) (ok_or (group_variance_span (found_at y) g) (record {}))
unfolding group_variance_span
group_there y g sum i s r z l h k e f =
    let w : sum_of (rows_from y g 0) ≡ Some (unwrap_or sum zero_span) =
    whole_there (rows_from y g 0) sum (at_end sum None (rows_from y g i) (rows_from y g 0) (rows-end y g i l) h) in
    let v : r ≡ floored_span (unwrap_or sum zero_span) zero_bound = f ∙ ap₂ floored_span k e in
    rw (w, v) refl
