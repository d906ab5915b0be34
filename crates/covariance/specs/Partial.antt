-- The terms of sums of spans, some at a time as code finds them, over the numbers of quantities.
use Rattle.std.specs.Prelude.{ℕ, ◌+◌, List, map, filter, drop, get_or, ◌||◌, Option}
use Rattle.fixed_interval.specs.Interval.{Interval}
use Rattle.fixed_interval.specs.Sums.{term_if}
use Rattle.covariance.specs.Gradients.{Gradient, found_at}
use Rattle.covariance.specs.Groups.{Group, members, placed}
use Rattle.covariance.specs.Variances.{at_key, at_places, own_term, joint_term, twice_term, row_terms, terms, cross_terms, group_variance_span, group_covariance_span, meets}

-- the member at a place, with the place; and the members from a place on
abbrev pub placed_at : Group ℕ → ℕ → ℕ × ℕ
placed_at g i = (i, get_or (members g) i 0)

abbrev pub placed_from : Group ℕ → ℕ → List (ℕ × ℕ)
placed_from g i = placed i (drop i (members g))

-- ---- the terms of a variance
abbrev pub own_at : Gradient → Group ℕ → ℕ × ℕ → Option Interval
own_at y g p = own_term (at_key (found_at y) p) (at_places g p p)

abbrev pub twice_at : Gradient → Group ℕ → ℕ × ℕ → ℕ × ℕ → Option Interval
twice_at y g p q = twice_term (at_key (found_at y) p) (at_key (found_at y) q) (at_places g p q)

-- of the member at a place, and of the members from a place on
abbrev pub row_at : Gradient → Group ℕ → ℕ → List (Option Interval)
row_at y g i = row_terms (at_key (found_at y)) (at_places g) (placed_at g i) (placed_from g (i + 1))

abbrev pub rows_from : Gradient → Group ℕ → ℕ → List (Option Interval)
rows_from y g i = terms (at_key (found_at y)) (at_places g) (placed_from g i)

-- ---- the terms of a covariance
abbrev pub joint_at : Gradient → Gradient → Group ℕ → ℕ × ℕ → ℕ × ℕ → Option Interval
joint_at y z g p q = joint_term (at_key (found_at y) p) (at_key (found_at z) q) (at_places g p q)

abbrev pub cross_row_at : Gradient → Gradient → Group ℕ → ℕ → List (Option Interval)
cross_row_at y z g i = map (joint_at y z g (placed_at g i)) (placed_from g 0)

abbrev pub cross_rows_from : Gradient → Gradient → Group ℕ → ℕ → List (Option Interval)
cross_rows_from y z g i =
    cross_terms (at_key (found_at y)) (at_key (found_at z)) (at_places g) (placed_from g 0) (placed_from g i)

-- ---- groups
abbrev pub part_of : Gradient → Group ℕ → List (Option Interval)
part_of y g = term_if (meets (found_at y) g) (group_variance_span (found_at y) g)

abbrev pub parts_of : Gradient → List (Group ℕ) → List (Option Interval)
parts_of y groups = map (group_variance_span (found_at y)) (filter (meets (found_at y)) groups)

abbrev pub cross_part_of : Gradient → Gradient → Group ℕ → List (Option Interval)
cross_part_of y z g =
    term_if (meets (found_at y) g || meets (found_at z) g) (group_covariance_span (found_at y) (found_at z) g)

abbrev pub cross_parts_of : Gradient → Gradient → List (Group ℕ) → List (Option Interval)
cross_parts_of y z groups =
    map (group_covariance_span (found_at y) (found_at z)) (filter (λ g. meets (found_at y) g || meets (found_at z) g) groups)
