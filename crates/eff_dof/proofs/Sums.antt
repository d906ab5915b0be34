-- The terms that loops over parts find.
use Rattle.std.specs.Prelude.{◌≡◌, ℕ, ◌+◌, ◌<◌, ◌≤◌, List, [], ◌∷◌, ◌++◌, map, filter, drop, get_or, length, Bool, true, false, if◌then◌else◌, Option, Some, refl}
use Rattle.std.proofs.Common.{sym, ◌∙◌, ap, subst}
use Rattle.std.proofs.lemmas.List.{drop_more, at_drop_more, at_drop_all}
use Rattle.decimal18.specs.Bound.{Bound}
use Rattle.fixed_interval.specs.Interval.{Interval}
use Rattle.fixed_interval.specs.Sums.{term_if}
use Rattle.eff_dof.specs.declared.part.Part.{Part}
use Rattle.eff_dof.specs.Parts.{AllParts}
use Rattle.eff_dof.specs.Degrees.{counts, term, terms, variances, counted_degrees, lesser_of, least_after}

-- ---- the parts from a place on
pub variances-next : (ps : List Part) (i : ℕ) (p : Part) → i < length ps → get_or ps i p ≡ p
    → variances (drop i ps) ≡ (Some p.variance ∷ []) ++ variances (drop (i + 1) ps)
variances-next ps i p h e = at_drop_more variances ps i p h ∙ ap (λ q. Some q.variance ∷ variances (drop (i + 1) ps)) e

pub variances-end : (ps : List Part) (i : ℕ) → length ps ≤ i → variances (drop i ps) ≡ []
variances-end ps i h = at_drop_all variances ps i h

filtered : (v : Interval) (p : Part) (ps : List Part) → terms v (p ∷ ps) ≡ term_if (counts p) (term v p) ++ terms v ps
filtered v p ps = by (counts p) where
  by : (b : Bool) → map (term v) (if b then p ∷ filter counts ps else filter counts ps) ≡ term_if b (term v p) ++ map (term v) (filter counts ps)
  by true = refl
  by false = refl

pub terms-next : (v : Interval) (ps : List Part) (i : ℕ) (p : Part) → i < length ps → get_or ps i p ≡ p
    → terms v (drop i ps) ≡ term_if (counts p) (term v p) ++ terms v (drop (i + 1) ps)
terms-next v ps i p h e =
    at_drop_more (terms v) ps i p h ∙ ap (λ q. terms v (q ∷ drop (i + 1) ps)) e ∙ filtered v p (drop (i + 1) ps)

pub terms-end : (v : Interval) (ps : List Part) (i : ℕ) → length ps ≤ i → terms v (drop i ps) ≡ []
terms-end v ps i h = at_drop_all (terms v) ps i h

pub all-next : (P : Part → Type 0) (ps : List Part) (i : ℕ) (p : Part) → i < length ps → get_or ps i p ≡ p → AllParts P (drop i ps)
    → P p × AllParts P (drop (i + 1) ps)
all-next P ps i p h e r = subst (AllParts P) (drop_more ps i p h ∙ ap (λ q. q ∷ drop (i + 1) ps) e) r

pub all-back : (P : Part → Type 0) (ps : List Part) (i : ℕ) (p : Part) → i < length ps → get_or ps i p ≡ p → P p → AllParts P (drop (i + 1) ps)
    → AllParts P (drop i ps)
all-back P ps i p h e q r = subst (AllParts P) (sym (drop_more ps i p h ∙ ap (λ q. q ∷ drop (i + 1) ps) e)) (q, r)

pub all-end : (P : Part → Type 0) (ps : List Part) (i : ℕ) → length ps ≤ i → AllParts P (drop i ps)
all-end P ps i h = subst (AllParts P) (sym (at_drop_all (λ xs. xs) ps i h)) tt

pub least-next : (b : Option Bound) (ps : List Part) (i : ℕ) (p : Part) → i < length ps → get_or ps i p ≡ p
    → least_after b (drop i ps) ≡ least_after (lesser_of b (counted_degrees p)) (drop (i + 1) ps)
least-next b ps i p h e =
    at_drop_more (least_after b) ps i p h ∙ ap (λ q. least_after (lesser_of b (counted_degrees q)) (drop (i + 1) ps)) e

pub least-end : (b : Option Bound) (ps : List Part) (i : ℕ) → length ps ≤ i → least_after b (drop i ps) ≡ b
least-end b ps i h = at_drop_all (least_after b) ps i h
