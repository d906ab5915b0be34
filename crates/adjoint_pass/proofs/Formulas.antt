-- A formula has the same span, and the same derivatives, where its names have the same spans.
use Rattle.std.specs.Prelude.{◌≡◌, ℕ, List, [], ◌∷◌, ◌++◌, Option, Some, None, refl}
use Rattle.std.specs.List.{AllByRecursion}
use Rattle.std.proofs.Common.{ap, ap₂}
use Rattle.fixed_interval.specs.Interval.{Interval}
use Rattle.fixed_interval.specs.Rules.{negative_span}
use Rattle.fixed_interval.specs.Powers.{then_span}
use Rattle.formula_ast.specs.Trees.{Tree, Number, Variable, Opposite, Joined, Raised, uses}
use Rattle.formula_box.specs.Values.{then_with, in_range, used, use_after, span_from, span_of}
use Rattle.formula_box.specs.Slopes.{occurs, there, where_used, slope_of, partial_of}
use Rattle.value_cache.proofs.Names.{AllNames}
use Rattle.adjoint_pass.specs.Sensitivities.{partial_by}

all_left : {X : Type 0} (P : X → Type 0) (xs ys : List X) → AllByRecursion P (xs ++ ys) → AllByRecursion P xs
all_left P [] ys h = tt
all_left P (x ∷ xs) ys h = (h.0, all_left P xs ys h.1)

all_right : {X : Type 0} (P : X → Type 0) (xs ys : List X) → AllByRecursion P (xs ++ ys) → AllByRecursion P ys
all_right P [] ys h = h
all_right P (x ∷ xs) ys h = all_right P xs ys h.1

-- what holds of each of the uses holds of each name
pub names_of_uses : (P : List ℕ → Type 0) (f : Tree) → AllByRecursion P (uses f) → AllNames P f
names_of_uses P (Number q) h = tt
names_of_uses P (Variable n) h = h.0
names_of_uses P (Opposite a) h = names_of_uses P a h
names_of_uses P (Joined s a b) h =
    (names_of_uses P a (all_left P (uses a) (uses b) h), names_of_uses P b (all_right P (uses a) (uses b) h))
names_of_uses P (Raised a e) h = names_of_uses P a h

from_same : (given others : List ℕ → Option Interval) (k : ℕ) (f : Tree) → AllNames (λ n. given n ≡ others n) f
    → span_from given k f ≡ span_from others k f
from_same given others k (Number q) h = refl
from_same given others k (Variable n) h = ap (used k) h
from_same given others k (Opposite a) h = rw (from_same given others k a h) refl
from_same given others k (Joined s a b) h =
    rw (from_same given others k a h.0, from_same given others (use_after k a) b h.1) refl
from_same given others k (Raised a e) h = rw (from_same given others k a h) refl

pub span_same : (given others : List ℕ → Option Interval) (f : Tree) → AllNames (λ n. given n ≡ others n) f → span_of given f ≡ span_of others f
unfolding span_of
span_same given others f h = from_same given others 0 f h

slope_same : (given others : List ℕ → Option Interval) (n : List ℕ) (f : Tree) → AllNames (λ m. given m ≡ others m) f
    → slope_of given n f ≡ slope_of others n f
slope_same given others n (Number q) h = refl
slope_same given others n (Variable m) h = refl
slope_same given others n (Opposite a) h =
    ap (λ d. where_used (occurs n a) (then_span d (λ s. Some (negative_span s)))) (slope_same given others n a h)
slope_same given others n (Joined s a b) h =
    rw (
      span_same given others a h.0,
      span_same given others b h.1,
      span_same given others (Joined s a b) h,
      slope_same given others n a h.0,
      slope_same given others n b h.1,
    ) refl
slope_same given others n (Raised a e) h =
    rw (span_same given others a h, span_same given others (Raised a e) h, slope_same given others n a h) refl

pub partial_same : (given others : List ℕ → Option Interval) (f : Tree) (o : Option (List ℕ)) → AllNames (λ m. given m ≡ others m) f
    → partial_by given f o ≡ partial_by others f o
unfolding partial_of
partial_same given others f None h = refl
partial_same given others f (Some n) h =
    ap₂ (λ r d. there (then_with r (λ value. in_range d))) (span_same given others f h) (slope_same given others n f h)
