-- What `Cache` keeps: slots by numbers, each with the body of a quantity and its cell, once that is found.
use Rattle.std.specs.Prelude.{◌≡◌, ◌<◌, ℕ, nat_eq, bytes_eq, if◌then◌else◌, List, [], ◌∷◌, length, Option, None, Some}
use Rattle.std.specs.Option.{option_map, option_and_then, unwrap_or}
use Rattle.std.specs.Map.{lookup}
use Rattle.fixed_interval.specs.Interval.{Interval}
use Rattle.formula_ast.specs.Trees.{Tree, HasExponents, names_of}
use Rattle.formula_ast.specs.Views.{tree_of}
use Rattle.type_a.specs.Tables.{width_of}
use Rattle.value_cache.specs.Quantities.{Body, Input, Function, Column}
use Rattle.value_cache.specs.Evaluations.{Found, span_in}
use Rattle.value_cache.specs.Rules.{Bodies, AreRight}
use Rattle.value_cache.specs.declared.body.Body.{Body as CodeBody}
use Rattle.value_cache.specs.declared.body.Body.TheVariants.{Point, Column as CodeColumn, Formula as CodeFormula}
use Rattle.value_cache.specs.declared.cache.Slot.{Slot}

-- ---- names that stand for numbers
-- the number beside the first of the names that is n
abbrev pub id_of : List (List ℕ) → List ℕ → List ℕ → Option ℕ
id_of [] ids n = None
id_of (m ∷ ms) [] n = None
id_of (m ∷ ms) (id ∷ ids) n = if bytes_eq n m then Some id else id_of ms ids n

-- the same, and 0 where there is none
abbrev pub key_by : List (List ℕ) → List ℕ → List ℕ → ℕ
key_by names ids n = unwrap_or (id_of names ids n) 0

-- the span of the quantity for which a name stands
abbrev pub span_through : List (List ℕ) → List ℕ → Found ℕ → List ℕ → Option Interval
span_through names ids cells n = option_and_then (λ id. span_in (cells id)) (id_of names ids n)

-- ---- the code's bodies
abbrev pub body_view : CodeBody → Body ℕ
body_view (Point estimate) = Input estimate
body_view (CodeColumn readings column) = Column readings.value column
body_view (CodeFormula formula names ids) = Function (tree_of formula.value) (key_by names ids)

-- the names are those of the formula, with a number for each
pub record IsNumbered (f : Tree) (names : List (List ℕ)) (ids : List ℕ) : Type 0 where
  pub exponents : HasExponents f
  pub named : names ≡ names_of f
  pub numbers : length ids ≡ length names

abbrev pub IsPlaceable : CodeBody → Type 0
IsPlaceable (Point estimate) = Unit {0}
IsPlaceable (CodeColumn readings column) = column < width_of readings.value
IsPlaceable (CodeFormula formula names ids) = IsNumbered (tree_of formula.value) names ids

-- ---- slots
abbrev pub Slots : Type 0
Slots = List (ℕ × Slot)

-- the code's body of n
abbrev pub body_at : Slots → ℕ → Option CodeBody
body_at slots n = option_map (λ slot. slot.body) (lookup (nat_eq n) slots)

abbrev pub bodies_of : Slots → Bodies
bodies_of slots n = option_map body_view (body_at slots n)

abbrev pub cells_of : Slots → Found ℕ
cells_of slots n = option_and_then (λ slot. slot.cell) (lookup (nat_eq n) slots)

pub record IsCache (slots : Slots) : Type 0 where
  pub placeable : (n : ℕ) (body : CodeBody) → body_at slots n ≡ Some body → IsPlaceable body
  pub right : AreRight (bodies_of slots) (cells_of slots)
