-- Names that rows use.
use Rattle.std.proofs.Common.{◌≡◌, ◌||◌, ℕ, List, [], ◌∷◌, None, Option, Some, is_some, false, refl}
use Rattle.std.specs.Option.{option_map_or}
use Rattle.std.proofs.Math.Bool.{and-true}
use Rattle.sheet_rows.specs.Rows.{Row, gives}
use Rattle.sheet_edits.specs.Places.{loses}
use Rattle.std.specs.List.{list_any}
use Rattle.std.proofs.lemmas.List.Folds.{list_any-append}

-- a name among those that two parts of a formula use
pub ruleset used_by_both = (list_any-append)

-- where nothing is in the place of the old row, its quantities are lost
pub lost_to_none : (old : Row) (us : List (List ℕ)) → list_any (loses old None) us ≡ list_any (gives old) us
lost_to_none old [] = refl
lost_to_none old (u ∷ us) = let first = and-true (gives old u) in let rest = lost_to_none old us in λ j. first j || rest j

-- ---- the parts of a name without a point
pub no_rest : {X : Type 0} (f : X → List (List ℕ)) (o : Option X) → is_some o ≡ false → option_map_or f o [] ≡ []
no_rest f None h = refl
no_rest f (Some x) h = absurd (cc)
