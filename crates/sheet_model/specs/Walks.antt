-- A walk over the rows of a sheet, each of which uses quantities of the rows before it.
use Rattle.std.specs.Prelude.{◌≡◌, ℕ, false, bytes_eq, List, [], ◌∷◌, ◌++◌, map}
use Rattle.std.specs.List.{flat_map}
use Rattle.sheet_rows.specs.Rows.{Row}
use Rattle.sheet_rows.specs.Regular.{IsRegular}
use Rattle.value_cache.specs.Quantities.{Quantity, is_there}
use Rattle.value_cache.specs.Evaluable.{UsesOnly}
use Rattle.sheet_model.specs.Quantities.{row_quantities}

abbrev pub Quantities : Type 0
Quantities = List (Quantity (List ℕ))

abbrev pub names : Quantities → List (List ℕ)
names qs = map (λ q. q.key) qs

-- each of these quantities has another name than those before it
abbrev pub AreFresh : Quantities → Quantities → Type 0
AreFresh before [] = Unit {0}
AreFresh before (q ∷ qs) = (is_there bytes_eq before q.key ≡ false) × AreFresh (before ++ q ∷ []) qs

-- each of these quantities uses those before it
abbrev pub AllUseOnly : Quantities → Quantities → Type 0
AllUseOnly before [] = Unit {0}
AllUseOnly before (q ∷ qs) = UsesOnly bytes_eq before q.body × AllUseOnly (before ++ q ∷ []) qs

-- the row's quantities have new names and use quantities of the rows before it
pub record IsNext (before : List Row) (row : Row) : Type 0 where
  pub fresh : AreFresh (flat_map row_quantities before) (row_quantities row)
  pub known : AllUseOnly (flat_map row_quantities before) (row_quantities row)
  pub regular : IsRegular row

abbrev pub Follow : List Row → List Row → Type 0
Follow before [] = Unit {0}
Follow before (row ∷ rows) = IsNext before row × Follow (before ++ row ∷ []) rows
