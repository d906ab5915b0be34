-- Small parts and groups, by which the definitions can be read.
use Rattle.std.specs.Prelude.{ℕ, List, [], ◌∷◌, pos, negsuc}
use Rattle.exact_fraction.specs.Number.{of_ℤ}
use Rattle.decimal18.specs.Bound.{Bound, scaled}
use Rattle.fixed_interval.specs.Interval.{point_span}
use Rattle.type_b.specs.declared.shape.Shape.TheVariants.{Std}
use Rattle.type_b.specs.declared.shape.Dof.{Dof}
use Rattle.type_b.specs.declared.shape.Dof.TheVariants.{Whole}
use Rattle.type_b.specs.Shapes.{inverse_degrees}
use Rattle.exact_law.specs.Degrees.{Share}
use Rattle.covariance.specs.Groups.{Group, Single, Columns}
use Rattle.eff_dof.specs.declared.part.Part.{Part}

abbrev pub whole : ℕ → Bound
whole n = scaled (pos n) 0

abbrev pub part : ℕ → Dof → Part
part n dof = record { variance = point_span (whole n); dof = dof }

-- a variance from 0 to 1, with 5 degrees of freedom
abbrev pub wide : Part
wide = record { variance = record { lo = whole 0; hi = whole 1 }; dof = Whole 5 }

-- a variance that may be below 0
abbrev pub below : Part
below = record { variance = record { lo = scaled (negsuc 0) 0; hi = whole 1 }; dof = Whole 5 }

abbrev pub share : ℕ → Dof → Share
share n dof = record { part = of_ℤ (pos n); inverse_degrees = inverse_degrees dof }

-- ---- groups of the inputs 1 and 2
-- an input alone, by its standard uncertainty
abbrev pub stated : ℕ → ℕ → Dof → Group ℕ
stated n u dof = Single n (Std (whole u)) dof

-- the standard uncertainties 1 and 2, with 5 and with 10 degrees of freedom
abbrev pub two_inputs : List (Group ℕ)
two_inputs = stated 1 1 (Whole 5) ∷ stated 2 2 (Whole 10) ∷ []

-- one reading, which leaves no degrees of freedom
abbrev pub one_reading : Group ℕ
one_reading = Columns (1 ∷ []) ((whole 1 ∷ []) ∷ [])

-- the parts 1 and 4 of two inputs
abbrev pub two_parts : List Part
two_parts = part 1 (Whole 5) ∷ part 4 (Whole 10) ∷ []
