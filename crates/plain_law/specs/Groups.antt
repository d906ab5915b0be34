-- The crate's groups of inputs as those of the definitions.
use Rattle.std.specs.Prelude.{ℕ, List, map, slice_get, pos}
use Rattle.std.specs.Option.{option_map_or}
use Rattle.exact_fraction.specs.Number.{ℚ, of_ℤ}
use Rattle.exact_law.specs.Law.{Column, Group, Own, Pair, Joint}
use Rattle.plain_law.specs.declared.fraction.Exact.{Exact}
use Rattle.plain_law.specs.declared.group.Column.{Column as WrittenColumn}
use Rattle.plain_law.specs.declared.group.Group.{Group as WrittenGroup}
use Rattle.plain_law.specs.declared.group.Group.TheVariants.{Own as AnOwn, Pair as APair, Joint as AJoint}
use Rattle.plain_law.specs.declared.model.Body.{Body as WrittenBody}
use Rattle.plain_law.specs.declared.model.Body.TheVariants.{Input as AnInput, Formula as AFormula}
use Rattle.plain_law.specs.Numbers.{number}

-- what the record t reads, and 0 past the end
abbrev pub reading : List Exact → ℕ → ℚ
reading readings t = option_map_or number (slice_get readings t) (of_ℤ (pos 0))

abbrev pub column : WrittenColumn → Column ℕ
column c = record { key = c.key; reading = reading c.readings.items }

abbrev pub columns : List WrittenColumn → List (Column ℕ)
columns cs = map column cs

abbrev pub group_of : WrittenGroup → Group ℕ
group_of (AnOwn k c d) = Own k (number c) (number d)
group_of (APair k m v w c d) = Pair k m (number v) (number w) (number c) (number d)
group_of (AJoint t) = Joint t.records (columns t.columns.items)

abbrev pub groups_of : List WrittenGroup → List (Group ℕ)
groups_of gs = map group_of gs

-- x where the row is an input, and 0 where it is a formula
abbrev pub if_input : WrittenBody → ℚ → ℚ
if_input (AnInput q) x = x
if_input (AFormula f) x = of_ℤ (pos 0)
