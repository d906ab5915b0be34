-- Joint readings of quantities (JCGM 100:2008, 5.2.3, H.2): records, each of which has a reading of every
-- quantity. Readings of one quantity (4.2.1) are records of one reading. Which tables are taken is our rule.
use Rattle.std.specs.Prelude.{◌≡◌, ℕ, ◌+◌, ◌-◌, ◌^◌, ◌≤◌, max, Bool, not, ◌||◌, ◌==◌, cond, nat_le, nat_lt, List, [], ◌∷◌, map, length, get_or, Option, Some, None, Result, Ok, Err, ℤ, pos, ◌*ℤ◌, unsigned_abs}
use Rattle.std.specs.Global.{Vec}
use Rattle.std.specs.List.{position_from, list_any}
use Rattle.decimal18.specs.Bound.{Bound, scaled}
use Rattle.type_a.specs.declared.readings.ReadingsFault.{ReadingsFault}
use Rattle.type_a.specs.declared.readings.ReadingsFault.TheVariants.{TooFew, TooMany, Shape, Wide}

-- a record: a reading of each quantity
abbrev pub Record : Type 0
Record = List Bound

abbrev pub Table : Type 0
Table = List Record

-- readings of one quantity
abbrev pub single : List Bound → Table
single bs = map (λ b. b ∷ []) bs

-- the table that the code's rows are
abbrev pub table_of : List (Vec Bound) → Table
table_of rows = map (λ row. row.items) rows

-- how many readings a record has, by the first one
abbrev pub width_of : Table → ℕ
width_of [] = 0
width_of (r ∷ rs) = length r

-- the reading of a column in a record of the table
abbrev pub reading_at : Table → ℕ → ℕ → Bound
reading_at t row column = get_or (get_or t row []) column (scaled (pos 0) 0)

-- the finest place: the greatest number of places of all readings
abbrev pub places_in : Record → ℕ
places_in [] = 0
places_in (b ∷ bs) = max b.places (places_in bs)

abbrev pub finest : Table → ℕ
finest [] = 0
finest (r ∷ rs) = max (places_in r) (finest rs)

-- b times 10 ^ p, a whole number where b has at most p places
abbrev pub coefficient_at : ℕ → Bound → ℤ
coefficient_at p b = b.coefficient *ℤ pos (10 ^ (p - b.places))

-- ---- which tables are taken
-- the least and the most records, and the most readings of one
abbrev pub least_records : ℕ
least_records = 2

abbrev pub most_records : ℕ
most_records = 1000

abbrev pub most_readings : ℕ
most_readings = 8

-- the record has not 1 to 8 readings, or not as many as the first one
abbrev pub is_misshapen : ℕ → Record → Bool
is_misshapen width r = not (length r == width) || nat_lt (length r) 1 || nat_lt most_readings (length r)

-- a magnitude of 10^9 or more, or 10^15 or more units of the place p
abbrev pub is_wide : ℕ → Bound → Bool
is_wide p b =
    nat_le (10 ^ (9 + b.places)) (unsigned_abs b.coefficient) || nat_le (10 ^ 15) (unsigned_abs (coefficient_at p b))

abbrev pub has_wide : ℕ → Record → Bool
has_wide p r = list_any (is_wide p) r

-- the fault of the record at a place, and else a later one
abbrev pub first_of : (ℕ → ReadingsFault) → Option ℕ → Option ReadingsFault → Option ReadingsFault
first_of fault None later = later
first_of fault (Some place) later = Some (fault place)

-- why the table is not taken: the first reason in this order. Records are counted from 1
unfoldable pub refusal : Table → Option ReadingsFault
refusal t =
    first_of Shape (position_from (is_misshapen (width_of t)) 1 t)
    (cond (nat_lt (length t) least_records) (Some TooFew)
    (cond (nat_lt most_records (length t)) (Some TooMany)
    (first_of Wide (position_from (has_wide (finest t)) 1 t) None)))

-- the readings, or the refusal
abbrev pub unless : Option ReadingsFault → Table → Result Table ReadingsFault
unless None t = Ok t
unless (Some fault) t = Err fault

abbrev pub readings_of : Table → Result Table ReadingsFault
readings_of t = unless (refusal t) t

-- a table that is taken, with its finest place
pub record IsTaken (t : Table) (places : ℕ) : Type 0 where
  pub taken : refusal t ≡ None
  pub finest : places ≡ finest t
  pub most : places ≤ 36
