-- The groups of a sheet that stands have degrees of freedom in their range.
use Rattle.std.specs.Prelude.{◌≡◌, ℕ, ◌-◌, Bool, true, false, cond, nat_le, nat_lt, if◌then◌else◌, List, [], ◌∷◌, ◌++◌, map, length, Option, Some, None, Result, Ok, Err, IfOk, refl}
use Rattle.std.specs.List.{flat_map}
use Rattle.std.proofs.Common.{sym, ◌∙◌, ap, subst, arith}
use Rattle.std.proofs.lemmas.Bool.{and_from}
use Rattle.std.proofs.lemmas.Bool.Decides.{nat_tests}
use Rattle.type_a.specs.Tables.{Table, first_of, least_records, most_records, refusal}
use Rattle.type_a.specs.declared.readings.ReadingsFault.{ReadingsFault}
use Rattle.type_a.specs.declared.readings.ReadingsFault.TheVariants.{Shape as Misshapen, TooFew, TooMany}
use Rattle.type_b.specs.Shapes.{IsDegrees}
use Rattle.type_b.specs.declared.shape.Dof.TheVariants.{Whole}
use Rattle.covariance.specs.Groups.{Group, Single, Pair, Columns, AreRegular as GroupsAreRegular}
use Rattle.covariance.specs.Renaming.{renamed_group}
use Rattle.eff_dof.specs.GroupParts.{HasDegrees, HaveDegrees}
use Rattle.sheet_rows.specs.Rows.{Row, Given, Readings, Joint, Correlation, Formula, Tolerance, Sheet, sheet_of}
use Rattle.sheet_rows.specs.Regular.{AreRegular}
use Rattle.sheet_rows.specs.Sheets.{IsStanding}
use Rattle.sheet_model.specs.Quantities.{quantities}
use Rattle.sheet_model.specs.Groups.{is_correlated, row_groups, groups}
use Rattle.sheet_model.specs.Numbering.{number_among}
use Rattle.edit_session.specs.Asking.{AreGroupsIn}

-- ---- a table that is taken has 2 to 1000 records
no_shape : (o : Option ℕ) (later : Option ReadingsFault) → first_of Misshapen o later ≡ None → later ≡ None
no_shape None later e = e
no_shape (Some place) later e = absurd (cc)

counted : (n : ℕ) (rest : Option ReadingsFault) → cond (nat_lt n least_records) (Some TooFew) (cond (nat_lt most_records n) (Some TooMany) rest) ≡ None
    → IsDegrees (Whole (n - 1))
counted n rest e = by (nat_lt n least_records) refl (nat_lt most_records n) refl e where
  by : (a : Bool) → nat_lt n least_records ≡ a → (b : Bool) → nat_lt most_records n ≡ b → cond a (Some TooFew) (cond b (Some TooMany) rest) ≡ None
      → IsDegrees (Whole (n - 1))
  by true f b g h = absurd (cc)
  by false f true g h = absurd (cc)
  by false f false g h = and_from (nat_le 1 (n - 1)) (nat_le (n - 1) 1000000) (grind (arith, nat_tests)) (grind (arith, nat_tests))

taken_degrees : (table : Table) → refusal table ≡ None → IsDegrees (Whole (length table - 1))
unfolding refusal
taken_degrees table h = counted (length table) _ (no_shape _ _ h)

-- ---- groups
alone_degrees : (t : Bool) (g : Group (List ℕ)) (gs : List (Group (List ℕ))) → HasDegrees g → HaveDegrees gs → HaveDegrees ((if t then [] else g ∷ []) ++ gs)
alone_degrees true g gs h k = k
alone_degrees false g gs h k = (h, k)

groups_degrees : (rows xs : List Row) → AreRegular xs → HaveDegrees (flat_map (row_groups rows) xs)
groups_degrees rows [] h = tt
groups_degrees rows (Given name estimate shape dof ∷ xs) h =
    alone_degrees (is_correlated rows name) (Single name shape dof) (flat_map (row_groups rows) xs) h.0.4 (groups_degrees rows xs h.1)
groups_degrees rows (Readings name table ∷ xs) h = (taken_degrees table h.0.3, groups_degrees rows xs h.1)
groups_degrees rows (Joint name columns table ∷ xs) h = (taken_degrees table h.0.4, groups_degrees rows xs h.1)
groups_degrees rows (Correlation name first second r ∷ xs) h = (refl, groups_degrees rows xs h.1)
groups_degrees rows (Formula name f ∷ xs) h = groups_degrees rows xs h.1
groups_degrees rows (Tolerance name rule ∷ xs) h = groups_degrees rows xs h.1

pub sheet_degrees : (sheet : Sheet) → IsStanding sheet → HaveDegrees (groups sheet)
sheet_degrees sheet h = groups_degrees sheet.rows sheet.rows h.regular

-- ---- by numbers
renamed_degrees : (f : List ℕ → ℕ) (g : Group (List ℕ)) → HasDegrees g → HasDegrees (renamed_group f g)
renamed_degrees f (Single k shape dof) h = h
renamed_degrees f (Pair k s m t r) h = h
renamed_degrees f (Columns ks readings) h = h

pub numbered_degrees : (f : List ℕ → ℕ) (gs : List (Group (List ℕ))) → HaveDegrees gs → HaveDegrees (map (renamed_group f) gs)
numbered_degrees f [] h = tt
numbered_degrees f (g ∷ gs) h = (renamed_degrees f g h.0, numbered_degrees f gs h.1)

-- the groups that are found for the rows of the sheet
pub groups_found : {E : Type 0} (sheet : Sheet) → IsStanding sheet → (rows : List Row) → rows ≡ sheet.rows → (r : Result (List (Group ℕ)) E)
    → IfOk r (λ found. found ≡ map (renamed_group (number_among (quantities (sheet_of rows)))) (groups (sheet_of rows))) → IfOk r GroupsAreRegular
    → IfOk r (AreGroupsIn sheet)
groups_found sheet h rows same (Err fault) are regular = tt
groups_found sheet h rows same (Ok found) are regular =
    let by_numbers : found ≡ map (renamed_group (number_among (quantities sheet))) (groups sheet) =
    are ∙ ap (λ xs. map (renamed_group (number_among (quantities (sheet_of xs)))) (groups (sheet_of xs))) same in
    record {
      are = by_numbers;
      regular = regular;
      degrees = subst HaveDegrees (sym by_numbers) (numbered_degrees (number_among (quantities sheet)) (groups sheet) (sheet_degrees sheet h));
    }
