-- The inputs of a sheet that stands, with the spans of their variances, and its groups under the names of their rows.
use Rattle.std.specs.Prelude.{◌≡◌, ◌⊎◌, ℕ, suc, ◌+◌, Bool, true, false, ◌||◌, not, is_some, if◌then◌else◌, List, [], ◌∷◌, ◌++◌, map, length, All, Some, None, Ok, bytes_eq, refl}
use Rattle.std.specs.List.{AllByRecursion, list_any, list_all, flat_map}
use Rattle.std.proofs.Common.{sym, ◌∙◌, ap, ap₂, subst, arith, inl, inr}
use Rattle.std.proofs.lemmas.Bool.{true≢false, and_parts}
use Rattle.std.proofs.lemmas.Grind.{flat_map-append}
use Rattle.std.proofs.lemmas.List.{append_assoc, map-append, length-map, length-append}
use Rattle.std.proofs.lemmas.List.Elements.{All-from_recursion}
use Rattle.std.proofs.lemmas.List.Folds.{list_any-append}
use Rattle.exact_fraction.specs.Number.{◌*ℚ◌}
use Rattle.exact_law.specs.Model.{absent, once}
use Rattle.exact_law.specs.Law.{Column, PartTheInputs, OnceAmong, covariance, covariance_in, members}
use Rattle.exact_law.proofs.Parting.{own_group, own_entry, pair_entries, table_entry}
use Rattle.decimal18.specs.Bound.{Bound}
use Rattle.fixed_interval.specs.Sums.{Holds}
use Rattle.type_a.specs.Tables.{Table}
use Rattle.type_a.specs.Statistics.{joint_span}
use Rattle.type_b.specs.declared.shape.Shape.{Shape}
use Rattle.type_b.specs.declared.shape.Shape.TheVariants.{Exact, Std, Exp, Norm, Rect, Tri, Trap, Arcsine}
use Rattle.type_b.specs.declared.shape.Dof.{Dof}
use Rattle.type_b.specs.Shapes.{checked}
use Rattle.type_b.specs.Variances.{deviation_of, states_deviation, variance_of, variance_span}
use Rattle.type_b.proofs.Enclosed.{variance_holds}
use Rattle.sheet_rows.specs.Rows.{Row, Given, Readings, Joint, Correlation, Formula, Tolerance, Sheet, name_of, column_name, column_names, correlates, gives_input}
use Rattle.sheet_rows.specs.Regular.{IsRegular, AreRegular}
use Rattle.sheet_rows.specs.Sheets.{is_among, is_named, is_correlatable_in, repeated_name, are_correlatable, are_named_once, has_input, IsStanding}
use Rattle.sheet_rows.proofs.Tests.{named_itself, other_way, same_name}
use Rattle.covariance.specs.Groups.{Group, Single, Pair, Columns, IsRegular as GroupIsRegular, AreRegular as GroupsAreRegular, placed, column, exact_group}
use Rattle.covariance.proofs.Enclosed.{within_holds}
use Rattle.sheet_model.specs.Budgets.{NamedGroup, IsEnclosed, column_variances, row_variances, variances, row_named_groups, named_groups, row_names, group_names}
use Rattle.sheet_model.specs.Groups.{inputs, is_correlated, shape_of_row, shape_in, row_groups, groups, exact_groups}
use Rattle.sheet_model.specs.declared.variances.InputVariance.{InputVariance}
use Rattle.sheet_model.proofs.Counts.{one_if, count, count_append, count_distinct, absent_counted, once_counted, later}
use Rattle.sheet_model.proofs.Formulas.{same_names}
use Rattle.sheet_model.proofs.Fresh.{distinct_quantities}
use Rattle.sheet_model.proofs.Members.{input_names, inputs_are}
use Rattle.sheet_model.proofs.Parted.{parted, regular_groups}
use Rattle.sheet_model.proofs.Stated.{once_before}

-- ---- names
names_of_columns : (name : List ℕ) (table : Table) (place : ℕ) (columns : List (List ℕ))
    → map (λ (i : InputVariance). i.name) (column_variances name table place columns) ≡ column_names name columns
names_of_columns name table place [] = refl
names_of_columns name table place (column ∷ columns) = ap (λ ns. column_name name column ∷ ns) (names_of_columns name table (place + 1) columns)

names_of_row : (row : Row) → map (λ (i : InputVariance). i.name) (row_variances row) ≡ input_names row
names_of_row (Given name estimate shape dof) = refl
names_of_row (Readings name table) = refl
names_of_row (Joint name columns table) = names_of_columns name table 0 columns
names_of_row (Correlation name first second coefficient) = refl
names_of_row (Formula name f) = refl
names_of_row (Tolerance name rule) = refl

-- what is made of each row, put together
map_rows : {A B : Type 0} (f : A → B) (g : Row → List A) (k : Row → List B) → ((row : Row) → map f (g row) ≡ k row) → (rows : List Row)
    → map f (flat_map g rows) ≡ flat_map k rows
map_rows f g k e [] = refl
map_rows f g k e (row ∷ rows) = map-append f (g row) (flat_map g rows) ∙ ap₂ (λ a b. a ++ b) (e row) (map_rows f g k e rows)

pub names_are_inputs : (sheet : Sheet) → map (λ (i : InputVariance). i.name) (variances sheet) ≡ inputs sheet
names_are_inputs sheet =
    map_rows (λ (i : InputVariance). i.name) row_variances input_names names_of_row sheet.rows ∙ sym (inputs_are sheet.rows)

-- ---- each name is that of an input
any_rows : (f : Row → List (List ℕ)) (n : List ℕ) (rows : List Row) → list_any (bytes_eq n) (flat_map f rows) ≡ list_any (λ row. list_any (bytes_eq n) (f row)) rows
any_rows f n [] = refl
any_rows f n (row ∷ rows) =
    list_any-append (bytes_eq n) (f row) (flat_map f rows) ∙ ap (λ b. list_any (bytes_eq n) (f row) || b) (any_rows f n rows)

given_by_name : (n : List ℕ) (row : Row) → list_any (bytes_eq n) (input_names row) ≡ gives_input row n
given_by_name n (Given name estimate shape dof) = refl
given_by_name n (Readings name table) = refl
given_by_name n (Joint name columns table) = refl
given_by_name n (Correlation name first second coefficient) = refl
given_by_name n (Formula name f) = refl
given_by_name n (Tolerance name rule) = refl

any_given : (n : List ℕ) (rows : List Row) → list_any (λ row. list_any (bytes_eq n) (input_names row)) rows ≡ list_any (λ row. gives_input row n) rows
any_given n [] = refl
any_given n (row ∷ rows) = ap₂ (λ a b. a || b) (given_by_name n row) (any_given n rows)

there_again : (done : List (List ℕ)) (n : List ℕ) (rest : List (List ℕ)) → list_any (bytes_eq n) (done ++ n ∷ rest) ≡ true
there_again [] n rest = ap (λ b. b || list_any (bytes_eq n) rest) (named_itself n)
there_again (m ∷ ms) n rest = later (bytes_eq n m) _ (there_again ms n rest)

each_there : (P : List ℕ → Type 0) (all : List (List ℕ)) → ((n : List ℕ) → list_any (bytes_eq n) all ≡ true → P n) → (done : List (List ℕ)) (is : List InputVariance)
    → done ++ map (λ (i : InputVariance). i.name) is ≡ all → AllByRecursion (λ (i : InputVariance). P i.name) is
each_there P all h done [] e = tt
each_there P all h done (i ∷ is) e = (
  h i.name (ap (list_any (bytes_eq i.name)) (sym e) ∙ there_again done i.name (map (λ (j : InputVariance). j.name) is)),
  each_there P all h (done ++ i.name ∷ []) is (append_assoc done (i.name ∷ []) (map (λ (j : InputVariance). j.name) is) ∙ e),
)

pub names_are_there : (sheet : Sheet) → All (λ (i : InputVariance). has_input sheet i.name ≡ true) (variances sheet)
names_are_there sheet =
    All-from_recursion (λ (i : InputVariance). has_input sheet i.name ≡ true) (variances sheet)
    (each_there (λ n. has_input sheet n ≡ true) (flat_map input_names sheet.rows)
    (λ n e. sym (any_given n sheet.rows) ∙ sym (any_rows input_names n sheet.rows) ∙ e) [] (variances sheet)
    (map_rows (λ (i : InputVariance). i.name) row_variances input_names names_of_row sheet.rows))

-- ---- names of groups
pub names_of_groups : (sheet : Sheet) → flat_map (row_names sheet.rows) sheet.rows ≡ group_names sheet
names_of_groups sheet =
    sym (map_rows (λ (g : NamedGroup). g.name) (row_named_groups sheet.rows) (row_names sheet.rows) (λ row. refl) sheet.rows)

unnamed : (name : List ℕ) (gs : List (Group (List ℕ))) → map (λ (g : NamedGroup). g.group) (map (λ g. record { name = name; group = g }) gs) ≡ gs
unnamed name [] = refl
unnamed name (g ∷ gs) = ap (λ hs. g ∷ hs) (unnamed name gs)

pub groups_are_named : (sheet : Sheet) → map (λ (g : NamedGroup). g.group) (named_groups sheet) ≡ groups sheet
groups_are_named sheet =
    map_rows (λ (g : NamedGroup). g.group) (row_named_groups sheet.rows) (row_groups sheet.rows) (λ row. unnamed (name_of row) (row_groups sheet.rows row)) sheet.rows

-- ---- a group among others
abbrev Groups : Type 0
Groups = List (Group (List ℕ))

record IsAmong (gs : Groups) (g : Group (List ℕ)) : Type 0 where
  before : Groups
  after : Groups
  is : gs ≡ before ++ g ∷ after

among_first : (g : Group (List ℕ)) (gs : Groups) → IsAmong (g ∷ gs) g
among_first g gs = record { before = []; after = gs; is = refl }

among_left : (gs hs : Groups) (g : Group (List ℕ)) → IsAmong gs g → IsAmong (gs ++ hs) g
among_left gs hs g a =
    record { before = a.before; after = a.after ++ hs; is = ap (λ xs. xs ++ hs) a.is ∙ append_assoc a.before (g ∷ a.after) hs }

among_right : (hs gs : Groups) (g : Group (List ℕ)) → IsAmong gs g → IsAmong (hs ++ gs) g
among_right hs gs g a =
    record { before = hs ++ a.before; after = a.after; is = ap (λ xs. hs ++ xs) a.is ∙ sym (append_assoc hs a.before (g ∷ a.after)) }

among_regular : (gs : Groups) (g : Group (List ℕ)) → IsAmong gs g → GroupsAreRegular gs → GroupIsRegular g
among_regular gs g a h = by a.before (subst GroupsAreRegular a.is h) where
  by : (before : Groups) → GroupsAreRegular (before ++ g ∷ a.after) → GroupIsRegular g
  by [] k = k.0
  by (b ∷ bs) k = by bs k.1

-- a group of one of the rows
of_row : (rows before : List Row) (row : Row) (rest : List Row) (g : Group (List ℕ)) → before ++ row ∷ rest ≡ rows → IsAmong (row_groups rows row) g
    → IsAmong (flat_map (row_groups rows) rows) g
of_row rows before row rest g split a =
    subst (λ gs. IsAmong gs g) (sym (flat_map-append (row_groups rows) before (row ∷ rest)) ∙ ap (flat_map (row_groups rows)) split)
    (among_right (flat_map (row_groups rows) before) (row_groups rows row ++ flat_map (row_groups rows) rest) g
    (among_left (row_groups rows row) (flat_map (row_groups rows) rest) g a))

-- ---- the variance that a shape states
squared : (s : Shape) → states_deviation s ≡ true → variance_of s ≡ deviation_of s *ℚ deviation_of s
squared Exact e = absurd (true≢false (sym e))
squared (Std u) e = refl
squared (Exp expanded k) e = refl
squared (Norm half level) e = refl
squared (Rect half) e = absurd (true≢false (sym e))
squared (Tri half) e = absurd (true≢false (sym e))
squared (Trap half beta) e = absurd (true≢false (sym e))
squared (Arcsine half) e = absurd (true≢false (sym e))

-- the row of an input states its shape
stated_there : (before : List Row) (row : Row) (rest : List Row) → is_among before (name_of row) ≡ false → shape_in (before ++ row ∷ rest) (name_of row) ≡ shape_of_row row
stated_there [] row rest e = ap (λ t. if t then shape_of_row row else shape_in rest (name_of row)) (named_itself (name_of row))
stated_there (b ∷ bs) row rest e = by (is_named (name_of row) b) e (stated_there bs row rest) where
  by : (t : Bool) → (t || is_among bs (name_of row)) ≡ false → (is_among bs (name_of row) ≡ false → shape_in (bs ++ row ∷ rest) (name_of row) ≡ shape_of_row row)
      → (if t then shape_of_row b else shape_in (bs ++ row ∷ rest) (name_of row)) ≡ shape_of_row row
  by true f k = absurd (true≢false f)
  by false f k = k f

-- ---- a correlated input is in a pair
record IsPaired (rows xs : List Row) (n : List ℕ) : Type 0 where
  first : List ℕ
  second : List ℕ
  coefficient : Bound
  among : IsAmong (flat_map (row_groups rows) xs) (Pair first (shape_in rows first) second (shape_in rows second) coefficient)
  apart : bytes_eq first second ≡ false
  which : (n ≡ first) ⊎ (n ≡ second)

different : (first second : List ℕ) (t : Bool) → bytes_eq first second ≡ t → not (is_some (if t then Some second else None)) ≡ true → bytes_eq first second ≡ false
different first second true e h = absurd (true≢false (sym h))
different first second false e h = e

one_of : (n first second : List ℕ) (t u : Bool) → bytes_eq n first ≡ t → bytes_eq n second ≡ u → (t || (u || false)) ≡ true → (n ≡ first) ⊎ (n ≡ second)
one_of n first second true u e f h = inl (same_name n first e)
one_of n first second false true e f h = inr (same_name n second f)
one_of n first second false false e f h = absurd (true≢false (sym h))

paired_by : (rows : List Row) (n : List ℕ) (row : Row) (xs : List Row) → are_correlatable rows row ≡ true → correlates row n ≡ true → IsPaired rows (row ∷ xs) n
paired_by rows n (Given name estimate shape dof) xs may e = absurd (true≢false (sym e))
paired_by rows n (Readings name table) xs may e = absurd (true≢false (sym e))
paired_by rows n (Joint name columns table) xs may e = absurd (true≢false (sym e))
paired_by rows n (Correlation name first second coefficient) xs may e = record {
  first = first;
  second = second;
  coefficient = coefficient;
  among = among_first _ (flat_map (row_groups rows) xs);
  apart =
      different first second (bytes_eq first second) refl
      (and_parts (list_all (is_correlatable_in rows) (first ∷ second ∷ [])) (not (is_some (repeated_name (Correlation name first second coefficient)))) may).1;
  which = one_of n first second (bytes_eq n first) (bytes_eq n second) refl refl e;
}
paired_by rows n (Formula name f) xs may e = absurd (true≢false (sym e))
paired_by rows n (Tolerance name rule) xs may e = absurd (true≢false (sym e))

paired_later : (rows : List Row) (n : List ℕ) (row : Row) (xs : List Row) → IsPaired rows xs n → IsPaired rows (row ∷ xs) n
paired_later rows n row xs p = record {
  first = p.first;
  second = p.second;
  coefficient = p.coefficient;
  among = among_right (row_groups rows row) (flat_map (row_groups rows) xs) _ p.among;
  apart = p.apart;
  which = p.which;
}

paired : (rows : List Row) (n : List ℕ) (xs : List Row) → list_all (are_correlatable rows) xs ≡ true → is_correlated xs n ≡ true → IsPaired rows xs n
paired rows n [] may e = absurd (true≢false (sym e))
paired rows n (x ∷ xs) may e = by (correlates x n) refl e (paired rows n xs both.1) where
  both : (are_correlatable rows x ≡ true) × (list_all (are_correlatable rows) xs ≡ true)
  both = and_parts (are_correlatable rows x) (list_all (are_correlatable rows) xs) may

  by : (t : Bool) → correlates x n ≡ t → (t || is_correlated xs n) ≡ true → (is_correlated xs n ≡ true → IsPaired rows xs n) → IsPaired rows (x ∷ xs) n
  by true g h rest = paired_by rows n x xs both.0 g
  by false g h rest = paired_later rows n x xs (rest h)

-- ---- columns
keys_are : (table : Table) (place : ℕ) (ns : List (List ℕ)) → map (λ (a : Column (List ℕ)). a.key) (map (column table) (placed place ns)) ≡ ns
keys_are table place [] = refl
keys_are table place (n ∷ ns) = ap (λ ms. n ∷ ms) (keys_are table (suc place) ns)

placed_split : (i : ℕ) (xs : List (List ℕ)) (k : List ℕ) (ys : List (List ℕ)) (p : ℕ) → p ≡ i + length xs
    → placed i (xs ++ k ∷ ys) ≡ placed i xs ++ (p, k) ∷ placed (suc p) ys
placed_split i [] k ys p e = ap (λ q. (q, k) ∷ placed (suc q) ys) (omega (arith, e))
placed_split i (x ∷ xs) k ys p e = ap (λ ps. (i, x) ∷ ps) (placed_split (suc i) xs k ys p (omega (arith, e)))

apart_in : (k : List ℕ) (xs ys : List (List ℕ)) → count k (xs ++ k ∷ ys) ≡ 1 → (count k xs ≡ 0) × (count k ys ≡ 0)
apart_in k xs ys e =
    let sum : count k xs + (1 + count k ys) ≡ 1 =
    ap (λ b. count k xs + (one_if b + count k ys)) (sym (named_itself k)) ∙ sym (count_append k xs (k ∷ ys)) ∙ e in
    (omega (arith, sum), omega (arith, sum))

column_once : (table : Table) (ks done : List (List ℕ)) (k : List ℕ) (rest : List (List ℕ)) (p : ℕ) → ks ≡ done ++ k ∷ rest → p ≡ length done → count k ks ≡ 1
    → OnceAmong bytes_eq (column table (p, k)) (map (column table) (placed 0 ks))
column_once table ks done k rest p split e one =
    let none = apart_in k done rest (ap (count k) (sym split) ∙ one) in
    record {
      before = map (column table) (placed 0 done);
      after = map (column table) (placed (suc p) rest);
      is_one =
          ap (λ ns. map (column table) (placed 0 ns)) split
          ∙ ap (map (column table)) (placed_split 0 done k rest p (omega (arith, e)))
          ∙ map-append (column table) (placed 0 done) ((p, k) ∷ placed (suc p) rest);
      absent_before = ap (absent bytes_eq k) (keys_are table 0 done) ∙ absent_counted k done none.0;
      absent_after = ap (absent bytes_eq k) (keys_are table (suc p) rest) ∙ absent_counted k rest none.1;
    }

-- ---- enclosures
module _ (sheet : Sheet) (h : IsStanding sheet) where
  own_covariance : (g : Group (List ℕ)) → IsAmong (groups sheet) g → (x : List ℕ) → once bytes_eq x (members (exact_group g)) ≡ true
      → covariance bytes_eq (exact_groups sheet) x x ≡ covariance_in bytes_eq (exact_group g) x x
  own_covariance g a x o =
      let split : exact_groups sheet ≡ map exact_group a.before ++ exact_group g ∷ map exact_group a.after =
      ap (map exact_group) a.is ∙ map-append exact_group a.before (g ∷ a.after) in
      ap (λ gs. covariance bytes_eq gs x x) split
      ∙ own_group bytes_eq same_names (inputs sheet) (map exact_group a.before) (map exact_group a.after) (exact_group g)
      (subst (PartTheInputs bytes_eq (inputs sheet)) split (parted sheet h)) x x o

  alone_holds : (name : List ℕ) (shape : Shape) (dof : Dof) → IsAmong (groups sheet) (Single name shape dof) → checked shape ≡ Ok (record {})
      → Holds (variance_span shape) (covariance bytes_eq (exact_groups sheet) name name)
  unfolding members
  alone_holds name shape dof a states =
      subst (Holds (variance_span shape))
      (sym (own_covariance (Single name shape dof) a name (once_counted name (name ∷ []) (ap (λ b. one_if b + 0) (named_itself name)))
      ∙ own_entry bytes_eq same_names name (variance_of shape) _))
      (variance_holds shape states)

  -- of a pair that is among the groups
  module _ (first second : List ℕ) (s t : Shape) (r : Bound) (a : IsAmong (groups sheet) (Pair first s second t r)) (apart : bytes_eq first second ≡ false) where
    pair_regular : GroupIsRegular (Pair first s second t r)
    pair_regular = among_regular (groups sheet) (Pair first s second t r) a (regular_groups sheet h)

    first_holds : Holds (variance_span s) (covariance bytes_eq (exact_groups sheet) first first)
    unfolding members
    first_holds =
        subst (Holds (variance_span s))
        (squared s pair_regular.1
        ∙ sym (own_covariance (Pair first s second t r) a first
        (once_counted first (first ∷ second ∷ []) (ap₂ (λ b c. one_if b + (one_if c + 0)) (named_itself first) (other_way first second apart)))
        ∙ (pair_entries bytes_eq same_names first second _ _ _ _ apart).0))
        (variance_holds s pair_regular.0)

    second_holds : Holds (variance_span t) (covariance bytes_eq (exact_groups sheet) second second)
    unfolding members
    second_holds =
        subst (Holds (variance_span t))
        (squared t pair_regular.3
        ∙ sym (own_covariance (Pair first s second t r) a second
        (once_counted second (first ∷ second ∷ []) (ap₂ (λ b c. one_if b + (one_if c + 0)) apart (named_itself second)))
        ∙ (pair_entries bytes_eq same_names first second _ _ _ _ apart).1))
        (variance_holds t pair_regular.2)

  pair_holds : (name : List ℕ) → IsPaired sheet.rows sheet.rows name → Holds (variance_span (shape_in sheet.rows name)) (covariance bytes_eq (exact_groups sheet) name name)
  pair_holds name p = by p.which where
    by : (name ≡ p.first) ⊎ (name ≡ p.second) → Holds (variance_span (shape_in sheet.rows name)) (covariance bytes_eq (exact_groups sheet) name name)
    by (inl e) =
        subst (λ n. Holds (variance_span (shape_in sheet.rows n)) (covariance bytes_eq (exact_groups sheet) n n)) (sym e)
        (first_holds p.first p.second _ _ p.coefficient p.among p.apart)
    by (inr e) =
        subst (λ n. Holds (variance_span (shape_in sheet.rows n)) (covariance bytes_eq (exact_groups sheet) n n)) (sym e)
        (second_holds p.first p.second _ _ p.coefficient p.among p.apart)

  column_holds : (ks : List (List ℕ)) (table : Table) → IsAmong (groups sheet) (Columns ks table) → (done : List (List ℕ)) (k : List ℕ) (rest : List (List ℕ)) (p : ℕ)
      → ks ≡ done ++ k ∷ rest → p ≡ length done → count k ks ≡ 1 → Holds (joint_span table p p) (covariance bytes_eq (exact_groups sheet) k k)
  unfolding members
  column_holds ks table a done k rest p split e one =
      let g : Group (List ℕ) = Columns ks table in
      let own = column_once table ks done k rest p split e one in
      subst (Holds (joint_span table p p))
      (sym (own_covariance g a k (ap (once bytes_eq k) (keys_are table 0 ks) ∙ once_counted k ks one)
      ∙ table_entry bytes_eq same_names (length table) (map (column table) (placed 0 ks)) (column table (p, k)) (column table (p, k)) own own))
      (within_holds g (among_regular (groups sheet) g a (regular_groups sheet h)) p p)

  -- ---- each row
  given_holds : (before rest : List Row) (name : List ℕ) (estimate : Bound) (shape : Shape) (dof : Dof) → before ++ Given name estimate shape dof ∷ rest ≡ sheet.rows
      → checked shape ≡ Ok (record {}) → Holds (variance_span shape) (covariance bytes_eq (exact_groups sheet) name name)
  given_holds before rest name estimate shape dof split states = by (is_correlated sheet.rows name) refl where
    row : Row
    row = Given name estimate shape dof

    shape_is : shape_in sheet.rows name ≡ shape
    shape_is =
        ap (λ rows. shape_in rows name) (sym split)
        ∙ stated_there before row rest (once_before before row rest (ap are_named_once split ∙ h.well_formed.once))

    by : (t : Bool) → is_correlated sheet.rows name ≡ t → Holds (variance_span shape) (covariance bytes_eq (exact_groups sheet) name name)
    by true e =
        subst (λ s. Holds (variance_span s) (covariance bytes_eq (exact_groups sheet) name name)) shape_is
        (pair_holds name (paired sheet.rows name sheet.rows h.well_formed.correlatable e))
    by false e =
        alone_holds name shape dof
        (of_row sheet.rows before row rest (Single name shape dof) split
        (subst (λ gs. IsAmong gs (Single name shape dof)) (ap (λ t. if t then [] else Single name shape dof ∷ []) (sym e)) (among_first (Single name shape dof) []))) states

  columns_hold : (name : List ℕ) (table : Table) (columns : List (List ℕ)) → IsAmong (groups sheet) (Columns (column_names name columns) table)
      → ((k : List ℕ) → list_any (bytes_eq k) (column_names name columns) ≡ true → count k (column_names name columns) ≡ 1)
      → (done rest : List (List ℕ)) (p : ℕ) → done ++ rest ≡ columns → p ≡ length done → AllByRecursion (IsEnclosed sheet) (column_variances name table p rest)
  columns_hold name table columns a once done [] p split e = tt
  columns_hold name table columns a once done (column ∷ rest) p split e =
      let parts : column_names name columns ≡ column_names name done ++ column_name name column ∷ column_names name rest =
      ap (column_names name) (sym split) ∙ map-append (column_name name) done (column ∷ rest) in (
        column_holds (column_names name columns) table a (column_names name done) (column_name name column) (column_names name rest) p parts
            (e ∙ sym (length-map done (column_name name)))
            (once (column_name name column)
            (ap (list_any (bytes_eq (column_name name column))) parts ∙ there_again (column_names name done) (column_name name column) (column_names name rest))),
        columns_hold name table columns a once (done ++ column ∷ []) rest (p + 1) (append_assoc done (column ∷ []) rest ∙ split)
            (omega (arith, e, length-append done (column ∷ []))),
      )

  row_holds : (before rest : List Row) (row : Row) → before ++ row ∷ rest ≡ sheet.rows → IsRegular row → AllByRecursion (IsEnclosed sheet) (row_variances row)
  row_holds before rest (Given name estimate shape dof) split regular = (given_holds before rest name estimate shape dof split regular.3, tt)
  row_holds before rest (Readings name table) split regular = (
    column_holds (name ∷ []) table (of_row sheet.rows before (Readings name table) rest _ split (among_first _ [])) [] name [] 0 refl refl
        (ap (λ b. one_if b + 0) (named_itself name)),
    tt,
  )
  row_holds before rest (Joint name columns table) split regular =
      columns_hold name table columns (of_row sheet.rows before (Joint name columns table) rest _ split (among_first _ []))
      (λ k. count_distinct k (column_names name columns) (distinct_quantities (Joint name columns table) regular)) [] columns 0 refl refl
  row_holds before rest (Correlation name first second coefficient) split regular = tt
  row_holds before rest (Formula name f) split regular = tt
  row_holds before rest (Tolerance name rule) split regular = tt

  all_more : {A : Type 0} (P : A → Type 0) (xs ys : List A) → AllByRecursion P xs → AllByRecursion P ys → AllByRecursion P (xs ++ ys)
  all_more P [] ys h k = k
  all_more P (x ∷ xs) ys h k = (h.0, all_more P xs ys h.1 k)

  rows_hold : (before rest : List Row) → before ++ rest ≡ sheet.rows → AreRegular rest → AllByRecursion (IsEnclosed sheet) (flat_map row_variances rest)
  rows_hold before [] split regular = tt
  rows_hold before (row ∷ rest) split regular =
      all_more (IsEnclosed sheet) (row_variances row) (flat_map row_variances rest) (row_holds before rest row split regular.0)
      (rows_hold (before ++ row ∷ []) rest (append_assoc before (row ∷ []) rest ∙ split) regular.1)

  pub variances_enclose : All (IsEnclosed sheet) (variances sheet)
  variances_enclose = All-from_recursion (IsEnclosed sheet) (variances sheet) (rows_hold [] sheet.rows refl h.regular)
