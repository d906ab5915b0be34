-- A model under new names for its keys, as when the names of a sheet become numbers of a graph.
use Rattle.std.specs.Prelude.{◌≡◌, List, [], ◌∷◌, Bool, true}
use Rattle.exact_law.specs.Model.{Expression, Num, Key, Neg, Add, Sub, Mul, Div, Pow, replaced, Body, Input, Formula, Row}
use Rattle.exact_law.specs.Law.{Group, Own, Pair, Joint, Column, all_members}

-- two keys for which P holds have one name exactly where they are one key
pub record KeepsApart {K L : Type 0} (same : K → K → Bool) (same' : L → L → Bool) (rename : K → L) (P : K → Type 0) : Type 0 where
  pub apart : (a b : K) → P a → P b → same' (rename a) (rename b) ≡ same a b

-- P holds for each key that occurs: in a list, an expression, the rows of a model, and the groups
unfoldable pub EachOf : {K : Type 0} → (K → Type 0) → List K → Type 0
EachOf P [] = Unit {0}
EachOf P (n ∷ ns) = P n × EachOf P ns

unfoldable pub EachKey : {K : Type 0} → (K → Type 0) → Expression K → Type 0
EachKey P (Num q) = Unit {0}
EachKey P (Key n) = P n
EachKey P (Neg a) = EachKey P a
EachKey P (Add a b) = EachKey P a × EachKey P b
EachKey P (Sub a b) = EachKey P a × EachKey P b
EachKey P (Mul a b) = EachKey P a × EachKey P b
EachKey P (Div a b) = EachKey P a × EachKey P b
EachKey P (Pow a n) = EachKey P a

unfoldable pub EachBodyKey : {K : Type 0} → (K → Type 0) → Body K → Type 0
EachBodyKey P (Input q) = Unit {0}
EachBodyKey P (Formula f) = EachKey P f

unfoldable pub EachRowKey : {K : Type 0} → (K → Type 0) → List (Row K) → Type 0
EachRowKey P [] = Unit {0}
EachRowKey P (r ∷ rs) = P r.key × EachBodyKey P r.body × EachRowKey P rs

unfoldable pub EachMember : {K : Type 0} → (K → Type 0) → List (Group K) → Type 0
EachMember P groups = EachOf P (all_members groups)

-- the key passes the test
abbrev pub Passes : {K : Type 0} → (K → Bool) → K → Type 0
Passes p n = p n ≡ true

unfoldable pub renamed : {K L : Type 0} → (K → L) → Expression K → Expression L
renamed rename f = replaced (λ n. Key (rename n)) f

unfoldable pub renamed_body : {K L : Type 0} → (K → L) → Body K → Body L
renamed_body rename (Input q) = Input q
renamed_body rename (Formula f) = Formula (renamed rename f)

unfoldable pub renamed_rows : {K L : Type 0} → (K → L) → List (Row K) → List (Row L)
renamed_rows rename [] = []
renamed_rows rename (r ∷ rs) = record { key = rename r.key; body = renamed_body rename r.body } ∷ renamed_rows rename rs

unfoldable pub renamed_columns : {K L : Type 0} → (K → L) → List (Column K) → List (Column L)
renamed_columns rename [] = []
renamed_columns rename (c ∷ cs) = record { key = rename c.key; reading = c.reading } ∷ renamed_columns rename cs

unfoldable pub renamed_group : {K L : Type 0} → (K → L) → Group K → Group L
renamed_group rename (Own k c d) = Own (rename k) c d
renamed_group rename (Pair k m v w c d) = Pair (rename k) (rename m) v w c d
renamed_group rename (Joint n columns) = Joint n (renamed_columns rename columns)

unfoldable pub renamed_groups : {K L : Type 0} → (K → L) → List (Group K) → List (Group L)
renamed_groups rename [] = []
renamed_groups rename (g ∷ gs) = renamed_group rename g ∷ renamed_groups rename gs
