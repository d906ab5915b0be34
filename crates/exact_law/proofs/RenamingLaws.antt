-- What a renaming that keeps apart the keys that occur does not change.
use Rattle.std.specs.Prelude.{◌≡◌, ℕ, zero, suc, Bool, true, false, cond, Option, Some, None, List, [], ◌∷◌, length, map, pos, refl}
use Rattle.std.proofs.Common.{◌∙◌, ap, ap₂}
use Rattle.exact_fraction.specs.Number.{ℚ, of_ℤ, ◌+ℚ◌, ◌*ℚ◌}
use Rattle.exact_fraction.specs.Sums.{total}
use Rattle.exact_law.specs.Model.{Expression, Num, Key, Neg, Add, Sub, Mul, Div, Pow, value, slope, is_defined, replaced, Body, Input, Formula, Row, body_of, estimate_in, estimate, is_input_body, is_input, replaced_body, expansion, expanded, unit, exact_value, exact_slope, has_value}
use Rattle.exact_law.specs.Law.{Column, Group, Own, Pair, Joint, joint, cell, covariance_in, covariance, law_of, part, inputs_with, inputs_of, law, part_of, members, all_members}
use Rattle.exact_law.specs.Degrees.{Share, inverse_degrees, share_of, shares_of, effective, degrees_of}
use Rattle.exact_law.specs.Renaming.{KeepsApart, EachOf, EachKey, EachBodyKey, EachRowKey, EachMember, renamed, renamed_body, renamed_rows, renamed_columns, renamed_group, renamed_groups}
use Rattle.exact_law.proofs.Chain.{value-replaced, slope-replaced, is_defined-replaced}
use Rattle.exact_law.proofs.Occurring.{total-on, each_left, each_right, value-on, slope-on, is_defined-on, EachOptionKey, each-body, each-expanded}

-- ---- covariances
unit-renamed : {K L : Type 0} (same : K → K → Bool) (same' : L → L → Bool) (rename : K → L) (P : K → Type 0) → KeepsApart same same' rename P
    → (n m : K) → P n → P m → unit same' (rename n) (rename m) ≡ unit same n m
unfolding unit
unit-renamed same same' rename P k n m pn pm = ap (λ b. cond b (of_ℤ (pos 1)) (of_ℤ (pos 0))) (k.apart n m pn pm)

cell-renamed : {K L : Type 0} (same : K → K → Bool) (same' : L → L → Bool) (rename : K → L) (P : K → Type 0) → KeepsApart same same' rename P
    → (a b : K) (c : ℚ) (i j : K) → P a → P b → P i → P j → cell same' (rename a) (rename b) c (rename i) (rename j) ≡ cell same a b c i j
unfolding cell
cell-renamed same same' rename P k a b c i j pa pb pi pj =
    ap₂ (λ s t. s *ℚ t *ℚ c) (unit-renamed same same' rename P k i a pi pa) (unit-renamed same same' rename P k j b pj pb)

total-renamed : {K L : Type 0} (rename : K → L) (P : K → Type 0) (f : Column L → ℚ) (g : Column K → ℚ)
    → ((c : Column K) → P c.key → f (record { key = rename c.key; reading = c.reading }) ≡ g c)
    → (columns : List (Column K)) → EachOf P (map (λ c. c.key) columns) → total f (renamed_columns rename columns) ≡ total g columns
unfolding total renamed_columns EachOf
total-renamed rename P f g h [] o = refl
total-renamed rename P f g h (c ∷ cs) o = ap₂ ◌+ℚ◌ (h c o.0) (total-renamed rename P f g h cs o.1)

covariance_in-renamed : {K L : Type 0} (same : K → K → Bool) (same' : L → L → Bool) (rename : K → L) (P : K → Type 0) → KeepsApart same same' rename P
    → (g : Group K) → EachOf P (members g) → (i j : K) → P i → P j
    → covariance_in same' (renamed_group rename g) (rename i) (rename j) ≡ covariance_in same g i j
unfolding covariance_in renamed_group members EachOf
covariance_in-renamed same same' rename P k (Own a c d) o i j pi pj = cell-renamed same same' rename P k a a c i j o.0 o.0 pi pj
covariance_in-renamed same same' rename P k (Pair a b v w c d) o i j pi pj =
    ap₂ ◌+ℚ◌
    (ap₂ ◌+ℚ◌ (cell-renamed same same' rename P k a a v i j o.0 o.0 pi pj) (cell-renamed same same' rename P k b b w i j (o.1).0 (o.1).0 pi pj))
    (ap₂ ◌+ℚ◌ (cell-renamed same same' rename P k a b c i j o.0 (o.1).0 pi pj) (cell-renamed same same' rename P k b a c i j (o.1).0 o.0 pi pj))
covariance_in-renamed same same' rename P k (Joint n columns) o i j pi pj =
    total-renamed rename P _ _
    (λ a pa. total-renamed rename P _ _ (λ b pb. cell-renamed same same' rename P k a.key b.key (joint n a.reading b.reading) i j pa pb pi pj) columns o) columns o

pub covariance-renamed : {K L : Type 0} (same : K → K → Bool) (same' : L → L → Bool) (rename : K → L) (P : K → Type 0) → KeepsApart same same' rename P
    → (groups : List (Group K)) → EachMember P groups → (i j : K) → P i → P j
    → covariance same' (renamed_groups rename groups) (rename i) (rename j) ≡ covariance same groups i j
unfolding covariance renamed_groups total EachMember all_members
covariance-renamed same same' rename P k [] o i j pi pj = refl
covariance-renamed same same' rename P k (g ∷ gs) o i j pi pj =
    ap₂ ◌+ℚ◌ (covariance_in-renamed same same' rename P k g (each_left P (members g) (all_members gs) o) i j pi pj)
    (covariance-renamed same same' rename P k gs (each_right P (members g) (all_members gs) o) i j pi pj)

-- ---- expansions
replaced-renamed : {K L : Type 0} (rename : K → L) (P : K → Type 0) (s : K → Expression K) (s' : L → Expression L)
    → ((n : K) → P n → s' (rename n) ≡ renamed rename (s n))
    → (f : Expression K) → EachKey P f → replaced s' (renamed rename f) ≡ renamed rename (replaced s f)
unfolding renamed replaced EachKey
replaced-renamed rename P s s' h (Num q) o = refl
replaced-renamed rename P s s' h (Key n) o = h n o
replaced-renamed rename P s s' h (Neg a) o = ap Neg (replaced-renamed rename P s s' h a o)
replaced-renamed rename P s s' h (Add a b) o = ap₂ Add (replaced-renamed rename P s s' h a o.0) (replaced-renamed rename P s s' h b o.1)
replaced-renamed rename P s s' h (Sub a b) o = ap₂ Sub (replaced-renamed rename P s s' h a o.0) (replaced-renamed rename P s s' h b o.1)
replaced-renamed rename P s s' h (Mul a b) o = ap₂ Mul (replaced-renamed rename P s s' h a o.0) (replaced-renamed rename P s s' h b o.1)
replaced-renamed rename P s s' h (Div a b) o = ap₂ Div (replaced-renamed rename P s s' h a o.0) (replaced-renamed rename P s s' h b o.1)
replaced-renamed rename P s s' h (Pow a n) o = ap (λ b. Pow b n) (replaced-renamed rename P s s' h a o)

abbrev renamed_option : {K L : Type 0} → (K → L) → Option (Body K) → Option (Body L)
renamed_option rename None = None
renamed_option rename (Some b) = Some (renamed_body rename b)

body_of-renamed : {K L : Type 0} (same : K → K → Bool) (same' : L → L → Bool) (rename : K → L) (P : K → Type 0) → KeepsApart same same' rename P
    → (rows : List (Row K)) → EachRowKey P rows → (n : K) → P n
    → body_of same' (renamed_rows rename rows) (rename n) ≡ renamed_option rename (body_of same rows n)
unfolding body_of renamed_rows EachRowKey
body_of-renamed same same' rename P k [] o n p = refl
body_of-renamed same same' rename P k (r ∷ rs) o n p =
    ap₂ (λ b t. cond b (Some (renamed_body rename r.body)) t) (k.apart r.key n o.0 p) (body_of-renamed same same' rename P k rs o.2 n p)
    ∙ by (same r.key n) where
      by : (b : Bool) → cond b (Some (renamed_body rename r.body)) (renamed_option rename (body_of same rs n))
          ≡ renamed_option rename (cond b (Some r.body) (body_of same rs n))
      by true = refl
      by false = refl

replaced_body-renamed : {K L : Type 0} (rename : K → L) (P : K → Type 0) (s : K → Expression K) (s' : L → Expression L)
    → ((n : K) → P n → s' (rename n) ≡ renamed rename (s n)) → (n : K) (b : Option (Body K)) → EachOptionKey P b
    → replaced_body s' (rename n) (renamed_option rename b) ≡ renamed rename (replaced_body s n b)
unfolding replaced_body renamed_body renamed replaced EachBodyKey
replaced_body-renamed rename P s s' h n None o = refl
replaced_body-renamed rename P s s' h n (Some (Input q)) o = refl
replaced_body-renamed rename P s s' h n (Some (Formula f)) o = replaced-renamed rename P s s' h f o

expansion-renamed : {K L : Type 0} (same : K → K → Bool) (same' : L → L → Bool) (rename : K → L) (P : K → Type 0) → KeepsApart same same' rename P
    → (rows : List (Row K)) → EachRowKey P rows → (k : ℕ) (n : K) → P n
    → expansion same' (renamed_rows rename rows) k (rename n) ≡ renamed rename (expansion same rows k n)
unfolding expansion renamed replaced
expansion-renamed same same' rename P a rows o zero n p = refl
expansion-renamed same same' rename P a rows o (suc k) n p =
    ap (replaced_body (expansion same' (renamed_rows rename rows) k) (rename n)) (body_of-renamed same same' rename P a rows o n p)
    ∙ replaced_body-renamed rename P (expansion same rows k) (expansion same' (renamed_rows rename rows) k)
    (expansion-renamed same same' rename P a rows o k) n (body_of same rows n) (each-body P same rows n o)

length-renamed : {K L : Type 0} (rename : K → L) (rows : List (Row K)) → length (renamed_rows rename rows) ≡ length rows
unfolding renamed_rows
length-renamed rename [] = refl
length-renamed rename (r ∷ rs) = ap suc (length-renamed rename rs)

expanded-renamed : {K L : Type 0} (same : K → K → Bool) (same' : L → L → Bool) (rename : K → L) (P : K → Type 0) → KeepsApart same same' rename P
    → (rows : List (Row K)) → EachRowKey P rows → (n : K) → P n → expanded same' (renamed_rows rename rows) (rename n) ≡ renamed rename (expanded same rows n)
unfolding expanded
expanded-renamed same same' rename P a rows o n p =
    ap (λ k. expansion same' (renamed_rows rename rows) k (rename n)) (length-renamed rename rows)
    ∙ expansion-renamed same same' rename P a rows o (length rows) n p

estimate_in-renamed : {K L : Type 0} (rename : K → L) (b : Option (Body K)) → estimate_in (renamed_option rename b) ≡ estimate_in b
unfolding estimate_in renamed_body
estimate_in-renamed rename None = refl
estimate_in-renamed rename (Some (Input q)) = refl
estimate_in-renamed rename (Some (Formula f)) = refl

estimate-renamed : {K L : Type 0} (same : K → K → Bool) (same' : L → L → Bool) (rename : K → L) (P : K → Type 0) → KeepsApart same same' rename P
    → (rows : List (Row K)) → EachRowKey P rows → (n : K) → P n → estimate same' (renamed_rows rename rows) (rename n) ≡ estimate same rows n
unfolding estimate
estimate-renamed same same' rename P a rows o n p =
    ap estimate_in (body_of-renamed same same' rename P a rows o n p) ∙ estimate_in-renamed rename (body_of same rows n)

is_input_body-renamed : {K L : Type 0} (rename : K → L) (b : Option (Body K)) → is_input_body (renamed_option rename b) ≡ is_input_body b
unfolding is_input_body renamed_body
is_input_body-renamed rename None = refl
is_input_body-renamed rename (Some (Input q)) = refl
is_input_body-renamed rename (Some (Formula f)) = refl

is_input-renamed : {K L : Type 0} (same : K → K → Bool) (same' : L → L → Bool) (rename : K → L) (P : K → Type 0) → KeepsApart same same' rename P
    → (rows : List (Row K)) → EachRowKey P rows → (n : K) → P n → is_input same' (renamed_rows rename rows) (rename n) ≡ is_input same rows n
unfolding is_input
is_input-renamed same same' rename P a rows o n p =
    ap is_input_body (body_of-renamed same same' rename P a rows o n p) ∙ is_input_body-renamed rename (body_of same rows n)

-- ---- values and sensitivities
pub exact_value-renamed : {K L : Type 0} (same : K → K → Bool) (same' : L → L → Bool) (rename : K → L) (P : K → Type 0) → KeepsApart same same' rename P
    → (rows : List (Row K)) → EachRowKey P rows → (y : K) → P y → exact_value same' (renamed_rows rename rows) (rename y) ≡ exact_value same rows y
unfolding exact_value renamed value
exact_value-renamed same same' rename P a rows o y p =
    ap (value (estimate same' (renamed_rows rename rows))) (expanded-renamed same same' rename P a rows o y p)
    ∙ value-replaced (estimate same' (renamed_rows rename rows)) (λ n. Key (rename n)) (expanded same rows y)
    ∙ value-on P _ _ (estimate-renamed same same' rename P a rows o) (expanded same rows y) (each-expanded P same rows o y p)

pub has_value-renamed : {K L : Type 0} (same : K → K → Bool) (same' : L → L → Bool) (rename : K → L) (P : K → Type 0) → KeepsApart same same' rename P
    → (rows : List (Row K)) → EachRowKey P rows → (y : K) → P y → has_value same' (renamed_rows rename rows) (rename y) ≡ has_value same rows y
unfolding has_value renamed value is_defined
has_value-renamed same same' rename P a rows o y p =
    ap (is_defined (estimate same' (renamed_rows rename rows)) (is_input same' (renamed_rows rename rows))) (expanded-renamed same same' rename P a rows o y p)
    ∙ is_defined-replaced (estimate same' (renamed_rows rename rows)) (is_input same' (renamed_rows rename rows)) (λ n. Key (rename n)) (expanded same rows y)
    ∙ is_defined-on P _ _ _ _ (estimate-renamed same same' rename P a rows o) (is_input-renamed same same' rename P a rows o)
    (expanded same rows y) (each-expanded P same rows o y p)

pub exact_slope-renamed : {K L : Type 0} (same : K → K → Bool) (same' : L → L → Bool) (rename : K → L) (P : K → Type 0) → KeepsApart same same' rename P
    → (rows : List (Row K)) → EachRowKey P rows → (y i : K) → P y → P i
    → exact_slope same' (renamed_rows rename rows) (rename y) (rename i) ≡ exact_slope same rows y i
unfolding exact_slope renamed value slope
exact_slope-renamed same same' rename P a rows o y i p q =
    ap (slope (estimate same' (renamed_rows rename rows)) (unit same' (rename i))) (expanded-renamed same same' rename P a rows o y p)
    ∙ slope-replaced (estimate same' (renamed_rows rename rows)) (unit same' (rename i)) (λ n. Key (rename n)) (expanded same rows y)
    ∙ slope-on P _ _ _ _ (estimate-renamed same same' rename P a rows o) (λ n pn. unit-renamed same same' rename P a i n q pn)
    (expanded same rows y) (each-expanded P same rows o y p)

-- ---- the law
pub total-map : {K L : Type 0} (rename : K → L) (f : L → ℚ) (xs : List K) → total f (map rename xs) ≡ total (λ x. f (rename x)) xs
unfolding total
total-map rename f [] = refl
total-map rename f (x ∷ xs) = ap (λ t. f (rename x) +ℚ t) (total-map rename f xs)

inputs_with-renamed : {K L : Type 0} (rename : K → L) (b : Body K) (n : K) (ns : List K)
    → inputs_with (renamed_body rename b) (rename n) (map rename ns) ≡ map rename (inputs_with b n ns)
unfolding inputs_with renamed_body
inputs_with-renamed rename (Input q) n ns = refl
inputs_with-renamed rename (Formula f) n ns = refl

inputs_of-renamed : {K L : Type 0} (rename : K → L) (rows : List (Row K)) → inputs_of (renamed_rows rename rows) ≡ map rename (inputs_of rows)
unfolding inputs_of renamed_rows
inputs_of-renamed rename [] = refl
inputs_of-renamed rename (r ∷ rs) =
    ap (inputs_with (renamed_body rename r.body) (rename r.key)) (inputs_of-renamed rename rs)
    ∙ inputs_with-renamed rename r.body r.key (inputs_of rs)

each-input_with : {K : Type 0} (P : K → Type 0) (b : Body K) (n : K) (ns : List K) → P n → EachOf P ns → EachOf P (inputs_with b n ns)
unfolding inputs_with EachOf
each-input_with P (Input q) n ns p o = (p, o)
each-input_with P (Formula f) n ns p o = o

each-input : {K : Type 0} (P : K → Type 0) (rows : List (Row K)) → EachRowKey P rows → EachOf P (inputs_of rows)
unfolding inputs_of EachRowKey EachOf
each-input P [] o = tt
each-input P (r ∷ rs) o = each-input_with P r.body r.key (inputs_of rs) o.0 (each-input P rs o.2)

law_of-renamed : {K L : Type 0} (rename : K → L) (P : K → Type 0) (c : K → K → ℚ) (c' : L → L → ℚ) (u w : K → ℚ) (u' w' : L → ℚ) (inputs : List K)
    → EachOf P inputs → ((i j : K) → P i → P j → c' (rename i) (rename j) ≡ c i j) → ((i : K) → P i → u' (rename i) ≡ u i) → ((i : K) → P i → w' (rename i) ≡ w i)
    → law_of c' (map rename inputs) u' w' ≡ law_of c inputs u w
unfolding law_of
law_of-renamed rename P c c' u w u' w' inputs o hc hu hw =
    total-map rename _ inputs
    ∙ total-on P _ _
    (λ i pi. total-map rename _ inputs
    ∙ total-on P _ (λ j. u i *ℚ w j *ℚ c i j) (λ j pj. ap₂ (λ s t. s *ℚ t) (ap₂ (λ s t. s *ℚ t) (hu i pi) (hw j pj)) (hc i j pi pj)) inputs o) inputs o

pub law-renamed : {K L : Type 0} (same : K → K → Bool) (same' : L → L → Bool) (rename : K → L) (P : K → Type 0) → KeepsApart same same' rename P
    → (rows : List (Row K)) → EachRowKey P rows → (groups : List (Group K)) → EachMember P groups → (y z : K) → P y → P z
    → law same' (renamed_rows rename rows) (renamed_groups rename groups) (rename y) (rename z) ≡ law same rows groups y z
unfolding law
law-renamed same same' rename P a rows o groups m y z py pz =
    ap (λ inputs. law_of (covariance same' (renamed_groups rename groups)) inputs
    (exact_slope same' (renamed_rows rename rows) (rename y)) (exact_slope same' (renamed_rows rename rows) (rename z)))
    (inputs_of-renamed rename rows)
    ∙ law_of-renamed rename P (covariance same groups) (covariance same' (renamed_groups rename groups))
    (exact_slope same rows y) (exact_slope same rows z)
    (exact_slope same' (renamed_rows rename rows) (rename y)) (exact_slope same' (renamed_rows rename rows) (rename z)) (inputs_of rows)
    (each-input P rows o) (covariance-renamed same same' rename P a groups m)
    (λ i pi. exact_slope-renamed same same' rename P a rows o y i py pi) (λ i pi. exact_slope-renamed same same' rename P a rows o z i pz pi)

-- ---- parts, shares and degrees
part-renamed : {K L : Type 0} (rename : K → L) (P : K → Type 0) (g : Group K) (u w : K → ℚ) (u' w' : L → ℚ) → EachOf P (members g)
    → ((i : K) → P i → u' (rename i) ≡ u i) → ((i : K) → P i → w' (rename i) ≡ w i) → part (renamed_group rename g) u' w' ≡ part g u w
unfolding part renamed_group members EachOf
part-renamed rename P (Own k c d) u w u' w' o hu hw = ap₂ (λ s t. s *ℚ t *ℚ c) (hu k o.0) (hw k o.0)
part-renamed rename P (Pair k m v x c d) u w u' w' o hu hw =
    ap₂ ◌+ℚ◌
    (ap₂ ◌+ℚ◌ (ap₂ (λ s t. s *ℚ t *ℚ v) (hu k o.0) (hw k o.0)) (ap₂ (λ s t. s *ℚ t *ℚ x) (hu m (o.1).0) (hw m (o.1).0)))
    (ap₂ ◌+ℚ◌ (ap₂ (λ s t. s *ℚ t *ℚ c) (hu k o.0) (hw m (o.1).0)) (ap₂ (λ s t. s *ℚ t *ℚ c) (hu m (o.1).0) (hw k o.0)))
part-renamed rename P (Joint n columns) u w u' w' o hu hw =
    total-renamed rename P _ _
    (λ a pa. total-renamed rename P _ _ (λ b pb. ap₂ (λ s t. s *ℚ t *ℚ joint n a.reading b.reading) (hu a.key pa) (hw b.key pb)) columns o) columns o

pub part_of-renamed : {K L : Type 0} (same : K → K → Bool) (same' : L → L → Bool) (rename : K → L) (P : K → Type 0) → KeepsApart same same' rename P
    → (rows : List (Row K)) → EachRowKey P rows → (g : Group K) → EachOf P (members g) → (y : K) → P y
    → part_of same' (renamed_rows rename rows) (renamed_group rename g) (rename y) ≡ part_of same rows g y
unfolding part_of
part_of-renamed same same' rename P a rows o g m y p =
    part-renamed rename P g _ _ _ _ m (λ i pi. exact_slope-renamed same same' rename P a rows o y i p pi) (λ i pi. exact_slope-renamed same same' rename P a rows o y i p pi)

inverse_degrees-renamed : {K L : Type 0} (rename : K → L) (g : Group K) → inverse_degrees (renamed_group rename g) ≡ inverse_degrees g
unfolding inverse_degrees renamed_group
inverse_degrees-renamed rename (Own k c d) = refl
inverse_degrees-renamed rename (Pair k m v w c d) = refl
inverse_degrees-renamed rename (Joint n columns) = refl

share : ℚ → ℚ → Share
share p d = record { part = p; inverse_degrees = d }

pub share_of-renamed : {K L : Type 0} (same : K → K → Bool) (same' : L → L → Bool) (rename : K → L) (P : K → Type 0) → KeepsApart same same' rename P
    → (rows : List (Row K)) → EachRowKey P rows → (y : K) → P y → (g : Group K) → EachOf P (members g)
    → share_of same' (renamed_rows rename rows) (rename y) (renamed_group rename g) ≡ share_of same rows y g
unfolding share_of share
share_of-renamed same same' rename P a rows o y p g m =
    ap₂ share (part_of-renamed same same' rename P a rows o g m y p) (inverse_degrees-renamed rename g)

shares_of-renamed : {K L : Type 0} (same : K → K → Bool) (same' : L → L → Bool) (rename : K → L) (P : K → Type 0) → KeepsApart same same' rename P
    → (rows : List (Row K)) → EachRowKey P rows → (y : K) → P y → (groups : List (Group K)) → EachMember P groups
    → shares_of same' (renamed_rows rename rows) (rename y) (renamed_groups rename groups) ≡ shares_of same rows y groups
unfolding shares_of renamed_groups EachMember all_members
shares_of-renamed same same' rename P a rows o y p [] m = refl
shares_of-renamed same same' rename P a rows o y p (g ∷ gs) m =
    ap₂ (λ s ss. s ∷ ss) (share_of-renamed same same' rename P a rows o y p g (each_left P (members g) (all_members gs) m))
    (shares_of-renamed same same' rename P a rows o y p gs (each_right P (members g) (all_members gs) m))

pub degrees_of-renamed : {K L : Type 0} (same : K → K → Bool) (same' : L → L → Bool) (rename : K → L) (P : K → Type 0) → KeepsApart same same' rename P
    → (rows : List (Row K)) → EachRowKey P rows → (groups : List (Group K)) → EachMember P groups → (y : K) → P y
    → degrees_of same' (renamed_rows rename rows) (renamed_groups rename groups) (rename y) ≡ degrees_of same rows groups y
unfolding degrees_of
degrees_of-renamed same same' rename P a rows o groups m y p =
    ap₂ effective (law-renamed same same' rename P a rows o groups m y y p p) (shares_of-renamed same same' rename P a rows o y p groups m)
