-- Expressions and sums depend on the keys that occur in them alone.
use Rattle.std.specs.Prelude.{◌≡◌, ℕ, zero, suc, Bool, true, false, cond, not, ◌&&◌, Option, Some, None, List, [], ◌∷◌, ◌++◌, length, refl}
use Rattle.std.proofs.Common.{ap, ap₂}
use Rattle.exact_fraction.specs.Number.{ℚ, ◌+ℚ◌, ◌*ℚ◌, ◌/ℚ◌, neg_ℚ, is_zero_ℚ, ◌-ℚ◌}
use Rattle.exact_fraction.specs.Powers.{whole_power}
use Rattle.exact_fraction.specs.Sums.{total}
use Rattle.exact_law.specs.Model.{Expression, Num, Key, Neg, Add, Sub, Mul, Div, Pow, value, power_slope, slope, has_power, is_defined, replaced, Body, Input, Formula, Row, body_of, replaced_body, expansion, expanded}
use Rattle.exact_law.specs.Renaming.{EachOf, EachKey, EachBodyKey, EachRowKey}

pub total-on : {K : Type 0} (P : K → Type 0) (f g : K → ℚ) → ((n : K) → P n → f n ≡ g n) → (ns : List K) → EachOf P ns → total f ns ≡ total g ns
unfolding total EachOf
total-on P f g h [] o = refl
total-on P f g h (n ∷ ns) o = ap₂ ◌+ℚ◌ (h n o.0) (total-on P f g h ns o.1)

pub each_left : {K : Type 0} (P : K → Type 0) (xs ys : List K) → EachOf P (xs ++ ys) → EachOf P xs
unfolding EachOf
each_left P [] ys o = tt
each_left P (x ∷ xs) ys o = (o.0, each_left P xs ys o.1)

pub each_right : {K : Type 0} (P : K → Type 0) (xs ys : List K) → EachOf P (xs ++ ys) → EachOf P ys
unfolding EachOf
each_right P [] ys o = o
each_right P (x ∷ xs) ys o = each_right P xs ys o.1

-- ---- expressions
pub value-on : {K : Type 0} (P : K → Type 0) (v w : K → ℚ) → ((n : K) → P n → v n ≡ w n) → (f : Expression K) → EachKey P f → value v f ≡ value w f
unfolding value EachKey
value-on P v w h (Num q) o = refl
value-on P v w h (Key n) o = h n o
value-on P v w h (Neg a) o = ap neg_ℚ (value-on P v w h a o)
value-on P v w h (Add a b) o = ap₂ ◌+ℚ◌ (value-on P v w h a o.0) (value-on P v w h b o.1)
value-on P v w h (Sub a b) o = ap₂ (λ x y. x -ℚ y) (value-on P v w h a o.0) (value-on P v w h b o.1)
value-on P v w h (Mul a b) o = ap₂ ◌*ℚ◌ (value-on P v w h a o.0) (value-on P v w h b o.1)
value-on P v w h (Div a b) o = ap₂ (λ x y. x /ℚ y) (value-on P v w h a o.0) (value-on P v w h b o.1)
value-on P v w h (Pow a n) o = ap (λ x. whole_power x n) (value-on P v w h a o)

pub slope-on : {K : Type 0} (P : K → Type 0) (v w d e : K → ℚ) → ((n : K) → P n → v n ≡ w n) → ((n : K) → P n → d n ≡ e n)
    → (f : Expression K) → EachKey P f → slope v d f ≡ slope w e f
unfolding slope value EachKey
slope-on P v w d e h k (Num q) o = refl
slope-on P v w d e h k (Key n) o = k n o
slope-on P v w d e h k (Neg a) o = ap neg_ℚ (slope-on P v w d e h k a o)
slope-on P v w d e h k (Add a b) o = ap₂ ◌+ℚ◌ (slope-on P v w d e h k a o.0) (slope-on P v w d e h k b o.1)
slope-on P v w d e h k (Sub a b) o = ap₂ (λ x y. x -ℚ y) (slope-on P v w d e h k a o.0) (slope-on P v w d e h k b o.1)
slope-on P v w d e h k (Mul a b) o =
    ap₂ ◌+ℚ◌ (ap₂ ◌*ℚ◌ (slope-on P v w d e h k a o.0) (value-on P v w h b o.1)) (ap₂ ◌*ℚ◌ (value-on P v w h a o.0) (slope-on P v w d e h k b o.1))
slope-on P v w d e h k (Div a b) o =
    ap₂ (λ x y. x /ℚ y)
    (ap₂ (λ x y. x -ℚ y) (slope-on P v w d e h k a o.0)
    (ap₂ ◌*ℚ◌ (ap₂ (λ x y. x /ℚ y) (value-on P v w h a o.0) (value-on P v w h b o.1)) (slope-on P v w d e h k b o.1)))
    (value-on P v w h b o.1)
slope-on P v w d e h k (Pow a n) o = ap₂ ◌*ℚ◌ (ap (λ x. power_slope x n) (value-on P v w h a o)) (slope-on P v w d e h k a o)

pub is_defined-on : {K : Type 0} (P : K → Type 0) (v w : K → ℚ) (p q : K → Bool) → ((n : K) → P n → v n ≡ w n) → ((n : K) → P n → p n ≡ q n)
    → (f : Expression K) → EachKey P f → is_defined v p f ≡ is_defined w q f
unfolding is_defined EachKey
is_defined-on P v w p q h k (Num x) o = refl
is_defined-on P v w p q h k (Key n) o = k n o
is_defined-on P v w p q h k (Neg a) o = is_defined-on P v w p q h k a o
is_defined-on P v w p q h k (Add a b) o = ap₂ (λ x y. x && y) (is_defined-on P v w p q h k a o.0) (is_defined-on P v w p q h k b o.1)
is_defined-on P v w p q h k (Sub a b) o = ap₂ (λ x y. x && y) (is_defined-on P v w p q h k a o.0) (is_defined-on P v w p q h k b o.1)
is_defined-on P v w p q h k (Mul a b) o = ap₂ (λ x y. x && y) (is_defined-on P v w p q h k a o.0) (is_defined-on P v w p q h k b o.1)
is_defined-on P v w p q h k (Div a b) o =
    ap₂ (λ x y. x && y) (ap₂ (λ x y. x && y) (is_defined-on P v w p q h k a o.0) (is_defined-on P v w p q h k b o.1))
    (ap (λ x. not (is_zero_ℚ x)) (value-on P v w h b o.1))
is_defined-on P v w p q h k (Pow a n) o = ap₂ (λ x y. x && y) (is_defined-on P v w p q h k a o) (ap (λ x. has_power x n) (value-on P v w h a o))

-- ---- the keys of an expansion
pub each-replaced : {K : Type 0} (P : K → Type 0) (s : K → Expression K) → ((n : K) → P n → EachKey P (s n)) → (f : Expression K) → EachKey P f
    → EachKey P (replaced s f)
unfolding replaced EachKey
each-replaced P s h (Num q) o = tt
each-replaced P s h (Key n) o = h n o
each-replaced P s h (Neg a) o = each-replaced P s h a o
each-replaced P s h (Add a b) o = (each-replaced P s h a o.0, each-replaced P s h b o.1)
each-replaced P s h (Sub a b) o = (each-replaced P s h a o.0, each-replaced P s h b o.1)
each-replaced P s h (Mul a b) o = (each-replaced P s h a o.0, each-replaced P s h b o.1)
each-replaced P s h (Div a b) o = (each-replaced P s h a o.0, each-replaced P s h b o.1)
each-replaced P s h (Pow a n) o = each-replaced P s h a o

abbrev pub EachOptionKey : {K : Type 0} → (K → Type 0) → Option (Body K) → Type 0
EachOptionKey P None = Unit {0}
EachOptionKey P (Some b) = EachBodyKey P b

pub each-body : {K : Type 0} (P : K → Type 0) (same : K → K → Bool) (rows : List (Row K)) (n : K) → EachRowKey P rows → EachOptionKey P (body_of same rows n)
unfolding body_of EachRowKey
each-body P same [] n o = tt
each-body P same (r ∷ rs) n o = by (same r.key n) (each-body P same rs n o.2) where
  by : (b : Bool) → EachOptionKey P (body_of same rs n) → EachOptionKey P (cond b (Some r.body) (body_of same rs n))
  by true h = o.1
  by false h = h

each-replaced_body : {K : Type 0} (P : K → Type 0) (s : K → Expression K) → ((n : K) → P n → EachKey P (s n)) → (n : K) → P n → (b : Option (Body K))
    → EachOptionKey P b → EachKey P (replaced_body s n b)
unfolding replaced_body EachBodyKey EachKey
each-replaced_body P s h n p None o = p
each-replaced_body P s h n p (Some (Input q)) o = p
each-replaced_body P s h n p (Some (Formula f)) o = each-replaced P s h f o

pub each-expansion : {K : Type 0} (P : K → Type 0) (same : K → K → Bool) (rows : List (Row K)) → EachRowKey P rows → (k : ℕ) (n : K) → P n
    → EachKey P (expansion same rows k n)
unfolding expansion EachKey
each-expansion P same rows o zero n p = p
each-expansion P same rows o (suc k) n p =
    each-replaced_body P (expansion same rows k) (each-expansion P same rows o k) n p (body_of same rows n) (each-body P same rows n o)

pub each-expanded : {K : Type 0} (P : K → Type 0) (same : K → K → Bool) (rows : List (Row K)) → EachRowKey P rows → (n : K) → P n
    → EachKey P (expanded same rows n)
unfolding expanded
each-expanded P same rows o n p = each-expansion P same rows o (length rows) n p
