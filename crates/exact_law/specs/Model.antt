-- A model of a measurement (JCGM 100:2008, 4.1): quantities by their keys, each an input with its
-- estimate or a formula over other quantities. The value and the derivatives of a quantity are those
-- of its expansion, the formula over inputs alone that is had by putting in formula for formula.
use Rattle.std.specs.Prelude.{◌≡◌, ℕ, zero, suc, Bool, true, false, cond, not, ◌&&◌, ◌||◌, Option, Some, None, List, [], ◌∷◌, length, ℤ, pos, negsuc}
use Rattle.exact_fraction.specs.Number.{ℚ, of_ℤ, ◌+ℚ◌, ◌*ℚ◌, ◌/ℚ◌, neg_ℚ, is_zero_ℚ, ◌-ℚ◌}
use Rattle.exact_fraction.specs.Powers.{power, whole_power}
use Rattle.exact_fraction.specs.Sums.{total}

-- ---- expressions
pub data Expression (K : Type 0) : Type 0 where
  Num : ℚ → Expression K
  Key : K → Expression K
  Neg : Expression K → Expression K
  Add : Expression K → Expression K → Expression K
  Sub : Expression K → Expression K → Expression K
  Mul : Expression K → Expression K → Expression K
  Div : Expression K → Expression K → Expression K
  Pow : Expression K → ℤ → Expression K

-- the value, where v gives the values of the keys; where it is not defined it means nothing
unfoldable pub value : {K : Type 0} → (K → ℚ) → Expression K → ℚ
value v (Num q) = q
value v (Key n) = v n
value v (Neg a) = neg_ℚ (value v a)
value v (Add a b) = value v a +ℚ value v b
value v (Sub a b) = value v a -ℚ value v b
value v (Mul a b) = value v a *ℚ value v b
value v (Div a b) = value v a /ℚ value v b
value v (Pow a n) = whole_power (value v a) n

-- the derivative of the n-th power at x
unfoldable pub power_slope : ℚ → ℤ → ℚ
power_slope x (pos zero) = of_ℤ (pos 0)
power_slope x (pos (suc n)) = of_ℤ (pos (suc n)) *ℚ power x n
power_slope x (negsuc n) = of_ℤ (negsuc n) *ℚ whole_power x (negsuc n) /ℚ x

-- the derivative (JCGM 100:2008, 5.1.3) along d, where d gives how fast each key moves: along a
-- key alone it is the partial derivative by this key
unfoldable pub slope : {K : Type 0} → (K → ℚ) → (K → ℚ) → Expression K → ℚ
slope v d (Num q) = of_ℤ (pos 0)
slope v d (Key n) = d n
slope v d (Neg a) = neg_ℚ (slope v d a)
slope v d (Add a b) = slope v d a +ℚ slope v d b
slope v d (Sub a b) = slope v d a -ℚ slope v d b
slope v d (Mul a b) = (slope v d a *ℚ value v b) +ℚ (value v a *ℚ slope v d b)
slope v d (Div a b) = (slope v d a -ℚ (value v (Div a b) *ℚ slope v d b)) /ℚ value v b
slope v d (Pow a n) = power_slope (value v a) n *ℚ slope v d a

-- whether x has an n-th power
unfoldable pub has_power : ℚ → ℤ → Bool
has_power x (pos n) = true
has_power x (negsuc n) = not (is_zero_ℚ x)

-- whether value and derivatives are defined: each key is, no divisor is 0, and no base of a negative
-- power is 0
unfoldable pub is_defined : {K : Type 0} → (K → ℚ) → (K → Bool) → Expression K → Bool
is_defined v known (Num q) = true
is_defined v known (Key n) = known n
is_defined v known (Neg a) = is_defined v known a
is_defined v known (Add a b) = is_defined v known a && is_defined v known b
is_defined v known (Sub a b) = is_defined v known a && is_defined v known b
is_defined v known (Mul a b) = is_defined v known a && is_defined v known b
is_defined v known (Div a b) = is_defined v known a && is_defined v known b && not (is_zero_ℚ (value v b))
is_defined v known (Pow a n) = is_defined v known a && has_power (value v a) n

-- whether the expression uses a key for which p is true
unfoldable pub uses : {K : Type 0} → (K → Bool) → Expression K → Bool
uses p (Num q) = false
uses p (Key n) = p n
uses p (Neg a) = uses p a
uses p (Add a b) = uses p a || uses p b
uses p (Sub a b) = uses p a || uses p b
uses p (Mul a b) = uses p a || uses p b
uses p (Div a b) = uses p a || uses p b
uses p (Pow a n) = uses p a

-- the expression with each key n replaced by s n
unfoldable pub replaced : {K L : Type 0} → (K → Expression L) → Expression K → Expression L
replaced s (Num q) = Num q
replaced s (Key n) = s n
replaced s (Neg a) = Neg (replaced s a)
replaced s (Add a b) = Add (replaced s a) (replaced s b)
replaced s (Sub a b) = Sub (replaced s a) (replaced s b)
replaced s (Mul a b) = Mul (replaced s a) (replaced s b)
replaced s (Div a b) = Div (replaced s a) (replaced s b)
replaced s (Pow a n) = Pow (replaced s a) n

-- ---- models
-- what a quantity is: an input with its estimate, or a formula
pub data Body (K : Type 0) : Type 0 where
  Input : ℚ → Body K
  Formula : Expression K → Body K

pub record Row (K : Type 0) : Type 0 where
  pub key : K
  pub body : Body K

-- `same` tests two keys for equality. What follows takes it as an argument, and what is proved of it
-- has this premise
pub record IsSameTest {K : Type 0} (same : K → K → Bool) : Type 0 where
  pub sound : (a b : K) → same a b ≡ true → a ≡ b
  pub complete : (a : K) → same a a ≡ true

-- what the model says of a key
unfoldable pub body_of : {K : Type 0} → (K → K → Bool) → List (Row K) → K → Option (Body K)
body_of same [] n = None
body_of same (r ∷ rs) n = cond (same r.key n) (Some r.body) (body_of same rs n)

unfoldable pub estimate_in : {K : Type 0} → Option (Body K) → ℚ
estimate_in None = of_ℤ (pos 0)
estimate_in (Some (Input q)) = q
estimate_in (Some (Formula f)) = of_ℤ (pos 0)

-- the estimate of an input (JCGM 100:2008, 4.1.4)
unfoldable pub estimate : {K : Type 0} → (K → K → Bool) → List (Row K) → K → ℚ
estimate same model n = estimate_in (body_of same model n)

unfoldable pub is_input_body : {K : Type 0} → Option (Body K) → Bool
is_input_body None = false
is_input_body (Some (Input q)) = true
is_input_body (Some (Formula f)) = false

-- whether the key is an input of the model
unfoldable pub is_input : {K : Type 0} → (K → K → Bool) → List (Row K) → K → Bool
is_input same model n = is_input_body (body_of same model n)

unfoldable pub replaced_body : {K : Type 0} → (K → Expression K) → K → Option (Body K) → Expression K
replaced_body s n None = Key n
replaced_body s n (Some (Input q)) = Key n
replaced_body s n (Some (Formula f)) = replaced s f

-- the key, with formulas put in k times one into another
unfoldable pub expansion : {K : Type 0} → (K → K → Bool) → List (Row K) → ℕ → K → Expression K
expansion same model zero n = Key n
expansion same model (suc k) n = replaced_body (expansion same model k) n (body_of same model n)

-- the expansion to inputs alone: no chain of uses that ends is longer than the model
unfoldable pub expanded : {K : Type 0} → (K → K → Bool) → List (Row K) → K → Expression K
expanded same model y = expansion same model (length model) y

-- 1 for the key itself, 0 for every other key
unfoldable pub unit : {K : Type 0} → (K → K → Bool) → K → K → ℚ
unit same n m = cond (same n m) (of_ℤ (pos 1)) (of_ℤ (pos 0))

-- the value of y (JCGM 100:2008, 4.1.4)
unfoldable pub exact_value : {K : Type 0} → (K → K → Bool) → List (Row K) → K → ℚ
exact_value same model y = value (estimate same model) (expanded same model y)

-- the sensitivity of y to the input i (JCGM 100:2008, 5.1.3)
unfoldable pub exact_slope : {K : Type 0} → (K → K → Bool) → List (Row K) → K → K → ℚ
exact_slope same model y i = slope (estimate same model) (unit same i) (expanded same model y)

-- whether y has a value: that of its expansion is defined, and each key there is an input. So a key
-- that is no quantity has none, and one that a cycle of uses leaves in the expansion gives none
unfoldable pub has_value : {K : Type 0} → (K → K → Bool) → List (Row K) → K → Bool
has_value same model y = is_defined (estimate same model) (is_input same model) (expanded same model y)

-- the value of y where it is defined
unfoldable pub value_of : {K : Type 0} → (K → K → Bool) → List (Row K) → K → Option ℚ
value_of same model y = cond (has_value same model y) (Some (exact_value same model y)) None

-- the sensitivity of y to the input i where it is defined
unfoldable pub derivative_of : {K : Type 0} → (K → K → Bool) → List (Row K) → K → K → Option ℚ
derivative_of same model y i = cond (has_value same model y) (Some (exact_slope same model y i)) None

unfoldable pub body_uses : {K : Type 0} → (K → Bool) → Option (Body K) → Bool
body_uses p None = false
body_uses p (Some (Input q)) = false
body_uses p (Some (Formula f)) = uses p f

-- the keys for which p is true use one another in a cycle, or in several: each is a formula that uses
-- one of them
pub record IsCyclic {K : Type 0} (same : K → K → Bool) (model : List (Row K)) (p : K → Bool) : Type 0 where
  pub each_uses_one : (n : K) → p n ≡ true → body_uses p (body_of same model n) ≡ true

-- ---- sensitivities row by row
unfoldable pub body_partial : {K : Type 0} → (K → K → Bool) → (K → ℚ) → Body K → K → ℚ
body_partial same v (Input q) n = of_ℤ (pos 0)
body_partial same v (Formula f) n = slope v (unit same n) f

-- the partial derivative of a row's own formula by the key n
unfoldable pub partial : {K : Type 0} → (K → K → Bool) → (K → ℚ) → Row K → K → ℚ
partial same v r n = body_partial same v r.body n

-- what the rows bring to the key n, where a has their sensitivities
unfoldable pub brought : {K : Type 0} → (K → K → Bool) → (K → ℚ) → List (Row K) → (K → ℚ) → K → ℚ
brought same v rows a n = total (λ r. a r.key *ℚ partial same v r n) rows

-- a has the sensitivities of y to all keys: 1 to itself, and to each key what its users bring
pub record IsBackward {K : Type 0} (same : K → K → Bool) (v a : K → ℚ) (y : K) (rows : List (Row K)) : Type 0 where
  pub equation : (n : K) → a n ≡ unit same n y +ℚ brought same v rows a n

-- the sweep from users to what they use: each row adds to each key its own sensitivity times its
-- partial derivative by this key
unfoldable pub sweep : {K : Type 0} → (K → K → Bool) → (K → ℚ) → List (Row K) → (K → ℚ) → K → ℚ
sweep same v [] given n = given n
sweep same v (r ∷ rs) given n = sweep same v rs (λ m. given m +ℚ given r.key *ℚ partial same v r m) n

-- ---- orders of the rows
unfoldable pub keys : {K : Type 0} → List (Row K) → List K
keys [] = []
keys (r ∷ rs) = r.key ∷ keys rs

-- whether the key does not stand in the list, and whether it stands there exactly once
unfoldable pub absent : {K : Type 0} → (K → K → Bool) → K → List K → Bool
absent same n [] = true
absent same n (m ∷ ms) = not (same m n) && absent same n ms

unfoldable pub once : {K : Type 0} → (K → K → Bool) → K → List K → Bool
once same n [] = false
once same n (m ∷ ms) = cond (same m n) (absent same n ms) (once same n ms)

-- whether each key that the expression uses stands once in the list
unfoldable pub uses_only : {K : Type 0} → (K → K → Bool) → List K → Expression K → Bool
uses_only same ns (Num q) = true
uses_only same ns (Key n) = once same n ns
uses_only same ns (Neg a) = uses_only same ns a
uses_only same ns (Add a b) = uses_only same ns a && uses_only same ns b
uses_only same ns (Sub a b) = uses_only same ns a && uses_only same ns b
uses_only same ns (Mul a b) = uses_only same ns a && uses_only same ns b
uses_only same ns (Div a b) = uses_only same ns a && uses_only same ns b
uses_only same ns (Pow a n) = uses_only same ns a

unfoldable pub body_uses_only : {K : Type 0} → (K → K → Bool) → List K → Body K → Bool
body_uses_only same ns (Input q) = true
body_uses_only same ns (Formula f) = uses_only same ns f

-- whether the keys differ and each row stands before the rows that it uses, all of which are there
unfoldable pub is_order : {K : Type 0} → (K → K → Bool) → List (Row K) → Bool
is_order same [] = true
is_order same (r ∷ rs) = absent same r.key (keys rs) && body_uses_only same (keys rs) r.body && is_order same rs

-- the rows are rows of the model
unfoldable pub AreOf : {K : Type 0} → (K → K → Bool) → List (Row K) → List (Row K) → Type 0
AreOf same model [] = Unit {0}
AreOf same model (r ∷ rs) = (body_of same model r.key ≡ Some r.body) × AreOf same model rs

-- an order of rows of the model, as one of the cone of a quantity: all rows that it uses, themselves
-- and through others
pub record IsOrderOf {K : Type 0} (same : K → K → Bool) (model rows : List (Row K)) : Type 0 where
  pub of_model : AreOf same model rows
  pub in_order : is_order same rows ≡ true

-- what the expansion says of the quantity m is what the formula f says at the quantities that it uses
pub record IsByRow {K : Type 0} (same : K → K → Bool) (model : List (Row K)) (m : K) (f : Expression K) : Type 0 where
  pub value_is : exact_value same model m ≡ value (exact_value same model) f
  pub defined : has_value same model m ≡ is_defined (exact_value same model) (has_value same model) f
  pub slope_is : (i : K) → exact_slope same model m i ≡ slope (exact_value same model) (λ n. exact_slope same model n i) f
