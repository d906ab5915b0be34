-- The expansion of a model by its places, and how failures spread.
use Rattle.std.specs.Prelude.{◌≡◌, ℕ, zero, suc, ◌+◌, ◌-◌, ◌*◌, ◌<◌, ◌≤◌, Bool, true, false, cond, not, ◌&&◌, Some, None, Result, Ok, Err, List, [], ◌∷◌, length, slice_get, nat_eq, ℤ, pos, refl}
use Rattle.std.proofs.Common.{sym, ◌∙◌, ap, arith, eq-eqb, subst}
use Rattle.std.proofs.lemmas.Bool.{and_left, and_right, ne_eqb, ltb-true, ltb-false, true≢false}
use Rattle.std.proofs.lemmas.Option.{slice_get_read, slice_get_past}
use Rattle.std.proofs.Math.Dec.{ltb}
use Rattle.std.proofs.Math.ListN.{get_or}
use Rattle.std.specs.Option.{option_map, option_map_or}
use Rattle.std.specs.Result.{IsErrAnd}
use Rattle.exact_fraction.specs.Number.{ℚ, of_ℤ, is_zero_ℚ}
use Rattle.exact_law.specs.Model.{Expression, Num, Key, Neg, Add, Sub, Mul, Div, Pow, Input, Formula, Row, is_defined, has_power, value, slope, replaced, replaced_body, body_of, estimate_in, estimate, is_input_body, is_input, expansion}
use Rattle.plain_law.specs.declared.jet.Jet.{Jet}
use Rattle.plain_law.specs.declared.model.Failure.{Failure}
use Rattle.plain_law.specs.declared.model.Failure.TheVariants.{Undefined, TooWide}
use Rattle.plain_law.specs.declared.model.Expression.{Expression as Written}
use Rattle.plain_law.specs.declared.model.Body.{Body as WrittenBody}
use Rattle.plain_law.specs.declared.model.Body.TheVariants.{Formula as AFormula}
use Rattle.plain_law.specs.Numbers.{number}
use Rattle.plain_law.specs.Models.{body, rows_from, rows, IsJetOf, IsJetOrFailure}
use Rattle.plain_law.proofs.Sizes.{size, body_size, model_size}

-- ---- a row by its place
place_is : (k m : ℕ) → m ≡ k → nat_eq k m ≡ true
place_is k m e = eq-eqb k m (sym e)

place_differs : (k n m : ℕ) → m ≡ k + suc n → nat_eq k m ≡ false
place_differs k n m e = ne_eqb k m (λ h. omega (arith, e, h))

place : (bs : List WrittenBody) (k n m : ℕ) → m ≡ k + n → body_of nat_eq (rows_from k bs) m ≡ option_map body (slice_get bs n)
unfolding body_of rows_from
place [] k n m e = refl
place (b ∷ bs) k zero m e = ap (λ t. cond t (Some (body b)) (body_of nat_eq (rows_from (suc k) bs) m)) (place_is k m (omega (arith, e)))
place (b ∷ bs) k (suc n) m e =
    ap (λ t. cond t (Some (body b)) (body_of nat_eq (rows_from (suc k) bs) m)) (place_differs k n m e)
    ∙ place bs (suc k) n m (omega (arith, e))

-- what the model says of a key is what stands at that place
pub body_of-rows : (bs : List WrittenBody) (n : ℕ) → body_of nat_eq (rows bs) n ≡ option_map body (slice_get bs n)
body_of-rows bs n = place bs 0 n n (omega arith)

pub body_of-found : (bs : List WrittenBody) (n : ℕ) (b c : WrittenBody) → slice_get bs n ≡ Some b → b ≡ c → body_of nat_eq (rows bs) n ≡ Some (body c)
body_of-found bs n b c h e = body_of-rows bs n ∙ ap (option_map body) h ∙ ap (λ t. Some (body t)) e

pub body_of-missing : (bs : List WrittenBody) (n : ℕ) → slice_get bs n ≡ None → body_of nat_eq (rows bs) n ≡ None
body_of-missing bs n h = body_of-rows bs n ∙ ap (option_map body) h

-- ---- how much is left
size_within : (bs : List WrittenBody) (n : ℕ) → option_map_or body_size (slice_get bs n) 0 ≤ model_size bs
size_within [] n = omega arith
size_within (b ∷ bs) zero = omega arith
size_within (b ∷ bs) (suc n) = let h = size_within bs n in omega (arith, h)

pub formula_size : (bs : List WrittenBody) (n : ℕ) (b : WrittenBody) (f : Written) → slice_get bs n ≡ Some b → b ≡ AFormula f → size f ≤ model_size bs
formula_size bs n b f h e =
    subst (λ t. t ≤ model_size bs) (ap (λ t. option_map_or body_size t 0) h ∙ ap body_size e) (size_within bs n)

pub falls : (depth m s : ℕ) → 0 < depth → s ≤ m → (depth - 1) * (1 + m) + s < depth * (1 + m)
falls zero m s h l = absurd (omega arith)
falls (suc k) m s h l =
    let e : suc k - 1 ≡ k = omega arith in
    rw e (omega (arith, l))

-- ---- the expansion
pub expansion-formula : (model : List (Row ℕ)) (depth key : ℕ) (f : Expression ℕ) → 0 < depth
    → body_of nat_eq model key ≡ Some (Formula f) → expansion nat_eq model depth key ≡ replaced (expansion nat_eq model (depth - 1)) f
unfolding expansion replaced_body
expansion-formula model zero key f h e = absurd (omega arith)
expansion-formula model (suc k) key f h e =
    let g : k ≡ suc k - 1 = omega arith in
    ap (replaced_body (expansion nat_eq model k) key) e ∙ ap (λ t. replaced (expansion nat_eq model t) f) g

pub expansion-input : (model : List (Row ℕ)) (depth key : ℕ) (q : ℚ) → body_of nat_eq model key ≡ Some (Input q)
    → expansion nat_eq model depth key ≡ Key key
unfolding expansion replaced_body
expansion-input model zero key q e = refl
expansion-input model (suc k) key q e = ap (replaced_body (expansion nat_eq model k) key) e

pub expansion-missing : (model : List (Row ℕ)) (depth key : ℕ) → body_of nat_eq model key ≡ None
    → expansion nat_eq model depth key ≡ Key key
unfolding expansion replaced_body
expansion-missing model zero key e = refl
expansion-missing model (suc k) key e = ap (replaced_body (expansion nat_eq model k) key) e

pub expansion-zero : (model : List (Row ℕ)) (depth key : ℕ) → depth ≤ 0 → expansion nat_eq model depth key ≡ Key key
unfolding expansion
expansion-zero model zero key h = refl
expansion-zero model (suc k) key h = absurd (omega arith)

pub estimate-input : (model : List (Row ℕ)) (key : ℕ) (q : ℚ) → body_of nat_eq model key ≡ Some (Input q) → q ≡ estimate nat_eq model key
unfolding estimate estimate_in
estimate-input model key q e = sym (ap estimate_in e)

pub is_input-input : (model : List (Row ℕ)) (key : ℕ) (q : ℚ) → body_of nat_eq model key ≡ Some (Input q) → is_input nat_eq model key ≡ true
unfolding is_input is_input_body
is_input-input model key q e = ap is_input_body e

pub is_input-formula : (model : List (Row ℕ)) (key : ℕ) (f : Expression ℕ) → body_of nat_eq model key ≡ Some (Formula f) → is_input nat_eq model key ≡ false
unfolding is_input is_input_body
is_input-formula model key f e = ap is_input_body e

pub is_input-missing : (model : List (Row ℕ)) (key : ℕ) → body_of nat_eq model key ≡ None → is_input nat_eq model key ≡ false
unfolding is_input is_input_body
is_input-missing model key e = ap is_input_body e

-- the jet of a key, of which the expression is that of an expansion
pub key_jet : (v d : ℕ → ℚ) (known : ℕ → Bool) (f : Expression ℕ) (key : ℕ) (j : Jet) → f ≡ Key key → known key ≡ true → number j.value ≡ v key → number j.slope ≡ d key → IsJetOf v d known f j
unfolding is_defined value slope
key_jet v d known f key j e g h k =
    subst (λ g. IsJetOf v d known g j) (sym e) (record { defined = g; value_is = h; slope_is = k })

-- a key without a value, of which the expression is that of an expansion
pub key_undefined : (v : ℕ → ℚ) (known : ℕ → Bool) (f : Expression ℕ) (key : ℕ) → f ≡ Key key → known key ≡ false → is_defined v known f ≡ false
unfolding is_defined
key_undefined v known f key e h = ap (is_defined v known) e ∙ h

pub number_jet : (v d : ℕ → ℚ) (known : ℕ → Bool) (f : Expression ℕ) (q : ℚ) (j : Jet) → f ≡ Num q → number j.value ≡ q → number j.slope ≡ of_ℤ (pos 0) → IsJetOf v d known f j
unfolding is_defined value slope
number_jet v d known f q j e h k =
    subst (λ g. IsJetOf v d known g j) (sym e) (record { defined = refl; value_is = h; slope_is = k })

pub along : (v d : ℕ → ℚ) (known : ℕ → Bool) (f g : Expression ℕ) (r : Result Jet Failure) → f ≡ g → IsJetOrFailure v d known g r → IsJetOrFailure v d known f r
along v d known f g r e h = subst (λ t. IsJetOrFailure v d known t r) (sym e) h

pub along_jet : (v d : ℕ → ℚ) (known : ℕ → Bool) (f g : Expression ℕ) (j : Jet) → f ≡ g → IsJetOf v d known g j → IsJetOf v d known f j
along_jet v d known f g j e h = subst (λ t. IsJetOf v d known t j) (sym e) h

-- ---- failures
pub failed : (v d : ℕ → ℚ) (known : ℕ → Bool) (f g h : Expression ℕ) (e : Failure) (r : Result Jet Failure) → IsErrAnd r (λ x. x ≡ e) → g ≡ h
    → (is_defined v known f ≡ false → is_defined v known h ≡ false) → IsJetOrFailure v d known f (Err e) → IsJetOrFailure v d known g r
failed v d known f g h e (Ok j) i k l m = absurd i
failed v d known f g h e (Err x) i k l m = along v d known g h (Err x) k (subst (λ t. IsJetOrFailure v d known h (Err t)) (sym i) (spread v d known f h e l m)) where
  spread : (v d : ℕ → ℚ) (known : ℕ → Bool) (f h : Expression ℕ) (e : Failure) → (is_defined v known f ≡ false → is_defined v known h ≡ false)
      → IsJetOrFailure v d known f (Err e) → IsJetOrFailure v d known h (Err e)
  spread v d known f h Undefined l m = l m
  spread v d known f h TooWide l m = tt

pub add_left : (v : ℕ → ℚ) (known : ℕ → Bool) (f g : Expression ℕ) → is_defined v known f ≡ false → is_defined v known (Add f g) ≡ false
unfolding is_defined
add_left v known f g h = and_left _ (is_defined v known g) h

pub add_right : (v : ℕ → ℚ) (known : ℕ → Bool) (f g : Expression ℕ) → is_defined v known g ≡ false → is_defined v known (Add f g) ≡ false
unfolding is_defined
add_right v known f g h = and_right (is_defined v known f) _ h

pub sub_left : (v : ℕ → ℚ) (known : ℕ → Bool) (f g : Expression ℕ) → is_defined v known f ≡ false → is_defined v known (Sub f g) ≡ false
unfolding is_defined
sub_left v known f g h = and_left _ (is_defined v known g) h

pub sub_right : (v : ℕ → ℚ) (known : ℕ → Bool) (f g : Expression ℕ) → is_defined v known g ≡ false → is_defined v known (Sub f g) ≡ false
unfolding is_defined
sub_right v known f g h = and_right (is_defined v known f) _ h

pub mul_left : (v : ℕ → ℚ) (known : ℕ → Bool) (f g : Expression ℕ) → is_defined v known f ≡ false → is_defined v known (Mul f g) ≡ false
unfolding is_defined
mul_left v known f g h = and_left _ (is_defined v known g) h

pub mul_right : (v : ℕ → ℚ) (known : ℕ → Bool) (f g : Expression ℕ) → is_defined v known g ≡ false → is_defined v known (Mul f g) ≡ false
unfolding is_defined
mul_right v known f g h = and_right (is_defined v known f) _ h

pub div_left : (v : ℕ → ℚ) (known : ℕ → Bool) (f g : Expression ℕ) → is_defined v known f ≡ false → is_defined v known (Div f g) ≡ false
unfolding is_defined
div_left v known f g h = and_left (is_defined v known f && is_defined v known g) (not (is_zero_ℚ (value v g))) (and_left (is_defined v known f) _ h)

pub div_right : (v : ℕ → ℚ) (known : ℕ → Bool) (f g : Expression ℕ) → is_defined v known g ≡ false → is_defined v known (Div f g) ≡ false
unfolding is_defined
div_right v known f g h = and_left (is_defined v known f && is_defined v known g) (not (is_zero_ℚ (value v g))) (and_right (is_defined v known f) _ h)

pub neg_part : (v : ℕ → ℚ) (known : ℕ → Bool) (f : Expression ℕ) → is_defined v known f ≡ false → is_defined v known (Neg f) ≡ false
unfolding is_defined
neg_part v known f h = h

pub pow_part : (v : ℕ → ℚ) (known : ℕ → Bool) (f : Expression ℕ) (n : ℤ) → is_defined v known f ≡ false → is_defined v known (Pow f n) ≡ false
unfolding is_defined
pow_part v known f n h = and_left (is_defined v known f) (has_power (value v f) n) h

-- ---- the expansion of what is written
pub replaced_add : (s : ℕ → Expression ℕ) (f g h : Expression ℕ) → f ≡ Add g h → replaced s f ≡ Add (replaced s g) (replaced s h)
unfolding replaced
replaced_add s f g h e = ap (replaced s) e

pub replaced_sub : (s : ℕ → Expression ℕ) (f g h : Expression ℕ) → f ≡ Sub g h → replaced s f ≡ Sub (replaced s g) (replaced s h)
unfolding replaced
replaced_sub s f g h e = ap (replaced s) e

pub replaced_mul : (s : ℕ → Expression ℕ) (f g h : Expression ℕ) → f ≡ Mul g h → replaced s f ≡ Mul (replaced s g) (replaced s h)
unfolding replaced
replaced_mul s f g h e = ap (replaced s) e

pub replaced_div : (s : ℕ → Expression ℕ) (f g h : Expression ℕ) → f ≡ Div g h → replaced s f ≡ Div (replaced s g) (replaced s h)
unfolding replaced
replaced_div s f g h e = ap (replaced s) e

pub replaced_neg : (s : ℕ → Expression ℕ) (f g : Expression ℕ) → f ≡ Neg g → replaced s f ≡ Neg (replaced s g)
unfolding replaced
replaced_neg s f g e = ap (replaced s) e

pub replaced_pow : (s : ℕ → Expression ℕ) (f g : Expression ℕ) (n : ℤ) → f ≡ Pow g n → replaced s f ≡ Pow (replaced s g) n
unfolding replaced
replaced_pow s f g n e = ap (replaced s) e

pub replaced_key : (s : ℕ → Expression ℕ) (f : Expression ℕ) (n : ℕ) → f ≡ Key n → replaced s f ≡ s n
unfolding replaced
replaced_key s f n e = ap (replaced s) e

pub replaced_num : (s : ℕ → Expression ℕ) (f : Expression ℕ) (q : ℚ) → f ≡ Num q → replaced s f ≡ Num q
unfolding replaced
replaced_num s f q e = ap (replaced s) e

-- what a lookup finds is the row at that place
pub looked_up : (bs : List WrittenBody) (n : ℕ) (b : WrittenBody) → true ≡ ltb n (length bs) → b ≡ get_or bs n b → slice_get bs n ≡ Some b
looked_up bs n b h e = slice_get_read bs (length bs) n b refl (ltb-true n (length bs) (sym h)) e

ltb_past : (n m : ℕ) → false ≡ ltb n m → m ≤ n
ltb_past n m h = by (ltb n m) refl where
  by : (b : Bool) → ltb n m ≡ b → m ≤ n
  by true e = absurd (true≢false (sym e ∙ sym h))
  by false e = ltb-false n m e

pub looked_past : (bs : List WrittenBody) (n : ℕ) → false ≡ ltb n (length bs) → slice_get bs n ≡ None
looked_past bs n h = slice_get_past bs n (ltb_past n (length bs) h)
