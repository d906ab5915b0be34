-- Values and derivatives by the jet of the expansion.
use Rattle.std.specs.Prelude.{◌≡◌, ℕ, suc, Bool, true, false, cond, ◌&&◌, unwrap_or, is_none, Option, Some, None, Result, Ok, Err, List, [], ◌∷◌, length, nat_eq, refl}
use Rattle.std.proofs.Common.{sym, ◌∙◌, ap, ap₂, subst}
use Rattle.std.proofs.lemmas.Bool.{and_left, and_right, true≢false}
use Rattle.std.specs.Option.{is_some}
use Rattle.std.specs.Result.{IsErrAnd}
use Rattle.exact_fraction.specs.Number.{ℚ}
use Rattle.exact_law.specs.Model.{is_defined, value, slope, expansion, expanded, estimate, is_input, unit, exact_value, exact_slope, has_value, value_of, derivative_of}
use Rattle.plain_law.specs.declared.fraction.Exact.{Exact}
use Rattle.plain_law.specs.declared.jet.Jet.{Jet}
use Rattle.plain_law.specs.declared.model.Failure.{Failure}
use Rattle.plain_law.specs.declared.model.Failure.TheVariants.{Undefined, TooWide}
use Rattle.plain_law.specs.declared.model.Body.{Body as WrittenBody}
use Rattle.plain_law.specs.Numbers.{number}
use Rattle.plain_law.specs.Models.{rows_from, rows, IsAnswer, IsJetOf, IsJetOrFailure}

length-rows_from : (k : ℕ) (bs : List WrittenBody) → length (rows_from k bs) ≡ length bs
unfolding rows_from
length-rows_from k [] = refl
length-rows_from k (b ∷ bs) = ap suc (length-rows_from (suc k) bs)

-- the expansion has as many steps as there are rows
expanded-rows : (bs : List WrittenBody) (y : ℕ) → expanded nat_eq (rows bs) y ≡ expansion nat_eq (rows bs) (length bs) y
unfolding expanded
expanded-rows bs y = ap (λ n. expansion nat_eq (rows bs) n y) (length-rows_from 0 bs)

-- ---- where the expansion is defined
pub has_value-jet : (bs : List WrittenBody) (y : ℕ) (d : ℕ → ℚ) (j : Jet) → IsJetOf (estimate nat_eq (rows bs)) d (is_input nat_eq (rows bs)) (expansion nat_eq (rows bs) (length bs) y) j
    → has_value nat_eq (rows bs) y ≡ true
unfolding has_value
has_value-jet bs y d j h = ap (is_defined (estimate nat_eq (rows bs)) (is_input nat_eq (rows bs))) (expanded-rows bs y) ∙ h.defined

pub exact_value-jet : (bs : List WrittenBody) (y : ℕ) (d : ℕ → ℚ) (j : Jet) → IsJetOf (estimate nat_eq (rows bs)) d (is_input nat_eq (rows bs)) (expansion nat_eq (rows bs) (length bs) y) j
    → exact_value nat_eq (rows bs) y ≡ number j.value
unfolding exact_value
exact_value-jet bs y d j h = ap (value (estimate nat_eq (rows bs))) (expanded-rows bs y) ∙ sym h.value_is

pub exact_slope-jet : (bs : List WrittenBody) (y i : ℕ) (j : Jet)
    → IsJetOf (estimate nat_eq (rows bs)) (unit nat_eq i) (is_input nat_eq (rows bs)) (expansion nat_eq (rows bs) (length bs) y) j
    → exact_slope nat_eq (rows bs) y i ≡ number j.slope
unfolding exact_slope
exact_slope-jet bs y i j h = ap (slope (estimate nat_eq (rows bs)) (unit nat_eq i)) (expanded-rows bs y) ∙ sym h.slope_is

pub value_of-jet : (bs : List WrittenBody) (y : ℕ) (d : ℕ → ℚ) (j : Jet) → IsJetOf (estimate nat_eq (rows bs)) d (is_input nat_eq (rows bs)) (expansion nat_eq (rows bs) (length bs) y) j
    → value_of nat_eq (rows bs) y ≡ Some (number j.value)
unfolding value_of
value_of-jet bs y d j h =
    ap (λ b. cond b (Some (exact_value nat_eq (rows bs) y)) None) (has_value-jet bs y d j h) ∙ ap Some (exact_value-jet bs y d j h)

pub derivative_of-jet : (bs : List WrittenBody) (y i : ℕ) (j : Jet)
    → IsJetOf (estimate nat_eq (rows bs)) (unit nat_eq i) (is_input nat_eq (rows bs)) (expansion nat_eq (rows bs) (length bs) y) j
    → derivative_of nat_eq (rows bs) y i ≡ Some (number j.slope)
unfolding derivative_of
derivative_of-jet bs y i j h =
    ap (λ b. cond b (Some (exact_slope nat_eq (rows bs) y i)) None) (has_value-jet bs y (unit nat_eq i) j h) ∙ ap Some (exact_slope-jet bs y i j h)

-- ---- where it is not, or does not fit
pub has_value-undefined : (bs : List WrittenBody) (y : ℕ) (d : ℕ → ℚ)
    → IsJetOrFailure (estimate nat_eq (rows bs)) d (is_input nat_eq (rows bs)) (expansion nat_eq (rows bs) (length bs) y) (Err Undefined) → has_value nat_eq (rows bs) y ≡ false
unfolding has_value
has_value-undefined bs y d h = ap (is_defined (estimate nat_eq (rows bs)) (is_input nat_eq (rows bs))) (expanded-rows bs y) ∙ h

pub value_of-failure : (bs : List WrittenBody) (y : ℕ) (d : ℕ → ℚ) (e : Failure) (r : Result Exact Failure) → IsErrAnd r (λ x. x ≡ e)
    → IsJetOrFailure (estimate nat_eq (rows bs)) d (is_input nat_eq (rows bs)) (expansion nat_eq (rows bs) (length bs) y) (Err e) → IsAnswer r (value_of nat_eq (rows bs) y)
unfolding value_of
value_of-failure bs y d e (Ok q) i h = absurd i
value_of-failure bs y d Undefined (Err x) i h =
    subst (λ t. IsAnswer (Err t) (value_of nat_eq (rows bs) y)) (sym i)
    (ap (λ b. cond b (Some (exact_value nat_eq (rows bs) y)) None) (has_value-undefined bs y d h))
value_of-failure bs y d TooWide (Err x) i h = subst (λ t. IsAnswer (Err t) (value_of nat_eq (rows bs) y)) (sym i) tt

pub derivative_of-failure : (bs : List WrittenBody) (y i : ℕ) (e : Failure) (r : Result Exact Failure) → IsErrAnd r (λ x. x ≡ e)
    → IsJetOrFailure (estimate nat_eq (rows bs)) (unit nat_eq i) (is_input nat_eq (rows bs)) (expansion nat_eq (rows bs) (length bs) y) (Err e)
    → IsAnswer r (derivative_of nat_eq (rows bs) y i)
unfolding derivative_of
derivative_of-failure bs y i e (Ok q) k h = absurd k
derivative_of-failure bs y i Undefined (Err x) k h =
    subst (λ t. IsAnswer (Err t) (derivative_of nat_eq (rows bs) y i)) (sym k)
    (ap (λ b. cond b (Some (exact_slope nat_eq (rows bs) y i)) None) (has_value-undefined bs y (unit nat_eq i) h))
derivative_of-failure bs y i TooWide (Err x) k h = subst (λ t. IsAnswer (Err t) (derivative_of nat_eq (rows bs) y i)) (sym k) tt

-- ---- from answers back
some_injective : {A : Type 0} (x y : A) → ◌≡◌ {A = Option A} (Some x) (Some y) → x ≡ y
some_injective x y h = ap (λ o. unwrap_or o x) h

some_only : {A : Type 0} (b : Bool) (x y : A) → cond b (Some x) None ≡ Some y → (b ≡ true) × (x ≡ y)
some_only true x y h = (refl, some_injective x y h)
some_only false x y h = absurd (true≢false (ap is_none h))

none_only : {A : Type 0} (b : Bool) (x : A) → ◌≡◌ {A = Option A} (cond b (Some x) None) None → b ≡ false
none_only true x h = absurd (true≢false (ap is_some h))
none_only false x h = refl

pub exact_slope-answer : (bs : List WrittenBody) (y i : ℕ) (q : Exact) → derivative_of nat_eq (rows bs) y i ≡ Some (number q)
    → number q ≡ exact_slope nat_eq (rows bs) y i
unfolding derivative_of
exact_slope-answer bs y i q h = sym (some_only (has_value nat_eq (rows bs) y) (exact_slope nat_eq (rows bs) y i) (number q) h).1

has_value-answer : (bs : List WrittenBody) (y : ℕ) (q : Exact) → value_of nat_eq (rows bs) y ≡ Some (number q) → has_value nat_eq (rows bs) y ≡ true
unfolding value_of
has_value-answer bs y q h = (some_only (has_value nat_eq (rows bs) y) (exact_value nat_eq (rows bs) y) (number q) h).0

has_value-none : (bs : List WrittenBody) (y : ℕ) → value_of nat_eq (rows bs) y ≡ None → has_value nat_eq (rows bs) y ≡ false
unfolding value_of
has_value-none bs y h = none_only (has_value nat_eq (rows bs) y) (exact_value nat_eq (rows bs) y) h

-- a failure of the value is one of whatever needs it
needed : (bs : List WrittenBody) (y : ℕ) (e : Failure) (r : Result Exact Failure) (b : Bool) (x : ℚ) → IsErrAnd r (λ f. f ≡ e)
    → (has_value nat_eq (rows bs) y ≡ false → b ≡ false) → IsAnswer (Err e) (value_of nat_eq (rows bs) y) → IsAnswer r (cond b (Some x) None)
needed bs y e (Ok q) b x i k h = absurd i
needed bs y Undefined (Err f) b x i k h =
    subst (λ t. IsAnswer (Err t) (cond b (Some x) None)) (sym i) (ap (λ t. cond t (Some x) None) (k (has_value-none bs y h)))
needed bs y TooWide (Err f) b x i k h = subst (λ t. IsAnswer (Err t) (cond b (Some x) None)) (sym i) tt

pub both-failed_first : (bs : List WrittenBody) (y z : ℕ) (e : Failure) (r : Result Exact Failure) (x : ℚ) → IsErrAnd r (λ f. f ≡ e)
    → IsAnswer (Err e) (value_of nat_eq (rows bs) y)
    → IsAnswer r (cond (has_value nat_eq (rows bs) y && has_value nat_eq (rows bs) z) (Some x) None)
both-failed_first bs y z e r x i h =
    needed bs y e r _ x i (and_left (has_value nat_eq (rows bs) y) (has_value nat_eq (rows bs) z)) h

pub both-failed_second : (bs : List WrittenBody) (y z : ℕ) (e : Failure) (r : Result Exact Failure) (x : ℚ) → IsErrAnd r (λ f. f ≡ e)
    → IsAnswer (Err e) (value_of nat_eq (rows bs) z)
    → IsAnswer r (cond (has_value nat_eq (rows bs) y && has_value nat_eq (rows bs) z) (Some x) None)
both-failed_second bs y z e r x i h =
    needed bs z e r _ x i (and_right (has_value nat_eq (rows bs) y) (has_value nat_eq (rows bs) z)) h

pub both-answer : (bs : List WrittenBody) (y z : ℕ) (p q r : Exact) (x : ℚ) → value_of nat_eq (rows bs) y ≡ Some (number p)
    → value_of nat_eq (rows bs) z ≡ Some (number q) → number r ≡ x
    → cond (has_value nat_eq (rows bs) y && has_value nat_eq (rows bs) z) (Some x) None ≡ Some (number r)
both-answer bs y z p q r x h i e =
    ap (λ b. cond b (Some x) None) (ap₂ (λ a b. a && b) (has_value-answer bs y p h) (has_value-answer bs z q i)) ∙ ap Some (sym e)

pub part-failed : (bs : List WrittenBody) (y : ℕ) (e : Failure) (r : Result Exact Failure) (x : ℚ) → IsErrAnd r (λ f. f ≡ e)
    → IsAnswer (Err e) (value_of nat_eq (rows bs) y) → IsAnswer r (cond (has_value nat_eq (rows bs) y) (Some x) None)
part-failed bs y e r x i h = needed bs y e r _ x i (λ k. k) h

pub part-answer : (bs : List WrittenBody) (y : ℕ) (p r : Exact) (x : ℚ) → value_of nat_eq (rows bs) y ≡ Some (number p) → number r ≡ x
    → cond (has_value nat_eq (rows bs) y) (Some x) None ≡ Some (number r)
part-answer bs y p r x h e = ap (λ b. cond b (Some x) None) (has_value-answer bs y p h) ∙ ap Some (sym e)
