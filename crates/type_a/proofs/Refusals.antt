-- Each refusal by the test that gives it, where those before it do not apply.
use Rattle.std.specs.Prelude.{◌≡◌, ℕ, ◌<◌, ◌≤◌, Bool, true, false, cond, nat_lt, length, Option, Some, None, Err, refl}
use Rattle.std.specs.List.{position_from}
use Rattle.std.proofs.Common.{sym, ◌∙◌, ap, ap₂, arith}
use Rattle.std.proofs.lemmas.Bool.Decides.{nat_tests}
use Rattle.type_a.specs.declared.readings.ReadingsFault.{ReadingsFault}
use Rattle.type_a.specs.declared.readings.ReadingsFault.TheVariants.{TooFew, TooMany, Shape, Wide}
use Rattle.type_a.specs.Tables.{Table, width_of, finest, is_misshapen, has_wide, first_of, refusal, unless, readings_of}

-- the refusal by what the tests answer
abbrev by_tests : Option ℕ → Bool → Bool → Option ℕ → Option ReadingsFault
by_tests shape few many wide =
    first_of Shape shape (cond few (Some TooFew) (cond many (Some TooMany) (first_of Wide wide None)))

refusal_is : (t : Table) (shape : Option ℕ) (few many : Bool) (wide : Option ℕ)
    → position_from (is_misshapen (width_of t)) 1 t ≡ shape → nat_lt (length t) 2 ≡ few → nat_lt 1000 (length t) ≡ many
    → position_from (has_wide (finest t)) 1 t ≡ wide → refusal t ≡ by_tests shape few many wide
unfolding refusal
refusal_is t shape few many wide e f g h = ap₂ (λ a b. by_tests a b (nat_lt 1000 (length t)) (position_from (has_wide (finest t)) 1 t)) e f
    ∙ ap₂ (λ a b. by_tests shape few a b) g h

-- what the code's search found
found : (t : Table) (width place : ℕ) (o : Option ℕ) → width ≡ width_of t → o ≡ position_from (is_misshapen width) 1 t → o ≡ Some place
    → position_from (is_misshapen (width_of t)) 1 t ≡ Some place
found t width place o e f g = ap (λ w. position_from (is_misshapen w) 1 t) (sym e) ∙ sym f ∙ g

pub none_of : {X : Type 0} (o : Option X) → ((x : X) → o ≡ Some x → ⊥) → o ≡ None
none_of None h = refl
none_of (Some x) h = absurd (h x refl)

pub no_shape : (t : Table) (width : ℕ) (o : Option ℕ) → width ≡ width_of t → o ≡ position_from (is_misshapen width) 1 t → ((x : ℕ) → o ≡ Some x → ⊥)
    → position_from (is_misshapen (width_of t)) 1 t ≡ None
no_shape t width o e f h = ap (λ w. position_from (is_misshapen w) 1 t) (sym e) ∙ sym f ∙ none_of o h

pub refused_shape : (t : Table) (width place : ℕ) (o : Option ℕ) → width ≡ width_of t → o ≡ position_from (is_misshapen width) 1 t → o ≡ Some place
    → readings_of t ≡ Err (Shape place)
refused_shape t width place o e f g = ap (λ r. unless r t) (refusal_is t (Some place) _ _ _ (found t width place o e f g) refl refl refl)

pub refused_few : (t : Table) → position_from (is_misshapen (width_of t)) 1 t ≡ None → length t < 2 → readings_of t ≡ Err TooFew
refused_few t s h =
    let few : nat_lt (length t) 2 ≡ true = grind (arith, nat_tests) in
    ap (λ r. unless r t) (refusal_is t None true _ _ s few refl refl)

pub refused_many : (t : Table) → position_from (is_misshapen (width_of t)) 1 t ≡ None → 1000 < length t → readings_of t ≡ Err TooMany
refused_many t s h =
    let few : nat_lt (length t) 2 ≡ false = grind (arith, nat_tests) in
    let many : nat_lt 1000 (length t) ≡ true = grind (arith, nat_tests) in
    ap (λ r. unless r t) (refusal_is t None false true _ s few many refl)

pub refused_wide : (t : Table) (place : ℕ) → position_from (is_misshapen (width_of t)) 1 t ≡ None → 2 ≤ length t → length t ≤ 1000
    → position_from (has_wide (finest t)) 1 t ≡ Some place → readings_of t ≡ Err (Wide place)
refused_wide t place s h k w =
    let few : nat_lt (length t) 2 ≡ false = grind (arith, nat_tests) in
    let many : nat_lt 1000 (length t) ≡ false = grind (arith, nat_tests) in
    ap (λ r. unless r t) (refusal_is t None false false (Some place) s few many w)

pub not_refused : (t : Table) → position_from (is_misshapen (width_of t)) 1 t ≡ None → 2 ≤ length t → length t ≤ 1000
    → position_from (has_wide (finest t)) 1 t ≡ None → refusal t ≡ None
not_refused t s h k w =
    let few : nat_lt (length t) 2 ≡ false = grind (arith, nat_tests) in
    let many : nat_lt 1000 (length t) ≡ false = grind (arith, nat_tests) in
    refusal_is t None false false None s few many w

pub accepted : (t : Table) (width : ℕ) (o : Option ℕ) (places : ℕ) (u : Option ℕ) → width ≡ width_of t → o ≡ position_from (is_misshapen width) 1 t
    → ((x : ℕ) → o ≡ Some x → ⊥) → 2 ≤ length t → length t ≤ 1000 → places ≡ finest t → u ≡ position_from (has_wide places) 1 t
    → ((x : ℕ) → u ≡ Some x → ⊥) → refusal t ≡ None
accepted t width o places u e f n h k g w m =
    not_refused t (no_shape t width o e f n) h k (ap (λ p. position_from (has_wide p) 1 t) (sym g) ∙ sym w ∙ none_of u m)
