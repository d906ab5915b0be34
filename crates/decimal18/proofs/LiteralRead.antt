-- What the answers of reading say.
use Rattle.std.specs.Prelude.{◌≡◌, ◌≢◌, ◌↔◌, ℕ, Bool, true, false, cond, List, Option, None, Some, Result, Ok, Err, IfOk, refl}
use Rattle.std.proofs.Common.{sym, ap, ◌∙◌}
use Rattle.exact_fraction.specs.Number.{ℚ}
use Rattle.decimal18.specs.Bound.{Bound, value_of, canonical, IsBound}
use Rattle.decimal18.specs.Literal.{Literal, IsLiteral, IsOutOfRange, exact_of, is_bound, as_bound, in_range, read, literal_of, parsed}
use Rattle.decimal18.specs.declared.literal.NumFault.{NumFault}
use Rattle.decimal18.specs.declared.literal.NumFault.TheVariants.{NotNumber, NumberRange}
use Rattle.decimal18.proofs.Canonical.{IsReduced-canonical}
use Rattle.decimal18.proofs.LiteralBound.{same_bound, in_form, no_bound}
use Rattle.decimal18.proofs.LiteralText.{read_spelt, spelt_read}

-- a number that is read as a bound has its value
bound_value : (b c : Bound) → as_bound b ≡ Some c → value_of b ≡ value_of c
bound_value b c h = by (is_bound (canonical b.coefficient b.places)) h where
  form : Bound
  form = canonical b.coefficient b.places

  by : (t : Bool) → cond t (Some form) None ≡ Some c → value_of b ≡ value_of c
  by true e =
      let same : form ≡ c = cc in
      sym (IsReduced-canonical b.coefficient b.places).same ∙ ap value_of same
  by false e = absurd (cc)

-- a number that is read as none has the value of none
no_bound_value : (b c : Bound) → as_bound b ≡ None → IsBound c → value_of c ≢ value_of b
no_bound_value b c none h e =
    let some : as_bound c ≡ Some (canonical c.coefficient c.places) = in_form c.coefficient c.places h in
    let same : as_bound c ≡ as_bound b = same_bound c.coefficient b.coefficient c.places b.places e in
    absurd (cc)

-- ---- the three answers
pub ok_of : (o : Option Bound) (b : Bound) → in_range o ≡ Ok b → o ≡ Some b
ok_of (Some c) b h = cc
ok_of None b h = absurd (cc)

range_of : (o : Option Bound) → in_range o ≡ Err NumberRange → o ≡ None
range_of (Some c) h = absurd (cc)
range_of None h = refl

is_number : (o : Option Bound) → in_range o ≡ Err NotNumber → ⊥
is_number (Some c) h = absurd (cc)
is_number None h = absurd (cc)

spelt_as : (text : List ℕ) (x : ℚ) (h : IsLiteral text x) → parsed text ≡ in_range (as_bound (exact_of h.literal))
unfolding parsed
spelt_as text x h = ap read (spelt_read text h.literal h.spelt)

pub ok_value : (text : List ℕ) (b : Bound) → parsed text ≡ Ok b → IsLiteral text (value_of b)
unfolding parsed
ok_value text b h = by (literal_of text) refl h where
  by : (o : Option Literal) → literal_of text ≡ o → read o ≡ Ok b → IsLiteral text (value_of b)
  by None e k = absurd (cc)
  by (Some l) e k = record { literal = l; spelt = read_spelt text l e; exact = bound_value (exact_of l) b (ok_of (as_bound (exact_of l)) b k) }

pub if_value : (text : List ℕ) (r : Result Bound NumFault) → r ≡ parsed text → IfOk r (λ b. IsLiteral text (value_of b))
if_value text (Ok b) e = ok_value text b (sym e)
if_value text (Err f) e = tt

pub not_number : (text : List ℕ) → (parsed text ≡ Err NotNumber) ↔ ((x : ℚ) → IsLiteral text x → ⊥)
unfolding parsed
not_number text = (λ e x h. is_number (as_bound (exact_of h.literal)) (sym (spelt_as text x h) ∙ e), λ none. by none (literal_of text) refl) where
  by : ((x : ℚ) → IsLiteral text x → ⊥) → (o : Option Literal) → literal_of text ≡ o → read o ≡ Err NotNumber
  by none None e = refl
  by none (Some l) e = absurd (none (value_of (exact_of l)) (record { literal = l; spelt = read_spelt text l e; exact = refl }))

pub number_range : (text : List ℕ) → (parsed text ≡ Err NumberRange) ↔ IsOutOfRange text
unfolding parsed
number_range text = (λ e. by (literal_of text) refl e, back) where
  by : (o : Option Literal) → literal_of text ≡ o → read o ≡ Err NumberRange → IsOutOfRange text
  by None e k = absurd (cc)
  by (Some l) e k = record {
    value = value_of (exact_of l);
    literal = record { literal = l; spelt = read_spelt text l e; exact = refl };
    no_bound = λ b h. no_bound_value (exact_of l) b (range_of (as_bound (exact_of l)) k) h;
  }

  back : IsOutOfRange text → parsed text ≡ Err NumberRange
  back h =
      let l = h.literal.literal in
      spelt_as text h.value h.literal
      ∙ ap in_range (no_bound (exact_of l).coefficient (exact_of l).places (λ b k e. h.no_bound b k (e ∙ h.literal.exact)))

-- a text has one value
pub one_value : (text : List ℕ) (x y : ℚ) → IsLiteral text x → IsLiteral text y → x ≡ y
one_value text x y h k =
    let first = spelt_read text h.literal h.spelt in
    let second = spelt_read text k.literal k.spelt in
    let same : h.literal ≡ k.literal = cc in
    sym h.exact ∙ ap (λ l. value_of (exact_of l)) same ∙ k.exact
