-- Answers go on from what the law of propagation needs of a quantity, or of two.
use Rattle.std.specs.Prelude.{◌≡◌, ℕ, true, if◌then◌else◌, bytes_eq, List, Result, Ok, Err}
use Rattle.std.specs.Option.{unwrap_or}
use Rattle.std.proofs.Common.{ap, ◌∙◌}
use Rattle.fixed_interval.specs.Interval.{Interval}
use Rattle.covariance.specs.Gradients.{Spans, Gradient, sensitivity, found_at}
use Rattle.round_out.specs.Searches.{correlation_of}
use Rattle.fixed_interval.specs.Sums.{zero_span}
use Rattle.sheet_rows.specs.Rows.{Sheet}
use Rattle.value_cache.specs.Quantities.{is_there}
use Rattle.adjoint_pass.specs.Sensitivities.{gradient_of}
use Rattle.answers.specs.declared.reply.Answer.{Answer}
use Rattle.sheet_model.specs.Quantities.{quantities}
use Rattle.sheet_model.specs.Numbering.{number_among}
use Rattle.edit_session.specs.Replies.{OutOfRange, Found, and_then, in_range, value_in, gradient_in, variance_in, covariance_in, correlation_in, answer_of_one, answer_of_two}
use Rattle.edit_session.specs.Asking.{Finds, IsGradientIn, IsOfOne, IsOfTwo}
use Rattle.edit_session.specs.declared.stop.Stop.{Stop as CodeStop}
use Rattle.edit_session.specs.declared.asked.OfOne.{OfOne}
use Rattle.edit_session.specs.declared.asked.OfTwo.{OfTwo}
use Rattle.edit_session.proofs.Found.{finds_on}

-- the sensitivities of y by names
abbrev pub gradient_by : Sheet → List ℕ → Spans (List ℕ)
gradient_by sheet y = gradient_of bytes_eq (quantities sheet) y

pub gradient_found : (sheet : Sheet) (y : List ℕ) (g : Gradient) → IsGradientIn sheet y g → gradient_in sheet y ≡ Ok (gradient_by sheet y)
gradient_found sheet y g is = ap (λ b. if b then Ok (gradient_by sheet y) else Err OutOfRange) is.whole

pub finds_one : (sheet : Sheet) (y : List ℕ) (one : OfOne) → IsOfOne sheet y one → (answer : Interval → Spans (List ℕ) → Found Answer) (r : Result Answer CodeStop)
    → Finds r (answer one.value (gradient_by sheet y)) → Finds r (answer_of_one sheet y answer)
finds_one sheet y one is answer r h =
    finds_on r (value_in sheet y) one.value (λ value. and_then (gradient_in sheet y) (λ dy. answer value dy)) is.value
    (finds_on r (gradient_in sheet y) (gradient_by sheet y) (λ dy. answer one.value dy) (gradient_found sheet y one.gradient is.gradient) h)

pub finds_two : (sheet : Sheet) (y z : List ℕ) (two : OfTwo) → IsOfTwo sheet y z two → (answer : Spans (List ℕ) → Spans (List ℕ) → Found Answer)
    (r : Result Answer CodeStop) → Finds r (answer (gradient_by sheet y) (gradient_by sheet z)) → Finds r (answer_of_two sheet y z answer)
finds_two sheet y z two is answer r h =
    finds_on r (value_in sheet y) is.first_value
    (λ first. and_then (value_in sheet z) (λ second. and_then (gradient_in sheet y) (λ dy. and_then (gradient_in sheet z) (λ dz. answer dy dz)))) is.has_first
    (finds_on r (value_in sheet z) is.second_value (λ second. and_then (gradient_in sheet y) (λ dy. and_then (gradient_in sheet z) (λ dz. answer dy dz))) is.has_second
    (finds_on r (gradient_in sheet y) (gradient_by sheet y) (λ dy. and_then (gradient_in sheet z) (λ dz. answer dy dz)) (gradient_found sheet y two.first is.first)
    (finds_on r (gradient_in sheet z) (gradient_by sheet z) (λ dz. answer (gradient_by sheet y) dz) (gradient_found sheet z two.second is.second) h)))

-- where the covariance and both variances are there
pub correlation_is : (sheet : Sheet) (dy dz : Spans (List ℕ)) (c v w : Interval) → covariance_in sheet dy dz ≡ Ok c → variance_in sheet dy ≡ Ok v → variance_in sheet dz ≡ Ok w
    → correlation_in sheet dy dz ≡ in_range (correlation_of c v w)
correlation_is sheet dy dz c v w e f g =
    ap (λ r. and_then r (λ c. and_then (variance_in sheet dy) (λ v. and_then (variance_in sheet dz) (λ w. in_range (correlation_of c v w))))) e
    ∙ ap (λ r. and_then r (λ v. and_then (variance_in sheet dz) (λ w. in_range (correlation_of c v w)))) f
    ∙ ap (λ r. and_then r (λ w. in_range (correlation_of c v w))) g

-- one sensitivity, by the number of the input
pub sensitivity_found : (sheet : Sheet) (y x : List ℕ) (g : Gradient) (id : ℕ) → IsGradientIn sheet y g → is_there bytes_eq (quantities sheet) x ≡ true
    → id ≡ number_among (quantities sheet) x → sensitivity (found_at g) id ≡ sensitivity (gradient_by sheet y) x
sensitivity_found sheet y x g id is there e = ap (sensitivity (found_at g)) e ∙ ap (λ o. unwrap_or o zero_span) (is.each x there)
