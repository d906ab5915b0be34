-- What is found of a sheet that stands is so of its exact law.
use Rattle.std.specs.Prelude.{◌≡◌, ℕ, Bool, true, false, if◌then◌else◌, bytes_eq, List, Option, Some, None, Ok, Err, IfOk, pos, refl}
use Rattle.std.proofs.Common.{◌∙◌}
use Rattle.exact_fraction.specs.Number.{of_ℤ, ◌≤ℚ◌}
use Rattle.decimal18.specs.Bound.{value_of}
use Rattle.fixed_interval.specs.Interval.{Interval, Encloses}
use Rattle.round_out.specs.Correlations.{IsTrueOf}
use Rattle.round_out.specs.declared.coefficient.CorrSaid.{CorrSaid}
use Rattle.round_out.proofs.Holding.{coefficient_holds}
use Rattle.table_g2.specs.Known.{Allows, AreDegrees}
use Rattle.sheet_rows.specs.Rows.{Sheet}
use Rattle.sheet_rows.specs.Sheets.{has_quantity, IsStanding}
use Rattle.value_cache.specs.Evaluations.{evaluation_of}
use Rattle.value_cache.specs.Model.{HasValueIn}
use Rattle.value_cache.specs.declared.evaluation.Evaluation.{Evaluation}
use Rattle.value_cache.specs.declared.evaluation.Evaluation.TheVariants.{Enclosed, Fault}
use Rattle.value_cache.proofs.Sound.{values_enclosed}
use Rattle.covariance.specs.Gradients.{Spans}
use Rattle.covariance.specs.Models.{EnclosesSlopes}
use Rattle.covariance.specs.Variances.{combined_variance_span, combined_covariance_span}
use Rattle.covariance.proofs.Models.{law_variance_holds, law_covariance_holds, law_is_within, there_encloses}
use Rattle.covariance.proofs.NotNegative.{variance-from_zero, some-from_zero}
use Rattle.adjoint_pass.specs.Sensitivities.{has_gradient, gradient_of}
use Rattle.adjoint_pass.proofs.Gradients.{gradient_encloses}
use Rattle.eff_dof.specs.GroupParts.{known_degrees_of}
use Rattle.eff_dof.proofs.GroupShares.{degrees_in_range}
use Rattle.eff_dof.proofs.OfModels.{degrees_in_model}
use Rattle.sheet_model.specs.Quantities.{quantities}
use Rattle.sheet_model.specs.Groups.{groups}
use Rattle.sheet_model.proofs.Names.{there-is_quantity}
use Rattle.sheet_model.proofs.Formulas.{same_names}
use Rattle.sheet_model.proofs.Walking.{exponents_of_rows, quantities_in_order}
use Rattle.sheet_model.proofs.SheetGroups.{sheet_groups}
use Rattle.edit_session.specs.Replies.{Found, and_then, value_by, value_in, gradient_in, variance_in, covariance_in, correlation_in, degrees_in, OutOfRange}
use Rattle.edit_session.specs.Sound.{model_in, law_in, exact_degrees_in}
use Rattle.edit_session.proofs.Inputs.{names_apart}
use Rattle.edit_session.proofs.Found.{if_then, if_in_range, if_some, of_ok}
use Rattle.edit_session.proofs.GroupDegrees.{sheet_degrees}

abbrev pub gradient_by : Sheet → List ℕ → Spans (List ℕ)
gradient_by sheet y = gradient_of bytes_eq (quantities sheet) y

-- the sensitivities of y enclose the derivatives
abbrev pub HasSlopes : Sheet → List ℕ → Type 0
HasSlopes sheet y = EnclosesSlopes bytes_eq (model_in sheet) y (gradient_by sheet y)

module _ (sheet : Sheet) (h : IsStanding sheet) where
  pub value_holds : (y : List ℕ) → IfOk (value_in sheet y) (HasValueIn bytes_eq (quantities sheet) y)
  value_holds y = by (evaluation_of bytes_eq (quantities sheet) y) refl where
    by : (o : Option (Evaluation (List ℕ))) → evaluation_of bytes_eq (quantities sheet) y ≡ o → IfOk (value_by y o) (HasValueIn bytes_eq (quantities sheet) y)
    by None e = tt
    by (Some (Fault fault row)) e = tt
    by (Some (Enclosed s)) e = values_enclosed bytes_eq (quantities sheet) (exponents_of_rows sheet.rows h.regular) y s e

  slopes : (y : List ℕ) → has_quantity sheet y ≡ true → has_gradient bytes_eq (quantities sheet) y ≡ true → HasSlopes sheet y
  slopes y there whole = λ i q is.
      gradient_encloses bytes_eq same_names (quantities sheet) (quantities_in_order sheet h) (exponents_of_rows sheet.rows h.regular) (names_apart sheet.rows)
      y (there-is_quantity sheet.rows y ∙ there) whole i q is

  gradient_holds : {B : Type 0} (y : List ℕ) → has_quantity sheet y ≡ true → (next : Spans (List ℕ) → Found B) (P : B → Type 0)
      → (HasSlopes sheet y → IfOk (next (gradient_by sheet y)) P) → IfOk (and_then (gradient_in sheet y) next) P
  gradient_holds y there next P k = by (has_gradient bytes_eq (quantities sheet) y) refl where
    by : (t : Bool) → has_gradient bytes_eq (quantities sheet) y ≡ t → IfOk (and_then (if t then Ok (gradient_by sheet y) else Err OutOfRange) next) P
    by true e = k (slopes y there e)
    by false e = tt

  -- ---- answers of one quantity and of two
  pub one_holds : {B : Type 0} (y : List ℕ) → has_quantity sheet y ≡ true → (answer : Interval → Spans (List ℕ) → Found B) (P : B → Type 0)
      → ((value : Interval) → HasValueIn bytes_eq (quantities sheet) y value → HasSlopes sheet y → IfOk (answer value (gradient_by sheet y)) P)
      → IfOk (and_then (value_in sheet y) (λ value. and_then (gradient_in sheet y) (λ dy. answer value dy))) P
  one_holds y there answer P k =
      if_then (value_in sheet y) (λ value. and_then (gradient_in sheet y) (λ dy. answer value dy)) P
      (λ value e. gradient_holds y there (answer value) P
      (λ s. k value (of_ok (value_in sheet y) (HasValueIn bytes_eq (quantities sheet) y) (value_holds y) value e) s))

  pub two_holds : {B : Type 0} (y z : List ℕ) → has_quantity sheet y ≡ true → has_quantity sheet z ≡ true → (answer : Spans (List ℕ) → Spans (List ℕ) → Found B) (P : B → Type 0)
      → ((v w : Interval) → HasValueIn bytes_eq (quantities sheet) y v → HasValueIn bytes_eq (quantities sheet) z w → HasSlopes sheet y → HasSlopes sheet z
      → IfOk (answer (gradient_by sheet y) (gradient_by sheet z)) P)
      → IfOk (and_then (value_in sheet y) (λ first. and_then (value_in sheet z) (λ second.
      and_then (gradient_in sheet y) (λ dy. and_then (gradient_in sheet z) (λ dz. answer dy dz))))) P
  two_holds y z y_there z_there answer P k =
      let values : (n : List ℕ) (v : Interval) → value_in sheet n ≡ Ok v → HasValueIn bytes_eq (quantities sheet) n v =
      λ n. of_ok (value_in sheet n) (HasValueIn bytes_eq (quantities sheet) n) (value_holds n) in
      if_then (value_in sheet y) _ P
      (λ v e. if_then (value_in sheet z) _ P
      (λ w f. gradient_holds y y_there (λ dy. and_then (gradient_in sheet z) (λ dz. answer dy dz)) P
      (λ s. gradient_holds z z_there (answer (gradient_by sheet y)) P (λ t. k v w (values y v e) (values z w f) s t))))

  -- ---- the law
  abbrev pub IsVariance : List ℕ → Interval → Type 0
  IsVariance y s = Encloses s (law_in sheet y y) × (of_ℤ (pos 0) ≤ℚ value_of s.lo)

  pub variance_holds : (y : List ℕ) → HasSlopes sheet y → IfOk (variance_in sheet (gradient_by sheet y)) (IsVariance y)
  variance_holds y s =
      if_some (combined_variance_span (gradient_by sheet y) (groups sheet)) (record {}) (IsVariance y)
      (λ v e. (
        there_encloses (combined_variance_span (gradient_by sheet y) (groups sheet)) (law_in sheet y y)
            (law_variance_holds bytes_eq same_names (model_in sheet) (groups sheet) (sheet_groups sheet h) y (gradient_by sheet y) s) v e,
        some-from_zero (combined_variance_span (gradient_by sheet y) (groups sheet)) (variance-from_zero (groups sheet) (gradient_by sheet y)) v e,
      ))

  pub covariance_holds : (y z : List ℕ) → HasSlopes sheet y → HasSlopes sheet z
      → IfOk (covariance_in sheet (gradient_by sheet y) (gradient_by sheet z)) (λ c. Encloses c (law_in sheet y z))
  covariance_holds y z s t =
      if_some (combined_covariance_span (gradient_by sheet y) (gradient_by sheet z) (groups sheet)) (record {}) (λ c. Encloses c (law_in sheet y z))
      (λ c e. there_encloses (combined_covariance_span (gradient_by sheet y) (gradient_by sheet z) (groups sheet)) (law_in sheet y z)
      (law_covariance_holds bytes_eq same_names (model_in sheet) (groups sheet) (sheet_groups sheet h) y z (gradient_by sheet y) (gradient_by sheet z) s t) c e)

  pub correlation_holds : (y z : List ℕ) → HasSlopes sheet y → HasSlopes sheet z
      → IfOk (correlation_in sheet (gradient_by sheet y) (gradient_by sheet z)) (λ r. IsTrueOf r (law_in sheet y z) (law_in sheet y y) (law_in sheet z z))
  correlation_holds y z s t =
      let P : CorrSaid → Type 0 = λ r. IsTrueOf r (law_in sheet y z) (law_in sheet y y) (law_in sheet z z) in
      if_then (covariance_in sheet (gradient_by sheet y) (gradient_by sheet z)) _ P
      (λ c e. if_then (variance_in sheet (gradient_by sheet y)) _ P
      (λ v f. if_then (variance_in sheet (gradient_by sheet z)) _ P
      (λ w g. if_in_range _ P
      (λ r i. coefficient_holds c v w (law_in sheet y z) (law_in sheet y y) (law_in sheet z z)
      (of_ok (covariance_in sheet (gradient_by sheet y) (gradient_by sheet z)) (λ x. Encloses x (law_in sheet y z)) (covariance_holds y z s t) c e)
      (of_ok (variance_in sheet (gradient_by sheet y)) (IsVariance y) (variance_holds y s) v f).0
      (of_ok (variance_in sheet (gradient_by sheet z)) (IsVariance z) (variance_holds z t) w g).0
      (law_is_within bytes_eq same_names (model_in sheet) (groups sheet) (sheet_groups sheet h) y z) r i))))

  pub degrees_hold : (y : List ℕ) → HasSlopes sheet y → IfOk (degrees_in sheet (gradient_by sheet y)) (λ nu. Allows nu (exact_degrees_in sheet y) × AreDegrees nu)
  degrees_hold y s =
      if_in_range (known_degrees_of (gradient_by sheet y) (groups sheet)) (λ nu. Allows nu (exact_degrees_in sheet y) × AreDegrees nu)
      (λ nu e. (
        degrees_in_model bytes_eq (model_in sheet) y same_names (groups sheet) (sheet_groups sheet h) (sheet_degrees sheet h) (gradient_by sheet y) s nu e,
        degrees_in_range (gradient_by sheet y) (groups sheet) (sheet_degrees sheet h) nu e,
      ))
