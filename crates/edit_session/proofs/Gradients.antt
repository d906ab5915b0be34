-- What the code finds of values and sensitivities by numbers is what the definitions say by names.
use Rattle.std.specs.Prelude.{◌≡◌, ◌↔◌, ℕ, ◌<◌, true, false, if◌then◌else◌, is_some, bytes_eq, nat_eq, List, [], length, slice_get, Option, Some, Result, Ok, Err, refl}
use Rattle.std.specs.List.{list_any}
use Rattle.std.proofs.Common.{sym, ◌∙◌, ap, subst}
use Rattle.std.proofs.lemmas.Bool.{true≢false}
use Rattle.fixed_interval.specs.Interval.{Interval}
use Rattle.fixed_interval.specs.declared.faults.ArithFault.{ArithFault}
use Rattle.covariance.specs.Gradients.{Gradient, found_at}
use Rattle.sheet_rows.specs.Rows.{Sheet}
use Rattle.sheet_rows.specs.Sheets.{has_quantity, IsStanding}
use Rattle.value_cache.specs.Quantities.{is_there}
use Rattle.dep_graph.specs.Nodes.{has, ids_of}
use Rattle.value_cache.specs.Evaluations.{evaluation_of, span_in}
use Rattle.value_cache.specs.Evaluable.{AreInOrder}
use Rattle.value_cache.specs.declared.evaluation.Evaluation.{Evaluation}
use Rattle.value_cache.specs.declared.evaluation.Evaluation.TheVariants.{Enclosed, Fault}
use Rattle.adjoint_pass.specs.Sensitivities.{has_gradient, gradient_of}
use Rattle.adjoint_pass.specs.declared.fault.GradFault.{GradFault}
use Rattle.adjoint_pass.specs.declared.fault.GradFault.TheVariants.{Value as ValueByNumber, Law as LawByNumber, OutOfMemory as NoMemoryForGradient}
use Rattle.adjoint_pass.proofs.Renamed.{has_gradient-renamed, gradient_of-renamed}
use Rattle.sheet_model.specs.Quantities.{quantities}
use Rattle.sheet_model.specs.Walks.{Quantities}
use Rattle.sheet_model.specs.Numbering.{number_in, number_among, quantities_by, AreKept, AreAllKept}
use Rattle.sheet_model.specs.declared.numbering.Numbered.{Numbered}
use Rattle.sheet_model.proofs.Formulas.{same_names}
use Rattle.sheet_model.proofs.Names.{there-is_quantity}
use Rattle.sheet_model.proofs.Walking.{quantities_in_order}
use Rattle.sheet_model.proofs.KeptSheet.{renamed, number_is, name_kept, id_there}
use Rattle.edit_session.specs.Replies.{Faulted, OutOfRange, and_then, value_by, value_in, gradient_in}
use Rattle.edit_session.specs.Asking.{StopsAt, HasNumber, IsStopOf, IsGradientIn}
use Rattle.edit_session.specs.declared.stop.Stop.{Stop as CodeStop}
use Rattle.edit_session.proofs.Cells.{enclosed_cell, fault_within, faulted_cell, fault_named}

-- ---- values of a sheet whose quantities are kept
module _ (sheet : Sheet) (h : IsStanding sheet) (kept : Numbered) (are : AreAllKept (quantities sheet) kept) (y : List ℕ) (there : has_quantity sheet y ≡ true) where
  pub number_asked : list_any (bytes_eq y) kept.names.keys ≡ true
  number_asked = name_kept (quantities sheet) kept (quantities_in_order sheet h) are y (there-is_quantity sheet.rows y ∙ there)

  pub id_asked : (id : ℕ) → id ≡ number_in kept.names.keys y → has (ids_of kept.graph) id ≡ true
  id_asked id number =
      ap (has (ids_of kept.graph)) number ∙ id_there (quantities sheet) kept (quantities_in_order sheet h) are y (there-is_quantity sheet.rows y ∙ there)

  -- where this is the number of y
  module _ (id : ℕ) (number : id ≡ number_in kept.names.keys y) where
    by_number : (cell : Evaluation ℕ) → evaluation_of nat_eq (quantities_by kept) id ≡ Some cell
        → evaluation_of nat_eq (quantities_by kept) (number_in kept.names.keys y) ≡ Some cell
    by_number cell e = ap (evaluation_of nat_eq (quantities_by kept)) (sym number) ∙ e

    pub value_found : (s : Interval) → evaluation_of nat_eq (quantities_by kept) id ≡ Some (Enclosed s) → value_in sheet y ≡ Ok s
    value_found s e =
        ap (value_by y)
        (enclosed_cell (quantities sheet) kept (quantities_in_order sheet h) are y (there-is_quantity sheet.rows y ∙ there) s (by_number (Enclosed s) e))

    pub row_within : (fault : ArithFault) (row : ℕ) → evaluation_of nat_eq (quantities_by kept) id ≡ Some (Fault fault row) → row < length kept.names.keys
    row_within fault row e =
        fault_within (quantities sheet) kept (quantities_in_order sheet h) are y (there-is_quantity sheet.rows y ∙ there) fault row (by_number (Fault fault row) e)

    pub fault_found : (fault : ArithFault) (row : ℕ) (name : List ℕ) → evaluation_of nat_eq (quantities_by kept) id ≡ Some (Fault fault row)
        → slice_get kept.names.keys row ≡ Some name → value_in sheet y ≡ Err (Faulted fault name)
    fault_found fault row name e named =
        ap (value_by y)
        (faulted_cell (quantities sheet) kept (quantities_in_order sheet h) are y (there-is_quantity sheet.rows y ∙ there) fault row name (by_number (Fault fault row) e) named)

    -- the row of a fault has a name
    row_named : (fault : ArithFault) (row : ℕ) → evaluation_of nat_eq (quantities_by kept) id ≡ Some (Fault fault row)
        → (name : List ℕ) × (slice_get kept.names.keys row ≡ Some name)
    row_named fault row e =
        (_, fault_named (quantities sheet) kept (quantities_in_order sheet h) are y (there-is_quantity sheet.rows y ∙ there) fault row (by_number (Fault fault row) e))

-- ---- sensitivities
module _ (qs : Quantities) (kept : Numbered) (order : AreInOrder bytes_eq [] qs) (are : AreKept qs qs kept) (y : List ℕ) (there : is_there bytes_eq qs y ≡ true) where
  pub gradient_by_names : has_gradient nat_eq (quantities_by kept) (number_in kept.names.keys y) ≡ has_gradient bytes_eq qs y
  gradient_by_names =
      ap (has_gradient nat_eq (quantities_by kept)) (number_is qs kept order are y)
      ∙ has_gradient-renamed bytes_eq same_names nat_eq (number_among qs) qs (quantities_by kept) (renamed qs kept order are) y there

  pub each_by_names : (g : Gradient) → ((n : ℕ) → found_at g n ≡ gradient_of nat_eq (quantities_by kept) (number_in kept.names.keys y) n)
      → (n : List ℕ) → is_there bytes_eq qs n ≡ true → found_at g (number_among qs n) ≡ gradient_of bytes_eq qs y n
  each_by_names g finds n n_there =
      finds (number_among qs n)
      ∙ ap (λ i. gradient_of nat_eq (quantities_by kept) i (number_among qs n)) (number_is qs kept order are y)
      ∙ gradient_of-renamed bytes_eq same_names nat_eq (number_among qs) qs (quantities_by kept) (renamed qs kept order are) y n there n_there

-- where the gradient is out of range it stands in the place of what goes on with it
pub out_of_range : (sheet : Sheet) (y : List ℕ) (s : Interval) → value_in sheet y ≡ Ok s → has_gradient bytes_eq (quantities sheet) y ≡ false
    → and_then (value_in sheet y) (λ value. gradient_in sheet y) ≡ Err OutOfRange
out_of_range sheet y s e f =
    ap (λ r. and_then r (λ value. gradient_in sheet y)) e
    ∙ ap (λ t. if t then Ok (gradient_of bytes_eq (quantities sheet) y) else Err OutOfRange) f

pub whole_gradient : (sheet : Sheet) (y : List ℕ) → has_gradient bytes_eq (quantities sheet) y ≡ true → gradient_in sheet y ≡ Ok (gradient_of bytes_eq (quantities sheet) y)
whole_gradient sheet y e = ap (λ t. if t then Ok (gradient_of bytes_eq (quantities sheet) y) else Err OutOfRange) e

-- ---- sensitivities of a sheet whose quantities are kept
module _ (sheet : Sheet) (h : IsStanding sheet) (kept : Numbered) (are : AreAllKept (quantities sheet) kept) (y : List ℕ) (there : has_quantity sheet y ≡ true)
    (id : ℕ) (number : id ≡ number_in kept.names.keys y) where
  whole_is : has_gradient nat_eq (quantities_by kept) id ≡ has_gradient bytes_eq (quantities sheet) y
  whole_is =
      ap (has_gradient nat_eq (quantities_by kept)) number
      ∙ gradient_by_names (quantities sheet) kept (quantities_in_order sheet h) are y (there-is_quantity sheet.rows y ∙ there)

  pub gradient_found : (g : Gradient) → ((n : ℕ) → found_at g n ≡ gradient_of nat_eq (quantities_by kept) id n) → has_gradient nat_eq (quantities_by kept) id ≡ true
      → IsGradientIn sheet y g
  gradient_found g finds whole = record {
    whole = sym whole_is ∙ whole;
    each =
        each_by_names (quantities sheet) kept (quantities_in_order sheet h) are y (there-is_quantity sheet.rows y ∙ there) g
        (λ n. finds n ∙ ap (λ i. gradient_of nat_eq (quantities_by kept) i n) number);
  }

  -- what stands in the place of the gradient, by the cell of y
  module _ (fault : GradFault) (o : Option (Evaluation ℕ)) (cell : Evaluation ℕ) (is : o ≡ Some cell)
      (e : evaluation_of nat_eq (quantities_by kept) id ≡ Some cell)
      (value : (f : ArithFault) (row : ℕ) → (◌≡◌ {A = Result Gradient GradFault} (Err fault) (Err (ValueByNumber f row))) ↔ (o ≡ Some (Fault f row))) where
    evaluated : (f : ArithFault) (row : ℕ) → fault ≡ ValueByNumber f row → evaluation_of nat_eq (quantities_by kept) id ≡ Some (Fault f row)
    evaluated f row same = e ∙ sym is ∙ (value f row).0 (ap Err same)

    pub fault_numbered : HasNumber kept.names.keys fault
    fault_numbered = by fault refl where
      by : (k : GradFault) → fault ≡ k → HasNumber kept.names.keys k
      by (ValueByNumber f row) same = row_within sheet h kept are y there id number f row (evaluated f row same)
      by LawByNumber same = tt
      by NoMemoryForGradient same = tt

    pub gradient_stops : (◌≡◌ {A = Result Gradient GradFault} (Err fault) (Err LawByNumber)
        → (is_some (span_in o) ≡ true) × (has_gradient nat_eq (quantities_by kept) id ≡ false))
        → (stop : CodeStop) → IsStopOf kept.names.keys fault stop → StopsAt stop (and_then (value_in sheet y) (λ v. gradient_in sheet y))
    gradient_stops law stop is_stop = by fault refl is_stop where
      -- a cell that has a span
      in_cell : (k : Evaluation ℕ) → cell ≡ k → is_some (span_in o) ≡ true → has_gradient bytes_eq (quantities sheet) y ≡ false
          → and_then (value_in sheet y) (λ v. gradient_in sheet y) ≡ Err OutOfRange
      in_cell (Enclosed s) same some without = out_of_range sheet y s (value_found sheet h kept are y there id number s (e ∙ ap Some same)) without
      in_cell (Fault f row) same some without = absurd (true≢false (sym some ∙ ap (λ c. is_some (span_in c)) (is ∙ ap Some same)))

      by : (k : GradFault) → fault ≡ k → IsStopOf kept.names.keys k stop → StopsAt stop (and_then (value_in sheet y) (λ v. gradient_in sheet y))
      by (ValueByNumber f row) same k =
          let named = row_named sheet h kept are y there id number f row (evaluated f row same) in
          subst (λ s. StopsAt s (and_then (value_in sheet y) (λ v. gradient_in sheet y))) (sym (k named.0 named.1))
          (ap (λ r. and_then r (λ v. gradient_in sheet y)) (fault_found sheet h kept are y there id number f row named.0 (evaluated f row same) named.1))
      by LawByNumber same k =
          let both = law (ap Err same) in
          subst (λ s. StopsAt s (and_then (value_in sheet y) (λ v. gradient_in sheet y))) (sym k)
          (in_cell cell refl both.0 (sym whole_is ∙ both.1))
      by NoMemoryForGradient same k = subst (λ s. StopsAt s (and_then (value_in sheet y) (λ v. gradient_in sheet y))) (sym k) tt
