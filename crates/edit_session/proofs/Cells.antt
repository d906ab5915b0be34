-- The cells that the code finds by numbers are the evaluations by names.
use Rattle.std.specs.Prelude.{◌≡◌, ℕ, ◌<◌, true, bytes_eq, nat_eq, List, [], length, slice_get, Option, Some, None}
use Rattle.std.specs.Option.{option_map}
use Rattle.std.proofs.Common.{sym, ◌∙◌, ap, ap₂, subst}
use Rattle.std.proofs.lemmas.Option.{none-some}
use Rattle.fixed_interval.specs.Interval.{Interval}
use Rattle.fixed_interval.specs.declared.faults.ArithFault.{ArithFault}
use Rattle.value_cache.specs.Quantities.{is_there}
use Rattle.value_cache.specs.Evaluations.{evaluation_of}
use Rattle.value_cache.specs.Evaluable.{AreInOrder}
use Rattle.value_cache.specs.Renaming.{renamed_evaluation}
use Rattle.value_cache.specs.declared.evaluation.Evaluation.{Evaluation}
use Rattle.value_cache.specs.declared.evaluation.Evaluation.TheVariants.{Enclosed, Fault}
use Rattle.adjoint_pass.proofs.RenamedValues.{evaluation_of-renamed}
use Rattle.sheet_model.specs.Walks.{Quantities, names}
use Rattle.sheet_model.specs.Numbering.{number_in, number_among, quantities_by, AreKept}
use Rattle.sheet_model.specs.declared.numbering.Numbered.{Numbered}
use Rattle.sheet_model.proofs.Names.{there-named}
use Rattle.sheet_model.proofs.Numbers.{number_there, number_within}
use Rattle.sheet_model.proofs.Formulas.{same_names}
use Rattle.sheet_model.proofs.KeptSheet.{fault_of_row, renamed, name_kept, number_is, name_back}

-- ---- cells
module _ (qs : Quantities) (kept : Numbered) (order : AreInOrder bytes_eq [] qs) (are : AreKept qs qs kept) where
  pub record IsOfName (fault : ArithFault) (id : ℕ) (o : Option (Evaluation (List ℕ))) : Type 0 where
    pub row : List ℕ
    pub is : o ≡ Some (Fault fault row)
    pub number : number_among qs row ≡ id

  enclosed_back : (o : Option (Evaluation (List ℕ))) (s : Interval) → option_map (renamed_evaluation (number_among qs)) o ≡ Some (Enclosed s) → o ≡ Some (Enclosed s)
  enclosed_back None s e = absurd (none-some (Enclosed s) e)
  enclosed_back (Some (Enclosed t)) s e = cc
  enclosed_back (Some (Fault fault row)) s e = cc

  fault_back : (o : Option (Evaluation (List ℕ))) (fault : ArithFault) (id : ℕ)
      → option_map (renamed_evaluation (number_among qs)) o ≡ Some (Fault fault id) → IsOfName fault id o
  fault_back None fault id e = absurd (none-some (Fault fault id) e)
  fault_back (Some (Enclosed t)) fault id e = cc
  fault_back (Some (Fault other row)) fault id e = record { row = row; is = cc; number = cc }

  module _ (n : List ℕ) (there : is_there bytes_eq qs n ≡ true) where
    of_cell : (cell : Evaluation ℕ) → evaluation_of nat_eq (quantities_by kept) (number_in kept.names.keys n) ≡ Some cell
        → option_map (renamed_evaluation (number_among qs)) (evaluation_of bytes_eq qs n) ≡ Some cell
    of_cell cell e =
        sym (evaluation_of-renamed bytes_eq same_names nat_eq (number_among qs) qs (quantities_by kept) (renamed qs kept order are) n there)
        ∙ ap (evaluation_of nat_eq (quantities_by kept)) (sym (number_is qs kept order are n)) ∙ e

    pub enclosed_cell : (s : Interval) → evaluation_of nat_eq (quantities_by kept) (number_in kept.names.keys n) ≡ Some (Enclosed s)
        → evaluation_of bytes_eq qs n ≡ Some (Enclosed s)
    enclosed_cell s e = enclosed_back (evaluation_of bytes_eq qs n) s (of_cell (Enclosed s) e)

    pub fault_cell : (fault : ArithFault) (id : ℕ) → evaluation_of nat_eq (quantities_by kept) (number_in kept.names.keys n) ≡ Some (Fault fault id)
        → IsOfName fault id (evaluation_of bytes_eq qs n)
    fault_cell fault id e = fault_back (evaluation_of bytes_eq qs n) fault id (of_cell (Fault fault id) e)

    -- and that its row is there
    fault_there : (fault : ArithFault) (id : ℕ) (e : evaluation_of nat_eq (quantities_by kept) (number_in kept.names.keys n) ≡ Some (Fault fault id))
        → is_there bytes_eq qs (fault_cell fault id e).row ≡ true
    fault_there fault id e =
        let of = fault_cell fault id e in
        fault_of_row bytes_eq qs n fault of.row of.is

    -- the number of the row of a fault is that of a name
    pub fault_within : (fault : ArithFault) (id : ℕ) → evaluation_of nat_eq (quantities_by kept) (number_in kept.names.keys n) ≡ Some (Fault fault id)
        → id < length kept.names.keys
    fault_within fault id e =
        let of = fault_cell fault id e in
        subst (λ k. k < length kept.names.keys) (ap (λ ns. number_in ns of.row) are.named ∙ of.number)
        (number_within kept.names.keys of.row (name_kept qs kept order are of.row (fault_there fault id e)))

    pub faulted_cell : (fault : ArithFault) (id : ℕ) (name : List ℕ)
        → evaluation_of nat_eq (quantities_by kept) (number_in kept.names.keys n) ≡ Some (Fault fault id)
        → slice_get kept.names.keys id ≡ Some name → evaluation_of bytes_eq qs n ≡ Some (Fault fault name)
    faulted_cell fault id name e found =
        let of = fault_cell fault id e in
        of.is
        ∙ ap (λ row. Some (Fault fault row))
        (sym (name_back qs kept order are of.row name id (fault_there fault id e) (sym of.number) found))

    -- under its number its name is found
    pub fault_named : (fault : ArithFault) (id : ℕ) (e : evaluation_of nat_eq (quantities_by kept) (number_in kept.names.keys n) ≡ Some (Fault fault id))
        → slice_get kept.names.keys id ≡ Some (fault_cell fault id e).row
    fault_named fault id e =
        let of = fault_cell fault id e in
        ap₂ slice_get are.named (sym of.number) ∙ number_there (names qs) of.row (sym (there-named qs of.row) ∙ fault_there fault id e)
