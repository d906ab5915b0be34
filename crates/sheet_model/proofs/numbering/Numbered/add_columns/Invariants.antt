use Rattle.sheet_model.specs.Quantities.{column_quantities}
use Rattle.sheet_model.specs.Walks.{Quantities}
use Rattle.sheet_model.specs.Numbering.{AreKept, AreNext, AreWalked}
use Rattle.sheet_model.proofs.numbering.Numbered.add_columns.Given as goal

abbrev pub invariant-loop-place : goal.invariant-loop-place
invariant-loop-place l =
    (all before : Quantities) → AreKept all before l.initial.self → AreNext all before (column_quantities l.table l.readings.value 0 l.columns)
    → AreWalked all before l.table l.readings.value l.columns l.place l.self
