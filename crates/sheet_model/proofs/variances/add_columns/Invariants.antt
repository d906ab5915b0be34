use Rattle.std.proofs.Common.{◌≡◌, ◌++◌, drop}
use Rattle.sheet_model.specs.Budgets.{column_variances}
use Rattle.sheet_model.proofs.variances.add_columns.Given as goal

abbrev pub invariant-loop-place : goal.invariant-loop-place
invariant-loop-place g l =
    l.found ++ column_variances l.table l.readings.value l.place (drop l.place l.columns)
    ≡ l.initial.found ++ column_variances l.table l.readings.value 0 l.columns
