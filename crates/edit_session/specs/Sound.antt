-- What an answer says of the exact law of the sheet that is asked.
use Rattle.std.specs.Prelude.{◌≡◌, ℕ, true, All, Contains, List, Option, None, Some, option_map, bytes_eq, pos}
use Rattle.exact_fraction.specs.Number.{ℚ, of_ℤ, ◌*ℚ◌, ◌≤ℚ◌}
use Rattle.exact_law.specs.Model.{Row, has_value, exact_value, exact_slope}
use Rattle.exact_law.specs.Law as exact
use Rattle.exact_law.specs.Degrees.{Degrees as ExactDegrees, degrees_of, factor}
use Rattle.exact_law.specs.WrittenRule.{Statement, Stated, stated}
use Rattle.decimal18.specs.Bound.{Bound, value_of}
use Rattle.fixed_interval.specs.Interval.{Interval, Encloses}
use Rattle.round_out.specs.Correlations.{IsTrueOf}
use Rattle.round_out.specs.Reports.{IsReportOf}
use Rattle.round_out.specs.declared.coefficient.CorrSaid.{CorrSaid}
use Rattle.round_out.specs.declared.outcome.Reported.{Reported}
use Rattle.round_out.specs.declared.outcome.Reported.TheVariants.{Exact, Rounded, Unsettled}
use Rattle.table_g2.specs.Factors.{column}
use Rattle.table_g2.specs.Said.{IsSaid}
use Rattle.table_g2.specs.declared.known.Level.{Level}
use Rattle.table_g2.specs.declared.settled.DofSaid.{DofSaid}
use Rattle.budget_table.specs.Budgets.{contribution}
use Rattle.budget_table.specs.declared.line.BudgetLine.{BudgetLine}
use Rattle.budget_table.specs.declared.line.BudgetLine.TheVariants.{Input as InputLine, Group as GroupLine}
use Rattle.covariance.specs.Groups.{Group, exact_group}
use Rattle.guard_band.specs.Statements.{decision_of, exact_rule}
use Rattle.guard_band.specs.declared.rule.Rule.{Rule}
use Rattle.guard_band.specs.declared.rule.Said.{Said as SaidOfRule}
use Rattle.sheet_rows.specs.Rows.{Sheet}
use Rattle.sheet_rows.specs.Sheets.{has_input, rule_of}
use Rattle.value_cache.specs.Model.{model_of, HasValueIn}
use Rattle.answers.specs.Commands.{Command, Change, Undo, Redo, Mark as MarkPresent, Restore, Ask as AskPresent, AskAt}
use Rattle.answers.specs.declared.command.Query.{Query}
use Rattle.answers.specs.declared.command.Query.TheVariants.{Value as AskValue, Variance as AskVariance, Covariance as AskCovariance, Correlation as AskCorrelation, Sensitivity as AskSensitivity, Degrees as AskDegrees, Report as AskReport, Expanded as AskExpanded, Decide as AskDecide, Budget as AskBudget, Dump as AskDump}
use Rattle.answers.specs.declared.reply.Answer.{Answer}
use Rattle.answers.specs.declared.reply.Answer.TheVariants.{Value, Variance, Covariance, Correlation, Sensitivity, Degrees, Report, Expanded, Decision, Budget, Dump, ValueFault, LawOverflow}
use Rattle.answers.specs.declared.reply.Reply.{Reply}
use Rattle.answers.specs.declared.reply.Reply.TheVariants.{Fine, Line, Edit, History, Mark, Ask, Said}
use Rattle.sheet_model.specs.Quantities.{quantities}
use Rattle.sheet_model.specs.Groups.{exact_groups}
use Rattle.sheet_model.specs.Budgets.{named_groups}
use Rattle.edit_session.specs.Machine.{State, kept_as}

-- ---- the exact law of a sheet
abbrev pub model_in : Sheet → List (Row (List ℕ))
model_in sheet = model_of (quantities sheet)

-- the expanded formula has a value; which it is (JCGM 100:2008, 4.1.4)
abbrev pub IsDefinedIn : Sheet → List ℕ → Type 0
IsDefinedIn sheet y = has_value bytes_eq (model_in sheet) y ≡ true

abbrev pub exact_value_in : Sheet → List ℕ → ℚ
exact_value_in sheet y = exact_value bytes_eq (model_in sheet) y

-- the covariance of y and z, and the variance of one where they are the same (5.1.2, 5.2.2)
abbrev pub law_in : Sheet → List ℕ → List ℕ → ℚ
law_in sheet y z = exact.law bytes_eq (model_in sheet) (exact_groups sheet) y z

-- the derivative of y's expanded formula by the input x (5.1.3), and the variance of x (4.2.3, 4.3)
abbrev pub slope_in : Sheet → List ℕ → List ℕ → ℚ
slope_in sheet y x = exact_slope bytes_eq (model_in sheet) y x

abbrev pub input_variance_in : Sheet → List ℕ → ℚ
input_variance_in sheet x = exact.covariance bytes_eq (exact_groups sheet) x x

-- what a group brings to the variance of y
abbrev pub part_in : Sheet → List ℕ → Group (List ℕ) → ℚ
part_in sheet y g = exact.part_of bytes_eq (model_in sheet) (exact_group g) y

-- the effective degrees of freedom, and the factor for them at a level (G.4.1)
abbrev pub exact_degrees_in : Sheet → List ℕ → ExactDegrees
exact_degrees_in sheet y = degrees_of bytes_eq (model_in sheet) (exact_groups sheet) y

abbrev pub factor_in : Sheet → List ℕ → Level → ℚ
factor_in sheet y level = factor (column level) (exact_degrees_in sheet y)

-- ---- what is said of it. Each says too that the values of the quantities are defined
-- the interval encloses the derivative of y's expanded formula by the input x (5.1.3)
pub record HasSensitivityIn (sheet : Sheet) (y x : List ℕ) (s : Interval) : Type 0 where
  pub defined : IsDefinedIn sheet y
  pub enclosed : Encloses s (exact_slope bytes_eq (model_in sheet) y x)

pub record HasVarianceIn (sheet : Sheet) (y : List ℕ) (s : Interval) : Type 0 where
  pub defined : IsDefinedIn sheet y
  pub enclosed : Encloses s (law_in sheet y y)
  pub not_negative : of_ℤ (pos 0) ≤ℚ value_of s.lo

pub record HasCovarianceIn (sheet : Sheet) (y z : List ℕ) (s : Interval) : Type 0 where
  pub first : IsDefinedIn sheet y
  pub second : IsDefinedIn sheet z
  pub enclosed : Encloses s (law_in sheet y z)

pub record HasCorrelationIn (sheet : Sheet) (y z : List ℕ) (r : CorrSaid) : Type 0 where
  pub first : IsDefinedIn sheet y
  pub second : IsDefinedIn sheet z
  pub said : IsTrueOf r (law_in sheet y z) (law_in sheet y y) (law_in sheet z z)

pub record HasDegreesIn (sheet : Sheet) (y : List ℕ) (nu : DofSaid) : Type 0 where
  pub defined : IsDefinedIn sheet y
  pub said : IsSaid nu (exact_degrees_in sheet y)

-- the estimate with its standard uncertainty (7.2.6)
pub record HasReportIn (sheet : Sheet) (y : List ℕ) (reported : Reported) : Type 0 where
  pub defined : IsDefinedIn sheet y
  pub said : IsReportOf (exact_value_in sheet y) (law_in sheet y y) reported

-- the coverage factor is f, where anything is reported
abbrev pub IsFactor : Reported → Bound → ℚ → Type 0
IsFactor (Exact estimate) k f = value_of k ≡ f
IsFactor (Rounded estimate m e) k f = value_of k ≡ f
IsFactor Unsettled k f = Unit {0}

-- the estimate with its expanded uncertainty, the factor times the standard uncertainty (6.2.1)
pub record HasExpandedIn (sheet : Sheet) (y : List ℕ) (level : Level) (reported : Reported) (k : Bound) : Type 0 where
  pub defined : IsDefinedIn sheet y
  pub said : IsReportOf (exact_value_in sheet y) (factor_in sheet y level *ℚ factor_in sheet y level *ℚ law_in sheet y y) reported
  pub factor : IsFactor reported k (factor_in sheet y level)

-- the statement of conformity by the rule of a tolerance (ILAC-G8:09/2019, 4.2.2, 4.2.3), where one is made: that on the
-- exact value, with a guard band of the rule's number of expanded uncertainties. A condition that is not settled says nothing
pub record HasStatementIn (sheet : Sheet) (y t : List ℕ) (level : Level) (said : SaidOfRule) : Type 0 where
  pub defined : IsDefinedIn sheet y
  pub rule : Rule
  pub of_row : rule_of sheet t ≡ Some rule
  pub exact : (s : Statement) → decision_of said ≡ Stated s
      → stated (exact_rule rule) (exact_value_in sheet y) (factor_in sheet y level) (law_in sheet y y) ≡ s

-- ---- budgets
-- of the line of an input the intervals enclose its value, its variance, the derivative by it, and what it brings to the variance
-- of y (5.1.3)
pub record HasInputIn (sheet : Sheet) (y x : List ℕ) (value variance sens own : Interval) : Type 0 where
  pub is_input : has_input sheet x ≡ true
  pub has_value : Encloses value (exact_value_in sheet x)
  pub has_variance : Encloses variance (input_variance_in sheet x)
  pub has_sensitivity : Encloses sens (slope_in sheet y x)
  pub has_own : Encloses own (contribution (slope_in sheet y x) (input_variance_in sheet x))

-- the line of a group is that of one which the row of this name makes, and its interval encloses what the group brings
pub record HasPartIn (sheet : Sheet) (y name : List ℕ) (s : Interval) : Type 0 where
  pub group : Group (List ℕ)
  pub of_row : Contains (named_groups sheet) (record { name = name; group = group })
  pub enclosed : Encloses s (part_in sheet y group)

abbrev pub IsLineIn : Sheet → List ℕ → BudgetLine → Type 0
IsLineIn sheet y (InputLine x value variance sens own) = HasInputIn sheet y x value variance sens own
IsLineIn sheet y (GroupLine name s) = HasPartIn sheet y name s

pub record HasBudgetIn (sheet : Sheet) (y : List ℕ) (lines : List BudgetLine) (s : Interval) : Type 0 where
  pub has_variance : HasVarianceIn sheet y s
  pub each : All (IsLineIn sheet y) lines

-- ---- answers
-- the answer is one to the query, and what it says is so. A fault and an overflow say nothing of the law
abbrev pub IsSoundAnswer : Sheet → Query → Answer → Type 0
IsSoundAnswer sheet query (Value y s) = (query ≡ AskValue y) × HasValueIn bytes_eq (quantities sheet) y s
IsSoundAnswer sheet query (Variance y s) = (query ≡ AskVariance y) × HasVarianceIn sheet y s
IsSoundAnswer sheet query (Covariance y z s) = (query ≡ AskCovariance y z) × HasCovarianceIn sheet y z s
IsSoundAnswer sheet query (Correlation y z r) = (query ≡ AskCorrelation y z) × HasCorrelationIn sheet y z r
IsSoundAnswer sheet query (Sensitivity y x s) = (query ≡ AskSensitivity y x) × HasSensitivityIn sheet y x s
IsSoundAnswer sheet query (Degrees y nu) = (query ≡ AskDegrees y) × HasDegreesIn sheet y nu
IsSoundAnswer sheet query (Report y reported) = (query ≡ AskReport y) × HasReportIn sheet y reported
IsSoundAnswer sheet query (Expanded y reported k) = (level : Level) × ((query ≡ AskExpanded y level) × HasExpandedIn sheet y level reported k)
IsSoundAnswer sheet query (Decision y t said) = (level : Level) × ((query ≡ AskDecide y t level) × HasStatementIn sheet y t level said)
IsSoundAnswer sheet query (Budget lines y s) = (query ≡ AskBudget y) × HasBudgetIn sheet y lines s
IsSoundAnswer sheet query (Dump rows) = (query ≡ AskDump) × (rows ≡ sheet.rows)
IsSoundAnswer sheet query (ValueFault fault row) = Unit {0}
IsSoundAnswer sheet query LawOverflow = Unit {0}

abbrev pub IsSoundReply : Sheet → Query → Reply → Type 0
IsSoundReply sheet query (Said answer) = IsSoundAnswer sheet query answer
IsSoundReply sheet query Fine = Unit {0}
IsSoundReply sheet query (Line fault) = Unit {0}
IsSoundReply sheet query (Edit fault) = Unit {0}
IsSoundReply sheet query (History fault) = Unit {0}
IsSoundReply sheet query (Mark fault) = Unit {0}
IsSoundReply sheet query (Ask fault) = Unit {0}

-- ---- commands
-- the sheet that is asked, where there is one, and the query: the present sheet, or the one that is kept under the name
abbrev pub asked : State → Command → Option (Sheet × Query)
asked state (AskPresent query) = Some (state.present, query)
asked state (AskAt name query) = option_map (λ sheet. (sheet, query)) (kept_as state.marks name)
asked state (Change edit) = None
asked state Undo = None
asked state Redo = None
asked state (MarkPresent name) = None
asked state (Restore name) = None

abbrev pub IsSoundOn : Option (Sheet × Query) → Reply → Type 0
IsSoundOn None reply = Unit {0}
IsSoundOn (Some asked) reply = IsSoundReply asked.0 asked.1 reply
