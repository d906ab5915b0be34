-- The texts of replies, each of whole lines.
use Rattle.std.specs.Prelude.{◌≡◌, ◌⊎◌, ℕ, pos, negsuc, List, [], ◌∷◌, ◌++◌, codes, decimal}
use Rattle.decimal18.specs.Bound.{Bound}
use Rattle.decimal18.specs.Text.{text_of}
use Rattle.fixed_interval.specs.Interval.{Interval}
use Rattle.fixed_interval.specs.declared.faults.ArithFault.{ArithFault}
use Rattle.fixed_interval.specs.declared.faults.ArithFault.TheVariants.{ZeroDivisor, Overflow}
use Rattle.round_out.specs.Printed.{text_at}
use Rattle.round_out.specs.declared.coefficient.CorrSaid.{CorrSaid}
use Rattle.round_out.specs.declared.coefficient.CorrSaid.TheVariants.{None as NoCoefficient, Unsettled as UnsettledCoefficient, Hundredths}
use Rattle.round_out.specs.declared.outcome.Reported.{Reported}
use Rattle.round_out.specs.declared.outcome.Reported.TheVariants.{Exact, Rounded, Unsettled as UnsettledReport}
use Rattle.table_g2.specs.declared.settled.DofSaid.{DofSaid}
use Rattle.table_g2.specs.declared.settled.DofSaid.TheVariants.{None as NoDegrees, Infinite, Big, Whole, Unsettled as UnsettledDegrees}
use Rattle.guard_band.specs.Statements.{number_of}
use Rattle.guard_band.specs.declared.rule.Said.{Said as SaidOfRule}
use Rattle.guard_band.specs.declared.rule.Said.TheVariants.{Pass, ConditionalPass, ConditionalFail, Fail, Undecided}
use Rattle.budget_table.specs.declared.line.BudgetLine.{BudgetLine}
use Rattle.budget_table.specs.declared.line.BudgetLine.TheVariants.{Input, Group}
use Rattle.sheet_rows.specs.Rows.{Row}
use Rattle.row_text.specs.Printing.{printed}
use Rattle.sheet_rows.specs.declared.fault.RowFault.{RowFault}
use Rattle.sheet_rows.specs.declared.fault.RowFault.TheVariants.{Syntax, NotNumber, NumberRange, UnknownFunction, BadPower, TooDeep, TooManyNodes, Negative, ZeroK, Beta, Level, DofRange, RRange, GuardRange, LimitOrder, TooFew, TooMany, Shape, Wide, OutOfMemory}
use Rattle.sheet_rows.specs.declared.edit_fault.EditFault.{EditFault}
use Rattle.sheet_rows.specs.declared.edit_fault.EditFault.TheVariants.{RowsFull, Duplicate, Unknown, NotEarlier, NotCorrelatable, AlreadyCorrelated, InUse, OutOfMemory as EditMemory}
use Rattle.answers.specs.declared.fault.LineFault.{LineFault}
use Rattle.answers.specs.declared.fault.LineFault.TheVariants.{Syntax as LineSyntax, Row as RowRefused, Level as LineLevel, LongLine, LongTable, UnclosedTable, OutOfMemory as LineMemory}
use Rattle.answers.specs.declared.fault.HistoryFault.{HistoryFault}
use Rattle.answers.specs.declared.fault.HistoryFault.TheVariants.{NothingToUndo, NothingToRedo, OutOfMemory as HistoryMemory}
use Rattle.answers.specs.declared.fault.MarkFault.{MarkFault}
use Rattle.answers.specs.declared.fault.MarkFault.TheVariants.{MarksFull, NoMark, OutOfMemory as MarkMemory}
use Rattle.answers.specs.declared.fault.AskFault.{AskFault}
use Rattle.answers.specs.declared.fault.AskFault.TheVariants.{NoMark as AskNoMark, NoSuchResult, OutOfMemory as AskMemory}
use Rattle.answers.specs.declared.reply.Answer.{Answer}
use Rattle.answers.specs.declared.reply.Answer.TheVariants.{Value, Variance, Covariance, Correlation, Sensitivity, Degrees, Report, Expanded, Decision, Budget, Dump, ValueFault, LawOverflow}
use Rattle.answers.specs.declared.reply.Reply.{Reply}
use Rattle.answers.specs.declared.reply.Reply.TheVariants.{Fine, Line, Edit, History, Mark, Ask, Said}

-- some words, and a name or a number after them
abbrev pub named : List ℕ → List ℕ → List ℕ
named words name = words ++ name ++ codes "\n"

abbrev pub placed : List ℕ → ℕ → List ℕ
placed words place = words ++ decimal place ++ codes "\n"

-- ---- refusals; out of memory has no text
abbrev pub text_of_row_fault : RowFault → List ℕ
text_of_row_fault (Syntax at) = placed (codes "refused syntax ") at
text_of_row_fault (NotNumber at) = placed (codes "refused not_number ") at
text_of_row_fault (NumberRange at) = placed (codes "refused number_range ") at
text_of_row_fault (UnknownFunction at) = placed (codes "refused unknown_function ") at
text_of_row_fault (BadPower at) = placed (codes "refused bad_power ") at
text_of_row_fault (TooDeep at) = placed (codes "refused too_deep ") at
text_of_row_fault (TooManyNodes at) = placed (codes "refused too_many_nodes ") at
text_of_row_fault Negative = codes "refused negative\n"
text_of_row_fault ZeroK = codes "refused zero_k\n"
text_of_row_fault Beta = codes "refused beta\n"
text_of_row_fault Level = codes "refused level\n"
text_of_row_fault DofRange = codes "refused dof_range\n"
text_of_row_fault RRange = codes "refused r_range\n"
text_of_row_fault GuardRange = codes "refused guard_range\n"
text_of_row_fault LimitOrder = codes "refused limit_order\n"
text_of_row_fault TooFew = codes "refused too_few\n"
text_of_row_fault TooMany = codes "refused too_many\n"
text_of_row_fault (Shape place) = placed (codes "refused shape ") place
text_of_row_fault (Wide place) = placed (codes "refused wide ") place
text_of_row_fault OutOfMemory = []

abbrev pub text_of_line_fault : LineFault → List ℕ
text_of_line_fault (LineSyntax at) = placed (codes "refused syntax ") at
text_of_line_fault (RowRefused fault) = text_of_row_fault fault
text_of_line_fault LineLevel = codes "refused level\n"
text_of_line_fault LongLine = codes "refused long_line\n"
text_of_line_fault LongTable = codes "refused long_table\n"
text_of_line_fault UnclosedTable = codes "refused open_table\n"
text_of_line_fault LineMemory = []

abbrev pub text_of_edit_fault : EditFault → List ℕ
text_of_edit_fault RowsFull = codes "refused rows_full\n"
text_of_edit_fault (Duplicate name) = named (codes "refused duplicate ") name
text_of_edit_fault (Unknown name) = named (codes "refused unknown ") name
text_of_edit_fault (NotEarlier name) = named (codes "refused not_earlier ") name
text_of_edit_fault (NotCorrelatable name) = named (codes "refused not_correlatable ") name
text_of_edit_fault (AlreadyCorrelated name) = named (codes "refused already_correlated ") name
text_of_edit_fault (InUse name) = named (codes "refused in_use ") name
text_of_edit_fault EditMemory = []

abbrev pub text_of_history_fault : HistoryFault → List ℕ
text_of_history_fault NothingToUndo = codes "refused nothing_to_undo\n"
text_of_history_fault NothingToRedo = codes "refused nothing_to_redo\n"
text_of_history_fault HistoryMemory = []

abbrev pub text_of_mark_fault : MarkFault → List ℕ
text_of_mark_fault MarksFull = codes "refused marks_full\n"
text_of_mark_fault (NoMark name) = named (codes "refused no_mark ") name
text_of_mark_fault MarkMemory = []

abbrev pub text_of_ask_fault : AskFault → List ℕ
text_of_ask_fault (AskNoMark name) = named (codes "refused no_mark ") name
text_of_ask_fault (NoSuchResult name) = named (codes "refused no_such_result ") name
text_of_ask_fault AskMemory = []

-- ---- answers
-- the words before the row in which a fault arose
abbrev pub arithmetic_words : ArithFault → List ℕ
arithmetic_words ZeroDivisor = codes "fault zero_divisor "
arithmetic_words Overflow = codes "fault overflow "

-- the rows, a line each
abbrev pub text_of_rows : List Row → List ℕ
text_of_rows [] = []
text_of_rows (row ∷ rows) = printed row ++ codes "\n" ++ text_of_rows rows

-- the ends of an interval, each after a space
abbrev pub text_of_ends : Interval → List ℕ
text_of_ends span = codes " " ++ text_of span.lo ++ codes " " ++ text_of span.hi

-- the same at the end of a line
abbrev pub text_of_span : Interval → List ℕ
text_of_span span = text_of_ends span ++ codes "\n"

-- the word of a query, and the name or the two names that were asked for
abbrev pub asked_of : List ℕ → List ℕ → List ℕ
asked_of word name = word ++ codes " " ++ name

abbrev pub asked_of_two : List ℕ → List ℕ → List ℕ → List ℕ
asked_of_two word first second = asked_of word first ++ codes " " ++ second

-- a correlation coefficient, in two decimals
abbrev pub text_of_coefficient : CorrSaid → List ℕ
text_of_coefficient NoCoefficient = codes "none"
text_of_coefficient UnsettledCoefficient = codes "undecided"
text_of_coefficient (Hundredths d) = text_at d (negsuc 1)

-- effective degrees of freedom, cut off to a whole number
abbrev pub text_of_degrees : DofSaid → List ℕ
text_of_degrees NoDegrees = codes "none"
text_of_degrees Infinite = codes "inf"
text_of_degrees Big = codes "big"
text_of_degrees (Whole w) = decimal w
text_of_degrees UnsettledDegrees = codes "undecided"

-- an estimate and its uncertainty, which has this letter
abbrev pub text_of_reported : List ℕ → Reported → List ℕ
text_of_reported letter (Exact estimate) = text_of estimate ++ codes " " ++ letter ++ codes " 0"
text_of_reported letter (Rounded estimate m e) = text_at estimate e ++ codes " " ++ letter ++ codes " " ++ text_at (pos m) e
text_of_reported letter UnsettledReport = codes "undecided"

-- the coverage factor of an expanded uncertainty that is reported
abbrev pub text_of_factor : Reported → Bound → List ℕ
text_of_factor (Exact estimate) factor = codes " k " ++ text_of factor
text_of_factor (Rounded estimate m e) factor = codes " k " ++ text_of factor
text_of_factor UnsettledReport factor = []

-- a statement of conformity; where the intervals settle none, the number of the first condition that they do not settle
abbrev pub text_of_statement : SaidOfRule → List ℕ
text_of_statement Pass = codes "Pass"
text_of_statement ConditionalPass = codes "ConditionalPass"
text_of_statement ConditionalFail = codes "ConditionalFail"
text_of_statement Fail = codes "Fail"
text_of_statement (Undecided first) = codes "Undecided " ++ decimal (number_of first)

-- a line of a budget; in that of an input each interval stands after a word of its own
abbrev pub text_of_budget_line : BudgetLine → List ℕ
text_of_budget_line (Input name value variance sens own) =
    asked_of (codes "input") name ++ codes " value" ++ text_of_ends value ++ codes " var" ++ text_of_ends variance ++ codes " sens" ++
    text_of_ends sens ++ codes " own" ++ text_of_span own
text_of_budget_line (Group name variance) = asked_of (codes "group") name ++ text_of_span variance

abbrev pub text_of_budget_lines : List BudgetLine → List ℕ
text_of_budget_lines [] = []
text_of_budget_lines (line ∷ lines) = text_of_budget_line line ++ text_of_budget_lines lines

abbrev pub text_of_answer : Answer → List ℕ
text_of_answer (Value name span) = asked_of (codes "value") name ++ text_of_span span
text_of_answer (Variance name span) = asked_of (codes "var") name ++ text_of_span span
text_of_answer (Covariance first second span) = asked_of_two (codes "cov") first second ++ text_of_span span
text_of_answer (Correlation first second said) = asked_of_two (codes "r") first second ++ codes " " ++ text_of_coefficient said ++ codes "\n"
text_of_answer (Sensitivity name input span) = asked_of_two (codes "sens") name input ++ text_of_span span
text_of_answer (Degrees name said) = asked_of (codes "dof") name ++ codes " " ++ text_of_degrees said ++ codes "\n"
text_of_answer (Report name said) = asked_of (codes "report") name ++ codes " " ++ text_of_reported (codes "u") said ++ codes "\n"
text_of_answer (Expanded name said factor) =
    asked_of (codes "expanded") name ++ codes " " ++ text_of_reported (codes "U") said ++ text_of_factor said factor ++ codes "\n"
text_of_answer (Decision name rule said) = asked_of_two (codes "decide") name rule ++ codes " " ++ text_of_statement said ++ codes "\n"
text_of_answer (Budget lines name variance) = text_of_budget_lines lines ++ asked_of (codes "budget") name ++ text_of_span variance
text_of_answer (Dump rows) = text_of_rows rows ++ codes "ok\n"
text_of_answer (ValueFault fault row) = named (arithmetic_words fault) row
text_of_answer LawOverflow = codes "fault law_overflow\n"

-- ---- replies
abbrev pub text_of_reply : Reply → List ℕ
text_of_reply Fine = codes "ok\n"
text_of_reply (Line fault) = text_of_line_fault fault
text_of_reply (Edit fault) = text_of_edit_fault fault
text_of_reply (History fault) = text_of_history_fault fault
text_of_reply (Mark fault) = text_of_mark_fault fault
text_of_reply (Ask fault) = text_of_ask_fault fault
text_of_reply (Said answer) = text_of_answer answer

-- ---- the replies that say out of memory
abbrev pub SaysOutOfMemory : Reply → Type 0
SaysOutOfMemory (Line fault) = (fault ≡ LineMemory) ⊎ (fault ≡ RowRefused OutOfMemory)
SaysOutOfMemory (Edit fault) = fault ≡ EditMemory
SaysOutOfMemory (History fault) = fault ≡ HistoryMemory
SaysOutOfMemory (Mark fault) = fault ≡ MarkMemory
SaysOutOfMemory (Ask fault) = fault ≡ AskMemory
SaysOutOfMemory Fine = ⊥
SaysOutOfMemory (Said answer) = ⊥
