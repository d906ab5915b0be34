-- What the words of a query are.
use Rattle.std.specs.Prelude.{ℕ, ◌+◌, if◌then◌else◌, List, [], ◌∷◌, Option, Some, None, Ok, Err, bytes_eq, codes}
use Rattle.line_text.specs.Words.{Word}
use Rattle.table_g2.specs.declared.known.Level.{Level}
use Rattle.table_g2.specs.declared.known.Level.TheVariants.{L95, L9545, L99}
use Rattle.answers.specs.declared.command.Query.{Query}
use Rattle.answers.specs.declared.command.Query.TheVariants.{Value, Variance, Covariance, Correlation, Sensitivity, Degrees, Report, Expanded, Decide, Budget, Dump}
use Rattle.answers.specs.declared.fault.LineFault.TheVariants.{Syntax, Level as LevelRefused}
use Rattle.script_lines.specs.declared.verb.QueryWord.{QueryWord}
use Rattle.script_lines.specs.declared.verb.QueryWord.TheVariants.{Value as ValueWord, Variance as VarianceWord, Covariance as CovarianceWord, Correlation as CorrelationWord, Sensitivity as SensitivityWord, Degrees as DegreesWord, Report as ReportWord, Expanded as ExpandedWord, Decide as DecideWord, Budget as BudgetWord, Dump as DumpWord}
use Rattle.script_lines.specs.Parts.{Read, mapped, then_read, alone, no_more, any_word, name_word, plain_word}

-- what the word asks for, where it begins a query
abbrev pub query_word : List ℕ → Option QueryWord
query_word text =
    if bytes_eq text (codes "value") then Some ValueWord else
    if bytes_eq text (codes "var") then Some VarianceWord else
    if bytes_eq text (codes "cov") then Some CovarianceWord else
    if bytes_eq text (codes "r") then Some CorrelationWord else
    if bytes_eq text (codes "sens") then Some SensitivityWord else
    if bytes_eq text (codes "dof") then Some DegreesWord else
    if bytes_eq text (codes "report") then Some ReportWord else
    if bytes_eq text (codes "expanded") then Some ExpandedWord else
    if bytes_eq text (codes "decide") then Some DecideWord else
    if bytes_eq text (codes "budget") then Some BudgetWord else
    if bytes_eq text (codes "dump") then Some DumpWord else None

-- ---- the words after the one that begins the query
-- the name of a quantity
abbrev pub one_name : ℕ → List Word → Read (List ℕ)
one_name end ws = then_read (name_word end ws) (λ name. alone name.item name.rest)

-- the names of two quantities, or of a quantity and an input
abbrev pub two_names : ℕ → List Word → Read (List ℕ × List ℕ)
two_names end ws =
    then_read (name_word end ws) (λ first.
    then_read (name_word end first.rest) (λ second. alone (first.item, second.item) second.rest))

-- the level of confidence that the word says, in percent
abbrev pub level_of : List ℕ → Option Level
level_of text =
    if bytes_eq text (codes "95") then Some L95 else
    if bytes_eq text (codes "95.45") then Some L9545 else
    if bytes_eq text (codes "99") then Some L99 else None

abbrev pub level_checked : Option Level → Read Level
level_checked None = Err LevelRefused
level_checked (Some level) = Ok level

-- a level, for which any word may stand: only when all words are read is it looked at whether it says one
abbrev pub sole_level : ℕ → List Word → Read Level
sole_level end ws =
    then_read (any_word level_of end ws) (λ said.
    then_read (no_more said.rest) (λ done. level_checked said.item))

-- the name of a quantity, and a level
abbrev pub name_and_level : ℕ → List Word → Read (List ℕ × Level)
name_and_level end ws =
    then_read (name_word end ws) (λ name. mapped (λ level. (name.item, level)) (sole_level end name.rest))

-- a question for a statement of conformity: the name of a quantity, that of a rule, which has no point, and a level
abbrev pub decision_asked : ℕ → List Word → Read Query
decision_asked end ws =
    then_read (name_word end ws) (λ name.
    then_read (plain_word end name.rest) (λ rule.
    mapped (λ level. Decide name.item rule.item level) (sole_level end rule.rest)))

-- the query
abbrev pub query_with : QueryWord → ℕ → List Word → Read Query
query_with ValueWord end ws = mapped Value (one_name end ws)
query_with VarianceWord end ws = mapped Variance (one_name end ws)
query_with CovarianceWord end ws = mapped (λ names. Covariance names.0 names.1) (two_names end ws)
query_with CorrelationWord end ws = mapped (λ names. Correlation names.0 names.1) (two_names end ws)
query_with SensitivityWord end ws = mapped (λ names. Sensitivity names.0 names.1) (two_names end ws)
query_with DegreesWord end ws = mapped Degrees (one_name end ws)
query_with ReportWord end ws = mapped Report (one_name end ws)
query_with ExpandedWord end ws = mapped (λ asked. Expanded asked.0 asked.1) (name_and_level end ws)
query_with DecideWord end ws = decision_asked end ws
query_with BudgetWord end ws = mapped Budget (one_name end ws)
query_with DumpWord end ws = alone Dump ws

-- ---- a query to a sheet that is kept
abbrev pub query_begun : Option QueryWord → ℕ → Word → List Word → Read Query
query_begun None end w ws = Err (Syntax (w.place + 1))
query_begun (Some asked) end w ws = query_with asked end ws

abbrev pub query_of : ℕ → List Word → Read Query
query_of end [] = Err (Syntax (end + 1))
query_of end (w ∷ ws) = query_begun (query_word w.text) end w ws

-- the name of a mark, and a query to the sheet that is kept under it
abbrev pub query_at : ℕ → List Word → Read (List ℕ × Query)
query_at end ws = then_read (plain_word end ws) (λ mark. mapped (λ query. (mark.item, query)) (query_of end mark.rest))
