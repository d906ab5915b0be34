-- Commands, with rows as the definitions have them.
use Rattle.std.specs.Prelude.{ℕ, List}
use Rattle.sheet_rows.specs.Rows.{Row, row_of}
use Rattle.sheet_rows.specs.Regular.{IsRegular}
use Rattle.answers.specs.declared.command.Query.{Query}
use Rattle.answers.specs.declared.command.Edit.{Edit as CodeEdit}
use Rattle.answers.specs.declared.command.Edit.TheVariants.{Add as CodeAdd, Set as CodeSet, Remove as CodeRemove}
use Rattle.answers.specs.declared.command.Command.{Command as CodeCommand}
use Rattle.answers.specs.declared.command.Command.TheVariants.{Change as CodeChange, Undo as CodeUndo, Redo as CodeRedo, Mark as CodeMark, Restore as CodeRestore, Ask as CodeAsk, AskAt as CodeAskAt}

-- a change of the rows of a sheet
pub data Edit : Type 0 where
  -- puts a row last
  Add : Row → Edit
  -- puts a row in the place of the one that has its name
  Set : Row → Edit
  -- takes the row of this name out
  Remove : List ℕ → Edit

-- a command to a session
pub data Command : Type 0 where
  -- changes the present sheet
  Change : Edit → Command
  -- goes one step back, and forward again
  Undo : Command
  Redo : Command
  -- keeps the present sheet under a name; makes a sheet that is kept the present one
  Mark : List ℕ → Command
  Restore : List ℕ → Command
  -- asks the present sheet; one that is kept under a name
  Ask : Query → Command
  AskAt : List ℕ → Query → Command

-- ---- what the code's commands are
abbrev pub edit_of : CodeEdit → Edit
edit_of (CodeAdd row) = Add (row_of row)
edit_of (CodeSet row) = Set (row_of row)
edit_of (CodeRemove name) = Remove name

abbrev pub command_of : CodeCommand → Command
command_of (CodeChange edit) = Change (edit_of edit)
command_of CodeUndo = Undo
command_of CodeRedo = Redo
command_of (CodeMark name) = Mark name
command_of (CodeRestore name) = Restore name
command_of (CodeAsk query) = Ask query
command_of (CodeAskAt name query) = AskAt name query

-- ---- the rows of commands are regular
abbrev pub IsRegularEdit : Edit → Type 0
IsRegularEdit (Add row) = IsRegular row
IsRegularEdit (Set row) = IsRegular row
IsRegularEdit (Remove name) = Unit {0}

abbrev pub IsRegularCommand : Command → Type 0
IsRegularCommand (Change edit) = IsRegularEdit edit
IsRegularCommand Undo = Unit {0}
IsRegularCommand Redo = Unit {0}
IsRegularCommand (Mark name) = Unit {0}
IsRegularCommand (Restore name) = Unit {0}
IsRegularCommand (Ask query) = Unit {0}
IsRegularCommand (AskAt name query) = Unit {0}
