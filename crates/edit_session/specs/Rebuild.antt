-- How a sheet is built again: its inputs, its rules of conformity, and an input in the place of each formula and correlation
-- first, then these.
use Rattle.std.specs.Prelude.{◌≡◌, List, [], ◌∷◌, ◌++◌, map}
use Rattle.fixed_interval.specs.Rules.{zero_bound}
use Rattle.type_b.specs.declared.shape.Shape.TheVariants.{Exact}
use Rattle.type_b.specs.declared.shape.Dof.TheVariants.{Inf}
use Rattle.sheet_rows.specs.Rows.{Row, Given, Readings, Joint, Correlation, Formula, Tolerance, Sheet}
use Rattle.answers.specs.declared.command.Query.{Query}
use Rattle.answers.specs.declared.reply.Reply.TheVariants.{Fine}
use Rattle.answers.specs.Commands.{Command, Change, Add, Set, Ask}
use Rattle.edit_session.specs.Replies.{reply_to}
use Rattle.edit_session.specs.Machine.{State, initial, step}

-- the exact input 0 in the place of a row that uses others
abbrev pub as_input : Row → Row
as_input (Given name estimate shape dof) = Given name estimate shape dof
as_input (Readings name table) = Readings name table
as_input (Joint name columns table) = Joint name columns table
as_input (Correlation name first second coefficient) = Given name zero_bound Exact Inf
as_input (Formula name formula) = Given name zero_bound Exact Inf
as_input (Tolerance name rule) = Tolerance name rule

abbrev pub additions : List Row → List Command
additions rows = map (λ row. Change (Add (as_input row))) rows

abbrev pub users_set : List Row → List Command
users_set [] = []
users_set (Given name estimate shape dof ∷ rows) = users_set rows
users_set (Readings name table ∷ rows) = users_set rows
users_set (Joint name columns table ∷ rows) = users_set rows
users_set (Correlation name first second coefficient ∷ rows) = Change (Set (Correlation name first second coefficient)) ∷ users_set rows
users_set (Formula name formula ∷ rows) = Change (Set (Formula name formula)) ∷ users_set rows
users_set (Tolerance name rule ∷ rows) = users_set rows

abbrev pub rebuild : Sheet → List Command
rebuild sheet = additions sheet.rows ++ users_set sheet.rows

-- ---- runs
-- the state after these commands
abbrev pub state_after : State → List Command → State
state_after state [] = state
state_after state (command ∷ commands) = state_after (step state command).0 commands

-- each of the commands is carried out
abbrev pub AreFine : State → List Command → Type 0
AreFine state [] = Unit {0}
AreFine state (command ∷ commands) = ((step state command).1 ≡ Fine) × AreFine (step state command).0 commands

-- a run from an empty session over these commands builds the sheet, and the query that follows has the
-- reply of the sheet
pub record IsBuiltBy (commands : List Command) (sheet : Sheet) : Type 0 where
  pub fine : AreFine initial commands
  pub built : (state_after initial commands).present ≡ sheet
  pub reply : (query : Query) → (step (state_after initial commands) (Ask query)).1 ≡ reply_to sheet query
