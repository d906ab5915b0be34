-- Generated scripts: a sheet of inputs and formulas, the last of which is asked for, at first and around edits of inputs
-- that are drawn, and then reported. This is our own rule. Each row takes two draws, and each round one.
use Rattle.std.specs.Prelude.{ℕ, zero, suc, ◌+◌, ◌-◌, ◌*◌, ◌/◌, nat_le, max, if◌then◌else◌, List, [], ◌++◌, codes, decimal}
use Rattle.script_maker.specs.Draws.{next, drawn, state_after}

-- how many of so many rows are inputs: a quarter of them, and at least one
abbrev pub input_count : ℕ → ℕ
input_count rows = max 1 (rows / 4)

-- the name of a row, whose number is counted from 1, where the first `inputs` rows are inputs
abbrev pub row_name : ℕ → ℕ → List ℕ
row_name inputs row = (if nat_le row inputs then codes "X" else codes "Y") ++ decimal row

-- an input: an estimate from 100 to 999 and then a standard uncertainty from 1 to 9 are drawn
abbrev pub input_line : ℕ → ℕ → ℕ → List ℕ
input_line inputs row state =
    codes "given " ++ row_name inputs row ++ codes " " ++ decimal (100 + drawn state 900)
    ++ codes " std " ++ decimal (1 + drawn (next state) 9) ++ codes "\n"

-- a formula: two of the earlier rows are drawn, one after the other
abbrev pub formula_line : ℕ → ℕ → ℕ → List ℕ
formula_line inputs row state =
    codes "let " ++ row_name inputs row ++ codes " = (" ++ row_name inputs (1 + drawn state (row - 1))
    ++ codes " + " ++ row_name inputs (1 + drawn (next state) (row - 1)) ++ codes ") / 2\n"

abbrev pub row_line : ℕ → ℕ → ℕ → List ℕ
row_line inputs row state = if nat_le row inputs then input_line inputs row state else formula_line inputs row state

-- the lines of the first rows, so many of them
abbrev pub row_lines : ℕ → ℕ → ℕ → List ℕ
row_lines inputs start zero = []
row_lines inputs start (suc before) = row_lines inputs start before ++ row_line inputs (suc before) (state_after (2 * before) start)

-- the last row is asked for its value
abbrev pub value_line : ℕ → ℕ → List ℕ
value_line inputs rows = codes "value " ++ row_name inputs rows ++ codes "\n"

-- a round: an input is drawn and set to 1000 and the number of the round, and this is taken back
abbrev pub round_lines : ℕ → ℕ → ℕ → ℕ → List ℕ
round_lines inputs rows round state =
    codes "set given " ++ row_name inputs (1 + drawn state inputs) ++ codes " " ++ decimal (1000 + round) ++ codes " std 1\n"
    ++ value_line inputs rows ++ codes "undo\n" ++ value_line inputs rows

-- the first rounds, so many of them, that begin at a state
unfoldable pub rounds : ℕ → ℕ → ℕ → ℕ → List ℕ
rounds inputs rows state zero = []
rounds inputs rows state (suc before) = rounds inputs rows state before ++ round_lines inputs rows (suc before) (state_after before state)

abbrev pub round_count : ℕ
round_count = 16

-- the script of so many rows whose draws begin at the state `start`
abbrev pub script : ℕ → ℕ → List ℕ
script rows start =
    row_lines (input_count rows) start rows ++ value_line (input_count rows) rows
    ++ rounds (input_count rows) rows (state_after (2 * rows) start) round_count
    ++ codes "report " ++ row_name (input_count rows) rows ++ codes "\n"
