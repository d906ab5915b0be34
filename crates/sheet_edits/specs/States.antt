-- What the code's sheet is: its rows in the order of its map, each under its own name.
use Rattle.std.specs.Prelude.{◌≡◌, map}
use Rattle.std.specs.Map.{keys_of}
use Rattle.sheet_rows.specs.Rows.{Sheet, row_of, name_of}
use Rattle.sheet_rows.specs.Sheets.{IsStanding}
use Rattle.sheet_edits.specs.declared.sheet.Sheet.TheInside.{Inside}

abbrev pub sheet_of : Inside → Sheet
sheet_of sheet = record { rows = map (λ entry. row_of entry.1.value) sheet.rows.entries }

pub record IsSheet (sheet : Inside) : Type 0 where
  pub names : keys_of sheet.rows.entries ≡ map name_of (sheet_of sheet).rows
  pub standing : IsStanding (sheet_of sheet)
