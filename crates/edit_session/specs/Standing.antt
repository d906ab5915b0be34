-- Sessions whose sheets all stand: each is well formed, and its rows are regular.
use Rattle.std.specs.Prelude.{List, [], ◌∷◌}
use Rattle.sheet_rows.specs.Rows.{Sheet}
use Rattle.sheet_rows.specs.Sheets.{IsStanding}
use Rattle.edit_session.specs.Machine.{State, Marks}

abbrev pub AllStand : List Sheet → Type 0
AllStand [] = Unit {0}
AllStand (sheet ∷ sheets) = IsStanding sheet × AllStand sheets

abbrev pub AllMarksStand : Marks → Type 0
AllMarksStand [] = Unit {0}
AllMarksStand (mark ∷ marks) = IsStanding mark.1 × AllMarksStand marks

pub record IsStandingState (state : State) : Type 0 where
  pub present : IsStanding state.present
  pub past : AllStand state.past
  pub future : AllStand state.future
  pub marks : AllMarksStand state.marks
