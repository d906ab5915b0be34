-- What the code's session is: the state of the machine.
use Rattle.std.specs.Prelude.{◌≡◌, List, reverse, refl}
use Rattle.std.specs.Coded.{Coded, code_by, coded×, coded_list, coded_ℕ}
use Rattle.sheet_rows.specs.Rows.{Sheet}
use Rattle.sheet_rows.specs.Codes.{coded_sheet}
use Rattle.edit_session.specs.Machine.{Marks, State, past_limit}
use Rattle.edit_session.specs.Live.{Live}
use Rattle.edit_session.specs.Standing.{IsStandingState}
use Rattle.edit_session.specs.declared.session.Session.TheInside.{Inside}

-- the state of these sheets; the next sheet to which redo leads stands last in the code's future
abbrev pub state_from : Sheet → List Sheet → List Sheet → Marks → State
state_from present past future marks = record { present = present; past = past; future = reverse future; marks = marks }

abbrev pub state_in : Inside → State
state_in session = state_from session.present session.past.items session.future.items session.marks.entries

abbrev pub live_of : Inside → Live
live_of session = record { state = state_in session }

pub record IsSession (session : Inside) : Type 0 where
  pub room : session.past.capacity ≡ past_limit
  pub standing : IsStandingState (state_in session)

-- ---- a session has a code: those of its parts
abbrev Parts : Type 0
Parts = Sheet × (List Sheet × (List Sheet × Marks))

pub coded_live : Coded Live
coded_live =
    code_by Parts (coded× coded_sheet (coded× (coded_list coded_sheet) (coded× (coded_list coded_sheet) (coded_list (coded× (coded_list coded_ℕ) coded_sheet)))))
    (λ l. (l.state.present, (l.state.past, (l.state.future, l.state.marks))))
    (λ p. record { state = record { present = p.0; past = p.1.0; future = p.1.1.0; marks = p.1.1.1 } })
    (λ _. refl)
