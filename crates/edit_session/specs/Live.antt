-- What callers see of a session. Clauses that mean the machine's state read it by `state_of` alone.
use Rattle.edit_session.specs.Machine.{State}

pub record Live : Type 0 where
  pub state : State

abbrev pub state_of : Live → State
state_of live = live.state
