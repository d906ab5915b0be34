-- What a write does to the room of a sink: a number of bytes where the sink is bounded, and None where it is not.
use Rattle.std.specs.Prelude.{◌≡◌, ℕ, ◌+◌, ◌≤◌, List, length, take, Option, Some, None, Result, MatchResult}
use Rattle.std.specs.Io.KnownBytes.{Appends}

-- a bounded sink has room for n bytes
abbrev pub HasRoom : Option ℕ → ℕ → Type 0
HasRoom None n = Unit {0}
HasRoom (Some room) n = n ≤ room

-- the room of a bounded sink falls by n, and an unbounded sink stays unbounded
abbrev pub Falls : Option ℕ → Option ℕ → ℕ → Type 0
Falls None None n = Unit {0}
Falls None (Some new) n = ⊥
Falls (Some old) None n = ⊥
Falls (Some old) (Some new) n = old ≡ new + n

-- a write uses room for the bytes that it took, and none where it failed
abbrev pub UsesRoom : {E : Type 0} → Option ℕ → Option ℕ → Result ℕ E → Type 0
UsesRoom old new r = MatchResult r (λ n. Falls old new n) (λ _. new ≡ old)

-- some writes took these bytes: they are appended to what was written, and the room falls by their number
pub record Wrote (old_written new_written : Option (List ℕ)) (old_room new_room : Option ℕ) (bytes : List ℕ) : Type 0 where
  pub appended : Appends old_written new_written bytes
  pub used : Falls old_room new_room (length bytes)

-- some writes took a prefix of these bytes, and no more
pub record WrotePart (old_written new_written : Option (List ℕ)) (old_room new_room : Option ℕ) (bytes : List ℕ) : Type 0 where
  pub many : ℕ
  pub within : many ≤ length bytes
  pub wrote : Wrote old_written new_written old_room new_room (take many bytes)
