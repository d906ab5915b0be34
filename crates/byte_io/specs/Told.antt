-- What an outside object may tell of its bytes: a list where it tells them, and None where it does not.
use Rattle.std.specs.Prelude.{ℕ, List, Option, Some, None}

-- the bytes are told after a call exactly where they were told before it
abbrev pub SameTold : Option (List ℕ) → Option (List ℕ) → Type 0
SameTold None None = Unit {0}
SameTold None (Some new) = ⊥
SameTold (Some old) None = ⊥
SameTold (Some old) (Some new) = Unit {0}
