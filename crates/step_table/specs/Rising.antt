-- Keys that rise, and the place of a number among them.
use Rattle.std.specs.Prelude.{ℕ, ◌<◌, ◌≤◌, ◌&&◌, Bool, true, nat_lt, List, [], ◌∷◌, length, slice_index, IsTrue}

-- the first key is above `low`, and each later one above the one before it
abbrev pub rises_above : ℕ → List ℕ → Bool
rises_above low [] = true
rises_above low (key ∷ keys) = nat_lt low key && rises_above key keys

-- each key but the first is above the one before it
abbrev pub rises : List ℕ → Bool
rises [] = true
rises (key ∷ keys) = rises_above key keys

-- the same as a fact
abbrev pub IsRising : List ℕ → Type 0
IsRising keys = IsTrue (rises keys)

-- `place` is that of the greatest key not above `key`, counted from 0
pub record IsPlace (keys : List ℕ) (key place : ℕ) : Type 0 where
  pub within : place < length keys
  pub not_above : slice_index keys place ≤ key
  pub greatest : (later : ℕ) → place < later → later < length keys → key < slice_index keys later

-- each of the keys is above `key`
abbrev pub AreAbove : List ℕ → ℕ → Type 0
AreAbove keys key = (place : ℕ) → place < length keys → key < slice_index keys place
