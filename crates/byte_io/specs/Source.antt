-- What a read does to the number of bytes taken and to the end.
use Rattle.std.specs.Prelude.{◌≡◌, ℕ, ◌+◌, ◌<◌, ◌↔◌, Bool, IsTrue, List, length, Option, Result, IfSome, MatchResult}
use Rattle.std.specs.Io.KnownBytes.{Appends, Consumes}

-- the number of bytes taken rises by what a read gave, and by nothing where it failed
abbrev pub Counts : {E : Type 0} → ℕ → ℕ → Result ℕ E → Type 0
Counts old new r = MatchResult r (λ n. new ≡ old + n) (λ _. new ≡ old)

-- a read into a piece that is not empty meets the end exactly where it gives no byte; one that failed leaves the end as it was
abbrev pub MeetsEnd : {E : Type 0} → Bool → Bool → Result ℕ E → List ℕ → Type 0
MeetsEnd old new r piece = MatchResult r (λ n. 0 < length piece → IsTrue new ↔ (n ≡ 0)) (λ _. new ≡ old)

-- the bytes taken, where they are told, are as many as were counted
abbrev pub IsCounted : Option (List ℕ) → ℕ → Type 0
IsCounted taken count = IfSome taken (λ bytes. length bytes ≡ count)

-- some reads took these bytes: they are counted, appended to what was taken, and gone from what was left
pub record Took (old_count new_count : ℕ) (old_taken new_taken old_left new_left : Option (List ℕ)) (bytes : List ℕ) : Type 0 where
  pub counted : new_count ≡ old_count + length bytes
  pub appended : Appends old_taken new_taken bytes
  pub consumed : Consumes old_left new_left bytes
