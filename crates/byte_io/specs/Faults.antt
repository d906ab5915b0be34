-- The count of faults, by which an outside object accounts for each Failed.
use Rattle.std.specs.Prelude.{◌≡◌, ℕ, ◌+◌, ◌-◌, ◌^◌, ◌<◌, min, ◌⊎◌, Result, OnErr, MatchResult}

-- the last number to which a counter rises; it stays there
abbrev pub last_count : ℕ
last_count = 2 ^ 64 - 1

-- what a counter shows one step after n
abbrev pub next_count : ℕ → ℕ
next_count n = min (n + 1) last_count

-- the count rose during a call, or stands at its last number when the call ends
abbrev pub Rose : ℕ → ℕ → Type 0
Rose old new = (old < new) ⊎ (new ≡ last_count)

-- a call answers Failed only where the count rose
abbrev pub HasCause : {V E : Type 0} → ℕ → ℕ → Result V E → Type 0
HasCause old new r = OnErr r (Rose old new)

-- a call that answers Failed is one more fault, and any other leaves their count
abbrev pub CountsFault : {V E : Type 0} → ℕ → ℕ → Result V E → Type 0
CountsFault old new r = MatchResult r (λ _. new ≡ old) (λ _. new ≡ next_count old)
