-- A count of faults that never falls, over several calls.
use Rattle.std.proofs.Common.{ℕ, ◌^◌, ◌<◌, ◌≤◌, inl, inr, arith}
use Rattle.byte_io.specs.Faults.{Rose, last_count}

-- a count that rose in a first call rose in both
pub Rose-then : (a b c : ℕ) → Rose a b → b ≤ c → c < 2 ^ 64 → Rose a c
Rose-then a b c rose later fits = elim rose [ inl above ↦ inl (omega arith) | inr last ↦ inr (omega arith) ]

-- a count that rose in a second call rose in both
pub then-Rose : (a b c : ℕ) → a ≤ b → Rose b c → Rose a c
then-Rose a b c earlier rose = elim rose [ inl above ↦ inl (omega arith) | inr last ↦ inr last ]

-- a count that is not the last number and stays did not rise: a call that failed has no such count
pub not-Rose : (a : ℕ) → a < last_count → Rose a a → ⊥
not-Rose a below rose = elim rose [ inl above ↦ omega arith | inr last ↦ omega arith ]

pub ruleset fault_steps = (Rose-then, then-Rose, not-Rose)
