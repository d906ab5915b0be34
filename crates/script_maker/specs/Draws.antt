-- Numbers as if drawn at random, by a linear congruence whose state is below 2^31. This is our own rule, with the numbers
-- of the example of `rand` in the standard of C (ISO/IEC 9899, 7.22.2).
use Rattle.std.specs.Prelude.{ℕ, zero, suc, ◌+◌, ◌*◌, ◌/◌, ◌%◌, ◌^◌}

-- the state after a draw
abbrev pub next : ℕ → ℕ
next state = (1103515245 * state + 12345) % 2 ^ 31

-- the number below `m` that is drawn at a state: the low bits of the state after it, which repeat soon, are left out
abbrev pub drawn : ℕ → ℕ → ℕ
drawn state m = next state / 65536 % m

-- the state after so many draws
abbrev pub state_after : ℕ → ℕ → ℕ
state_after zero start = start
state_after (suc draws) start = next (state_after draws start)
