-- The lengths of the pieces that a source in memory gives.
use Rattle.std.specs.Prelude.{ℕ, min, List, [], ◌∷◌}

-- how many of n bytes the next piece has: all of them where the lengths are used up
abbrev pub piece_of : List ℕ → ℕ → ℕ
piece_of [] n = n
piece_of (most ∷ lengths) n = min most n
