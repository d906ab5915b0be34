-- Whether bytes are told, over several calls.
use Rattle.std.proofs.Common.{ℕ, List, Option, Some, None}
use Rattle.byte_io.specs.Told.{SameTold}

pub SameTold-refl : (a : Option (List ℕ)) → SameTold a a
SameTold-refl None = tt
SameTold-refl (Some xs) = tt

pub SameTold-sym : (a b : Option (List ℕ)) → SameTold a b → SameTold b a
SameTold-sym None None p = tt
SameTold-sym None (Some ys) p = p
SameTold-sym (Some xs) None p = p
SameTold-sym (Some xs) (Some ys) p = tt

pub SameTold-trans : (a b c : Option (List ℕ)) → SameTold a b → SameTold b c → SameTold a c
SameTold-trans None None c p q = q
SameTold-trans None (Some ys) c p q = absurd p
SameTold-trans (Some xs) None c p q = absurd p
SameTold-trans (Some xs) (Some ys) c p q = q

pub ruleset told_steps = (SameTold-refl, SameTold-sym, SameTold-trans)
