-- What an answer of `down` or `up` says.
use Rattle.std.specs.Prelude.{◌≡◌, Option, None, Some, IsSome, IfSome, ◌↔◌, refl}
use Rattle.std.proofs.Common.{sym}
use Rattle.std.proofs.lemmas.Bool.{false≢true}
use Rattle.exact_fraction.specs.Number.{ℚ}
use Rattle.decimal18.specs.Bound.{Bound}
use Rattle.decimal18.specs.Down.{IsDown, IsUp, IsInRange, down, up}
use Rattle.decimal18.proofs.Rounding.{down_some, down_none}
use Rattle.decimal18.proofs.Upward.{up_some, up_none}

pub down_is : (x : ℚ) (r : Option Bound) → r ≡ down x → IfSome r (IsDown x)
down_is x None e = tt
down_is x (Some b) e = (down_some x b (sym e)).1

pub down_defined : (x : ℚ) (r : Option Bound) → r ≡ down x → IsSome r ↔ IsInRange x
down_defined x None e = (λ h. absurd (false≢true h), λ range. absurd (down_none x (sym e) range))
down_defined x (Some b) e = (λ _. (down_some x b (sym e)).0, λ _. refl)

pub up_is : (x : ℚ) (r : Option Bound) → r ≡ up x → IfSome r (IsUp x)
up_is x None e = tt
up_is x (Some b) e = (up_some x b (sym e)).1

pub up_defined : (x : ℚ) (r : Option Bound) → r ≡ up x → IsSome r ↔ IsInRange x
up_defined x None e = (λ h. absurd (false≢true h), λ range. absurd (up_none x (sym e) range))
up_defined x (Some b) e = (λ _. (up_some x b (sym e)).0, λ _. refl)
