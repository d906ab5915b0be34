-- What a call answers that may find no memory, beside what its definition gives. `memory` is the fault that says
-- out of memory.
use Rattle.std.specs.Prelude.{◌≡◌, ◌≢◌, Option, Some, None, Result, Ok, Err}

-- the call's answer stands, by `view`, for what the definition gives, or is the fault `memory`
abbrev pub GivesBy : {A B E : Type 0} → (A → B) → E → Result A E → Result B E → Type 0
GivesBy view memory (Ok x) wanted = wanted ≡ Ok (view x)
GivesBy view memory (Err fault) wanted = fault ≢ memory → wanted ≡ Err fault

-- the same of an answer that is what the definition gives
abbrev pub Gives : {A E : Type 0} → E → Result A E → Result A E → Type 0
Gives = GivesBy (λ x. x)

-- the reply that stands for an answer, by `given` for what the call gives and by `refused` for its refusals; an answer
-- that is out of memory has none
abbrev pub IsReplyTo : {A E R : Type 0} → E → (A → R) → (E → R) → Result A E → Option R → Type 0
IsReplyTo memory given refused answer None = answer ≡ Err memory
IsReplyTo memory given refused (Ok x) (Some reply) = reply ≡ given x
IsReplyTo memory given refused (Err fault) (Some reply) = (fault ≢ memory) × (reply ≡ refused fault)
