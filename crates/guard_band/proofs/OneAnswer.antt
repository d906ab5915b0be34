-- An answer is determined by what it means.
use Rattle.std.specs.Prelude.{◌≡◌, ◌==◌, if◌then◌else◌, Option, Result, Ok, Err, refl}
use Rattle.std.proofs.Common.{sym, ◌∙◌, ap}
use Rattle.std.proofs.lemmas.Option.{same_Some, none-some}
use Rattle.exact_law.specs.WrittenRule.{Decision, Stated, Undecided as UndecidedAt, Pass as ExactPass, ConditionalPass as ExactConditionalPass, ConditionalFail as ExactConditionalFail, Fail as ExactFail}
use Rattle.fixed_interval.specs.declared.faults.Overflow.{Overflow}
use Rattle.guard_band.specs.declared.rule.Condition.TheVariants.{Guarded, Inside, Near}
use Rattle.guard_band.specs.declared.rule.Said.{Said}
use Rattle.guard_band.specs.declared.rule.Said.TheVariants.{Pass, ConditionalPass, ConditionalFail, Fail, Undecided}
use Rattle.guard_band.specs.Statements.{decision_of, IsAnswer}

abbrev said_of : Decision → Said
said_of (Stated ExactPass) = Pass
said_of (Stated ExactConditionalPass) = ConditionalPass
said_of (Stated ExactConditionalFail) = ConditionalFail
said_of (Stated ExactFail) = Fail
said_of (UndecidedAt n) = Undecided (if n == 1 then Guarded else (if n == 2 then Inside else Near))

said_again : (s : Said) → said_of (decision_of s) ≡ s
said_again Pass = refl
said_again ConditionalPass = refl
said_again ConditionalFail = refl
said_again Fail = refl
said_again (Undecided Guarded) = refl
said_again (Undecided Inside) = refl
said_again (Undecided Near) = refl

pub answer-unique : (wanted : Option Decision) (r s : Result Said Overflow) → IsAnswer decision_of wanted r → IsAnswer decision_of wanted s → r ≡ s
answer-unique wanted (Ok r) (Ok s) h k =
    ap Ok (sym (said_again r) ∙ ap said_of (same_Some _ _ (sym h ∙ k)) ∙ said_again s)
answer-unique wanted (Ok r) (Err f) h k = absurd (none-some _ (sym k ∙ h))
answer-unique wanted (Err e) (Ok s) h k = absurd (none-some _ (sym h ∙ k))
answer-unique wanted (Err e) (Err f) h k = refl
