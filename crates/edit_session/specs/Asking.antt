-- What the code finds of a sheet that is asked, by the numbers of quantities.
use Rattle.std.specs.Prelude.{◌≡◌, ℕ, ◌<◌, true, List, [], ◌∷◌, ◌++◌, length, map, slice_get, bytes_eq, Option, None, Some, IfSome, Result, Ok, Err}
use Rattle.fixed_interval.specs.Interval.{Interval}
use Rattle.covariance.specs.Gradients.{Spans, Gradient, found_at}
use Rattle.covariance.specs.Groups.{Group, AreRegular}
use Rattle.covariance.specs.Renaming.{renamed_group}
use Rattle.eff_dof.specs.GroupParts.{HaveDegrees}
use Rattle.budget_table.specs.declared.part.GroupPart.{GroupPart}
use Rattle.sheet_rows.specs.Rows.{Sheet}
use Rattle.sheet_rows.specs.Sheets.{IsStanding}
use Rattle.value_cache.specs.Quantities.{is_there}
use Rattle.adjoint_pass.specs.Sensitivities.{has_gradient, gradient_of}
use Rattle.adjoint_pass.specs.declared.fault.GradFault.{GradFault}
use Rattle.adjoint_pass.specs.declared.fault.GradFault.TheVariants.{Value as ValueByNumber, Law as LawByNumber, OutOfMemory as NoMemoryForGradient}
use Rattle.answers.specs.declared.fault.AskFault.{AskFault}
use Rattle.answers.specs.declared.fault.AskFault.TheVariants.{OutOfMemory as NoMemoryToAsk}
use Rattle.answers.specs.declared.reply.Answer.{Answer}
use Rattle.answers.specs.declared.reply.Answer.TheVariants.{ValueFault, LawOverflow}
use Rattle.sheet_model.specs.Quantities.{quantities}
use Rattle.sheet_model.specs.Groups.{groups}
use Rattle.sheet_model.specs.Numbering.{number_among, AreAllKept}
use Rattle.edit_session.specs.Replies.{Stop, Faulted, OutOfRange, Found, and_then, part_by, value_in, answer_of_one, answer_of_two}
use Rattle.edit_session.specs.declared.stop.Stop.{Stop as CodeStop}
use Rattle.edit_session.specs.declared.stop.Stop.TheVariants.{Value as CodeFault, Law as CodeOverflow, OutOfMemory as NoMemory}
use Rattle.edit_session.specs.declared.asked.Asked.{Asked}
use Rattle.edit_session.specs.declared.asked.OfOne.{OfOne}
use Rattle.edit_session.specs.declared.asked.OfTwo.{OfTwo}

-- ---- what a call finds
-- what stands in the place of what is found, where that is not want of memory
abbrev pub stop_of : CodeStop → Option Stop
stop_of (CodeFault fault row) = Some (Faulted fault row)
stop_of CodeOverflow = Some OutOfRange
stop_of NoMemory = None

-- what is answered then
abbrev pub answer_of_stop : CodeStop → Result Answer AskFault
answer_of_stop (CodeFault fault row) = Ok (ValueFault fault row)
answer_of_stop CodeOverflow = Ok LawOverflow
answer_of_stop NoMemory = Err NoMemoryToAsk

-- the code stops where the definition does, or is out of memory
abbrev pub StopsAt : {A : Type 0} → CodeStop → Found A → Type 0
StopsAt stop found = IfSome (stop_of stop) (λ s. found ≡ Err s)

-- it finds what is defined, stops where that does, or is out of memory
abbrev pub Finds : {A : Type 0} → Result A CodeStop → Found A → Type 0
Finds (Ok x) found = found ≡ Ok x
Finds (Err stop) found = StopsAt stop found

-- what is found goes behind what there is
abbrev pub goes_on : {A : Type 0} → List A → Found (List A) → Found (List A)
goes_on xs found = and_then found (λ ys. Ok (xs ++ ys))

-- the code puts what is defined at the end of a list, stops where that does, or is out of memory
abbrev pub AddsTo : {A : Type 0} → Result Unit CodeStop → List A → List A → Found (List A) → Type 0
AddsTo (Ok done) old new found = goes_on old found ≡ Ok new
AddsTo (Err stop) old new found = StopsAt stop found

-- the groups of a budget by numbers, under the names of their rows
abbrev pub numbered_parts : Spans ℕ → List (List ℕ) → List (Group ℕ) → Found (List GroupPart)
numbered_parts dy [] gs = Ok []
numbered_parts dy (n ∷ ns) [] = Ok []
numbered_parts dy (n ∷ ns) (g ∷ gs) = and_then (part_by dy n g) (λ ys. and_then (numbered_parts dy ns gs) (λ zs. Ok (ys ++ zs)))

-- ---- the fault in the place of a gradient
-- its row is that of a quantity of one of these names
abbrev pub HasNumber : List (List ℕ) → GradFault → Type 0
HasNumber ns (ValueByNumber fault row) = row < length ns
HasNumber ns LawByNumber = Unit {0}
HasNumber ns NoMemoryForGradient = Unit {0}

-- the same with the name of the row
abbrev pub IsStopOf : List (List ℕ) → GradFault → CodeStop → Type 0
IsStopOf ns (ValueByNumber fault row) stop = (name : List ℕ) → slice_get ns row ≡ Some name → stop ≡ CodeFault fault name
IsStopOf ns LawByNumber stop = stop ≡ CodeOverflow
IsStopOf ns NoMemoryForGradient stop = stop ≡ NoMemory

-- ---- a sheet by numbers
-- the quantities that are kept are those of the sheet, which stands
pub record IsAsked (asked : Asked) : Type 0 where
  pub standing : IsStanding asked.sheet.now
  pub kept : AreAllKept (quantities asked.sheet.now) asked.numbered

-- it is the same sheet still
pub record IsStillAsked (old new : Asked) : Type 0 where
  pub sheet : new.sheet.now ≡ old.sheet.now
  pub asked : IsAsked new

-- the sensitivities of y to all quantities of the sheet, none of which leaves the range of bounds
pub record IsGradientIn (sheet : Sheet) (y : List ℕ) (found : Gradient) : Type 0 where
  pub whole : has_gradient bytes_eq (quantities sheet) y ≡ true
  pub each : (n : List ℕ) → is_there bytes_eq (quantities sheet) n ≡ true
      → found_at found (number_among (quantities sheet) n) ≡ gradient_of bytes_eq (quantities sheet) y n

-- the groups of its inputs
pub record AreGroupsIn (sheet : Sheet) (found : List (Group ℕ)) : Type 0 where
  pub are : found ≡ map (renamed_group (number_among (quantities sheet))) (groups sheet)
  pub regular : AreRegular found
  pub degrees : HaveDegrees found

-- ---- what the law of propagation needs
pub record IsOfOne (sheet : Sheet) (y : List ℕ) (one : OfOne) : Type 0 where
  pub standing : IsStanding sheet
  pub value : value_in sheet y ≡ Ok one.value
  pub gradient : IsGradientIn sheet y one.gradient
  pub groups : AreGroupsIn sheet one.groups

-- each answer that needs it stops there
abbrev pub StopsOne : Sheet → List ℕ → CodeStop → Type 0
StopsOne sheet y stop = (answer : Interval → Spans (List ℕ) → Found Answer) → StopsAt stop (answer_of_one sheet y answer)

pub record IsOfTwo (sheet : Sheet) (y z : List ℕ) (two : OfTwo) : Type 0 where
  pub standing : IsStanding sheet
  pub first_value : Interval
  pub has_first : value_in sheet y ≡ Ok first_value
  pub second_value : Interval
  pub has_second : value_in sheet z ≡ Ok second_value
  pub first : IsGradientIn sheet y two.first
  pub second : IsGradientIn sheet z two.second
  pub groups : AreGroupsIn sheet two.groups

abbrev pub StopsTwo : Sheet → List ℕ → List ℕ → CodeStop → Type 0
StopsTwo sheet y z stop = (answer : Spans (List ℕ) → Spans (List ℕ) → Found Answer) → StopsAt stop (answer_of_two sheet y z answer)
