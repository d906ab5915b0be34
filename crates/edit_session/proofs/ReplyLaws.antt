-- What the replies of a sheet say of its exact law, and which names are those of results.
use Rattle.std.specs.Prelude.{◌≡◌, ◌↔◌, ℕ, Bool, true, false, if◌then◌else◌, is_some, bytes_eq, IsTrue, not, List, Option, Some, None, option_map, Result, Ok, Err, IfOk, refl}
use Rattle.std.specs.Option.{ok_or}
use Rattle.std.proofs.Common.{sym, ◌∙◌, ap, subst}
use Rattle.std.proofs.lemmas.Bool.{true≢false}
use Rattle.std.proofs.lemmas.Option.{none-some, same_Some}
use Rattle.fixed_interval.specs.Interval.{Interval}
use Rattle.budget_table.specs.Budgets.{budget_lines}
use Rattle.fixed_interval.specs.declared.faults.Overflow.{Overflow}
use Rattle.round_out.specs.Reports.{expanded_of, reported_of}
use Rattle.round_out.specs.declared.outcome.Reported.{Reported}
use Rattle.round_out.specs.declared.outcome.Reported.TheVariants.{Exact, Rounded, Unsettled}
use Rattle.round_out.proofs.Holding.{reported_holds, expanded_holds, factor_is}
use Rattle.guard_band.specs.declared.rule.Rule.{Rule}
use Rattle.guard_band.specs.declared.rule.Said.{Said as SaidOfRule}
use Rattle.guard_band.proofs.Exact.{statement_is_exact}
use Rattle.table_g2.specs.Factors.{factor_span}
use Rattle.table_g2.specs.Said.{said}
use Rattle.table_g2.specs.Known.{Allows, AreDegrees}
use Rattle.table_g2.specs.declared.known.Level.{Level}
use Rattle.table_g2.specs.declared.known.Nu.{Nu}
use Rattle.table_g2.proofs.Enclosed.{span_encloses}
use Rattle.table_g2.proofs.SaidRanges.{answer_holds}
use Rattle.exact_fraction.specs.Number.{ℚ}
use Rattle.decimal18.specs.Bound.{Bound, value_of}
use Rattle.sheet_rows.specs.Rows.{Sheet}
use Rattle.sheet_rows.specs.Sheets.{has_quantity, has_input, has_rule, rule_of, IsStanding}
use Rattle.value_cache.specs.Evaluations.{evaluation_of}
use Rattle.value_cache.specs.Model.{HasValueIn}
use Rattle.value_cache.specs.declared.evaluation.Evaluation.{Evaluation}
use Rattle.value_cache.specs.declared.evaluation.Evaluation.TheVariants.{Enclosed, Fault}
use Rattle.covariance.specs.Gradients.{Spans}
use Rattle.adjoint_pass.specs.Sensitivities.{has_gradient}
use Rattle.answers.specs.Commands.{Command, Change, Undo, Redo, Mark, Restore, Ask as AskPresent, AskAt}
use Rattle.sheet_rows.specs.Regular.{AreRegular}
use Rattle.answers.specs.Replies.{IsRegularAnswer}
use Rattle.answers.specs.declared.command.Query.{Query}
use Rattle.answers.specs.declared.command.Query.TheVariants.{Value as AskValue, Variance as AskVariance, Covariance as AskCovariance, Correlation as AskCorrelation, Sensitivity as AskSensitivity, Degrees as AskDegrees, Report as AskReport, Expanded as AskExpanded, Decide as AskDecide, Budget as AskBudget, Dump as AskDump}
use Rattle.answers.specs.declared.fault.AskFault.TheVariants.{NoSuchResult}
use Rattle.answers.specs.declared.reply.Answer.{Answer}
use Rattle.answers.specs.declared.reply.Answer.TheVariants.{Value, Variance, Covariance, Correlation, Sensitivity, Degrees, Report, Expanded, Decision, Budget, Dump, ValueFault, LawOverflow}
use Rattle.answers.specs.declared.reply.Reply.{Reply}
use Rattle.answers.specs.declared.reply.Reply.TheVariants.{Ask}
use Rattle.sheet_model.specs.Quantities.{quantities}
use Rattle.sheet_model.proofs.Names.{there-is_quantity}
use Rattle.sheet_model.proofs.Walking.{evaluable}
use Rattle.sheet_model.proofs.Inputs.{sheet_input}
use Rattle.edit_session.specs.Replies.{Unknown, Faulted, OutOfRange, Found, and_then, in_range, value_by, value_in, gradient_in, variance_in, covariance_in, correlation_in, degrees_in, answer_of_one, answer_of_two, expanded_in, rule_by, statement_by, decided_in, inputs_in, parts_in, budget_in, answer_in, unless_there, unknown_result, reply_of, reply_by, reply_to}
use Rattle.edit_session.specs.Machine.{State, kept_as, step, reply_at}
use Rattle.edit_session.specs.Sound.{IsFactor, HasExpandedIn, HasStatementIn, exact_value_in, factor_in, law_in, exact_degrees_in, IsSoundAnswer, IsSoundReply, asked, IsSoundOn}
use Rattle.edit_session.specs.Standing.{IsStandingState}
use Rattle.edit_session.specs.Calls.{is_refusal}
use Rattle.edit_session.proofs.Standing.{kept-standing}
use Rattle.edit_session.proofs.Budgeting.{inputs_known, parts_known, budget_holds}
use Rattle.edit_session.proofs.Deciding.{rule_found, decided_by}
use Rattle.edit_session.proofs.Found.{if_then, of_ok, IsKnown, known_then, known_range}
use Rattle.edit_session.proofs.Lawful.{gradient_by, HasSlopes, value_holds, one_holds, two_holds, IsVariance, variance_holds, covariance_holds, correlation_holds, degrees_hold}

-- ---- names that are there
pub there_of_one : (there : Bool) (name : List ℕ) → unless_there there name None ≡ None → there ≡ true
there_of_one true name e = refl
there_of_one false name e = absurd (none-some name (sym e))

pub there_of_two : (first second : Bool) (y z : List ℕ) → unless_there first y (unless_there second z None) ≡ None → (first ≡ true) × (second ≡ true)
there_of_two true second y z e = (refl, there_of_one second z e)
there_of_two false second y z e = absurd (none-some y (sym e))

-- ---- soundness
factor_said : (reported : Reported) (k : Bound) (f : ℚ) → ((reported ≡ Unsettled → ⊥) → value_of k ≡ f) → IsFactor reported k f
factor_said (Exact estimate) k f h = h (λ e. cc)
factor_said (Rounded estimate m e) k f h = h (λ e. cc)
factor_said Unsettled k f h = tt

module _ (sheet : Sheet) (h : IsStanding sheet) where
  expanded_sound : (y : List ℕ) (level : Level) (value : Interval) → HasValueIn bytes_eq (quantities sheet) y value → HasSlopes sheet y
      → IfOk (expanded_in sheet y level value (gradient_by sheet y)) (IsSoundAnswer sheet (AskExpanded y level))
  expanded_sound y level value holds s =
      let P = IsSoundAnswer sheet (AskExpanded y level) in
      if_then (degrees_in sheet (gradient_by sheet y)) _ P
      (λ nu e. if_then (variance_in sheet (gradient_by sheet y)) _ P
      (λ v f. if_then (in_range (expanded_of value v (factor_span nu level))) _ P (λ reported g. (level, (refl, of_reported nu e v f reported (there_of _ reported g))))))
    where
      there_of : (r : _) (reported : Reported) → in_range r ≡ Ok reported → r ≡ Ok reported
      there_of (Ok x) reported g = cc
      there_of (Err x) reported g = cc

      of_reported : (nu : Nu) → degrees_in sheet (gradient_by sheet y) ≡ Ok nu → (v : Interval) → variance_in sheet (gradient_by sheet y) ≡ Ok v
          → (reported : Reported) → expanded_of value v (factor_span nu level) ≡ Ok reported → HasExpandedIn sheet y level reported (factor_span nu level).lo
      of_reported nu e v f reported g =
          let degrees = of_ok (degrees_in sheet (gradient_by sheet y)) (λ n. Allows n (exact_degrees_in sheet y) × AreDegrees n) (degrees_hold sheet h y s) nu e in
          let k = span_encloses nu level (exact_degrees_in sheet y) degrees.0 in
          let variance = of_ok (variance_in sheet (gradient_by sheet y)) (IsVariance sheet h y) (variance_holds sheet h y s) v f in
          record {
            defined = holds.defined;
            said = expanded_holds value v (factor_span nu level) (exact_value_in sheet y) (law_in sheet y y) (factor_in sheet y level) holds.enclosed variance.0 k reported g;
            factor = factor_said reported (factor_span nu level).lo (factor_in sheet y level) (factor_is value v (factor_span nu level) (factor_in sheet y level) k reported g);
          }

  decided_sound : (y t : List ℕ) (level : Level) (rule : Rule) → rule_of sheet t ≡ Some rule → (value : Interval) → HasValueIn bytes_eq (quantities sheet) y value
      → HasSlopes sheet y → IfOk (decided_in sheet y t level rule value (gradient_by sheet y)) (IsSoundAnswer sheet (AskDecide y t level))
  decided_sound y t level rule of_row value holds s =
      let P = IsSoundAnswer sheet (AskDecide y t level) in
      if_then (degrees_in sheet (gradient_by sheet y)) _ P
      (λ nu e. if_then (variance_in sheet (gradient_by sheet y)) _ P
      (λ v f. if_then (statement_by rule value v (factor_span nu level)) _ P (λ said g. (level, (refl, of_said nu e v f said g)))))
    where
      of_said : (nu : Nu) → degrees_in sheet (gradient_by sheet y) ≡ Ok nu → (v : Interval) → variance_in sheet (gradient_by sheet y) ≡ Ok v
          → (said : SaidOfRule) → statement_by rule value v (factor_span nu level) ≡ Ok said → HasStatementIn sheet y t level said
      of_said nu e v f said g =
          let degrees = of_ok (degrees_in sheet (gradient_by sheet y)) (λ n. Allows n (exact_degrees_in sheet y) × AreDegrees n) (degrees_hold sheet h y s) nu e in
          let k = span_encloses nu level (exact_degrees_in sheet y) degrees.0 in
          let variance = of_ok (variance_in sheet (gradient_by sheet y)) (IsVariance sheet h y) (variance_holds sheet h y s) v f in
          record {
            defined = holds.defined;
            rule = rule;
            of_row = of_row;
            exact = λ st d. statement_is_exact rule value v (factor_span nu level) st (decided_by rule value v (factor_span nu level) said g st d)
                (exact_value_in sheet y) (law_in sheet y y) (factor_in sheet y level) holds.enclosed variance.0 k;
          }

  budget_sound : (y : List ℕ) (value : Interval) → HasValueIn bytes_eq (quantities sheet) y value → HasSlopes sheet y
      → IfOk (budget_in sheet y (gradient_by sheet y)) (IsSoundAnswer sheet (AskBudget y))
  budget_sound y value holds s =
      let P = IsSoundAnswer sheet (AskBudget y) in
      if_then (variance_in sheet (gradient_by sheet y)) _ P
      (λ v e. let is = of_ok (variance_in sheet (gradient_by sheet y)) (IsVariance sheet h y) (variance_holds sheet h y s) v e in
      if_then (inputs_in sheet (gradient_by sheet y)) _ P
      (λ inputs f. if_then (parts_in sheet (gradient_by sheet y)) _ P
      (λ parts g. if_then (in_range (ok_or (budget_lines inputs parts) (record {}))) _ P
      (λ lines k. (
        refl,
        record {
          has_variance = record { defined = holds.defined; enclosed = is.0; not_negative = is.1 };
          each = budget_holds sheet h y s inputs parts f g lines k;
        },
      )))))

  pub answer_sound : (query : Query) → unknown_result sheet query ≡ None → IfOk (answer_in sheet query) (IsSoundAnswer sheet query)
  answer_sound (AskValue y) e =
      if_then (value_in sheet y) _ (IsSoundAnswer sheet (AskValue y))
      (λ value f. (refl, of_ok (value_in sheet y) (HasValueIn bytes_eq (quantities sheet) y) (value_holds sheet h y) value f))
  answer_sound (AskVariance y) e =
      one_holds sheet h y (there_of_one (has_quantity sheet y) y e) _ (IsSoundAnswer sheet (AskVariance y))
      (λ value holds s. if_then (variance_in sheet (gradient_by sheet y)) _ (IsSoundAnswer sheet (AskVariance y))
      (λ v f. let is = of_ok (variance_in sheet (gradient_by sheet y)) (IsVariance sheet h y) (variance_holds sheet h y s) v f in
      (refl, record { defined = holds.defined; enclosed = is.0; not_negative = is.1 })))
  answer_sound (AskCovariance y z) e =
      let there = there_of_two (has_quantity sheet y) (has_quantity sheet z) y z e in
      two_holds sheet h y z there.0 there.1 _ (IsSoundAnswer sheet (AskCovariance y z))
      (λ v w first second s t. if_then (covariance_in sheet (gradient_by sheet y) (gradient_by sheet z)) _ (IsSoundAnswer sheet (AskCovariance y z))
      (λ c f. (
        refl,
        record {
          first = first.defined;
          second = second.defined;
          enclosed = of_ok (covariance_in sheet (gradient_by sheet y) (gradient_by sheet z)) _ (covariance_holds sheet h y z s t) c f;
        },
      )))
  answer_sound (AskCorrelation y z) e =
      let there = there_of_two (has_quantity sheet y) (has_quantity sheet z) y z e in
      two_holds sheet h y z there.0 there.1 _ (IsSoundAnswer sheet (AskCorrelation y z))
      (λ v w first second s t. if_then (correlation_in sheet (gradient_by sheet y) (gradient_by sheet z)) _ (IsSoundAnswer sheet (AskCorrelation y z))
      (λ r f. (
        refl,
        record {
          first = first.defined;
          second = second.defined;
          said = of_ok (correlation_in sheet (gradient_by sheet y) (gradient_by sheet z)) _ (correlation_holds sheet h y z s t) r f;
        },
      )))
  answer_sound (AskSensitivity y x) e =
      let there = there_of_two (has_quantity sheet y) (has_input sheet x) y x e in
      let given = sheet_input sheet h x there.1 in
      one_holds sheet h y there.0 _ (IsSoundAnswer sheet (AskSensitivity y x))
      (λ value holds s. (refl, record { defined = holds.defined; enclosed = s x given.estimate given.is }))
  answer_sound (AskDegrees y) e =
      one_holds sheet h y (there_of_one (has_quantity sheet y) y e) _ (IsSoundAnswer sheet (AskDegrees y))
      (λ value holds s. if_then (degrees_in sheet (gradient_by sheet y)) _ (IsSoundAnswer sheet (AskDegrees y))
      (λ nu f. let degrees = of_ok (degrees_in sheet (gradient_by sheet y)) (λ n. Allows n (exact_degrees_in sheet y) × AreDegrees n) (degrees_hold sheet h y s) nu f in
      (refl, record { defined = holds.defined; said = answer_holds nu (said nu) refl degrees.1 (exact_degrees_in sheet y) degrees.0 })))
  answer_sound (AskReport y) e =
      one_holds sheet h y (there_of_one (has_quantity sheet y) y e) _ (IsSoundAnswer sheet (AskReport y))
      (λ value holds s. if_then (variance_in sheet (gradient_by sheet y)) _ (IsSoundAnswer sheet (AskReport y))
      (λ v f. let is = of_ok (variance_in sheet (gradient_by sheet y)) (IsVariance sheet h y) (variance_holds sheet h y s) v f in
      (refl, record { defined = holds.defined; said = reported_holds value v (exact_value_in sheet y) (law_in sheet y y) holds.enclosed is.0 })))
  answer_sound (AskExpanded y level) e =
      one_holds sheet h y (there_of_one (has_quantity sheet y) y e) _ (IsSoundAnswer sheet (AskExpanded y level)) (expanded_sound y level)
  answer_sound (AskDecide y t level) e =
      let there = there_of_two (has_quantity sheet y) (has_rule sheet t) y t e in
      let P = IsSoundAnswer sheet (AskDecide y t level) in
      if_then (rule_by t (rule_of sheet t)) _ P
      (λ rule f. one_holds sheet h y there.0 (decided_in sheet y t level rule) P (decided_sound y t level rule (rule_found t (rule_of sheet t) rule f)))
  answer_sound (AskBudget y) e =
      one_holds sheet h y (there_of_one (has_quantity sheet y) y e) _ (IsSoundAnswer sheet (AskBudget y)) (budget_sound y)
  answer_sound AskDump e = (refl, refl)

  pub reply_sound : (query : Query) → IsSoundReply sheet query (reply_to sheet query)
  reply_sound query = by (unknown_result sheet query) refl where
    of_found : (found : Found Answer) → IfOk found (IsSoundAnswer sheet query) → IsSoundReply sheet query (reply_of found)
    of_found (Ok answer) k = k
    of_found (Err (Unknown name)) k = tt
    of_found (Err (Faulted fault row)) k = tt
    of_found (Err OutOfRange) k = tt

    by : (o : Option (List ℕ)) → unknown_result sheet query ≡ o → IsSoundReply sheet query (reply_by o (answer_in sheet query))
    by (Some name) e = tt
    by None e = of_found (answer_in sheet query) (answer_sound query e)

kept_sound : (state : State) → IsStandingState state → (name : List ℕ) (query : Query) (o : Option Sheet) → kept_as state.marks name ≡ o
    → IsSoundOn (option_map (λ sheet. (sheet, query)) o) (reply_at name o query)
kept_sound state h name query None e = tt
kept_sound state h name query (Some sheet) e = reply_sound sheet (kept-standing state.marks name sheet e h.marks) query

pub command_sound : (state : State) → IsStandingState state → (command : Command) → IsSoundOn (asked state command) (step state command).1
command_sound state h (Change edit) = tt
command_sound state h Undo = tt
command_sound state h Redo = tt
command_sound state h (Mark name) = tt
command_sound state h (Restore name) = tt
command_sound state h (AskPresent query) = reply_sound state.present h.present query
command_sound state h (AskAt name query) = kept_sound state h name query (kept_as state.marks name) refl

-- ---- what is answered to a query is regular
pub sound_regular : (sheet : Sheet) → IsStanding sheet → (query : Query) (answer : Answer) → IsSoundAnswer sheet query answer → IsRegularAnswer answer
sound_regular sheet h query (Value y s) k = tt
sound_regular sheet h query (Variance y s) k = tt
sound_regular sheet h query (Covariance y z s) k = tt
sound_regular sheet h query (Correlation y z r) k = tt
sound_regular sheet h query (Sensitivity y x s) k = tt
sound_regular sheet h query (Degrees y nu) k = tt
sound_regular sheet h query (Report y reported) k = tt
sound_regular sheet h query (Expanded y reported factor) k = tt
sound_regular sheet h query (Decision y t said) k = tt
sound_regular sheet h query (Budget lines y s) k = tt
sound_regular sheet h query (Dump rows) k = subst AreRegular (sym k.1) h.regular
sound_regular sheet h query (ValueFault fault row) k = tt
sound_regular sheet h query LawOverflow k = tt

-- ---- refusals: a query is refused exactly where a name in it is that of no result
-- a quantity of a sheet that stands has an evaluation
pub evaluated : (sheet : Sheet) → IsStanding sheet → (y : List ℕ) → is_some (evaluation_of bytes_eq (quantities sheet) y) ≡ has_quantity sheet y
evaluated sheet h y = (evaluable sheet h).found y ∙ there-is_quantity sheet.rows y

value_known : (sheet : Sheet) → IsStanding sheet → (y : List ℕ) → has_quantity sheet y ≡ true → IsKnown (value_in sheet y)
value_known sheet h y there = by (evaluation_of bytes_eq (quantities sheet) y) (evaluated sheet h y ∙ there) where
  by : (o : Option (Evaluation (List ℕ))) → is_some o ≡ true → IsKnown (value_by y o)
  by None e = absurd (true≢false (sym e))
  by (Some (Fault fault row)) e = tt
  by (Some (Enclosed s)) e = tt

gradient_known : (sheet : Sheet) (y : List ℕ) → IsKnown (gradient_in sheet y)
gradient_known sheet y = by (has_gradient bytes_eq (quantities sheet) y) where
  by : (t : Bool) → IsKnown {A = Spans (List ℕ)} (if t then Ok (gradient_by sheet y) else Err OutOfRange)
  by true = tt
  by false = tt

one_known : (sheet : Sheet) → IsStanding sheet → (y : List ℕ) → unless_there (has_quantity sheet y) y None ≡ None
    → (answer : Interval → Spans (List ℕ) → Found Answer) → ((value : Interval) (dy : Spans (List ℕ)) → IsKnown (answer value dy))
    → IsKnown (answer_of_one sheet y answer)
one_known sheet h y e answer k =
    known_then (value_in sheet y) (λ value. and_then (gradient_in sheet y) (λ dy. answer value dy))
    (value_known sheet h y (there_of_one (has_quantity sheet y) y e))
    (λ value. known_then (gradient_in sheet y) (λ dy. answer value dy) (gradient_known sheet y) (k value))

two_known : (sheet : Sheet) → IsStanding sheet → (y z : List ℕ) → unless_there (has_quantity sheet y) y (unless_there (has_quantity sheet z) z None) ≡ None
    → (answer : Spans (List ℕ) → Spans (List ℕ) → Found Answer) → ((dy dz : Spans (List ℕ)) → IsKnown (answer dy dz))
    → IsKnown (answer_of_two sheet y z answer)
two_known sheet h y z e answer k =
    let there = there_of_two (has_quantity sheet y) (has_quantity sheet z) y z e in
    known_then (value_in sheet y) _ (value_known sheet h y there.0)
    (λ first. known_then (value_in sheet z) _ (value_known sheet h z there.1)
    (λ second. known_then (gradient_in sheet y) _ (gradient_known sheet y) (λ dy. known_then (gradient_in sheet z) _ (gradient_known sheet z) (λ dz. k dy dz))))

rule_known : (t : List ℕ) (o : Option Rule) → is_some o ≡ true → IsKnown (rule_by t o)
rule_known t None e = absurd (true≢false (sym e))
rule_known t (Some rule) e = tt

range_known : {A : Type 0} (r : Result A Overflow) (next : A → Answer) → IsKnown (and_then (in_range r) (λ x. Ok (next x)))
range_known r next = known_then (in_range r) (λ x. Ok (next x)) (known_range r) (λ x. tt)

answer_known : (sheet : Sheet) → IsStanding sheet → (query : Query) → unknown_result sheet query ≡ None → IsKnown (answer_in sheet query)
answer_known sheet h (AskValue y) e = known_then (value_in sheet y) _ (value_known sheet h y (there_of_one (has_quantity sheet y) y e)) (λ value. tt)
answer_known sheet h (AskVariance y) e = one_known sheet h y e _ (λ value dy. range_known _ (Variance y))
answer_known sheet h (AskCovariance y z) e = two_known sheet h y z e _ (λ dy dz. range_known _ (Covariance y z))
answer_known sheet h (AskCorrelation y z) e =
    two_known sheet h y z e _
    (λ dy dz. known_then (correlation_in sheet dy dz) _
    (known_then (covariance_in sheet dy dz) _ (known_range _) (λ c. known_then (variance_in sheet dy) _ (known_range _)
    (λ v. known_then (variance_in sheet dz) _ (known_range _) (λ w. known_range _)))) (λ r. tt))
answer_known sheet h (AskSensitivity y x) e =
    one_known sheet h y (ap (λ b. unless_there b y None) (there_of_two (has_quantity sheet y) (has_input sheet x) y x e).0) _ (λ value dy. tt)
answer_known sheet h (AskDegrees y) e = one_known sheet h y e _ (λ value dy. range_known _ (λ nu. Degrees y (said nu)))
answer_known sheet h (AskReport y) e = one_known sheet h y e _ (λ value dy. range_known _ (λ v. Report y (reported_of value v)))
answer_known sheet h (AskExpanded y level) e =
    one_known sheet h y e _
    (λ value dy. known_then (degrees_in sheet dy) _ (known_range _)
    (λ nu. known_then (variance_in sheet dy) _ (known_range _) (λ v. range_known _ (λ reported. Expanded y reported (factor_span nu level).lo))))
answer_known sheet h (AskDecide y t level) e =
    let there = there_of_two (has_quantity sheet y) (has_rule sheet t) y t e in
    known_then (rule_by t (rule_of sheet t)) _ (rule_known t (rule_of sheet t) there.1)
    (λ rule. one_known sheet h y (ap (λ b. unless_there b y None) there.0) _
    (λ value dy. known_then (degrees_in sheet dy) _ (known_range _)
    (λ nu. known_then (variance_in sheet dy) _ (known_range _) (λ v. range_known _ (λ said. Decision y t said)))))
answer_known sheet h (AskBudget y) e =
    one_known sheet h y e _
    (λ value dy. known_then (variance_in sheet dy) _ (known_range _)
    (λ v. known_then (inputs_in sheet dy) _ (inputs_known sheet dy (λ x. value_known sheet h x))
    (λ inputs. known_then (parts_in sheet dy) _ (parts_known sheet dy) (λ parts. range_known _ (λ lines. Budget lines y v)))))
answer_known sheet h AskDump e = tt

-- the reply is no refusal
abbrev pub IsFine : Reply → Type 0
IsFine reply = IsTrue (not (is_refusal reply))

found_fine : (found : Found Answer) → IsKnown found → IsFine (reply_of found)
found_fine (Ok answer) h = refl
found_fine (Err (Unknown name)) h = absurd h
found_fine (Err (Faulted fault row)) h = refl
found_fine (Err OutOfRange) h = refl

-- where each name in the query is that of a result
pub fine_reply : (sheet : Sheet) → IsStanding sheet → (query : Query) → unknown_result sheet query ≡ None → IsFine (reply_to sheet query)
fine_reply sheet h query e =
    subst (λ o. IsFine (reply_by o (answer_in sheet query))) (sym e) (found_fine (answer_in sheet query) (answer_known sheet h query e))

no_result : (reply : Reply) (name : List ℕ) → IsFine reply → reply ≡ Ask (NoSuchResult name) → ⊥
no_result reply name h e = true≢false (sym (subst IsFine e h))

pub unknown_tells : (sheet : Sheet) → IsStanding sheet → (query : Query) (name : List ℕ)
    → (reply_to sheet query ≡ Ask (NoSuchResult name)) ↔ (unknown_result sheet query ≡ Some name)
unknown_tells sheet h query name = by (unknown_result sheet query) refl where
  by : (o : Option (List ℕ)) → unknown_result sheet query ≡ o → (reply_by o (answer_in sheet query) ≡ Ask (NoSuchResult name)) ↔ (o ≡ Some name)
  by (Some own) e = (λ f. ap Some (cc), λ f. ap (λ n. Ask (NoSuchResult n)) (same_Some own name f))
  by None e = (λ f. absurd (no_result (reply_of (answer_in sheet query)) name (found_fine (answer_in sheet query) (answer_known sheet h query e)) f), λ f. absurd (none-some name f))

pub unknown_exactly : (sheet : Sheet) → IsStanding sheet → (name : List ℕ)
    → (reply_to sheet (AskValue name) ≡ Ask (NoSuchResult name)) ↔ (has_quantity sheet name ≡ false)
unknown_exactly sheet h name =
    let tells = unknown_tells sheet h (AskValue name) name in
    (λ e. missing (has_quantity sheet name) (tells.0 e), λ e. tells.1 (ap (λ b. unless_there b name None) e))
  where
    missing : (there : Bool) → unless_there there name None ≡ Some name → there ≡ false
    missing true e = absurd (none-some name e)
    missing false e = refl
