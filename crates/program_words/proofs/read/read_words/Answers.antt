use Rattle.std.proofs.Common.{◌≡◌, ◌∙◌, sym, ap, subst, IfSome}
use Rattle.std.proofs.lemmas.Result.{IfOk-weaker}
use Rattle.program_words.specs.Words.{asked_of, IsInRange}
use Rattle.program_words.specs.Grammar.{options_found, confirmed_of}
use Rattle.program_words.specs.Views.{texts_of}
use Rattle.program_words.proofs.Answered.{answered, not_taken}
use Rattle.program_words.proofs.Ranges.{asked_in_range}
use Rattle.program_words.proofs.read.read_words.Goals as goal

pub returns-in-Ok : goal.returns-in-Ok
returns-in-Ok c =
    let is : c.confirmed_of.result ≡ asked_of (texts_of c.args.words.now) =
    c.confirmed_of.ensures
    ∙ ap (λ found. confirmed_of found (texts_of c.args.words.now)) (c.options_found.ensures ∙ ap options_found c.in-Ok.ensures.matches)
    ∙ answered (texts_of c.args.words.now) in
    record {
      asked = is;
      in_range = subst (λ asked. IfSome asked IsInRange) (sym is) (asked_in_range (texts_of c.args.words.now));
    }

pub returns-in-Err : goal.returns-in-Err
returns-in-Err c = record {
  asked =
      IfOk-weaker c.refused.result _ _
      (λ asked h. h.0 ∙ sym (not_taken (texts_of c.args.words.now) (λ taken. h.1 (c.in-Err.ensures.taken taken)))) c.refused.ensures;
  in_range = IfOk-weaker c.refused.result _ _ (λ asked h. subst (λ asked. IfSome asked IsInRange) (sym h.0) tt) c.refused.ensures;
}
