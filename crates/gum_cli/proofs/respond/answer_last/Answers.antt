use Rattle.std.proofs.Common.{◌≡◌, ◌++◌, ◌∷◌, [], IfSome, OnOk, Result, Ok, Err, sym, ◌∙◌, ap, subst}
use Rattle.std.proofs.lemmas.List.{append-nil}
use Rattle.script_lines.specs.Items.{items_of}
use Rattle.edit_session.specs.Live.{state_of}
use Rattle.gum_cli.specs.Script.{replies_to, text_of_replies}
use Rattle.gum_cli.proofs.respond.answer_last.Goals as goal

on_ok : {A E : Type 0} {P Q : Type 0} (r : Result A E) → (P → Q) → OnOk r P → OnOk r Q
on_ok (Ok x) f h = f h
on_ok (Err e) f h = tt

-- nothing comes after the last line
pub returns-in-Some : goal.returns-in-Some
returns-in-Some g c =
    let last : items_of c.args.splitter ≡ c.in-Some.item ∷ [] =
    subst (λ o. IfSome o (λ item. items_of c.args.splitter ≡ item ∷ [])) c.in-Some.is c.in_ok-item.ensures.some in
    on_ok c.answer_item.result
    (λ h. sym (append-nil c.answer_item.new.replies) ∙ h
    ∙ ap (λ items. c.args.replies.now ++ text_of_replies (replies_to (state_of c.args.session.now) items)) (sym last))
    (c.answer_item.ensures.replies [])
