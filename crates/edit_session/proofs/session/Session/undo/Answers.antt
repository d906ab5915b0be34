use Rattle.std.proofs.Common.{◌≡◌, ◌++◌, ◌∷◌, [], sym, ◌∙◌, ap, ap₂, subst}
use Rattle.answers.specs.declared.reply.Reply.TheVariants.{Fine, History as HistoryRefused}
use Rattle.answers.specs.declared.fault.HistoryFault.TheVariants.{OutOfMemory as NoMemoryToStep}
use Rattle.edit_session.specs.Calls.{Does}
use Rattle.edit_session.proofs.Calls.{reply_given}
use Rattle.edit_session.specs.Machine.{State, step}
use Rattle.edit_session.specs.Live.{state_of}
use Rattle.edit_session.specs.States.{state_in, state_from}
use Rattle.edit_session.proofs.Standing.{stepped-standing}
use Rattle.std.specs.Prelude.{is_ok, if◌then◌else◌}
use Rattle.answers.specs.Commands.{Undo}
use Rattle.edit_session.proofs.Steps.{undo_step}
use Rattle.edit_session.proofs.session.Session.undo.Goals as goal

after : goal.After-unwrap → State
after c = state_from c.replace-after.new.dest c.pop_back.new.self.items c.push.new.self.items c.self.inside.marks.entries

grown : (c : goal.After-unwrap) → c.push.new.self.items ≡ c.self.inside.future.items ++ c.self.inside.present ∷ []
grown c =
    c.push.ensures.items
    ∙ ap (λ r. if is_ok r then c.reserve.new.self.items ++ c.replace-after.result ∷ [] else c.reserve.new.self.items) c.unwrap.ensures
    ∙ ap₂ (λ items sheet. items ++ sheet ∷ []) c.reserve.ensures.items c.replace-after.ensures.value

stepped : (c : goal.After-unwrap) → step (state_in c.self.inside) Undo ≡ (after c, Fine)
unfolding after
stepped c =
    undo_step c.self.inside.present c.unwrap-sheet.result c.self.inside.past.items c.self.inside.future.items c.push.new.self.items
    c.self.inside.marks.entries c.pop_back.new.self (sym c.pop_back.ensures.value ∙ c.unwrap-sheet.ensures)
    (ap (λ ring. ring.items) c.pop_back.ensures.items) (grown c)
    ∙ ap (λ sheet. (state_from sheet c.pop_back.new.self.items c.push.new.self.items c.self.inside.marks.entries, Fine))
    (sym c.replace-after.ensures.after)

pub invariant_of-self-2 : goal.invariant_of-self-2
unfolding after
invariant_of-self-2 c = record {
  room = ap (λ ring. ring.capacity) c.pop_back.ensures.items ∙ c.self.invariant.room;
  standing = stepped-standing (state_in c.self.inside) (after c) Undo Fine c.self.invariant.standing tt (stepped c);
}

pub returns : goal.returns
unfolding after
returns c =
    reply_given NoMemoryToStep (λ done. Fine) HistoryRefused (Does (state_of c.args.self.now) Undo (after c)) tt
    (subst (λ l. step (state_of l) Undo ≡ (after c, Fine)) c.self.view_is (stepped c))
