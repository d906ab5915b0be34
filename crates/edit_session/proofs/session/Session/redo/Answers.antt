use Rattle.std.proofs.Common.{◌≡◌, ◌++◌, ◌∷◌, [], sym, ◌∙◌, ap, ap₂, subst}
use Rattle.std.specs.Option.{option_to_list}
use Rattle.circular_buffer.specs.Buffer.{buffer, keep_last}
use Rattle.answers.specs.Commands.{Redo}
use Rattle.answers.specs.declared.reply.Reply.TheVariants.{Fine, History as HistoryRefused}
use Rattle.answers.specs.declared.fault.HistoryFault.TheVariants.{OutOfMemory as NoMemoryToStep}
use Rattle.edit_session.specs.Calls.{Does}
use Rattle.edit_session.proofs.Calls.{reply_given}
use Rattle.edit_session.specs.Machine.{State, step}
use Rattle.edit_session.specs.Live.{state_of}
use Rattle.edit_session.specs.States.{state_in, state_from}
use Rattle.edit_session.proofs.Steps.{Pushed, redo_step}
use Rattle.edit_session.proofs.Standing.{stepped-standing}
use Rattle.edit_session.proofs.session.Session.redo.Goals as goal

pushed : (c : goal.Joined-push_back) → Pushed c.push_back.new.self c.self.inside.past.items c.self.inside.present
pushed c =
    c.push_back.ensures.items
    ∙ ap₂ (λ cap sheet. buffer (keep_last cap (c.self.inside.past.items ++ sheet ∷ [])) cap) c.self.invariant.room c.replace-before.ensures.value

after : goal.Joined-push_back → State
after c = state_from c.replace-before.new.dest c.push_back.new.self.items c.pop.new.self.items c.self.inside.marks.entries

stepped : (c : goal.Joined-push_back) → step (state_in c.self.inside) Redo ≡ (after c, Fine)
unfolding after
stepped c =
    redo_step c.self.inside.present c.in-Some.sheet c.self.inside.past.items c.self.inside.future.items c.pop.new.self.items
    c.self.inside.marks.entries c.push_back.new.self
    (c.pop.ensures.items ∙ ap (λ o. c.pop.new.self.items ++ option_to_list o) c.in-Some.is) (pushed c)
    ∙ ap (λ sheet. (state_from sheet c.push_back.new.self.items c.pop.new.self.items c.self.inside.marks.entries, Fine))
    (sym c.replace-before.ensures.after)

pub invariant_of-self-2 : goal.invariant_of-self-2
unfolding after
invariant_of-self-2 c = record {
  room = ap (λ ring. ring.capacity) (pushed c);
  standing = stepped-standing (state_in c.self.inside) (after c) Redo Fine c.self.invariant.standing tt (stepped c);
}

pub returns : goal.returns
unfolding after
returns c =
    reply_given NoMemoryToStep (λ done. Fine) HistoryRefused (Does (state_of c.args.self.now) Redo (after c)) tt
    (subst (λ l. step (state_of l) Redo ≡ (after c, Fine)) c.self.view_is (stepped c))
