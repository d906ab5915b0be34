use Rattle.std.proofs.Common.{◌≡◌, ◌++◌, ◌∷◌, [], ◌∙◌, ap, ap₂, subst}
use Rattle.circular_buffer.specs.Buffer.{buffer, keep_last}
use Rattle.answers.specs.declared.reply.Reply.TheVariants.{Fine, Edit as EditRefused}
use Rattle.sheet_rows.specs.declared.edit_fault.EditFault.TheVariants.{OutOfMemory as NoMemoryToEdit}
use Rattle.edit_session.specs.Calls.{Does}
use Rattle.edit_session.proofs.Calls.{reply_given}
use Rattle.edit_session.specs.Machine.{State, step}
use Rattle.edit_session.specs.Live.{state_of}
use Rattle.edit_session.specs.States.{state_in, state_from}
use Rattle.edit_session.proofs.Standing.{stepped-standing}
use Rattle.answers.specs.Commands.{Change, edit_of}
use Rattle.edit_session.proofs.Steps.{Pushed, edit_step}
use Rattle.edit_session.proofs.session.Session.edit.Goals as goal

pushed : (c : goal.After-clear) → Pushed c.push_back.new.self c.self.inside.past.items c.self.inside.present
pushed c =
    c.push_back.ensures.items
    ∙ ap₂ (λ cap sheet. buffer (keep_last cap (c.self.inside.past.items ++ sheet ∷ [])) cap) c.self.invariant.room c.in_ok-before.ensures.before

after : goal.After-clear → State
after c = state_from c.apply.new.sheet c.push_back.new.self.items c.clear.new.self.items c.self.inside.marks.entries

stepped : (c : goal.After-clear) → step (state_in c.self.inside) (Change (edit_of c.args.edit)) ≡ (after c, Fine)
unfolding after
stepped c =
    edit_step c.self.inside.present c.apply.new.sheet c.self.inside.past.items c.self.inside.future.items c.clear.new.self.items
    c.self.inside.marks.entries c.push_back.new.self (edit_of c.args.edit) c.in_ok-before.ensures.verdict (pushed c) c.clear.ensures.items

pub invariant_of-self-2 : goal.invariant_of-self-2
unfolding after
invariant_of-self-2 c = record {
  room = ap (λ ring. ring.capacity) (pushed c);
  standing = stepped-standing (state_in c.self.inside) (after c) (Change (edit_of c.args.edit)) Fine c.self.invariant.standing c.requires (stepped c);
}

pub returns : goal.returns
unfolding after
returns c =
    reply_given NoMemoryToEdit (λ done. Fine) EditRefused (Does (state_of c.args.self.now) (Change (edit_of c.args.edit)) (after c)) tt
    (subst (λ l. step (state_of l) (Change (edit_of c.args.edit)) ≡ (after c, Fine)) c.self.view_is (stepped c))
