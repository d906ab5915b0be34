use Rattle.std.proofs.Common.{◌≡◌, ◌++◌, ◌∷◌, [], sym, ◌∙◌, ap, ap₂, subst}
use Rattle.circular_buffer.specs.Buffer.{buffer, keep_last}
use Rattle.answers.specs.declared.reply.Reply.TheVariants.{Fine, Mark as MarkRefused}
use Rattle.edit_session.specs.Machine.{State, step, restored}
use Rattle.edit_session.specs.Live.{state_of}
use Rattle.edit_session.specs.States.{state_in, state_from}
use Rattle.edit_session.proofs.Standing.{stepped-standing}
use Rattle.answers.specs.Commands.{Restore}
use Rattle.answers.specs.declared.fault.MarkFault.TheVariants.{NoMark, OutOfMemory as NoMemoryToMark}
use Rattle.edit_session.specs.Calls.{Does}
use Rattle.edit_session.proofs.Calls.{reply_given, reply_refused}
use Rattle.edit_session.proofs.Steps.{Pushed, restore_step}
use Rattle.edit_session.proofs.session.Session.restore.Goals as goal

pub returns-in_default : goal.returns-in_default
returns-in_default c =
    let at = state_of c.args.self.now in
    reply_refused NoMemoryToMark (λ done. Fine) MarkRefused (Does at (Restore c.args.name.now) at) (NoMark c.args.name.now) (λ e. absurd (cc)) (λ n.
    subst (λ l. step (state_of l) (Restore c.args.name.now) ≡ (state_of l, MarkRefused (NoMark c.args.name.now))) c.self.view_is
    (ap (restored (state_in c.self.inside) c.args.name.now) (sym c.in_default.ensures.value)))

pushed : (c : goal.After-clear) → Pushed c.push_back.new.self c.self.inside.past.items c.self.inside.present
pushed c =
    c.push_back.ensures.items
    ∙ ap₂ (λ cap sheet. buffer (keep_last cap (c.self.inside.past.items ++ sheet ∷ [])) cap) c.self.invariant.room c.replace-before.ensures.value

after : goal.After-clear → State
after c = state_from c.replace-before.new.dest c.push_back.new.self.items c.clear.new.self.items c.self.inside.marks.entries

stepped : (c : goal.After-clear) → step (state_in c.self.inside) (Restore c.args.name.now) ≡ (after c, Fine)
unfolding after
stepped c =
    restore_step c.self.inside.present c.in-Some.kept.now c.self.inside.past.items c.self.inside.future.items c.clear.new.self.items
    c.self.inside.marks.entries c.push_back.new.self c.args.name.now (sym c.in-Some.ensures.value) (pushed c) c.clear.ensures.items
    ∙ ap (λ sheet. (state_from sheet c.push_back.new.self.items c.clear.new.self.items c.self.inside.marks.entries, Fine))
    (sym (c.replace-before.ensures.after ∙ c.in_ok-sheet.ensures))

pub invariant_of-self : goal.invariant_of-self
unfolding after
invariant_of-self c = record {
  room = ap (λ ring. ring.capacity) (pushed c);
  standing = stepped-standing (state_in c.self.inside) (after c) (Restore c.args.name.now) Fine c.self.invariant.standing tt (stepped c);
}

pub returns : goal.returns
unfolding after
returns c =
    reply_given NoMemoryToMark (λ done. Fine) MarkRefused (Does (state_of c.args.self.now) (Restore c.args.name.now) (after c)) tt
    (subst (λ l. step (state_of l) (Restore c.args.name.now) ≡ (after c, Fine)) c.self.view_is (stepped c))
