use Rattle.std.proofs.Common.{◌≡◌, refl, sym, ◌∙◌, ap, subst}
use Rattle.answers.specs.declared.reply.Reply.TheVariants.{Fine, Mark as MarkRefused}
use Rattle.edit_session.specs.Machine.{State, step, marked, may_mark}
use Rattle.edit_session.specs.Live.{state_of}
use Rattle.edit_session.specs.States.{state_in, state_from}
use Rattle.edit_session.proofs.Standing.{stepped-standing}
use Rattle.answers.specs.Commands.{Mark}
use Rattle.answers.specs.declared.fault.MarkFault.TheVariants.{MarksFull, OutOfMemory as NoMemoryToMark}
use Rattle.indexmap.specs.IndexMap.{insert_entry}
use Rattle.std.specs.Prelude.{bytes_eq, true}
use Rattle.edit_session.specs.Calls.{Does}
use Rattle.edit_session.proofs.Steps.{mark_step}
use Rattle.edit_session.proofs.Calls.{mark_may_be_out, reply_given, reply_refused}
use Rattle.edit_session.proofs.session.Session.mark.Goals as goal

pub returns-then-not-may_mark : goal.returns-then-not-may_mark
returns-then-not-may_mark c =
    let at = state_of c.args.self.now in
    reply_refused NoMemoryToMark (λ done. Fine) MarkRefused (Does at (Mark c.args.name) at) MarksFull (λ e. absurd (cc)) (λ n.
    subst (λ l. step (state_of l) (Mark c.args.name) ≡ (state_of l, MarkRefused MarksFull)) c.self.view_is
    (ap (marked (state_in c.self.inside) c.args.name) (sym c.may_mark.ensures ∙ c.if-not-may_mark.true)))

after : goal.Joined-insert-2 → State
after c = state_from c.self.inside.present c.self.inside.past.items c.self.inside.future.items c.insert.new.self.entries

stepped : (c : goal.Joined-insert-2) → step (state_in c.self.inside) (Mark c.args.name) ≡ (after c, Fine)
unfolding after
stepped c =
    mark_step c.self.inside.present c.self.inside.past.items c.self.inside.future.items c.self.inside.marks.entries c.insert.new.self.entries
    c.args.name (sym c.may_mark.ensures ∙ c.if-not-may_mark.false)
    (c.in-Ok.ensures.entries ∙ ap (insert_entry bytes_eq c.self.inside.marks.entries c.args.name) c.in_ok-sheet.ensures)

pub invariant_of-self : goal.invariant_of-self
unfolding after
invariant_of-self c = record {
  room = c.self.invariant.room;
  standing = stepped-standing (state_in c.self.inside) (after c) (Mark c.args.name) Fine c.self.invariant.standing tt (stepped c);
}

pub returns-in-Ok : goal.returns-in-Ok
unfolding after
returns-in-Ok c =
    reply_given NoMemoryToMark (λ done. Fine) MarkRefused (Does (state_of c.args.self.now) (Mark c.args.name) (after c)) tt
    (subst (λ l. step (state_of l) (Mark c.args.name) ≡ (after c, Fine)) c.self.view_is (stepped c))

-- nothing is kept, for there is no memory
pub returns : goal.returns
returns c =
    let as_before = state_from c.self.inside.present c.self.inside.past.items c.self.inside.future.items in
    let kept = as_before c.insert.new.self.entries in
    reply_refused NoMemoryToMark (λ done. Fine) MarkRefused (Does (state_of c.args.self.now) (Mark c.args.name) kept) NoMemoryToMark
    (λ e. (
      subst (λ l. kept ≡ state_of l) c.self.view_is (ap as_before c.in-Err.ensures.err),
      mark_may_be_out (state_of c.args.self.now) c.args.name
          (subst (λ l. may_mark (state_of l).marks c.args.name ≡ true) c.self.view_is (sym c.may_mark.ensures ∙ c.if-not-may_mark.false)),
    )) (λ n. absurd (n refl))
