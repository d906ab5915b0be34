use Rattle.std.proofs.Common.{◌≡◌, ℕ, List, ◌+◌, ◌++◌, suc, rules, arith, ap, ap₂, sym, ◌∙◌, append_assoc}
use Rattle.script_maker.specs.Draws.{next, state_after}
use Rattle.script_maker.specs.Scripts.{round_lines, rounds}
use Rattle.script_maker.proofs.make.put_rounds.Goals as goal

-- one more round, whose draw follows those of the rounds before it
more_text : (text from text' : List ℕ) (inputs rows start before state : ℕ) → text ≡ from ++ rounds inputs rows start before
    → state ≡ state_after before start → text' ≡ text ++ round_lines inputs rows (before + 1) state
    → text' ≡ from ++ rounds inputs rows start (before + 1)
unfolding rounds
more_text text from text' inputs rows start before state h k m =
    let e : before + 1 ≡ suc before = omega arith in
    m ∙ ap₂ (λ t x. t ++ round_lines inputs rows (before + 1) x) h k
    ∙ append_assoc from (rounds inputs rows start before) (round_lines inputs rows (before + 1) (state_after before start))
    ∙ ap (λ round. from ++ (rounds inputs rows start before ++ round_lines inputs rows round (state_after before start))) e
    ∙ ap (λ count. from ++ rounds inputs rows start count) (sym e)

more_state : (start before state state' : ℕ) → state ≡ state_after before start → state' ≡ next state
    → state' ≡ state_after (before + 1) start
more_state start before state state' h k =
    let e : before + 1 ≡ suc before = omega arith in
    k ∙ ap next h ∙ ap (λ draws. state_after draws start) (sym e)

pub loop-before-init : goal.loop-before-init
unfolding rounds
loop-before-init c = search rules

pub loop-before-preserved : goal.loop-before-preserved
loop-before-preserved c = record {
  text = more_text _ _ _ _ _ _ _ _ c.loop-before.invariant.text c.loop-before.invariant.state c.in_ok-put_round.ensures.text;
  state = more_state c.args.draws.now.state c.loop-before.before _ _ c.loop-before.invariant.state c.in_ok-put_round.ensures.state;
}
