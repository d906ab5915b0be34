use Rattle.std.proofs.Common.{◌≡◌, ℕ, List, ◌+◌, ◌*◌, ◌++◌, suc, arith, ap, ap₂, sym, ◌∙◌, append_assoc}
use Rattle.script_maker.specs.Draws.{next, state_after}
use Rattle.script_maker.specs.Scripts.{row_line, row_lines}
use Rattle.script_maker.proofs.make.put_rows.Goals as goal

-- one more row, whose draws begin where those of the rows before it end
more_text : (text from text' : List ℕ) (inputs start before state : ℕ) → text ≡ from ++ row_lines inputs start before
    → state ≡ state_after (2 * before) start → text' ≡ text ++ row_line inputs (before + 1) state
    → text' ≡ from ++ row_lines inputs start (before + 1)
more_text text from text' inputs start before state h k m =
    let e : before + 1 ≡ suc before = omega arith in
    m ∙ ap₂ (λ t x. t ++ row_line inputs (before + 1) x) h k
    ∙ append_assoc from (row_lines inputs start before) (row_line inputs (before + 1) (state_after (2 * before) start))
    ∙ ap (λ row. from ++ (row_lines inputs start before ++ row_line inputs row (state_after (2 * before) start))) e
    ∙ ap (λ rows. from ++ row_lines inputs start rows) (sym e)

more_state : (start before state state' : ℕ) → state ≡ state_after (2 * before) start → state' ≡ next (next state)
    → state' ≡ state_after (2 * (before + 1)) start
more_state start before state state' h k =
    let e : 2 * (before + 1) ≡ suc (suc (2 * before)) = omega arith in
    k ∙ ap (λ x. next (next x)) h ∙ ap (λ draws. state_after draws start) (sym e)

pub loop-before-preserved : goal.loop-before-preserved
loop-before-preserved c = record {
  text = more_text _ _ _ _ _ _ _ c.loop-before.invariant.text c.loop-before.invariant.state c.in_ok-put_row.ensures.text;
  state = more_state c.args.draws.now.state c.loop-before.before _ _ c.loop-before.invariant.state c.in_ok-put_row.ensures.state;
}
