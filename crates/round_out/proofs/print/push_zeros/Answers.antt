use Rattle.std.proofs.Common.{arith, ap, ◌∙◌, sym, ◌≡◌, ◌+◌, ◌-◌, ◌++◌, replicate}
use Rattle.line_text.specs.Characters.{digit_zero}
use Rattle.round_out.proofs.Zeros.{zero_more}
use Rattle.round_out.proofs.print.push_zeros.Goals as goal

pub loop-left-preserved : goal.loop-left-preserved
loop-left-preserved c =
    let e : c.loop-left.left ≡ (c.loop-left.left - 1) + 1 = omega arith in
    record {
      text = ap (λ t. t ++ replicate (c.loop-left.left - 1) digit_zero) c.in_ok-push.ensures.ok
          ∙ zero_more c.loop-left.text _ (c.loop-left.left - 1)
          (ap (λ n. c.loop-left.text ++ replicate n digit_zero) (sym e) ∙ c.loop-left.invariant.text);
    }
