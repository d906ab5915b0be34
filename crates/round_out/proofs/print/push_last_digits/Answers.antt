use Rattle.std.proofs.Common.{arith, ap, ◌∙◌, sym, ◌≡◌, ◌+◌, ◌-◌, ◌++◌, ◌∷◌, []}
use Rattle.decimal18.specs.Text.{last_digits}
use Rattle.decimal18.proofs.Printing.{one_more}
use Rattle.round_out.proofs.print.push_last_digits.Goals as goal

pub loop-place-preserved : goal.loop-place-preserved
loop-place-preserved c =
    let e : c.loop-place.place ≡ (c.loop-place.place - 1) + 1 = omega arith in
    record {
      text = ap (λ t. t ++ last_digits (c.loop-place.place - 1) c.args.size) c.in_ok-push.ensures.ok
          ∙ ap (λ d. (c.loop-place.text ++ d ∷ []) ++ last_digits (c.loop-place.place - 1) c.args.size) c.digit_at.ensures
          ∙ one_more c.loop-place.text _ (c.loop-place.place - 1) c.args.size
          (ap (λ n. c.loop-place.text ++ last_digits n c.args.size) (sym e) ∙ c.loop-place.invariant.text);
    }
