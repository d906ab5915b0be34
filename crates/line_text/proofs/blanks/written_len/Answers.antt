use Rattle.std.proofs.Common.{◌≡◌, suc, ◌-◌, take, sym, ◌∙◌, ap, arith}
use Rattle.line_text.specs.Blanks.{written_len}
use Rattle.line_text.proofs.Searches.{without_blank, with_other}
use Rattle.line_text.proofs.blanks.written_len.Goals as goal

pub loop-len-preserved : goal.loop-len-preserved
loop-len-preserved c =
    let n = c.loop-len.len - 1 in
    let one_less : suc n ≡ c.loop-len.len = omega (arith, c.loop-len-test.true) in
    record {
      same =
          sym (without_blank c.args.text.now n (omega (arith, c.loop-len.invariant.within, c.loop-len-test.true)) (sym c.if-is_blank.ensures))
          ∙ ap (λ k. written_len (take k c.args.text.now)) one_less ∙ c.loop-len.invariant.same;
      within = omega (arith, c.loop-len.invariant.within);
    }

pub returns-else-is_blank-clause-is : goal.returns-else-is_blank-clause-is
returns-else-is_blank-clause-is c =
    let n = c.loop-len.len - 1 in
    let one_less : suc n ≡ c.loop-len.len = omega (arith, c.loop-len-test.true) in
    sym (with_other c.args.text.now n (omega (arith, c.loop-len.invariant.within, c.loop-len-test.true)) (sym c.if-is_blank.ensures) ∙ one_less)
    ∙ ap (λ k. written_len (take k c.args.text.now)) one_less ∙ c.loop-len.invariant.same
