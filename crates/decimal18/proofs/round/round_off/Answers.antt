use Rattle.std.proofs.Common.{sym, ap, ◌∙◌}
use Rattle.std.proofs.lemmas.Bool.{false≢true}
use Rattle.std.specs.Prelude.{◌+◌, Some}
use Rattle.decimal18.specs.Bound.{canonical}
use Rattle.decimal18.specs.Digits.{signed, signed_ℚ}
use Rattle.decimal18.proofs.CutOff.{rounded_is, rounded_none, answer_is, first_cut, first_enough, past_range, too_many_digits}
use Rattle.decimal18.proofs.round.round_off.Goals as goal

pub returns-in_err-first : goal.returns-in_err-first
returns-in_err-first c = λ x h.
    c.from_residual.ensures
    ∙ sym (rounded_none x c.args.negative c.args.direction (too_many_digits x c.args.digits c.args.places c.args.lost h c.in_err-first.ensures.none))

pub returns-then-is_past_range : goal.returns-then-is_past_range
returns-then-is_past_range c = λ x h.
    sym (rounded_none x c.args.negative c.args.direction
    (past_range x _ _ _ (first_cut x c.args.digits c.args.places c.args.lost _ _ _ h c.in_ok-first.ensures.some) (c.is_past_range.ensures.0 c.if-is_past_range.true)))

pub returns : goal.returns
returns c = λ x h.
    let first = c.in_ok-first.ensures.some in
    answer_is (signed_ℚ c.args.negative x) c.args.direction c.from_magnitude.result _ c.from_magnitude.ensures.valid c.from_magnitude.ensures.value
    (rounded_is x _ _ _ c.args.negative c.args.direction (first_cut x c.args.digits c.args.places c.args.lost _ _ _ h first)
    first.most_digits first.most_places (first_enough c.args.digits c.args.places c.args.lost _ _ _ first c.requires.enough)
    (λ past. false≢true (sym c.if-is_past_range.false ∙ c.is_past_range.ensures.1 past))
    ∙ ap (λ n. Some (canonical (signed c.args.negative (c.in_ok-first.first.digits + n)) c.in_ok-first.first.places)) (sym c.growth.ensures.value))
