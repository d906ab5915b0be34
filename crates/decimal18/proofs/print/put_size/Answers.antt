use Rattle.std.proofs.Common.{◌≡◌, ◌^◌, ◌<◌, ◌≤◌, arith, subst, OnOk}
use Rattle.decimal18.proofs.Counting.{powers_rise}
use Rattle.decimal18.proofs.Printing.{put_behind_point}
use Rattle.decimal18.proofs.print.put_size.Goals as goal
use Rattle.decimal18.proofs.print.put_size.Goals.{else-places-lt18-via-then-places-lt18+else-size-short_power_of_ten, else-places-lt18-via-else-places-lt18}

pub put_last_digits-requires-clause-below : goal.put_last_digits-requires-clause-below
put_last_digits-requires-clause-below c = elim c.else-places-lt18.branch [
  | else-places-lt18-via-then-places-lt18+else-size-short_power_of_ten w ↦ omega (arith, w.if-size-short_power_of_ten.false, w.short_power_of_ten.ensures.value)
  | else-places-lt18-via-else-places-lt18 w ↦
      let f : 10 ^ 18 ≤ 10 ^ c.args.places = powers_rise 18 c.args.places w.if-places-lt18.false in
      omega (arith, c.requires.digits, f)
]

pub returns : goal.returns
returns c =
    let below : c.args.size < 10 ^ c.args.places = elim c.else-places-lt18.branch as (λ _. c.args.size < 10 ^ c.args.places) [
      | else-places-lt18-via-then-places-lt18+else-size-short_power_of_ten w ↦ omega (arith, w.if-size-short_power_of_ten.false, w.short_power_of_ten.ensures.value)
      | else-places-lt18-via-else-places-lt18 w ↦
          let f : 10 ^ 18 ≤ 10 ^ c.args.places = powers_rise 18 c.args.places w.if-places-lt18.false in
          omega (arith, c.requires.digits, f)
    ] in
    subst (λ t. OnOk c.put_last_digits.result (c.put_last_digits.new.text ≡ t))
    (put_behind_point c.args.text.now c.extend_from_slice-2.new.self c.args.places c.args.size c.in_ok-extend_from_slice.ensures.ok below (omega arith))
    c.put_last_digits.ensures
