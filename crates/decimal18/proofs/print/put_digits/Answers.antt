use Rattle.std.proofs.Common.{◌≡◌, ◌^◌, ◌≤◌, ◌++◌, arith, ap, subst, ◌∙◌, OnOk, drop, length}
use Rattle.decimal18.proofs.Counting.{powers_rise}
use Rattle.decimal18.proofs.Printing.{behind_one}
use Rattle.decimal18.proofs.print.put_digits.Goals as goal

pub overflow_add-short_power_of_ten : goal.overflow_add-short_power_of_ten
overflow_add-short_power_of_ten c =
    let f : 10 ^ c.args.places ≤ 10 ^ 18 = powers_rise c.args.places 18 c.requires.places in
    omega (arith, f, c.short_power_of_ten.ensures.value, c.requires.below)

pub split_at-requires : goal.split_at-requires
split_at-requires c =
    let digits = c.as_bytes-digits.ensures.value ∙ c.format.ensures.text
    ∙ behind_one c.args.places c.args.size c.short_power_of_ten.result c.requires.below c.requires.places c.short_power_of_ten.ensures.value in
    omega (arith, ap length digits)

pub returns : goal.returns
returns c =
    let digits = c.as_bytes-digits.ensures.value ∙ c.format.ensures.text
    ∙ behind_one c.args.places c.args.size c.short_power_of_ten.result c.requires.below c.requires.places c.short_power_of_ten.ensures.value in
    subst (λ t. OnOk c.extend_from_slice.result (c.extend_from_slice.new.self ≡ c.args.text.now ++ t)) (c.split_at.ensures.back ∙ ap (λ s. drop 1 s) digits)
    c.extend_from_slice.ensures.ok
