use Rattle.std.proofs.Common.{◌≡◌, ◌/◌, ◌^◌, arith, ap, subst, ◌∙◌, OnOk, decimal, length, length-append}
use Rattle.decimal18.specs.Text.{last_digits}
use Rattle.decimal18.proofs.TextAgain.{length_last}
use Rattle.decimal18.proofs.Printing.{digits_split, parts_of, put_around_point}
use Rattle.decimal18.proofs.print.put_split.Goals as goal

pub overflow_sub-digits : goal.overflow_sub-digits
overflow_sub-digits c =
    let digits = c.as_bytes-digits.ensures.value ∙ c.format.ensures.text
    ∙ digits_split c.args.places c.args.size c.requires.whole (omega (arith, c.requires.digits)) in
    omega (arith, ap length digits, length-append (decimal (c.args.size / 10 ^ c.args.places)) (last_digits c.args.places c.args.size), length_last c.args.places c.args.size)

pub returns : goal.returns
returns c =
    let digits = c.as_bytes-digits.ensures.value ∙ c.format.ensures.text
    ∙ digits_split c.args.places c.args.size c.requires.whole (omega (arith, c.requires.digits)) in
    let places = c.args.places in
    let parts = parts_of c.as_bytes-digits.result.now _ _ places digits (length_last places c.args.size) in
    subst (λ t. OnOk c.extend_from_slice-2.result (c.extend_from_slice-2.new.self ≡ t))
    (put_around_point c.args.text.now c.extend_from_slice.new.self c.push.new.self c.split_at.result.0.now c.split_at.result.1.now (decimal (c.args.size / 10 ^ places)) places c.args.size
    c.in_ok-extend_from_slice.ensures.ok c.in_ok-push.ensures.ok (c.split_at.ensures.front ∙ parts.0) (c.split_at.ensures.back ∙ parts.1) c.requires.places)
    c.extend_from_slice-2.ensures.ok
