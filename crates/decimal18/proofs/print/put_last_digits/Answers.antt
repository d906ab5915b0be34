use Rattle.std.proofs.Common.{◌≡◌, ◌-◌, arith, subst, OnOk}
use Rattle.std.proofs.lemmas.List.{take-replicate}
use Rattle.decimal18.proofs.Printing.{put_zeros}
use Rattle.decimal18.proofs.print.put_last_digits.Goals as goal

pub returns : goal.returns
returns c =
    let k = c.args.places - 18 in
    subst (λ t. OnOk c.put_digits-2.result (c.put_digits-2.new.text ≡ t))
    (put_zeros c.args.text.now c.extend_from_slice.new.self _ k c.args.places c.args.size c.in_ok-extend_from_slice.ensures.ok (take-replicate k 18 48 (omega arith)) c.requires.digits (omega arith))
    c.put_digits-2.ensures
