use Rattle.std.proofs.Common.{Ok, sym, ap}
use Rattle.table_g2.specs.Said.{said}
use Rattle.answers.specs.declared.reply.Answer.TheVariants.{Degrees}
use Rattle.edit_session.specs.Replies.{and_then, degrees_in}
use Rattle.edit_session.proofs.Found.{finds_on, stops_with}
use Rattle.edit_session.proofs.Needed.{gradient_by, finds_one}
use Rattle.edit_session.proofs.uncertainty.degrees_answer.Goals as goal

pub returns-in_err-nu : goal.returns-in_err-nu
returns-in_err-nu g c =
    let sheet = c.args.sheet.now in
    let is = c.in_ok-one.ensures.ok in
    finds_one sheet c.args.y c.in_ok-one.one is (λ value dy. and_then (degrees_in sheet dy) (λ nu. Ok (Degrees c.args.y (said nu)))) c.from_residual-in_err-nu.result
    (stops_with c.from_residual-in_err-nu.result c.in_err-nu.field-0.0 c.from_residual-in_err-nu.ensures.1
    (degrees_in sheet (gradient_by sheet c.args.y)) (λ nu. Ok (Degrees c.args.y (said nu)))
    (c.in_err-nu.ensures.degrees sheet c.args.y is.standing is.groups is.gradient))

pub returns : goal.returns
returns g c =
    let sheet = c.args.sheet.now in
    let is = c.in_ok-one.ensures.ok in
    finds_one sheet c.args.y c.in_ok-one.one is (λ value dy. and_then (degrees_in sheet dy) (λ nu. Ok (Degrees c.args.y (said nu))))
    (Ok (Degrees c.args.y c.said.result))
    (finds_on (Ok (Degrees c.args.y c.said.result)) (degrees_in sheet (gradient_by sheet c.args.y)) c.in_ok-nu.nu (λ nu. Ok (Degrees c.args.y (said nu)))
    (c.in_ok-nu.ensures.degrees sheet c.args.y is.standing is.groups is.gradient) (ap (λ s. Ok (Degrees c.args.y s)) (sym c.said.ensures.value)))
