use Rattle.std.proofs.Common.{rules, ◌≡◌, ◌≤◌, ◌++◌, ◌∷◌, length, ◌∙◌, ap}
use Rattle.row_text.proofs.JoinedTexts.{texts_put}
use Rattle.row_text.proofs.print_table.put_names.Goals as goal

pub returns : goal.returns
returns c =
    let first = c.in-Some.first.now in
    let others = c.in-Some.others.now in
    let all : c.args.names.now ≡ first ∷ others = search rules in
    let past : length others ≤ c.loop-name.name-index = search rules in
    texts_put c.args.out.now c.extend_from_slice.new.self c.loop-name.out first others c.args.names.now c.loop-name.name-index all
    (c.in_ok-extend_from_slice.ensures.ok ∙ ap (λ t. c.args.out.now ++ t) c.as_bytes.ensures.text) past c.loop-name.invariant
