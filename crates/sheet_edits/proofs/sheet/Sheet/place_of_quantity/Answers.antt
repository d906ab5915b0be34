use Rattle.std.proofs.Common.{◌≡◌, ◌∷◌, [], sym, ap, ◌∙◌}
use Rattle.sheet_rows.specs.Rows.{row_part}
use Rattle.sheet_rows.proofs.Parts.{row_part-first, row_part-whole}
use Rattle.sheet_edits.specs.Places.{place_of}
use Rattle.sheet_edits.proofs.Mentions.{no_rest}
use Rattle.sheet_edits.proofs.Verdicts.{plain_place, no_plain_place}
use Rattle.sheet_edits.proofs.sheet.Sheet.place_of_quantity.Goals as goal

pub returns-then-is_none : goal.returns-then-is_none
returns-then-is_none c =
    let sheet = c.args.self.now in
    let parts = c.cut.ensures.parts ∙ ap (λ ps. c.cut.result.0.now ∷ ps) (no_rest _ c.cut.result.1 c.if-is_none.ensures) in
    let same : row_part c.as_bytes.result.now ≡ c.as_bytes.result.now = row_part-first c.as_bytes.result.now c.cut.result.0.now [] parts ∙ row_part-whole c.as_bytes.result.now c.cut.result.0.now parts in
    c.place_of.ensures ∙ ap (place_of sheet) (sym c.as_bytes.ensures.text ∙ sym same ∙ ap row_part c.as_bytes.ensures.text)

pub returns-in-Some : goal.returns-in-Some
returns-in-Some c =
    let sheet = c.args.self.now in
    let part = ap row_part (sym c.as_bytes.ensures.text) ∙ row_part-first c.as_bytes.result.now c.cut.result.0.now _ c.cut.ensures.parts in
    c.place_of-in-Some.ensures ∙ ap (place_of sheet) (plain_place _ _ _ c.plain.ensures c.in-Some.is ∙ sym part)

pub returns-in-None : goal.returns-in-None
returns-in-None c =
    let sheet = c.args.self.now in
    let part = ap row_part (sym c.as_bytes.ensures.text) ∙ row_part-first c.as_bytes.result.now c.cut.result.0.now _ c.cut.ensures.parts in
    no_plain_place sheet c.cut.result.0.now c.plain.result c.rows-rows.ensures.standing.regular c.plain.ensures c.in-None.is ∙ ap (place_of sheet) (sym part)
