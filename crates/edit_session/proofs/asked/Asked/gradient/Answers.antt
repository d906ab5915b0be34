use Rattle.std.proofs.Common.{sym, ◌∙◌, ap}
use Rattle.value_cache.specs.Slots.{cells_of}
use Rattle.sheet_model.specs.Quantities.{quantities}
use Rattle.sheet_model.specs.Numbering.{number_in}
use Rattle.sheet_model.proofs.KeptSheet.{kept_still, evaluation_still}
use Rattle.edit_session.proofs.Gradients.{number_asked, id_asked, gradient_found, fault_numbered, gradient_stops}
use Rattle.edit_session.proofs.asked.Asked.gradient.Goals as goal

pub number-id-requires : goal.number-id-requires
number-id-requires g c = number_asked c.args.self.now.sheet.now c.requires.asked.standing c.args.self.now.numbered c.requires.asked.kept c.args.y.now c.requires.there

pub cell-requires-clause-there : goal.cell-requires-clause-there
cell-requires-clause-there g c =
    id_asked c.args.self.now.sheet.now c.requires.asked.standing c.args.self.now.numbered c.requires.asked.kept c.args.y.now c.requires.there
    c.number-id.result c.number-id.ensures

pub stop-requires : goal.stop-requires
stop-requires g c =
    let sheet = c.args.self.now.sheet.now in
    let kept = kept_still (quantities sheet) (quantities sheet) c.args.self.now.numbered c.cell.new.self c.cell.ensures.names c.cell.ensures.graph
    c.cell.ensures.bodies c.requires.asked.kept in
    fault_numbered sheet c.requires.asked.standing c.cell.new.self kept c.args.y.now c.requires.there
    c.number-id.result (c.number-id.ensures ∙ ap (λ ns. number_in ns.keys c.args.y.now) (sym c.cell.ensures.names))
    c.in-Err.fault (cells_of c.cell.new.self.cache c.number-id.result) c.in_ok-_cell._cell c.in_ok-_cell.ensures.cell
    (evaluation_still c.args.self.now.numbered c.cell.new.self c.number-id.result c.in_ok-_cell._cell c.cell.ensures.graph c.cell.ensures.bodies c.in_ok-_cell.ensures.evaluation)
    c.in-Err.ensures.value

pub returns-in-Ok-clause-gradient : goal.returns-in-Ok-clause-gradient
returns-in-Ok-clause-gradient g c =
    let sheet = c.args.self.now.sheet.now in
    let kept = kept_still (quantities sheet) (quantities sheet) c.args.self.now.numbered c.cell.new.self c.cell.ensures.names c.cell.ensures.graph
    c.cell.ensures.bodies c.requires.asked.kept in
    gradient_found sheet c.requires.asked.standing c.cell.new.self kept c.args.y.now c.requires.there
    c.number-id.result (c.number-id.ensures ∙ ap (λ ns. number_in ns.keys c.args.y.now) (sym c.cell.ensures.names))
    c.in-Ok.found c.in-Ok.ensures.ok c.in-Ok.ensures.whole

pub returns-in-Err-clause-stop : goal.returns-in-Err-clause-stop
returns-in-Err-clause-stop g c =
    let sheet = c.args.self.now.sheet.now in
    let kept = kept_still (quantities sheet) (quantities sheet) c.args.self.now.numbered c.cell.new.self c.cell.ensures.names c.cell.ensures.graph
    c.cell.ensures.bodies c.requires.asked.kept in
    gradient_stops sheet c.requires.asked.standing c.cell.new.self kept c.args.y.now c.requires.there
    c.number-id.result (c.number-id.ensures ∙ ap (λ ns. number_in ns.keys c.args.y.now) (sym c.cell.ensures.names))
    c.in-Err.fault (cells_of c.cell.new.self.cache c.number-id.result) c.in_ok-_cell._cell c.in_ok-_cell.ensures.cell
    (evaluation_still c.args.self.now.numbered c.cell.new.self c.number-id.result c.in_ok-_cell._cell c.cell.ensures.graph c.cell.ensures.bodies c.in_ok-_cell.ensures.evaluation)
    c.in-Err.ensures.value c.in-Err.ensures.law c.stop.result c.stop.ensures
