use Rattle.std.proofs.Common.{◌<◌, length, slice_get, Some, sym, ◌∙◌, ap, subst}
use Rattle.edit_session.proofs.Gradients.{number_asked, id_asked, value_found, row_within, fault_found}
use Rattle.edit_session.proofs.asked.Asked.value.Goals as goal

pub number-id-requires : goal.number-id-requires
number-id-requires g c = number_asked c.args.self.now.sheet.now c.requires.asked.standing c.args.self.now.numbered c.requires.asked.kept c.args.y.now c.requires.there

pub cell-requires-clause-there : goal.cell-requires-clause-there
cell-requires-clause-there g c =
    id_asked c.args.self.now.sheet.now c.requires.asked.standing c.args.self.now.numbered c.requires.asked.kept c.args.y.now c.requires.there
    c.number-id.result c.number-id.ensures

pub name-requires : goal.name-requires
name-requires g c =
    subst (λ ns. c.in-Fault.row < length ns.keys) (sym c.cell.ensures.names)
    (row_within c.args.self.now.sheet.now c.requires.asked.standing c.args.self.now.numbered c.requires.asked.kept c.args.y.now c.requires.there
    c.number-id.result c.number-id.ensures c.in-Fault.fault c.in-Fault.row (c.in_ok-span.ensures.evaluation ∙ ap Some c.in-Fault.is))

pub returns-in-Enclosed-clause-value : goal.returns-in-Enclosed-clause-value
returns-in-Enclosed-clause-value g c =
    value_found c.args.self.now.sheet.now c.requires.asked.standing c.args.self.now.numbered c.requires.asked.kept c.args.y.now c.requires.there
    c.number-id.result c.number-id.ensures c.in-Enclosed.span (c.in_ok-span.ensures.evaluation ∙ ap Some c.in-Enclosed.is)

pub returns-in-Fault-clause-value : goal.returns-in-Fault-clause-value
returns-in-Fault-clause-value g c =
    fault_found c.args.self.now.sheet.now c.requires.asked.standing c.args.self.now.numbered c.requires.asked.kept c.args.y.now c.requires.there
    c.number-id.result c.number-id.ensures c.in-Fault.fault c.in-Fault.row c.name.result (c.in_ok-span.ensures.evaluation ∙ ap Some c.in-Fault.is)
    (ap (λ ns. slice_get ns.keys c.in-Fault.row) (sym c.cell.ensures.names) ∙ c.name.ensures)
