use Rattle.std.proofs.Common.{◌≡◌, ◌++◌, map, drop}
use Rattle.sheet_model.specs.Numbering.{number_in}
use Rattle.sheet_model.proofs.numbering.Numbered.numbers.Given as goal

abbrev pub invariant-loop-name : goal.invariant-loop-name
invariant-loop-name l =
    l.ids ++ map (number_in l.self.names.keys) (drop l.name-index l.name-items) ≡ map (number_in l.self.names.keys) l.fn.names
