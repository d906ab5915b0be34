use Rattle.sheet_model.proofs.Parted.{parted, regular_groups, sound_groups}
use Rattle.sheet_model.proofs.SheetGroups.{sheet_groups}
use Rattle.sheet_model.proofs.laws.groups_part_the_inputs.Goals as goal

pub returns-clause-parted : goal.returns-clause-parted
returns-clause-parted c = λ sheet h. parted sheet h

pub returns-clause-regular : goal.returns-clause-regular
returns-clause-regular c = λ sheet h. regular_groups sheet h

pub returns-clause-sound : goal.returns-clause-sound
returns-clause-sound c = λ sheet h. sound_groups sheet h

pub returns-clause-of_model : goal.returns-clause-of_model
returns-clause-of_model c = λ sheet h. sheet_groups sheet h
