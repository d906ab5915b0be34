use Rattle.edit_session.proofs.GroupDegrees.{groups_found}
use Rattle.edit_session.proofs.asked.Asked.groups.Goals as goal

pub returns : goal.returns
returns c = groups_found c.args.self.now.sheet.now c.requires.standing _ c.rows.ensures.rows c.groups.result c.groups.ensures.groups c.groups.ensures.regular
