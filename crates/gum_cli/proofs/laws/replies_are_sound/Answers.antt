use Rattle.gum_cli.proofs.Sound.{sound_from}
use Rattle.edit_session.specs.Machine.{initial}
use Rattle.gum_cli.proofs.laws.replies_are_sound.Goals as goal

pub returns : goal.returns
returns c = λ items.
    sound_from c.every_reply_is_sound.ensures.of_commands c.sheets_keep_standing.ensures.step c.commands_are_regular.ensures items initial
    c.sheets_keep_standing.ensures.initial
