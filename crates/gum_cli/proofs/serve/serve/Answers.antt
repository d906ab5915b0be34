use Rattle.std.specs.Result.{result_ok}
use Rattle.gum_cli.proofs.serve.serve.Goals as goal

pub returns-in-Change-clause-step : goal.returns-in-Change-clause-step
returns-in-Change-clause-step g c = rw c.in-Change.is (c.edit.ensures (result_ok c.answer_edit.result) c.answer_edit.ensures.reply)
