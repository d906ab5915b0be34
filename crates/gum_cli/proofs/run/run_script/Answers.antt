use Rattle.std.proofs.Common.{rules}
use Rattle.script_lines.specs.Items.{items_of}
use Rattle.gum_cli.proofs.run.run_script.Goals as goal

pub returns-in-Ok-write_all-clause-done : goal.returns-in-Ok-write_all-clause-done
returns-in-Ok-write_all-clause-done g c =
    λ _. record {
      script = c.in-Ok.script.items;
      took = c.in-Ok.ensures.whole;
      short = c.in-Ok.ensures.short;
      met_end = search rules;
      none_left = search rules;
      wrote = search rules;
      sound = c.replies_are_sound.ensures (items_of c.in-Ok.script.items);
    }
