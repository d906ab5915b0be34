use Rattle.std.proofs.Common.{◌≡◌, true, false, sym, subst, rules}
use Rattle.std.specs.Prelude.{bytes_eq, codes}
use Rattle.line_text.specs.Memory.{GivesBy}
use Rattle.answers.specs.Commands.{command_of}
use Rattle.answers.specs.declared.fault.LineFault.TheVariants.{OutOfMemory}
use Rattle.script_lines.proofs.BlockAnswers.{block_blank, block_sets, block_adds}
use Rattle.script_lines.proofs.read_block.read_block.Goals as goal

pub returns-in_default-clause-exact : goal.returns-in_default-clause-exact
returns-in_default-clause-exact c =
    subst (GivesBy command_of OutOfMemory c.added_table.result)
    (sym (block_blank c.args.head.now _ c.args.body.now _ c.written_part-text.ensures c.from-words.ensures c.in_default.ensures.steps.1))
    c.added_table.ensures.exact

pub returns-then-eq-clause-exact : goal.returns-then-eq-clause-exact
returns-then-eq-clause-exact c =
    let set : bytes_eq c.in-Some.first.text.now (codes "set") ≡ true = search rules in
    subst (GivesBy command_of OutOfMemory c.set_table.result)
    (sym (block_sets c.args.head.now _ c.args.body.now _ _ _ c.written_part-text.ensures c.from-words.ensures c.in-Some.ensures.steps set))
    c.set_table.ensures.exact

pub returns-clause-exact : goal.returns-clause-exact
returns-clause-exact c =
    let other : bytes_eq c.in-Some.first.text.now (codes "set") ≡ false = search rules in
    subst (GivesBy command_of OutOfMemory c.added_table-2.result)
    (sym (block_adds c.args.head.now _ c.args.body.now _ _ _ c.written_part-text.ensures c.from-words.ensures c.in-Some.ensures.steps other))
    c.added_table-2.ensures.exact
