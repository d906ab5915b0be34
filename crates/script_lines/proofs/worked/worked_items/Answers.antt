use Rattle.std.proofs.Common.{refl}
use Rattle.script_lines.specs.Blocks.{opens_block, ends_block}
use Rattle.script_lines.proofs.worked.worked_items.Goals as goal

pub returns-clause-none : goal.returns-clause-none
unfolding opens_block ends_block
returns-clause-none c = refl

pub returns-clause-empty_line : goal.returns-clause-empty_line
unfolding opens_block ends_block
returns-clause-empty_line c = refl

pub returns-clause-last : goal.returns-clause-last
unfolding opens_block ends_block
returns-clause-last c = refl

pub returns-clause-whole : goal.returns-clause-whole
unfolding opens_block ends_block
returns-clause-whole c = refl

pub returns-clause-no_last : goal.returns-clause-no_last
unfolding opens_block ends_block
returns-clause-no_last c = refl

pub returns-clause-returned : goal.returns-clause-returned
unfolding opens_block ends_block
returns-clause-returned c = refl

pub returns-clause-two_returns : goal.returns-clause-two_returns
unfolding opens_block ends_block
returns-clause-two_returns c = refl

pub returns-clause-last_return : goal.returns-clause-last_return
unfolding opens_block ends_block
returns-clause-last_return c = refl

pub returns-clause-inner_return : goal.returns-clause-inner_return
unfolding opens_block ends_block
returns-clause-inner_return c = refl
