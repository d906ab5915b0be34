use Rattle.std.proofs.Common.{refl}
use Rattle.script_lines.specs.Blocks.{opens_block, ends_block}
use Rattle.script_lines.proofs.worked.worked_blocks.Goals as goal

pub returns-clause-table : goal.returns-clause-table
unfolding opens_block ends_block
returns-clause-table c = refl

pub returns-clause-set : goal.returns-clause-set
unfolding opens_block ends_block
returns-clause-set c = refl

pub returns-clause-none : goal.returns-clause-none
unfolding opens_block ends_block
returns-clause-none c = refl

pub returns-clause-no_set : goal.returns-clause-no_set
unfolding opens_block ends_block
returns-clause-no_set c = refl

pub returns-clause-padded : goal.returns-clause-padded
unfolding opens_block ends_block
returns-clause-padded c = refl

pub returns-clause-no_comment : goal.returns-clause-no_comment
unfolding opens_block ends_block
returns-clause-no_comment c = refl

pub returns-clause-no_end : goal.returns-clause-no_end
unfolding opens_block ends_block
returns-clause-no_end c = refl

pub returns-clause-quoted : goal.returns-clause-quoted
unfolding opens_block ends_block
returns-clause-quoted c = refl

pub returns-clause-inner : goal.returns-clause-inner
unfolding opens_block ends_block
returns-clause-inner c = refl

pub returns-clause-last : goal.returns-clause-last
unfolding opens_block ends_block
returns-clause-last c = refl

pub returns-clause-last_return : goal.returns-clause-last_return
unfolding opens_block ends_block
returns-clause-last_return c = refl

pub returns-clause-unclosed_head : goal.returns-clause-unclosed_head
unfolding opens_block ends_block
returns-clause-unclosed_head c = refl

pub returns-clause-unclosed : goal.returns-clause-unclosed
unfolding opens_block ends_block
returns-clause-unclosed c = refl

pub returns-clause-unclosed_lines : goal.returns-clause-unclosed_lines
unfolding opens_block ends_block
returns-clause-unclosed_lines c = refl

pub returns-clause-whole : goal.returns-clause-whole
unfolding opens_block ends_block
returns-clause-whole c = refl

pub returns-clause-whole_left : goal.returns-clause-whole_left
unfolding opens_block ends_block
returns-clause-whole_left c = refl
