use Rattle.formula_ast.proofs.Stages.{goes_on_by_stages, no_stage_no_text}
use Rattle.formula_ast.proofs.laws.stages_are_the_prefixes_of_the_grammar.Goals as goal

pub returns-clause-pass : goal.returns-clause-pass
returns-clause-pass c = goes_on_by_stages

pub returns-clause-stop : goal.returns-clause-stop
returns-clause-stop c = no_stage_no_text
