use Rattle.std.proofs.Common.{◌∙◌, sym, ap, ap₂, Some}
use Rattle.std.specs.Option.{option_map}
use Rattle.program_words.specs.Views.{as_options}
use Rattle.clap.specs.Words.{found_of}
use Rattle.program_words.proofs.Found.{both, read, read_none}
use Rattle.program_words.proofs.read.options_found.Goals as goal

pub returns-in_err-rows : goal.returns-in_err-rows
returns-in_err-rows c =
    ap (λ o. option_map as_options o) c.from_residual-in_err-rows.ensures
    ∙ sym (read_none _ (found_of c.in_ok-found.found.now) c.in_ok-found.ensures.rows c.in_err-rows.ensures)

pub returns-in_err-start : goal.returns-in_err-start
returns-in_err-start c =
    ap (λ o. option_map as_options o) c.from_residual-in_err-start.ensures
    ∙ sym (read _ (found_of c.in_ok-found.found.now) _ _ c.in_ok-found.ensures.rows c.in_ok-rows.ensures c.in_err-start.ensures)

pub returns : goal.returns
returns c =
    ap₂ (λ n s. both (Some n) (Some s)) c.as_bytes.ensures.value c.as_bytes-2.ensures.value
    ∙ sym (read _ (found_of c.in_ok-found.found.now) _ _ c.in_ok-found.ensures.rows c.in_ok-rows.ensures c.in_ok-start.ensures)
