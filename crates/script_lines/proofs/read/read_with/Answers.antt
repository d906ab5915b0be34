use Rattle.std.proofs.Common.{◌≡◌, ℕ, List, length, Result, Err, sym, ◌∙◌, ap, rules}
use Rattle.line_text.specs.Words.{words_left}
use Rattle.answers.specs.declared.command.Query.{Query}
use Rattle.answers.specs.declared.fault.LineFault.{LineFault}
use Rattle.answers.specs.declared.fault.LineFault.TheVariants.{OutOfMemory}
use Rattle.script_lines.specs.Parts.{Read}
use Rattle.script_lines.proofs.NoMemory.{query_at_never}
use Rattle.script_lines.proofs.read.read_with.Goals as goal

one_fault : {A : Type 0} (r : Result A LineFault) (f g : LineFault) → r ≡ Err f → r ≡ Err g → f ≡ g
one_fault r f g e h = cc

-- the reading of a query to a mark's sheet takes no memory
pub returns-in_err-name-in-At-clause-memory : goal.returns-in_err-name-in-At-clause-memory
returns-in_err-name-in-At-clause-memory c = λ memory.
    let fault = c.in_err-name-in-At.field-0.0 in
    let same : c.from_residual-in_err-name-in-At.result ≡ Err fault = search rules in
    let out : fault ≡ OutOfMemory = one_fault c.from_residual-in_err-name-in-At.result fault OutOfMemory same memory in
    absurd (query_at_never (length c.args.words.line) (words_left c.args.words)
    (sym c.in_err-name-in-At.ensures ∙ ap (λ f. let r : Read (List ℕ × Query) = Err f in r) out))
