-- What a text is read as is never out of memory.
use Rattle.std.proofs.Common.{◌≢◌, ℕ, ◌+◌, List, [], ◌∷◌, Option, None, Some, Result, Err}
use Rattle.std.specs.Prelude.{IfSome}
use Rattle.formula_ast.specs.Trees.{Tree}
use Rattle.formula_ast.specs.Tokens.{Token, tokens}
use Rattle.formula_ast.specs.Machine.{Stage, first_stage, trees, step, finish}
use Rattle.formula_ast.specs.Reading.{refusal, syntax_place, opens_next, at_end, goes_on, node_count, reading, reading_of}
use Rattle.formula_ast.specs.declared.fault.FormulaFault.{FormulaFault}
use Rattle.formula_ast.specs.declared.fault.FormulaFault.TheVariants.{OutOfMemory}
use Rattle.formula_ast.proofs.Complete.{IsRuled, refusal_ruled, not_refused}

end_memory : (f : Option Tree) (end : ℕ) → at_end f end ≢ Err OutOfMemory
end_memory None end e = cc
end_memory (Some f) end e = cc

goes_on_memory : (s : Option (Stage Tree)) (place : ℕ) (refused : Option FormulaFault) (next : Stage Tree → Result Tree FormulaFault)
    → IfSome refused IsRuled → ((x : Stage Tree) → next x ≢ Err OutOfMemory) → goes_on s place refused next ≢ Err OutOfMemory
goes_on_memory None place refused next h k e = cc
goes_on_memory (Some s) place refused next h k e = k s (not_refused refused OutOfMemory (next s) h (λ ruled. ruled) e)

reading_memory : (s : Stage Tree) (nodes end : ℕ) (ts : List Token) → reading s nodes end ts ≢ Err OutOfMemory
reading_memory s nodes end [] = end_memory (finish trees s) end
reading_memory s nodes end (t ∷ ts) =
    goes_on_memory (step trees s t.kind) (syntax_place s t.place t.len t.kind) (refusal s nodes t.place t.kind (opens_next ts)) _
    (refusal_ruled s nodes t.place t.kind (opens_next ts))
    (λ next. reading_memory next (nodes + node_count s t.kind) (t.place + t.len) ts)

pub never_memory : (text : List ℕ) → reading_of text ≢ Err OutOfMemory
unfolding reading_of
never_memory text = reading_memory first_stage 0 0 (tokens text 0 0)
