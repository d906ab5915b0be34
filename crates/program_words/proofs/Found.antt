-- What is read of the matches of a subcommand.
use Rattle.std.proofs.Common.{◌≡◌, ◌∙◌, sym, ap, ap₂, List, Option, Some, None, codes}
use Rattle.std.specs.Option.{option_map, option_and_then}
use Rattle.clap.specs.Words.{Row, Text, first_value, rows_of}
use Rattle.clap.specs.declared.parser.matches.Found.{Found}
use Rattle.clap.proofs.WalkLemmas.{first_value-rows}
use Rattle.program_words.specs.Words.{Options}
use Rattle.program_words.specs.Grammar.{options_in, options_found}

some_same : {A : Type 0} {x y : A} → Some x ≡ Some y → x ≡ y
some_same h = cc

rows_found : (o : Option (Text × List Row)) (rows : List Row) → Some rows ≡ option_map (λ p. p.1) o → options_found o ≡ options_in rows
rows_found None rows h = cc
rows_found (Some p) rows h = ap options_in (some_same (sym h))

abbrev pub both : Option Text → Option Text → Option Options
both n s = option_and_then (λ rows. option_map (λ start. record { rows = rows; start = start }) s) n

-- both are those that the matches give
pub read : (o : Option (Text × List Row)) (f : Found) (n s : Option Text) → Some (rows_of f) ≡ option_map (λ p. p.1) o
    → n ≡ first_value f (codes "rows") → s ≡ first_value f (codes "start") → options_found o ≡ both n s
read o f n s h k m =
    rows_found o (rows_of f) h
    ∙ ap₂ both (sym (first_value-rows f (codes "rows")) ∙ sym k) (sym (first_value-rows f (codes "start")) ∙ sym m)

-- there is no number of rows
pub read_none : (o : Option (Text × List Row)) (f : Found) → Some (rows_of f) ≡ option_map (λ p. p.1) o
    → None ≡ first_value f (codes "rows") → options_found o ≡ None
read_none o f h k = read o f None (first_value f (codes "start")) h k (λ i. first_value f (codes "start"))
