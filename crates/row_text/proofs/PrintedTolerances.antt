-- The printed text of a rule of conformity is read as the rule again.
use Rattle.std.proofs.Common.{◌≡◌, ℕ, ◌+◌, Bool, true, ◌||◌, List, [], ◌∷◌, ◌++◌, length, refl, sym, ◌∙◌, ap, arith, append_assoc, Option, None, Some, Ok}
use Rattle.std.specs.Prelude.{codes, is_some, IfSome}
use mathlib.Core.List.{append-nil}
use Rattle.decimal18.specs.Bound.{Bound, IsDecimal}
use Rattle.decimal18.specs.Text.{text_of}
use Rattle.decimal18.proofs.TextAgain.{read_again as bound_again}
use Rattle.formula_ast.specs.Names.{is_plain_name}
use Rattle.guard_band.specs.declared.rule.Form.{Form}
use Rattle.guard_band.specs.declared.rule.Form.TheVariants.{Binary, Four}
use Rattle.guard_band.specs.declared.rule.Rule.{Rule}
use Rattle.line_text.specs.Words.{Word}
use Rattle.line_text.proofs.WrittenTexts.{IsSolid}
use Rattle.sheet_rows.specs.Rows.{Tolerance}
use Rattle.sheet_rows.specs.Regular.{IsRegular, is_guard, are_ordered}
use Rattle.row_text.specs.Parts.{then_read, number_in}
use Rattle.row_text.specs.Tolerances.{limit_word, guard_word, form_word, tolerance_of}
use Rattle.row_text.specs.Reading.{row_at, row_from}
use Rattle.row_text.specs.Printing.{limit_text, form_text, printed}
use Rattle.row_text.proofs.PlainBytes.{names_plain, name_some}
use Rattle.row_text.proofs.PartedWords.{spaced, placed, past, IsWord, AreWords, words-append, spaced-append, words_again, spaced_solid}
use Rattle.row_text.proofs.PrintedGivens.{number_is_word}

-- ---- the words of a rule
abbrev limit_words : List ℕ → Option Bound → List (List ℕ)
limit_words keyword None = []
limit_words keyword (Some limit) = keyword ∷ text_of limit ∷ []

abbrev form_words : Form → List (List ℕ)
form_words Binary = []
form_words Four = codes "four" ∷ []

abbrev guard_words : Bound → Form → List (List ℕ)
guard_words guard form = codes "guard" ∷ text_of guard ∷ form_words form

abbrev upper_words : Option Bound → Bound → Form → List (List ℕ)
upper_words upper guard form = limit_words (codes "upper") upper ++ guard_words guard form

abbrev rule_words : Rule → List (List ℕ)
rule_words rule = limit_words (codes "lower") rule.lower ++ upper_words rule.upper rule.guard rule.form

abbrev pub tolerance_line : List ℕ → Rule → List ℕ
tolerance_line name rule = codes "tol" ++ spaced (name ∷ rule_words rule)

-- ---- they are words
limit_are_words : (keyword : List ℕ) (o : Option Bound) → IsWord keyword → IfSome o IsDecimal → AreWords (limit_words keyword o)
limit_are_words keyword None word h = tt
limit_are_words keyword (Some limit) word h = (word, (number_is_word limit h, tt))

form_are_words : (form : Form) → AreWords (form_words form)
form_are_words Binary = tt
form_are_words Four = (record { plain = refl; some = omega arith }, tt)

tolerance_are_words : (name : List ℕ) (rule : Rule) → IsRegular (Tolerance name rule) → AreWords (codes "tol" ∷ name ∷ rule_words rule)
tolerance_are_words name rule h =
    let lower : IsWord (codes "lower") = record { plain = refl; some = omega arith } in
    let upper : IsWord (codes "upper") = record { plain = refl; some = omega arith } in
    let guard : IsWord (codes "guard") = record { plain = refl; some = omega arith } in
    let last : AreWords (guard_words rule.guard rule.form) = (guard, (number_is_word rule.guard h.1.2, form_are_words rule.form)) in
    let above : AreWords (upper_words rule.upper rule.guard rule.form) = words-append (limit_words (codes "upper") rule.upper)
    (guard_words rule.guard rule.form) (limit_are_words (codes "upper") rule.upper upper h.1.1) last in (
      record { plain = refl; some = omega arith },
      (
        record { plain = names_plain name h.0; some = name_some name h.0 },
        words-append (limit_words (codes "lower") rule.lower) (upper_words rule.upper rule.guard rule.form)
            (limit_are_words (codes "lower") rule.lower lower h.1.0) above,
      ),
    )

pub tolerance_solid : (name : List ℕ) (rule : Rule) → IsRegular (Tolerance name rule) → IsSolid (tolerance_line name rule)
tolerance_solid name rule h = spaced_solid (codes "tol") (name ∷ rule_words rule) (tolerance_are_words name rule h)

-- ---- the text
lower_spaced : (o : Option Bound) → spaced (limit_words (codes "lower") o) ≡ limit_text (codes " lower ") o
lower_spaced None = refl
lower_spaced (Some limit) = ap (λ t. codes " lower " ++ t) (append-nil (text_of limit))

upper_spaced : (o : Option Bound) → spaced (limit_words (codes "upper") o) ≡ limit_text (codes " upper ") o
upper_spaced None = refl
upper_spaced (Some limit) = ap (λ t. codes " upper " ++ t) (append-nil (text_of limit))

form_spaced : (form : Form) → spaced (form_words form) ≡ form_text form
form_spaced Binary = refl
form_spaced Four = refl

rule_spaced : (rule : Rule) → spaced (rule_words rule)
    ≡ limit_text (codes " lower ") rule.lower ++ (limit_text (codes " upper ") rule.upper ++ (codes " guard " ++ (text_of rule.guard ++ form_text rule.form)))
rule_spaced rule =
    spaced-append (limit_words (codes "lower") rule.lower) (upper_words rule.upper rule.guard rule.form)
    ∙ (λ j. lower_spaced rule.lower j ++ (
    spaced-append (limit_words (codes "upper") rule.upper) (guard_words rule.guard rule.form)
    ∙ (λ k. upper_spaced rule.upper k ++ (codes " guard " ++ (text_of rule.guard ++ form_spaced rule.form k)))
    ) j)

pub tolerance_text : (name : List ℕ) (rule : Rule) → printed (Tolerance name rule) ≡ tolerance_line name rule
tolerance_text name rule =
    grouped name (limit_text (codes " lower ") rule.lower) (limit_text (codes " upper ") rule.upper) (text_of rule.guard) (form_text rule.form)
    ∙ ap (λ t. codes "tol " ++ (name ++ t)) (sym (rule_spaced rule)) where
      grouped : (a b c d e : List ℕ) → codes "tol " ++ a ++ (b ++ c ++ codes " guard " ++ d ++ e)
          ≡ codes "tol " ++ (a ++ (b ++ (c ++ (codes " guard " ++ (d ++ e)))))
      grouped a b c d e = simp append_assoc

-- ---- the words are read as what they were written for
lower_there : (end p q : ℕ) (a : Bound) (ws : List Word) → IsDecimal a →
    limit_word (codes "lower") end (record { place = p; text = codes "lower" } ∷ record { place = q; text = text_of a } ∷ ws)
    ≡ Ok (record { item = Some a; rest = ws })
lower_there end p q a ws h =
    ap (λ r. then_read (number_in (record { place = q; text = text_of a }) ws r) (λ x. Ok (record { item = Some x.item; rest = x.rest })))
    (bound_again a h.bound h.canonical)

upper_there : (end p q : ℕ) (a : Bound) (ws : List Word) → IsDecimal a →
    limit_word (codes "upper") end (record { place = p; text = codes "upper" } ∷ record { place = q; text = text_of a } ∷ ws)
    ≡ Ok (record { item = Some a; rest = ws })
upper_there end p q a ws h =
    ap (λ r. then_read (number_in (record { place = q; text = text_of a }) ws r) (λ x. Ok (record { item = Some x.item; rest = x.rest })))
    (bound_again a h.bound h.canonical)

lower_again : (lower upper : Option Bound) (guard : Bound) (form : Form) (end at : ℕ) → IfSome lower IsDecimal →
    limit_word (codes "lower") end (placed at (limit_words (codes "lower") lower ++ upper_words upper guard form))
    ≡ Ok (record { item = lower; rest = placed (past at (limit_words (codes "lower") lower)) (upper_words upper guard form) })
lower_again (Some a) upper guard form end at h = lower_there end at (at + length (codes "lower") + 1) a (placed (past at (limit_words (codes "lower") (Some a))) (upper_words upper guard form)) h
lower_again None (Some b) guard form end at h = refl
lower_again None None guard form end at h = refl

upper_again : (upper : Option Bound) (guard : Bound) (form : Form) (end at : ℕ) → IfSome upper IsDecimal →
    limit_word (codes "upper") end (placed at (upper_words upper guard form))
    ≡ Ok (record { item = upper; rest = placed (past at (limit_words (codes "upper") upper)) (guard_words guard form) })
upper_again (Some b) guard form end at h = upper_there end at (at + length (codes "upper") + 1) b (placed (past at (limit_words (codes "upper") (Some b))) (guard_words guard form)) h
upper_again None guard form end at h = refl

guard_there : (limited : Bool) (end p q : ℕ) (a : Bound) (ws : List Word) → limited ≡ true → IsDecimal a →
    guard_word limited end (record { place = p; text = codes "guard" } ∷ record { place = q; text = text_of a } ∷ ws)
    ≡ Ok (record { item = a; rest = ws })
guard_there limited end p q a ws e h =
    ap (λ t. guard_word t end (record { place = p; text = codes "guard" } ∷ record { place = q; text = text_of a } ∷ ws)) e
    ∙ ap (λ r. number_in (record { place = q; text = text_of a }) ws r) (bound_again a h.bound h.canonical)

form_again : (form : Form) (at : ℕ) → form_word (placed at (form_words form)) ≡ Ok (record { item = form; rest = [] })
form_again Binary at = refl
form_again Four at = refl

tolerance_again : (end p : ℕ) (name : List ℕ) (lower upper : Option Bound) (guard : Bound) (form : Form) (ws vs us ts : List Word) →
    is_plain_name name ≡ true → limit_word (codes "lower") end ws ≡ Ok (record { item = lower; rest = vs }) →
    limit_word (codes "upper") end vs ≡ Ok (record { item = upper; rest = us }) →
    guard_word (is_some lower || is_some upper) end us ≡ Ok (record { item = guard; rest = ts }) →
    form_word ts ≡ Ok (record { item = form; rest = [] }) → is_guard guard ≡ true → are_ordered lower upper ≡ true →
    tolerance_of end (record { place = p; text = name } ∷ ws)
    ≡ Ok (Tolerance name (record { lower = lower; upper = upper; guard = guard; form = form }))
tolerance_again end p name lower upper guard form ws vs us ts plain low high factor shape within order =
    rw (plain, low, high, factor, shape, within, order) refl

pub tolerance_row : (name : List ℕ) (rule : Rule) → IsRegular (Tolerance name rule) →
    row_from (tolerance_line name rule) 0 ≡ Ok (Tolerance name rule)
tolerance_row name rule h =
    let line : List ℕ = tolerance_line name rule in
    let at : ℕ = 4 + length name + 1 in
    let above : ℕ = past at (limit_words (codes "lower") rule.lower) in
    let last : ℕ = past above (limit_words (codes "upper") rule.upper) in
    let form_at : ℕ = last + length (codes "guard") + 1 + length (text_of rule.guard) + 1 in
    ap (λ ws. row_at line ws) (words_again (codes "tol") (name ∷ rule_words rule) 0 (tolerance_are_words name rule h))
    ∙ tolerance_again (length line) 4 name rule.lower rule.upper rule.guard rule.form
    (placed at (rule_words rule)) (placed above (upper_words rule.upper rule.guard rule.form))
    (placed last (guard_words rule.guard rule.form)) (placed form_at (form_words rule.form)) h.0
    (lower_again rule.lower rule.upper rule.guard rule.form (length line) at h.1.0)
    (upper_again rule.upper rule.guard rule.form (length line) above h.1.1)
    (guard_there (is_some rule.lower || is_some rule.upper) (length line) last (last + length (codes "guard") + 1) rule.guard
    (placed form_at (form_words rule.form)) h.2.limit h.1.2)
    (form_again rule.form form_at) h.2.guard h.2.order
