-- Printed formulas are the whole of their written part.
use Rattle.std.proofs.lemmas.Bool.{and_from}
use Rattle.std.proofs.Common.{◌≡◌, ℕ, suc, ◌<◌, Bool, true, false, cond, nat_lt, List, [], ◌∷◌, ◌++◌, length, refl, ◌∙◌, arith}
use Rattle.std.specs.Prelude.{codes, unsigned_abs, ◌^◌}
use Rattle.std.specs.List.{list_all}
use Rattle.std.proofs.lemmas.List.Folds.{list_all-append}
use Rattle.decimal18.specs.Text.{text_of}
use Rattle.formula_ast.specs.Names.{is_name}
use Rattle.formula_ast.specs.Trees.{Tree, Number, Variable, Opposite, Joined, Raised}
use Rattle.formula_ast.specs.Grammar.{tight}
use Rattle.formula_ast.specs.Printing.{binding, symbol, guarded, exponent_text, print}
use Rattle.formula_ast.specs.declared.token.Sign.{Sign}
use Rattle.formula_ast.specs.declared.token.Sign.TheVariants.{Plus, Minus, Times, Over}
use Rattle.formula_ast.proofs.PrintedTokens.{IsRegular}
use Rattle.line_text.specs.Words.{is_no_hash}
use Rattle.line_text.proofs.WrittenTexts.{IsSolid, solid_after, solid_word}
use Rattle.row_text.proofs.PlainBytes.{ArePlain, all_in_word, all_no_hash, runs_plain, text_plain, text_some, exponent_plain, exponent_some}

pub plain_solid : (text : List ℕ) → ArePlain text → 0 < length text → IsSolid text
plain_solid text all some = solid_word text (all_no_hash text all) (all_in_word text all) some

-- ---- formulas
guarded_solid : (t : Bool) (text : List ℕ) → IsSolid text → IsSolid (cond t (codes "(" ++ text ++ codes ")") text)
guarded_solid false text h = h
guarded_solid true text h =
    solid_after (codes "(" ++ text) (codes ")") (list_all-append is_no_hash (codes "(") text ∙ h.no_hash) (record { no_hash = refl; ends = refl; some = omega arith })

guard_solid : (least : ℕ) (f : Tree) (text : List ℕ) → IsSolid text → IsSolid (guarded least f text)
guard_solid least f text h = guarded_solid (nat_lt (binding f) least) text h

symbol_no_hash : (s : Sign) → list_all is_no_hash (symbol s) ≡ true
symbol_no_hash Plus = refl
symbol_no_hash Minus = refl
symbol_no_hash Times = refl
symbol_no_hash Over = refl

pub named_some : (text : List ℕ) → is_name text ≡ true → 0 < length text
named_some [] h = let no : false ≡ true = h in absurd (cc)
named_some (byte ∷ bytes) h = omega arith

no_hash_append : (xs ys : List ℕ) → list_all is_no_hash xs ≡ true → list_all is_no_hash ys ≡ true → list_all is_no_hash (xs ++ ys) ≡ true
no_hash_append xs ys h k = list_all-append is_no_hash xs ys ∙ and_from _ _ h k

pub print_solid : (f : Tree) → IsRegular f → IsSolid (print f)
print_solid (Number q) h = plain_solid (text_of q) (text_plain q h.bound) (text_some q h.bound)
print_solid (Variable n) h = plain_solid n (runs_plain n h.token.run) (named_some n h.token.named)
print_solid (Opposite a) h = solid_after (codes "-") (guarded 2 a (print a)) refl (guard_solid 2 a (print a) (print_solid a h))
print_solid (Joined s a b) h =
    solid_after (guarded (tight s) a (print a) ++ symbol s) (guarded (suc (tight s)) b (print b))
    (no_hash_append (guarded (tight s) a (print a)) (symbol s)
    (guard_solid (tight s) a (print a) (print_solid a h.0)).no_hash (symbol_no_hash s))
    (guard_solid (suc (tight s)) b (print b) (print_solid b h.1))
print_solid (Raised a k) h =
    let small : unsigned_abs k < 2 ^ 64 = omega (arith, h.1.1) in
    solid_after (guarded 4 a (print a) ++ codes "^") (exponent_text k)
    (no_hash_append (guarded 4 a (print a)) (codes "^") (guard_solid 4 a (print a) (print_solid a h.0)).no_hash refl)
    (plain_solid (exponent_text k) (exponent_plain k small) (exponent_some k small))
