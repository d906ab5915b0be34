-- The place of a refusal as `Syntax`.
use Rattle.std.proofs.lemmas.Bool.{and_parts, and_from}
use Rattle.std.specs.Prelude.{◌≡◌, ℕ, zero, suc, ◌+◌, ◌-◌, ◌≤◌, ◌==◌, ◌&&◌, ◌||◌, Bool, true, false, cond, not, min, List, [], ◌∷◌, ◌++◌, length, take, drop, Option, None, Some, IfSome, Result, Err, refl}
use Rattle.std.proofs.Common.{sym, ap, subst, ◌∙◌, arith}
use Rattle.std.proofs.lemmas.Bool.Decides.{nat_tests}
use Rattle.std.specs.List.{list_all, prefix_len}
use Rattle.std.specs.Char.{is_ascii_digit}
use Rattle.decimal18.specs.Literal.{is_exponent_letter}
use Rattle.formula_ast.specs.Names.{begins_name}
use Rattle.formula_ast.specs.Trees.{Tree}
use Rattle.line_text.specs.Blanks.{is_blank, written_len}
use Rattle.formula_ast.specs.Tokens.{goes_on_run, with_point, point_len, sign_len, with_letter, exponent_len, literal_len, len_of, kind_of, Token, tokens, kinds, kinds_in}
use Rattle.formula_ast.specs.Grammar.{GoesOn}
use Rattle.formula_ast.specs.Machine.{trees, Stage, AtOperand, AtAtom, AtEnd, AtExponent, factor_done, first_stage, step, finish, then_some, stages}
use Rattle.formula_ast.specs.Reading.{at_end, goes_on, after_glued, syntax_place, refusal, opens_next, node_count, reading, reading_of}
use Rattle.formula_ast.specs.Rules.{IsFirstWrong}
use Rattle.formula_ast.specs.declared.fault.FormulaFault.{FormulaFault}
use Rattle.formula_ast.specs.declared.fault.FormulaFault.TheVariants.{Syntax}
use Rattle.formula_ast.specs.declared.token.Kind.{Kind}
use Rattle.formula_ast.specs.declared.token.Kind.TheVariants.{Number, Glued}
use Rattle.formula_ast.proofs.Complete.{IsRuled, refusal_ruled, not_refused}
use Rattle.formula_ast.proofs.Steps.{first_step}
use Rattle.formula_ast.proofs.Stages.{goes_on_by_stages, no_stage_no_text}

-- ---- no byte of a token is a blank
abbrev is_solid : ℕ → Bool
is_solid byte = not (is_blank byte)

record IsSolid (n : ℕ) (text : List ℕ) : Type 0 where
  within : n ≤ length text
  solid : list_all is_solid (take n text) ≡ true

no_bytes : (text : List ℕ) → IsSolid 0 text
no_bytes text = record { within = omega arith; solid = refl }

one_more : (n byte : ℕ) (bytes : List ℕ) → is_blank byte ≡ false → IsSolid n bytes → IsSolid (suc n) (byte ∷ bytes)
one_more n byte bytes b h = record {
  within = omega (arith, h.within);
  solid = and_from (is_solid byte) (list_all is_solid (take n bytes)) (ap not b) h.solid;
}

fewer : (text : List ℕ) (n k : ℕ) → k ≤ n → IsSolid n text → IsSolid k text
fewer text n zero less h = no_bytes text
fewer [] n (suc k) less h = absurd (omega (arith, h.within))
fewer (byte ∷ bytes) zero (suc k) less h = absurd (omega arith)
fewer (byte ∷ bytes) (suc n) (suc k) less h =
    let parts = and_parts (is_solid byte) (list_all is_solid (take n bytes)) h.solid in
    let rest = fewer bytes n k (omega arith) (record { within = omega (arith, h.within); solid = parts.1 }) in
    record { within = omega (arith, rest.within); solid = and_from (is_solid byte) (list_all is_solid (take k bytes)) parts.0 rest.solid }

then_more : (text : List ℕ) (n k : ℕ) → IsSolid n text → IsSolid k (drop n text) → IsSolid (n + k) text
then_more text zero k h g = subst (λ m. IsSolid m text) (omega arith) g
then_more [] (suc n) k h g = absurd (omega (arith, h.within))
then_more (byte ∷ bytes) (suc n) k h g =
    let parts = and_parts (is_solid byte) (list_all is_solid (take n bytes)) h.solid in
    let rest = then_more bytes n k (record { within = omega (arith, h.within); solid = parts.1 }) g in
    let count : suc (n + k) ≡ suc n + k = omega arith in
    subst (λ m. IsSolid m (byte ∷ bytes)) count
    (record { within = omega (arith, rest.within); solid = and_from (is_solid byte) (list_all is_solid (take (n + k) bytes)) parts.0 rest.solid })

run_solid : (p : ℕ → Bool) → ((c : ℕ) → p c ≡ true → is_blank c ≡ false) → (text : List ℕ) → IsSolid (prefix_len p text) text
run_solid p h [] = no_bytes []
run_solid p h (c ∷ cs) = by (p c) refl (run_solid p h cs) where
  by : (t : Bool) → p c ≡ t → IsSolid (prefix_len p cs) cs → IsSolid (cond t (1 + prefix_len p cs) 0) (c ∷ cs)
  by false e g = no_bytes (c ∷ cs)
  by true e g =
      let one : suc (prefix_len p cs) ≡ 1 + prefix_len p cs = omega arith in
      subst (λ n. IsSolid n (c ∷ cs)) one (one_more (prefix_len p cs) c cs (h c e) g)

digit_solid : (c : ℕ) → is_ascii_digit c ≡ true → is_blank c ≡ false
digit_solid c h = grind (arith, nat_tests)

name_solid : (c : ℕ) → goes_on_run c ≡ true → is_blank c ≡ false
name_solid c h = grind (arith, nat_tests)

point_solid : (text : List ℕ) → IsSolid (point_len text) text
point_solid [] = no_bytes []
point_solid (c ∷ cs) = by (c == 46) refl (prefix_len is_ascii_digit cs) (run_solid is_ascii_digit digit_solid cs) where
  by : (t : Bool) → (c == 46) ≡ t → (n : ℕ) → IsSolid n cs → IsSolid (cond t (with_point n) 0) (c ∷ cs)
  by false e n h = no_bytes (c ∷ cs)
  by true e zero h = no_bytes (c ∷ cs)
  by true e (suc n) h = one_more (suc n) c cs (grind (arith, nat_tests)) h

sign_solid : (text : List ℕ) → IsSolid (sign_len text) text
sign_solid [] = no_bytes []
sign_solid (c ∷ cs) = by (c == 43 || c == 45) refl where
  by : (t : Bool) → (c == 43 || c == 45) ≡ t → IsSolid (cond t 1 0) (c ∷ cs)
  by false e = no_bytes (c ∷ cs)
  by true e = one_more 0 c cs (grind (arith, nat_tests)) (no_bytes cs)

letter_solid : (c : ℕ) → is_exponent_letter c ≡ true → is_blank c ≡ false
letter_solid c h = grind (arith, nat_tests)

exponent_solid : (text : List ℕ) → IsSolid (exponent_len text) text
exponent_solid [] = no_bytes []
exponent_solid (c ∷ cs) =
    let after = drop (sign_len cs) cs in
    let digits = fewer after (prefix_len is_ascii_digit after) (min 3 (prefix_len is_ascii_digit after)) (omega arith) (run_solid is_ascii_digit digit_solid after) in
    by (is_exponent_letter c) refl (min 3 (prefix_len is_ascii_digit after)) (then_more cs (sign_len cs) (min 3 (prefix_len is_ascii_digit after)) (sign_solid cs) digits) where
      by : (t : Bool) → is_exponent_letter c ≡ t → (n : ℕ) → IsSolid (sign_len cs + n) cs → IsSolid (cond t (with_letter (sign_len cs) n) 0) (c ∷ cs)
      by false e n h = no_bytes (c ∷ cs)
      by true e zero h = no_bytes (c ∷ cs)
      by true e (suc n) h = one_more (sign_len cs + suc n) c cs (letter_solid c e) h

literal_solid : (text : List ℕ) → IsSolid (literal_len text) text
literal_solid text =
    let whole = prefix_len is_ascii_digit text in
    let rest = drop whole text in
    let after = point_len rest in
    let exponent = exponent_len (drop after rest) in
    let parts = then_more rest after exponent (point_solid rest) (exponent_solid (drop after rest)) in
    let all = then_more text whole (after + exponent) (run_solid is_ascii_digit digit_solid text) parts in
    let count : whole + (after + exponent) ≡ whole + after + exponent = omega arith in
    subst (λ n. IsSolid n text) count all

-- the token at the start has at least one byte, and no blank
record IsTokenLen (n : ℕ) (text : List ℕ) : Type 0 where
  some : 1 ≤ n
  bytes : IsSolid n text

len_is : (c : ℕ) (cs : List ℕ) → is_blank c ≡ false → IsTokenLen (len_of (c ∷ cs)) (c ∷ cs)
len_is c cs b = by (is_ascii_digit c) refl (begins_name c) refl where
  digits : is_ascii_digit c ≡ true → 1 ≤ literal_len (c ∷ cs)
  digits d =
      let whole : prefix_len is_ascii_digit (c ∷ cs) ≡ 1 + prefix_len is_ascii_digit cs = ap (λ t. cond t (1 + prefix_len is_ascii_digit cs) 0) d in
      more (prefix_len is_ascii_digit (c ∷ cs)) (point_len (drop (prefix_len is_ascii_digit (c ∷ cs)) (c ∷ cs)))
      (exponent_len (drop (point_len (drop (prefix_len is_ascii_digit (c ∷ cs)) (c ∷ cs))) (drop (prefix_len is_ascii_digit (c ∷ cs)) (c ∷ cs)))) (omega (arith, whole)) where
        more : (a b d : ℕ) → 1 ≤ a → 1 ≤ a + b + d
        more a b d h = omega arith

  names : begins_name c ≡ true → 1 ≤ prefix_len goes_on_run (c ∷ cs)
  names e =
      let goes : goes_on_run c ≡ true = grind (arith, nat_tests) in
      let whole : prefix_len goes_on_run (c ∷ cs) ≡ 1 + prefix_len goes_on_run cs = ap (λ t. cond t (1 + prefix_len goes_on_run cs) 0) goes in
      omega (arith, whole)

  by : (d : Bool) → is_ascii_digit c ≡ d → (n : Bool) → begins_name c ≡ n
      → IsTokenLen (cond d (literal_len (c ∷ cs)) (cond n (prefix_len goes_on_run (c ∷ cs)) 1)) (c ∷ cs)
  by true d n e = record { some = digits d; bytes = literal_solid (c ∷ cs) }
  by false d true e = record { some = names e; bytes = run_solid goes_on_run name_solid (c ∷ cs) }
  by false d false e = record { some = omega arith; bytes = one_more 0 c cs b (no_bytes cs) }

-- ---- the end of the last token
abbrev last_end : ℕ → List Token → ℕ
last_end end [] = end
last_end end (t ∷ ts) = last_end (t.place + t.len) ts

-- a text that is blank all through has no end of its own
abbrev end_from : ℕ → ℕ → ℕ → ℕ
end_from end at zero = end
end_from end at (suc n) = at + suc n

solid_len : (n : ℕ) (text : List ℕ) → IsSolid n text → written_len text ≡ n + written_len (drop n text)
solid_len zero text h = omega arith
solid_len (suc n) [] h = absurd (omega (arith, h.within))
solid_len (suc n) (byte ∷ bytes) h =
    let parts = and_parts (is_solid byte) (list_all is_solid (take n bytes)) h.solid in
    let blank : is_blank byte ≡ false = not_false (is_blank byte) parts.0 in
    let rest = solid_len n bytes (record { within = omega (arith, h.within); solid = parts.1 }) in
    ap (λ t. cond (t && written_len bytes == 0) 0 (suc (written_len bytes))) blank ∙ omega (arith, rest) where
      not_false : (t : Bool) → not t ≡ true → t ≡ false
      not_false true e = absurd (cc)
      not_false false e = refl

blank_end : (end at byte n : ℕ) → is_blank byte ≡ true → end_from end (at + 1 + 0) n ≡ end_from end (at + 0) (cond (is_blank byte && n == 0) 0 (suc n))
blank_end end at byte zero b = ap (λ t. end_from end (at + 0) (cond (t && true) 0 1)) (sym b)
blank_end end at byte (suc n) b = by (is_blank byte) (suc n == 0) (grind (arith, nat_tests)) where
  by : (t u : Bool) → u ≡ false → at + 1 + 0 + suc n ≡ end_from end (at + 0) (cond (t && u) 0 (suc (suc n)))
  by true true e = absurd (cc)
  by true false e = omega arith
  by false u e = omega arith

-- the end after a token of n bytes, and what follows it
token_end : (end at n rest total : ℕ) → 1 ≤ n → total ≡ n + rest → end_from (at + n) (at + 1 + (n - 1)) rest ≡ end_from end (at + 0) total
token_end end at n zero zero some e = absurd (omega arith)
token_end end at n zero (suc total) some e = omega arith
token_end end at n (suc rest) zero some e = absurd (omega arith)
token_end end at n (suc rest) (suc total) some e = omega arith

tokens_end : (text : List ℕ) (skip at end : ℕ) → skip ≤ length text → last_end end (tokens text skip at) ≡ end_from end (at + skip) (written_len (drop skip text))
tokens_end [] zero at end h = refl
tokens_end [] (suc skip) at end h = absurd (omega arith)
tokens_end (byte ∷ bytes) (suc skip) at end h =
    tokens_end bytes skip (at + 1) end (omega arith) ∙ ap (λ n. end_from end n (written_len (drop skip bytes))) (omega arith)
tokens_end (byte ∷ bytes) zero at end h =
    by (is_blank byte) refl (tokens_end bytes 0 (at + 1) end (omega arith))
    (λ k. tokens_end bytes (len_of (byte ∷ bytes) - 1) (at + 1) (at + len_of (byte ∷ bytes)) k) where
      by : (t : Bool) → is_blank byte ≡ t
          → last_end end (tokens bytes 0 (at + 1)) ≡ end_from end (at + 1 + 0) (written_len bytes)
          → (len_of (byte ∷ bytes) - 1 ≤ length bytes
          → last_end (at + len_of (byte ∷ bytes)) (tokens bytes (len_of (byte ∷ bytes) - 1) (at + 1))
          ≡ end_from (at + len_of (byte ∷ bytes)) (at + 1 + (len_of (byte ∷ bytes) - 1)) (written_len (drop (len_of (byte ∷ bytes) - 1) bytes)))
          → last_end end (cond t (tokens bytes 0 (at + 1))
          (record { place = at; kind = kind_of (byte ∷ bytes); len = len_of (byte ∷ bytes) } ∷ tokens bytes (len_of (byte ∷ bytes) - 1) (at + 1)))
          ≡ end_from end (at + 0) (written_len (byte ∷ bytes))
      by true b blank token = blank ∙ blank_end end at byte (written_len bytes) b
      by false b blank token =
          let is = len_is byte bytes b in
          let within : len_of (byte ∷ bytes) - 1 ≤ length bytes = omega (arith, is.some, is.bytes.within) in
          let after : written_len (drop (len_of (byte ∷ bytes)) (byte ∷ bytes)) ≡ written_len (drop (len_of (byte ∷ bytes) - 1) bytes) =
          dropped (len_of (byte ∷ bytes)) is.some in
          token within
          ∙ token_end end at (len_of (byte ∷ bytes)) (written_len (drop (len_of (byte ∷ bytes) - 1) bytes)) (written_len (byte ∷ bytes)) is.some
          (solid_len (len_of (byte ∷ bytes)) (byte ∷ bytes) is.bytes ∙ ap (λ n. len_of (byte ∷ bytes) + n) after) where
            dropped : (n : ℕ) → 1 ≤ n → written_len (drop n (byte ∷ bytes)) ≡ written_len (drop (n - 1) bytes)
            dropped zero k = absurd (omega arith)
            dropped (suc n) k =
                let less : n ≡ suc n - 1 = omega arith in
                ap (λ m. written_len (drop m bytes)) less

-- ---- a refusal at the end of the text
end_at : (o : Option Tree) (end at : ℕ) → at_end o end ≡ Err (Syntax at) → at ≡ end
end_at None end at h = cc
end_at (Some f) end at h = absurd (cc)

reading_end : (ts : List Token) (s : Stage Tree) (n end at : ℕ) (v : Stage Tree) → reading s n end ts ≡ Err (Syntax at)
    → stages trees s (kinds ts) ≡ Some v → at ≡ last_end end ts
reading_end [] s n end at v h k = end_at (finish trees s) end at h
reading_end (t ∷ ts) s n end at v h k =
    let refused = refusal s n t.place t.kind (opens_next ts) in
    let next : Stage Tree → Result Tree FormulaFault = λ u. reading u (n + node_count s t.kind) (t.place + t.len) ts in
    let first = first_step trees s t.kind (λ u. stages trees u (kinds ts)) v k in
    let rest = ap (λ o. goes_on o (syntax_place s t.place t.len t.kind) refused next) (sym first.gives) ∙ h in
    let ruled = refusal_ruled s n t.place t.kind (opens_next ts) in
    reading_end ts first.stage (n + node_count s t.kind) (t.place + t.len) at v
    (not_refused refused (Syntax at) (next first.stage) ruled (λ none. none) rest) first.rest

whole_end : (text : List ℕ) → last_end 0 (tokens text 0 0) ≡ written_len text
whole_end text = tokens_end text 0 0 0 (omega arith) ∙ from_start (written_len text) where
  from_start : (n : ℕ) → end_from 0 (0 + 0) n ≡ n
  from_start zero = refl
  from_start (suc n) = omega arith

-- where a text of the grammar goes on after the whole text, the place is after its last token
pub syntax_at_end : (text : List ℕ) (at : ℕ) → reading_of text ≡ Err (Syntax at) → GoesOn (kinds_in text) → at ≡ written_len text
unfolding reading_of
syntax_at_end text at h g = by (stages trees first_stage (kinds_in text)) refl where
  by : (o : Option (Stage Tree)) → stages trees first_stage (kinds_in text) ≡ o → at ≡ written_len text
  by None e = absurd (no_stage_no_text (kinds_in text) e g)
  by (Some v) e = reading_end (tokens text 0 0) first_stage 0 0 at v h e ∙ whole_end text

-- ---- a refusal at a token
record WrongToken (s : Stage Tree) (ts : List Token) (at : ℕ) : Type 0 where
  before : List Token
  token : Token
  after : List Token
  stage : Stage Tree
  parts : before ++ token ∷ after ≡ ts
  passed : stages trees s (kinds before) ≡ Some stage
  stops : step trees stage token.kind ≡ None
  place : at ≡ syntax_place stage token.place token.len token.kind

then_wrong : (o : Option (Stage Tree)) (s : Stage Tree) (t : Token) (ts : List Token) (at : ℕ) (r : Option FormulaFault)
    (next : Stage Tree → Result Tree FormulaFault) → step trees s t.kind ≡ o → IfSome r IsRuled
    → ((v : Stage Tree) → next v ≡ Err (Syntax at) → stages trees v (kinds ts) ≡ None → WrongToken v ts at)
    → goes_on o (syntax_place s t.place t.len t.kind) r next ≡ Err (Syntax at)
    → then_some o (λ v. stages trees v (kinds ts)) ≡ None → WrongToken s (t ∷ ts) at
then_wrong None s t ts at r next e ruled all h k = record {
  before = [];
  token = t;
  after = ts;
  stage = s;
  parts = refl;
  passed = refl;
  stops = e;
  place = cc;
}
then_wrong (Some v) s t ts at r next e ruled all h k =
    let w = all v (not_refused r (Syntax at) (next v) ruled (λ none. none) h) k in
    record {
      before = t ∷ w.before;
      token = w.token;
      after = w.after;
      stage = w.stage;
      parts = ap (λ us. t ∷ us) w.parts;
      passed = ap (λ o. then_some o (λ u. stages trees u (kinds w.before))) e ∙ w.passed;
      stops = w.stops;
      place = w.place;
    }

reading_wrong : (ts : List Token) (s : Stage Tree) (n end at : ℕ) → reading s n end ts ≡ Err (Syntax at)
    → stages trees s (kinds ts) ≡ None → WrongToken s ts at
reading_wrong [] s n end at h k = absurd (cc)
reading_wrong (t ∷ ts) s n end at h k =
    then_wrong (step trees s t.kind) s t ts at (refusal s n t.place t.kind (opens_next ts))
    (λ u. reading u (n + node_count s t.kind) (t.place + t.len) ts) refl (refusal_ruled s n t.place t.kind (opens_next ts))
    (λ u a b. reading_wrong ts u (n + node_count s t.kind) (t.place + t.len) at a b) h k

-- one token more
stages_last : (ks : List Kind) (s v : Stage Tree) (k : Kind) → stages trees s ks ≡ Some v → stages trees s (ks ++ k ∷ []) ≡ step trees v k
stages_last [] s v k h =
    let same : s ≡ v = cc in
    whole (step trees s k) ∙ ap (λ t. step trees t k) same where
      whole : (o : Option (Stage Tree)) → then_some o (λ t. Some t) ≡ o
      whole None = refl
      whole (Some t) = refl
stages_last (j ∷ ks) s v k h =
    let first = first_step trees s j (λ t. stages trees t ks) v h in
    ap (λ o. then_some o (λ t. stages trees t (ks ++ k ∷ []))) first.gives ∙ stages_last ks first.stage v k first.rest

kinds_last : (ts : List Token) (t : Token) → kinds (ts ++ t ∷ []) ≡ kinds ts ++ t.kind ∷ []
kinds_last [] t = refl
kinds_last (u ∷ ts) t = ap (λ ks. u.kind ∷ ks) (kinds_last ts t)

glued_place : (s : Stage Tree) (place len : ℕ) (k : Kind) → k ≡ Glued → (step trees s (Number None None) ≡ None → ⊥)
    → syntax_place s place len k ≡ place + len
glued_place (AtOperand l o) place len k e h = ap (λ j. place + after_glued j len) e
glued_place (AtExponent l x minus o) place len k e h = ap (λ j. place + after_glued j len) e
glued_place s place len k e h = absurd (h refl)

not_glued : (place len : ℕ) (k : Kind) → (k ≡ Glued → ⊥) → place + after_glued k len ≡ place
not_glued place len Glued h = absurd (h refl)
not_glued place len k h = omega arith

other_place : (s : Stage Tree) (place len : ℕ) (k : Kind) → (k ≡ Glued → (v : Stage Tree) → step trees s (Number None None) ≡ Some v → ⊥)
    → syntax_place s place len k ≡ place
other_place (AtOperand l o) place len k h = not_glued place len k (λ e. h e (AtAtom l (trees.number None None) o) refl)
other_place (AtExponent l x minus o) place len k h =
    not_glued place len k (λ e. h e (AtEnd l.base l.added (factor_done trees l (trees.raised x minus None None)) o) refl)
other_place s place len k h = refl

-- elsewhere it is that of the first token with which no text of the grammar goes on
pub syntax_at_token : (text : List ℕ) (at : ℕ) → reading_of text ≡ Err (Syntax at) → (GoesOn (kinds_in text) → ⊥) → IsFirstWrong text at
unfolding reading_of
syntax_at_token text at h none = by (stages trees first_stage (kinds_in text)) refl where
  by : (o : Option (Stage Tree)) → stages trees first_stage (kinds_in text) ≡ o → IsFirstWrong text at
  by (Some v) e = absurd (none (goes_on_by_stages (kinds_in text) v e))
  by None e =
      let w = reading_wrong (tokens text 0 0) first_stage 0 0 at h e in
      let ks = kinds w.before in
      record {
        before = w.before;
        token = w.token;
        after = w.after;
        parts = w.parts;
        goes_on = goes_on_by_stages ks w.stage w.passed;
        stops = no_stage_no_text (kinds (w.before ++ w.token ∷ []))
            (ap (λ us. stages trees first_stage us) (kinds_last w.before w.token) ∙ stages_last ks first_stage w.stage w.token.kind w.passed ∙ w.stops);
        at_glued = λ g m. w.place ∙ glued_place w.stage w.token.place w.token.len w.token.kind g
            (λ n. no_stage_no_text (ks ++ Number None None ∷ []) (stages_last ks first_stage w.stage (Number None None) w.passed ∙ n) m);
        at_other = λ f. w.place ∙ other_place w.stage w.token.place w.token.len w.token.kind
            (λ g v n. f g (goes_on_by_stages (ks ++ Number None None ∷ []) v (stages_last ks first_stage w.stage (Number None None) w.passed ∙ n)));
      }
