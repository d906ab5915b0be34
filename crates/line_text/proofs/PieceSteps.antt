-- The pieces of a text, one by one from its start.
use Rattle.std.proofs.Common.{◌≡◌, ℕ, zero, suc, ◌+◌, ◌-◌, ◌<◌, Bool, true, false, cond, List, [], ◌∷◌, length, drop, refl, ◌∙◌, ap, arith}
use Rattle.std.specs.List.{prefix_len}
use Rattle.line_text.specs.Blanks.{is_blank, IsTight}
use Rattle.line_text.specs.Pieces.{pieces}

blank_tight : (byte : ℕ) (bytes : List ℕ) (n : ℕ) (t : Bool) → is_blank byte ≡ t → IsTight (drop n bytes) →
    IsTight (drop (cond t (1 + n) 0) (byte ∷ bytes))
blank_tight byte bytes n false e h = e
blank_tight byte bytes n true e h = let more : 1 + n ≡ suc n = omega arith in rw more h

-- no blank is at the start of the text after the blanks at its start
pub blanks_tight : (text : List ℕ) → IsTight (drop (prefix_len is_blank text) text)
blanks_tight [] = tt
blanks_tight (byte ∷ bytes) = blank_tight byte bytes (prefix_len is_blank bytes) (is_blank byte) refl (blanks_tight bytes)

module _ (A : Type 0) (len : List ℕ → ℕ) (piece : ℕ → List ℕ → A) where
  -- skipped bytes are passed
  pub pieces_skip : (text : List ℕ) (skip at : ℕ) → pieces len piece text skip at ≡ pieces len piece (drop skip text) 0 (at + skip)
  pieces_skip [] zero at = refl
  pieces_skip (byte ∷ bytes) zero at = let e : at ≡ at + 0 = omega arith in ap (pieces len piece (byte ∷ bytes) 0) e
  pieces_skip [] (suc skip) at = refl
  pieces_skip (byte ∷ bytes) (suc skip) at =
      let e : at + 1 + skip ≡ at + suc skip = omega arith in
      pieces_skip bytes skip (at + 1) ∙ ap (pieces len piece (drop skip bytes) 0) e

  -- blanks are passed
  blank_passed : (byte : ℕ) (bytes : List ℕ) (n at : ℕ) (t : Bool) → is_blank byte ≡ t →
      pieces len piece bytes 0 (at + 1) ≡ pieces len piece (drop n bytes) 0 (at + 1 + n) →
      pieces len piece (byte ∷ bytes) 0 at ≡ pieces len piece (drop (cond t (1 + n) 0) (byte ∷ bytes)) 0 (at + cond t (1 + n) 0)
  blank_passed byte bytes n at false e h = let z : at ≡ at + 0 = omega arith in ap (pieces len piece (byte ∷ bytes) 0) z
  blank_passed byte bytes n at true e h =
      let more : 1 + n ≡ suc n = omega arith in
      let z : at + 1 + n ≡ at + suc n = omega arith in
      rw (e, more) (h ∙ ap (pieces len piece (drop n bytes) 0) z)

  pub blanks_passed : (text : List ℕ) (at : ℕ) →
      pieces len piece text 0 at ≡ pieces len piece (drop (prefix_len is_blank text) text) 0 (at + prefix_len is_blank text)
  blanks_passed [] at = refl
  blanks_passed (byte ∷ bytes) at =
      blank_passed byte bytes (prefix_len is_blank bytes) at (is_blank byte) refl (blanks_passed bytes (at + 1))

  -- the piece at the start of a text that begins with no blank
  one_piece : (byte : ℕ) (bytes : List ℕ) (at n k : ℕ) → is_blank byte ≡ false → k ≡ suc n →
      cond (is_blank byte) (pieces len piece bytes 0 (at + 1)) (piece at (byte ∷ bytes) ∷ pieces len piece bytes (k - 1) (at + 1))
      ≡ piece at (byte ∷ bytes) ∷ pieces len piece (drop k (byte ∷ bytes)) 0 (at + k)
  one_piece byte bytes at n k e more =
      let z : at + 1 + n ≡ at + suc n = omega arith in
      let less : suc n - 1 ≡ n = omega arith in
      let same : pieces len piece bytes (suc n - 1) (at + 1) ≡ pieces len piece (drop n bytes) 0 (at + suc n)
      = rw less (pieces_skip bytes n (at + 1) ∙ ap (pieces len piece (drop n bytes) 0) z) in
      rw (e, more) (ap (λ ps. piece at (byte ∷ bytes) ∷ ps) same)

  pub first_piece : (text : List ℕ) (at : ℕ) → IsTight text → 0 < length text → 0 < len text →
      pieces len piece text 0 at ≡ piece at text ∷ pieces len piece (drop (len text) text) 0 (at + len text)
  first_piece [] at tight some more = absurd (omega arith)
  first_piece (byte ∷ bytes) at tight some more =
      let one : len (byte ∷ bytes) ≡ suc (len (byte ∷ bytes) - 1) = omega (arith, more) in
      one_piece byte bytes at (len (byte ∷ bytes) - 1) (len (byte ∷ bytes)) tight one

  -- of an empty text there is none
  pub no_pieces : (text : List ℕ) (at : ℕ) → length text ≡ 0 → pieces len piece text 0 at ≡ []
  no_pieces [] at none = refl
  no_pieces (byte ∷ bytes) at none = absurd (omega (arith, none))
