use Rattle.std.proofs.Common.{◌≡◌, ◌<◌, List, ◌∷◌, length, refl, arith}
use Rattle.std.proofs.lemmas.Bool.Decides.{nat_tests}
use Rattle.line_text.proofs.WordSteps.{next_word, no_word}
use Rattle.line_text.proofs.words.WordsIterator.next.Goals as goal

pub returns-then-is_empty-clause-steps : goal.returns-then-is_empty-clause-steps
returns-then-is_empty-clause-steps c = rw (← c.self.view_is) (
  refl,
  no_word c.self.inside.line.now c.after-rest.result.now c.after-rest-2.result.now c.self.inside.at c.blanks_len-blanks.result
      c.after-rest.ensures.is c.blanks_len-blanks.ensures.is c.after-rest-2.ensures.is (grind (arith, nat_tests, c.if-is_empty.ensures)),
)

pub returns-clause-steps : goal.returns-clause-steps
returns-clause-steps c = rw (← c.self.view_is) (record {
  line = refl;
  place = refl;
  fits =
      omega (arith, c.after-rest.ensures.length, c.after-rest-2.ensures.length, c.word_len.ensures.within, c.prefix-text.ensures.length, c.self.ranges);
  word =
      next_word c.self.inside.line.now c.after-rest.result.now c.after-rest-2.result.now c.prefix-text.result.now c.self.inside.at
      c.blanks_len-blanks.result c.after-rest.ensures.is c.blanks_len-blanks.ensures.is c.after-rest-2.ensures.is
      (grind (arith, nat_tests, c.if-is_empty.ensures)) (rw (← c.word_len.ensures.is) c.prefix-text.ensures.is)
      (rw (← c.word_len.ensures.is) c.prefix-text.ensures.length);
})

shorter : {A : Type 0} (xs ys : List A) (x : A) → xs ≡ x ∷ ys → length ys < length xs
shorter xs ys x e = rw e (omega arith)

pub returns-clause-goes : goal.returns-clause-goes
returns-clause-goes c = record {
  on = λ _. (tt, tt, shorter _ _ _ (returns-clause-steps c).word);
  keeps = tt;
  rests = λ _. tt;
}
