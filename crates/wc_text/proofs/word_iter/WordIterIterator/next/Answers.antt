use Rattle.std.proofs.Common.{◌≡◌, ◌<◌, ◌∷◌, length, sym, ◌∙◌, arith}
use Rattle.std.proofs.lemmas.Bool.Decides.{nat_tests}
use Rattle.wc_text.specs.Words.{words_of}
use Rattle.wc_text.proofs.WordsLemmas.{no_word, next_word}
use Rattle.wc_text.proofs.word_iter.WordIterIterator.next.Goals as goal

pub returns-then-is_empty-clause-steps : goal.returns-then-is_empty-clause-steps
returns-then-is_empty-clause-steps c =
    let none : length c.after_spaces-self.result.now ≡ 0 = grind (arith, nat_tests) in
    no_word c.args.self.now.rest.now c.after_spaces-self.result.now c.after_spaces-self.ensures none

pub returns-clause-steps : goal.returns-clause-steps
returns-clause-steps c =
    let some : 0 < length c.after_spaces-self.result.now = grind (arith, nat_tests) in
    next_word c.args.self.now.rest.now c.after_spaces-self.result.now c.place_of.result c.after_spaces-self.ensures some c.place_of.ensures.place
    ∙ (λ k. sym c.split_at.ensures.front k ∷ words_of (sym c.split_at.ensures.back k))
