use Rattle.std.proofs.Common.{sym, ap, rules, ◌∙◌, arith}
use Rattle.wc_loop.proofs.WordsLemmas.{value_step}
use Rattle.wc_loop.specs.Words.{asked_with}
use Rattle.wc_loop.proofs.words.read_words.Goals as goal

pub loop-word-preserved : goal.loop-word-preserved
loop-word-preserved c = record {
  count = grind arith;
  above = search rules;
  same = sym (value_step c.loop-word.place c.loop-word.wish c.in-Some-asked_with.asked c.in-Some.word.now c.in-Some-first.value.now _ _ _ c.in-Some.ensures.some c.in-Some-first.ensures.some (sym c.in_default-asked_by.ensures.asked) (sym c.takes_value.ensures ∙ c.if-not-takes_value.false) (sym (c.in-Some-asked_with.ensures.asked ∙ ap (asked_with c.loop-word.wish c.in-Some.word.now) c.as_bytes.ensures.value)))
      ∙ c.loop-word.invariant.same;
}
