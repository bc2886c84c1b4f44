use Rattle.std.proofs.Common.{◌≡◌, ℕ, List, Some, ap, sym, subst, ◌∙◌}
use Rattle.std.specs.Prelude.{All}
use Rattle.std.specs.Str.{IsUtf8}
use Rattle.wc_triggers.specs.Words.{trigger_words, word_at}
use Rattle.wc_triggers.specs.Hooks.{kind_named}
use Rattle.wc_triggers.specs.Triggers.{by_hook, by_words, IsReading, Reading}
use Rattle.wc_triggers.proofs.WordLemmas.{trigger_words_utf8}
use Rattle.wc_triggers.proofs.read.read_trigger.Goals as goal

pub read_words-requires : goal.read_words-requires
read_words-requires c =
    let are : Some c.in-Some.words ≡ trigger_words c.args.text.now =
    sym c.in-Some.is ∙ c.in_ok-words.ensures ∙ ap trigger_words c.as_slice.ensures in
    subst (All IsUtf8) (sym c.as_slice-2.ensures) (trigger_words_utf8 c.args.text.now c.in-Some.words c.requires are)

pub returns-clause-answer : goal.returns-clause-answer
returns-clause-answer c = λ oracle agrees.
    let are : Some c.in-Some.words ≡ trigger_words c.args.text.now =
    sym c.in-Some.is ∙ c.in_ok-words.ensures ∙ ap trigger_words c.as_slice.ensures in
    let P : Reading → Type 0 = λ r. IsReading r c.read_words.result in
    let Q : List (List ℕ) → Type 0 = λ words. IsReading (by_hook oracle words (kind_named (word_at words 1))) c.read_words.result in
    subst P (ap (by_words oracle) are) (subst Q c.as_slice-2.ensures (c.read_words.ensures.answer oracle agrees))
