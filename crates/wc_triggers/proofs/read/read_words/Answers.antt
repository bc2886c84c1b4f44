use Rattle.std.proofs.Common.{◌≡◌, ℕ, List, Some, Err, ap, sym, subst, ◌∙◌}
use Rattle.std.specs.Str.{IsUtf8}
use Rattle.std.proofs.lemmas.Result.{err_from_is_err_and}
use Rattle.wc_triggers.specs.Words.{word_at}
use Rattle.wc_triggers.specs.Hooks.{kind_named}
use Rattle.wc_triggers.specs.Arguments.{arguments_of}
use Rattle.wc_triggers.specs.Replacements.{replacements_of}
use Rattle.wc_triggers.specs.Triggers.{fine_only, by_hook, IsReading, Reading}
use Rattle.wc_triggers.proofs.WordLemmas.{word_at_utf8}
use Rattle.wc_triggers.proofs.ReadLemmas.{replacements_refused}
use Rattle.wc_triggers.proofs.read.read_words.Goals as goal

pub read_replacements-requires : goal.read_replacements-requires
read_replacements-requires c = subst IsUtf8 (sym c.word_at-3.ensures) (word_at_utf8 c.args.words.now 4 c.requires)

pub returns-in_err-replacements-clause-answer : goal.returns-in_err-replacements-clause-answer
returns-in_err-replacements-clause-answer c = λ oracle agrees.
    let words = c.args.words.now in
    let kind = c.in-Some.kind in
    let refusal = c.in_err-replacements.field-0.0 in
    let left = c.from_residual-in_err-replacements in
    let p = err_from_is_err_and left.result left.ensures.1 in
    let is : left.result ≡ Err refusal = p.1 ∙ ap (λ e. Err e) p.2 in
    let hook : Some kind ≡ kind_named (word_at words 1) = c.in-Some.ensures ∙ ap (λ t. kind_named t) c.word_at.ensures in
    let said : Some c.in-Some-2.arguments ≡ arguments_of kind (word_at words 2) =
    sym c.in-Some-2.is ∙ c.in_ok-arguments.ensures ∙ ap (λ t. arguments_of kind t) c.word_at-2.ensures in
    let Q : List ℕ → Type 0 = λ t. IsReading (fine_only oracle (replacements_of kind t)) (Err refusal) in
    let found = subst Q c.word_at-3.ensures (c.in_err-replacements.ensures.answer oracle agrees) in
    let P : Reading → Type 0 = λ r. IsReading (by_hook oracle words (kind_named (word_at words 1))) r in
    subst P (sym is) (replacements_refused words kind c.in-Some-2.arguments oracle refusal hook said found)
