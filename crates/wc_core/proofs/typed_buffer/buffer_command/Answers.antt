use Rattle.std.proofs.Common.{◌≡◌, sym, ap, Some, ◌∙◌}
use Rattle.wc_core.specs.declared.typed_buffer.BufferWord.TheVariants as words
use Rattle.wc_core.specs.TypedSeen.{word_named}
use Rattle.wc_core.proofs.TypedWords.{command_at, command_else}
use Rattle.wc_core.proofs.typed_buffer.buffer_command.Goals as goal

pub returns-in-Some-Move : goal.returns-in-Some-Move
returns-in-Some-Move c =
    let named : c.named.result ≡ word_named c.cut_word.result.0.now = c.named.ensures in
    c.move_to.ensures ∙ sym (command_at c.args.text.now c.cut_word.result.0.now c.cut_word.result.1.now words.Move c.cut_word.ensures.word c.cut_word.ensures.rest (sym named ∙ c.in-Some-Move.is ∙ ap Some c.in-Some-Move.field-0-is))

pub returns-in-Some-Set : goal.returns-in-Some-Set
returns-in-Some-Set c =
    let named : c.named.result ≡ word_named c.cut_word.result.0.now = c.named.ensures in
    c.set.ensures ∙ sym (command_at c.args.text.now c.cut_word.result.0.now c.cut_word.result.1.now words.Set c.cut_word.ensures.word c.cut_word.ensures.rest (sym named ∙ c.in-Some-Set.is ∙ ap Some c.in-Some-Set.field-0-is))

pub returns-in-None : goal.returns-in-None
returns-in-None c =
    let named : c.named.result ≡ word_named c.cut_word.result.0.now = c.named.ensures in
    c.switch.ensures ∙ sym (command_else c.args.text.now c.cut_word.result.0.now c.cut_word.result.1.now c.cut_word.ensures.word c.cut_word.ensures.rest (sym named ∙ c.in-None.is))
