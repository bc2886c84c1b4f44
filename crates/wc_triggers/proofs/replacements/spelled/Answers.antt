use Rattle.std.proofs.Common.{◌∙◌, sym}
use Rattle.std.specs.Prelude.{string_bytes}
use Rattle.std.proofs.lemmas.List.{get_or_read}
use Rattle.wc_triggers.proofs.PartLemmas.{spelled_step}
use Rattle.wc_triggers.proofs.replacements.spelled.Goals as goal

pub loop-character-preserved : goal.loop-character-preserved
loop-character-preserved c =
    let cs = c.args.characters.now in
    let i = c.loop-character.character-index in
    let within = c.loop-character-test.true in
    c.in_ok-push.ensures.bytes
    ∙ spelled_step cs i c.character-item.result (string_bytes c.loop-character.text) within
    (sym (get_or_read cs i c.character-item.result within c.character-item.is 0))
    c.loop-character.invariant
