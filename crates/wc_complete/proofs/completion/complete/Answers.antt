use Rattle.std.proofs.Common.{ap, ◌∙◌}
use Rattle.wc_complete.specs.BaseWord.{last_word}
use Rattle.wc_complete.proofs.TextLaws.{base_is_text}
use Rattle.wc_complete.proofs.completion.complete.Goals as goal

pub returns-in-Ok-clause-text : goal.returns-in-Ok-clause-text
returns-in-Ok-clause-text c = λ u. base_is_text _ c.args.text.now _ (c.in-Ok.ensures.word ∙ ap last_word c.front_at.ensures.front) u
