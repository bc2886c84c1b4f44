use Rattle.wc_irc_texts.proofs.TextLemmas.{spaced-init}
use Rattle.wc_irc_texts.proofs.line_text.spaced.Goals as goal

pub loop-other-init : goal.loop-other-init
loop-other-init c = spaced-init _ c.first-item.result _ c.in-len1-up.len_at_least c.first-item.is c.in_ok-text.ensures
