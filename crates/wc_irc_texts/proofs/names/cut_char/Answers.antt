use Rattle.wc_irc_texts.proofs.TextLemmas.{char_front}
use Rattle.wc_irc_texts.proofs.names.cut_char.Goals as goal

pub returns-clause-first : goal.returns-clause-first
returns-clause-first c = char_front c.args.text.now c.past_inner-back.result.now c.in-len1-up.len_at_least c.past_inner-back.ensures
