use Rattle.wc_irc_texts.proofs.PieceLemmas.{made_in_line}
use Rattle.wc_irc.proofs.autojoin.autojoin_lines.Goals as goal

pub first_words-requires : goal.first_words-requires
first_words-requires c = made_in_line c.args.value.now c.in_ok-value.value c.as_slice.result.now c.in_ok-value.ensures c.as_slice.ensures
