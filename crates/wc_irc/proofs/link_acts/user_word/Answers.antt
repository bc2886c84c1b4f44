use Rattle.wc_irc_texts.proofs.PieceLemmas.{made_in_line}
use Rattle.wc_irc.proofs.link_acts.user_word.Goals as goal

pub first_words-requires : goal.first_words-requires
first_words-requires c = made_in_line c.args.user.now c.in_ok-line.line c.as_slice.result.now c.in_ok-line.ensures c.as_slice.ensures
