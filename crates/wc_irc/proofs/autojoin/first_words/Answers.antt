use Rattle.wc_irc.proofs.AutojoinLemmas.{first_bare, second_bare}
use Rattle.wc_irc.proofs.autojoin.first_words.Goals as goal

pub returns-clause-first_bare : goal.returns-clause-first_bare
returns-clause-first_bare c = first_bare c.args.text.now c.past_blanks.result.now _ c.past_blanks.ensures c.cut_word.ensures.word c.requires

pub returns-clause-second_bare : goal.returns-clause-second_bare
returns-clause-second_bare c = second_bare c.args.text.now c.past_blanks.result.now c.cut_word.result.1.now _ c.past_blanks.ensures c.cut_word.ensures.rest c.cut_word-2.ensures.word c.requires
