use Rattle.wc_irc_texts.proofs.PartLemmas.{are_whole}
use Rattle.wc_irc_texts.proofs.laws.parts_are_whole.Goals as goal

pub returns : goal.returns
returns c = are_whole
