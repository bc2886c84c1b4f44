use Rattle.std.proofs.lemmas.List.{get_or-replicate}
use Rattle.wc_irc_texts.proofs.mode_kinds.no_letters.Goals as goal

pub returns : goal.returns
returns c letter below = get_or-replicate 256 letter 0 0 below
