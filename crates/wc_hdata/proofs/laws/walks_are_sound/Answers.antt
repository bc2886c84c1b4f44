use Rattle.wc_hdata.proofs.SoundWalks.{sound_formed, walk_within}
use Rattle.wc_hdata.proofs.laws.walks_are_sound.Goals as goal

pub returns-clause-formed : goal.returns-clause-formed
returns-clause-formed c = sound_formed

pub returns-clause-within : goal.returns-clause-within
returns-clause-within c = walk_within
