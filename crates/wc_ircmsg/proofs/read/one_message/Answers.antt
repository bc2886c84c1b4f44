use Rattle.wc_ircmsg.proofs.ReadLemmas.{SpellsLine-one, SpellsLine-reading, reading-SpellsLine, RefusesLine-reading, reading-RefusesLine}
use Rattle.wc_ircmsg.proofs.WriteLemmas.{SpellsLine-written}
use Rattle.wc_ircmsg.proofs.read.one_message.Goals as goal

pub returns-clause-one : goal.returns-clause-one
returns-clause-one c = SpellsLine-one

pub returns-clause-spells : goal.returns-clause-spells
returns-clause-spells c = λ text message. (SpellsLine-reading text message, reading-SpellsLine text message)

pub returns-clause-refuses : goal.returns-clause-refuses
returns-clause-refuses c = λ text refused. (RefusesLine-reading text refused, reading-RefusesLine text refused)

pub returns-clause-written : goal.returns-clause-written
returns-clause-written c = SpellsLine-written
