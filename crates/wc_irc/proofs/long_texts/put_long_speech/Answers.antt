use Rattle.std.proofs.Common.{ap, sym, ◌∙◌}
use Rattle.wc_irc.specs.SpeechSeen.{talk_seen}
use Rattle.wc_irc.proofs.LongLemmas.{said_sendable, done_sendable}
use Rattle.wc_irc.proofs.long_texts.put_long_speech.Goals as goal

pub put_long_said-requires : goal.put_long_said-requires
put_long_said-requires c = said_sendable c.args.target.now c.args.text.now c.in-Says.text.now c.requires (ap talk_seen (sym c.in-Says.is) ∙ c.talk_of.ensures)

pub put_long_done-requires : goal.put_long_done-requires
put_long_done-requires c = done_sendable c.args.target.now c.args.text.now c.in-Does.deed.now c.requires (ap talk_seen (sym c.in-Does.is) ∙ c.talk_of.ensures)
