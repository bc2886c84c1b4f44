use Rattle.wc_irc.proofs.ActLemmas.{one_writable}
use Rattle.wc_irc.proofs.talk_acts.sent.Goals as goal

pub line_of-requires : goal.line_of-requires
line_of-requires c = one_writable c.args.command.now c.args.text.now c.in_ok-word.word c.in_ok-params.params c.requires c.in_ok-word.ensures c.in_ok-params.ensures
