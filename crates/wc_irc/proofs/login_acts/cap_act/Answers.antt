use Rattle.wc_irc.proofs.LoginLemmas.{cap_writable}
use Rattle.wc_irc.proofs.login_acts.cap_act.Goals as goal

pub line_of-requires : goal.line_of-requires
line_of-requires c = cap_writable c.args.word.now c.args.text.now c.in_ok-command.command c.in_ok-params.params c.requires.word c.requires.one_line c.in_ok-command.ensures c.in_ok-params.ensures
