use Rattle.wc_relaycmd.specs.Utf8.{CommandUtf8}
use Rattle.wc_session.proofs.served.serve_command.Goals as goal

pub give_info-requires-clause-name : goal.give_info-requires-clause-name
unfolding CommandUtf8
give_info-requires-clause-name c = rw c.in-Info.is at c.requires.command

pub give_infolist-requires-clause-name : goal.give_infolist-requires-clause-name
unfolding CommandUtf8
give_infolist-requires-clause-name c = (rw c.in-Infolist.is at c.requires.command).0

pub give_pong-requires : goal.give_pong-requires
unfolding CommandUtf8
give_pong-requires c = rw c.in-Ping.is at c.requires.command

pub give_completion-requires-clause-text : goal.give_completion-requires-clause-text
unfolding CommandUtf8
give_completion-requires-clause-text c = (rw c.in-Completion.is at c.requires.command).1
