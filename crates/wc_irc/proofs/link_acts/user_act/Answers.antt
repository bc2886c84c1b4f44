use Rattle.wc_irc.proofs.UserLemmas.{user_writable}
use Rattle.wc_irc.proofs.link_acts.user_act.Goals as goal

pub line_of-requires : goal.line_of-requires
line_of-requires c = user_writable c.as_slice-user.result.now c.as_slice-real_name.result.now c.in_ok-word.word c.in_ok-params.params c.in_ok-word.ensures c.in_ok-params.ensures
