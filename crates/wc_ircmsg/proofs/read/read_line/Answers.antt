use Rattle.std.proofs.Common.{◌∙◌}
use Rattle.wc_ircmsg.proofs.ReadLemmas.{read_from, refused_from, only_from}
use Rattle.wc_ircmsg.proofs.TextLemmas.{texts_from}
use Rattle.wc_ircmsg.proofs.read.read_line.Goals as goal

pub returns-clause-read : goal.returns-clause-read
returns-clause-read c = read_from _ _ c.args.line.now (c.as_slice.ensures ∙ c.in_ok-text.ensures) c.read_text.ensures.read

pub returns-clause-only : goal.returns-clause-only
returns-clause-only c = only_from _ _ c.args.line.now (c.as_slice.ensures ∙ c.in_ok-text.ensures) c.read_text.ensures.read c.read_text.ensures.refused

pub returns-clause-refused : goal.returns-clause-refused
returns-clause-refused c = refused_from _ _ c.args.line.now (c.as_slice.ensures ∙ c.in_ok-text.ensures) c.read_text.ensures.refused

pub returns-clause-texts : goal.returns-clause-texts
returns-clause-texts c = texts_from _ c.args.line.now (read_from _ _ c.args.line.now (c.as_slice.ensures ∙ c.in_ok-text.ensures) c.read_text.ensures.read)
