use Rattle.std.proofs.Common.{IsUtf8, sym, subst, ◌∙◌}
use Rattle.wc_irc.proofs.LineTextLemmas.{line_made}
use Rattle.wc_irc_texts.proofs.PieceLemmas.{made_in_line}
use Rattle.wc_irc.proofs.command_acts.on_command_unlinked.Goals as goal

pub acts_of_line-requires-clause-one_line : goal.acts_of_line-requires-clause-one_line
acts_of_line-requires-clause-one_line c = made_in_line c.args.text.now c.in_ok-line.line c.as_slice.result.now c.in_ok-line.ensures c.as_slice.ensures

pub acts_of_line-requires-clause-text : goal.acts_of_line-requires-clause-text
acts_of_line-requires-clause-text c = subst IsUtf8 (sym (c.as_slice.ensures ∙ c.in_ok-line.ensures)) (line_made c.args.text.now c.requires).utf8
