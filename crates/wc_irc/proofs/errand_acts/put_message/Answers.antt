use Rattle.std.proofs.Common.{◌≡◌, ◌++◌, not, List, subst, OnOk, ap, sym, ◌∙◌}
use Rattle.wc_ircmsg.specs.Written.{line_of}
use Rattle.wc_irc.specs.Autojoin.{message}
use Rattle.wc_irc.specs.SentLines.{line_acts}
use Rattle.wc_irc.specs.declared.act.Act.{Act}
use Rattle.wc_irc.proofs.SentLemmas.{linked_acts}
use Rattle.wc_irc.proofs.errand_acts.put_message.Goals as goal

pub returns : goal.returns
returns c =
    let line = line_of (message c.args.command.now c.args.params) in
    let same = ap (line_acts c.args.buffers.now) c.in_ok-message_line.ensures ∙ sym (linked_acts c.args.buffers.now c.args.link (line_acts c.args.buffers.now line) (c.is_none.ensures ∙ ap not c.if-is_none.false)) in
    subst (λ (more : List Act). OnOk c.put_line.result (c.put_line.new.acts ≡ c.args.acts.now ++ more)) same c.put_line.ensures
