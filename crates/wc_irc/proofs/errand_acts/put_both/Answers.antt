use Rattle.std.proofs.Common.{◌≡◌, ◌++◌, not, List, subst, OnOk, ap, sym, ◌∙◌}
use Rattle.wc_ircmsg.specs.Written.{line_of}
use Rattle.wc_irc.specs.Autojoin.{message}
use Rattle.wc_irc.specs.SentLines.{both_acts}
use Rattle.wc_irc.specs.declared.act.Act.{Act}
use Rattle.wc_irc.proofs.SentLemmas.{linked_acts}
use Rattle.wc_irc.proofs.errand_acts.put_both.Goals as goal

pub returns : goal.returns
returns c =
    let groups = c.args.buffers.now in
    let first = line_of (message c.args.first.0.now c.args.first.1) in
    let second = line_of (message c.args.second.0.now c.args.second.1) in
    let same = ap (λ a. both_acts groups a c.in_ok-second.second) c.in_ok-first.ensures ∙ ap (both_acts groups first) c.in_ok-second.ensures ∙ sym (linked_acts groups c.args.link (both_acts groups first second) (c.is_none.ensures ∙ ap not c.if-is_none.false)) in
    subst (λ (more : List Act). OnOk c.put_both_lines.result (c.put_both_lines.new.acts ≡ c.args.acts.now ++ more)) same c.put_both_lines.ensures
