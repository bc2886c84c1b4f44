use Rattle.std.proofs.Common.{◌≡◌, ◌∙◌, codes}
use Rattle.std.proofs.lemmas.Result.{IfOk-weaker}
use Rattle.wc_irc.specs.InviteActs.{invite_line}
use Rattle.wc_irc.specs.Lines.{printed}
use Rattle.wc_irc.specs.declared.act.Act.{Act}
use Rattle.wc_irc.proofs.invite_acts.invite_line.Goals as goal

pub returns : goal.returns
returns c =
    let text = c.as_slice.ensures ∙ c.in_ok-text.ensures in
    IfOk-weaker c.printed.result _ (λ (a : Act). a ≡ invite_line c.args.m.now c.args.buffer.now)
    (λ a is. is ∙ (λ i. printed c.args.buffer.now (c.in_ok-tags.ensures i) (codes "--") (text i))) c.printed.ensures
