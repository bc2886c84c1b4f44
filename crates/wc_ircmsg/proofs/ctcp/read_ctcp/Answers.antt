use Rattle.std.proofs.Common.{◌∙◌, ap, sym}
use Rattle.wc_ircmsg.specs.Sources.{or_empty}
use Rattle.wc_ircmsg.proofs.CtcpLemmas.{IsCtcp-same, IsCtcp-made, no_word}
use Rattle.wc_ircmsg.proofs.ctcp.read_ctcp.Goals as goal

pub returns-then-is_empty-clause-only : goal.returns-then-is_empty-clause-only
returns-then-is_empty-clause-only c = λ word arguments ctcp.
    no_word c.args.text.now c.in_ok-inner.inner.now _ word arguments c.in_ok-inner.ensures c.split_once.ensures.front (sym c.is_empty.ensures ∙ c.if-is_empty.true) ctcp

pub returns-clause-found : goal.returns-clause-found
returns-clause-found c =
    IsCtcp-made c.args.text.now c.in_ok-inner.inner.now _ _ c.in_ok-inner.ensures c.split_once.ensures.front (c.or_empty.ensures ∙ ap or_empty c.split_once.ensures.back)
    (sym c.is_empty.ensures ∙ c.if-is_empty.false)

pub returns-clause-only : goal.returns-clause-only
returns-clause-only c = λ word arguments ctcp.
    let same = IsCtcp-same c.args.text.now c.in_ok-inner.inner.now word arguments c.in_ok-inner.ensures ctcp in
    (c.split_once.ensures.front ∙ same.0, c.or_empty.ensures ∙ ap or_empty c.split_once.ensures.back ∙ same.1)
