use Rattle.std.proofs.Common.{◌≡◌, ap, sym, ◌∙◌}
use Rattle.wc_irc.specs.declared.channel.Channel.{Channel}
use Rattle.wc_irc.specs.Channels.{joined}
use Rattle.wc_irc_nicks.specs.Kept.{NewNickValue}
use Rattle.wc_irc.proofs.ReadyLemmas.{ready_none, ready_some}
use Rattle.wc_irc.proofs.rename_state.ready_name.Goals as goal

pub returns-then-not-gets-clause-ready : goal.returns-then-not-gets-clause-ready
returns-then-not-gets-clause-ready c = ready_none c.args.prefixes.now c.args.old.now c.args.new.now c.args.channel.now (sym c.gets.ensures ∙ c.if-not-gets.true)

pub returns-clause-ready : goal.returns-clause-ready
returns-clause-ready c =
    let before = c.args.channel.now in
    let after : Channel = record { name = before.name; nicks = c.reserve.new.self } in
    let same : joined after ≡ joined before = λ i. record { name = before.name; case_map = c.reserve.ensures.case_map i; seats = c.reserve.ensures.seats i } in
    ready_some c.args.prefixes.now c.args.old.now c.args.new.now before after c.in_ok-next.next (sym c.gets.ensures ∙ c.if-not-gets.false) same
    (ap (λ (v : NewNickValue). v.case_map) c.in_ok-next.ensures ∙ c.case_map.ensures) (ap (λ (v : NewNickValue). v.nick) c.in_ok-next.ensures) c.in_ok-reserve.ensures.ok
