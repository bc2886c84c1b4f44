use Rattle.std.proofs.Common.{◌≡◌, ap, sym, ◌∙◌}
use Rattle.std.proofs.lemmas.Result.{on_ok_weaker, on_err_weaker}
use Rattle.wc_irc.specs.declared.channel.Channel.{Channel}
use Rattle.wc_irc.specs.Channels.{joined}
use Rattle.wc_irc.specs.ChannelStates.{with_nick, entered}
use Rattle.wc_irc.specs.ServersSeen.{seen}
use Rattle.wc_irc.proofs.JoinLemmas.{join_there, join_own, join_other}
use Rattle.wc_irc.proofs.OneChannelLemmas.{channel_there, channel_changed, channel_kept, place_inside, nowhere}
use Rattle.wc_irc.proofs.state.State.join.Goals as goal

pub returns-in-Some-clause-after : goal.returns-in-Some-clause-after
returns-in-Some-clause-after c =
    let s = c.args.self.now in
    let here = c.index_mut.result.now in
    let there = sym c.place_of.ensures ∙ c.in-Some.is in
    on_ok_weaker c.come_in.result (λ (is : joined c.come_in.new.self ≡ with_nick s.features.prefixes c.args.nick.now (joined here)).
    join_there (seen s) c.args.nick.now c.args.name.now _ _ (channel_there s.features.case_map c.args.name.now s.channels.items c.in-Some.place here there)
    (channel_changed s.features.case_map c.args.name.now (with_nick s.features.prefixes c.args.nick.now) s.channels.items c.in-Some.place here c.come_in.new.self there
    (is ∙ ap (λ (ch : Channel). with_nick s.features.prefixes c.args.nick.now (joined ch)) c.index_mut.ensures.value))) c.come_in.ensures.after

pub returns-in-Some-clause-unchanged : goal.returns-in-Some-clause-unchanged
returns-in-Some-clause-unchanged c =
    let s = c.args.self.now in
    let here = c.index_mut.result.now in
    let there = sym c.place_of.ensures ∙ c.in-Some.is in
    on_err_weaker c.come_in.result (λ (is : joined c.come_in.new.self ≡ joined here).
    let kept = channel_kept s.channels.items c.in-Some.place here c.come_in.new.self (is ∙ ap joined c.index_mut.ensures.value) (place_inside s.features.case_map c.args.name.now s.channels.items c.in-Some.place here there) in
    λ i. record (seen s) { channels = kept i }) c.come_in.ensures.unchanged

pub returns-in-None-clause-after : goal.returns-in-None-clause-after
returns-in-None-clause-after c =
    let s = c.args.self.now in
    let none = nowhere s.features.case_map c.args.name.now s.channels.items (sym c.place_of.ensures ∙ c.in-None.is) in
    on_ok_weaker c.enter.result (λ (is : seen c.enter.new.self ≡ entered (seen s) c.args.nick.now c.args.name.now).
    is ∙ join_own (seen s) c.args.nick.now c.args.name.now none.found (sym c.is_own.ensures ∙ c.if-is_own.true)) c.enter.ensures.after

pub returns-in-None-2-clause-after : goal.returns-in-None-2-clause-after
returns-in-None-2-clause-after c =
    let s = c.args.self.now in
    let none = nowhere s.features.case_map c.args.name.now s.channels.items (sym c.place_of.ensures ∙ c.in-None-2.is) in
    join_other (seen s) c.args.nick.now c.args.name.now none.found (sym c.is_own.ensures ∙ c.if-is_own.false)
