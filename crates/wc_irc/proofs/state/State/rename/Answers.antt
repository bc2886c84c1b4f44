use Rattle.std.proofs.Common.{◌≡◌, List, length, map, ap, ◌∙◌, arith}
use Rattle.std.proofs.lemmas.List.{with_items_is, length-map}
use Rattle.wc_irc.specs.declared.channel.Channel.{Channel}
use Rattle.wc_irc.specs.Channels.{Joined, joined}
use Rattle.wc_irc.specs.ChannelStates.{renamed}
use Rattle.wc_irc.specs.ServersSeen.{seen}
use Rattle.wc_irc.proofs.state.State.rename.Goals as goal

pub returns-clause-after : goal.returns-clause-after
returns-clause-after c =
    let s = c.args.self.now in
    let by = renamed s.features.prefixes c.args.old.now c.args.new.now in
    let is = c.in_ok-rename_all.ensures.after ∙ ap (λ (l : List Channel). map by (map joined l)) c.deref_mut.ensures.value in
    let whole : length c.rename_all.new.channels ≡ s.channels.len = omega (arith, length-map c.rename_all.new.channels joined, ap (λ (l : List Joined). length l) is, length-map (map joined s.channels.items) by, length-map s.channels.items joined, s.channels.ok.0) in
    let channels = ap (map joined) (with_items_is s.channels c.rename_all.new.channels whole) ∙ is in
    let nick = c.in_ok-nick.ensures ∙ c.own_after.ensures in
    λ i. record (seen s) { nick = nick i; channels = channels i }
