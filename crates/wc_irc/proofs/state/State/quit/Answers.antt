use Rattle.std.proofs.Common.{◌≡◌, List, length, map, ap, sym, ◌∙◌, arith}
use Rattle.std.proofs.lemmas.List.{with_items_is, length-map}
use Rattle.wc_irc.specs.declared.channel.Channel.{Channel}
use Rattle.wc_irc.specs.Channels.{Joined, joined, without_nick, after_quit}
use Rattle.wc_irc.specs.ServersSeen.{seen}
use Rattle.wc_irc.proofs.ChannelLemmas.{maps}
use Rattle.wc_irc.proofs.state.State.quit.Goals as goal

pub returns : goal.returns
returns c =
    let s = c.args.self.now in
    let nick = c.args.nick.now in
    let gone = c.quit.ensures.after ∙ ap (after_quit nick) c.deref_mut.ensures.value in
    let whole : length c.quit.new.channels ≡ s.channels.len = omega (arith, length-map c.quit.new.channels joined, ap (λ (l : List Joined). length l) gone, length-map s.channels.items (λ (channel : Channel). without_nick nick (joined channel)), s.channels.ok.0) in
    let is = ap (map joined) (with_items_is s.channels c.quit.new.channels whole) ∙ gone ∙ sym (maps nick s.channels.items) in
    λ i. record (seen s) { channels = is i }
