use Rattle.std.proofs.Common.{◌≡◌, get_or}
use Rattle.wc_irc.specs.declared.channel.Channel.{Channel}
use Rattle.wc_irc.specs.Channels.{joined, without_nick}
use Rattle.wc_irc.proofs.ChannelLemmas.{change_next, change_all, leaves_others}
use Rattle.wc_irc.proofs.channel.quit.Goals as goal

pub loop-channel-preserved : goal.loop-channel-preserved
loop-channel-preserved c =
    let items = c.loop-channel.channel-items in
    let n = c.loop-channel.channel-index in
    let here : Channel = get_or items n c.channel-item.result in
    let next : Channel = record { name = here.name; nicks = c.remove.new.self } in
    let is : joined next ≡ without_nick c.args.nick.now (joined here) = λ i. record { name = here.name; case_map = c.remove.ensures.case_map i; seats = c.remove.ensures.seats i } in
    change_next (without_nick c.args.nick.now) items c.args.channels.now n c.channel-item.result next c.loop-channel-test.true c.loop-channel.invariant is

pub returns-clause-after : goal.returns-clause-after
returns-clause-after c = change_all c.args.nick.now c.loop-channel.channel-items c.args.channels.now c.loop-channel.channel-index c.loop-channel-test.false c.loop-channel.invariant

pub returns-clause-others : goal.returns-clause-others
returns-clause-others c = λ channel. leaves_others c.args.nick.now channel
