use Rattle.std.proofs.Common.{◌≡◌, ◌+◌, ◌<◌, List, length, map, ap, sym, ◌∙◌, subst, set, take, arith}
use Rattle.std.proofs.lemmas.List.{length-map}
use Rattle.wc_irc.specs.declared.channel.Channel.{Channel}
use Rattle.wc_irc.specs.Channels.{Joined, joined}
use Rattle.wc_irc.specs.ReadySeen.{AreReady}
use Rattle.wc_irc.proofs.OneChannelLemmas.{channel_kept}
use Rattle.wc_irc.proofs.ReadyLemmas.{ready_one_more, ready_all}
use Rattle.wc_irc.proofs.rename_state.ready_names.Goals as goal

-- the channels that are gone through are as many as there were
as_many : (items old : List Channel) → map joined items ≡ map joined old → length items ≡ length old
as_many items old same = sym (length-map items joined) ∙ ap (λ (l : List Joined). length l) same ∙ length-map old joined

pub returns-in_err-next-clause-same : goal.returns-in_err-next-clause-same
returns-in_err-next-clause-same c =
    let items = c.loop-channel.channel-items in
    let n = c.loop-channel.channel-index in
    let inside : n < length items = omega (arith, as_many items c.args.channels.now c.loop-channel.invariant.same, c.loop-channel-test.true) in
    channel_kept items n c.channel-item.result c.ready_name.new.channel c.ready_name.ensures.same inside ∙ c.loop-channel.invariant.same

pub returns-in_err-put_name-clause-same : goal.returns-in_err-put_name-clause-same
returns-in_err-put_name-clause-same c =
    let items = c.loop-channel.channel-items in
    let n = c.loop-channel.channel-index in
    let inside : n < length items = omega (arith, as_many items c.args.channels.now c.loop-channel.invariant.same, c.loop-channel-test.true) in
    channel_kept items n c.channel-item.result c.ready_name.new.channel c.ready_name.ensures.same inside ∙ c.loop-channel.invariant.same

pub loop-channel-preserved : goal.loop-channel-preserved
loop-channel-preserved c =
    let items = c.loop-channel.channel-items in
    let n = c.loop-channel.channel-index in
    let next : Channel = c.ready_name.new.channel in
    let inside : n < length items = omega (arith, as_many items c.args.channels.now c.loop-channel.invariant.same, c.loop-channel-test.true) in
    record {
      ready = subst (AreReady c.args.prefixes.now c.args.old.now c.args.new.now (take (n + 1) (set items n next))) (sym c.in_ok-put_name.ensures)
          (ready_one_more c.args.prefixes.now c.args.old.now c.args.new.now items c.loop-channel.names.items n next c.in_ok-next.next inside c.loop-channel.invariant.ready c.in_ok-next.ensures.ready);
      same = channel_kept items n c.channel-item.result next c.ready_name.ensures.same inside ∙ c.loop-channel.invariant.same;
    }

pub returns-clause-ready : goal.returns-clause-ready
returns-clause-ready c =
    let items = c.loop-channel.channel-items in
    ready_all c.args.prefixes.now c.args.old.now c.args.new.now items c.loop-channel.names.items c.loop-channel.channel-index
    (omega (arith, as_many items c.args.channels.now c.loop-channel.invariant.same, c.loop-channel-test.false)) c.loop-channel.invariant.ready
