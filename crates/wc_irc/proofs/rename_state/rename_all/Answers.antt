use Rattle.std.proofs.Common.{map, ap, ◌∙◌}
use Rattle.wc_irc.specs.ChannelStates.{renamed}
use Rattle.wc_irc.proofs.ReadyLemmas.{all_can, given_is}
use Rattle.wc_irc.proofs.rename_state.rename_all.Goals as goal

pub give_all-requires : goal.give_all-requires
give_all-requires c = all_can c.args.prefixes.now c.args.old.now c.args.new.now c.ready_names.new.channels c.in_ok-names.names.items c.in_ok-names.ensures.ready

pub returns-clause-after : goal.returns-clause-after
returns-clause-after c =
    c.give_all.ensures ∙ given_is c.args.prefixes.now c.args.old.now c.args.new.now c.ready_names.new.channels c.in_ok-names.names.items c.in_ok-names.ensures.ready
    ∙ ap (map (renamed c.args.prefixes.now c.args.old.now c.args.new.now)) c.in_ok-names.ensures.same
