use Rattle.std.proofs.Common.{◌≡◌, ap, sym, map, ◌∙◌}
use Rattle.wc_irc.specs.declared.channel.Channel.{Channel}
use Rattle.wc_irc.specs.Channels.{joined, without_nick}
use Rattle.wc_irc.specs.ServersSeen.{seen}
use Rattle.wc_irc.proofs.JoinLemmas.{leave_own, leave_other, leave_nowhere}
use Rattle.wc_irc.proofs.OneChannelLemmas.{channel_changed, channel_taken, nowhere}
use Rattle.wc_irc.proofs.state.State.leave.Goals as goal

pub returns-in_default : goal.returns-in_default
returns-in_default c =
    let s = c.args.self.now in
    let none = nowhere s.features.case_map c.args.name.now s.channels.items (sym c.place_of.ensures ∙ c.in_default.is) in
    leave_nowhere (seen s) c.args.nick.now c.args.name.now none.taken (none.changed (without_nick c.args.nick.now))

pub returns-then-is_own : goal.returns-then-is_own
returns-then-is_own c =
    let s = c.args.self.now in
    leave_own (seen s) c.args.nick.now c.args.name.now (map joined c.remove.new.self.items) (sym c.is_own.ensures ∙ c.if-is_own.true)
    (ap (map joined) c.remove.ensures.items ∙ channel_taken s.features.case_map c.args.name.now s.channels.items c.in-Some.place c.remove.result (sym c.place_of.ensures ∙ c.in-Some.is))

pub returns-else-is_own : goal.returns-else-is_own
returns-else-is_own c =
    let s = c.args.self.now in
    let here = c.index_mut.result.now in
    let next : Channel = record { name = here.name; nicks = c.remove-else-is_own.new.self } in
    let is : joined next ≡ without_nick c.args.nick.now (joined here) = λ i. record { name = here.name; case_map = c.remove-else-is_own.ensures.case_map i; seats = c.remove-else-is_own.ensures.seats i } in
    leave_other (seen s) c.args.nick.now c.args.name.now _ (sym c.is_own.ensures ∙ c.if-is_own.false)
    (channel_changed s.features.case_map c.args.name.now (without_nick c.args.nick.now) s.channels.items c.in-Some.place here next (sym c.place_of.ensures ∙ c.in-Some.is) (is ∙ ap (λ (ch : Channel). without_nick c.args.nick.now (joined ch)) c.index_mut.ensures.value))
