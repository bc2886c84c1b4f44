use Rattle.std.proofs.Common.{◌≡◌, ap, sym, map, ◌∙◌, List, ℕ}
use Rattle.wc_irc.specs.declared.channel.Channel.{Channel}
use Rattle.wc_irc.specs.Channels.{joined}
use Rattle.wc_irc.specs.ChannelStates.{change_first}
use Rattle.wc_irc.specs.ModeActs.{with_changes, with_modes_of}
use Rattle.wc_irc_texts.specs.Modes.{ModeChange, mode_changes}
use Rattle.wc_irc_texts.specs.ModesSeen.{changes_in}
use Rattle.wc_irc.specs.ServersSeen.{seen}
use Rattle.wc_irc.proofs.OneChannelLemmas.{channel_changed, nowhere}
use Rattle.wc_irc.proofs.state.State.take_modes.Goals as goal

pub returns-in_default-clause-after : goal.returns-in_default-clause-after
returns-in_default-clause-after c =
    let s = c.args.self.now in
    let none = nowhere s.features.case_map c.param.result.now s.channels.items (sym c.place_of.ensures ∙ c.in_default.is) in
    let by = with_modes_of (seen s) c.args.m.now in
    let channels = sym (none.changed by) ∙ ap (λ (n : List ℕ). change_first s.features.case_map n by (map joined s.channels.items)) c.param.ensures in
    λ i. record (seen s) { channels = channels i }

pub returns-clause-after : goal.returns-clause-after
returns-clause-after c =
    let s = c.args.self.now in
    let here = c.index_mut.result.now in
    let next : Channel = record { name = here.name; nicks = c.take_changes.new.list } in
    let by = with_modes_of (seen s) c.args.m.now in
    let changes = ap changes_in c.as_slice.ensures.value ∙ c.in_ok-changes.ensures ∙ ap (mode_changes s.features) c.params_from.ensures in
    let seats = c.take_changes.ensures.seats ∙ ap (λ (l : List ModeChange). with_changes s.features.prefixes here.nicks.case_map l here.nicks.seats) changes in
    let one : joined next ≡ by (joined here) = λ i. record { name = here.name; case_map = c.take_changes.ensures.case_map i; seats = seats i } in
    let channels = channel_changed s.features.case_map c.param.result.now by s.channels.items c.in-Some.place here next (sym c.place_of.ensures ∙ c.in-Some.is) (one ∙ ap (λ (ch : Channel). by (joined ch)) c.index_mut.ensures.value)
    ∙ ap (λ (n : List ℕ). change_first s.features.case_map n by (map joined s.channels.items)) c.param.ensures in
    λ i. record (seen s) { channels = channels i }
