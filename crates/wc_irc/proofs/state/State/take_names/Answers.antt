use Rattle.std.proofs.Common.{◌≡◌, ap, sym, map, ◌∙◌, List, ℕ}
use Rattle.std.proofs.lemmas.Result.{on_ok_weaker, on_err_weaker}
use Rattle.wc_text.specs.Words.{words_of}
use Rattle.wc_irc.specs.declared.channel.Channel.{Channel}
use Rattle.wc_irc.specs.Channels.{joined}
use Rattle.wc_irc.specs.ChannelStates.{change_first}
use Rattle.wc_irc_nicks.specs.Merged.{merged}
use Rattle.wc_irc.specs.NameActs.{listed_seats, seats_in, with_names}
use Rattle.wc_irc.specs.ServersSeen.{seen}
use Rattle.wc_irc.proofs.OneChannelLemmas.{channel_changed, channel_kept, place_inside, nowhere}
use Rattle.wc_irc.proofs.state.State.take_names.Goals as goal

pub returns-in_default-clause-after : goal.returns-in_default-clause-after
returns-in_default-clause-after c =
    let s = c.args.self.now in
    let none = nowhere s.features.case_map c.param.result.now s.channels.items (sym c.place_of.ensures ∙ c.in_default.is) in
    let by = with_names (seats_in (seen s) c.args.m.now) in
    let channels = sym (none.changed by) ∙ ap (λ (n : List ℕ). change_first s.features.case_map n by (map joined s.channels.items)) c.param.ensures in
    λ i. record (seen s) { channels = channels i }

pub returns-clause-after : goal.returns-clause-after
returns-clause-after c =
    let s = c.args.self.now in
    let m = c.args.m.now in
    let here = c.index_mut.result.now in
    let next : Channel = record { name = here.name; nicks = c.take_names.new.list } in
    let by = with_names (seats_in (seen s) m) in
    let there = sym c.place_of.ensures ∙ c.in-Some.is in
    on_ok_weaker c.take_names.result (λ (is : c.take_names.new.list.seats ≡ merged here.nicks.case_map (listed_seats s.features.prefixes c.has_hosts_in_names-has_hosts.result (words_of c.param-2.result.now)) here.nicks.seats).
    let seats = is ∙ (λ i. merged here.nicks.case_map (listed_seats s.features.prefixes (c.has_hosts_in_names-has_hosts.ensures i) (words_of (c.param-2.ensures i))) here.nicks.seats) in
    let one : joined next ≡ by (joined here) = λ i. record { name = here.name; case_map = c.take_names.ensures.case_map i; seats = seats i } in
    let channels = channel_changed s.features.case_map c.param.result.now by s.channels.items c.in-Some.place here next there (one ∙ ap (λ (ch : Channel). by (joined ch)) c.index_mut.ensures.value)
    ∙ ap (λ (n : List ℕ). change_first s.features.case_map n by (map joined s.channels.items)) c.param.ensures in
    λ i. record (seen s) { channels = channels i }) c.take_names.ensures.ok

pub returns-clause-unchanged : goal.returns-clause-unchanged
returns-clause-unchanged c =
    let s = c.args.self.now in
    let here = c.index_mut.result.now in
    let next : Channel = record { name = here.name; nicks = c.take_names.new.list } in
    let there = sym c.place_of.ensures ∙ c.in-Some.is in
    on_err_weaker c.take_names.result (λ (is : c.take_names.new.list.seats ≡ here.nicks.seats).
    let one : joined next ≡ joined here = λ i. record { name = here.name; case_map = c.take_names.ensures.case_map i; seats = is i } in
    let kept = channel_kept s.channels.items c.in-Some.place here next (one ∙ ap joined c.index_mut.ensures.value) (place_inside s.features.case_map c.param.result.now s.channels.items c.in-Some.place here there) in
    λ i. record (seen s) { channels = kept i }) c.take_names.ensures.err
