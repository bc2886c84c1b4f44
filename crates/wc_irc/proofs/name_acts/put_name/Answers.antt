use Rattle.std.proofs.Common.{◌≡◌, sym, ◌∙◌}
use Rattle.std.proofs.lemmas.Result.{on_ok_weaker}
use Rattle.wc_irc_texts.specs.declared.seat.Seat.{Seat}
use Rattle.wc_irc_nicks.specs.Merged.{merged, put_seat}
use Rattle.wc_irc.specs.NameActs.{listed_seat}
use Rattle.wc_irc_nicks.specs.OverlaySeen.{seats_over}
use Rattle.wc_irc.proofs.ModeLemmas.{name_none, name_some, placed_none, placed_some, over_put}
use Rattle.wc_irc.proofs.OneChannelLemmas.{short_nick}
use Rattle.wc_irc.proofs.name_acts.put_name.Goals as goal

pub put-requires : goal.put-requires
put-requires c = short_nick c.args.groups.prefixes.now c.listed_name-listed.result.nick.now (sym c.is_nick.ensures ∙ c.if-not-is_nick.false)

pub returns-then-not-is_nick-clause-acts : goal.returns-then-not-is_nick-clause-acts
returns-then-not-is_nick-clause-acts c =
    let overlay = c.args.overlay.now in
    let prefixes = c.args.groups.prefixes.now in
    λ others. placed_none c.args.acts.now prefixes c.args.groups.buffer.now overlay.list.now.case_map (listed_seat prefixes c.args.has_hosts c.args.name.now) others (seats_over overlay)
    (name_none prefixes c.args.has_hosts c.args.name.now c.listed_name-listed.result.nick.now c.listed_name-listed.ensures.nick (sym c.is_nick.ensures ∙ c.if-not-is_nick.true))

pub returns-clause-acts : goal.returns-clause-acts
returns-clause-acts c =
    let overlay = c.args.overlay.now in
    let list = overlay.list.now in
    let prefixes = c.args.groups.prefixes.now in
    let nick = c.listed_name-listed.result.nick.now in
    let modes = c.listed_name-listed.result.modes in
    let seat : Seat = record { nick = nick; modes = modes } in
    let later = c.put.new.self in
    let front = name_some prefixes c.args.has_hosts c.args.name.now nick modes c.listed_name-listed.ensures.nick c.listed_name-listed.ensures.modes (sym c.is_nick.ensures ∙ c.if-not-is_nick.false) in
    on_ok_weaker c.put.result (λ (is : merged list.case_map later.changed.seats list.seats ≡ put_seat list.case_map nick modes (merged list.case_map overlay.changed.seats list.seats)).
    λ others. placed_some c.args.acts.now c.put_placed.new.acts prefixes c.args.groups.buffer.now list.case_map seat (listed_seat prefixes c.args.has_hosts c.args.name.now) others (seats_over overlay) (seats_over later) front c.in_ok-put_placed.ensures
    (over_put overlay later nick modes c.put.ensures.list is)) c.put.ensures.after
