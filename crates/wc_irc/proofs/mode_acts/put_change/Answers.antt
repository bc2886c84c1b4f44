use Rattle.std.proofs.Common.{◌≡◌, ◌++◌, ap, ◌∙◌, refl}
use Rattle.std.proofs.lemmas.Result.{on_ok_weaker}
use Rattle.wc_irc_texts.specs.declared.seat.ModeSet.{ModeSet}
use Rattle.wc_irc_nicks.specs.Merged.{merged, put_seat}
use Rattle.wc_irc_nicks.specs.MergedSeen.{seat_in}
use Rattle.wc_irc.specs.ModeActs.{modes_after, moved}
use Rattle.wc_irc_texts.specs.ModeBits.{highest}
use Rattle.wc_irc_texts.specs.ModesSeen.{change_in}
use Rattle.wc_irc_nicks.specs.OverlaySeen.{seats_over}
use Rattle.wc_irc.proofs.ModeLemmas.{change_none, change_some, over_put}
use Rattle.wc_irc.proofs.mode_acts.put_change.Goals as goal

pub put-requires : goal.put-requires
put-requires c = c.in-Some.ensures.short refl

pub returns-in_default-clause-acts : goal.returns-in_default-clause-acts
returns-in_default-clause-acts c =
    let overlay = c.args.overlay.now in
    λ others. change_none c.args.acts.now c.args.groups.prefixes.now c.args.groups.buffer.now overlay.list.now.case_map (change_in c.args.change) others (seats_over overlay) c.in_default.ensures.found

pub returns-clause-acts : goal.returns-clause-acts
returns-clause-acts c =
    let overlay = c.args.overlay.now in
    let list = overlay.list.now in
    let prefixes = c.args.groups.prefixes.now in
    let buffer = c.args.groups.buffer.now in
    let change = change_in c.args.change in
    let seat = seat_in c.in-Some.found in
    let later = c.put.new.self in
    on_ok_weaker c.put.result (λ (is : merged list.case_map later.changed.seats list.seats ≡ put_seat list.case_map change.nick c.modes_after-modes.result (merged list.case_map overlay.changed.seats list.seats)).
    λ others. change_some c.args.acts.now c.put_moved.new.acts prefixes buffer list.case_map change others (seats_over overlay) (seats_over later) seat c.in-Some.ensures.found
    (c.in_ok-put_moved.ensures ∙ ap (λ (m : ModeSet). c.args.acts.now ++ moved prefixes buffer seat (highest m.0)) c.modes_after-modes.ensures)
    (over_put overlay later change.nick (modes_after prefixes change seat.modes) c.put.ensures.list
    (is ∙ ap (λ (m : ModeSet). put_seat list.case_map change.nick m (merged list.case_map overlay.changed.seats list.seats)) c.modes_after-modes.ensures))) c.put.ensures.after
