use Rattle.std.proofs.Common.{◌≡◌, ap, ◌∙◌, subst, List}
use Rattle.std.proofs.lemmas.Result.{on_ok_weaker}
use Rattle.wc_ircmsg.specs.declared.case_map.CaseMap.{CaseMap}
use Rattle.wc_irc_texts.specs.declared.seat.Seat.{Seat}
use Rattle.wc_irc_nicks.specs.Merged.{merged, put_seat}
use Rattle.wc_irc_nicks.specs.Seats.{AreApart}
use Rattle.wc_irc_nicks.proofs.MergedLemmas.{merged_put}
use Rattle.wc_irc_nicks.proofs.overlay.Overlay.put.Goals as goal

pub returns-clause-after : goal.returns-clause-after
returns-clause-after c =
    let list = c.args.self.now.list.now in
    let changed = c.args.self.now.changed in
    let nick = c.args.nick.now in
    let modes = c.args.modes in
    let new : List Seat = c.put.new.list.seats in
    let apart : AreApart list.case_map changed.seats = subst (λ (m : CaseMap). AreApart m changed.seats) c.args.self.now.same_map c.put.ensures.apart in
    on_ok_weaker c.put.result (λ (is : new ≡ put_seat changed.case_map nick modes changed.seats).
    ap (λ (l : List Seat). merged list.case_map l list.seats) (is ∙ ap (λ (m : CaseMap). put_seat m nick modes changed.seats) c.args.self.now.same_map) ∙ merged_put list.case_map nick modes changed.seats list.seats apart) c.put.ensures.ok
