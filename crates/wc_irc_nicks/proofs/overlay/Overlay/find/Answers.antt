use Rattle.std.proofs.Common.{◌≡◌, ap, sym, ◌∙◌, subst, refl, Option, Some, None}
use Rattle.std.specs.Option.{option_copied}
use Rattle.wc_ircmsg.specs.declared.case_map.CaseMap.{CaseMap}
use Rattle.wc_irc_texts.specs.declared.seat.Seat.{Seat}
use Rattle.wc_irc_nicks.specs.Seats.{seat_of, AreApart}
use Rattle.wc_irc_nicks.proofs.MergedLemmas.{found_in, found_merged, lent_there, copied_there}
use Rattle.wc_irc_nicks.proofs.overlay.Overlay.find.Goals as goal

pub returns-in-Some-clause-found : goal.returns-in-Some-clause-found
returns-in-Some-clause-found c =
    let list = c.args.self.now.list.now in
    let changed = c.args.self.now.changed in
    let nick = c.args.nick.now in
    let here : Some c.in-Some.seat.now ≡ seat_of list.case_map nick list.seats = c.in-Some.ensures.found in
    let over_it : option_copied c.find-changed.result ≡ seat_of list.case_map nick changed.seats = c.find-changed.ensures.found ∙ ap (λ (m : CaseMap). seat_of m nick changed.seats) c.args.self.now.same_map in
    let apart : AreApart list.case_map changed.seats = subst (λ (m : CaseMap). AreApart m changed.seats) c.args.self.now.same_map c.find-changed.ensures.apart in
    ap (λ (s : Seat). Some s) c.over.ensures ∙ (λ i. found_in (here i) (over_it i)) ∙ sym (found_merged list.case_map nick changed.seats list.seats apart)

pub returns-in-None-clause-found : goal.returns-in-None-clause-found
returns-in-None-clause-found c =
    let list = c.args.self.now.list.now in
    let changed = c.args.self.now.changed in
    let nick = c.args.nick.now in
    let here : ◌≡◌ {A = Option Seat} None (seat_of list.case_map nick list.seats) = c.in-None.ensures.found in
    let over_it : option_copied c.find-changed.result ≡ seat_of list.case_map nick changed.seats = c.find-changed.ensures.found ∙ ap (λ (m : CaseMap). seat_of m nick changed.seats) c.args.self.now.same_map in
    let apart : AreApart list.case_map changed.seats = subst (λ (m : CaseMap). AreApart m changed.seats) c.args.self.now.same_map c.find-changed.ensures.apart in
    c.found.ensures ∙ (λ i. found_in (here i) (over_it i)) ∙ sym (found_merged list.case_map nick changed.seats list.seats apart)

pub returns-in-Some-clause-short : goal.returns-in-Some-clause-short
returns-in-Some-clause-short c = λ _. c.in-Some.ensures.short refl

pub returns-in-None-clause-short : goal.returns-in-None-clause-short
returns-in-None-clause-short c = λ some. c.find-changed.ensures.short (copied_there c.find-changed.result (lent_there (option_copied c.find-changed.result) c.found.result c.found.ensures some))
