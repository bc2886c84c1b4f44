use Rattle.std.proofs.Common.{◌≡◌, ◌∙◌, sym, subst}
use Rattle.wc_nicklist.specs.Index.{at_long}
use Rattle.wc_irc_nicks.specs.Kept.{MembersValue}
use Rattle.wc_irc_nicks.specs.Seats.{without_seat}
use Rattle.wc_irc_nicks.proofs.MemberLemmas.{nothing_taken}
use Rattle.wc_irc_nicks.proofs.members.Members.remove.Goals as goal

pub returns-in_default-clause-seats : goal.returns-in_default-clause-seats
returns-in_default-clause-seats c =
    let inside = c.self.inside in
    subst (λ (v : MembersValue). v.seats ≡ without_seat v.case_map c.args.nick.now v.seats) c.self.view_is
    (nothing_taken inside.case_map inside.places.items (at_long inside.index) c.args.nick.now c.self.invariant.0 (sym c.find.ensures ∙ c.in_default.is))
