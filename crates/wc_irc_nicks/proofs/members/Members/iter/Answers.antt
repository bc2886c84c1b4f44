use Rattle.std.proofs.Common.{subst}
use Rattle.wc_nicklist.specs.Index.{at_long}
use Rattle.wc_irc_nicks.specs.Kept.{MembersValue}
use Rattle.wc_irc_nicks.specs.Seats.{AreApart}
use Rattle.wc_irc_nicks.proofs.MemberLemmas.{kept_apart}
use Rattle.wc_irc_nicks.proofs.members.Members.iter.Goals as goal

pub returns-clause-apart : goal.returns-clause-apart
returns-clause-apart c =
    let inside = c.self.inside in
    subst (λ (v : MembersValue). AreApart v.case_map v.seats) c.self.view_is (kept_apart inside.case_map inside.places.items (at_long inside.index) c.self.invariant.0)
