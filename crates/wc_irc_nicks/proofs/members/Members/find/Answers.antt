use Rattle.std.proofs.Common.{◌∙◌, ap, sym, subst, arith}
use Rattle.wc_nicklist.specs.Index.{at_long}
use Rattle.wc_irc_nicks.specs.Kept.{MembersValue}
use Rattle.wc_irc_nicks.specs.Seats.{seat_of, AreApart}
use Rattle.wc_irc_nicks.proofs.MemberLemmas.{seat_found, seat_missed, place_inside, kept_apart, short_placed}
use Rattle.wc_irc_nicks.proofs.members.Members.find.Goals as goal

pub index-requires : goal.index-requires
index-requires c =
    let inside = c.self.inside in
    omega (arith, place_inside inside.case_map inside.places.items (at_long inside.index) c.args.nick.now c.in-Some.place c.self.invariant.0 (sym c.find.ensures ∙ c.in-Some.is))

pub returns-in-Some-clause-found : goal.returns-in-Some-clause-found
returns-in-Some-clause-found c =
    let inside = c.self.inside in
    c.as_ref.ensures.value
    ∙ seat_found inside.case_map inside.places.items (at_long inside.index) c.args.nick.now c.in-Some.place c.index.result.now c.self.invariant.0 (sym c.find.ensures ∙ c.in-Some.is) c.index.ensures
    ∙ ap (λ (v : MembersValue). seat_of v.case_map c.args.nick.now v.seats) c.self.view_is

pub returns-in-None-clause-found : goal.returns-in-None-clause-found
returns-in-None-clause-found c =
    let inside = c.self.inside in
    seat_missed inside.case_map inside.places.items (at_long inside.index) c.args.nick.now c.self.invariant.0 (sym c.find.ensures ∙ c.in-None.is)
    ∙ ap (λ (v : MembersValue). seat_of v.case_map c.args.nick.now v.seats) c.self.view_is

pub returns-in-Some-clause-apart : goal.returns-in-Some-clause-apart
returns-in-Some-clause-apart c =
    let inside = c.self.inside in
    subst (λ (v : MembersValue). AreApart v.case_map v.seats) c.self.view_is (kept_apart inside.case_map inside.places.items (at_long inside.index) c.self.invariant.0)

pub returns-in-None-clause-apart : goal.returns-in-None-clause-apart
returns-in-None-clause-apart c =
    let inside = c.self.inside in
    subst (λ (v : MembersValue). AreApart v.case_map v.seats) c.self.view_is (kept_apart inside.case_map inside.places.items (at_long inside.index) c.self.invariant.0)

pub returns-in-Some-clause-short : goal.returns-in-Some-clause-short
returns-in-Some-clause-short c = λ _. short_placed c.self.inside.case_map (at_long c.self.inside.index) c.args.nick.now c.in-Some.place (sym c.find.ensures ∙ c.in-Some.is)
