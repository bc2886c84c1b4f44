use Rattle.std.proofs.Common.{◌≡◌, ◌∙◌, false, length, ap, sym, subst, arith, List, ℕ}
use Rattle.std.proofs.lemmas.Bool.{false≢true}
use Rattle.wc_nicklist.specs.Index.{at_long}
use Rattle.wc_ircmsg.specs.CaseMaps.{folded_name}
use Rattle.wc_irc_nicks.specs.Kept.{MembersValue, NewNickValue, filled}
use Rattle.wc_irc_nicks.specs.Seats.{has_seat, without_seat, with_name}
use Rattle.wc_irc_nicks.proofs.MemberLemmas.{rename_kept, name_put, place_inside, missed}
use Rattle.wc_irc_nicks.proofs.members.Members.rename.Goals as goal

pub unreachable-requires : goal.unreachable-requires
unreachable-requires c =
    let inside = c.self.inside in
    let none : has_seat c.args.self.now.case_map c.args.old.now c.args.self.now.seats ≡ false =
    subst (λ (v : MembersValue). has_seat v.case_map c.args.old.now v.seats ≡ false) c.self.view_is (missed inside.case_map inside.places.items (at_long inside.index) c.args.old.now c.self.invariant.0 (sym c.find.ensures ∙ c.in_default.is)) in
    false≢true (sym none ∙ c.requires.there)

pub set_name-requires : goal.set_name-requires
set_name-requires c =
    let inside = c.self.inside in
    place_inside inside.case_map inside.places.items (at_long inside.index) c.args.old.now c.in-Some.place c.self.invariant.0 (sym c.find.ensures ∙ c.in-Some.is)

pub invariant_of-self : goal.invariant_of-self
invariant_of-self c =
    let inside = c.self.inside in
    let nick : c.new.inside.nick ≡ c.args.new.nick = ap (λ (v : NewNickValue). v.nick) c.new.view_is in
    let map_is : c.new.inside.case_map ≡ inside.case_map = ap (λ (v : NewNickValue). v.case_map) c.new.view_is ∙ c.requires.case_map ∙ sym (ap (λ (v : MembersValue). v.case_map) c.self.view_is) in
    let keyed : c.new.inside.key.items ≡ folded_name inside.case_map c.new.inside.nick = c.new.invariant ∙ ap (λ m. folded_name m c.new.inside.nick) map_is in
    let absent : has_seat inside.case_map c.new.inside.nick (without_seat inside.case_map c.args.old.now (filled inside.places.items)) ≡ false =
    ap (λ (v : MembersValue). has_seat v.case_map c.new.inside.nick (without_seat v.case_map c.args.old.now v.seats)) c.self.view_is
    ∙ ap (λ (n : List ℕ). has_seat c.args.self.now.case_map n (without_seat c.args.self.now.case_map c.args.old.now c.args.self.now.seats)) nick ∙ c.requires.absent in
    rename_kept inside.case_map inside.places.items c.set_name.new.places.items (at_long inside.index) (at_long c.forget.new.index) (at_long c.insert.new.index) c.args.old.now c.new.inside.nick c.new.inside.key.items c.in-Some.place inside.count
    c.self.invariant.0 c.self.invariant.1 (sym c.find.ensures ∙ c.in-Some.is) c.forget.ensures.places c.insert.ensures.places keyed (omega (arith, ap (λ (n : List ℕ). length n) nick, c.requires.short)) absent c.set_name.ensures.places

pub returns-clause-seats : goal.returns-clause-seats
returns-clause-seats c =
    let inside = c.self.inside in
    let nick : c.new.inside.nick ≡ c.args.new.nick = ap (λ (v : NewNickValue). v.nick) c.new.view_is in
    name_put inside.case_map inside.places.items c.set_name.new.places.items (at_long inside.index) c.args.old.now c.new.inside.nick c.in-Some.place c.self.invariant.0 (sym c.find.ensures ∙ c.in-Some.is) c.set_name.ensures.places
    ∙ ap (λ (v : MembersValue). with_name v.case_map c.args.old.now c.new.inside.nick v.seats) c.self.view_is
    ∙ ap (λ (n : List ℕ). with_name c.args.self.now.case_map c.args.old.now n c.args.self.now.seats) nick
