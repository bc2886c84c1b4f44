use Rattle.std.proofs.Common.{◌≡◌, ◌∙◌, ap, sym, subst, min, ◌-◌}
use Rattle.std.specs.Prelude.{vec_capacity, vec_len}
use Rattle.std.specs.HashMap.{spare}
use Rattle.wc_nicklist.specs.Index.{at_long}
use Rattle.wc_irc_nicks.specs.Kept.{MembersValue, with_seats}
use Rattle.wc_irc_nicks.specs.Seats.{with_modes}
use Rattle.wc_irc_nicks.proofs.MemberLemmas.{modes_missed, modes_kept, modes_put, place_inside}
use Rattle.wc_irc_nicks.proofs.members.Members.put_modes.Goals as goal

pub set_modes-requires : goal.set_modes-requires
set_modes-requires c =
    let inside = c.self.inside in
    place_inside inside.case_map inside.places.items (at_long inside.index) c.args.nick.now c.in-Some.place c.self.invariant.0 (sym c.find.ensures ∙ c.in-Some.is)

pub invariant_of-self : goal.invariant_of-self
invariant_of-self c =
    let inside = c.self.inside in
    modes_kept inside.case_map inside.places.items c.set_modes.new.places.items (at_long inside.index) c.args.nick.now c.args.modes c.in-Some.place inside.count c.self.invariant.0 c.self.invariant.1 (sym c.find.ensures ∙ c.in-Some.is) c.set_modes.ensures.places

pub returns-in-Some : goal.returns-in-Some
returns-in-Some c =
    let inside = c.self.inside in
    let room : min (vec_capacity c.set_modes.new.places - vec_len c.set_modes.new.places) (spare inside.index) ≡ min (vec_capacity inside.places - vec_len inside.places) (spare inside.index) =
    λ i. min (c.set_modes.ensures.capacity i - c.set_modes.ensures.len i) (spare inside.index) in
    modes_put inside.case_map inside.places.items c.set_modes.new.places.items (at_long inside.index) c.args.nick.now c.args.modes c.in-Some.place _ _ c.self.invariant.0 (sym c.find.ensures ∙ c.in-Some.is) c.set_modes.ensures.places room
    ∙ ap (λ (v : MembersValue). with_seats (with_modes v.case_map c.args.nick.now c.args.modes) v) c.self.view_is

pub returns-in_default : goal.returns-in_default
returns-in_default c =
    let inside = c.self.inside in
    subst (λ (v : MembersValue). v ≡ with_seats (with_modes v.case_map c.args.nick.now c.args.modes) v) c.self.view_is
    (modes_missed inside.case_map inside.places.items (at_long inside.index) c.args.nick.now c.args.modes _ c.self.invariant.0 (sym c.find.ensures ∙ c.in_default.is))
