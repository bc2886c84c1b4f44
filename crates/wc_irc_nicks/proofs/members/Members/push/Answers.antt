use Rattle.std.proofs.Common.{◌≡◌, ◌∙◌, ◌++◌, ◌∷◌, [], false, length, ap, sym, arith, List, ℕ}
use Rattle.wc_nicklist.specs.Index.{at_long}
use Rattle.wc_ircmsg.specs.CaseMaps.{folded_name}
use Rattle.wc_irc_nicks.specs.Kept.{MembersValue, NewNickValue, filled}
use Rattle.wc_irc_nicks.specs.Seats.{has_seat}
use Rattle.wc_irc_nicks.proofs.KeptLemmas.{filled_le, filled_push}
use Rattle.wc_irc_nicks.proofs.MemberLemmas.{push_kept}
use Rattle.wc_irc_nicks.proofs.members.Members.push.Goals as goal

pub overflow_add-self : goal.overflow_add-self
overflow_add-self c = omega (arith, filled_le c.self.inside.places.items, c.self.invariant.1.counted, c.push_reserved.ensures.len, c.push_reserved.new.self.ok, c.push_reserved.new.self.small)

pub invariant_of-self : goal.invariant_of-self
invariant_of-self c =
    let inside = c.self.inside in
    let nick : c.new.inside.nick ≡ c.args.new.nick = ap (λ (v : NewNickValue). v.nick) c.new.view_is in
    let map_is : c.new.inside.case_map ≡ inside.case_map = ap (λ (v : NewNickValue). v.case_map) c.new.view_is ∙ c.requires.case_map ∙ sym (ap (λ (v : MembersValue). v.case_map) c.self.view_is) in
    let keyed : c.new.inside.key.items ≡ folded_name inside.case_map c.new.inside.nick = c.new.invariant ∙ ap (λ m. folded_name m c.new.inside.nick) map_is in
    let absent : has_seat inside.case_map c.new.inside.nick (filled inside.places.items) ≡ false =
    ap (λ (v : MembersValue). has_seat v.case_map c.new.inside.nick v.seats) c.self.view_is ∙ ap (λ (n : List ℕ). has_seat c.args.self.now.case_map n c.args.self.now.seats) nick ∙ c.requires.absent in
    push_kept inside.case_map inside.places.items c.push_reserved.new.self.items (at_long inside.index) (at_long c.insert.new.index) c.len-place.result inside.count (record { nick = c.new.inside.nick; modes = c.args.modes }) c.new.inside.key.items
    c.self.invariant.0 c.self.invariant.1 c.push_reserved.ensures.items (omega (arith, c.len-place.ensures, inside.places.ok)) keyed (omega (arith, ap (λ (n : List ℕ). length n) nick, c.requires.short)) absent c.insert.ensures.places

pub returns-clause-seats : goal.returns-clause-seats
returns-clause-seats c =
    let nick : c.new.inside.nick ≡ c.args.new.nick = ap (λ (v : NewNickValue). v.nick) c.new.view_is in
    ap filled c.push_reserved.ensures.items ∙ filled_push c.self.inside.places.items (record { nick = c.new.inside.nick; modes = c.args.modes })
    ∙ ap (λ (v : MembersValue). v.seats ++ record { nick = c.new.inside.nick; modes = c.args.modes } ∷ []) c.self.view_is
    ∙ ap (λ (n : List ℕ). c.args.self.now.seats ++ record { nick = n; modes = c.args.modes } ∷ []) nick
