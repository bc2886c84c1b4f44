-- Another name for a nick, on one channel after another.
use Rattle.std.proofs.Common.{◌≡◌, ℕ, zero, suc, ◌+◌, ◌<◌, ◌≤◌, Bool, true, false, cond, List, [], ◌∷◌, ◌++◌, length, map, take, drop, get_or, set, Option, Some, None, refl, ap, sym, ◌∙◌, subst, arith}
use Rattle.std.specs.Prelude.{is_some, ◌&&◌, not}
use Rattle.std.proofs.lemmas.List.{take_all}
use Rattle.wc_ircmsg.specs.declared.case_map.CaseMap.{CaseMap}
use Rattle.wc_ircmsg.specs.declared.prefixes.Prefixes.{Prefixes}
use Rattle.wc_irc.specs.declared.channel.Channel.{Channel}
use Rattle.wc_irc_texts.specs.declared.seat.Seat.{Seat}
use Rattle.wc_irc.specs.Channels.{Joined, joined, without_nick}
use Rattle.wc_irc.specs.ChannelStates.{may_have, renamed}
use Rattle.wc_irc_nicks.specs.Kept.{NewNickValue}
use Rattle.wc_irc.specs.ReadySeen.{given, give_each, CanGive, AllCanGive, IsReady, AreReady}
use Rattle.wc_irc_texts.specs.Names.{is_nick}
use Rattle.wc_irc_nicks.specs.Seats.{is_named, seat_of, has_seat, without_seat, with_name}
use Rattle.wc_irc.proofs.ChannelLemmas.{leaves_others}
use Rattle.wc_irc.proofs.OneChannelLemmas.{short_nick}

none_named : (case_map : CaseMap) (old new : List ℕ) (seats : List Seat) → has_seat case_map old seats ≡ false → with_name case_map old new seats ≡ seats
none_named case_map old new [] absent = refl
none_named case_map old new (s ∷ seats) absent = by (is_named case_map old s) absent (none_named case_map old new seats) where
  by : (t : Bool) → is_some (cond t (Some s) (seat_of case_map old seats)) ≡ false → (has_seat case_map old seats ≡ false → with_name case_map old new seats ≡ seats)
      → cond t (record { nick = new; modes = s.modes }) s ∷ with_name case_map old new seats ≡ s ∷ seats
  by true found ih = absurd (cc)
  by false found ih = ap (λ (l : List Seat). s ∷ l) (ih found)

-- a nick that does not get the name goes, and where there is none nothing changes
pub not_given : (prefixes : Prefixes) (old new : List ℕ) (c : Joined) → (has_seat c.case_map old c.seats && may_have prefixes old new c) ≡ false → without_nick old c ≡ renamed prefixes old new c
not_given prefixes old new c e = by (may_have prefixes old new c) (has_seat c.case_map old c.seats) refl e where
  by : (t u : Bool) → has_seat c.case_map old c.seats ≡ u → (u && t) ≡ false → without_nick old c ≡ cond t (record c { seats = with_name c.case_map old new c.seats }) (without_nick old c)
  by false u h e = refl
  by true true h e = absurd (cc)
  by true false h e = leaves_others old c h ∙ sym (λ i. record c { seats = none_named c.case_map old new c.seats h i })

pub is_given : (prefixes : Prefixes) (old new : List ℕ) (c : Joined) → (has_seat c.case_map old c.seats && may_have prefixes old new c) ≡ true → record c { seats = with_name c.case_map old new c.seats } ≡ renamed prefixes old new c
is_given prefixes old new c e = by (has_seat c.case_map old c.seats) (may_have prefixes old new c) e where
  by : (u t : Bool) → (u && t) ≡ true → record c { seats = with_name c.case_map old new c.seats } ≡ cond t (record c { seats = with_name c.case_map old new c.seats }) (without_nick old c)
  by true true e = refl
  by true false e = absurd (cc)
  by false t e = absurd (cc)

-- ---- the channels whose names are made ready one after another

pub ready_next : (prefixes : Prefixes) (old new : List ℕ) (items : List Channel) (names : List (Option NewNickValue)) (n : ℕ) (c : Channel) (next : Option NewNickValue)
    → n < length items → AreReady prefixes old new (take n items) names → IsReady prefixes old new c next → AreReady prefixes old new (take (suc n) (set items n c)) (names ++ next ∷ [])
ready_next prefixes old new [] names n c next inside before is = absurd (omega arith)
ready_next prefixes old new (first ∷ items) [] zero c next inside before is = (is, tt)
ready_next prefixes old new (first ∷ items) (x ∷ names) zero c next inside before is = absurd before
ready_next prefixes old new (first ∷ items) [] (suc n) c next inside before is = absurd before
ready_next prefixes old new (first ∷ items) (x ∷ names) (suc n) c next inside before is = (before.0, ready_next prefixes old new items names n c next (omega arith) before.1 is)

pub ready_one_more : (prefixes : Prefixes) (old new : List ℕ) (items : List Channel) (names : List (Option NewNickValue)) (n : ℕ) (c : Channel) (next : Option NewNickValue)
    → n < length items → AreReady prefixes old new (take n items) names → IsReady prefixes old new c next → AreReady prefixes old new (take (n + 1) (set items n c)) (names ++ next ∷ [])
ready_one_more prefixes old new items names n c next inside before is =
    let one : suc n ≡ n + 1 = omega arith in
    subst (λ (m : ℕ). AreReady prefixes old new (take m (set items n c)) (names ++ next ∷ [])) one (ready_next prefixes old new items names n c next inside before is)

pub ready_all : (prefixes : Prefixes) (old new : List ℕ) (items : List Channel) (names : List (Option NewNickValue)) (n : ℕ) → length items ≤ n → AreReady prefixes old new (take n items) names → AreReady prefixes old new items names
ready_all prefixes old new items names n past before = subst (λ (l : List Channel). AreReady prefixes old new l names) (take_all n items past) before

pub all_can : (prefixes : Prefixes) (old new : List ℕ) (channels : List Channel) (names : List (Option NewNickValue)) → AreReady prefixes old new channels names → AllCanGive old channels names
all_can prefixes old new [] [] ready = tt
all_can prefixes old new [] (x ∷ names) ready = absurd ready
all_can prefixes old new (c ∷ channels) [] ready = absurd ready
all_can prefixes old new (c ∷ channels) (x ∷ names) ready = (ready.0.can, all_can prefixes old new channels names ready.1)

-- what all of them come to
pub given_is : (prefixes : Prefixes) (old new : List ℕ) (channels : List Channel) (names : List (Option NewNickValue)) → AreReady prefixes old new channels names → give_each old names (map joined channels) ≡ map (renamed prefixes old new) (map joined channels)
given_is prefixes old new [] [] ready = refl
given_is prefixes old new [] (x ∷ names) ready = absurd ready
given_is prefixes old new (c ∷ channels) [] ready = absurd ready
given_is prefixes old new (c ∷ channels) (x ∷ names) ready = λ i. ready.0.is i ∷ given_is prefixes old new channels names ready.1 i

-- ---- and the names that are given one after another

-- the first channels are as they are, and the others give the names that are left
abbrev pub give_from : List ℕ → ℕ → List (Option NewNickValue) → List Joined → List Joined
give_from old n names channels = take n channels ++ give_each old names (drop n channels)

pub give_next : (old : List ℕ) (items : List Channel) (n : ℕ) (d c : Channel) (next : Option NewNickValue) (names : List (Option NewNickValue)) → n < length items → joined c ≡ given old next (joined (get_or items n d))
    → give_from old (suc n) names (map joined (set items n c)) ≡ give_from old n (next ∷ names) (map joined items)
give_next old [] n d c next names inside is = absurd (omega arith)
give_next old (i ∷ items) zero d c next names inside is = ap (λ (x : Joined). x ∷ give_each old names (map joined items)) is
give_next old (i ∷ items) (suc n) d c next names inside is = ap (λ (l : List Joined). joined i ∷ l) (give_next old items n d c next names (omega arith) is)

pub give_one_more : (old : List ℕ) (items : List Channel) (n : ℕ) (d c : Channel) (next : Option NewNickValue) (names : List (Option NewNickValue)) → n < length items → joined c ≡ given old next (joined (get_or items n d))
    → give_from old (n + 1) names (map joined (set items n c)) ≡ give_from old n (next ∷ names) (map joined items)
give_one_more old items n d c next names inside is =
    let one : suc n ≡ n + 1 = omega arith in
    subst (λ (m : ℕ). give_from old m names (map joined (set items n c)) ≡ give_from old n (next ∷ names) (map joined items)) one (give_next old items n d c next names inside is)

-- the next name has a channel, which can give it
pub some_there : (old : List ℕ) (items : List Channel) (n : ℕ) (next : Option NewNickValue) (names : List (Option NewNickValue)) → AllCanGive old (drop n items) (next ∷ names) → n < length items
some_there old [] zero next names can = absurd can
some_there old [] (suc n) next names can = absurd can
some_there old (i ∷ items) zero next names can = omega arith
some_there old (i ∷ items) (suc n) next names can = let rest = some_there old items n next names can in omega arith

pub can_next : (old : List ℕ) (items : List Channel) (n : ℕ) (d : Channel) (next : Option NewNickValue) (names : List (Option NewNickValue)) → AllCanGive old (drop n items) (next ∷ names) → CanGive old (get_or items n d) next
can_next old [] zero d next names can = absurd can
can_next old [] (suc n) d next names can = absurd can
can_next old (i ∷ items) zero d next names can = can.0
can_next old (i ∷ items) (suc n) d next names can = can_next old items n d next names can

can_rest : (old : List ℕ) (items : List Channel) (n : ℕ) (c : Channel) (next : Option NewNickValue) (names : List (Option NewNickValue)) → AllCanGive old (drop n items) (next ∷ names) → AllCanGive old (drop (suc n) (set items n c)) names
can_rest old [] zero c next names can = absurd can
can_rest old [] (suc n) c next names can = absurd can
can_rest old (i ∷ items) zero c next names can = can.1
can_rest old (i ∷ items) (suc n) c next names can = can_rest old items n c next names can

pub can_others : (old : List ℕ) (items : List Channel) (n : ℕ) (c : Channel) (next : Option NewNickValue) (names : List (Option NewNickValue)) → AllCanGive old (drop n items) (next ∷ names) → AllCanGive old (drop (n + 1) (set items n c)) names
can_others old items n c next names can =
    let one : suc n ≡ n + 1 = omega arith in
    subst (λ (m : ℕ). AllCanGive old (drop m (set items n c)) names) one (can_rest old items n c next names can)

-- ---- one name that is made ready

pub ready_none : (prefixes : Prefixes) (old new : List ℕ) (c : Channel) → (has_seat c.nicks.case_map old c.nicks.seats && may_have prefixes old new (joined c)) ≡ false → IsReady prefixes old new c None
ready_none prefixes old new c e = record { can = tt; is = not_given prefixes old new (joined c) e }

all_three : (t u v : Bool) → (t && (u && not v)) ≡ true → (t ≡ true) × ((u ≡ true) × (v ≡ false))
all_three true true false e = (refl, (refl, refl))
all_three true true true e = absurd (cc)
all_three true false v e = absurd (cc)
all_three false u v e = absurd (cc)

-- after memory was taken for it
pub ready_some : (prefixes : Prefixes) (old new : List ℕ) (before after : Channel) (next : NewNickValue) → (has_seat before.nicks.case_map old before.nicks.seats && may_have prefixes old new (joined before)) ≡ true → joined after ≡ joined before
    → next.case_map ≡ after.nicks.case_map → next.nick ≡ new → 1 ≤ after.nicks.room → IsReady prefixes old new after (Some next)
ready_some prefixes old new before after next gets same map_is nick_is room =
    let facts = all_three (has_seat before.nicks.case_map old before.nicks.seats) (is_nick prefixes new) (has_seat before.nicks.case_map new (without_seat before.nicks.case_map old before.nicks.seats)) gets in
    let back : joined before ≡ joined after = sym same in
    record {
      can = record {
        case_map = map_is;
        short = omega (arith, ap (λ (n : List ℕ). length n) nick_is, short_nick prefixes new facts.1.0);
        there = subst (λ (j : Joined). has_seat j.case_map old j.seats ≡ true) back facts.0;
        absent = ap (λ (n : List ℕ). has_seat after.nicks.case_map n (without_seat after.nicks.case_map old after.nicks.seats)) nick_is
            ∙ subst (λ (j : Joined). has_seat j.case_map new (without_seat j.case_map old j.seats) ≡ false) back facts.1.1;
        room = room;
      };
      is = (λ i. record (joined after) { seats = with_name after.nicks.case_map old (nick_is i) after.nicks.seats })
          ∙ is_given prefixes old new (joined after) (subst (λ (j : Joined). (has_seat j.case_map old j.seats && may_have prefixes old new j) ≡ true) back gets);
    }
