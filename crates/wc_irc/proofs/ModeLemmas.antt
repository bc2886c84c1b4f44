-- Modes of nicks and names of lists, one after another.
use Rattle.std.proofs.Common.{◌≡◌, ℕ, Bool, true, false, cond, List, [], ◌∷◌, ◌++◌, Option, Some, None, ap, sym, ◌∙◌, append_assoc}
use Rattle.std.specs.Prelude.{is_some}
use Rattle.wc_ircmsg.specs.declared.case_map.CaseMap.{CaseMap}
use Rattle.wc_ircmsg.specs.declared.prefixes.Prefixes.{Prefixes}
use Rattle.wc_irc.specs.declared.act.Act.{Act}
use Rattle.wc_irc_nicks.specs.declared.overlay.Overlay.{Overlay}
use Rattle.wc_irc_texts.specs.declared.seat.ModeSet.{ModeSet}
use Rattle.wc_irc_texts.specs.declared.seat.Seat.{Seat}
use Rattle.wc_irc_texts.specs.Listed.{listed_nick, listed_bits}
use Rattle.wc_irc_nicks.specs.Merged.{merged, put_seat}
use Rattle.wc_irc.specs.ModeActs.{modes_after, change_seat, change_acts, changes_acts, with_change, moved}
use Rattle.wc_irc_texts.specs.ModeBits.{highest}
use Rattle.wc_irc_texts.specs.Modes.{ModeChange}
use Rattle.wc_irc.specs.NameActs.{listed_seat, placed, placed_all}
use Rattle.wc_irc_texts.specs.Names.{is_nick}
use Rattle.wc_irc_nicks.specs.OverlaySeen.{seats_over}
use Rattle.wc_irc_nicks.specs.Seats.{seat_of, with_modes}

-- a nick that is there keeps its place
pub put_there : (case_map : CaseMap) (nick : List ℕ) (modes : ModeSet) (seats : List Seat) (seat : Seat) → Some seat ≡ seat_of case_map nick seats → put_seat case_map nick modes seats ≡ with_modes case_map nick modes seats
put_there case_map nick modes seats seat there = sym (ap (λ (o : Option Seat). cond (is_some o) (with_modes case_map nick modes seats) (seats ++ record { nick = nick; modes = modes } ∷ [])) there)

-- the nicks of a list with one more change over it
pub over_put : (old new : Overlay) (nick : List ℕ) (modes : ModeSet) → new.list ≡ old.list
    → merged old.list.now.case_map new.changed.seats old.list.now.seats ≡ put_seat old.list.now.case_map nick modes (merged old.list.now.case_map old.changed.seats old.list.now.seats)
    → seats_over new ≡ put_seat old.list.now.case_map nick modes (seats_over old)
over_put old new nick modes same is = (λ i. merged (same i).now.case_map new.changed.seats (same i).now.seats) ∙ is

-- ---- one change of a mode

pub change_none : (acts : List Act) (prefixes : Prefixes) (buffer : List ℕ) (case_map : CaseMap) (change : ModeChange) (others : List ModeChange) (seats : List Seat) → None ≡ seat_of case_map change.nick seats
    → acts ++ changes_acts prefixes buffer case_map others seats ≡ acts ++ changes_acts prefixes buffer case_map (change ∷ others) seats
change_none acts prefixes buffer case_map change others seats none =
    ap (λ (o : Option Seat). acts ++ (change_acts prefixes buffer change o ++ changes_acts prefixes buffer case_map others (change_seat prefixes case_map change seats o))) none

pub change_some : (before after : List Act) (prefixes : Prefixes) (buffer : List ℕ) (case_map : CaseMap) (change : ModeChange) (others : List ModeChange) (seats later : List Seat) (seat : Seat) → Some seat ≡ seat_of case_map change.nick seats
    → after ≡ before ++ moved prefixes buffer seat (highest (modes_after prefixes change seat.modes).0) → later ≡ put_seat case_map change.nick (modes_after prefixes change seat.modes) seats
    → after ++ changes_acts prefixes buffer case_map others later ≡ before ++ changes_acts prefixes buffer case_map (change ∷ others) seats
change_some before after prefixes buffer case_map change others seats later seat there made is =
    let changed = is ∙ put_there case_map change.nick (modes_after prefixes change seat.modes) seats seat there in
    (λ i. made i ++ changes_acts prefixes buffer case_map others (changed i))
    ∙ append_assoc before (moved prefixes buffer seat (highest (modes_after prefixes change seat.modes).0)) (changes_acts prefixes buffer case_map others (with_modes case_map change.nick (modes_after prefixes change seat.modes) seats))
    ∙ ap (λ (o : Option Seat). before ++ (change_acts prefixes buffer change o ++ changes_acts prefixes buffer case_map others (change_seat prefixes case_map change seats o))) there

-- the same on a list
pub taken_none : (prefixes : Prefixes) (case_map : CaseMap) (change : ModeChange) (seats : List Seat) → None ≡ seat_of case_map change.nick seats → seats ≡ with_change prefixes case_map change seats
taken_none prefixes case_map change seats none = ap (change_seat prefixes case_map change seats) none

pub taken_some : (prefixes : Prefixes) (case_map : CaseMap) (change : ModeChange) (seats : List Seat) (seat : Seat) → Some seat ≡ seat_of case_map change.nick seats
    → with_modes case_map change.nick (modes_after prefixes change seat.modes) seats ≡ with_change prefixes case_map change seats
taken_some prefixes case_map change seats seat there = ap (change_seat prefixes case_map change seats) there

-- ---- one name of a list

pub name_none : (prefixes : Prefixes) (has_hosts : Bool) (name nick : List ℕ) → nick ≡ listed_nick prefixes has_hosts name → is_nick prefixes nick ≡ false → [] ≡ listed_seat prefixes has_hosts name
name_none prefixes has_hosts name nick is none =
    let bare = ap (is_nick prefixes) (sym is) ∙ none in
    sym (ap (λ (t : Bool). cond t (record { nick = listed_nick prefixes has_hosts name; modes = record { 0 = listed_bits prefixes name } } ∷ []) []) bare)

pub name_some : (prefixes : Prefixes) (has_hosts : Bool) (name nick : List ℕ) (modes : ModeSet) → nick ≡ listed_nick prefixes has_hosts name → modes.0 ≡ listed_bits prefixes name → is_nick prefixes nick ≡ true → record { nick = nick; modes = modes } ∷ [] ≡ listed_seat prefixes has_hosts name
name_some prefixes has_hosts name nick modes is bits one =
    let filled = ap (is_nick prefixes) (sym is) ∙ one in
    (λ i. record { nick = is i; modes = record { 0 = bits i } } ∷ [])
    ∙ sym (ap (λ (t : Bool). cond t (record { nick = listed_nick prefixes has_hosts name; modes = record { 0 = listed_bits prefixes name } } ∷ []) []) filled)

pub placed_some : (before after : List Act) (prefixes : Prefixes) (buffer : List ℕ) (case_map : CaseMap) (listed : Seat) (front others seats later : List Seat) → listed ∷ [] ≡ front
    → after ≡ before ++ placed prefixes buffer listed (seat_of case_map listed.nick seats) → later ≡ put_seat case_map listed.nick listed.modes seats
    → after ++ placed_all prefixes buffer case_map others later ≡ before ++ placed_all prefixes buffer case_map (front ++ others) seats
placed_some before after prefixes buffer case_map listed front others seats later one made is =
    (λ i. made i ++ placed_all prefixes buffer case_map others (is i))
    ∙ append_assoc before (placed prefixes buffer listed (seat_of case_map listed.nick seats)) (placed_all prefixes buffer case_map others (put_seat case_map listed.nick listed.modes seats))
    ∙ ap (λ (l : List Seat). before ++ placed_all prefixes buffer case_map (l ++ others) seats) one

pub placed_none : (acts : List Act) (prefixes : Prefixes) (buffer : List ℕ) (case_map : CaseMap) (front others seats : List Seat) → [] ≡ front
    → acts ++ placed_all prefixes buffer case_map others seats ≡ acts ++ placed_all prefixes buffer case_map (front ++ others) seats
placed_none acts prefixes buffer case_map front others seats none = ap (λ (l : List Seat). acts ++ placed_all prefixes buffer case_map (l ++ others) seats) none
