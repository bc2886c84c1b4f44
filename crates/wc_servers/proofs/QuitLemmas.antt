-- Servers that are told that the run ends.
use Rattle.std.proofs.Common.{◌≡◌, ℕ, zero, suc, take, drop, length, ◌⊎◌, inl, inr, Bool, true, false, cond, eqb, List, [], ◌∷◌, ◌++◌, Option, Some, None, IsSome, is_some, is_none, refl, ap, sym, subst, ◌∙◌, arith, append-nil}
use Rattle.std.specs.Prelude.{map, flat_map}
use Rattle.wc_text.specs.declared.names.Cause.{Cause}
use Rattle.wc_outside.specs.Keyed.{at_key}
use Rattle.wc_irc.specs.CloseActs.{quit_line}
use Rattle.wc_irc.specs.declared.act.Act.{Act}
use Rattle.wc_irc.specs.declared.act.Act.TheVariants as act
use Rattle.wc_servers.specs.Outs.{Out, lines_to, part_of, wanted_in, or_else, first_line, quit_outs, ServersFollow, ServersKeep}
use Rattle.wc_servers.specs.Seats.{SeatView, ServersView, ServerSeat, seat_link, is_open, seat_of, open_of, unsent_in, unsent_on, leaving_in, leaving_on, NotAmong, AreApart, links_of, told_first, quitting, QuitFront, ended}
use Rattle.wc_servers.proofs.OutLemmas.{lines_to-append, or_else-none, same_number, part_of-append, wanted_in-append}

abbrev no_bytes : List ℕ
no_bytes = []

-- ---- one server

told_link : (acts : List Act) (x : SeatView) → (told_first acts x).link ≡ x.link
told_link [] x = refl
told_link (act.Open spec ∷ acts) x = refl
told_link (act.On name w ∷ acts) x = refl
told_link (act.Send line ∷ acts) x = refl
told_link (act.Raise signal payload ∷ acts) x = refl
told_link (act.Leave cause ∷ acts) x = refl

told_leaving : (acts : List Act) (x : SeatView) → (told_first acts x).leaving ≡ x.leaving
told_leaving [] x = refl
told_leaving (act.Open spec ∷ acts) x = refl
told_leaving (act.On name w ∷ acts) x = refl
told_leaving (act.Send line ∷ acts) x = refl
told_leaving (act.Raise signal payload ∷ acts) x = refl
told_leaving (act.Leave cause ∷ acts) x = refl

told_server : (acts : List Act) (x : SeatView) → seat_of (told_first acts x) ≡ seat_of x
told_server [] x = refl
told_server (act.Open spec ∷ acts) x = refl
told_server (act.On name w ∷ acts) x = refl
told_server (act.Send line ∷ acts) x = refl
told_server (act.Raise signal payload ∷ acts) x = refl
told_server (act.Leave cause ∷ acts) x = refl

one_line : (k j : ℕ) (acts : List Act) (x : SeatView) → eqb k j ≡ true → (told_first acts x).unsent ≡ x.unsent ++ lines_to j (first_line k acts)
one_line k j [] x e = sym (append-nil _)
one_line k j (act.Open spec ∷ acts) x e = sym (append-nil _)
one_line k j (act.On name w ∷ acts) x e = sym (append-nil _)
one_line k j (act.Send line ∷ acts) x e = ap (λ t. x.unsent ++ t) (sym (append-nil (ended line)) ∙ sym (ap (λ t. cond t (ended line) no_bytes ++ no_bytes) e))
one_line k j (act.Raise signal payload ∷ acts) x e = sym (append-nil _)
one_line k j (act.Leave cause ∷ acts) x e = sym (append-nil _)

no_line : (k j : ℕ) (acts : List Act) → eqb k j ≡ false → lines_to j (first_line k acts) ≡ []
no_line k j [] e = refl
no_line k j (act.Open spec ∷ acts) e = refl
no_line k j (act.On name w ∷ acts) e = refl
no_line k j (act.Send line ∷ acts) e = ap (λ t. cond t (ended line) no_bytes ++ no_bytes) e
no_line k j (act.Raise signal payload ∷ acts) e = refl
no_line k j (act.Leave cause ∷ acts) e = refl

no_part : (k j : ℕ) (acts : List Act) → part_of j (first_line k acts) ≡ None
no_part k j [] = refl
no_part k j (act.Open spec ∷ acts) = refl
no_part k j (act.On name w ∷ acts) = refl
no_part k j (act.Send line ∷ acts) = refl
no_part k j (act.Raise signal payload ∷ acts) = refl
no_part k j (act.Leave cause ∷ acts) = refl

no_wanted : (k : ℕ) (acts : List Act) → wanted_in (first_line k acts) ≡ []
no_wanted k [] = refl
no_wanted k (act.Open spec ∷ acts) = refl
no_wanted k (act.On name w ∷ acts) = refl
no_wanted k (act.Send line ∷ acts) = refl
no_wanted k (act.Raise signal payload ∷ acts) = refl
no_wanted k (act.Leave cause ∷ acts) = refl

-- ---- what is seen of one that may be told

pub quitting_link : (x : SeatView) → (quitting x).link ≡ x.link
quitting_link x = by (is_open x) where
  by : (b : Bool) → (cond b (told_first (quit_line x.server) x) x).link ≡ x.link
  by true = told_link (quit_line x.server) x
  by false = refl

quitting_leaving : (x : SeatView) → (quitting x).leaving ≡ x.leaving
quitting_leaving x = by (is_open x) where
  by : (b : Bool) → (cond b (told_first (quit_line x.server) x) x).leaving ≡ x.leaving
  by true = told_leaving (quit_line x.server) x
  by false = refl

quitting_server : (x : SeatView) → seat_of (quitting x) ≡ seat_of x
quitting_server x = by (is_open x) where
  by : (b : Bool) → seat_of (cond b (told_first (quit_line x.server) x) x) ≡ seat_of x
  by true = told_server (quit_line x.server) x
  by false = refl

pub quitting_shut : (x : SeatView) → is_open x ≡ false → quitting x ≡ x
quitting_shut x shut = ap (λ b. cond b (told_first (quit_line x.server) x) x) shut

-- each is told or stays
abbrev pub MayQuit : List SeatView → List SeatView → Type 0
MayQuit [] [] = Unit {0}
MayQuit [] (b ∷ new) = ⊥
MayQuit (a ∷ old) [] = ⊥
MayQuit (a ∷ old) (b ∷ new) = ((b ≡ a) ⊎ (b ≡ quitting a)) × MayQuit old new

pub may_quit_links : (old new : List SeatView) → MayQuit old new → links_of new ≡ links_of old
may_quit_links [] [] m = refl
may_quit_links [] (b ∷ new) m = absurd m
may_quit_links (a ∷ old) [] m = absurd m
may_quit_links (a ∷ old) (b ∷ new) m = ap (λ n. n ∷ links_of new) (by m.0) ∙ ap (λ ns. a.link ∷ ns) (may_quit_links old new m.1) where
  by : (b ≡ a) ⊎ (b ≡ quitting a) → b.link ≡ a.link
  by (inl e) = ap (λ (s : SeatView). s.link) e
  by (inr e) = ap (λ (s : SeatView). s.link) e ∙ quitting_link a

pub may_quit_open : (old new : List SeatView) → MayQuit old new → open_of new ≡ open_of old
may_quit_open [] [] m = refl
may_quit_open [] (b ∷ new) m = absurd m
may_quit_open (a ∷ old) [] m = absurd m
may_quit_open (a ∷ old) (b ∷ new) m = ap (λ t. cond t (seat_of b ∷ open_of new) (open_of new)) opened ∙ ap (λ s. cond (is_open a) (s ∷ open_of new) (open_of new)) seated ∙ ap (λ l. cond (is_open a) (seat_of a ∷ l) l) (may_quit_open old new m.1) where
  opened : is_open b ≡ is_open a
  opened = by m.0 where
    by : (b ≡ a) ⊎ (b ≡ quitting a) → is_open b ≡ is_open a
    by (inl e) = ap is_open e
    by (inr e) = ap is_open e ∙ ap (λ (o : Option Cause). is_none o) (quitting_leaving a)

  seated : seat_of b ≡ seat_of a
  seated = by m.0 where
    by : (b ≡ a) ⊎ (b ≡ quitting a) → seat_of b ≡ seat_of a
    by (inl e) = ap seat_of e
    by (inr e) = ap seat_of e ∙ quitting_server a

pub may_quit_all : (seats : List SeatView) → MayQuit seats (map quitting seats)
may_quit_all [] = tt
may_quit_all (x ∷ seats) = (inr refl, may_quit_all seats)

may_quit_none : (seats : List SeatView) → MayQuit seats seats
may_quit_none [] = tt
may_quit_none (x ∷ seats) = (inl refl, may_quit_none seats)

-- the seats after so many were told
abbrev pub told_front : ℕ → List SeatView → List SeatView
told_front i seats = map quitting (take i seats) ++ drop i seats

may_quit_some : (i : ℕ) (seats : List SeatView) → MayQuit seats (told_front i seats)
may_quit_some zero seats = may_quit_none seats
may_quit_some (suc i) [] = tt
may_quit_some (suc i) (x ∷ seats) = (inr refl, may_quit_some i seats)

pub may_quit_front : (old new : List SeatView) → QuitFront old new → MayQuit old new
may_quit_front old new f = let P : List SeatView → Type 0 = λ seats. MayQuit old seats in subst P (sym f.told) (may_quit_some f.count old)

keeps_by : (j : ℕ) (old new : List SeatView) → MayQuit old new → (is_some (at_key seat_link j new) ≡ is_some (at_key seat_link j old)) × (IsSome (leaving_on j old) → at_key seat_link j new ≡ at_key seat_link j old)
keeps_by j [] [] m = (refl, λ s. refl)
keeps_by j [] (b ∷ new) m = absurd m
keeps_by j (a ∷ old) [] m = absurd m
keeps_by j (a ∷ old) (b ∷ new) m = by m.0 (keeps_by j old new m.1) where
  same : b.link ≡ a.link → (leaving : IsSome a.leaving → b ≡ a)
      → (is_some (at_key seat_link j new) ≡ is_some (at_key seat_link j old)) × (IsSome (leaving_on j old) → at_key seat_link j new ≡ at_key seat_link j old)
      → (t : Bool) → eqb a.link j ≡ t
      → (is_some (cond (eqb b.link j) (Some b) (at_key seat_link j new)) ≡ is_some (cond t (Some a) (at_key seat_link j old))) × (IsSome (leaving_in (cond t (Some a) (at_key seat_link j old))) → cond (eqb b.link j) (Some b) (at_key seat_link j new) ≡ cond t (Some a) (at_key seat_link j old))
  same link leaving more true e = let here : eqb b.link j ≡ true = ap (λ n. eqb n j) link ∙ e in (
    ap (λ t. is_some (cond t (Some b) (at_key seat_link j new))) here,
    λ some. ap (λ t. cond t (Some b) (at_key seat_link j new)) here ∙ ap (λ s. Some s) (leaving some),
  )
  same link leaving more false e = let there : eqb b.link j ≡ false = ap (λ n. eqb n j) link ∙ e in (
    ap (λ t. is_some (cond t (Some b) (at_key seat_link j new))) there ∙ more.0,
    λ some. ap (λ t. cond t (Some b) (at_key seat_link j new)) there ∙ more.1 some,
  )

  shut : (o : Option Cause) → IsSome o → is_none o ≡ false
  shut None some = absurd (cc)
  shut (Some why) some = refl

  by : (b ≡ a) ⊎ (b ≡ quitting a) → (is_some (at_key seat_link j new) ≡ is_some (at_key seat_link j old)) × (IsSome (leaving_on j old) → at_key seat_link j new ≡ at_key seat_link j old)
      → (is_some (at_key seat_link j (b ∷ new)) ≡ is_some (at_key seat_link j (a ∷ old))) × (IsSome (leaving_on j (a ∷ old)) → at_key seat_link j (b ∷ new) ≡ at_key seat_link j (a ∷ old))
  by (inl e) more = same (ap (λ (s : SeatView). s.link) e) (λ some. e) more (eqb a.link j) refl
  by (inr e) more = same (ap (λ (s : SeatView). s.link) e ∙ quitting_link a) (λ some. e ∙ quitting_shut a (shut a.leaving some)) more (eqb a.link j) refl

-- nothing else changes
pub quit-keeps : (old new : ServersView) → MayQuit old.seats new.seats → new ≡ record old { seats = new.seats } → ServersKeep old new
quit-keeps old new m e = record {
  rises = (let same : new.used ≡ old.used = ap (λ (v : ServersView). v.used) e in omega (arith, same));
  links = λ j below. (keeps_by j old.seats new.seats m).0;
  kept = λ j some. (keeps_by j old.seats new.seats m).1 some;
  more = [];
  wanted = ap (λ (v : ServersView). v.wanted) e ∙ sym (append-nil _);
}

-- ---- so many of them are told

not_among_front : (i j : ℕ) (seats : List SeatView) → NotAmong j (links_of seats) → NotAmong j (links_of (take i seats))
not_among_front zero j seats absent = tt
not_among_front (suc i) j [] absent = tt
not_among_front (suc i) j (x ∷ seats) absent = (absent.0, not_among_front i j seats absent.1)

none_to : (j : ℕ) (seats : List SeatView) → NotAmong j (links_of seats) → lines_to j (flat_map quit_outs (open_of seats)) ≡ []
none_to j [] absent = refl
none_to j (x ∷ seats) absent = by (is_open x) (none_to j seats absent.1) where
  other : eqb x.link j ≡ false
  other = by_test (eqb x.link j) refl where
    by_test : (t : Bool) → eqb x.link j ≡ t → t ≡ false
    by_test true e = absurd (absent.0 (same_number x.link j e))
    by_test false e = refl

  by : (b : Bool) → lines_to j (flat_map quit_outs (open_of seats)) ≡ [] → lines_to j (flat_map quit_outs (cond b (seat_of x ∷ open_of seats) (open_of seats))) ≡ []
  by true more = lines_to-append j (quit_outs (seat_of x)) (flat_map quit_outs (open_of seats)) ∙ ap (λ t. t ++ lines_to j (flat_map quit_outs (open_of seats))) (no_line x.link j (quit_line x.server) other) ∙ more
  by false more = more

-- what they were told
abbrev pub said_front : ℕ → List SeatView → List Out
said_front i seats = flat_map quit_outs (open_of (take i seats))

front_lines : (j i : ℕ) (seats : List SeatView) → AreApart (links_of seats) → unsent_on j (told_front i seats) ≡ unsent_on j seats ++ lines_to j (said_front i seats)
front_lines j zero seats apart = sym (append-nil _)
front_lines j (suc i) [] apart = refl
front_lines j (suc i) (x ∷ seats) apart = ap (λ n. unsent_in (cond (eqb n j) (Some (quitting x)) (at_key seat_link j (told_front i seats)))) (quitting_link x) ∙ by (front_lines j i seats apart.1) (is_open x) (eqb x.link j) refl where
  rest : List Out
  rest = said_front i seats

  none : eqb x.link j ≡ true → lines_to j rest ≡ []
  none e = none_to j (take i seats) (not_among_front i j seats (subst (λ n. NotAmong n (links_of seats)) (same_number x.link j e) apart.0))

  by : unsent_on j (told_front i seats) ≡ unsent_on j seats ++ lines_to j rest → (b t : Bool) → eqb x.link j ≡ t → unsent_in (cond t (Some (cond b (told_first (quit_line x.server) x) x)) (at_key seat_link j (told_front i seats))) ≡ unsent_in (cond t (Some x) (at_key seat_link j seats)) ++ lines_to j (flat_map quit_outs (cond b (seat_of x ∷ open_of (take i seats)) (open_of (take i seats))))
  by more true true e =
      one_line x.link j (quit_line x.server) x e ∙ ap (λ t. x.unsent ++ t) (sym (append-nil _) ∙ ap (λ t. lines_to j (quit_outs (seat_of x)) ++ t) (sym (none e)) ∙ sym (lines_to-append j (quit_outs (seat_of x)) rest))
  by more true false e =
      more ∙ ap (λ t. unsent_on j seats ++ t) (sym (lines_to-append j (quit_outs (seat_of x)) rest ∙ ap (λ t. t ++ lines_to j rest) (no_line x.link j (quit_line x.server) e)))
  by more false true e = sym (append-nil _) ∙ ap (λ t. x.unsent ++ t) (sym (none e))
  by more false false e = more

no_parts : (j : ℕ) (servers : List ServerSeat) → part_of j (flat_map quit_outs servers) ≡ None
no_parts j [] = refl
no_parts j (s ∷ servers) = part_of-append j (quit_outs s) (flat_map quit_outs servers) ∙ ap (λ o. or_else o (part_of j (flat_map quit_outs servers))) (no_part s.link j (quit_line s.server)) ∙ no_parts j servers

none_wanted : (servers : List ServerSeat) → wanted_in (flat_map quit_outs servers) ≡ []
none_wanted [] = refl
none_wanted (s ∷ servers) = wanted_in-append (quit_outs s) (flat_map quit_outs servers) ∙ ap (λ t. t ++ wanted_in (flat_map quit_outs servers)) (no_wanted s.link (quit_line s.server)) ∙ none_wanted servers

front_leaving : (j i : ℕ) (seats : List SeatView) → leaving_on j (told_front i seats) ≡ leaving_on j seats
front_leaving j zero seats = refl
front_leaving j (suc i) [] = refl
front_leaving j (suc i) (x ∷ seats) = ap (λ n. leaving_in (cond (eqb n j) (Some (quitting x)) (at_key seat_link j (told_front i seats)))) (quitting_link x) ∙ by (front_leaving j i seats) (eqb x.link j) where
  by : leaving_on j (told_front i seats) ≡ leaving_on j seats → (t : Bool) → leaving_in (cond t (Some (quitting x)) (at_key seat_link j (told_front i seats))) ≡ leaving_in (cond t (Some x) (at_key seat_link j seats))
  by more true = quitting_leaving x
  by more false = more

pub front-follows : (i : ℕ) (old : ServersView) → AreApart (links_of old.seats) → ServersFollow old (record old { seats = told_front i old.seats }) (said_front i old.seats)
front-follows i old apart = record {
  lines = λ j. front_lines j i old.seats apart;
  leaving = λ j. front_leaving j i old.seats ∙ sym (or_else-none _) ∙ ap (or_else (leaving_on j old.seats)) (sym (no_parts j (open_of (take i old.seats))));
  wanted = sym (append-nil _) ∙ ap (λ t. old.wanted ++ t) (sym (none_wanted (open_of (take i old.seats))));
}

-- all of them are
take_all : (seats : List SeatView) → take (length seats) seats ≡ seats
take_all [] = refl
take_all (x ∷ seats) = ap (λ l. x ∷ l) (take_all seats)

drop_all : (seats : List SeatView) → drop (length seats) seats ≡ []
drop_all [] = refl
drop_all (x ∷ seats) = drop_all seats

pub quit-follows : (old : ServersView) → AreApart (links_of old.seats) → ServersFollow old (record old { seats = map quitting old.seats }) (flat_map quit_outs (open_of old.seats))
quit-follows old apart =
    let n = length old.seats in
    let P : List SeatView → Type 0 = λ seats. ServersFollow old (record old { seats = map quitting seats ++ drop n old.seats }) (flat_map quit_outs (open_of seats)) in
    let Q : List SeatView → Type 0 = λ rest. ServersFollow old (record old { seats = map quitting old.seats ++ rest }) (flat_map quit_outs (open_of old.seats)) in
    let R : List SeatView → Type 0 = λ seats. ServersFollow old (record old { seats = seats }) (flat_map quit_outs (open_of old.seats)) in
    subst R (append-nil (map quitting old.seats)) (subst Q (drop_all old.seats) (subst P (take_all old.seats) (front-follows n old apart)))
