-- A connection that was wanted is refused as it is asked for, or there is no memory for it.
use Rattle.std.proofs.Common.{◌≡◌, ◌≢◌, ℕ, zero, suc, ◌+◌, ◌<◌, ◌≤◌, ◌⊎◌, inl, inr, nat_le, Bool, true, false, not, cond, eqb, ◌&&◌, ◌||◌, IsTrue, List, [], ◌∷◌, ◌++◌, map, length, All, Option, Some, None, IsSome, is_some, refl, sym, ap, ◌∙◌, subst, arith, append_assoc}
use Rattle.std.proofs.lemmas.Bool.{false≢true}
use Rattle.std.proofs.lemmas.Bool.Decides.{nat_tests}
use Rattle.std.proofs.lemmas.List.{append-nil, length-append}
use Rattle.std.proofs.lemmas.List.Folds.{list_any-append}
use Rattle.std.proofs.lemmas.List.Elements.{All-append, All-weaker}
use Rattle.wc_text.specs.declared.names.LinkId.{LinkId}
use Rattle.wc_text.specs.declared.names.Cause.{Cause}
use Rattle.wc_text.specs.declared.names.Cause.TheVariants.{NoMemory}
use Rattle.wc_outside.specs.Seen.{Seen}
use Rattle.wc_outside.specs.Keyed.{at_key, without}
use Rattle.wc_outside.specs.declared.happening.Happening.{Happening}
use Rattle.wc_outside.specs.declared.happening.Happening.TheVariants.{Refused}
use Rattle.wc_board.specs.declared.connection.Connection.{Connection}
use Rattle.wc_board.specs.Connections.{connection_link, is_open_at, leaving_in, leaving_on}
use Rattle.wc_core.specs.State.{Beside}
use Rattle.wc_servers.specs.declared.wanted.Wanted.{Wanted}
use Rattle.wc_servers.specs.Seats.{SeatView, AreSeats, seat_link, leaving_in as server_leaving_in, leaving_on as server_leaving_on}
use Rattle.wc_core.specs.CoreView.{CoreView}
use Rattle.wc_core.specs.Served.{links_of, WereTold, Distinct, or_else, KeepsSaved}
use Rattle.wc_core.specs.ServersKept.{is_wanted, AreNext, AreInOrder}
use Rattle.wc_core.proofs.DidLemmas.{saves-as, KeepsSaved-trans}
use Rattle.wc_turns.specs.declared.links.LinkState.{LinkState}
use Rattle.wc_turns.specs.declared.links.Closed.{Closed}
use Rattle.wc_turns.specs.declared.headless.Headless.{Headless}
use Rattle.wc_turns.specs.Contained.{HasStarved}
use Rattle.wc_turns.specs.Events.{events_from, refused_since}
use Rattle.wc_turns.specs.Links.{IsUnkept, link_number, is_undrained, is_blocked, is_there, is_connecting, IsStanding, new_state}
use Rattle.wc_turns.specs.Parties.{has_party, party_count, connect_of, asks_of, is_refused, seat_closes, closes_asked}
use Rattle.wc_turns.specs.Parts.{leaving_of, AsksWanted, SameParty}
use Rattle.wc_turns.specs.Served.{closed_by, leaving_closes}
use Rattle.wc_turns.specs.Sources.{NothingBecameReady, TakesNothing}
use Rattle.wc_turns.specs.Steps.{LosesLink, TakesLink, DropsServer, DropsLink, refused_by}
use Rattle.wc_turns.specs.Turns.{AgreesWithHappenings, AgreesOnLinks, AgreesWithSockets, moment, OnOneSide, IsServers, MomentAdvances, CausedBy, closed_so_far, GivesNothing, HasReason, IsAmong, wake_count, listen_faults, has_failed, LoopStep}
use Rattle.wc_turns.specs.Heard.{Heard, Happened, happenings}
use Rattle.wc_turns.specs.Turns.{AgreesWithHeard, EndsEach}
use Rattle.wc_turns.proofs.HeardLemmas.{quiet-happened, socket-stays}
use Rattle.wc_turns.proofs.HeardAgrees.{Hears-quiet, Hears-asked, socket-came}
use Rattle.wc_turns.proofs.KeyedLemmas.{none_of, same-keys, or-true, is_some-push, at_key-push_other, at_key-without_none, absent-missing, distinct-push, distinct-without, map-push, length-without_le}
use Rattle.wc_turns.proofs.ArriveLemmas.{no-starving}
use Rattle.wc_turns.proofs.ComeLemmas.{came-flag}
use Rattle.wc_turns.proofs.RunLemmas.{ReachesEvents-none}
use Rattle.wc_turns.proofs.PointLemmas.{AreAlone, MomentAdvances-none, OnOneSide-none, next-above, spoils-more}
use Rattle.wc_turns.proofs.AgreesLemmas.{For-asked, For-named}
use Rattle.wc_turns.proofs.ListedLemmas.{but-push}
use Rattle.wc_turns.proofs.CauseLemmas.{KeepsSides, reasons-same, Onward-none, uncome-as, among-self}
use Rattle.wc_turns.proofs.StepLemmas.{no-arrivals}
use Rattle.wc_turns.proofs.TakesLemmas.{leaving-drawn}
use Rattle.wc_turns.proofs.ConnectionLemmas.{closes-all, leaving-without, all-without}
use Rattle.wc_turns.proofs.SeatLemmas.{KeepsSeats, seats-all, loses-keeps}
use Rattle.wc_turns.proofs.SeatCloses.{All-front, seats-without}
use Rattle.wc_turns.proofs.ForgetLemmas.{forgot, and-not-true, and-not-false, closed-seen, forgot-party, forgot-here, forgot-other, forgot-alone, forgot-seats, forgot-order, forgot-fewer}
use Rattle.wc_turns.proofs.ContainedLemmas.{KeepsLinks-more, KeepsLinks-dropped}
use Rattle.wc_turns.proofs.PartLemmas.{same-why, same-has}
use Rattle.wc_turns.proofs.EndedLemmas.{ended-came, ended-keeps, shut-without}
use Rattle.wc_turns.proofs.PartyLemmas.{or-assoc}
use Rattle.wc_turns.proofs.ReadLemmas.{lost-has, lost-count, some-first, some-second}
use Rattle.wc_turns.proofs.TurnLemmas.{AskingCall, LoopStep-ask}
use Rattle.wc_eval.specs.Verdicts.{Stay}
use Rattle.wc_core.proofs.OracleLemmas.{verdicts-same}
use Rattle.wc_turns.specs.Goes.{KeepsState}
use Rattle.wc_turns.proofs.GoesLemmas.{Goes-both, Goes-kept, Goes-dropped}

-- the core with other connections that are still to be asked for
abbrev pub with_wanted : List Wanted → CoreView → CoreView
with_wanted others core = record core { servers = record core.servers { wanted = others } }

-- a connection that is wanted was not asked for before the start
pub begun : (x : Headless) (a : Seen) (wanted : Wanted) (others : List Wanted) → AgreesWithSockets x a → x.core.servers.wanted ≡ wanted ∷ others → x.ran ≡ 0 → ⊥
begun x a wanted others s first none = let q : wanted ∷ others ≡ [] = sym first ∙ s.idle none in cc

pub positive : (n : ℕ) → (n ≡ 0 → ⊥) → 1 ≤ n
positive zero h = absurd (h refl)
positive (suc n) h = omega arith

refused-append : (k : ℕ) (xs ys : List LinkId) → is_refused k (xs ++ ys) ≡ (is_refused k xs || is_refused k ys)
refused-append k xs ys = list_any-append (λ (one : LinkId). eqb one.0 k) xs ys

or-split : (a b : Bool) → (a || b) ≡ true → (a ≡ true) ⊎ (b ≡ true)
or-split true b e = inl refl
or-split false b e = inr e

by-link : (refused : Bool) (link : LinkId) (k : ℕ) → is_refused k (refused_by refused link) ≡ true → link.0 ≡ k
by-link true link k e = found (eqb link.0 k) refl e
  where
    found : (t : Bool) → eqb link.0 k ≡ t → (t || false) ≡ true → link.0 ≡ k
    found true f q = grind (arith, nat_tests)
    found false f q = absurd (false≢true q)
by-link false link k e = absurd (false≢true e)

not-refused : (k : ℕ) (xs ys : List LinkId) → is_refused k xs ≡ false → (is_refused k ys ≡ true → ⊥) → is_refused k (xs ++ ys) ≡ false
not-refused k xs ys none other = refused-append k xs ys ∙ ap (λ t. t || is_refused k ys) none ∙ off (is_refused k ys) refl
  where
    off : (t : Bool) → is_refused k ys ≡ t → t ≡ false
    off true e = absurd (other e)
    off false e = refl

within-of : (refused : Bool) (link : LinkId) (listed : List LinkId) → (listed ≡ refused_by refused link) ⊎ (listed ≡ []) → (k : ℕ) → is_refused k listed ≡ true → is_refused k (refused_by refused link) ≡ true
within-of refused link listed (inl e) k h = sym (ap (is_refused k) e) ∙ h
within-of refused link listed (inr e) k h = absurd (false≢true (sym (ap (is_refused k) e) ∙ h))

-- ---- it was refused, and is kept

among-unmade : (states : List LinkState) (core : CoreView) (used : ℕ) (listening : Bool) (refused : List LinkId) (a b : Seen) (wanted : Wanted) (others : List Wanted) → core.servers.wanted ≡ wanted ∷ others → b.used ≡ a.used + 1
    → ((k : ℕ) → b.there k ≡ a.there k) → ((k : ℕ) → b.undrained k ≡ a.undrained k) → ((k : ℕ) → b.blocked k ≡ a.blocked k) → b.listening ≡ a.listening
    → AgreesOnLinks states core used listening refused a → AgreesOnLinks (states ++ new_state wanted.link (Some wanted.server) true ∷ []) (with_wanted others core) wanted.link.0 listening (refused ++ wanted.link ∷ []) b
among-unmade states core used listening refused a b wanted others first used' there undrained blocked listening' s =
    let next = subst (AreNext used) first s.next in
    let link : wanted.link.0 ≡ used + 1 = next.0 in
    let above : used < wanted.link.0 = omega arith in
    let state = new_state wanted.link (Some wanted.server) true in
    let absent = s.unknown wanted.link.0 above in
    let some : (k : ℕ) → is_some (at_key link_number k (states ++ state ∷ [])) ≡ (is_some (at_key link_number k states) || eqb wanted.link.0 k) = λ k. is_some-push link_number k state states in
    record {
      counted = link ∙ ap (λ n. n + 1) s.counted ∙ sym used';
      there = λ k. there k ∙ s.there k ∙ came-flag is_there refl k states state (eqb wanted.link.0 k) refl refl absent;
      undrained = λ k. undrained k ∙ s.undrained k ∙ came-flag is_undrained refl k states state (eqb wanted.link.0 k) refl refl absent;
      blocked = λ k. blocked k ∙ s.blocked k ∙ came-flag is_blocked refl k states state (eqb wanted.link.0 k) refl refl absent;
      listens = listening' ∙ s.listens;
      parties = λ k. s.parties k ∙ ap (λ ws. is_some (at_key link_number k states) || is_wanted k ws) first
          ∙ sym (or-assoc (is_some (at_key link_number k states)) (eqb wanted.link.0 k) (is_wanted k others)) ∙ ap (λ q. q || is_wanted k others) (sym (some k));
      ended = ended-came states state core refl absent s.ended;
      alone = s.alone;
      once = s.once;
      seats = record { apart = s.seats.apart; used = s.seats.used };
      order = record { ranked = s.order.ranked; counted = s.order.counted };
      apart = subst Distinct (sym (map-push link_number states state)) (distinct-push wanted.link.0 (map link_number states) s.apart (absent-missing link_number wanted.link.0 states absent));
      unknown = λ k below.
          let other : link_number state ≢ k = λ q. omega arith in
          at_key-push_other link_number k state states other ∙ s.unknown k (omega arith);
      clients = λ k below. s.clients k (omega arith);
      unrefused = λ k below. not-refused k refused (wanted.link ∷ []) (s.unrefused k (omega arith)) (λ e. (let same = by-link true wanted.link k e in absurd (omega arith)));
      spared = λ k e. spared-by k above (or-split (is_refused k refused) (is_refused k (wanted.link ∷ [])) (sym (refused-append k refused (wanted.link ∷ [])) ∙ e));
      next = subst (λ n. AreNext n others) (sym link) next.1;
      reached = (let r = s.reached in let l = ap length first in omega arith);
      limited = s.limited;
    }
  where
    spared-by : (k : ℕ) → used < wanted.link.0 → (is_refused k refused ≡ true) ⊎ (is_refused k (wanted.link ∷ []) ≡ true) → at_key connection_link k core.connections ≡ None
    spared-by k above (inl before) = s.spared k before
    spared-by k above (inr now) = s.clients k (let same = by-link true wanted.link k now in omega arith)

gone-same : (k used : ℕ) (t : Bool) → eqb (used + 1) k ≡ t → (p : Bool) → (eqb (used + 1) k ≡ true → p ≡ true) → (nat_le k (used + 1) && not p) ≡ (nat_le k used && not p)
gone-same k used true e p h = rw (h e) (and-false (nat_le k (used + 1)) ∙ sym (and-false (nat_le k used)))
  where
    and-false : (b : Bool) → (b && false) ≡ false
    and-false true = refl
    and-false false = refl
gone-same k used false e p h =
    let same : nat_le k (used + 1) ≡ nat_le k used = grind (arith, nat_tests) in
    rw same refl

-- who is wanted has a server
wanted-party : (x : Headless) (a : Seen) (wanted : Wanted) (others : List Wanted) → x.core.servers.wanted ≡ wanted ∷ others → AgreesWithSockets x a → (k : ℕ) → eqb wanted.link.0 k ≡ true → has_party k x.core ≡ true
wanted-party x a wanted others first s k e = s.among.parties k ∙ ap (λ ws. is_some (at_key link_number k x.links.opened.items) || is_wanted k ws) first
    ∙ ap (λ c. is_some (at_key link_number k x.links.opened.items) || (c || is_wanted k others)) e ∙ or-true (is_some (at_key link_number k x.links.opened.items))

pub wanted-next : (x : Headless) (a : Seen) (wanted : Wanted) (others : List Wanted) → x.core.servers.wanted ≡ wanted ∷ others → AgreesWithSockets x a → wanted.link.0 ≡ x.used + 1
wanted-next x a wanted others first s = (subst (AreNext x.used) first s.among.next).0

-- the state stays where connections are asked for
pub wanted-kept : (x y : CoreView) (others : List Wanted) → y ≡ with_wanted others x → KeepsState x y
wanted-kept x y others e = let P : CoreView → Type 0 = λ c. KeepsState x c in subst P (sym e) (record { state = λ told. refl; nobody = λ k e. e; pending = refl; starved = refl; quits = refl })

-- a connection was refused, and it is listed
pub LoopStep-unmade : (x x' y : Headless) (a b : Seen) (wanted : Wanted) (others : List Wanted) → x.core.servers.wanted ≡ wanted ∷ others → x' ≡ record x { core = with_wanted others x.core } → TakesLink x' y wanted true → AgreesWithSockets x a → AskingCall a b (Refused wanted.link ∷ []) (wanted.address ∷ [])
    → b.used ≡ a.used + 1 → (IsTrue b.tells → b.asked ≡ a.asked ++ connect_of wanted ∷ []) → (IsTrue b.tells → (k : ℕ) → b.sent k ≡ a.sent k) → (IsTrue b.tells → (k : ℕ) → b.choked k ≡ a.choked k) → ((k : ℕ) → b.there k ≡ a.there k) → ((k : ℕ) → b.undrained k ≡ a.undrained k) → ((k : ℕ) → b.blocked k ≡ a.blocked k) → b.listening ≡ a.listening
    → LoopStep true 0 0 x y a b
LoopStep-unmade x x' y a b wanted others first same takes s' call used asked sent choked there undrained blocked listening =
    LoopStep-ask true 0 0 x y a b (Refused wanted.link ∷ []) (Happened (Refused wanted.link) ∷ []) (wanted.address ∷ []) [] refl call (λ below. (let e = takes.turns ∙ ap (λ (z : Headless). z.turns) same in omega arith)) refl refl
    (let e = ap (λ (c : CoreView). c.starved) core in omega arith) (λ t s still below. closes ∙ sym (append-nil _)) (λ s. reasons-same x y a b closes) (λ s k h. (sides.servers k h).0) (λ s. Onward-none x.core y.core (Refused wanted.link ∷ []) (let e = ap (λ (c : CoreView). c.servers.used) core in omega arith) (λ k. refl))
    (λ over. quits ∙ over) (λ t s. saves-as x.core y.core _ core refl refl)
    (λ s. rw (opened, core, takes.listening ∙ ap (λ (z : Headless). z.listening) same, refused, takes.used) (among-unmade x.links.opened.items x.core x.used x.listening x.refused.items a b wanted others first used there undrained blocked listening s))
    (λ t s on. told t (s.told (call.told t) (sym quits ∙ on)))
    (λ t s on. hears s.history (s.spells (call.told t)) (s.told (call.told t) (sym quits ∙ on)) (s.hears (call.told t) (sym quits ∙ on)))
    (λ t s k e. socket-stays k a.taken (Refused wanted.link ∷ []) (s.sockets (call.told t) k (socket-came x.links.opened.items (new_state wanted.link (Some wanted.server) true) k refl (rw opened at e))))
    (λ s none. absurd (begun x a wanted others s first (sym ran ∙ none)))
    (λ t s. record {
      events = [];
      reaches = rw ran (ReachesEvents-none x.core.quits y.core.quits x.ran);
      rises = (let e = ap (λ (c : CoreView). c.starved) core in omega arith);
      verdicts = verdicts-same x.core.verdicts y.core.verdicts (ap (λ (c : CoreView). c.verdicts) core);
      goes = Goes-kept x.core y.core (wanted-kept x.core y.core others core);
      advances = λ still below rows were agrees. advances t rows were;
      silent = λ over. refl;
      ends = (tt, tt);
      last = λ still below rows were agrees going over. absurd (false≢true (sym going ∙ sym quits ∙ over));
    })
  where
    core : y.core ≡ with_wanted others x.core
    core = takes.core ∙ ap (λ (z : Headless). z.core) same

    quits : y.core.quits ≡ x.core.quits
    quits = ap (λ (c : CoreView). c.quits) core

    ran : y.ran ≡ x.ran
    ran = takes.ran ∙ ap (λ (z : Headless). z.ran) same

    next : wanted.link.0 ≡ x.used + 1
    next = wanted-next x a wanted others first s'

    count : y.used ≡ x.used + 1
    count = takes.used ∙ next

    opened : y.links.opened.items ≡ x.links.opened.items ++ new_state wanted.link (Some wanted.server) true ∷ []
    opened = takes.opened ∙ ap (λ (z : Headless). z.links.opened.items ++ new_state wanted.link (Some wanted.server) true ∷ []) same

    refused : y.refused.items ≡ x.refused.items ++ wanted.link ∷ []
    refused = takes.lists ∙ ap (λ (z : Headless). z.refused.items ++ wanted.link ∷ []) same

    unlisted : y.unlisted ≡ x.unlisted
    unlisted = takes.unlisted ∙ ap (λ (z : Headless). z.unlisted) same

    closes : closed_so_far y ≡ closed_so_far x
    closes = ap (λ cs. cs ++ closes_asked y.core) (takes.closed ∙ ap (λ (z : Headless). z.links.closed.items) same) ∙ ap (λ c. x.links.closed.items ++ closes_asked c) core

    sides : OnOneSide x.core y.core []
    sides = rw core (OnOneSide-none x.core (with_wanted others x.core) refl (λ k e. e) (λ k e. e))

    told : IsTrue b.tells → AgreesWithHappenings x.clock x.links.opened.items x.used x.ran x.refused.items x.unlisted a.taken → AgreesWithHappenings y.clock y.links.opened.items y.used y.ran y.refused.items y.unlisted (a.taken ++ Refused wanted.link ∷ [])
    told t s =
        let one = positive x.ran (begun x a wanted others s' first) in
        let kept = For-asked x.clock x.links.opened.items x.used y.used x.ran x.refused.items x.unlisted a.taken wanted.link (new_state wanted.link (Some wanted.server) true) next count refl refl one s in
        rw (takes.clock ∙ ap (λ (z : Headless). z.clock) same, opened, ran, refused, unlisted)
        (For-named x.clock (x.links.opened.items ++ new_state wanted.link (Some wanted.server) true ∷ []) y.used y.used x.ran x.refused.items (x.refused.items ++ wanted.link ∷ []) x.unlisted x.unlisted a.taken wanted.link (omega arith)
        (let u = count in let w = s.within in let l = length-append x.refused.items (wanted.link ∷ []) in omega arith)
        one (but-push (IsUnkept (x.links.opened.items ++ new_state wanted.link (Some wanted.server) true ∷ []) y.used) x.refused.items (refused_since a.taken) wanted.link kept.since) (let l = length-append x.refused.items (wanted.link ∷ []) in omega arith) kept)

    hears : (history : List Heard) → happenings history ≡ a.taken → AgreesWithHappenings x.clock x.links.opened.items x.used x.ran x.refused.items x.unlisted a.taken → AgreesWithHeard x.links.opened.items x.used x.ran a.taken history
        → AgreesWithHeard y.links.opened.items y.used y.ran (a.taken ++ Refused wanted.link ∷ []) (history ++ Happened (Refused wanted.link) ∷ [])
    hears history spells t h = rw (opened, ran)
        (Hears-quiet (x.links.opened.items ++ new_state wanted.link (Some wanted.server) true ∷ []) y.used y.used x.ran x.ran a.taken history (Happened (Refused wanted.link)) spells (quiet-happened (Refused wanted.link) (λ k. refl) (λ k. refl)) (omega arith) (let e = h.events in omega arith)
        (Hears-asked x.links.opened.items x.used y.used x.ran a.taken history wanted.link (new_state wanted.link (Some wanted.server) true) spells next count refl (record { tail = refl; framing = refl; ended = refl }) refl t.fresh h))

    advances : IsTrue b.tells → (rows : Beside) → WereTold x.core rows → MomentAdvances rows (moment x a) (moment y b) [] []
    advances t rows were = MomentAdvances-none rows (moment x a) (moment y b)
        (rw core (record { same = refl; told = were })) quits
        (λ k. rw (count, core) (gone-same k x.used (eqb (x.used + 1) k) refl (has_party k x.core) (λ e. wanted-party x a wanted others first s' k (rw next e))))
        (λ k e. spoils-more k (a.choked k) (b.choked k) a.taken (Refused wanted.link ∷ []) (λ q. sym (choked t k) ∙ q) (ap (λ ts. b.choked k || has_failed k ts) (sym (call.taken t)) ∙ e))
        (λ k plain. rw (sent t k, core) refl) (λ k plain e. sent t k) sides
        (rw (asked t, core, first) (append_assoc a.asked (connect_of wanted ∷ []) (asks_of others)))

-- ---- there is no memory for it

-- the server of a link that was lost is forgotten
pub record Dropped (x y : CoreView) (link : ℕ) : Type 0 where
  pub lost : CoreView
  pub loses : LosesLink link NoMemory x lost
  pub core : y ≡ forgot link lost
  pub starved : HasStarved x.starved y.starved
  pub clients : map connection_link lost.connections ≡ map connection_link x.connections
  pub seats : KeepsSeats x.servers lost.servers

pub dropped-of : (x y : CoreView) (link : ℕ) → DropsServer x y link → Dropped x y link
dropped-of x y link d = record {
  lost = d.lost;
  loses = d.loses;
  core = d.forgets;
  starved = d.starved;
  clients = d.loses.keeps.links;
  seats = loses-keeps (is_open_at (at_key connection_link link x.connections)) link NoMemory x.servers d.lost.servers d.loses.server;
}

lost-alone : (x y : CoreView) (link : ℕ) → (d : Dropped x y link) → AreAlone x → AreAlone d.lost
lost-alone x y link d alone k there =
    none_of _ (same-keys seat_link k d.lost.servers.seats x.servers.seats d.seats.links ∙ ap is_some (alone k (sym (same-keys connection_link k d.lost.connections x.connections d.clients) ∙ there)))

-- who is there after it was there before
drops-was : {X : Type 0} (key : X → ℕ) (k link : ℕ) (xs ys : List X) → map key ys ≡ map key xs → is_some (at_key key k (without key link ys)) ≡ true → is_some (at_key key k xs) ≡ true
drops-was key k link xs ys same h = sym (same-keys key k ys xs same) ∙ was-by (is_some (at_key key k ys)) (closed-seen is_some refl key k link (eqb k link) refl ys ∙ h)
  where
    was-by : (t : Bool) → (t && not (eqb k link)) ≡ true → t ≡ true
    was-by true e = refl
    was-by false e = e

drops-sides : (x y : CoreView) (link : ℕ) → Dropped x y link → KeepsSides x y
drops-sides x y link d k h = sides-by (subst (IsServers k) d.core h)
  where
    sides-by : IsServers k (forgot link d.lost) → IsServers k x
    sides-by (inl there) = inl (drops-was seat_link k link x.servers.seats d.lost.servers.seats d.seats.links there)
    sides-by (inr above) = inr (let u = d.seats.used in omega arith)

drops-has : (x y : CoreView) (link : ℕ) → Dropped x y link → (k : ℕ) → has_party k y ≡ (has_party k x && not (eqb k link))
drops-has x y link d k = ap (has_party k) d.core ∙ forgot-party k link d.lost ∙ ap (λ t. t && not (eqb k link)) (lost-has link NoMemory x d.lost d.loses k)

party-by : (k link : ℕ) (t : Bool) → eqb k link ≡ t → (st w : Bool) → (t ≡ true → st ≡ false) → (t ≡ true → w ≡ false) → ((st || (eqb link k || w)) && not t) ≡ (st || w)
party-by k link true e st w none none' = and-not-true (st || (eqb link k || w)) ∙ sym (rw (none refl) (none' refl))
party-by k link false e st w none none' =
    let other : eqb link k ≡ false = (let n : k ≢ link = λ q. grind (arith, nat_tests) in grind (arith, nat_tests)) in
    and-not-false (st || (eqb link k || w)) ∙ ap (λ q. st || (q || w)) other

-- no further connection has the number of the first one
others-above : (used k : ℕ) (others : List Wanted) → AreNext used others → k ≤ used → is_wanted k others ≡ false
others-above used k others next below = none-by (is_wanted k others) refl
  where
    none-by : (t : Bool) → is_wanted k others ≡ t → t ≡ false
    none-by true e = absurd (let above = next-above used k others next e in omega arith)
    none-by false e = refl

among-dropped : (states : List LinkState) (core core' : CoreView) (used : ℕ) (listening refused' : Bool) (refused listed : List LinkId) (a b : Seen) (wanted : Wanted) (others : List Wanted) → core.servers.wanted ≡ wanted ∷ others → Dropped (with_wanted others core) core' wanted.link.0 → ((k : ℕ) → is_refused k listed ≡ true → is_refused k (refused_by refused' wanted.link) ≡ true) → b.used ≡ a.used + 1
    → ((k : ℕ) → a.there k ≡ is_there (at_key link_number k states) → b.there k ≡ is_there (at_key link_number k states)) → ((k : ℕ) → a.undrained k ≡ is_undrained (at_key link_number k states) → b.undrained k ≡ is_undrained (at_key link_number k states)) → ((k : ℕ) → a.blocked k ≡ is_blocked (at_key link_number k states) → b.blocked k ≡ is_blocked (at_key link_number k states)) → b.listening ≡ a.listening
    → AgreesOnLinks states core used listening refused a → AgreesOnLinks states core' wanted.link.0 listening (refused ++ listed) b
among-dropped states core core' used listening refused' refused listed a b wanted others first d within used' there undrained blocked listening' s =
    let next = subst (AreNext used) first s.next in
    let link : wanted.link.0 ≡ used + 1 = next.0 in
    let above : used < wanted.link.0 = omega arith in
    let mid = with_wanted others core in
    let connections : core'.connections ≡ without connection_link wanted.link.0 d.lost.connections = ap (λ (c : CoreView). c.connections) d.core in
    let same : (k : ℕ) → is_some (at_key connection_link k d.lost.connections) ≡ is_some (at_key connection_link k core.connections) = λ k. same-keys connection_link k d.lost.connections core.connections d.clients in
    let missing : (k : ℕ) → at_key connection_link k core.connections ≡ None → at_key connection_link k core'.connections ≡ None = λ k none.
    ap (at_key connection_link k) connections ∙ at_key-without_none connection_link wanted.link.0 k d.lost.connections (none_of _ (same k ∙ ap is_some none)) in
    let wanted' : core'.servers.wanted ≡ others = ap (λ (c : CoreView). c.servers.wanted) d.core ∙ d.seats.wanted in
    let count : core'.servers.used ≡ core.servers.used = ap (λ (c : CoreView). c.servers.used) d.core ∙ d.seats.used in
    let kept : AreSeats d.lost.servers = d.loses.keeps.servers.seats (record { apart = s.seats.apart; used = s.seats.used }) in
    let order : AreInOrder d.lost.servers = d.loses.keeps.servers.order s.limited (record { ranked = s.order.ranked; counted = s.order.counted }) in
    record {
      counted = link ∙ ap (λ n. n + 1) s.counted ∙ sym used';
      there = λ k. there k (s.there k);
      undrained = λ k. undrained k (s.undrained k);
      blocked = λ k. blocked k (s.blocked k);
      listens = listening' ∙ s.listens;
      parties = λ k. drops-has mid core' wanted.link.0 d k ∙ ap (λ t. t && not (eqb k wanted.link.0)) (s.parties k ∙ ap (λ ws. is_some (at_key link_number k states) || is_wanted k ws) first)
          ∙ party-by k wanted.link.0 (eqb k wanted.link.0) refl (is_some (at_key link_number k states)) (is_wanted k others)
          (λ e. (let here : k ≡ wanted.link.0 = grind (arith, nat_tests) in ap is_some (s.unknown k (omega arith))))
          (λ e. (let here : k ≡ wanted.link.0 = grind (arith, nat_tests) in others-above (used + 1) k others next.1 (omega arith)))
          ∙ ap (λ ws. is_some (at_key link_number k states) || is_wanted k ws) (sym wanted');
      ended = λ k e. ap (λ cs. is_open_at (at_key connection_link k cs)) connections ∙ shut-without wanted.link.0 k d.lost.connections (ended-keeps states mid d.lost d.loses.keeps s.ended k e);
      alone = subst AreAlone (sym d.core) (forgot-alone wanted.link.0 d.lost (lost-alone mid core' wanted.link.0 d s.alone));
      once = subst (λ cs. Distinct (map connection_link cs)) (sym connections) (distinct-without connection_link wanted.link.0 d.lost.connections (subst Distinct (sym d.clients) s.once));
      seats = subst (λ (c : CoreView). AreSeats c.servers) (sym d.core) (forgot-seats wanted.link.0 d.lost kept);
      order = subst (λ (c : CoreView). AreInOrder c.servers) (sym d.core) (forgot-order wanted.link.0 d.lost order);
      apart = s.apart;
      unknown = λ k below. s.unknown k (omega arith);
      clients = λ k below. missing k (s.clients k (omega arith));
      unrefused = λ k below. not-refused k refused listed (s.unrefused k (omega arith)) (λ e. (let same' = by-link refused' wanted.link k (within k e) in absurd (omega arith)));
      spared = λ k e. spared-by k (missing k) above (or-split (is_refused k refused) (is_refused k listed) (sym (refused-append k refused listed) ∙ e));
      next = subst (AreNext wanted.link.0) (sym wanted') (subst (λ n. AreNext n others) (sym link) next.1);
      reached = (let r = s.reached in let l = ap length first in let m = ap length wanted' in omega arith);
      limited = (let m = s.limited in omega arith);
    }
  where
    spared-by : (k : ℕ) → (at_key connection_link k core.connections ≡ None → at_key connection_link k core'.connections ≡ None) → used < wanted.link.0 → (is_refused k refused ≡ true) ⊎ (is_refused k listed ≡ true) → at_key connection_link k core'.connections ≡ None
    spared-by k missing above (inl before) = missing (s.spared k before)
    spared-by k missing above (inr now) = missing (s.clients k (let same' = by-link refused' wanted.link k (within k now) in omega arith))

-- ---- what is to be closed then

among-front : (one : Closed) (xs ys : List Closed) → IsAmong one xs → IsAmong one (xs ++ ys)
among-front one [] ys h = absurd h
among-front one (x ∷ xs) ys (inl e) = inl e
among-front one (x ∷ xs) ys (inr h) = inr (among-front one xs ys h)

among-back : (one : Closed) (xs ys : List Closed) → IsAmong one ys → IsAmong one (xs ++ ys)
among-back one [] ys h = h
among-back one (x ∷ xs) ys h = inr (among-back one xs ys h)

-- a client that was leaving is among those that are to be closed
among-client : (k : ℕ) (why : Cause) (connections : List Connection) → leaving_on k connections ≡ Some why → IsAmong (record { link = record { 0 = k }; cause = why }) (leaving_closes connections)
among-client k why [] e = absurd (let q : None ≡ Some why = e in cc)
among-client k why (connection ∷ connections) e = among-by (eqb (connection_link connection) k) refl e (among-client k why connections)
  where
    here-by : (o : Option Cause) → o ≡ Some why → connection_link connection ≡ k → IsAmong (record { link = record { 0 = k }; cause = why }) (closed_by connection.session.client.link o ++ leaving_closes connections)
    here-by None q same = absurd (let r : None ≡ Some why = q in cc)
    here-by (Some cause) q same =
        let cause' : cause ≡ why = (let r : Some cause ≡ Some why = q in cc) in
        inl (ap (λ (n : ℕ). record { link = record { 0 = n }; cause = why }) (sym same) ∙ ap (λ (w : Cause). record { link = connection.session.client.link; cause = w }) (sym cause'))

    among-by : (t : Bool) → eqb (connection_link connection) k ≡ t → leaving_in (cond t (Some connection) (at_key connection_link k connections)) ≡ Some why → (leaving_on k connections ≡ Some why → IsAmong (record { link = record { 0 = k }; cause = why }) (leaving_closes connections)) → IsAmong (record { link = record { 0 = k }; cause = why }) (closed_by connection.session.client.link connection.leaving ++ leaving_closes connections)
    among-by true f q ih = here-by connection.leaving q (grind (arith, nat_tests))
    among-by false f q ih = among-back _ (closed_by connection.session.client.link connection.leaving) (leaving_closes connections) (ih q)

-- each close was to be made before, or is for want of memory, or may be that of a server
drops-closes : (x x' y : Headless) (a b : Seen) (link : ℕ) (given : List Happening) → (IsTrue b.tells → b.taken ≡ a.taken ++ given) → GivesNothing given → Dropped x'.core y.core link → x'.core.connections ≡ x.core.connections → x'.core.servers.seats ≡ x.core.servers.seats → x'.core.servers.used ≡ x.core.servers.used → Distinct (links_of x.core) → AreSeats x'.core.servers → (leaving_on link x.core.connections ≡ None) → All (HasReason x y a b) (closes_asked y.core)
drops-closes x x' y a b link given taken gives d connections seats used distinct apart none =
    subst (All (HasReason x y a b)) (ap closes_asked (sym d.core))
    (All-append (HasReason x y a b) (seat_closes (without seat_link link d.lost.servers.seats)) (leaving_closes (without connection_link link d.lost.connections))
    (seats-without (HasReason x y a b) link d.lost.servers.seats (seats-all (λ k why. HasReason x y a b (record { link = record { 0 = k }; cause = why })) d.lost.servers.seats kept.apart (λ k why leaves. server k why leaves)))
    (subst (All (HasReason x y a b)) (sym (leaving-without link d.lost.connections)) (all-without (HasReason x y a b) link (leaving_closes d.lost.connections)
    (closes-all (λ k why. HasReason x y a b (record { link = record { 0 = k }; cause = why })) d.lost.connections (subst Distinct (ap (map connection_link) (sym connections) ∙ sym d.clients) distinct) (λ k why leaves. client k why leaves (eqb k link) refl)))))
  where
    kept : AreSeats d.lost.servers
    kept = d.loses.keeps.servers.seats apart

    -- a server that is there was there before
    server : (k : ℕ) (why : Cause) → server_leaving_on k d.lost.servers.seats ≡ Some why → HasReason x y a b (record { link = record { 0 = k }; cause = why })
    server k why leaves = inr (inr (record {
      side = inl (there (at_key seat_link k d.lost.servers.seats) refl leaves);
      drawn = (let low = leaving-drawn d.lost k why kept leaves in let e = ap (λ (c : CoreView). c.servers.used) d.core in omega arith);
      uncome = uncome-as k a b given taken (no-arrivals k given gives);
    }))
      where
        there : (o : Option SeatView) → at_key seat_link k d.lost.servers.seats ≡ o → server_leaving_in o ≡ Some why → is_some (at_key seat_link k x.core.servers.seats) ≡ true
        there None e q = absurd (let r : None ≡ Some why = q in cc)
        there (Some seat) e q = ap (λ ss. is_some (at_key seat_link k ss)) (sym seats) ∙ sym (same-keys seat_link k d.lost.servers.seats x'.core.servers.seats d.seats.links) ∙ ap is_some e

    starved-by : (k : ℕ) (why : Cause) → leaving_on k d.lost.connections ≡ Some why → (leaving_on k d.lost.connections ≡ leaving_on k x'.core.connections) ⊎ (leaving_on k d.lost.connections ≡ Some NoMemory) → HasReason x y a b (record { link = record { 0 = k }; cause = why })
    starved-by k why leaves (inl same) = inl (among-back _ x.links.closed.items (closes_asked x.core) (among-back _ (seat_closes x.core.servers.seats) (leaving_closes x.core.connections)
        (among-client k why x.core.connections (ap (leaving_on k) (sym connections) ∙ sym same ∙ leaves))))
    starved-by k why leaves (inr starves) =
        let cause : NoMemory ≡ why = (let r : Some NoMemory ≡ Some why = sym starves ∙ leaves in cc) in
        inr (inl (subst (λ c. CausedBy c k a b) cause tt))

    client : (k : ℕ) (why : Cause) → leaving_on k d.lost.connections ≡ Some why → (t : Bool) → eqb k link ≡ t → HasReason x y a b (record { link = record { 0 = k }; cause = why })
    client k why leaves true e =
        let same : k ≡ link = grind (arith, nat_tests) in
        own-by k why leaves same (d.loses.leaves (subst Distinct (ap (map connection_link) (sym connections)) distinct) (ap (leaving_on link) connections ∙ none))
      where
        own-by : (j : ℕ) (c : Cause) → leaving_on j d.lost.connections ≡ Some c → j ≡ link → (leaving_on link d.lost.connections ≡ None) ⊎ ((leaving_on link d.lost.connections ≡ Some NoMemory) ⊎ (leaving_on link d.lost.connections ≡ Some NoMemory)) → HasReason x y a b (record { link = record { 0 = j }; cause = c })
        own-by j c l s (inl none') = absurd (let r : None ≡ Some c = sym none' ∙ ap (λ i. leaving_on i d.lost.connections) (sym s) ∙ l in cc)
        own-by j c l s (inr (inl starves)) = starved-by j c l (inr (ap (λ i. leaving_on i d.lost.connections) s ∙ starves))
        own-by j c l s (inr (inr starves)) = starved-by j c l (inr (ap (λ i. leaving_on i d.lost.connections) s ∙ starves))
    client k why leaves false e = starved-by k why leaves (d.loses.causes (subst Distinct (ap (map connection_link) (sym connections)) distinct) k (λ q. grind (arith, nat_tests)))

reasons-front : (x y : Headless) (a b : Seen) → All (HasReason x y a b) x.links.closed.items
reasons-front x y a b = All-front (HasReason x y a b) x.links.closed.items (closes_asked x.core) (All-weaker (λ c. IsAmong c (closed_so_far x)) (HasReason x y a b) (λ c i. inl i) (closed_so_far x) (among-self (closed_so_far x)))

-- a connection was begun or refused, and there was no memory for it
pub LoopStep-dropped : (refused : Bool) (given : List Happening) (heard : List Heard) (x x' y : Headless) (a b : Seen) (wanted : Wanted) (others : List Wanted) → x.core.servers.wanted ≡ wanted ∷ others → x' ≡ record x { core = with_wanted others x.core } → DropsLink x' y wanted refused → AgreesWithSockets x a → AskingCall a b given (wanted.address ∷ []) → wake_count given ≡ 0 → listen_faults given ≡ 0 → GivesNothing given → happenings heard ≡ given → ((history : List Heard) → events_from history heard ≡ []) → ((history : List Heard) → EndsEach history heard)
    → b.used ≡ a.used + 1 → ((k : ℕ) → a.there k ≡ is_there (at_key link_number k x.links.opened.items) → b.there k ≡ is_there (at_key link_number k x.links.opened.items)) → ((k : ℕ) → a.undrained k ≡ is_undrained (at_key link_number k x.links.opened.items) → b.undrained k ≡ is_undrained (at_key link_number k x.links.opened.items)) → ((k : ℕ) → a.blocked k ≡ is_blocked (at_key link_number k x.links.opened.items) → b.blocked k ≡ is_blocked (at_key link_number k x.links.opened.items)) → b.listening ≡ a.listening
    → (IsTrue b.tells → AgreesWithHappenings x.clock x.links.opened.items x.used x.ran x.refused.items x.unlisted a.taken → AgreesWithHappenings x.clock x.links.opened.items y.used x.ran y.refused.items y.unlisted (a.taken ++ given))
    → ((history : List Heard) → happenings history ≡ a.taken → AgreesWithHeard x.links.opened.items x.used x.ran a.taken history → AgreesWithHeard x.links.opened.items y.used x.ran (a.taken ++ given) (history ++ heard))
    → LoopStep true 0 0 x y a b
LoopStep-dropped refused given heard x x' y a b wanted others first same drops s' call wakes faults gives spells nothing ends used there undrained blocked listening told hears =
    LoopStep-ask true 0 0 x y a b given heard (wanted.address ∷ []) [] spells call (λ below. (let e = drops.turns ∙ ap (λ (z : Headless). z.turns) same in omega arith)) (omega arith) (omega arith)
    (let r = d.loses.keeps.rises in let e = ap (λ (c : CoreView). c.starved) d.core in omega arith) (λ t s still below. no-starving x.core.starved y.core.starved d.starved still below) (λ s. reasons) (λ s. drops-sides (with_wanted others x.core) y.core wanted.link.0 d) (λ s. Onward-none x.core y.core given (let e = ap (λ (c : CoreView). c.servers.used) d.core in let u = d.seats.used in omega arith) (λ k. no-arrivals k given gives))
    (λ over. quits ∙ over) (λ t s. saves)
    (λ s. rw (opened, drops.used, drops.listening ∙ ap (λ (z : Headless). z.listening) same, drops.lists ∙ ap (λ (z : Headless). z.refused.items ++ drops.listed) same) (among-dropped x.links.opened.items x.core y.core x.used x.listening refused x.refused.items drops.listed a b wanted others first d (within-of refused wanted.link drops.listed drops.fits) used there undrained blocked listening s))
    (λ t s on. rw (drops.clock ∙ ap (λ (z : Headless). z.clock) same, opened, ran) (told t (s.told (call.told t) (sym quits ∙ on))))
    (λ t s on. rw (opened, ran) (hears s.history (s.spells (call.told t)) (s.hears (call.told t) (sym quits ∙ on))))
    (λ t s k e. socket-stays k a.taken given (s.sockets (call.told t) k (rw opened at e)))
    (λ s none. absurd (begun x a wanted others s first (sym ran ∙ none)))
    (λ t s. record {
      events = [];
      reaches = rw (ran, nothing s.history) (ReachesEvents-none x.core.quits y.core.quits x.ran);
      rises = (let r = d.loses.keeps.rises in let e = ap (λ (c : CoreView). c.starved) d.core in omega arith);
      verdicts = subst (Stay x.core.verdicts) (sym (ap (λ (c : CoreView). c.verdicts) d.core)) d.loses.keeps.verdicts;
      goes = Goes-both [] [] x.core (with_wanted others x.core) y.core (Goes-kept x.core (with_wanted others x.core) (wanted-kept x.core (with_wanted others x.core) others refl)) (Goes-dropped wanted.link.0 (with_wanted others x.core) y.core (record { there = wanted-party x a wanted others first s wanted.link.0 (let q : eqb wanted.link.0 wanted.link.0 ≡ true = grind (arith, nat_tests) in q); lost = d.lost; loses = d.loses.whole; gone = d.loses.gone; forgets = d.core }));
      advances = λ still below rows were agrees. no-starving x.core.starved y.core.starved d.starved still below;
      silent = λ over. rw spells gives;
      ends = ends s.history;
      last = λ still below rows were agrees going over. no-starving x.core.starved y.core.starved d.starved still below;
    })
  where
    mid : x'.core ≡ with_wanted others x.core
    mid = ap (λ (z : Headless). z.core) same

    d : Dropped (with_wanted others x.core) y.core wanted.link.0
    d = subst (λ c. Dropped c y.core wanted.link.0) mid (dropped-of x'.core y.core wanted.link.0 drops.core)

    quits : y.core.quits ≡ x.core.quits
    quits = ap (λ (c : CoreView). c.quits) d.core ∙ d.loses.quits

    ran : y.ran ≡ x.ran
    ran = drops.ran ∙ ap (λ (z : Headless). z.ran) same

    opened : y.links.opened.items ≡ x.links.opened.items
    opened = drops.opened ∙ ap (λ (z : Headless). z.links.opened.items) same

    saves : KeepsSaved x.core y.core
    saves = KeepsSaved-trans x.core d.lost y.core d.loses.keeps.saves (saves-as d.lost y.core (forgot wanted.link.0 d.lost) d.core refl refl)

    above : x.used < wanted.link.0
    above = let n = wanted-next x a wanted others first s' in omega arith

    mid-seats : AreSeats (with_wanted others x.core).servers
    mid-seats = record { apart = s'.among.seats.apart; used = s'.among.seats.used }

    reasons : All (HasReason x y a b) (closed_so_far y)
    reasons = subst (λ cs. All (HasReason x y a b) (cs ++ closes_asked y.core)) (sym (drops.closed ∙ ap (λ (z : Headless). z.links.closed.items) same))
        (All-append (HasReason x y a b) x.links.closed.items (closes_asked y.core)
        (reasons-front x y a b)
        (drops-closes x (record x { core = with_wanted others x.core }) y a b wanted.link.0 given call.taken gives d refl refl refl s'.among.once mid-seats (ap leaving_in (s'.among.clients wanted.link.0 above))))

-- ---- what it is to ask for it

nothing-ready : (a b : Seen) → ((k : ℕ) → b.undrained k ≡ true → a.undrained k ≡ true) → b.listening ≡ a.listening → NothingBecameReady a b
nothing-ready a b undrained listening = record { undrained = undrained; listening = λ e. sym listening ∙ e }

stands-push : (k : ℕ) (states : List LinkState) (state : LinkState) → link_number state ≢ k → IsStanding k states → IsStanding k (states ++ state ∷ [])
stands-push k states state other h = ap is_connecting (at_key-push_other link_number k state states other) ∙ h

wanted-same : (k : ℕ) (others : List Wanted) (x y : CoreView) → y ≡ with_wanted others x → SameParty k x y
wanted-same k others x y e = record { client = ap (λ (c : CoreView). at_key connection_link k c.connections) e; server = ap (λ (c : CoreView). at_key seat_link k c.servers.seats) e }

-- it is kept
pub asks-kept : (refused : Bool) (x x' y : Headless) (a b : Seen) (wanted : Wanted) (others : List Wanted) → x.core.servers.wanted ≡ wanted ∷ others → x' ≡ record x { core = with_wanted others x.core } → TakesLink x' y wanted refused → AgreesWithSockets x a → NothingBecameReady a b → TakesNothing a b → AsksWanted x y a b
asks-kept refused x x' y a b wanted others first same takes s falls nothing =
    let core : y.core ≡ with_wanted others x.core = takes.core ∙ ap (λ (z : Headless). z.core) same in
    let opened : y.links.opened.items ≡ x.links.opened.items ++ new_state wanted.link (Some wanted.server) refused ∷ [] = takes.opened ∙ ap (λ (z : Headless). z.links.opened.items ++ new_state wanted.link (Some wanted.server) refused ∷ []) same in
    let next : wanted.link.0 ≡ x.used + 1 = wanted-next x a wanted others first s in
    let starved = ap (λ (c : CoreView). c.starved) core in
    let count = ap party_count core in
    record {
      falls = falls;
      nothing = nothing;
      quits = ap (λ (c : CoreView). c.quits) core;
      contained = KeepsLinks-more x y (new_state wanted.link (Some wanted.server) refused) next (takes.used ∙ next) (omega arith) opened (takes.closed ∙ ap (λ (z : Headless). z.links.closed.items) same);
      fewer = omega arith;
      lost = λ k was gone. absurd (false≢true (sym gone ∙ same-has k x.core y.core (wanted-same k others x.core y.core core) ∙ was));
      gone = λ k none. same-has k x.core y.core (wanted-same k others x.core y.core core) ∙ none;
      parted = λ k leaves. inr (subst (λ (o : Option Cause). IsSome o) (sym (same-why k x.core y.core (wanted-same k others x.core y.core core))) leaves);
      stands = λ k low h. subst (IsStanding k) (sym opened) (stands-push k x.links.opened.items (new_state wanted.link (Some wanted.server) refused) (λ q. absurd (omega arith)) h);
    }

-- there is no memory for it
pub asks-dropped : (refused : Bool) (x x' y : Headless) (a b : Seen) (wanted : Wanted) (others : List Wanted) → x.core.servers.wanted ≡ wanted ∷ others → x' ≡ record x { core = with_wanted others x.core } → DropsLink x' y wanted refused → AgreesWithSockets x a → NothingBecameReady a b → TakesNothing a b → AsksWanted x y a b
asks-dropped refused x x' y a b wanted others first same drops s falls nothing =
    record {
      falls = falls;
      nothing = nothing;
      quits = ap (λ (c : CoreView). c.quits) d.core ∙ d.loses.quits;
      contained = KeepsLinks-dropped x y (drops.used ∙ next) (let r = d.loses.keeps.rises in let e = ap (λ (c : CoreView). c.starved) d.core in omega arith) d.starved opened (drops.closed ∙ ap (λ (z : Headless). z.links.closed.items) same);
      fewer = fewer;
      lost = λ k was gone. less;
      gone = λ k none. ap (has_party k) d.core ∙ forgot-party k link d.lost ∙ ap (λ t. t && not (eqb k link)) (lost-has link NoMemory (with_wanted others x.core) d.lost d.loses k ∙ none);
      parted = λ k leaves. parted-by k (eqb k link) refl leaves;
      stands = λ k low h. subst (IsStanding k) (sym opened) h;
    }
  where
    link : ℕ
    link = wanted.link.0

    next : link ≡ x.used + 1
    next = wanted-next x a wanted others first s

    d : Dropped (with_wanted others x.core) y.core link
    d = subst (λ c. Dropped c y.core link) (ap (λ (z : Headless). z.core) same) (dropped-of x'.core y.core link drops.core)

    opened : y.links.opened.items ≡ x.links.opened.items
    opened = drops.opened ∙ ap (λ (z : Headless). z.links.opened.items) same

    fewer : party_count y.core ≤ party_count x.core
    fewer =
        let e = ap party_count d.core in
        let c = length-without_le connection_link link d.lost.connections in
        let t = length-without_le seat_link link d.lost.servers.seats in
        let n = lost-count link NoMemory (with_wanted others x.core) d.lost d.loses in
        omega arith

    less : party_count y.core < party_count x.core
    less =
        let e = ap party_count d.core in
        let there : has_party link d.lost ≡ true = lost-has link NoMemory (with_wanted others x.core) d.lost d.loses link ∙ wanted-party x a wanted others first s link (let q : eqb link link ≡ true = grind (arith, nat_tests) in q) in
        let f = forgot-fewer link d.lost there in
        let n = lost-count link NoMemory (with_wanted others x.core) d.lost d.loses in
        omega arith

    parted-by : (k : ℕ) (t : Bool) → eqb k link ≡ t → IsSome (leaving_of k x.core) → (has_party k y.core ≡ false) ⊎ IsSome (leaving_of k y.core)
    parted-by k true e leaves = inl (let here : k ≡ link = grind (arith, nat_tests) in ap (has_party k) d.core ∙ ap (λ i. has_party i (forgot link d.lost)) here ∙ forgot-here link d.lost)
    parted-by k false e leaves =
        let other : k ≢ link = λ q. grind (arith, nat_tests) in
        inr (subst (λ (o : Option Cause). IsSome o) (sym (ap (leaving_of k) d.core ∙ same-why k d.lost (forgot link d.lost) (forgot-other k link d.lost other))) (still k (server_leaving_on k x.core.servers.seats) refl leaves))
      where
        still : (j : ℕ) (o : Option Cause) → server_leaving_on j x.core.servers.seats ≡ o → IsSome (or_else o (leaving_on j x.core.connections)) → IsSome (leaving_of j d.lost)
        still j None e' h = some-second (server_leaving_on j d.lost.servers.seats) (leaving_on j d.lost.connections) (subst (λ (q : Option Cause). IsSome q) (sym (ap leaving_in (d.loses.keeps.kept j h))) h)
        still j (Some cause) e' h =
            let is : IsSome (server_leaving_on j x.core.servers.seats) = rw e' refl in
            some-first (server_leaving_on j d.lost.servers.seats) (leaving_on j d.lost.connections) (subst (λ (q : Option Cause). IsSome q) (sym (ap server_leaving_in (d.loses.keeps.servers.kept j is))) is)
