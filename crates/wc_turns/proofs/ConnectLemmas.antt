-- A connection that was wanted is asked for.
use Rattle.std.proofs.Common.{◌≡◌, ◌≢◌, ℕ, zero, suc, ◌+◌, ◌<◌, ◌≤◌, nat_le, Bool, true, false, not, eqb, ◌&&◌, ◌||◌, IsTrue, List, [], ◌∷◌, ◌++◌, map, length, Option, Some, None, is_some, refl, sym, ap, ◌∙◌, subst, arith, append_assoc}
use Rattle.std.proofs.lemmas.Bool.{false≢true}
use Rattle.std.proofs.lemmas.Bool.Decides.{nat_tests}
use Rattle.std.proofs.lemmas.List.{append-nil}
use Rattle.wc_outside.specs.Seen.{Seen}
use Rattle.wc_outside.specs.Keyed.{at_key}
use Rattle.wc_core.specs.Served.{state_of, WereTold, Means, Distinct}
use Rattle.wc_core.specs.State.{Beside}
use Rattle.wc_core.proofs.DidLemmas.{saves-as}
use Rattle.wc_servers.specs.declared.wanted.Wanted.{Wanted}
use Rattle.wc_turns.specs.declared.links.LinkState.{LinkState}
use Rattle.wc_turns.specs.declared.headless.Headless.{Headless}
use Rattle.wc_turns.specs.Links.{link_number, is_undrained, is_blocked, is_there, new_state}
use Rattle.wc_core.specs.ServersKept.{is_wanted, AreNext}
use Rattle.wc_turns.specs.Parties.{has_party, unsent_on, connect_of, asks_of, closes_asked}
use Rattle.wc_turns.specs.Steps.{TakesLink}
use Rattle.wc_turns.specs.Turns.{AgreesWithHappenings, AgreesOnLinks, AgreesWithSockets, moment, point, closed_so_far, LoopStep}
use Rattle.wc_turns.specs.Turns.{AgreesWithHeard}
use Rattle.wc_turns.proofs.HeardAgrees.{Hears-asked, socket-came}
use Rattle.wc_turns.proofs.KeyedLemmas.{or-false, or-true, is_some-push, at_key-push_same, at_key-push_other, absent-missing, distinct-push, map-push}
use Rattle.wc_turns.proofs.RunLemmas.{ReachesEvents-none}
use Rattle.wc_turns.proofs.PointLemmas.{OnOneSide-none, MomentAdvances-none}
use Rattle.wc_turns.proofs.AgreesLemmas.{For-asked}
use Rattle.wc_turns.proofs.CauseLemmas.{Onward-none, reasons-same}
use Rattle.wc_turns.proofs.EndedLemmas.{ended-came}
use Rattle.wc_turns.proofs.PartyLemmas.{or-assoc}
use Rattle.wc_turns.proofs.TurnLemmas.{AskingCall, LoopStep-ask}
use Rattle.wc_core.proofs.OracleLemmas.{verdicts-same}
use Rattle.wc_turns.proofs.GoesLemmas.{Goes-kept}
use Rattle.wc_turns.proofs.AskLemmas.{wanted-kept}

pub pushed-flag : (f : Option LinkState → Bool) → f None ≡ false → (k : ℕ) (states : List LinkState) (state : LinkState) (t : Bool) → eqb (link_number state) k ≡ t → f (Some state) ≡ false → at_key link_number (link_number state) states ≡ None → f (at_key link_number k states) ≡ f (at_key link_number k (states ++ state ∷ []))
pushed-flag f off-none k states state true e off none =
    let same : link_number state ≡ k = grind (arith, nat_tests) in
    let before : at_key link_number k states ≡ None = ap (λ i. at_key link_number i states) (sym same) ∙ none in
    let after : at_key link_number k (states ++ state ∷ []) ≡ Some state = ap (λ i. at_key link_number i (states ++ state ∷ [])) (sym same) ∙ at_key-push_same link_number state states none in
    ap f before ∙ off-none ∙ sym off ∙ sym (ap f after)
pushed-flag f off-none k states state false e off none =
    let other : link_number state ≢ k = λ q. grind (arith, nat_tests) in
    ap f (sym (at_key-push_other link_number k state states other))

-- a connection that is wanted was not asked for before the start
begun : (x : Headless) (a : Seen) (wanted : Wanted) (others : List Wanted) → AgreesWithSockets x a → x.core.servers.wanted ≡ wanted ∷ others → x.ran ≡ 0 → ⊥
begun x a wanted others s first none = let q : wanted ∷ others ≡ [] = sym first ∙ s.idle none in cc

positive : (n : ℕ) → (n ≡ 0 → ⊥) → 1 ≤ n
positive zero h = absurd (h refl)
positive (suc n) h = omega arith

there-by : (k : ℕ) (states : List LinkState) (state : LinkState) (t : Bool) → eqb (link_number state) k ≡ t → state.refused ≡ false → at_key link_number (link_number state) states ≡ None → (is_there (at_key link_number k states) || t) ≡ is_there (at_key link_number k (states ++ state ∷ []))
there-by k states state true e kept none =
    let same : link_number state ≡ k = grind (arith, nat_tests) in
    let after : at_key link_number k (states ++ state ∷ []) ≡ Some state = ap (λ i. at_key link_number i (states ++ state ∷ [])) (sym same) ∙ at_key-push_same link_number state states none in
    or-true (is_there (at_key link_number k states)) ∙ sym (ap is_there after ∙ ap not kept)
there-by k states state false e kept none =
    let other : link_number state ≢ k = λ q. grind (arith, nat_tests) in
    or-false (is_there (at_key link_number k states)) ∙ ap is_there (sym (at_key-push_other link_number k state states other))

gone-by : (k used : ℕ) (t : Bool) → eqb (used + 1) k ≡ t → (p : Bool) → (eqb (used + 1) k ≡ true → p ≡ true) → (nat_le k (used + 1) && not p) ≡ (nat_le k used && not p)
gone-by k used true e p h = rw (h e) (and-false (nat_le k (used + 1)) ∙ sym (and-false (nat_le k used)))
  where
    and-false : (b : Bool) → (b && false) ≡ false
    and-false true = refl
    and-false false = refl
gone-by k used false e p h =
    let same : nat_le k (used + 1) ≡ nat_le k used = grind (arith, nat_tests) in
    rw same refl

-- a connection was begun, and its link is kept
pub LoopStep-begun : (x x' y : Headless) (a b : Seen) (wanted : Wanted) (others : List Wanted) → x.core.servers.wanted ≡ wanted ∷ others → x' ≡ record x { core = record x.core { servers = record x.core.servers { wanted = others } } } → TakesLink x' y wanted false → AskingCall a b [] (wanted.address ∷ [])
    → b.used ≡ a.used + 1 → (IsTrue b.tells → b.asked ≡ a.asked ++ connect_of wanted ∷ []) → (IsTrue b.tells → (k : ℕ) → b.sent k ≡ a.sent k) → (IsTrue b.tells → (k : ℕ) → b.choked k ≡ a.choked k) → ((k : ℕ) → b.there k ≡ (a.there k || eqb wanted.link.0 k)) → ((k : ℕ) → b.undrained k ≡ a.undrained k) → ((k : ℕ) → b.blocked k ≡ a.blocked k) → b.listening ≡ a.listening
    → LoopStep true 0 0 x y a b
LoopStep-begun x x' y a b wanted others first same takes call used asked sent choked there undrained blocked listening =
    LoopStep-ask true 0 0 x y a b [] [] (wanted.address ∷ []) [] refl call (λ below. (let e = takes.turns ∙ ap (λ z. z.turns) same in omega arith)) refl refl
    (let e = ap (λ c. c.starved) core in omega arith) (λ t s unstarved below. closes ∙ sym (append-nil _)) (λ s. reasons-same x y a b closes) (λ s k h. rw core at h) (λ s. Onward-none x.core y.core [] (let e = ap (λ c. c.servers.used) core in omega arith) (λ k. refl)) (λ over. ap (λ c. c.quits) core ∙ over) (λ t s. saves-as x.core y.core _ core refl refl)
    among
    (λ t s on. rw (append-nil a.taken) (told-by t s on))
    (λ t s on. rw (append-nil a.taken, append-nil s.history) (hears-by t s on))
    (λ t s k e. rw (append-nil a.taken) (s.sockets (call.told t) k (socket-came x.links.opened.items (new_state wanted.link (Some wanted.server) false) k refl (rw opened at e))))
    (λ s none. absurd (begun x a wanted others s first (sym ran ∙ none)))
    (λ t s. record {
      events = [];
      reaches = rw ran (ReachesEvents-none x.core.quits y.core.quits x.ran);
      rises = (let e = ap (λ c. c.starved) core in omega arith);
      verdicts = verdicts-same x.core.verdicts y.core.verdicts (ap (λ c. c.verdicts) core);
      goes = Goes-kept x.core y.core (wanted-kept x.core y.core others core);
      advances = λ same' below told were agrees. MomentAdvances-none told (moment x a) (moment y b) (means told were) (ap (λ c. c.quits) core) (gone s) (λ k. spoils t k) (λ k plain. rw (sent t k, unsent k) refl) (λ k plain e. sent t k) (rw core (OnOneSide-none x.core (record x.core { servers = record x.core.servers { wanted = others } }) refl (λ k e. e) (λ k e. e))) (asks t);
      silent = λ over. refl;
      ends = tt;
      last = λ same' below told were agrees going over. absurd (false≢true (sym going ∙ sym (ap (λ c. c.quits) core) ∙ over));
    })
  where
    core : y.core ≡ record x.core { servers = record x.core.servers { wanted = others } }
    core = takes.core ∙ ap (λ z. z.core) same

    ran : y.ran ≡ x.ran
    ran = takes.ran ∙ ap (λ z. z.ran) same

    number : AgreesWithSockets x a → wanted.link.0 ≡ x.used + 1
    number s = (subst (AreNext x.used) first s.among.next).0

    count : AgreesWithSockets x a → y.used ≡ x.used + 1
    count s = takes.used ∙ number s

    opened : y.links.opened.items ≡ x.links.opened.items ++ new_state wanted.link (Some wanted.server) false ∷ []
    opened = takes.opened ∙ ap (λ z. z.links.opened.items ++ new_state wanted.link (Some wanted.server) false ∷ []) same

    refused : y.refused.items ≡ x.refused.items
    refused = takes.lists ∙ append-nil x'.refused.items ∙ ap (λ z. z.refused.items) same

    closes : closed_so_far y ≡ closed_so_far x
    closes = ap (λ cs. cs ++ closes_asked y.core) (takes.closed ∙ ap (λ z. z.links.closed.items) same) ∙ ap (λ c. x.links.closed.items ++ closes_asked c) core

    told-by : IsTrue b.tells → AgreesWithSockets x a → y.core.quits ≡ false → AgreesWithHappenings y.clock y.links.opened.items y.used y.ran y.refused.items y.unlisted a.taken
    told-by t s on = rw (takes.clock ∙ ap (λ z. z.clock) same, opened, ran, refused, takes.unlisted ∙ ap (λ z. z.unlisted) same)
        (For-asked x.clock x.links.opened.items x.used y.used x.ran x.refused.items x.unlisted a.taken wanted.link (new_state wanted.link (Some wanted.server) false) (number s) (count s) refl refl (positive x.ran (begun x a wanted others s first))
        (s.told (call.told t) (sym (ap (λ c. c.quits) core) ∙ on)))

    hears-by : IsTrue b.tells → (s : AgreesWithSockets x a) → y.core.quits ≡ false → AgreesWithHeard y.links.opened.items y.used y.ran a.taken s.history
    hears-by t s on = rw (opened, ran)
        (Hears-asked x.links.opened.items x.used y.used x.ran a.taken s.history wanted.link (new_state wanted.link (Some wanted.server) false) (s.spells (call.told t)) (number s) (count s) refl (record { tail = refl; framing = refl; ended = refl }) refl ((s.told (call.told t) (sym (ap (λ c. c.quits) core) ∙ on)).fresh)
        (s.hears (call.told t) (sym (ap (λ c. c.quits) core) ∙ on)))

    means : (told : Beside) → WereTold x.core told → Means y.core (state_of x.core told)
    means told were = rw core (record { same = refl; told = were })

    party-of : AgreesWithSockets x a → (k : ℕ) → eqb (x.used + 1) k ≡ true → has_party k x.core ≡ true
    party-of s k e = s.among.parties k ∙ ap (λ ws. is_some (at_key link_number k x.links.opened.items) || is_wanted k ws) first
        ∙ ap (λ n. is_some (at_key link_number k x.links.opened.items) || (eqb n k || is_wanted k others)) (number s) ∙ ap (λ c. is_some (at_key link_number k x.links.opened.items) || (c || is_wanted k others)) e ∙ or-true (is_some (at_key link_number k x.links.opened.items))

    gone : AgreesWithSockets x a → (k : ℕ) → (point k (moment y b)).gone ≡ (point k (moment x a)).gone
    gone s k = rw (count s, core) (gone-by k x.used (eqb (x.used + 1) k) refl (has_party k x.core) (party-of s k))

    spoils : IsTrue b.tells → (k : ℕ) → (point k (moment y b)).spoiled ≡ false → (point k (moment x a)).spoiled ≡ false
    spoils t k e = rw (choked t k, call.taken t, append-nil a.taken) at e

    unsent : (k : ℕ) → unsent_on k y.core ≡ unsent_on k x.core
    unsent k = rw core refl

    asks : IsTrue b.tells → (moment y b).asked ≡ (moment x a).asked
    asks t = rw (asked t, core, first) (append_assoc a.asked (connect_of wanted ∷ []) (asks_of others))

    among : AgreesOnLinks x.links.opened.items x.core x.used x.listening x.refused.items a → AgreesOnLinks y.links.opened.items y.core y.used y.listening y.refused.items b
    among s =
        let next = subst (AreNext x.used) first s.next in
        let link : wanted.link.0 ≡ x.used + 1 = next.0 in
        let above : x.used < wanted.link.0 = omega arith in
        let state = new_state wanted.link (Some wanted.server) false in
        let some : (k : ℕ) → is_some (at_key link_number k (x.links.opened.items ++ state ∷ [])) ≡ (is_some (at_key link_number k x.links.opened.items) || eqb wanted.link.0 k) = λ k. is_some-push link_number k state x.links.opened.items in
        rw (opened, takes.listening ∙ ap (λ z. z.listening) same, refused, core, takes.used) (record {
          counted = link ∙ ap (λ n. n + 1) s.counted ∙ sym used;
          there = λ k. there k ∙ ap (λ q. q || eqb wanted.link.0 k) (s.there k) ∙ there-by k x.links.opened.items state (eqb wanted.link.0 k) refl refl (s.unknown wanted.link.0 above);
          undrained = λ k. undrained k ∙ s.undrained k ∙ pushed-flag is_undrained refl k x.links.opened.items state (eqb wanted.link.0 k) refl refl (s.unknown wanted.link.0 above);
          blocked = λ k. blocked k ∙ s.blocked k ∙ pushed-flag is_blocked refl k x.links.opened.items state (eqb wanted.link.0 k) refl refl (s.unknown wanted.link.0 above);
          listens = listening ∙ s.listens;
          parties = λ k. s.parties k ∙ ap (λ ws. is_some (at_key link_number k x.links.opened.items) || is_wanted k ws) first
              ∙ sym (or-assoc (is_some (at_key link_number k x.links.opened.items)) (eqb wanted.link.0 k) (is_wanted k others)) ∙ ap (λ q. q || is_wanted k others) (sym (some k));
          ended = ended-came x.links.opened.items state x.core refl (s.unknown wanted.link.0 above) s.ended;
          alone = s.alone;
          once = s.once;
          seats = record { apart = s.seats.apart; used = s.seats.used };
          order = record { ranked = s.order.ranked; counted = s.order.counted };
          apart = subst Distinct (sym (map-push link_number x.links.opened.items state)) (distinct-push wanted.link.0 (map link_number x.links.opened.items) s.apart (absent-missing link_number wanted.link.0 x.links.opened.items (s.unknown wanted.link.0 above)));
          unknown = λ k below.
              let other : link_number state ≢ k = λ q. omega arith in
              at_key-push_other link_number k state x.links.opened.items other ∙ s.unknown k (omega arith);
          clients = λ k below. s.clients k (omega arith);
          unrefused = λ k below. s.unrefused k (omega arith);
          spared = s.spared;
          next = subst (λ n. AreNext n others) (sym link) next.1;
          reached = (let r = s.reached in let l = ap length first in omega arith);
          limited = s.limited;
        })
