-- Bytes are sent, and links are closed.
use Rattle.std.proofs.Common.{◌≡◌, ◌≢◌, ℕ, ◌<◌, nat_le, Bool, true, false, not, cond, eqb, ◌&&◌, ◌||◌, IsTrue, List, [], ◌∷◌, ◌++◌, map, length, take, Option, Some, None, is_some, inl, refl, sym, ap, ◌∙◌, subst, arith, append_assoc}
use Rattle.std.proofs.lemmas.Bool.{false≢true}
use Rattle.std.proofs.lemmas.Bool.Decides.{nat_tests}
use Rattle.std.proofs.lemmas.List.{append-nil}
use Rattle.wc_outside.specs.Seen.{Seen}
use Rattle.wc_outside.specs.Keyed.{at_key, without}
use Rattle.wc_board.specs.declared.connection.Departure.{Departure}
use Rattle.wc_board.specs.Connections.{connection_link}
use Rattle.wc_core.specs.State.{Beside}
use Rattle.wc_core.specs.CoreView.{CoreView}
use Rattle.wc_core.specs.LinksSeen.{departure_in, unsent_in_core, gone_in}
use Rattle.wc_core.specs.Served.{state_of, WereTold, Means, Distinct}
use Rattle.wc_core.specs.ServersKept.{is_wanted, AreNext}
use Rattle.wc_core.proofs.DidLemmas.{saves-as}
use Rattle.wc_turns.specs.declared.links.LinkState.{LinkState}
use Rattle.wc_turns.specs.declared.links.Closed.{Closed}
use Rattle.wc_turns.specs.declared.links.Links.{Links}
use Rattle.wc_turns.specs.declared.headless.Headless.{Headless}
use Rattle.wc_turns.specs.Hands.{Delivers}
use Rattle.wc_framing.specs.declared.framing.Framing.{Framing}
use Rattle.wc_framing.specs.declared.framing.Framing.TheVariants as framing
use Rattle.wc_framing.specs.Framing.{is_socket}
use Rattle.wc_turns.specs.Events.{socket_on}
use Rattle.wc_turns.specs.Framed.{frames_in}
use Rattle.wc_turns.specs.Links.{link_number, is_undrained, is_blocked, is_there, with_closed, changed_at, drained_state, written_link, frames_of, is_socket_at}
use Rattle.wc_turns.specs.Parties.{has_party, unsent_on, closes_asked, asks_of}
use Rattle.wc_turns.specs.Turns.{AgreesWithSockets, AgreesOnLinks, Moment, moment, point, closed_so_far, OnOneSide, MomentAdvances, LoopStep, IsSettled, has_failed, left_as, left_on}
use Rattle.wc_turns.proofs.HandsLemmas.{Delivers-stays, Delivers-close}
use Rattle.wc_turns.proofs.KeyedLemmas.{at_key-without_none, none_of, or-false, same-keys, distinct-without}
use Rattle.wc_turns.proofs.ChangedLemmas.{keeps-drained, keeps-written, kind-drained, kind-written, numbers-changed, SameTails-changed, SameKinds-changed, undrained-drained, blocked-drained, undrained-written, blocked-written}
use Rattle.wc_turns.proofs.PointLemmas.{MomentAdvances-none, MomentAdvances-same, spoils-more, gone-nobody, or_left, or_right}
use Rattle.wc_turns.proofs.RunLemmas.{ReachesEvents-none}
use Rattle.wc_turns.proofs.AgreesLemmas.{For-states, SameKinds-without}
use Rattle.wc_turns.proofs.HeardLemmas.{plain-before}
use Rattle.wc_turns.proofs.HeardAgrees.{Hears-states, readings-kinds, socket-kinds, SameTails-without}
use Rattle.wc_turns.proofs.CauseLemmas.{reasons-same, Onward-none}
use Rattle.wc_turns.proofs.EndedLemmas.{ended-opens, ended-states, shut-without}
use Rattle.wc_turns.proofs.ForgetLemmas.{forgot, departed-party, departed-closes, forgot-state, and-not-true, and-not-false, closed-seen, forgot-party, forgot-other, forgot-here, forgot-alone, forgot-seats, forgot-order, forgot-sides}
use Rattle.wc_turns.proofs.GoneLemmas.{some-given, gone-links, gone-closes, gone-wanted, gone-used, gone-quits, gone-starved, gone-verdicts, gone-saved, gone-unwritten, gone-has, gone-opens, gone-state, gone-handed, gone-nothing, gone-seated, gone-order, gone-alone, gone-sides, gone-world, gone-pending, same-unsent}
use Rattle.wc_turns.proofs.StepLemmas.{SameSets, among-same, OnlyLinks, LoopStep-flags}
use Rattle.wc_turns.proofs.TurnLemmas.{Call, LoopStep-step, LoopStep-still, NeverFall-refl}
use Rattle.wc_core.proofs.OracleLemmas.{verdicts-same}
use Rattle.wc_turns.proofs.GoesLemmas.{Goes-same, Goes-kept}

-- what the core means stays where the state does
pub core-means : (old new : CoreView) (told : Beside) → state_of new told ≡ state_of old told → new.world ≡ old.world → new.pending ≡ old.pending → WereTold old told → Means new (state_of old told)
core-means old new told state world pending were = record { same = sym state; told = rw (world, pending) were }

-- the sockets gave and sent nothing
pub LoopStep-quiet : (x : Headless) (a b : Seen) → Call a b [] → (IsTrue b.tells → (k : ℕ) → b.sent k ≡ a.sent k) → (IsTrue b.tells → (k : ℕ) → b.choked k ≡ a.choked k) → (IsTrue b.tells → b.asked ≡ a.asked) → SameSets a b → LoopStep true 0 0 x x a b
LoopStep-quiet x a b call sent choked asked same =
    LoopStep-still x x a b call refl refl refl refl refl (λ k h. h) refl refl (inl (refl, refl)) refl
    (among-same x.links.opened.items x.core x.used x.listening x.refused.items a b same)
    (λ t s. s) (λ t history s. s) (λ k e. e)
    (λ t s rows were. MomentAdvances-same rows (moment x a) (moment x b) refl refl (sent t) (choked t) (ap (λ xs. xs ++ asks_of x.core.servers.wanted) (asked t)) [] (call.taken t) [] refl were tt)
    (λ s. Goes-same x.core x.core refl)

pub SameSets-refl : (a : Seen) → SameSets a a
SameSets-refl a = record { used = refl; there = λ k. refl; undrained = λ k. refl; blocked = λ k. refl; listening = refl }

pub Call-refl : (a : Seen) → Call a a []
Call-refl a = record { told = λ t. t; taken = λ t. sym (append-nil a.taken); asked = λ t. refl; counts = NeverFall-refl a.faults }

pub LoopStep-refl : (x : Headless) (a : Seen) → LoopStep true 0 0 x x a a
LoopStep-refl x a = LoopStep-quiet x a a (Call-refl a) (λ t k. refl) (λ t k. refl) (λ t. refl) (SameSets-refl a)

-- what is to be sent on a link that is no WebSocket
frames-none : (o : Option LinkState) → is_socket_at o ≡ false → frames_of o ≡ None
frames-none None e = refl
frames-none (Some state) e = by state.framing e
  where
    by : (f : Framing) → is_socket f ≡ false → frames_in f ≡ None
    by framing.Undecided q = refl
    by framing.Plain q = refl
    by (framing.Socket link) q = absurd (false≢true (sym q))

pub plain-left : (link : ℕ) (x : Headless) (a : Seen) (s : AgreesWithSockets x a) → IsTrue a.tells → socket_on link a.taken ≡ false → left_on link x ≡ unsent_on link x.core
plain-left link x a s t plain = by (is_socket_at (at_key link_number link x.links.opened.items)) refl
  where
    by : (b : Bool) → is_socket_at (at_key link_number link x.links.opened.items) ≡ b → left_on link x ≡ unsent_on link x.core
    by true e = absurd (false≢true (sym plain ∙ s.sockets t link e))
    by false e = ap (λ o. left_as o (unsent_on link x.core)) (frames-none (at_key link_number link x.links.opened.items) e)

-- unsent bytes of a client or a server were sent
pub LoopStep-sent : (x : Headless) (a b : Seen) (link count : ℕ) (bytes : List ℕ) → Some bytes ≡ unsent_in_core link x.core → Call a b []
    → (IsTrue b.tells → (k : ℕ) → b.sent k ≡ a.sent k ++ cond (eqb k link) (take count bytes) []) → (IsTrue b.tells → (k : ℕ) → b.choked k ≡ a.choked k) → (IsTrue b.tells → b.asked ≡ a.asked) → SameSets a b
    → LoopStep true 0 0 x (record x { core = gone_in link count x.core (at_key connection_link link x.core.connections) }) a b
LoopStep-sent x a b link count bytes u call sent choked asked same =
    let o = at_key connection_link link x.core.connections in
    let core = gone_in link count x.core o in
    let y : Headless = record x { core = core } in
    let wanted : core.servers.wanted ≡ x.core.servers.wanted = gone-wanted link count x.core o in
    LoopStep-still x y a b call refl (gone-starved link count x.core o) (gone-verdicts link count x.core o) (gone-quits link count x.core o) refl (λ k h. ((gone-sides link count x.core o refl).servers k h).0) (gone-used link count x.core o) wanted (inl (gone-unwritten link count x.core o, gone-saved link count x.core o))
    (ap (λ cs. x.links.closed.items ++ cs) (gone-closes link count x.core o refl))
    (λ t. record {
      counted = t.counted ∙ sym same.used;
      there = λ k. same.there k ∙ t.there k;
      undrained = λ k. same.undrained k ∙ t.undrained k;
      blocked = λ k. same.blocked k ∙ t.blocked k;
      listens = same.listening ∙ t.listens;
      parties = λ k. gone-has link count k x.core o refl ∙ t.parties k ∙ ap (λ ws. is_some (at_key link_number k x.links.opened.items) || is_wanted k ws) (sym wanted);
      ended = ended-opens x.links.opened.items x.core core (gone-opens link count x.core o refl) t.ended;
      alone = gone-alone link count x.core o refl t.alone;
      once = subst Distinct (sym (gone-links link count x.core o refl)) t.once;
      seats = gone-seated link count x.core o refl t.seats;
      order = gone-order link count x.core o t.order;
      apart = t.apart;
      unknown = t.unknown;
      clients = λ k above. none_of _ (same-keys connection_link k core.connections x.core.connections (gone-links link count x.core o refl) ∙ ap is_some (t.clients k above));
      unrefused = t.unrefused;
      spared = λ k e. none_of _ (same-keys connection_link k core.connections x.core.connections (gone-links link count x.core o refl) ∙ ap is_some (t.spared k e));
      next = subst (AreNext x.used) (sym wanted) t.next;
      reached = (let r = t.reached in let q = gone-used link count x.core o in let l = ap length wanted in omega arith);
      limited = (let m = t.limited in let q = gone-used link count x.core o in omega arith);
    })
    (λ t st. st) (λ t history st. st) (λ k e. e)
    (λ t s rows were. MomentAdvances-none rows (moment x a) (moment y b)
    (core-means x.core core rows (gone-state link count x.core o refl rows) (gone-world link count x.core o) (gone-pending link count x.core o) were)
    (gone-quits link count x.core o)
    (λ k. ap (λ q. nat_le k x.used && not q) (gone-has link count k x.core o refl))
    (λ k. rw (call.taken t) (spoils-more k (a.choked k) (b.choked k) a.taken [] (λ e. sym (choked t k) ∙ e)))
    (λ k plain. gone-handed k link count x.core o bytes (a.sent k) (b.sent k) refl s.among.alone (some-given link x.core bytes s.among.alone u) (sent t k))
    (λ k plain gone. gone-nothing k link count x.core bytes (a.sent k) (b.sent k) u (gone-nobody k x.used x.core gone) (sent t k))
    (gone-sides link count x.core o refl)
    (ap (λ xs. xs ++ asks_of core.servers.wanted) (asked t) ∙ ap (λ ws. a.asked ++ asks_of ws) wanted))
    (λ s. Goes-kept x.core core (record { state = λ told. gone-state link count x.core o refl told; nobody = λ k e. gone-has link count k x.core o refl ∙ e; pending = gone-pending link count x.core o; starved = gone-starved link count x.core o; quits = gone-quits link count x.core o }))

-- where nothing is sent, whatever link is asked for
pub nothing_sent : (sent : List ℕ) (b : Bool) → sent ++ cond b [] [] ≡ sent
nothing_sent sent true = append-nil sent
nothing_sent sent false = append-nil sent

-- a link is drained
pub LoopStep-drained : (x y : Headless) (a b : Seen) (link : ℕ) → OnlyLinks x y → Call a b [] → (IsTrue b.tells → (k : ℕ) → b.sent k ≡ a.sent k) → (IsTrue b.tells → (k : ℕ) → b.choked k ≡ a.choked k) → (IsTrue b.tells → b.asked ≡ a.asked)
    → b.used ≡ a.used → ((k : ℕ) → b.there k ≡ a.there k) → b.listening ≡ a.listening → ((k : ℕ) → b.undrained k ≡ (a.undrained k && not (eqb k link && true))) → ((k : ℕ) → b.blocked k ≡ a.blocked k)
    → y.links.opened.items ≡ changed_at link drained_state x.links.opened.items (at_key link_number link x.links.opened.items) → LoopStep true 0 0 x y a b
LoopStep-drained x y a b link only call sent choked asked used there listening undrained blocked opened =
    let states = x.links.opened.items in
    LoopStep-flags x y a b only call sent choked asked used there listening
    (ap (λ ss. map link_number ss) opened ∙ numbers-changed link drained_state keeps-drained states)
    (λ k h. undrained k ∙ ap (λ u. u && not (eqb k link && true)) h ∙ sym (undrained-drained link k states) ∙ sym (ap (λ ss. is_undrained (at_key link_number k ss)) opened))
    (λ k s. blocked k ∙ s.blocked k ∙ sym (blocked-drained link k states) ∙ sym (ap (λ ss. is_blocked (at_key link_number k ss)) opened))
    (rw opened (SameTails-changed link drained_state keeps-drained states))
    (rw opened (SameKinds-changed link drained_state keeps-drained kind-drained states))

-- only the links are others
pub OnlyLinks-with : (x : Headless) (links : Links) → links.closed ≡ x.links.closed → OnlyLinks x (record x { links = links })
OnlyLinks-with x links closed = record { core = refl; clock = refl; used = refl; listening = refl; turns = refl; ran = refl; refused = refl; unlisted = refl; closed = ap (λ v. v.items) closed }

-- what is seen where the last write to a link found no room, or some
abbrev pub seen_written : ℕ → Bool → Seen → Seen
seen_written link found a = record a { blocked = λ k. cond (eqb k link) found (a.blocked k) }

pub there-unless : (b : Bool) → (b ≡ false → ⊥) → b ≡ true
there-unless true h = refl
there-unless false h = absurd (h refl)

-- a link that the sockets have is kept
pub there-some : (o : Option LinkState) → is_there o ≡ true → is_some o ≡ true
there-some (Some state) e = refl
there-some None e = absurd (false≢true e)

-- it is kept whether a write to a link found no room; the rest of the write comes after that
pub LoopStep-written : (x y : Headless) (a : Seen) (link : ℕ) (found : Bool) → OnlyLinks x y → (found ≡ true → a.there link ≡ true)
    → y.links.opened.items ≡ changed_at link (written_link found) x.links.opened.items (at_key link_number link x.links.opened.items) → LoopStep true 0 0 x y a (seen_written link found a)
LoopStep-written x y a link found only there opened =
    let states = x.links.opened.items in
    let c = Call-refl a in
    LoopStep-flags x y a (seen_written link found a) only (record { told = c.told; taken = c.taken; asked = c.asked; counts = c.counts }) (λ t k. refl) (λ t k. refl) (λ t. refl) refl (λ k. refl) refl
    (ap (λ ss. map link_number ss) opened ∙ numbers-changed link (written_link found) (keeps-written found) states)
    (λ k h. h ∙ sym (undrained-written link k found states) ∙ sym (ap (λ ss. is_undrained (at_key link_number k ss)) opened))
    (λ k s. ap (λ b. cond (eqb k link) found b) (s.blocked k) ∙ sym (blocked-written link k found states (λ f. there-some _ (sym (s.there link) ∙ there f))) ∙ sym (ap (λ ss. is_blocked (at_key link_number k ss)) opened))
    (rw opened (SameTails-changed link (written_link found) (keeps-written found) states))
    (rw opened (SameKinds-changed link (written_link found) (keeps-written found) (kind-written found) states))

-- ---- a link is closed

listed-some : (o : Option LinkState) (closed : List Closed) (one : Closed) → is_some o ≡ true → with_closed o closed one ≡ closed ++ one ∷ []
listed-some (Some state) closed one e = refl
listed-some None closed one e = absurd (false≢true e)

-- a client or a server is forgotten, and its link is closed
pub record ClosesOne (x y : Headless) (d : Departure) : Type 0 where
  pub core : y.core ≡ forgot d.link.0 x.core
  pub clock : y.clock ≡ x.clock
  pub used : y.used ≡ x.used
  pub listening : y.listening ≡ x.listening
  pub turns : y.turns ≡ x.turns
  pub ran : y.ran ≡ x.ran
  pub refused : y.refused ≡ x.refused
  pub unlisted : y.unlisted ≡ x.unlisted
  pub opened : y.links.opened.items ≡ without link_number d.link.0 x.links.opened.items
  pub closed : y.links.closed.items ≡ with_closed (at_key link_number d.link.0 x.links.opened.items) x.links.closed.items (record { link = d.link; cause = d.cause })

used-known : (k used : ℕ) (o : Option LinkState) → (used < k → o ≡ None) → is_some o ≡ true → (t : Bool) → nat_le k used ≡ t → nat_le k used ≡ true
used-known k used o unknown some true e = e
used-known k used o unknown some false e = absurd (let above : used < k = grind (arith, nat_tests) in let none = unknown above in false≢true (sym (ap is_some none) ∙ some))

close-hands : (k j : ℕ) (a b : Moment) (blocked : ℕ → Bool) (t : Bool) → eqb k j ≡ t → b.core ≡ forgot j a.core → b.used ≡ a.used → b.taken ≡ a.taken → b.sent k ≡ a.sent k
    → b.choked k ≡ (a.choked k || (eqb k j && blocked k)) → has_party j a.core ≡ true → nat_le j a.used ≡ true → (eqb k j ≡ true → blocked j ≡ false → has_failed j a.taken ≡ false → unsent_on j a.core ≡ [])
    → Delivers (point k a) (point k b) []
close-hands k j a b blocked true e core us tk sent choked there used settled =
    let same : j ≡ k = grind (arith, nat_tests) in
    let first : ((b.choked k || has_failed k b.taken) ≡ false) → (a.choked k ≡ false) × ((blocked k ≡ false) × (has_failed k a.taken ≡ false)) = λ q.
    let c = sym choked ∙ or_left (b.choked k) (has_failed k b.taken) q in
    let f = or_right (b.choked k) (has_failed k b.taken) q in
    (or_left (a.choked k) _ c, (rw e at (or_right (a.choked k) (eqb k j && blocked k) c), rw tk at f)) in
    let low : nat_le k a.used ≡ true = ap (λ i. nat_le i a.used) (sym same) ∙ used in
    let here : has_party k a.core ≡ true = ap (λ i. has_party i a.core) (sym same) ∙ there in
    let gone : has_party k b.core ≡ false = ap (has_party k) core ∙ ap (λ i. has_party i (forgot j a.core)) (sym same) ∙ forgot-here j a.core in
    Delivers-close (point k a) (point k b)
    (ap (λ q. nat_le k a.used && not q) here ∙ and-not-true (nat_le k a.used))
    (ap (λ n. nat_le k n && not (has_party k b.core)) us ∙ ap (λ q. q && not (has_party k b.core)) low ∙ ap not gone)
    sent
    (λ q. let p = first q in ap (λ c. c || has_failed k a.taken) p.0 ∙ p.1.1)
    (λ q. let p = first q in ap (λ i. unsent_on i a.core) (sym same) ∙ settled e (rw same p.1.0) (rw same p.1.1))
close-hands k j a b blocked false e core us tk sent choked there used settled =
    let other : k ≢ j = λ q. grind (arith, nat_tests) in
    let kept : b.choked k ≡ a.choked k = choked ∙ ap (λ q. a.choked k || (q && blocked k)) e ∙ or-false (a.choked k) in
    let party : has_party k b.core ≡ has_party k a.core = ap (has_party k) core ∙ forgot-party k j a.core ∙ ap (λ q. has_party k a.core && not q) e ∙ and-not-false (has_party k a.core) in
    let bytes : unsent_on k b.core ≡ unsent_on k a.core = ap (unsent_on k) core ∙ same-unsent k a.core (forgot j a.core) (forgot-other k j a.core other) in
    Delivers-stays (point k a) (point k b) []
    (ap (λ n. nat_le k n && not (has_party k b.core)) us ∙ ap (λ q. nat_le k a.used && not q) party)
    (λ q. ap (λ c. c || has_failed k a.taken) (sym kept) ∙ ap (λ ts. b.choked k || has_failed k ts) (sym tk) ∙ q)
    (ap (λ xs. b.sent k ++ xs) bytes ∙ ap (λ xs. xs ++ unsent_on k a.core) sent ∙ sym (append-nil _))
    (λ q. sent)
    (λ q. refl)

-- the links go on agreeing as one is closed
among-close : (x y : Headless) (d : Departure) (a b : Seen) → ClosesOne x y d → x.core.servers.wanted ≡ []
    → b.used ≡ a.used → ((k : ℕ) → b.there k ≡ (a.there k && not (eqb k d.link.0))) → ((k : ℕ) → b.undrained k ≡ (a.undrained k && not (eqb k d.link.0))) → b.listening ≡ a.listening → ((k : ℕ) → b.blocked k ≡ (a.blocked k && not (eqb k d.link.0)))
    → AgreesOnLinks x.links.opened.items x.core x.used x.listening x.refused.items a → AgreesOnLinks y.links.opened.items y.core y.used y.listening y.refused.items b
among-close x y d a b one wanted used there undrained listening blocked s =
    let j = d.link.0 in
    let states = x.links.opened.items in
    rw (one.core, one.used, one.listening, one.opened, one.refused) (record {
      counted = s.counted ∙ sym used;
      there = λ k. there k ∙ ap (λ q. q && not (eqb k j)) (s.there k) ∙ closed-seen is_there refl link_number k j (eqb k j) refl states;
      undrained = λ k. undrained k ∙ ap (λ q. q && not (eqb k j)) (s.undrained k) ∙ closed-seen is_undrained refl link_number k j (eqb k j) refl states;
      blocked = λ k. blocked k ∙ ap (λ q. q && not (eqb k j)) (s.blocked k) ∙ closed-seen is_blocked refl link_number k j (eqb k j) refl states;
      listens = listening ∙ s.listens;
      parties = λ k. forgot-party k j x.core ∙ ap (λ q. q && not (eqb k j)) (s.parties k ∙ ap (λ ws. is_some (at_key link_number k states) || is_wanted k ws) wanted ∙ or-false _)
          ∙ closed-seen is_some refl link_number k j (eqb k j) refl states ∙ sym (or-false _) ∙ ap (λ ws. is_some (at_key link_number k (without link_number j states)) || is_wanted k ws) (sym wanted);
      ended = λ k e. shut-without j k x.core.connections (ended-states states (without link_number j states) x.core (SameKinds-without j states) s.ended k e);
      alone = forgot-alone j x.core s.alone;
      once = distinct-without connection_link j x.core.connections s.once;
      seats = forgot-seats j x.core s.seats;
      order = forgot-order j x.core s.order;
      apart = distinct-without link_number j states s.apart;
      unknown = λ k below. at_key-without_none link_number j k states (s.unknown k below);
      clients = λ k above. at_key-without_none connection_link j k x.core.connections (s.clients k above);
      unrefused = s.unrefused;
      spared = λ k e. at_key-without_none connection_link j k x.core.connections (s.spared k e);
      next = s.next;
      reached = s.reached;
      limited = s.limited;
    })

-- the link of a client or a server that is leaving is closed
pub LoopStep-close : (x y : Headless) (d : Departure) (a b : Seen) → departure_in x.core ≡ Some d → ClosesOne x y d → x.core.servers.wanted ≡ [] → Call a b [] → (IsTrue b.tells → (k : ℕ) → b.sent k ≡ a.sent k) → (IsTrue b.tells → (k : ℕ) → b.choked k ≡ (a.choked k || (eqb k d.link.0 && a.blocked k))) → (IsTrue b.tells → b.asked ≡ a.asked)
    → b.used ≡ a.used → ((k : ℕ) → b.there k ≡ (a.there k && not (eqb k d.link.0))) → ((k : ℕ) → b.undrained k ≡ (a.undrained k && not (eqb k d.link.0))) → b.listening ≡ a.listening → ((k : ℕ) → b.blocked k ≡ (a.blocked k && not (eqb k d.link.0)))
    → (AgreesWithSockets x a → IsSettled d.link.0 x a) → LoopStep true 0 0 x y a b
LoopStep-close x y d a b leaving one wanted call sent choked asked used there undrained listening blocked settled =
    let quits : y.core.quits ≡ x.core.quits = ap (λ (c : CoreView). c.quits) one.core in
    LoopStep-step true 0 0 x y a b [] [] [] refl call (λ below. (let e = one.turns in omega arith)) refl refl
    (let e = ap (λ (c : CoreView). c.starved) one.core in omega arith) (λ t s same below. closes s ∙ sym (append-nil _)) (λ s. reasons-same x y a b (closes s)) (λ s k h. (sides.servers k h).0) (λ s. Onward-none x.core y.core [] (let e = ap (λ (c : CoreView). c.servers.used) one.core in omega arith) (λ k. refl))
    (λ over. quits ∙ over) (λ t s. saves-as x.core y.core (forgot d.link.0 x.core) one.core refl refl)
    (among-close x y d a b one wanted used there undrained listening blocked)
    (λ t s on. rw (append-nil a.taken, one.clock, one.used, one.ran, one.opened, one.refused, one.unlisted)
    (For-states x.clock x.links.opened.items (without link_number d.link.0 x.links.opened.items) x.used x.ran x.refused.items x.unlisted a.taken (SameKinds-without d.link.0 x.links.opened.items) (λ k none. at_key-without_none link_number d.link.0 k x.links.opened.items none)
    (s.told (call.told t) (sym quits ∙ on))))
    (λ t s on. rw (append-nil a.taken, append-nil s.history, one.used, one.ran, one.opened)
    (Hears-states x.links.opened.items (without link_number d.link.0 x.links.opened.items) x.used x.ran a.taken s.history (SameTails-without d.link.0 x.links.opened.items) (readings-kinds x.links.opened.items (without link_number d.link.0 x.links.opened.items) (SameKinds-without d.link.0 x.links.opened.items)) (s.hears (call.told t) (sym quits ∙ on))))
    (λ t s k e. rw (append-nil a.taken) (s.sockets (call.told t) k (socket-kinds (at_key link_number k x.links.opened.items) (at_key link_number k (without link_number d.link.0 x.links.opened.items)) (SameKinds-without d.link.0 x.links.opened.items k) (rw one.opened at e))))
    (λ s none. ap (λ (c : CoreView). c.servers.wanted) one.core ∙ s.idle (sym one.ran ∙ none))
    (λ t s. record {
      events = [];
      reaches = rw one.ran (ReachesEvents-none x.core.quits y.core.quits x.ran);
      rises = (let e = ap (λ (c : CoreView). c.starved) one.core in omega arith);
      verdicts = verdicts-same x.core.verdicts y.core.verdicts (ap (λ (c : CoreView). c.verdicts) one.core);
      goes = Goes-kept x.core y.core (record {
        state = λ told. ap (λ c. state_of c told) one.core ∙ forgot-state x.core d leaving s.among.once s.among.seats s.among.alone told;
        nobody = λ k e. ap (has_party k) one.core ∙ forgot-party k d.link.0 x.core ∙ ap (λ t. t && not (eqb k d.link.0)) e;
        pending = ap (λ (c : CoreView). c.pending) one.core;
        starved = ap (λ (c : CoreView). c.starved) one.core;
        quits = quits;
      });
      advances = λ same below rows were agrees. advances t s rows were;
      silent = λ over. refl;
      ends = tt;
      last = λ same below rows were agrees going over. absurd (false≢true (sym going ∙ sym quits ∙ over));
    })
  where
    plain-settled : (k : ℕ) → socket_on k b.taken ≡ false → IsTrue b.tells → AgreesWithSockets x a → eqb k d.link.0 ≡ true → a.blocked d.link.0 ≡ false → has_failed d.link.0 a.taken ≡ false → unsent_on d.link.0 x.core ≡ []
    plain-settled k plain t s e room well =
        let same : k ≡ d.link.0 = grind (arith, nat_tests) in
        let here : socket_on d.link.0 a.taken ≡ false = plain-before d.link.0 a.taken [] (ap (socket_on d.link.0) (sym (call.taken t)) ∙ ap (λ n. socket_on n b.taken) (sym same) ∙ plain) in
        sym (plain-left d.link.0 x a s (call.told t) here) ∙ settled s (call.told t) room well

    sides : OnOneSide x.core y.core []
    sides = rw one.core (forgot-sides d.link.0 x.core)

    listed : AgreesWithSockets x a → is_some (at_key link_number d.link.0 x.links.opened.items) ≡ true
    listed s = sym (or-false _) ∙ ap (λ ws. is_some (at_key link_number d.link.0 x.links.opened.items) || is_wanted d.link.0 ws) (sym wanted) ∙ sym (s.among.parties d.link.0) ∙ departed-party x.core d leaving

    closes : AgreesWithSockets x a → closed_so_far y ≡ closed_so_far x
    closes s =
        let closed : Closed = record { link = d.link; cause = d.cause } in
        ap (λ cs. cs ++ closes_asked y.core) (one.closed ∙ listed-some _ x.links.closed.items closed (listed s))
        ∙ ap (λ c. (x.links.closed.items ++ closed ∷ []) ++ closes_asked c) one.core ∙ append_assoc x.links.closed.items (closed ∷ []) _
        ∙ ap (λ cs. x.links.closed.items ++ cs) (sym (departed-closes x.core d leaving s.among.once s.among.seats s.among.alone))

    advances : IsTrue b.tells → AgreesWithSockets x a → (rows : Beside) → WereTold x.core rows → MomentAdvances rows (moment x a) (moment y b) [] []
    advances t s rows were = record {
      means = core-means x.core y.core rows (ap (λ c. state_of c rows) one.core ∙ forgot-state x.core d leaving s.among.once s.among.seats s.among.alone rows) (ap (λ (c : CoreView). c.world) one.core) (ap (λ (c : CoreView). c.pending) one.core) were;
      oracle = refl;
      stops = tt;
      hands = λ k plain. close-hands k d.link.0 (moment x a) (moment y b) a.blocked (eqb k d.link.0) refl one.core one.used (call.taken t ∙ append-nil a.taken) (sent t k) (choked t k) (departed-party x.core d leaving)
          (used-known d.link.0 x.used (at_key link_number d.link.0 x.links.opened.items) (s.among.unknown d.link.0) (listed s) (nat_le d.link.0 x.used) refl)
          (plain-settled k plain t s);
      sides = sides;
      asks = ap (λ xs. xs ++ asks_of y.core.servers.wanted) (asked t) ∙ ap (λ (c : CoreView). a.asked ++ asks_of c.servers.wanted) one.core ∙ sym (append-nil _);
      closes = refl;
      quits = ap (λ (c : CoreView). c.quits) one.core ∙ sym (or-false x.core.quits);
    }
