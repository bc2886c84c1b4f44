-- What is owed is put into frames, and frames or bytes are sent.
use Rattle.std.proofs.Common.{◌≡◌, ◌≢◌, inl, inr, ℕ, ◌<◌, ◌≤◌, nat_le, Bool, true, false, not, cond, eqb, ◌&&◌, ◌||◌, IsTrue, List, [], ◌++◌, map, length, take, drop, Option, Some, None, IfSome, is_some, refl, sym, ap, ◌∙◌, subst, arith}
use Rattle.std.proofs.lemmas.Bool.{false≢true}
use Rattle.std.proofs.lemmas.Bool.Decides.{nat_tests}
use Rattle.std.proofs.lemmas.List.{append-nil, length-drop}
use Rattle.wc_outside.specs.Seen.{Seen}
use Rattle.wc_outside.specs.Keyed.{at_key, put_at}
use Rattle.wc_board.specs.declared.connection.Connection.{Connection}
use Rattle.wc_board.specs.Connections.{connection_link, is_open_at}
use Rattle.wc_core.specs.State.{Beside}
use Rattle.wc_servers.specs.Seats.{AreSeats, seat_link}
use Rattle.wc_core.specs.CoreView.{CoreView}
use Rattle.wc_core.specs.LinksSeen.{bytes_or, unsent_in_core, gone_in}
use Rattle.wc_core.specs.Served.{state_of, Distinct}
use Rattle.wc_core.specs.ServersKept.{is_wanted, AreNext, AreInOrder}
use Rattle.wc_framing.specs.declared.framing.Framing.{Framing}
use Rattle.wc_framing.specs.declared.framing.Framing.TheVariants as framing
use Rattle.wc_framing.specs.declared.messages.Framed.{Framed}
use Rattle.wc_framing.specs.Framing.{is_socket, silent}
use Rattle.wc_framing.specs.Messages.{HasNoMessage, Frames, concat}
use Rattle.wc_framing.proofs.MessagesLemmas.{none_short, drop-front}
use Rattle.wc_ws.specs.declared.names.PutRefused.{PutRefused}
use Rattle.wc_ws.specs.Link.{Link}
use Rattle.wc_turns.specs.declared.links.LinkState.{LinkState}
use Rattle.wc_turns.specs.declared.links.Links.{Links}
use Rattle.wc_turns.specs.declared.headless.Headless.{Headless}
use Rattle.wc_turns.specs.Events.{socket_on}
use Rattle.wc_turns.specs.Framed.{frames_in}
use Rattle.wc_turns.specs.Links.{link_number, is_undrained, is_blocked, frames_of, is_socket_at, kind_of, changed_at, written_link, gone_frames}
use Rattle.wc_turns.specs.Parties.{has_party, closes_asked, unsent_on, asks_of}
use Rattle.wc_turns.specs.Parts.{leaving_of, SameParty, SendsOn}
use Rattle.wc_turns.specs.Sockets.{to_send, sent_core, SendsFirst, PutsFrames, PutsNone, PutsUnsent, PutsBy, PutsAt, PutsMessages}
use Rattle.wc_turns.specs.Sources.{NothingBecameReady, TakesNothing, IsPutWhere, IsPut}
use Rattle.wc_turns.specs.Steps.{SameTails, SameKinds}
use Rattle.wc_turns.specs.Tails.{IsTail}
use Rattle.wc_turns.specs.Turns.{OnOneSide, AgreesWithSockets, moment, LoopStep, left_as, left_on}
use Rattle.wc_turns.proofs.AgreesLemmas.{For-states, missing-as}
use Rattle.wc_turns.proofs.AskedLemmas.{unsent-party}
use Rattle.wc_turns.proofs.ReadLemmas.{kept-party}
use Rattle.wc_turns.proofs.ChangedLemmas.{keeps-written, keeps-gone, kind-gone, at_key-changed, changed, numbers-changed, SameTails-changed, SameKinds-changed, undrained-gone, blocked-gone, there-as}
use Rattle.wc_turns.proofs.CloseLemmas.{core-means, LoopStep-refl, Call-refl, SameSets-refl}
use Rattle.wc_turns.proofs.EndedLemmas.{ended-opens, ended-states}
use Rattle.wc_turns.proofs.GoneLemmas.{none-given, some-given, left-by, gone-links, gone-seats, gone-closes, gone-wanted, gone-used, gone-quits, gone-starved, gone-verdicts, gone-saved, gone-unwritten, gone-why, gone-other, gone-has, gone-opens, gone-state, gone-handed, gone-nothing, gone-less, gone-seated, gone-order, gone-alone, gone-sides, gone-world, gone-pending, same-unsent}
use Rattle.wc_turns.proofs.HeardAgrees.{Hears-states, readings-kinds, socket-kinds}
use Rattle.wc_turns.proofs.HeardLemmas.{plain-before}
use Rattle.wc_turns.proofs.KeyedLemmas.{at_key-key, at_key-put_same, at_key-put_other, map-put_at, none_of, same-keys}
use Rattle.wc_turns.proofs.PartLemmas.{SameParty-refl, SendsOn-refl, frames-written, kinds-stand}
use Rattle.wc_turns.proofs.PointLemmas.{AreAlone, MomentAdvances-none, spoils-more, gone-nobody}
use Rattle.wc_turns.proofs.SourceLemmas.{SameLeft, socket-frames, NothingBecameReady-refl, TakesNothing-refl}
use Rattle.wc_turns.proofs.StepLemmas.{SameSets}
use Rattle.wc_turns.proofs.TakesLemmas.{flag-put}
use Rattle.wc_turns.proofs.TurnLemmas.{Call, LoopStep-still}
use Rattle.wc_turns.proofs.GoesLemmas.{Goes-kept}

-- ---- the core keeps all but unsent bytes of one link

pub record KeepsAll (link : ℕ) (x y : CoreView) : Type 0 where
  pub quits : y.quits ≡ x.quits
  pub starved : y.starved ≡ x.starved
  pub verdicts : y.verdicts ≡ x.verdicts
  pub unwritten : y.unwritten ≡ x.unwritten
  pub saved : y.saved ≡ x.saved
  pub used : y.servers.used ≡ x.servers.used
  pub wanted : y.servers.wanted ≡ x.servers.wanted
  pub links : map connection_link y.connections ≡ map connection_link x.connections
  pub seats : map seat_link y.servers.seats ≡ map seat_link x.servers.seats
  pub leaving : closes_asked y ≡ closes_asked x
  pub why : leaving_of link y ≡ leaving_of link x
  pub parties : (k : ℕ) → k ≢ link → SameParty k x y
  pub has : (k : ℕ) → has_party k y ≡ has_party k x
  pub opens : (k : ℕ) → is_open_at (at_key connection_link k y.connections) ≡ is_open_at (at_key connection_link k x.connections)
  pub state : (told : Beside) → state_of y told ≡ state_of x told
  pub world : y.world ≡ x.world
  pub pending : y.pending ≡ x.pending
  pub sides : OnOneSide x y []
  pub seated : AreSeats x.servers → AreSeats y.servers
  pub order : AreInOrder x.servers → AreInOrder y.servers
  pub alone : AreAlone x → AreAlone y

pub KeepsAll-refl : (link : ℕ) (x : CoreView) → KeepsAll link x x
KeepsAll-refl link x = record {
  quits = refl;
  starved = refl;
  verdicts = refl;
  unwritten = refl;
  saved = refl;
  used = refl;
  wanted = refl;
  links = refl;
  seats = refl;
  leaving = refl;
  why = refl;
  parties = λ k n. SameParty-refl k x;
  has = λ k. refl;
  opens = λ k. refl;
  state = λ told. refl;
  world = refl;
  pending = refl;
  sides = record { clients = λ k h. (h, refl); servers = λ k h. (h, refl) };
  seated = λ h. h;
  order = λ h. h;
  alone = λ h. h;
}

pub KeepsAll-gone : (link count : ℕ) (core : CoreView) (o : Option Connection) → at_key connection_link link core.connections ≡ o → KeepsAll link core (gone_in link count core o)
KeepsAll-gone link count core o e = record {
  quits = gone-quits link count core o;
  starved = gone-starved link count core o;
  verdicts = gone-verdicts link count core o;
  unwritten = gone-unwritten link count core o;
  saved = gone-saved link count core o;
  used = gone-used link count core o;
  wanted = gone-wanted link count core o;
  links = gone-links link count core o e;
  seats = gone-seats link count core o e;
  leaving = gone-closes link count core o e;
  why = gone-why link count core o e;
  parties = λ k n. gone-other link count k core o e n;
  has = λ k. gone-has link count k core o e;
  opens = gone-opens link count core o e;
  state = λ told. gone-state link count core o e told;
  world = gone-world link count core o;
  pending = gone-pending link count core o;
  sides = gone-sides link count core o e;
  seated = gone-seated link count core o e;
  order = gone-order link count core o;
  alone = gone-alone link count core o e;
}

-- and so do the links, but for frames of one
pub record KeepsStates (states states' : List LinkState) : Type 0 where
  pub numbers : map link_number states' ≡ map link_number states
  pub undrained : (k : ℕ) → is_undrained (at_key link_number k states') ≡ is_undrained (at_key link_number k states)
  pub blocked : (k : ℕ) → is_blocked (at_key link_number k states') ≡ is_blocked (at_key link_number k states)
  pub tails : SameTails states states'
  pub kinds : SameKinds states states'

-- bytes may have been sent of one link, and the rest is kept
pub LoopStep-kept : (x : Headless) (core : CoreView) (links : Links) (a b : Seen) (link : ℕ) → KeepsAll link x.core core → KeepsStates x.links.opened.items links.opened.items → links.closed ≡ x.links.closed
    → Call a b [] → (IsTrue b.tells → (k : ℕ) → b.choked k ≡ a.choked k) → (IsTrue b.tells → b.asked ≡ a.asked) → SameSets a b
    → (IsTrue b.tells → AgreesWithSockets x a → (k : ℕ) → socket_on k b.taken ≡ false → b.sent k ++ unsent_on k core ≡ a.sent k ++ unsent_on k x.core)
    → (IsTrue b.tells → AgreesWithSockets x a → (k : ℕ) → socket_on k b.taken ≡ false → has_party k x.core ≡ false → b.sent k ≡ a.sent k)
    → LoopStep true 0 0 x (record x { core = core; links = links }) a b
LoopStep-kept x core links a b link kept states closed call choked asked same handed nothing =
    let y : Headless = record x { core = core; links = links } in
    let there : (k : ℕ) → is_some (at_key link_number k links.opened.items) ≡ is_some (at_key link_number k x.links.opened.items) = λ k. same-keys link_number k links.opened.items x.links.opened.items states.numbers in
    LoopStep-still x y a b call refl kept.starved kept.verdicts kept.quits refl (λ k h. (kept.sides.servers k h).0) kept.used kept.wanted (inl (kept.unwritten, kept.saved))
    (ap (λ v. v.items ++ closes_asked core) closed ∙ ap (λ cs. x.links.closed.items ++ cs) kept.leaving)
    (λ s. record {
      counted = s.counted ∙ sym same.used;
      there = λ k. same.there k ∙ s.there k ∙ sym (there-as x.links.opened.items links.opened.items states.numbers states.kinds k);
      undrained = λ k. same.undrained k ∙ s.undrained k ∙ sym (states.undrained k);
      blocked = λ k. same.blocked k ∙ s.blocked k ∙ sym (states.blocked k);
      listens = same.listening ∙ s.listens;
      parties = λ k. kept.has k ∙ s.parties k ∙ ap (λ t. t || is_wanted k x.core.servers.wanted) (sym (there k)) ∙ ap (λ ws. is_some (at_key link_number k links.opened.items) || is_wanted k ws) (sym kept.wanted);
      ended = ended-opens links.opened.items x.core core kept.opens (ended-states x.links.opened.items links.opened.items x.core states.kinds s.ended);
      alone = kept.alone s.alone;
      once = subst Distinct (sym kept.links) s.once;
      seats = kept.seated s.seats;
      order = kept.order s.order;
      apart = subst Distinct (sym states.numbers) s.apart;
      unknown = λ k below. none_of _ (there k ∙ ap is_some (s.unknown k below));
      clients = λ k above. none_of _ (same-keys connection_link k core.connections x.core.connections kept.links ∙ ap is_some (s.clients k above));
      unrefused = s.unrefused;
      spared = λ k e. none_of _ (same-keys connection_link k core.connections x.core.connections kept.links ∙ ap is_some (s.spared k e));
      next = subst (AreNext x.used) (sym kept.wanted) s.next;
      reached = (let r = s.reached in let q = kept.used in let l = ap length kept.wanted in omega arith);
      limited = (let m = s.limited in let q = kept.used in omega arith);
    })
    (λ t s. For-states x.clock x.links.opened.items links.opened.items x.used x.ran x.refused.items x.unlisted a.taken states.kinds (missing-as x.links.opened.items links.opened.items states.numbers) s)
    (λ t history s. Hears-states x.links.opened.items links.opened.items x.used x.ran a.taken history states.tails (readings-kinds x.links.opened.items links.opened.items states.kinds) s)
    (λ k e. socket-kinds (at_key link_number k x.links.opened.items) (at_key link_number k links.opened.items) (states.kinds k) e)
    (λ t s rows were. MomentAdvances-none rows (moment x a) (moment y b)
    (core-means x.core core rows (kept.state rows) kept.world kept.pending were) kept.quits
    (λ k. ap (λ q. nat_le k x.used && not q) (kept.has k))
    (λ k. rw (call.taken t) (spoils-more k (a.choked k) (b.choked k) a.taken [] (λ e. sym (choked t k) ∙ e)))
    (λ k plain. handed t s k plain)
    (λ k plain gone. nothing t s k plain (gone-nobody k x.used x.core gone))
    kept.sides
    (ap (λ xs. xs ++ asks_of core.servers.wanted) (asked t) ∙ ap (λ ws. a.asked ++ asks_of ws) kept.wanted))
    (λ s. Goes-kept x.core core (record { state = kept.state; nobody = λ k e. kept.has k ∙ e; pending = kept.pending; starved = kept.starved; quits = kept.quits }))

-- the same of what is sent on one link
pub SendsOn-kept : (link : ℕ) (x : Headless) (core : CoreView) (links : Links) (a b : Seen) → KeepsAll link x.core core → KeepsStates x.links.opened.items links.opened.items → links.closed ≡ x.links.closed → ((k : ℕ) → k ≢ link → frames_of (at_key link_number k links.opened.items) ≡ frames_of (at_key link_number k x.links.opened.items)) → NothingBecameReady a b → TakesNothing a b → ((k : ℕ) → k ≢ link → b.blocked k ≡ a.blocked k)
    → SendsOn link x (record x { core = core; links = links }) a b
SendsOn-kept link x core links a b kept states closed frames falls nothing blocked = record {
  falls = falls;
  nothing = nothing;
  quits = kept.quits;
  starved = kept.starved;
  used = refl;
  numbers = states.numbers;
  closed = ap (λ v. v.items) closed;
  links = kept.links;
  servers = kept.seats;
  wanted = kept.wanted;
  leaving = kept.leaving;
  why = kept.why;
  parties = kept.parties;
  frames = frames;
  blocked = blocked;
  stands = kinds-stand x.links.opened.items links.opened.items states.kinds;
}

-- ---- who has a link that is no WebSocket

frames-socket : (o : Option LinkState) (frames : List ℕ) → frames_of o ≡ Some frames → is_socket_at o ≡ true
frames-socket None frames e = absurd (let q : None ≡ Some frames = e in cc)
frames-socket (Some state) frames e = by state.framing e
  where
    by : (f : Framing) → frames_in f ≡ Some frames → is_socket_at (Some (record state { framing = f })) ≡ true
    by framing.Undecided q = absurd (let z : None ≡ Some frames = q in cc)
    by framing.Plain q = absurd (let z : None ≡ Some frames = q in cc)
    by (framing.Socket link) q = refl

-- what is kept as a WebSocket is not plain
pub no-plain : (x : Headless) (a b : Seen) (link k : ℕ) → AgreesWithSockets x a → IsTrue a.tells → b.taken ≡ a.taken ++ [] → is_socket_at (at_key link_number link x.links.opened.items) ≡ true → socket_on k b.taken ≡ false → k ≢ link
no-plain x a b link k s t taken is plain same =
    let here : socket_on link a.taken ≡ false = plain-before link a.taken [] (ap (socket_on link) (sym taken) ∙ ap (λ n. socket_on n b.taken) (sym same) ∙ plain) in
    false≢true (sym here ∙ s.sockets t link is)

nothing-other : (k link : ℕ) (sent sent' bytes : List ℕ) → k ≢ link → sent' ≡ sent ++ cond (eqb k link) bytes [] → sent' ≡ sent
nothing-other k link sent sent' bytes n e = let other : eqb k link ≡ false = grind (arith, nat_tests) in e ∙ ap (λ t. sent ++ cond t bytes []) other ∙ append-nil sent

-- ---- the first bytes of what is to be sent are sent

states-first : (link count : ℕ) (states states' : List LinkState) → states' ≡ changed_at link (gone_frames count) states (at_key link_number link states) → KeepsStates states states'
states-first link count states states' e = rw e (record {
  numbers = numbers-changed link (gone_frames count) (keeps-gone count) states;
  undrained = λ k. undrained-gone link k count states;
  blocked = λ k. blocked-gone link k count states;
  tails = SameTails-changed link (gone_frames count) (keeps-gone count) states;
  kinds = SameKinds-changed link (gone_frames count) (keeps-gone count) (kind-gone count) states;
})

core-first : (f : Option (List ℕ)) (link count : ℕ) (core : CoreView) → KeepsAll link core (sent_core f link count core)
core-first None link count core = KeepsAll-gone link count core (at_key connection_link link core.connections) refl
core-first (Some frames) link count core = KeepsAll-refl link core

pub LoopStep-first : (x y : Headless) (a b : Seen) (link count : ℕ) (bytes : List ℕ) → to_send link x ≡ Some bytes → SendsFirst link count x y → Call a b []
    → (IsTrue b.tells → (k : ℕ) → b.sent k ≡ a.sent k ++ cond (eqb k link) (take count bytes) []) → (IsTrue b.tells → (k : ℕ) → b.choked k ≡ a.choked k) → (IsTrue b.tells → b.asked ≡ a.asked) → SameSets a b
    → LoopStep true 0 0 x y a b
LoopStep-first x y a b link count bytes u first call sent choked asked same =
    subst (λ z. LoopStep true 0 0 x z a b) (sym first.rest)
    (LoopStep-kept x y.core y.links a b link (subst (KeepsAll link x.core) (sym first.core) (core-first f link count x.core)) (states-first link count x.links.opened.items y.links.opened.items first.opened) first.closed call choked asked same
    (λ t s k plain. rw first.core (handed f refl t s k plain)) (λ t s k plain nobody. nothing f refl t s k plain nobody))
  where
    f : Option (List ℕ)
    f = frames_of (at_key link_number link x.links.opened.items)

    given : f ≡ None → Some bytes ≡ unsent_in_core link x.core
    given e = sym u ∙ ap (λ o. bytes_or o (unsent_in_core link x.core)) e

    handed : (o : Option (List ℕ)) → f ≡ o → IsTrue b.tells → AgreesWithSockets x a → (k : ℕ) → socket_on k b.taken ≡ false → b.sent k ++ unsent_on k (sent_core o link count x.core) ≡ a.sent k ++ unsent_on k x.core
    handed None e t s k plain = gone-handed k link count x.core (at_key connection_link link x.core.connections) bytes (a.sent k) (b.sent k) refl s.among.alone (some-given link x.core bytes s.among.alone (given e)) (sent t k)
    handed (Some frames) e t s k plain = ap (λ bs. bs ++ unsent_on k x.core) (nothing-other k link (a.sent k) (b.sent k) (take count bytes) (no-plain x a b link k s (call.told t) (call.taken t) (frames-socket (at_key link_number link x.links.opened.items) frames e) plain) (sent t k))

    nothing : (o : Option (List ℕ)) → f ≡ o → IsTrue b.tells → AgreesWithSockets x a → (k : ℕ) → socket_on k b.taken ≡ false → has_party k x.core ≡ false → b.sent k ≡ a.sent k
    nothing None e t s k plain nobody = gone-nothing k link count x.core bytes (a.sent k) (b.sent k) (given e) nobody (sent t k)
    nothing (Some frames) e t s k plain nobody = nothing-other k link (a.sent k) (b.sent k) (take count bytes) (no-plain x a b link k s (call.told t) (call.taken t) (frames-socket (at_key link_number link x.links.opened.items) frames e) plain) (sent t k)

pub SendsOn-first : (link count : ℕ) (x y : Headless) (a b : Seen) → SendsFirst link count x y → NothingBecameReady a b → TakesNothing a b → ((k : ℕ) → k ≢ link → b.blocked k ≡ a.blocked k) → SendsOn link x y a b
SendsOn-first link count x y a b first falls nothing blocked =
    subst (λ z. SendsOn link x z a b) (sym first.rest)
    (SendsOn-kept link x y.core y.links a b (subst (KeepsAll link x.core) (sym first.core) (core-first (frames_of (at_key link_number link x.links.opened.items)) link count x.core)) (states-first link count x.links.opened.items y.links.opened.items first.opened) first.closed
    (λ k n. let other : eqb k link ≡ false = grind (arith, nat_tests) in ap (λ ss. frames_of (at_key link_number k ss)) first.opened ∙ ap frames_of (at_key-changed link k (gone_frames count) (keeps-gone count) x.links.opened.items ∙ ap (λ t. changed t (gone_frames count) (at_key link_number k x.links.opened.items)) other)) falls nothing blocked)

-- less is left to be sent
frames-gone : (count : ℕ) (o : Option LinkState) (frames : List ℕ) → frames_of o ≡ Some frames → frames_of (changed true (gone_frames count) o) ≡ Some (drop count frames)
frames-gone count None frames e = absurd (let q : None ≡ Some frames = e in cc)
frames-gone count (Some state) frames e = by state.framing e
  where
    by : (f : Framing) → frames_in f ≡ Some frames → frames_of (changed true (gone_frames count) (Some (record state { framing = f }))) ≡ Some (drop count frames)
    by framing.Undecided q = absurd (let z : None ≡ Some frames = q in cc)
    by framing.Plain q = absurd (let z : None ≡ Some frames = q in cc)
    by (framing.Socket link) q = let same : link.output ≡ frames = (let z : Some link.output ≡ Some frames = q in cc) in ap (λ bs. Some (drop count bs)) same

frames-none : (count : ℕ) (o : Option LinkState) → frames_of o ≡ None → frames_of (changed true (gone_frames count) o) ≡ None
frames-none count None e = refl
frames-none count (Some state) e = by state.framing e
  where
    by : (f : Framing) → frames_in f ≡ None → frames_of (changed true (gone_frames count) (Some (record state { framing = f }))) ≡ None
    by framing.Undecided q = refl
    by framing.Plain q = refl
    by (framing.Socket link) q = absurd (let z : Some link.output ≡ None = q in cc)

pub first-less : (link count : ℕ) (x y : Headless) (bytes : List ℕ) → to_send link x ≡ Some bytes → SendsFirst link count x y → 1 ≤ count → count ≤ length bytes → length (left_on link y) < length (left_on link x)
first-less link count x y bytes u first one within = by (frames_of (at_key link_number link x.links.opened.items)) refl
  where
    here : eqb link link ≡ true
    here = grind (arith, nat_tests)

    now : at_key link_number link y.links.opened.items ≡ changed true (gone_frames count) (at_key link_number link x.links.opened.items)
    now = ap (at_key link_number link) first.opened ∙ at_key-changed link link (gone_frames count) (keeps-gone count) x.links.opened.items ∙ ap (λ t. changed t (gone_frames count) (at_key link_number link x.links.opened.items)) here

    by : (o : Option (List ℕ)) → frames_of (at_key link_number link x.links.opened.items) ≡ o → length (left_on link y) < length (left_on link x)
    by None e =
        let given : Some bytes ≡ unsent_in_core link x.core = sym u ∙ ap (λ o. bytes_or o (unsent_in_core link x.core)) e in
        let core : y.core ≡ gone_in link count x.core (at_key connection_link link x.core.connections) = first.core ∙ ap (λ o. sent_core o link count x.core) e in
        let before : left_on link x ≡ unsent_on link x.core = ap (λ o. left_as o (unsent_on link x.core)) e in
        let after : left_on link y ≡ unsent_on link (gone_in link count x.core (at_key connection_link link x.core.connections)) = ap (λ o. left_as o (unsent_on link y.core)) (ap frames_of now ∙ frames-none count (at_key link_number link x.links.opened.items) e) ∙ ap (unsent_on link) core in
        let less = gone-less link count x.core (at_key connection_link link x.core.connections) bytes refl given one within in
        let p = ap length before in
        let q = ap length after in
        omega arith
    by (Some frames) e =
        let same : frames ≡ bytes = (let z : Some frames ≡ Some bytes = sym (ap (λ o. bytes_or o (unsent_in_core link x.core)) e) ∙ u in cc) in
        let before : left_on link x ≡ frames = ap (λ o. left_as o (unsent_on link x.core)) e in
        let after : left_on link y ≡ drop count frames = ap (λ o. left_as o (unsent_on link y.core)) (ap frames_of now ∙ frames-gone count (at_key link_number link x.links.opened.items) frames e) in
        let p = ap length before in
        let q = ap length after in
        let r = ap length same in
        let l = length-drop count frames in
        omega arith

-- what is left on a link, where it is kept whether its last write found room
pub written-left : (k link : ℕ) (found : Bool) (x : Headless) (links : Links) → links.opened.items ≡ changed_at link (written_link found) x.links.opened.items (at_key link_number link x.links.opened.items) → SameLeft k x (record x { links = links })
written-left k link found x links opened = record {
  frames = ap (λ ss. frames_of (at_key link_number k ss)) opened ∙ ap frames_of (at_key-changed link k (written_link found) (keeps-written found) x.links.opened.items) ∙ frames-written found (eqb k link) (at_key link_number k x.links.opened.items);
  unsent = refl;
}

pub written-send : (link : ℕ) (found : Bool) (x : Headless) (links : Links) → links.opened.items ≡ changed_at link (written_link found) x.links.opened.items (at_key link_number link x.links.opened.items) → to_send link (record x { links = links }) ≡ to_send link x
written-send link found x links opened = ap (λ o. bytes_or o (unsent_in_core link x.core)) (written-left link link found x links opened).frames

-- and on another link, where some of it is sent
pub first-left : (k link count : ℕ) (x y : Headless) → SendsFirst link count x y → k ≢ link → SameLeft k x y
first-left k link count x y first n =
    let f = frames_of (at_key link_number link x.links.opened.items) in
    let other : eqb k link ≡ false = grind (arith, nat_tests) in
    record {
      frames = ap (λ ss. frames_of (at_key link_number k ss)) first.opened ∙ ap frames_of (at_key-changed link k (gone_frames count) (keeps-gone count) x.links.opened.items ∙ ap (λ t. changed t (gone_frames count) (at_key link_number k x.links.opened.items)) other);
      unsent = same-unsent k x.core y.core (subst (SameParty k x.core) (sym first.core) ((core-first f link count x.core).parties k n));
    }

pub SameLeft-trans : (k : ℕ) (x y z : Headless) → SameLeft k x y → SameLeft k y z → SameLeft k x z
SameLeft-trans k x y z h g = record { frames = g.frames ∙ h.frames; unsent = g.unsent ∙ h.unsent }

-- no whole message comes to be owed that is not in a frame
pub first-put : (link count : ℕ) (x y : Headless) → SendsFirst link count x y → IsPut link x → IsPut link y
first-put link count x y first h = by (frames_of (at_key link_number link x.links.opened.items)) refl
  where
    here : eqb link link ≡ true
    here = grind (arith, nat_tests)

    now : at_key link_number link y.links.opened.items ≡ changed true (gone_frames count) (at_key link_number link x.links.opened.items)
    now = ap (at_key link_number link) first.opened ∙ at_key-changed link link (gone_frames count) (keeps-gone count) x.links.opened.items ∙ ap (λ t. changed t (gone_frames count) (at_key link_number link x.links.opened.items)) here

    by : (o : Option (List ℕ)) → frames_of (at_key link_number link x.links.opened.items) ≡ o → IsPut link y
    by None e =
        let plain : is_socket_at (at_key link_number link y.links.opened.items) ≡ false = socket-frames (at_key link_number link y.links.opened.items) ∙ ap is_some (ap frames_of now ∙ frames-none count (at_key link_number link x.links.opened.items) e) in
        rw plain tt
    by (Some frames) e =
        let core : y.core ≡ x.core = first.core ∙ ap (λ o. sent_core o link count x.core) e in
        let was : is_socket_at (at_key link_number link x.links.opened.items) ≡ true = frames-socket (at_key link_number link x.links.opened.items) frames e in
        let socket : is_socket_at (at_key link_number link y.links.opened.items) ≡ true = socket-frames (at_key link_number link y.links.opened.items) ∙ ap is_some (ap frames_of now ∙ frames-gone count (at_key link_number link x.links.opened.items) frames e) in
        rw (socket, core) (rw was at h)

-- where there is nothing to send, nothing is left
pub none-left : (link : ℕ) (x : Headless) → None ≡ to_send link x → left_on link x ≡ []
none-left link x u = by (frames_of (at_key link_number link x.links.opened.items)) refl
  where
    by : (o : Option (List ℕ)) → frames_of (at_key link_number link x.links.opened.items) ≡ o → left_on link x ≡ []
    by None e = ap (λ o. left_as o (unsent_on link x.core)) e ∙ none-given link x.core (u ∙ ap (λ o. bytes_or o (unsent_in_core link x.core)) e)
    by (Some frames) e = absurd (let q : None ≡ Some frames = u ∙ ap (λ o. bytes_or o (unsent_in_core link x.core)) e in cc)

pub some-left : (link : ℕ) (x : Headless) (bytes : List ℕ) → AreAlone x.core → Some bytes ≡ to_send link x → left_on link x ≡ bytes
some-left link x bytes alone u = by (frames_of (at_key link_number link x.links.opened.items)) refl
  where
    by : (o : Option (List ℕ)) → frames_of (at_key link_number link x.links.opened.items) ≡ o → left_on link x ≡ bytes
    by None e = ap (λ o. left_as o (unsent_on link x.core)) e ∙ some-given link x.core bytes alone (u ∙ ap (λ o. bytes_or o (unsent_in_core link x.core)) e)
    by (Some frames) e =
        let same : bytes ≡ frames = (let q : Some bytes ≡ Some frames = u ∙ ap (λ o. bytes_or o (unsent_in_core link x.core)) e in cc) in
        ap (λ o. left_as o (unsent_on link x.core)) e ∙ sym same

-- ---- what is owed is put into frames

states-put : (link : ℕ) (states states' : List LinkState) (state : LinkState) (old new : Link) → at_key link_number link states ≡ Some state → state.framing ≡ framing.Socket old → silent (framing.Socket new) ≡ silent (framing.Socket old) → states' ≡ put_at link_number link (record state { framing = framing.Socket new }) states → KeepsStates states states'
states-put link states states' state old new found is quiet e = rw e (record {
  numbers = map-put_at link_number link now states number;
  undrained = λ k. flag-put is_undrained link k (eqb k link) refl state now states found number refl;
  blocked = λ k. flag-put is_blocked link k (eqb k link) refl state now states found number refl;
  tails = λ k line h. tails-by k (eqb k link) refl line h;
  kinds = λ k. inr (kinds-by k (eqb k link) refl);
}) where
  now : LinkState
  now = record state { framing = framing.Socket new }

  number : link_number now ≡ link
  number = at_key-key link_number link states state found

  after : (k : ℕ) → link ≡ k → at_key link_number k (put_at link_number link now states) ≡ Some now
  after k same = subst (λ i. at_key link_number i (put_at link_number link now states) ≡ Some now) same (at_key-put_same link_number link state now states number found)

  tails-by : (k : ℕ) (t : Bool) → eqb k link ≡ t → (line : List ℕ) → IfSome (at_key link_number k states) (λ (l : LinkState). IsTail line l.tail) → IfSome (at_key link_number k (put_at link_number link now states)) (λ (l : LinkState). IsTail line l.tail)
  tails-by k true q line h =
      let same : link ≡ k = grind (arith, nat_tests) in
      let before : at_key link_number k states ≡ Some state = subst (λ i. at_key link_number i states ≡ Some state) same found in
      let was : IsTail line state.tail = rw before at h in
      rw (after k same) was
  tails-by k false q line h = rw (at_key-put_other link_number link k now states number (λ r. grind (arith, nat_tests))) h

  kinds-by : (k : ℕ) (t : Bool) → eqb k link ≡ t → kind_of (at_key link_number k (put_at link_number link now states)) ≡ kind_of (at_key link_number k states)
  kinds-by k true q =
      let same : link ≡ k = grind (arith, nat_tests) in
      let before : at_key link_number k states ≡ Some state = subst (λ i. at_key link_number i states ≡ Some state) same found in
      ap kind_of (after k same) ∙ ap (λ f. Some (record { server = state.server; connecting = state.connecting; refused = state.refused; framing = f; ended = state.ended })) (quiet ∙ sym (ap silent is)) ∙ sym (ap kind_of before)
  kinds-by k false q = ap kind_of (at_key-put_other link_number link k now states number (λ r. grind (arith, nat_tests)))

silent-put : (bytes : List ℕ) (old new : Link) (framed : Framed) → Frames bytes old framed new → silent (framing.Socket new) ≡ silent (framing.Socket old)
silent-put bytes old new framed h = ap (λ (l : Link). framing.Socket (record l { output = [] })) h.link

puts-step : (x y : Headless) (a : Seen) (link : ℕ) (state : LinkState) (socket : Link) (unsent : List ℕ) (why : Option PutRefused) → at_key link_number link x.links.opened.items ≡ Some state → state.framing ≡ framing.Socket socket → PutsFrames link state socket unsent x y why → LoopStep true 0 0 x y a a
puts-step x y a link state socket unsent why found is p =
    let c = Call-refl a in
    let socket_at : is_socket_at (at_key link_number link x.links.opened.items) ≡ true = ap is_socket_at found ∙ ap is_socket is in
    let core : KeepsAll link x.core y.core = subst (KeepsAll link x.core) (sym p.core) (KeepsAll-gone link p.framed.count x.core (at_key connection_link link x.core.connections) refl) in
    subst (λ z. LoopStep true 0 0 x z a a) (sym p.rest)
    (LoopStep-kept x y.core y.links a a link core (states-put link x.links.opened.items y.links.opened.items state socket p.socket' found is (silent-put unsent socket p.socket' p.framed p.frames) p.opened) p.closed c (λ t k. refl) (λ t. refl) (SameSets-refl a)
    (λ t s k plain. ap (λ bs. a.sent k ++ bs) (same-unsent k x.core y.core (core.parties k (no-plain x a a link k s t (c.taken t) socket_at plain))))
    (λ t s k plain nobody. refl))

-- each whole message that the client of a WebSocket is owed is in a frame, up to one that is refused
pub LoopStep-put : (x y : Headless) (a : Seen) (link : ℕ) (why : Option PutRefused) → PutsMessages link x y why → LoopStep true 0 0 x y a a
LoopStep-put x y a link why p = by (at_key link_number link x.links.opened.items) refl p
  where
    none : PutsNone x y why → LoopStep true 0 0 x y a a
    none h = subst (λ z. LoopStep true 0 0 x z a a) (sym h.0) (LoopStep-refl x a)

    unsent-by : (state : LinkState) (socket : Link) (o : Option (List ℕ)) → at_key link_number link x.links.opened.items ≡ Some state → state.framing ≡ framing.Socket socket → PutsUnsent link state socket o x y why → LoopStep true 0 0 x y a a
    unsent-by state socket None found is h = none h
    unsent-by state socket (Some unsent) found is h = puts-step x y a link state socket unsent why found is h

    framing-by : (state : LinkState) (f : Framing) → at_key link_number link x.links.opened.items ≡ Some state → state.framing ≡ f → PutsBy link state f x y why → LoopStep true 0 0 x y a a
    framing-by state framing.Undecided found is h = none h
    framing-by state framing.Plain found is h = none h
    framing-by state (framing.Socket socket) found is h = unsent-by state socket (unsent_in_core link x.core) found is h

    by : (o : Option LinkState) → at_key link_number link x.links.opened.items ≡ o → PutsAt link o x y why → LoopStep true 0 0 x y a a
    by None e h = none h
    by (Some state) e h = framing-by state state.framing e refl h

pub SendsOn-put : (link : ℕ) (x y : Headless) (a : Seen) (why : Option PutRefused) → PutsMessages link x y why → SendsOn link x y a a
SendsOn-put link x y a why p = by (at_key link_number link x.links.opened.items) refl p
  where
    none : PutsNone x y why → SendsOn link x y a a
    none h = subst (λ z. SendsOn link x z a a) (sym h.0) (SendsOn-refl link x a)

    puts : (state : LinkState) (socket : Link) (unsent : List ℕ) → at_key link_number link x.links.opened.items ≡ Some state → state.framing ≡ framing.Socket socket → PutsFrames link state socket unsent x y why → SendsOn link x y a a
    puts state socket unsent found is h =
        subst (λ z. SendsOn link x z a a) (sym h.rest)
        (SendsOn-kept link x y.core y.links a a (subst (KeepsAll link x.core) (sym h.core) (KeepsAll-gone link h.framed.count x.core (at_key connection_link link x.core.connections) refl))
        (states-put link x.links.opened.items y.links.opened.items state socket h.socket' found is (silent-put unsent socket h.socket' h.framed h.frames) h.opened) h.closed
        (λ k n. ap (λ ss. frames_of (at_key link_number k ss)) h.opened ∙ ap frames_of (at_key-put_other link_number link k (record state { framing = framing.Socket h.socket' }) x.links.opened.items (at_key-key link_number link x.links.opened.items state found) n)) (NothingBecameReady-refl a) (TakesNothing-refl a) (λ k n. refl))

    unsent-by : (state : LinkState) (socket : Link) (o : Option (List ℕ)) → at_key link_number link x.links.opened.items ≡ Some state → state.framing ≡ framing.Socket socket → PutsUnsent link state socket o x y why → SendsOn link x y a a
    unsent-by state socket None found is h = none h
    unsent-by state socket (Some unsent) found is h = puts state socket unsent found is h

    framing-by : (state : LinkState) (f : Framing) → at_key link_number link x.links.opened.items ≡ Some state → state.framing ≡ f → PutsBy link state f x y why → SendsOn link x y a a
    framing-by state framing.Undecided found is h = none h
    framing-by state framing.Plain found is h = none h
    framing-by state (framing.Socket socket) found is h = unsent-by state socket (unsent_in_core link x.core) found is h

    by : (o : Option LinkState) → at_key link_number link x.links.opened.items ≡ o → PutsAt link o x y why → SendsOn link x y a a
    by None e h = none h
    by (Some state) e h = framing-by state state.framing e refl h

-- ---- what holds after them

pub first-keeps : (link count : ℕ) (x y : Headless) → SendsFirst link count x y → KeepsAll link x.core y.core
first-keeps link count x y first = subst (KeepsAll link x.core) (sym first.core) (core-first (frames_of (at_key link_number link x.links.opened.items)) link count x.core)

socket-some : (o : Option LinkState) → is_socket_at o ≡ true → is_some o ≡ true
socket-some None e = absurd (false≢true e)
socket-some (Some state) e = refl

-- somebody is at a link on which something is to be sent
pub send-party : (link : ℕ) (x : Headless) (a : Seen) (bytes : List ℕ) → AgreesWithSockets x a → Some bytes ≡ to_send link x → has_party link x.core ≡ true
send-party link x a bytes s u = by (frames_of (at_key link_number link x.links.opened.items)) refl
  where
    by : (o : Option (List ℕ)) → frames_of (at_key link_number link x.links.opened.items) ≡ o → has_party link x.core ≡ true
    by None e = unsent-party link x.core bytes (u ∙ ap (λ o. bytes_or o (unsent_in_core link x.core)) e)
    by (Some frames) e = kept-party link x a s (socket-some (at_key link_number link x.links.opened.items) (frames-socket (at_key link_number link x.links.opened.items) frames e))

-- each whole message is in a frame
pub puts-put : (link : ℕ) (x y : Headless) → AreAlone x.core → PutsMessages link x y None → IsPut link y
puts-put link x y alone p = by (at_key link_number link x.links.opened.items) refl p
  where
    plain : (o : Option LinkState) → at_key link_number link x.links.opened.items ≡ o → is_socket_at o ≡ false → y ≡ x → IsPut link y
    plain o e f same = let is : is_socket_at (at_key link_number link y.links.opened.items) ≡ false = ap (λ (z : Headless). is_socket_at (at_key link_number link z.links.opened.items)) same ∙ ap is_socket_at e ∙ f in rw is tt

    unsent-by : (state : LinkState) (socket : Link) (o : Option (List ℕ)) → unsent_in_core link x.core ≡ o → at_key link_number link x.links.opened.items ≡ Some state → state.framing ≡ framing.Socket socket → PutsUnsent link state socket o x y None → IsPut link y
    unsent-by state socket None u found is h =
        let none : unsent_on link y.core ≡ [] = ap (λ (z : Headless). unsent_on link z.core) h.0 ∙ none-given link x.core (sym u) in
        put-where (is_socket_at (at_key link_number link y.links.opened.items)) none
      where
        put-where : (socket : Bool) → unsent_on link y.core ≡ [] → IsPutWhere socket (unsent_on link y.core)
        put-where true none = rw none (none_short [] (omega arith))
        put-where false none = tt
    unsent-by state socket (Some unsent) u found is h =
        let left : unsent_on link y.core ≡ drop h.framed.count unsent = ap (unsent_on link) h.core ∙ left-by link h.framed.count x.core (at_key connection_link link x.core.connections) unsent refl alone (some-given link x.core unsent alone (sym u)) in
        let rest : drop h.framed.count unsent ≡ h.frames.rest = ap (λ n. drop n unsent) h.frames.count ∙ ap (drop (length (concat h.frames.messages))) h.frames.parts ∙ drop-front (concat h.frames.messages) h.frames.rest in
        let stops : HasNoMessage h.frames.rest = rw (sym h.refused) at h.frames.stops in
        stopped (is_socket_at (at_key link_number link y.links.opened.items)) (left ∙ rest) stops
      where
        stopped : (socket : Bool) → unsent_on link y.core ≡ h.frames.rest → HasNoMessage h.frames.rest → IsPutWhere socket (unsent_on link y.core)
        stopped true e f = rw e f
        stopped false e f = tt

    framing-by : (state : LinkState) (f : Framing) → at_key link_number link x.links.opened.items ≡ Some state → state.framing ≡ f → PutsBy link state f x y None → IsPut link y
    framing-by state framing.Undecided found is h = plain (Some state) found (ap is_socket is) h.0
    framing-by state framing.Plain found is h = plain (Some state) found (ap is_socket is) h.0
    framing-by state (framing.Socket socket) found is h = unsent-by state socket (unsent_in_core link x.core) refl found is h

    by : (o : Option LinkState) → at_key link_number link x.links.opened.items ≡ o → PutsAt link o x y None → IsPut link y
    by None e h = plain None e refl h.0
    by (Some state) e h = framing-by state state.framing e refl h
