-- A message of a WebSocket could not be put into a frame.
use Rattle.std.proofs.Common.{◌≡◌, ℕ, true, false, List, [], ◌++◌, Option, Some, None, IsSome, is_some, refl, sym, ap, ◌∙◌, subst, arith}
use Rattle.std.proofs.lemmas.List.{append-nil}
use Rattle.wc_text.specs.declared.names.LinkId.{LinkId}
use Rattle.wc_text.specs.declared.names.Cause.{Cause}
use Rattle.wc_text.specs.declared.names.Cause.TheVariants.{NoMemory, BadSocket}
use Rattle.wc_outside.specs.Seen.{Seen}
use Rattle.wc_outside.specs.Keyed.{at_key}
use Rattle.wc_core.specs.CoreView.{CoreView}
use Rattle.wc_core.specs.LinksSeen.{unsent_in_core}
use Rattle.wc_framing.specs.declared.framing.Framing.{Framing}
use Rattle.wc_framing.specs.declared.framing.Framing.TheVariants as framing
use Rattle.wc_ws.specs.declared.names.PutRefused.{PutRefused}
use Rattle.wc_ws.specs.Link.{Link}
use Rattle.wc_turns.specs.declared.links.LinkState.{LinkState}
use Rattle.wc_turns.specs.declared.headless.Headless.{Headless}
use Rattle.wc_turns.specs.Contained.{HasStarved, KeepsLinks}
use Rattle.wc_turns.specs.Heard.{NotPut}
use Rattle.wc_turns.specs.Links.{link_number, is_socket_at}
use Rattle.wc_turns.specs.Parties.{has_party, party_count, closes_asked, IsCalm}
use Rattle.wc_turns.specs.Parts.{leaving_of}
use Rattle.wc_turns.specs.declared.links.Links.{Links}
use Rattle.wc_turns.specs.Sockets.{PutsNone, PutsUnsent, PutsBy, PutsAt, PutsMessages, LosesRefused, starves, breaks, PutsOrLoses}
use Rattle.wc_turns.specs.Steps.{LosesLink}
use Rattle.wc_turns.specs.Turns.{TakesHappening, LoopStep, closed_so_far}
use Rattle.wc_turns.proofs.ArriveLemmas.{no-starving}
use Rattle.wc_turns.proofs.CauseLemmas.{Onward-none, reasons-more}
use Rattle.wc_turns.proofs.CloseLemmas.{Call-refl, SameSets-refl}
use Rattle.wc_turns.proofs.ClosingLemmas.{broken-of}
use Rattle.wc_turns.proofs.EndedLemmas.{ended-keeps}
use Rattle.wc_turns.proofs.PartyLemmas.{among-come}
use Rattle.wc_turns.proofs.PointLemmas.{sides-kept}
use Rattle.wc_turns.proofs.RunLemmas.{ReachesEvents-none}
use Rattle.wc_turns.proofs.SeatLemmas.{loses-keeps}
use Rattle.wc_turns.proofs.AskedLemmas.{calm-open, unsent-party}
use Rattle.wc_turns.proofs.ContainedLemmas.{KeepsLinks-trans, KeepsLinks-same, KeepsLinks-takes}
use Rattle.wc_turns.proofs.PartLemmas.{KeepsLinks-sends, sends-has, sends-count}
use Rattle.wc_turns.proofs.ReadLemmas.{lost-leaves, lost-has, lost-count}
use Rattle.wc_turns.proofs.SendLemmas.{LoopStep-put, SendsOn-put}
use Rattle.wc_turns.proofs.SocketLemmas.{refused-socket}
use Rattle.wc_turns.proofs.TakesLemmas.{LoopStep-takes, causes-lost}
use Rattle.wc_turns.proofs.TurnLemmas.{LoopStep-step, LoopStep-trans}
use Rattle.wc_turns.proofs.GoesLemmas.{Goes-starved}

-- where a message was refused, somebody is at the link
refused-party : (link : ℕ) (x mid : Headless) (why : PutRefused) → PutsMessages link x mid (Some why) → has_party link x.core ≡ true
refused-party link x mid why p = by (at_key link_number link x.links.opened.items) p
  where
    none : PutsNone x mid (Some why) → has_party link x.core ≡ true
    none h = absurd (let q : Some why ≡ None = h.1 in cc)

    unsent-by : (state : LinkState) (socket : Link) (o : Option (List ℕ)) → unsent_in_core link x.core ≡ o → PutsUnsent link state socket o x mid (Some why) → has_party link x.core ≡ true
    unsent-by state socket None u h = none h
    unsent-by state socket (Some unsent) u h = unsent-party link x.core unsent (sym u)

    framing-by : (state : LinkState) (f : Framing) → PutsBy link state f x mid (Some why) → has_party link x.core ≡ true
    framing-by state framing.Undecided h = none h
    framing-by state framing.Plain h = none h
    framing-by state (framing.Socket socket) h = unsent-by state socket (unsent_in_core link x.core) refl h

    by : (o : Option LinkState) → PutsAt link o x mid (Some why) → has_party link x.core ≡ true
    by None h = none h
    by (Some state) h = framing-by state state.framing h

-- and after those before it were put
refused-there : (link : ℕ) (x mid : Headless) (a : Seen) (why : PutRefused) → PutsMessages link x mid (Some why) → has_party link mid.core ≡ true
refused-there link x mid a why puts = sends-has link x mid a a (SendsOn-put link x mid a (Some why) puts) link ∙ refused-party link x mid why puts

-- there was no memory for it: its client begins to leave, and no event is reached
starved-step : (x : Headless) (core : CoreView) (link : LinkId) (a : Seen) → has_party link.0 x.core ≡ true → LosesLink link.0 NoMemory x.core core → HasStarved x.core.starved core.starved → IsCalm x.core → x.core.quits ≡ false → LoopStep true 0 0 x (record x { core = core }) a a
starved-step x core link a there loses starved calm going =
    let y : Headless = record x { core = core } in
    let states = x.links.opened.items in
    let keep = loses.keeps.servers in
    let grows : closed_so_far y ≡ closed_so_far x ++ closes_asked core = ap (λ xs. xs ++ closes_asked core) (sym (ap (λ cs. x.links.closed.items ++ cs) calm.parted ∙ append-nil x.links.closed.items)) in
    let wanted : core.servers.wanted ≡ x.core.servers.wanted = (loses-keeps _ link.0 NoMemory x.core.servers core.servers loses.server).wanted in
    LoopStep-step true 0 0 x y a a [] [] (closes_asked core) refl (Call-refl a) (λ below. omega arith) refl refl
    loses.keeps.rises (λ t s unstarved below. grows)
    (λ s. reasons-more x y a a (closes_asked core) grows (causes-lost link NoMemory x y a a [] calm loses s.among.once (keep.seats s.among.seats) (sides-kept x.core core keep) (λ t. sym (append-nil a.taken)) (λ k. refl) tt))
    (λ s. sides-kept x.core core keep) (λ s. Onward-none x.core core [] (let r = keep.reached in omega arith) (λ k. refl))
    (λ over. loses.quits ∙ over) (λ t s. loses.keeps.saves)
    (λ s. among-come states states x.core core x.used x.listening x.refused.items a a refl (λ k. refl) (λ k. refl) (λ k. refl) loses.keeps.links keep (ended-keeps states x.core core loses.keeps) (SameSets-refl a) s)
    (λ t s on. rw (append-nil a.taken) (s.told t going))
    (λ t s on. rw (append-nil a.taken, append-nil s.history) (s.hears t going))
    (λ t s k e. rw (append-nil a.taken) (s.sockets t k e))
    (λ s none. wanted ∙ s.idle none)
    (λ t s. record {
      events = [];
      reaches = ReachesEvents-none x.core.quits core.quits x.ran;
      rises = loses.keeps.rises;
      verdicts = loses.keeps.verdicts;
      goes = Goes-starved link.0 x.core core (record { there = calm-open link.0 x.core calm there; loses = loses.whole });
      advances = λ same below rows were agrees. no-starving x.core.starved core.starved starved same below;
      silent = λ over. refl;
      ends = tt;
      last = λ same below rows were agrees on over. no-starving x.core.starved core.starved starved same below;
    })

-- the link takes no message: that is an event
broken-step : (x y : Headless) (link : LinkId) (a : Seen) → IsCalm x.core → x.core.quits ≡ false → is_socket_at (at_key link_number link.0 x.links.opened.items) ≡ true → TakesHappening x y (NotPut link) → LosesLink link.0 BadSocket x.core y.core → LoopStep true 0 0 x y a a
broken-step x y link a calm going is takes loses =
    LoopStep-takes x y link a a (NotPut link) 0 refl refl (Call-refl a) (λ t k. refl) (λ t k. refl) (λ t. refl) (SameSets-refl a) calm going takes loses.keeps.rises (λ history. broken-of link.0) (λ k. refl)
    (λ s. causes-lost link BadSocket x y a a [] calm loses s.among.once (takes.servers.seats s.among.seats) (sides-kept x.core y.core takes.servers) (λ t. sym (append-nil a.taken)) (λ k. refl) (λ t. s.sockets t link.0 is)) loses.keeps.saves

-- what the client of a WebSocket is owed was put into frames, or a message was refused
pub LoopStep-frame : (x y : Headless) (link : LinkId) (a : Seen) → IsCalm x.core → x.core.quits ≡ false → PutsOrLoses false link.0 x y → LoopStep true 0 0 x y a a
LoopStep-frame x y link a calm going p =
    let mid = p.0 in
    let why = p.1.0 in
    let puts = p.1.1.0 in
    let sends = SendsOn-put link.0 x mid a why puts in
    let calm' : IsCalm mid.core = record { parted = sends.leaving ∙ calm.parted; asked = sends.wanted ∙ calm.asked } in
    LoopStep-trans x mid y a a a (LoopStep-put x mid a link.0 why puts) (lost mid why calm' (sends.quits ∙ going) puts p.1.1.1)
  where
    lost : (mid : Headless) (why : Option PutRefused) → IsCalm mid.core → mid.core.quits ≡ false → PutsMessages link.0 x mid why → LosesRefused link.0 mid y why → LoopStep true 0 0 mid y a a
    lost mid why calm' going' puts (starves e rest loses starved) = subst (λ z. LoopStep true 0 0 mid z a a) (sym rest) (starved-step mid y.core link a (refused-there link.0 x mid a _ (subst (PutsMessages link.0 x mid) e puts)) loses starved calm' going')
    lost mid why calm' going' puts (breaks e takes loses) = broken-step mid y link a calm' going' (refused-socket link.0 x mid _ (subst (PutsMessages link.0 x mid) e puts)) takes loses

-- ---- what holds after it

pub record Unput (link : ℕ) (x y : Headless) : Type 0 where
  pub keeps : KeepsLinks x y
  pub quits : y.core.quits ≡ x.core.quits
  pub count : party_count y.core ≡ party_count x.core
  pub has : has_party link y.core ≡ true
  pub leaves : IsSome (leaving_of link y.core)

pub Unput-of : (x y : Headless) (link : LinkId) (a : Seen) → PutsOrLoses false link.0 x y → Unput link.0 x y
Unput-of x y link a p = by p.0 p.1.0 p.1.1.0 p.1.1.1
  where
    lost : (mid : Headless) (why : PutRefused) (cause : Cause) → PutsMessages link.0 x mid (Some why) → KeepsLinks mid y → LosesLink link.0 cause mid.core y.core → Unput link.0 x y
    lost mid why cause puts keeps loses =
        let sends = SendsOn-put link.0 x mid a (Some why) puts in
        let there = refused-there link.0 x mid a why puts in
        record {
          keeps = KeepsLinks-trans x mid y (KeepsLinks-sends link.0 x mid a a sends) keeps;
          quits = loses.quits ∙ sends.quits;
          count = lost-count link.0 cause mid.core y.core loses ∙ sends-count link.0 x mid a a sends;
          has = lost-has link.0 cause mid.core y.core loses link.0 ∙ there;
          leaves = lost-leaves link.0 cause mid.core y.core loses there;
        }

    by : (mid : Headless) (why : Option PutRefused) → PutsMessages link.0 x mid why → LosesRefused link.0 mid y why → Unput link.0 x y
    by mid why puts (starves e rest loses starved) =
        let used : y.used ≡ mid.used = ap (λ (h : Headless). h.used) rest in
        let links : y.links ≡ mid.links = ap (λ (h : Headless). h.links) rest in
        lost mid _ NoMemory (subst (PutsMessages link.0 x mid) e puts) (KeepsLinks-same mid y used loses.keeps.rises (λ k. ap (λ (l : Links). is_some (at_key link_number k l.opened.items)) links) (ap (λ (l : Links). l.closed.items) links)) loses
    by mid why puts (breaks e takes loses) = lost mid _ BadSocket (subst (PutsMessages link.0 x mid) e puts) (KeepsLinks-takes mid y (NotPut (record { 0 = link.0 })) takes loses.keeps.rises) loses
