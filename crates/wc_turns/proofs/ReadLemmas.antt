-- What one call takes of a link.
use Rattle.std.proofs.Common.{◌≡◌, ◌≢◌, ℕ, ◌+◌, ◌<◌, ◌≤◌, Bool, true, false, not, eqb, nat_le, ◌&&◌, ◌||◌, IsTrue, List, [], ◌∷◌, ◌++◌, length, map, take, All, Option, Some, None, IsSome, is_some, is_none, refl, sym, ap, ◌∙◌, subst, arith}
use Rattle.std.proofs.lemmas.Bool.{false≢true}
use Rattle.std.proofs.lemmas.Bool.Decides.{nat_tests}
use Rattle.std.proofs.lemmas.List.{length-append, length-take}
use Rattle.wc_text.specs.declared.names.LinkId.{LinkId}
use Rattle.wc_text.specs.declared.names.Cause.{Cause}
use Rattle.wc_outside.specs.Seen.{Seen}
use Rattle.wc_outside.specs.declared.happening.Happening.{Happening}
use Rattle.wc_outside.specs.declared.happening.Happening.TheVariants.{Read, Accepted, ListenFailed, Connected}
use Rattle.wc_outside.specs.Keyed.{at_key}
use Rattle.wc_board.specs.declared.connection.Connection.{Connection}
use Rattle.wc_board.specs.Connections.{connection_link, is_open_at, leaving_in, leaving_on}
use Rattle.wc_servers.specs.Seats.{SeatView, seat_link, is_open_at as server_is_open_at, leaving_in as server_leaving_in, leaving_on as server_leaving_on}
use Rattle.wc_core.specs.CoreView.{CoreView}
use Rattle.wc_core.specs.Served.{or_else, KeepsClients, Distinct, links_of}
use Rattle.wc_core.specs.ServersKept.{is_wanted, LosesServer}
use Rattle.wc_turns.specs.declared.headless.Headless.{Headless}
use Rattle.wc_turns.specs.Events.{has_come, socket_on, tail_as, text_of_read, came_events, happening_events, events_of, end_events}
use Rattle.wc_turns.specs.Heard.{Heard, Happened, Unframed, NotPut, happened, happenings, SocketEnd, GoesOn, Closes, Broken}
use Rattle.wc_turns.specs.Links.{link_number, is_undrained, is_connecting, is_socket_at}
use Rattle.wc_turns.specs.Parties.{has_party, party_count, IsCalm}
use Rattle.wc_turns.specs.Parts.{leaving_of, Settles, ReadsOn}
use Rattle.wc_turns.specs.Served.{LeavesAtRead}
use Rattle.wc_turns.specs.Sources.{NothingBecameReady, TakesNothing, bytes_taken, arrivals}
use Rattle.wc_turns.specs.Steps.{LosesLink}
use Rattle.wc_turns.specs.Turns.{AgreesWithSockets, CausedBy, LoopStep, TakesHappening, TakesRead, is_wake, is_listen_fault, wake_count, listen_faults}
use Rattle.wc_turns.proofs.KeyedLemmas.{none_of, same-keys}
use Rattle.wc_turns.proofs.PointLemmas.{or_left, sides-kept}
use Rattle.wc_turns.proofs.TurnLemmas.{Call}
use Rattle.wc_turns.proofs.StepLemmas.{SameSets}
use Rattle.wc_turns.proofs.SeatLemmas.{loses-keeps, loses-shut}
use Rattle.wc_turns.proofs.ClosingLemmas.{IsOf, read-of, ended-of, stands-of, broken-of}
use Rattle.std.proofs.lemmas.List.Elements.{All-nil, All-append}
use Rattle.wc_turns.proofs.TakesLemmas.{LoopStep-takes, causes-read, causes-lost, none-arrives, causes-stands}
use Rattle.wc_turns.proofs.SourceLemmas.{NothingBecameReady-refl, NothingBecameReady-trans, NothingBecameReady-same, bytes_taken-append, arrivals-append}
use Rattle.wc_board.specs.Served.{StaysOrStarves}
use Rattle.wc_turns.specs.declared.links.LinkState.{LinkState}

pub ReadsOn-refl : (link : ℕ) (a : Seen) → ReadsOn link a a
ReadsOn-refl link a = record { falls = NothingBecameReady-refl a; others = λ t k n. refl; clients = λ t. refl }

pub ReadsOn-trans : (link : ℕ) (a b c : Seen) → (IsTrue c.tells → IsTrue b.tells) → ReadsOn link a b → ReadsOn link b c → ReadsOn link a c
ReadsOn-trans link a b c told h g = record {
  falls = NothingBecameReady-trans a b c h.falls g.falls;
  others = λ t k n. g.others t k n ∙ h.others (told t) k n;
  clients = λ t. g.clients t ∙ h.clients (told t);
}

-- a call of the sockets took these happenings
pub ReadsOn-call : (link : ℕ) (a b : Seen) (given : List Happening) → NothingBecameReady a b → (IsTrue b.tells → b.taken ≡ a.taken ++ given) → ((k : ℕ) → k ≢ link → bytes_taken k given ≡ 0) → arrivals given ≡ 0 → ReadsOn link a b
ReadsOn-call link a b given falls taken none nobody = record {
  falls = falls;
  others = λ t k n. (let e = ap (bytes_taken k) (taken t) in let q = bytes_taken-append k a.taken given in let z = none k n in omega arith);
  clients = λ t. (let e = ap arrivals (taken t) in let q = arrivals-append a.taken given in omega arith);
}

-- and what the core asks for was done after it
pub ReadsOn-settles : (link : ℕ) (x y : Headless) (a b c : Seen) → (IsTrue c.tells → IsTrue b.tells) → ReadsOn link a b → Settles x y b c → ReadsOn link a c
ReadsOn-settles link x y a b c told h settles = record {
  falls = NothingBecameReady-trans a b c h.falls settles.falls;
  others = λ t k n. settles.nothing.bytes t k ∙ h.others (told t) k n;
  clients = λ t. settles.nothing.clients t ∙ h.clients (told t);
}

pub other-bytes : (link : LinkId) (bytes : List ℕ) (k : ℕ) → k ≢ link.0 → bytes_taken k (Read link bytes ∷ []) ≡ 0
other-bytes link bytes k n = let test : eqb link.0 k ≡ false = grind (arith, nat_tests) in rw test refl

-- so many bytes were read
pub bytes-read : (link : LinkId) (count : ℕ) (buffer : List ℕ) (before after : List Happening) → after ≡ before ++ Read link (take count buffer) ∷ [] → count ≤ length buffer → bytes_taken link.0 after ≡ bytes_taken link.0 before + count
bytes-read link count buffer before after e within =
    let all = ap (bytes_taken link.0) e in
    let parts = bytes_taken-append link.0 before (Read link (take count buffer) ∷ []) in
    let here : eqb link.0 link.0 ≡ true = grind (arith, nat_tests) in
    let read : bytes_taken link.0 (Read link (take count buffer) ∷ []) ≡ length (take count buffer ++ []) = rw here refl in
    let size = length-append (take count buffer) [] in
    let front = length-take count buffer in
    omega arith

-- a client came, and none came where the listener failed
pub arrived-one : (link : LinkId) (nonce : List ℕ) (before after : List Happening) → after ≡ before ++ Accepted link nonce ∷ [] → arrivals after ≡ arrivals before + 1
arrived-one link nonce before after e = (let all = ap arrivals e in let parts = arrivals-append before (Accepted link nonce ∷ []) in omega arith)

pub arrived-none : (before after : List Happening) → after ≡ before ++ ListenFailed ∷ [] → arrivals after ≡ arrivals before + 0
arrived-none before after e = (let all = ap arrivals e in let parts = arrivals-append before (ListenFailed ∷ []) in omega arith)

pub and-not-none : (b t : Bool) → (b && not (t && false)) ≡ b
and-not-none true true = refl
and-not-none true false = refl
and-not-none false t = refl

-- happenings without bytes
pub bytes-kept : (link n : ℕ) (a b c : Seen) (given : List Happening) → (IsTrue c.tells → IsTrue b.tells) → (IsTrue b.tells → b.taken ≡ a.taken ++ given) → bytes_taken link given ≡ 0 → TakesNothing b c → IsTrue c.tells → bytes_taken link c.taken ≤ bytes_taken link a.taken + n
bytes-kept link n a b c given told taken none nothing t =
    let e = nothing.bytes t link in
    let q = ap (bytes_taken link) (taken (told t)) in
    let parts = bytes_taken-append link a.taken given in
    omega arith

-- a call gave a happening, and sent nothing
pub record Gave (a b : Seen) (h : Happening) : Type 0 where
  pub call : Call a b (h ∷ [])
  pub sent : IsTrue b.tells → (k : ℕ) → b.sent k ≡ a.sent k
  pub choked : IsTrue b.tells → (k : ℕ) → b.choked k ≡ a.choked k
  pub asked : IsTrue b.tells → b.asked ≡ a.asked
  pub same : SameSets a b

-- the events of a read are those of its link
ends-of : (link : ℕ) (end : SocketEnd) → All (IsOf link) (end_events link end)
ends-of link GoesOn = All-nil (IsOf link)
ends-of link Closes = ended-of link
ends-of link Broken = broken-of link

came-of : (link : LinkId) (bytes text : List ℕ) (history : List Heard) → All (IsOf link.0) (came_events link history bytes text)
came-of link bytes text history =
    let socket = socket_on link.0 (happenings history ++ Read link bytes ∷ []) in
    read-of link.0 (tail_as socket link.0 history) (text_of_read socket bytes text)

heard-of : (link : LinkId) (bytes : List ℕ) (history : List Heard) (h : Heard) → happened h ≡ Read link bytes ∷ [] → All (IsOf link.0) (events_of history h)
heard-of link bytes history (Happened h) e = let same : h ≡ Read link bytes = cc e in rw same (came-of link bytes [] history)
heard-of link bytes history (Unframed other bs text end) e =
    let q : Read other bs ≡ Read link bytes = cc e in
    let same : other ≡ link = cc q in
    rw same (All-append (IsOf link.0) (came_events link history bs text) (end_events link.0 end) (came-of link bs text history) (ends-of link.0 end))
heard-of link bytes history (NotPut other) e = absurd (cc e)

-- bytes were read and served
pub LoopStep-read : (x y : Headless) (link : LinkId) (bytes : List ℕ) (a b : Seen) → Gave a b (Read link bytes) → IsCalm x.core → x.core.quits ≡ false → TakesRead x y link bytes → LeavesAtRead (is_socket_at (at_key link_number link.0 y.links.opened.items)) link.0 x.core y.core → LoopStep true 0 0 x y a b
LoopStep-read x y link bytes a b gave calm going read causes =
    let takes = read.takes in
    let wake : wake_count (happened read.heard) ≡ 0 = ap wake_count read.read in
    let faults : listen_faults (happened read.heard) ≡ 0 = ap listen_faults read.read in
    let socket = is_socket_at (at_key link_number link.0 y.links.opened.items) in
    let is : AgreesWithSockets x a → socket ≡ true → IsTrue b.tells → socket_on link.0 b.taken ≡ true = λ s e t. ap (socket_on link.0) (gave.call.taken t ∙ ap (λ hs. a.taken ++ hs) (sym read.read)) ∙ takes.sockets a.taken s.history (s.spells (gave.call.told t)) (s.hears (gave.call.told t) going) link.0 e in
    LoopStep-takes x y link a b read.heard 0 wake faults (subst (Call a b) (sym read.read) gave.call) gave.sent gave.choked gave.asked gave.same calm going takes causes.rises
    (λ history. heard-of link bytes history read.heard read.read) (λ k. ap (has_come k) read.read)
    (λ s. causes-read socket link bytes x y a b calm causes gave.call.taken (is s) s.among.once (takes.servers.seats s.among.seats) (sides-kept x.core y.core takes.servers)) causes.saves

pub ReadsOn-read : (x y : Headless) (link : LinkId) (bytes : List ℕ) (a b c : Seen) → Gave a b (Read link bytes) → (IsTrue c.tells → IsTrue b.tells) → Settles x y b c → ReadsOn link.0 a c
ReadsOn-read x y link bytes a b c gave told settles =
    ReadsOn-settles link.0 x y a b c told (ReadsOn-call link.0 a b (Read link bytes ∷ []) (NothingBecameReady-same a b gave.same.undrained gave.same.listening) gave.call.taken (other-bytes link bytes) refl) settles

-- a link was lost
pub LoopStep-lost : (x y : Headless) (link : LinkId) (h : Happening) (why : Cause) (a b : Seen) → Gave a b h → is_wake h ≡ 0 → is_listen_fault h ≡ 0 → IsCalm x.core → x.core.quits ≡ false → TakesHappening x y (Happened h) → ((history : List Heard) → All (IsOf link.0) (happening_events history h))
    → LosesLink link.0 why x.core y.core → CausedBy why link.0 a b → LoopStep true 0 0 x y a b
LoopStep-lost x y link h why a b gave wake listen calm going takes of loses cause =
    LoopStep-takes x y link a b (Happened h) 0 (omega arith) (omega arith) gave.call gave.sent gave.choked gave.asked gave.same calm going takes loses.keeps.rises of (λ k. none-arrives link k h (of []))
    (λ s. causes-lost link why x y a b (h ∷ []) calm loses s.among.once (takes.servers.seats s.among.seats) (sides-kept x.core y.core takes.servers) gave.call.taken (λ k. none-arrives link k h (of [])) cause) loses.keeps.saves

-- a connection stands
pub LoopStep-stood : (x y : Headless) (link : LinkId) (a b : Seen) → Gave a b (Connected link) → IsCalm x.core → x.core.quits ≡ false → TakesHappening x y (Happened (Connected link)) → KeepsClients x.core y.core
    → (Distinct (links_of x.core) → (k : ℕ) → StaysOrStarves (leaving_on k x.core.connections) (leaving_on k y.core.connections)) → LoopStep true 0 0 x y a b
LoopStep-stood x y link a b gave calm going takes keeps stays =
    LoopStep-takes x y link a b (Happened (Connected link)) 0 refl refl gave.call gave.sent gave.choked gave.asked gave.same calm going takes keeps.rises
    (λ history. stands-of link.0) (λ k. refl)
    (λ s. causes-stands x y a b (Connected link ∷ []) calm keeps.links s.among.once (takes.servers.seats s.among.seats) (sides-kept x.core y.core takes.servers) gave.call.taken (λ k. refl) (stays s.among.once)) keeps.saves

-- one that does not stand is there
pub connecting-there : (o : Option LinkState) → is_connecting o ≡ true → is_some o ≡ true
connecting-there (Some state) e = refl
connecting-there None e = absurd (false≢true e)

-- ---- who is at a link that was lost

leaves-shut : (o : Option Connection) → is_some o ≡ true → is_open_at o ≡ false → IsSome (leaving_in o)
leaves-shut None there shut = absurd (false≢true there)
leaves-shut (Some s) there shut = leaves-by s.leaving shut
  where
    leaves-by : (why : Option Cause) → is_none why ≡ false → IsSome why
    leaves-by None e = absurd (false≢true (sym e))
    leaves-by (Some cause) e = refl

seat-shut : (o : Option SeatView) → is_some o ≡ true → server_is_open_at o ≡ false → IsSome (server_leaving_in o)
seat-shut None there shut = absurd (false≢true there)
seat-shut (Some s) there shut = leaves-by s.leaving shut
  where
    leaves-by : (why : Option Cause) → is_none why ≡ false → IsSome why
    leaves-by None e = absurd (false≢true (sym e))
    leaves-by (Some cause) e = refl

pub some-second : (a b : Option Cause) → IsSome b → IsSome (or_else a b)
some-second None b h = h
some-second (Some cause) b h = refl

pub some-first : (a b : Option Cause) → IsSome a → IsSome (or_else a b)
some-first None b h = absurd (false≢true h)
some-first (Some cause) b h = refl

-- who is at the link is leaving after it
pub lost-leaves : (link : ℕ) (why : Cause) (x y : CoreView) → LosesLink link why x y → has_party link x ≡ true → IsSome (leaving_of link y)
lost-leaves link why x y loses there = leaves-by (at_key connection_link link x.connections) refl loses.server
  where
    client : is_some (at_key connection_link link y.connections) ≡ is_some (at_key connection_link link x.connections)
    client = same-keys connection_link link y.connections x.connections loses.keeps.links

    server : LosesServer (is_open_at (at_key connection_link link x.connections)) link why x.servers y.servers → is_some (at_key seat_link link y.servers.seats) ≡ is_some (at_key seat_link link x.servers.seats)
    server h = same-keys seat_link link y.servers.seats x.servers.seats (loses-keeps (is_open_at (at_key connection_link link x.connections)) link why x.servers y.servers h).links

    leaves-by : (o : Option Connection) → at_key connection_link link x.connections ≡ o → LosesServer (is_open_at (at_key connection_link link x.connections)) link why x.servers y.servers → IsSome (leaving_of link y)
    leaves-by (Some s) e h = some-second (server_leaving_on link y.servers.seats) (leaving_on link y.connections) (leaves-shut (at_key connection_link link y.connections) (client ∙ ap is_some e) loses.gone)
    leaves-by None e h =
        let seat : is_some (at_key seat_link link x.servers.seats) ≡ true = ap (λ o. is_some o || is_some (at_key seat_link link x.servers.seats)) (sym e) ∙ there in
        let shut : is_open_at (at_key connection_link link x.connections) ≡ false = ap is_open_at e in
        some-first (server_leaving_on link y.servers.seats) (leaving_on link y.connections)
        (seat-shut (at_key seat_link link y.servers.seats) (server h ∙ seat) (loses-shut link why x.servers y.servers (subst (λ t. LosesServer t link why x.servers y.servers) shut h)))

pub lost-has : (link : ℕ) (why : Cause) (x y : CoreView) → LosesLink link why x y → (k : ℕ) → has_party k y ≡ has_party k x
lost-has link why x y loses k =
    ap (λ t. t || is_some (at_key seat_link k y.servers.seats)) (same-keys connection_link k y.connections x.connections loses.keeps.links)
    ∙ ap (λ t. is_some (at_key connection_link k x.connections) || t) (same-keys seat_link k y.servers.seats x.servers.seats (loses-keeps (is_open_at (at_key connection_link link x.connections)) link why x.servers y.servers loses.server).links)

map-length : {X : Type 0} (f : X → ℕ) (xs : List X) → length (map f xs) ≡ length xs
map-length f [] = refl
map-length f (x ∷ xs) = let ih = map-length f xs in omega arith

pub lost-count : (link : ℕ) (why : Cause) (x y : CoreView) → LosesLink link why x y → party_count y ≡ party_count x
lost-count link why x y loses =
    let c = ap length loses.keeps.links in
    let s = ap length (loses-keeps (is_open_at (at_key connection_link link x.connections)) link why x.servers y.servers loses.server).links in
    let c1 = map-length connection_link y.connections in
    let c2 = map-length connection_link x.connections in
    let s1 = map-length seat_link y.servers.seats in
    let s2 = map-length seat_link x.servers.seats in
    omega arith

-- a link that is kept has somebody
pub kept-party : (link : ℕ) (x : Headless) (a : Seen) → AgreesWithSockets x a → is_some (at_key link_number link x.links.opened.items) ≡ true → has_party link x.core ≡ true
kept-party link x a s there = s.among.parties link ∙ ap (λ t. t || is_wanted link x.core.servers.wanted) there

-- and its number is used
pub kept-used : (link : ℕ) (x : Headless) (a : Seen) → AgreesWithSockets x a → is_some (at_key link_number link x.links.opened.items) ≡ true → link ≤ x.used
kept-used link x a s there = used-by (nat_le link x.used) refl
  where
    used-by : (t : Bool) → nat_le link x.used ≡ t → link ≤ x.used
    used-by true e = grind (arith, nat_tests)
    used-by false e =
        let above : x.used < link = grind (arith, nat_tests) in
        absurd (false≢true (sym (ap is_some (s.among.unknown link above)) ∙ there))

-- a link that was lost is closed, so it is drained
pub settled-drained : (link : ℕ) (y z : Headless) (b c : Seen) → AgreesWithSockets z c → Settles y z b c → IsSome (leaving_of link y.core) → c.undrained link ≡ false
settled-drained link y z b c s settles leaves =
    let nobody : has_party link z.core ≡ false = settles.parted link leaves in
    let none : is_some (at_key link_number link z.links.opened.items) ≡ false = or_left _ _ (sym (s.among.parties link) ∙ nobody) in
    s.among.undrained link ∙ ap is_undrained (none_of _ none)
