-- The event of one part of a notice, and the connections that it is told to.
use Rattle.std.proofs.Common.{◌≡◌, ℕ, Bool, true, false, cond, ◌&&◌, ◌||◌, inl, inr, List, [], ◌∷◌, ◌++◌, Some, refl, ap, sym, subst, ◌∙◌, append-nil}
use Rattle.std.specs.Prelude.{map}
use Rattle.std.specs.List.{flat_map, list_any}
use Rattle.wc_text.specs.declared.names.Cause.TheVariants.{NoMemory}
use Rattle.wc_text.specs.declared.names.Handle.{Handle}
use Rattle.wc_model.specs.declared.notice.EventKind.{EventKind}
use Rattle.wc_model.specs.declared.notice.Notice.{Notice}
use Rattle.wc_model.specs.World.{World}
use Rattle.wc_objects.specs.declared.object.WireMessage.{WireMessage}
use Rattle.wc_session.specs.declared.client.Client.{Client}
use Rattle.wc_session.specs.Known.{Known}
use Rattle.wc_session.specs.Event.{Spelled, IsEventOf, event_messages, with_event, part_told}
use Rattle.wc_session.specs.Sending.{spelling}
use Rattle.wc_session.specs.Sync.{follows, after_event}
use Rattle.wc_board.specs.declared.connection.Connection.{Connection}
use Rattle.wc_board.specs.Connections.{is_open}
use Rattle.wc_board.specs.Served.{listens, noted_connection, heard_connection, starved_connection, part_connection, ConnectionServed, ConnectionsServed, ConnectionKept, ConnectionsKept}
use Rattle.wc_board.specs.declared.connection.Service.{Service}
use Rattle.wc_board.specs.declared.connection.Service.TheVariants.{Tell, Starve}
use Rattle.wc_board.specs.Services.{serve_connection}
use Rattle.wc_board.proofs.ConnectionLemmas.{ConnectionKept-refl}

abbrev spelt : List WireMessage → List ℕ
spelt messages = flat_map (λ m. spelling m) messages

-- what a client is told that does not follow the event, and what one that does
told_none : (w : World) (n : Notice) (client : Client) → follows n.kind n.buffer.0 client ≡ false → part_told w n client ≡ []
unfolding part_told
told_none w n client e = ap (λ b. cond b (event_messages w n) []) e

spelt-told : (w : World) (n : Notice) (client : Client) → spelt (part_told w n client) ≡ cond (follows n.kind n.buffer.0 client) (spelt (event_messages w n)) []
unfolding part_told
spelt-told w n client = by (follows n.kind n.buffer.0 client) where
  by : (b : Bool) → spelt (cond b (event_messages w n) []) ≡ cond b (spelt (event_messages w n)) []
  by true = refl
  by false = refl

-- ---- one connection

-- an open connection with these bytes after the event
abbrev following : EventKind → ℕ → Connection → List ℕ → Connection
following kind buffer connection bytes = record connection { session = record { client = after_event kind buffer connection.session.client; unsent = bytes } }

-- a client that the event is not for
told_deaf : (w : World) (n : Notice) (connection : Connection) → listens n.kind n.buffer.0 connection ≡ false → noted_connection n.kind n.buffer.0 connection ≡ part_connection w n connection
told_deaf w n connection deaf = by (is_open connection) (follows n.kind n.buffer.0 connection.session.client) refl deaf where
  by : (b f : Bool) → follows n.kind n.buffer.0 connection.session.client ≡ f → (b && f) ≡ false
      → cond b (following n.kind n.buffer.0 connection connection.session.unsent) connection ≡ cond b (following n.kind n.buffer.0 connection (connection.session.unsent ++ spelt (part_told w n connection.session.client))) connection
  by true true e deaf = absurd (cc)
  by true false e deaf =
      ap (λ bytes. following n.kind n.buffer.0 connection bytes) (sym (append-nil connection.session.unsent))
      ∙ ap (λ messages. following n.kind n.buffer.0 connection (connection.session.unsent ++ spelt messages)) (sym (told_none w n connection.session.client e))
  by false f e deaf = refl

-- the event is what is to be told
told_heard : (event : Spelled) (w : World) (n : Notice) (connection : Connection) → IsEventOf event w n → heard_connection event connection ≡ part_connection w n connection
told_heard event w n connection is = by (is_open connection) where
  bytes : (client : Client) → cond (follows event.kind event.buffer.0 client) event.bytes [] ≡ spelt (part_told w n client)
  bytes client =
      ap (λ kind. cond (follows kind event.buffer.0 client) event.bytes []) is.kind
      ∙ ap (λ (buffer : Handle). cond (follows n.kind buffer.0 client) event.bytes []) is.buffer
      ∙ ap (λ bytes. cond (follows n.kind n.buffer.0 client) bytes []) is.bytes.bytes ∙ sym (spelt-told w n client)

  hears : after_event event.kind event.buffer.0 connection.session.client ≡ after_event n.kind n.buffer.0 connection.session.client
  hears = ap (λ kind. after_event kind event.buffer.0 connection.session.client) is.kind ∙ ap (λ (buffer : Handle). after_event n.kind buffer.0 connection.session.client) is.buffer

  sent : with_event event connection.session ≡ record { client = after_event n.kind n.buffer.0 connection.session.client; unsent = connection.session.unsent ++ spelt (part_told w n connection.session.client) }
  sent =
      let known : Client → List ℕ → Known = λ client unsent. record { client = client; unsent = unsent } in
      ap (λ client. known client (with_event event connection.session).unsent) hears
      ∙ ap (λ bytes. known (after_event n.kind n.buffer.0 connection.session.client) (connection.session.unsent ++ bytes)) (bytes connection.session.client)

  by : (b : Bool) → cond b (record connection { session = with_event event connection.session }) connection ≡ cond b (following n.kind n.buffer.0 connection (connection.session.unsent ++ spelt (part_told w n connection.session.client))) connection
  by true = ap (λ session. record connection { session = session }) sent
  by false = refl

noted_kept : (kind : EventKind) (buffer : ℕ) (connection : Connection) → ConnectionKept connection (noted_connection kind buffer connection)
noted_kept kind buffer connection = by (is_open connection) refl where
  by : (b : Bool) → is_open connection ≡ b → ConnectionKept connection (cond b (following kind buffer connection connection.session.unsent) connection)
  by true e = record { link = refl; kept = λ shut. absurd (cc); cause = inl refl }
  by false e = ConnectionKept-refl connection

pub starved_kept : (kind : EventKind) (buffer : ℕ) (connection : Connection) → ConnectionKept connection (starved_connection kind buffer connection)
starved_kept kind buffer connection = by (is_open connection) (follows kind buffer connection.session.client) refl where
  by : (b f : Bool) → is_open connection ≡ b → ConnectionKept connection (cond (b && f) (record connection { leaving = Some NoMemory }) (noted_connection kind buffer connection))
  by true true e = record { link = refl; kept = λ shut. absurd (cc); cause = inr refl }
  by true false e = noted_kept kind buffer connection
  by false f e = noted_kept kind buffer connection

told_kept : (w : World) (n : Notice) (connection : Connection) → ConnectionKept connection (part_connection w n connection)
told_kept w n connection = by (is_open connection) refl where
  by : (b : Bool) → is_open connection ≡ b → ConnectionKept connection (cond b (following n.kind n.buffer.0 connection (connection.session.unsent ++ spelt (part_told w n connection.session.client))) connection)
  by true e = record { link = refl; kept = λ shut. absurd (cc); cause = inl refl }
  by false e = ConnectionKept-refl connection

-- ---- a connection whose client is leaving

noted_shut : (kind : EventKind) (buffer : ℕ) (connection : Connection) → is_open connection ≡ false → noted_connection kind buffer connection ≡ connection
noted_shut kind buffer connection shut = ap (λ b. cond b (following kind buffer connection connection.session.unsent) connection) shut

-- it is left as it is
pub serve_shut : (service : Service) (connection : Connection) → is_open connection ≡ false → serve_connection service connection ≡ connection
serve_shut (Tell event) connection shut = ap (λ b. cond b (record connection { session = with_event event connection.session }) connection) shut
serve_shut (Starve kind buffer) connection shut =
    ap (λ b. cond (b && follows kind buffer.0 connection.session.client) (record connection { leaving = Some NoMemory }) (noted_connection kind buffer.0 connection)) shut
    ∙ noted_shut kind buffer.0 connection shut

-- it is open after an event that is not told exactly where it was, on the same link
pub noted_open : (kind : EventKind) (buffer : ℕ) (connection : Connection) → is_open (noted_connection kind buffer connection) ≡ is_open connection
noted_open kind buffer connection = by (is_open connection) where
  by : (b : Bool) → is_open (cond b (following kind buffer connection connection.session.unsent) connection) ≡ is_open connection
  by true = refl
  by false = refl

pub noted_link : (kind : EventKind) (buffer : ℕ) (connection : Connection) → (noted_connection kind buffer connection).session.client.link ≡ connection.session.client.link
noted_link kind buffer connection = by (is_open connection) where
  by : (b : Bool) → (cond b (following kind buffer connection connection.session.unsent) connection).session.client.link ≡ connection.session.client.link
  by true = refl
  by false = refl

-- ---- all connections

pub all_deaf : (w : World) (n : Notice) (connections : List Connection) → list_any (λ connection. listens n.kind n.buffer.0 connection) connections ≡ false → map (noted_connection n.kind n.buffer.0) connections ≡ map (part_connection w n) connections
all_deaf w n [] none = refl
all_deaf w n (connection ∷ connections) none = by (listens n.kind n.buffer.0 connection) refl none (all_deaf w n connections) where
  by : (b : Bool) → listens n.kind n.buffer.0 connection ≡ b → (b || list_any (λ connection. listens n.kind n.buffer.0 connection) connections) ≡ false
      → (list_any (λ connection. listens n.kind n.buffer.0 connection) connections ≡ false → map (noted_connection n.kind n.buffer.0) connections ≡ map (part_connection w n) connections)
      → noted_connection n.kind n.buffer.0 connection ∷ map (noted_connection n.kind n.buffer.0) connections ≡ part_connection w n connection ∷ map (part_connection w n) connections
  by true e none more = absurd (cc)
  by false e none more = ap (λ s. s ∷ map (noted_connection n.kind n.buffer.0) connections) (told_deaf w n connection e) ∙ ap (λ ss. part_connection w n connection ∷ ss) (more none)

pub all_heard : (event : Spelled) (w : World) (n : Notice) (connections : List Connection) → IsEventOf event w n → map (heard_connection event) connections ≡ map (part_connection w n) connections
all_heard event w n [] is = refl
all_heard event w n (connection ∷ connections) is = ap (λ s. s ∷ map (heard_connection event) connections) (told_heard event w n connection is) ∙ ap (λ ss. part_connection w n connection ∷ ss) (all_heard event w n connections is)

pub served_map : (kind : EventKind) (buffer : ℕ) (service : Connection → Connection) (connections : List Connection) → ConnectionsServed kind buffer service connections (map service connections)
served_map kind buffer service [] = tt
served_map kind buffer service (connection ∷ connections) = (inl refl, served_map kind buffer service connections)

pub served_starved : (kind : EventKind) (buffer : ℕ) (service : Connection → Connection) (connections : List Connection) → ConnectionsServed kind buffer service connections (map (starved_connection kind buffer) connections)
served_starved kind buffer service [] = tt
served_starved kind buffer service (connection ∷ connections) = (inr refl, served_starved kind buffer service connections)

-- where no memory is found for an event, there is nothing else to serve
pub served_starving : (kind : EventKind) (buffer : ℕ) (old new : List Connection) → ConnectionsServed kind buffer (starved_connection kind buffer) old new → new ≡ map (starved_connection kind buffer) old
served_starving kind buffer [] [] served = refl
served_starving kind buffer [] (b ∷ new) served = absurd served
served_starving kind buffer (a ∷ old) [] served = absurd served
served_starving kind buffer (a ∷ old) (b ∷ new) served = ap (λ s. s ∷ new) (one served.0) ∙ ap (λ ss. starved_connection kind buffer a ∷ ss) (served_starving kind buffer old new served.1) where
  one : ConnectionServed kind buffer (starved_connection kind buffer) a b → b ≡ starved_connection kind buffer a
  one (inl e) = e
  one (inr e) = e

-- who was told the event was told the part
pub served_heard : (event : Spelled) (w : World) (n : Notice) (old new : List Connection) → IsEventOf event w n → ConnectionsServed event.kind event.buffer.0 (heard_connection event) old new → ConnectionsServed n.kind n.buffer.0 (part_connection w n) old new
served_heard event w n [] [] is served = tt
served_heard event w n [] (b ∷ new) is served = absurd served
served_heard event w n (a ∷ old) [] is served = absurd served
served_heard event w n (a ∷ old) (b ∷ new) is served = (one served.0, served_heard event w n old new is served.1) where
  starves : starved_connection event.kind event.buffer.0 a ≡ starved_connection n.kind n.buffer.0 a
  starves = ap (λ kind. starved_connection kind event.buffer.0 a) is.kind ∙ ap (λ (buffer : Handle). starved_connection n.kind buffer.0 a) is.buffer

  one : ConnectionServed event.kind event.buffer.0 (heard_connection event) a b → ConnectionServed n.kind n.buffer.0 (part_connection w n) a b
  one (inl e) = inl (e ∙ told_heard event w n a is)
  one (inr e) = inr (e ∙ starves)

-- who is served, or has left for want of memory, is kept
pub served_kept_by : (kind : EventKind) (buffer : ℕ) (service : Connection → Connection) → ((connection : Connection) → ConnectionKept connection (service connection)) → (old new : List Connection) → ConnectionsServed kind buffer service old new → ConnectionsKept old new
served_kept_by kind buffer service keeps [] [] served = tt
served_kept_by kind buffer service keeps [] (b ∷ new) served = absurd served
served_kept_by kind buffer service keeps (a ∷ old) [] served = absurd served
served_kept_by kind buffer service keeps (a ∷ old) (b ∷ new) served = (one served.0, served_kept_by kind buffer service keeps old new served.1) where
  P : Connection → Type 0
  P s = ConnectionKept a s

  one : ConnectionServed kind buffer service a b → ConnectionKept a b
  one (inl e) = subst P (sym e) (keeps a)
  one (inr e) = subst P (sym e) (starved_kept kind buffer a)

pub served_kept : (w : World) (n : Notice) (old new : List Connection) → ConnectionsServed n.kind n.buffer.0 (part_connection w n) old new → ConnectionsKept old new
served_kept w n old new served = served_kept_by n.kind n.buffer.0 (part_connection w n) (told_kept w n) old new served
