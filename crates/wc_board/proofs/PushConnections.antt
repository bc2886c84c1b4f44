-- The connections after pushes, and which buffers are there.
use Rattle.std.proofs.Common.{◌≡◌, ℕ, ◌≤◌, zero, suc, drop, Bool, true, false, cond, eqb, ◌||◌, List, [], ◌∷◌, ◌++◌, append_assoc, append-nil, eq-eqb, Some, inl, inr, length, arith, refl, ap, sym, ◌∙◌}
use Rattle.std.specs.Prelude.{map, not}
use Rattle.std.proofs.lemmas.Bool.{false≢true}
use Rattle.std.proofs.lemmas.Bool.Decides.{nat_tests}
use Rattle.std.specs.List.{flat_map}
use Rattle.std.proofs.lemmas.List.Concat.{flat_map-append}
use Rattle.wc_text.specs.declared.names.Handle.{Handle}
use Rattle.wc_text.specs.declared.names.Cause.TheVariants.{NoMemory as Starved}
use Rattle.wc_nicklist.specs.declared.item.Row.{Row}
use Rattle.wc_nicklist.specs.Rows.{IsRows}
use Rattle.wc_nickdiff.specs.declared.diff_item.FirstTouch.{FirstTouch}
use Rattle.wc_nickdiff.specs.Held.{OfBuffer, before_at, touches_of}
use Rattle.wc_nickdiff.proofs.TouchLaw.{untouched_told}
use Rattle.wc_nickdiff.specs.declared.diff_item.Push.{Push}
use Rattle.wc_nickdiff.specs.declared.diff_item.Push.TheVariants.{Nothing, Diff, Full}
use Rattle.wc_buffers.specs.declared.row.BufferEntry.{BufferEntry}
use Rattle.wc_buffers.specs.Calls.{EntryGroups, handle_of}
use Rattle.wc_buffers.specs.Groups.{in_group, has}
use Rattle.wc_buffers.specs.Kept.{handles}
use Rattle.wc_model.specs.declared.notice.EventKind.{EventKind}
use Rattle.wc_model.specs.declared.notice.EventKind.TheVariants.{NicklistDiff}
use Rattle.wc_model.specs.World.{World, rows_at, root_at}
use Rattle.wc_objects.specs.declared.object.WireMessage.{WireMessage}
use Rattle.wc_events.specs.NickObjects.{push_kind}
use Rattle.wc_session.specs.declared.client.Client.{Client}
use Rattle.wc_session.specs.Known.{Known}
use Rattle.wc_session.specs.Event.{Spelled, IsPushOf, IsPushKind, with_event, push_messages, push_told}
use Rattle.wc_session.specs.Sending.{spelling}
use Rattle.wc_session.specs.Sync.{follows, after_event}
use Rattle.wc_board.specs.declared.connection.Connection.{Connection}
use Rattle.wc_board.specs.Pushes.{push_of, pushes_told, sent_connection, push_connection, pushed_connection, AreThere}
use Rattle.wc_board.specs.Connections.{client_of, is_open}
use Rattle.wc_board.specs.Told.{WasTold}
use Rattle.wc_board.specs.Served.{listens, heard_connection, starved_connection, ConnectionServed, ConnectionsServed, ConnectionKept, ConnectionsKept}
use Rattle.wc_board.proofs.EventLemmas.{starved_kept, served_kept_by}
use Rattle.wc_board.proofs.NickPushes.{push_same}
use Rattle.wc_board.proofs.ConnectionLemmas.{ConnectionKept-refl}

abbrev pub spelt : List WireMessage → List ℕ
spelt messages = flat_map (λ m. spelling m) messages

-- a connection with these unsent bytes
abbrev pub put_bytes : Connection → List ℕ → Connection
put_bytes connection bytes = record connection { session = record connection.session { unsent = bytes } }

pub sent_none : (connection : Connection) → sent_connection [] connection ≡ connection
sent_none connection = by (is_open connection) where
  by : (b : Bool) → cond b (put_bytes connection (connection.session.unsent ++ [])) connection ≡ connection
  by true = ap (put_bytes connection) (append-nil connection.session.unsent)
  by false = refl

sent_more : (ms ns : List WireMessage) (connection : Connection) → sent_connection (ms ++ ns) connection ≡ sent_connection ns (sent_connection ms connection)
sent_more ms ns connection = by (is_open connection) refl where
  by : (b : Bool) → is_open connection ≡ b → cond b (put_bytes connection (connection.session.unsent ++ spelt (ms ++ ns))) connection ≡ sent_connection ns (cond b (put_bytes connection (connection.session.unsent ++ spelt ms)) connection)
  by true e =
      ap (λ t. put_bytes connection (connection.session.unsent ++ t)) (flat_map-append (λ m. spelling m) ms ns)
      ∙ ap (put_bytes connection) (sym (append_assoc connection.session.unsent (spelt ms) (spelt ns)))
      ∙ ap (λ b. cond b (put_bytes connection ((connection.session.unsent ++ spelt ms) ++ spelt ns)) (put_bytes connection (connection.session.unsent ++ spelt ms))) (sym e)
  by false e = ap (λ b. cond b (put_bytes connection (connection.session.unsent ++ spelt ns)) connection) (sym e)

pub sent_client : (ms : List WireMessage) (connection : Connection) → (sent_connection ms connection).session.client ≡ connection.session.client
sent_client ms connection = by (is_open connection) where
  by : (b : Bool) → (cond b (put_bytes connection (connection.session.unsent ++ spelt ms)) connection).session.client ≡ connection.session.client
  by true = refl
  by false = refl

pub pushed_first : (w : World) (told : ℕ → List Row) (b : Handle) (ns : List ℕ) (connection : Connection) → pushed_connection w told (b.0 ∷ ns) connection ≡ pushed_connection w told ns (push_connection b (push_of w b.0 (told b.0)) connection)
pushed_first w told b ns connection =
    let first = push_told b (push_of w b.0 (told b.0)) connection.session.client in
    sent_more first (pushes_told w told ns connection.session.client) connection
    ∙ ap (λ client. sent_connection (pushes_told w told ns client) (sent_connection first connection)) (sym (sent_client first connection))

pub pushed_more : (w : World) (told : ℕ → List Row) (ms ns : List ℕ) (connection : Connection) → pushed_connection w told (ms ++ ns) connection ≡ pushed_connection w told ns (pushed_connection w told ms connection)
pushed_more w told ms ns connection =
    let first = pushes_told w told ms connection.session.client in
    ap (λ messages. sent_connection messages connection) (flat_map-append (λ b. push_told (record { 0 = b }) (push_of w b (told b)) connection.session.client) ms ns)
    ∙ sent_more first (pushes_told w told ns connection.session.client) connection
    ∙ ap (λ client. sent_connection (pushes_told w told ns client) (sent_connection first connection)) (sym (sent_client first connection))

pub map_more : (f g h : Connection → Connection) → ((s : Connection) → f s ≡ g (h s)) → (connections : List Connection) → map f connections ≡ map g (map h connections)
map_more f g h e [] = refl
map_more f g h e (s ∷ connections) = ap (λ x. x ∷ map f connections) (e s) ∙ ap (λ xs. g (h s) ∷ xs) (map_more f g h e connections)

pub map_none : (f : Connection → Connection) → ((s : Connection) → f s ≡ s) → (connections : List Connection) → map f connections ≡ connections
map_none f e [] = refl
map_none f e (s ∷ connections) = ap (λ x. x ∷ map f connections) (e s) ∙ ap (λ xs. s ∷ xs) (map_none f e connections)

pub push_none : (b : Handle) (connection : Connection) → push_connection b Nothing connection ≡ connection
unfolding push_told
push_none b connection = sent_none connection

pub pushed_none : (w : World) (told : ℕ → List Row) (connection : Connection) → pushed_connection w told [] connection ≡ connection
pushed_none w told connection = sent_none connection

same_number : (m n : ℕ) → eqb m n ≡ true → m ≡ n
same_number m n e = grind (arith, nat_tests)

-- none are held, where a test says so
pub no_touches : (n : ℕ) (ts : List FirstTouch) → n ≡ length ts → not (eqb n 0) ≡ false → ts ≡ []
no_touches n [] e test = refl
no_touches n (t ∷ ts) e test = by (eqb n 0) refl test where
  by : (b : Bool) → eqb n 0 ≡ b → not b ≡ false → t ∷ ts ≡ []
  by true q test = let none : n ≡ 0 = same_number n 0 q in absurd (omega (arith, e, none))
  by false q test = absurd (false≢true (sym test))

-- of a buffer of which nothing was touched nothing is pushed
pub untouched_push : (w : World) (pending : List OfBuffer) (b : Handle) (told : List Row) (connections : List Connection) → IsRows (rows_at w b.0) → touches_of b pending ≡ [] → WasTold w pending b told → connections ≡ map (push_connection b (push_of w b.0 told)) connections
untouched_push w pending b told connections ok none was =
    let same : told ≡ rows_at w b.0 = untouched_told (λ k. before_at k (touches_of b pending)) (rows_at w b.0) told ok (λ k. ap (before_at k) none) was in
    let nothing : push_of w b.0 told ≡ Nothing = ap (push_of w b.0) same ∙ push_same (root_at b.0) (rows_at w b.0) ok in
    sym (ap (λ push. map (push_connection b push) connections) nothing ∙ map_none (push_connection b Nothing) (push_none b) connections)

-- ---- the event of a push

-- no client forgets anything at a push
pub heard_push : (push : Push) (b : ℕ) (client : Client) → after_event (push_kind push) b client ≡ client
heard_push Nothing b client = refl
heard_push (Diff items) b client = refl
heard_push (Full items) b client = refl

spelt_told : (b : Handle) (push : Push) (client : Client) → spelt (push_told b push client) ≡ cond (follows (push_kind push) b.0 client) (spelt (push_messages b push)) []
unfolding push_told
spelt_told b push client = by (follows (push_kind push) b.0 client) where
  by : (t : Bool) → spelt (cond t (push_messages b push) []) ≡ cond t (spelt (push_messages b push)) []
  by true = refl
  by false = refl

pub push_heard : (event : Spelled) (b : Handle) (push : Push) (connection : Connection) → IsPushOf event b push → heard_connection event connection ≡ push_connection b push connection
push_heard event b push connection is = by (is_open connection) where
  bytes : (client : Client) → cond (follows event.kind event.buffer.0 client) event.bytes [] ≡ spelt (push_told b push client)
  bytes client =
      ap (λ kind. cond (follows kind event.buffer.0 client) event.bytes []) is.kind
      ∙ ap (λ (buffer : Handle). cond (follows (push_kind push) buffer.0 client) event.bytes []) is.buffer
      ∙ ap (λ bytes. cond (follows (push_kind push) b.0 client) bytes []) is.bytes.bytes ∙ sym (spelt_told b push client)

  hears : after_event event.kind event.buffer.0 connection.session.client ≡ connection.session.client
  hears = ap (λ kind. after_event kind event.buffer.0 connection.session.client) is.kind ∙ heard_push push event.buffer.0 connection.session.client

  sent : with_event event connection.session ≡ record connection.session { unsent = connection.session.unsent ++ spelt (push_told b push connection.session.client) }
  sent =
      let known : Client → List ℕ → Known = λ client unsent. record { client = client; unsent = unsent } in
      ap (λ client. known client (with_event event connection.session).unsent) hears
      ∙ ap (λ bytes. known connection.session.client (connection.session.unsent ++ bytes)) (bytes connection.session.client)

  by : (t : Bool) → cond t (record connection { session = with_event event connection.session }) connection ≡ cond t (put_bytes connection (connection.session.unsent ++ spelt (push_told b push connection.session.client))) connection
  by true = ap (λ session. record connection { session = session }) sent
  by false = refl

pub all_pushed : (event : Spelled) (b : Handle) (push : Push) (connections : List Connection) → IsPushOf event b push → map (heard_connection event) connections ≡ map (push_connection b push) connections
all_pushed event b push [] is = refl
all_pushed event b push (connection ∷ connections) is = ap (λ s. s ∷ map (heard_connection event) connections) (push_heard event b push connection is) ∙ ap (λ ss. push_connection b push connection ∷ ss) (all_pushed event b push connections is)

heard_kept : (event : Spelled) (connection : Connection) → ConnectionKept connection (heard_connection event connection)
heard_kept event connection = by (is_open connection) refl where
  by : (b : Bool) → is_open connection ≡ b → ConnectionKept connection (cond b (record connection { session = with_event event connection.session }) connection)
  by true e = record { link = refl; kept = λ shut. absurd (cc); cause = inl refl }
  by false e = ConnectionKept-refl connection

-- who is served an event is kept
pub event_kept : (event : Spelled) (old new : List Connection) → ConnectionsServed event.kind event.buffer.0 (heard_connection event) old new → ConnectionsKept old new
event_kept event old new served = served_kept_by event.kind event.buffer.0 (heard_connection event) (heard_kept event) old new served

-- ---- the clients of the connections

-- an event of this kind changes no client
abbrev Forgets : EventKind → Type 0
Forgets kind = (buffer : ℕ) (client : Client) → after_event kind buffer client ≡ client

push_forgets : (kind : EventKind) → IsPushKind kind → Forgets kind
push_forgets kind is buffer client = ap (λ kind. after_event kind buffer client) is.same ∙ heard_push is.push buffer client

heard_client : (event : Spelled) (connection : Connection) → Forgets event.kind → client_of (heard_connection event connection) ≡ client_of connection
heard_client event connection none = by (is_open connection) where
  by : (t : Bool) → client_of (cond t (record connection { session = with_event event connection.session }) connection) ≡ client_of connection
  by true = none event.buffer.0 connection.session.client
  by false = refl

starved_client : (kind : EventKind) (buffer : ℕ) (connection : Connection) → Forgets kind → client_of (starved_connection kind buffer connection) ≡ client_of connection
starved_client kind buffer connection none = by (listens kind buffer connection) (is_open connection) where
  by : (s t : Bool) → client_of (cond s (record connection { leaving = Some Starved }) (cond t (record connection { session = record connection.session { client = after_event kind buffer connection.session.client } }) connection)) ≡ client_of connection
  by true t = refl
  by false true = none buffer connection.session.client
  by false false = refl

-- who is served a push stays the client that it is
pub served_clients : (event : Spelled) (old new : List Connection) → IsPushKind event.kind → ConnectionsServed event.kind event.buffer.0 (heard_connection event) old new → map client_of new ≡ map client_of old
served_clients event [] [] is served = refl
served_clients event [] (b ∷ new) is served = absurd served
served_clients event (a ∷ old) [] is served = absurd served
served_clients event (a ∷ old) (b ∷ new) is served = ap (λ client. client ∷ map client_of new) (one served.0) ∙ ap (λ clients. client_of a ∷ clients) (served_clients event old new is served.1) where
  one : ConnectionServed event.kind event.buffer.0 (heard_connection event) a b → client_of b ≡ client_of a
  one (inl e) = ap client_of e ∙ heard_client event a (push_forgets event.kind is)
  one (inr e) = ap client_of e ∙ starved_client event.kind event.buffer.0 a (push_forgets event.kind is)

-- and so does who finds no memory for one
pub starved_clients : (buffer : ℕ) (connections : List Connection) → map client_of (map (starved_connection NicklistDiff buffer) connections) ≡ map client_of connections
starved_clients buffer [] = refl
starved_clients buffer (a ∷ connections) = ap (λ client. client ∷ map client_of (map (starved_connection NicklistDiff buffer) connections)) (starved_client NicklistDiff buffer a (λ b client. refl)) ∙ ap (λ clients. client_of a ∷ clients) (starved_clients buffer connections)

-- ---- connections that are kept

pub ConnectionsKept-refl : (connections : List Connection) → ConnectionsKept connections connections
ConnectionsKept-refl [] = tt
ConnectionsKept-refl (connection ∷ connections) = (ConnectionKept-refl connection, ConnectionsKept-refl connections)

kept_open : (a b : Connection) → ConnectionKept a b → is_open a ≡ false → is_open b ≡ false
kept_open a b k shut = ap is_open (k.kept shut) ∙ shut

ConnectionKept-trans : (a b c : Connection) → ConnectionKept a b → ConnectionKept b c → ConnectionKept a c
ConnectionKept-trans a b c k l = record {
  link = l.link ∙ k.link;
  kept = λ shut. l.kept (kept_open a b k shut) ∙ k.kept shut;
  cause = elim l.cause [
    | inl same ↦ elim k.cause [ inl e ↦ inl (same ∙ e) | inr e ↦ inr (same ∙ e) ]
    | inr starves ↦ inr starves
  ];
}

pub ConnectionsKept-trans : (old mid new : List Connection) → ConnectionsKept old mid → ConnectionsKept mid new → ConnectionsKept old new
ConnectionsKept-trans [] [] [] k l = tt
ConnectionsKept-trans [] [] (c ∷ new) k l = absurd l
ConnectionsKept-trans [] (b ∷ mid) new k l = absurd k
ConnectionsKept-trans (a ∷ old) [] new k l = absurd k
ConnectionsKept-trans (a ∷ old) (b ∷ mid) [] k l = absurd l
ConnectionsKept-trans (a ∷ old) (b ∷ mid) (c ∷ new) k l = (ConnectionKept-trans a b c k.0 l.0, ConnectionsKept-trans old mid new k.1 l.1)

pub starved_all : (kind : EventKind) (buffer : ℕ) (connections : List Connection) → ConnectionsKept connections (map (starved_connection kind buffer) connections)
starved_all kind buffer [] = tt
starved_all kind buffer (connection ∷ connections) = (starved_kept kind buffer connection, starved_all kind buffer connections)

-- ---- the buffers of all groups are there

-- these groups hold buffers that are there
abbrev pub AllThere : World → List (List Handle) → Type 0
AllThere world [] = Unit {0}
AllThere world (group ∷ groups) = AreThere world group × AllThere world groups

or_true : (b : Bool) → (b || true) ≡ true
or_true true = refl
or_true false = refl

entries_there : (w : World) (es : List BufferEntry) → ((h : ℕ) → in_group handle_of h es ≡ true → has handle_of h w.groups ≡ true) → AreThere w (map (λ (e : BufferEntry). e.row.handle) es)
entries_there w [] among = tt
entries_there w (e ∷ es) among =
    (among (handle_of e) (ap (λ b. b || in_group handle_of (handle_of e) es) (eq-eqb (handle_of e) (handle_of e) refl)), entries_there w es (λ h there. among h (ap (λ b. eqb (handle_of e) h || b) there ∙ or_true (eqb (handle_of e) h))))

groups_there : (w : World) (gs : EntryGroups) → ((h : ℕ) → has handle_of h gs ≡ true → has handle_of h w.groups ≡ true) → AllThere w (handles gs)
groups_there w [] among = tt
groups_there w (g ∷ gs) among =
    (entries_there w g (λ h there. among h (ap (λ b. b || has handle_of h gs) there)), groups_there w gs (λ h there. among h (ap (λ b. in_group handle_of h g || b) there ∙ or_true (in_group handle_of h g))))

pub all_there : (w : World) → AllThere w (handles w.groups)
all_there w = groups_there w w.groups (λ h there. there)

-- ---- the end of a list

abbrev empty : List Handle
empty = []

pub drop_end : (i : ℕ) (hs : List Handle) → length hs ≤ i → drop i hs ≡ []
drop_end i [] e = drop_empty i where
  drop_empty : (i : ℕ) → drop i empty ≡ empty
  drop_empty zero = refl
  drop_empty (suc i) = refl
drop_end zero (h ∷ hs) e = absurd (omega (arith, e))
drop_end (suc i) (h ∷ hs) e = drop_end i hs (omega (arith, e))
