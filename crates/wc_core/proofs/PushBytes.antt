-- The bytes that pushes put after the unsent ones of each link are those of the step's messages.
use Rattle.std.proofs.Common.{◌≡◌, ℕ, Bool, true, false, cond, eqb, List, [], ◌∷◌, ◌++◌, append_assoc, append-nil, Option, Some, refl, ap, sym, subst, ◌∙◌}
use Rattle.std.specs.Prelude.{map}
use Rattle.std.specs.List.{flat_map}
use Rattle.wc_text.specs.declared.names.Handle.{Handle}
use Rattle.wc_nicklist.specs.declared.item.Row.{Row}
use Rattle.wc_nickdiff.specs.declared.diff_item.Push.{Push}
use Rattle.wc_model.specs.Order.{order}
use Rattle.wc_model.specs.World.{World}
use Rattle.wc_objects.specs.declared.object.WireMessage.{WireMessage}
use Rattle.wc_session.specs.declared.client.Client.{Client}
use Rattle.wc_session.specs.Event.{push_told}
use Rattle.wc_session.specs.Sending.{spelling}
use Rattle.wc_board.specs.declared.connection.Connection.{Connection}
use Rattle.wc_core.specs.State.{State, Act, told_at}
use Rattle.wc_core.specs.Step.{client_link, sends, pushed_to, push_step}
use Rattle.wc_board.specs.Connections.{connection_link, is_open, unsent_in, unsent_on}
use Rattle.wc_board.specs.Pushes.{push_of, pushes_told, sent_connection, push_connection, pushed_connection}
use Rattle.wc_core.specs.Served.{clients_of, sent_to, Absent, Distinct}
use Rattle.wc_core.proofs.DidLemmas.{sent_to-append}
use Rattle.wc_core.proofs.ConnectionLemmas.{sent-sends, other_link, same_number, kept-bytes}
use Rattle.wc_board.proofs.PushConnections.{pushed_first, pushed_none, map_more, map_none}
use Rattle.wc_outside.specs.Keyed.{at_key}

abbrev spelt : List WireMessage → List ℕ
spelt messages = flat_map (λ m. spelling m) messages

abbrev no_bytes : List ℕ
no_bytes = []

-- messages for each of these clients
abbrev sends_all : (Client → List WireMessage) → List Client → List Act
sends_all f clients = flat_map (λ client. sends (client_link client) (f client)) clients

-- a connection after the messages for its client
abbrev with_messages : (Client → List WireMessage) → Connection → Connection
with_messages f connection = sent_connection (f connection.session.client) connection

-- the same of a connection that is open
abbrev open_with : (Client → List WireMessage) → Connection → Connection
open_with f connection = record connection { session = record connection.session { unsent = connection.session.unsent ++ spelt (f connection.session.client) } }

acts_more : (j : ℕ) (f : Client → List WireMessage) (client : Client) (clients : List Client)
    → sent_to j (sends_all f (client ∷ clients)) ≡ cond (eqb (client_link client) j) (spelt (f client)) no_bytes ++ sent_to j (sends_all f clients)
acts_more j f client clients =
    sent_to-append j (sends (client_link client) (f client)) (sends_all f clients)
    ∙ ap (λ t. t ++ sent_to j (sends_all f clients)) (sent-sends j (client_link client) (f client))

-- a link without a connection is sent nothing
none_absent : (j : ℕ) (f : Client → List WireMessage) (connections : List Connection) → Absent j (map connection_link connections) → sent_to j (sends_all f (clients_of connections)) ≡ []
none_absent j f [] absent = refl
none_absent j f (connection ∷ connections) absent = by (is_open connection) (none_absent j f connections absent.1) where
  by : (b : Bool) → sent_to j (sends_all f (clients_of connections)) ≡ [] → sent_to j (sends_all f (cond b (connection.session.client ∷ clients_of connections) (clients_of connections))) ≡ []
  by true more =
      acts_more j f connection.session.client (clients_of connections)
      ∙ ap (λ t. cond t (spelt (f connection.session.client)) no_bytes ++ sent_to j (sends_all f (clients_of connections))) (other_link (connection_link connection) j absent.0) ∙ more
  by false more = more

open_bytes : (t : Bool) (f : Client → List WireMessage) (connection : Connection) (p q : Option Connection) (others : List ℕ) → (t ≡ true → others ≡ []) → unsent_in p ≡ unsent_in q ++ others
    → unsent_in (cond t (Some (open_with f connection)) p) ≡ unsent_in (cond t (Some connection) q) ++ (cond t (spelt (f connection.session.client)) no_bytes ++ others)
open_bytes true f connection p q others none more =
    ap (λ t. connection.session.unsent ++ t) (sym (append-nil (spelt (f connection.session.client)))) ∙ ap (λ t. connection.session.unsent ++ (spelt (f connection.session.client) ++ t)) (sym (none refl))
open_bytes false f connection p q others none more = more

sent_bytes : (j : ℕ) (f : Client → List WireMessage) (connections : List Connection) → Distinct (map connection_link connections) → unsent_on j (map (with_messages f) connections) ≡ unsent_on j connections ++ sent_to j (sends_all f (clients_of connections))
sent_bytes j f [] distinct = refl
sent_bytes j f (connection ∷ connections) distinct = by (is_open connection) (sent_bytes j f connections distinct.1) where
  none : eqb (connection_link connection) j ≡ true → sent_to j (sends_all f (clients_of connections)) ≡ []
  none e = let P : ℕ → Type 0 = λ n. Absent n (map connection_link connections) in none_absent j f connections (subst P (same_number (connection_link connection) j e) distinct.0)

  by : (b : Bool) → unsent_on j (map (with_messages f) connections) ≡ unsent_on j connections ++ sent_to j (sends_all f (clients_of connections))
      → unsent_in (cond (eqb (connection_link (cond b (open_with f connection) connection)) j) (Some (cond b (open_with f connection) connection)) (at_key connection_link j (map (with_messages f) connections)))
      ≡ unsent_in (cond (eqb (connection_link connection) j) (Some connection) (at_key connection_link j connections)) ++ sent_to j (sends_all f (cond b (connection.session.client ∷ clients_of connections) (clients_of connections)))
  by true more =
      open_bytes (eqb (connection_link connection) j) f connection (at_key connection_link j (map (with_messages f) connections)) (at_key connection_link j connections) (sent_to j (sends_all f (clients_of connections))) none more
      ∙ ap (λ t. unsent_in (cond (eqb (connection_link connection) j) (Some connection) (at_key connection_link j connections)) ++ t) (sym (acts_more j f connection.session.client (clients_of connections)))
  by false more = kept-bytes (eqb (connection_link connection) j) connection (at_key connection_link j (map (with_messages f) connections)) (at_key connection_link j connections) (sent_to j (sends_all f (clients_of connections))) none more

sent_link : (messages : List WireMessage) (connection : Connection) → connection_link (sent_connection messages connection) ≡ connection_link connection
sent_link messages connection = by (is_open connection) where
  by : (b : Bool) → connection_link (cond b (record connection { session = record connection.session { unsent = connection.session.unsent ++ spelt messages } }) connection) ≡ connection_link connection
  by true = refl
  by false = refl

sent_links : (f : Client → List WireMessage) (connections : List Connection) → map connection_link (map (with_messages f) connections) ≡ map connection_link connections
sent_links f [] = refl
sent_links f (connection ∷ connections) = ap (λ k. k ∷ map connection_link (map (with_messages f) connections)) (sent_link (f connection.session.client) connection) ∙ ap (λ ns. connection_link connection ∷ ns) (sent_links f connections)

sent_clients : (f : Client → List WireMessage) (connections : List Connection) → clients_of (map (with_messages f) connections) ≡ clients_of connections
sent_clients f [] = refl
sent_clients f (connection ∷ connections) = by (is_open connection) refl (sent_clients f connections) where
  others : List Client
  others = clients_of (map (with_messages f) connections)

  by : (b : Bool) → is_open connection ≡ b → others ≡ clients_of connections
      → cond (is_open (cond b (open_with f connection) connection)) ((cond b (open_with f connection) connection).session.client ∷ others) others ≡ cond b (connection.session.client ∷ clients_of connections) (clients_of connections)
  by true e more = ap (λ b. cond b (connection.session.client ∷ others) others) e ∙ ap (λ clients. connection.session.client ∷ clients) more
  by false e more = ap (λ b. cond b (connection.session.client ∷ others) others) e ∙ more

-- ---- one buffer after another

-- what is sent to these clients of the pushes of these buffers
abbrev pushed_all : World → (ℕ → List Row) → List Client → List ℕ → List Act
pushed_all w told clients buffers = flat_map (λ b. flat_map (pushed_to (record { 0 = b }) (push_of w b (told b))) clients) buffers

buffer_bytes : (j : ℕ) (w : World) (told : ℕ → List Row) (buffers : List ℕ) (connections : List Connection) → Distinct (map connection_link connections) → unsent_on j (map (pushed_connection w told buffers) connections) ≡ unsent_on j connections ++ sent_to j (pushed_all w told (clients_of connections) buffers)
buffer_bytes j w told [] connections distinct = ap (unsent_on j) (map_none (pushed_connection w told []) (pushed_none w told) connections) ∙ sym (append-nil (unsent_on j connections))
buffer_bytes j w told (b ∷ buffers) connections distinct =
    let buffer : Handle = record { 0 = b } in
    let push : Push = push_of w b (told b) in
    let first : Client → List WireMessage = push_told buffer push in
    let following = map (push_connection buffer push) connections in
    let clients = clients_of connections in
    ap (unsent_on j) (map_more (pushed_connection w told (b ∷ buffers)) (pushed_connection w told buffers) (push_connection buffer push) (pushed_first w told buffer buffers) connections)
    ∙ buffer_bytes j w told buffers following (subst Distinct (sym (sent_links first connections)) distinct)
    ∙ ap (λ cs. unsent_on j following ++ sent_to j (pushed_all w told cs buffers)) (sent_clients first connections)
    ∙ ap (λ bytes. bytes ++ sent_to j (pushed_all w told clients buffers)) (sent_bytes j first connections distinct)
    ∙ append_assoc (unsent_on j connections) (sent_to j (sends_all first clients)) (sent_to j (pushed_all w told clients buffers))
    ∙ ap (λ bytes. unsent_on j connections ++ bytes) (sym (sent_to-append j (sends_all first clients) (pushed_all w told clients buffers)))

pub pushes-sent : (j : ℕ) (state : State) (w : World) (old new : List Connection) → state.world ≡ w → state.clients ≡ clients_of old → Distinct (map connection_link old) → new ≡ map (pushed_connection w (told_at state) (order w.groups)) old
    → unsent_on j new ≡ unsent_on j old ++ sent_to j (push_step state).acts
pushes-sent j state w old new same clients distinct e =
    let told = told_at state in
    ap (unsent_on j) e
    ∙ buffer_bytes j w told (order w.groups) old distinct
    ∙ ap (λ cs. unsent_on j old ++ sent_to j (pushed_all w told cs (order w.groups))) (sym clients)
    ∙ ap (λ (world : World). unsent_on j old ++ sent_to j (pushed_all world told state.clients (order world.groups))) (sym same)

-- pushes change no client
pub pushed-clients : (w : World) (told : ℕ → List Row) (buffers : List ℕ) (connections : List Connection) → clients_of (map (pushed_connection w told buffers) connections) ≡ clients_of connections
pushed-clients w told buffers connections = sent_clients (pushes_told w told buffers) connections
