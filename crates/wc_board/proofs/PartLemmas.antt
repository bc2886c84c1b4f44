-- The parts of a notice, told one after another, and what they come to.
use Rattle.std.proofs.Common.{◌≡◌, ℕ, Bool, true, false, cond, List, [], ◌∷◌, ◌++◌, Result, Ok, Err, IfOk, append_assoc, append-nil, refl, ap, sym, subst, ◌∙◌}
use Rattle.std.specs.Prelude.{map, filter, fold}
use Rattle.std.specs.List.{flat_map}
use Rattle.std.proofs.lemmas.List.Concat.{flat_map-append}
use Rattle.wc_text.specs.declared.names.Handle.{Handle}
use Rattle.wc_model.specs.declared.notice.EventKind.{EventKind}
use Rattle.wc_model.specs.declared.notice.EventKind.TheVariants.{LineDataChanged, LinesTrimmed}
use Rattle.wc_model.specs.declared.notice.Notice.{Notice}
use Rattle.wc_model.specs.declared.notice.Trim.{Trim}
use Rattle.wc_model.specs.Parts.{has_flips, flag_part, flag_parts, trim_part, parts_of}
use Rattle.wc_model.specs.Order.{order}
use Rattle.wc_model.specs.World.{World}
use Rattle.wc_session.specs.declared.client.Client.{Client}
use Rattle.wc_session.specs.Event.{Spelled, IsEventOf, part_told, parts_told, notice_told}
use Rattle.wc_session.specs.Sending.{spelling}
use Rattle.wc_session.specs.Sync.{after_event}
use Rattle.wc_board.specs.declared.connection.Connection.{Connection}
use Rattle.wc_board.specs.Connections.{is_open}
use Rattle.wc_board.specs.Served.{noted_connection, starved_connection, part_connection, told_connection, is_heard, ConnectionsServed, PartsServed, NoticeServed, ConnectionsKept}
use Rattle.wc_board.proofs.EventLemmas.{all_deaf, served_map, served_kept, served_starved, served_starving}
use Rattle.wc_board.proofs.PushConnections.{spelt, map_more, map_none, ConnectionsKept-refl, ConnectionsKept-trans}

-- ---- one connection

-- a connection once these parts are told
abbrev pub parts_connection : World → List Notice → Connection → Connection
parts_connection w parts connection = fold (λ connection part. part_connection w part connection) connection parts

-- what is known of a client after these parts
abbrev pub after_parts : List Notice → Client → Client
after_parts [] client = client
after_parts (part ∷ parts) client = after_parts parts (after_event part.kind part.buffer.0 client)

-- an open connection of this client, with these bytes after the unsent ones
abbrev with_sent : Connection → Client → List ℕ → Connection
with_sent connection client bytes = record connection { session = record { client = client; unsent = connection.session.unsent ++ bytes } }

abbrev AreParts : World → List Notice → Connection → Type 0
AreParts w parts connection = parts_connection w parts connection
    ≡ cond (is_open connection) (with_sent connection (after_parts parts connection.session.client) (spelt (parts_told w parts connection.session.client))) connection

parts_none : (connection : Connection) → connection ≡ cond (is_open connection) (with_sent connection connection.session.client []) connection
parts_none connection = by (is_open connection) where
  by : (b : Bool) → connection ≡ cond b (with_sent connection connection.session.client []) connection
  by true = ap (λ bytes. record connection { session = record { client = connection.session.client; unsent = bytes } }) (sym (append-nil connection.session.unsent))
  by false = refl

parts_more : (w : World) (part : Notice) (parts : List Notice) (connection : Connection) → ((other : Connection) → AreParts w parts other) → AreParts w (part ∷ parts) connection
parts_more w part parts connection others = by (is_open connection) refl where
  client : Client
  client = after_event part.kind part.buffer.0 connection.session.client

  first : List ℕ
  first = spelt (part_told w part connection.session.client)

  heard : Connection
  heard = with_sent connection client first

  whole : Connection
  whole = with_sent connection (after_parts (part ∷ parts) connection.session.client) (spelt (parts_told w (part ∷ parts) connection.session.client))

  both : with_sent heard (after_parts parts client) (spelt (parts_told w parts client)) ≡ whole
  both =
      ap (λ bytes. record connection { session = record { client = after_parts parts client; unsent = bytes } }) (append_assoc connection.session.unsent first (spelt (parts_told w parts client)))
      ∙ ap (λ bytes. with_sent connection (after_parts parts client) bytes) (sym (flat_map-append (λ m. spelling m) (part_told w part connection.session.client) (parts_told w parts client)))

  by : (b : Bool) → is_open connection ≡ b → parts_connection w parts (cond b heard connection) ≡ cond b whole connection
  by true e = others heard ∙ ap (λ b. cond b (with_sent heard (after_parts parts client) (spelt (parts_told w parts client))) heard) e ∙ both
  by false e = others connection ∙ ap (λ b. cond b (with_sent connection (after_parts parts connection.session.client) (spelt (parts_told w parts connection.session.client))) connection) e

pub parts_are : (w : World) (parts : List Notice) (connection : Connection) → AreParts w parts connection
parts_are w [] connection = parts_none connection
parts_are w (part ∷ parts) connection = parts_more w part parts connection (parts_are w parts)

-- parts after others
after_join : (parts others : List Notice) (client : Client) → after_parts (parts ++ others) client ≡ after_parts others (after_parts parts client)
after_join [] others client = refl
after_join (part ∷ parts) others client = after_join parts others (after_event part.kind part.buffer.0 client)

-- the lines that went change nothing that is known of a client
trims_stay : (trims : List Trim) (client : Client) → after_parts (map trim_part trims) client ≡ client
trims_stay [] client = refl
trims_stay (trim ∷ trims) client = trims_stay trims client

-- nor do those whose flags differ
flags_stay : (w : World) (flips : List Handle) (client : Client) → after_parts (flag_parts w flips) client ≡ client
flags_stay w [] client = refl
flags_stay w (flip ∷ flips) client = of (filter (has_flips w (flip ∷ flips)) (order w.groups)) client where
  of : (buffers : List ℕ) (client : Client) → after_parts (map (flag_part (flip ∷ flips)) buffers) client ≡ client
  of [] client = refl
  of (buffer ∷ buffers) client = of buffers client

-- what is known of a client after a notice is known after its own event
own_stays : (w : World) (n : Notice) (client : Client) → after_parts (flag_parts w n.flips ++ map trim_part n.trims) client ≡ client
own_stays w n client = after_join (flag_parts w n.flips) (map trim_part n.trims) client ∙ trims_stay n.trims (after_parts (flag_parts w n.flips) client) ∙ flags_stay w n.flips client

-- an open connection that was told a notice
abbrev pub told_open : World → Notice → Connection → Connection
told_open w n connection = record connection {
  session = record {
    client = after_event n.kind n.buffer.0 connection.session.client;
    unsent = connection.session.unsent ++ flat_map (λ m. spelling m) (notice_told w n connection.session.client);
  };
}

-- a connection that was told a notice, in one: where it is open, what its client is told is after its
-- unsent bytes
pub told_is : (w : World) (n : Notice) (connection : Connection) → told_connection w n connection ≡ cond (is_open connection) (told_open w n connection) connection
told_is w n connection =
    parts_are w (parts_of w n) connection
    ∙ ap (λ client. cond (is_open connection) (with_sent connection client (spelt (notice_told w n connection.session.client))) connection) (own_stays w n (after_event n.kind n.buffer.0 connection.session.client))

-- ---- all connections

-- they are told a first part, and then the others
pub parts_first : (w : World) (part : Notice) (parts : List Notice) (connections : List Connection) → map (parts_connection w (part ∷ parts)) connections ≡ map (parts_connection w parts) (map (part_connection w part) connections)
parts_first w part parts connections = map_more (parts_connection w (part ∷ parts)) (parts_connection w parts) (part_connection w part) (λ s. refl) connections

pub parts_map : (w : World) (parts : List Notice) (connections : List Connection) → PartsServed w parts connections (map (parts_connection w parts) connections)
parts_map w [] connections = map_none (parts_connection w []) (λ s. refl) connections
parts_map w (part ∷ parts) connections =
    let between = map (part_connection w part) connections in
    record {
      between = between;
      served = served_map part.kind part.buffer.0 (part_connection w part) connections;
      others = subst (PartsServed w parts between) (sym (parts_first w part parts connections)) (parts_map w parts between);
    }

pub notice_map : (w : World) (n : Notice) (connections : List Connection) → NoticeServed w n connections (map (told_connection w n) connections)
notice_map w n connections = parts_map w (parts_of w n) connections

-- who is served each part, or has left for want of memory, is kept
pub parts_kept : (w : World) (parts : List Notice) (old new : List Connection) → PartsServed w parts old new → ConnectionsKept old new
parts_kept w [] old new same = subst (ConnectionsKept old) (sym same) (ConnectionsKept-refl old)
parts_kept w (part ∷ parts) old new served = ConnectionsKept-trans old served.between new (served_kept w part old served.between served.served) (parts_kept w parts served.between new served.others)

pub notice_kept : (w : World) (n : Notice) (old new : List Connection) → NoticeServed w n old new → ConnectionsKept old new
notice_kept w n old new served = parts_kept w (parts_of w n) old new served

as_before : (b : Bool) (connection : Connection) → cond b connection connection ≡ connection
as_before true connection = refl
as_before false connection = refl

-- a client takes note of lines that went, and of those whose flags differ, by their message alone
trim_noted : (buffer : ℕ) (connection : Connection) → noted_connection LinesTrimmed buffer connection ≡ connection
trim_noted buffer connection = as_before (is_open connection) connection

flag_noted : (buffer : ℕ) (connection : Connection) → noted_connection LineDataChanged buffer connection ≡ connection
flag_noted buffer connection = as_before (is_open connection) connection

-- where none hears of them, all are as after it
pub trim_deaf : (w : World) (trim : Trim) (connections : List Connection) → is_heard connections (trim_part trim) ≡ false → connections ≡ map (part_connection w (trim_part trim)) connections
trim_deaf w trim connections deaf = sym (map_none (noted_connection LinesTrimmed trim.buffer.0) (trim_noted trim.buffer.0) connections) ∙ all_deaf w (trim_part trim) connections deaf

pub flag_deaf : (w : World) (flips : List Handle) (buffer : ℕ) (connections : List Connection) → is_heard connections (flag_part flips buffer) ≡ false → connections ≡ map (part_connection w (flag_part flips buffer)) connections
flag_deaf w flips buffer connections deaf = sym (map_none (noted_connection LineDataChanged buffer) (flag_noted buffer) connections) ∙ all_deaf w (flag_part flips buffer) connections deaf

-- where no memory is found for a part, who it is for leaves
pub part_starved : (w : World) (part : Notice) (kind : EventKind) (buffer : Handle) (old new : List Connection) → part.kind ≡ kind → part.buffer ≡ buffer
    → ConnectionsServed kind buffer.0 (starved_connection kind buffer.0) old new → ConnectionsServed part.kind part.buffer.0 (part_connection w part) old new
part_starved w part kind buffer old new what where_it_is served =
    let P : List Connection → Type 0 = λ connections. ConnectionsServed kind buffer.0 (part_connection w part) old connections in
    let Q : EventKind → Type 0 = λ kind. ConnectionsServed kind buffer.0 (part_connection w part) old new in
    let R : Handle → Type 0 = λ buffer. ConnectionsServed part.kind buffer.0 (part_connection w part) old new in
    subst R (sym where_it_is) (subst Q (sym what) (subst P (sym (served_starving kind buffer.0 old new served)) (served_starved kind buffer.0 (part_connection w part) old)))

-- an event that is spelled for each world is spelled for this one
pub spelled_in : {E : Type 0} (spelled : Result Spelled E) (part : Notice) → IfOk spelled (λ event. (w : World) → IsEventOf event w part) → (w : World) → IfOk spelled (λ event. IsEventOf event w part)
spelled_in (Ok event) part is w = is w
spelled_in (Err e) part is w = tt
