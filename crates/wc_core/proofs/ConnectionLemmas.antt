-- Connections, and the clients that sit on them.
use Rattle.std.proofs.Common.{◌≡◌, ℕ, Bool, true, false, cond, eqb, List, [], ◌∷◌, ◌++◌, Option, Some, None, IsSome, refl, ap, sym, subst, ◌∙◌, arith, suc, length, filter, append-nil}
use Rattle.std.specs.Prelude.{map, not}
use Rattle.std.specs.List.{flat_map}
use Rattle.std.proofs.lemmas.Bool.{false≢true}
use Rattle.std.proofs.lemmas.Bool.Decides.{nat_tests}
use Rattle.wc_text.specs.declared.names.Cause.{Cause}
use Rattle.wc_outside.specs.Keyed.{at_key, put_at, without}
use Rattle.wc_objects.specs.declared.object.WireMessage.{WireMessage}
use Rattle.wc_session.specs.declared.client.Client.{Client}
use Rattle.wc_session.specs.Known.{Known}
use Rattle.wc_model.specs.declared.notice.Notice.{Notice}
use Rattle.wc_model.specs.World.{World}
use Rattle.wc_session.specs.Event.{notice_told}
use Rattle.wc_session.specs.Sync.{after_event}
use Rattle.wc_session.specs.Sending.{spelling}
use Rattle.wc_board.specs.declared.connection.Connection.{Connection}
use Rattle.wc_core.specs.State.{Act, has_end}
use Rattle.wc_core.specs.Step.{client_link, sends, told_to}
use Rattle.wc_board.specs.Connections.{connection_link, is_open, unsent_in, unsent_on, leaving_in, leaving_on}
use Rattle.wc_board.specs.Served.{told_connection}
use Rattle.wc_board.proofs.PartLemmas.{told_open, told_is}
use Rattle.wc_core.specs.Served.{clients_of, sent_to, close_of, outs_of, Absent, Distinct}
use Rattle.wc_core.proofs.DidLemmas.{sent_to-append, close_of-append, outs_of-append, has_end-append}

-- ---- messages for one client

abbrev no_bytes : List ℕ
no_bytes = []

either_none : (t : Bool) → no_bytes ≡ cond t no_bytes no_bytes
either_none true = refl
either_none false = refl

pub sent-sends : (j k : ℕ) (messages : List WireMessage) → sent_to j (sends k messages) ≡ cond (eqb k j) (flat_map (λ m. spelling m) messages) no_bytes
sent-sends j k [] = either_none (eqb k j)
sent-sends j k (m ∷ messages) = by (eqb k j) (sent-sends j k messages) where
  by : (t : Bool) → sent_to j (sends k messages) ≡ cond t (flat_map (λ m. spelling m) messages) no_bytes
      → cond t (spelling m) no_bytes ++ sent_to j (sends k messages) ≡ cond t (spelling m ++ flat_map (λ m. spelling m) messages) no_bytes
  by true more = ap (λ t. spelling m ++ t) more
  by false more = more

pub close-sends : (j k : ℕ) (messages : List WireMessage) → close_of j (sends k messages) ≡ None
close-sends j k [] = refl
close-sends j k (m ∷ messages) = close-sends j k messages

pub outs-sends : (k : ℕ) (messages : List WireMessage) → outs_of (sends k messages) ≡ []
outs-sends k [] = refl
outs-sends k (m ∷ messages) = outs-sends k messages

pub end-sends : (k : ℕ) (messages : List WireMessage) → has_end (sends k messages) ≡ false
end-sends k [] = refl
end-sends k (m ∷ messages) = end-sends k messages

-- ---- a notice that is told to all

abbrev told_acts : World → Notice → List Connection → List Act
told_acts w n connections = flat_map (told_to w n) (clients_of connections)

pub close-told : (j : ℕ) (w : World) (n : Notice) (clients : List Client) → close_of j (flat_map (told_to w n) clients) ≡ None
close-told j w n [] = refl
close-told j w n (client ∷ clients) =
    close_of-append j (told_to w n client) (flat_map (told_to w n) clients) ∙ rw (close-sends j (client_link client) (notice_told w n client)) (close-told j w n clients)

pub outs-told : (w : World) (n : Notice) (clients : List Client) → outs_of (flat_map (told_to w n) clients) ≡ []
outs-told w n [] = refl
outs-told w n (client ∷ clients) =
    outs_of-append (told_to w n client) (flat_map (told_to w n) clients) ∙ rw (outs-sends (client_link client) (notice_told w n client)) (outs-told w n clients)

pub end-told : (w : World) (n : Notice) (clients : List Client) → has_end (flat_map (told_to w n) clients) ≡ false
end-told w n [] = refl
end-told w n (client ∷ clients) =
    has_end-append (told_to w n client) (flat_map (told_to w n) clients) ∙ rw (end-sends (client_link client) (notice_told w n client)) (end-told w n clients)

pub other_link : (n j : ℕ) → (n ≡ j → ⊥) → eqb n j ≡ false
other_link n j ne = by (eqb n j) refl where
  by : (t : Bool) → eqb n j ≡ t → t ≡ false
  by true e = let same : n ≡ j = grind (arith, nat_tests) in absurd (ne same)
  by false e = refl

-- a connection that was told a notice, all of it at once
abbrev told_at_once : World → Notice → Connection → Connection
told_at_once w n connection = cond (is_open connection) (told_open w n connection) connection

abbrev told_text : World → Notice → Connection → List ℕ
told_text w n connection = flat_map (λ m. spelling m) (notice_told w n connection.session.client)

acts_more : (j : ℕ) (w : World) (n : Notice) (connection : Connection) (clients : List Client)
    → sent_to j (flat_map (told_to w n) (connection.session.client ∷ clients)) ≡ cond (eqb (connection_link connection) j) (told_text w n connection) no_bytes ++ sent_to j (flat_map (told_to w n) clients)
acts_more j w n connection clients =
    sent_to-append j (told_to w n connection.session.client) (flat_map (told_to w n) clients)
    ∙ ap (λ t. t ++ sent_to j (flat_map (told_to w n) clients)) (sent-sends j (connection_link connection) (notice_told w n connection.session.client))

-- a link without a connection is told nothing
sent-absent : (j : ℕ) (w : World) (n : Notice) (connections : List Connection) → Absent j (map connection_link connections) → sent_to j (told_acts w n connections) ≡ []
sent-absent j w n [] absent = refl
sent-absent j w n (connection ∷ connections) absent = by (is_open connection) (sent-absent j w n connections absent.1) where
  by : (b : Bool) → sent_to j (told_acts w n connections) ≡ [] → sent_to j (flat_map (told_to w n) (cond b (connection.session.client ∷ clients_of connections) (clients_of connections))) ≡ []
  by true more = acts_more j w n connection (clients_of connections) ∙ ap (λ t. cond t (told_text w n connection) no_bytes ++ sent_to j (told_acts w n connections)) (other_link (connection_link connection) j absent.0) ∙ more
  by false more = more

told_at_once-clients : (w : World) (n : Notice) (connections : List Connection) → clients_of (map (told_at_once w n) connections) ≡ map (after_event n.kind n.buffer.0) (clients_of connections)
told_at_once-clients w n [] = refl
told_at_once-clients w n (connection ∷ connections) = by (is_open connection) refl (told_at_once-clients w n connections) where
  others : List Client
  others = clients_of (map (told_at_once w n) connections)

  by : (b : Bool) → is_open connection ≡ b → others ≡ map (after_event n.kind n.buffer.0) (clients_of connections)
      → cond (is_open (cond b (told_open w n connection) connection)) ((cond b (told_open w n connection) connection).session.client ∷ others) others
      ≡ map (after_event n.kind n.buffer.0) (cond b (connection.session.client ∷ clients_of connections) (clients_of connections))
  by true e more = ap (λ b. cond b (after_event n.kind n.buffer.0 connection.session.client ∷ others) others) e ∙ ap (λ clients. after_event n.kind n.buffer.0 connection.session.client ∷ clients) more
  by false e more = ap (λ b. cond b (connection.session.client ∷ others) others) e ∙ more

same-leaving : (t : Bool) (x y : Connection) (p q : Option Connection) → x.leaving ≡ y.leaving → leaving_in p ≡ leaving_in q → leaving_in (cond t (Some x) p) ≡ leaving_in (cond t (Some y) q)
same-leaving true x y p q e more = e
same-leaving false x y p q e more = more

told_at_once-leaving : (j : ℕ) (w : World) (n : Notice) (connections : List Connection) → leaving_on j (map (told_at_once w n) connections) ≡ leaving_on j connections
told_at_once-leaving j w n [] = refl
told_at_once-leaving j w n (connection ∷ connections) = by (is_open connection) (told_at_once-leaving j w n connections) where
  by : (b : Bool) → leaving_on j (map (told_at_once w n) connections) ≡ leaving_on j connections
      → leaving_in (cond (eqb (connection_link (cond b (told_open w n connection) connection)) j) (Some (cond b (told_open w n connection) connection)) (at_key connection_link j (map (told_at_once w n) connections)))
      ≡ leaving_in (cond (eqb (connection_link connection) j) (Some connection) (at_key connection_link j connections))
  by true more = same-leaving (eqb (connection_link connection) j) (told_open w n connection) connection (at_key connection_link j (map (told_at_once w n) connections)) (at_key connection_link j connections) refl more
  by false more = same-leaving (eqb (connection_link connection) j) connection connection (at_key connection_link j (map (told_at_once w n) connections)) (at_key connection_link j connections) refl more

heard-bytes : (t : Bool) (w : World) (n : Notice) (connection : Connection) (p q : Option Connection) (others : List ℕ) → (t ≡ true → others ≡ []) → unsent_in p ≡ unsent_in q ++ others
    → unsent_in (cond t (Some (told_open w n connection)) p) ≡ unsent_in (cond t (Some connection) q) ++ (cond t (told_text w n connection) no_bytes ++ others)
heard-bytes true w n connection p q others none more =
    ap (λ t. connection.session.unsent ++ t) (sym (append-nil (told_text w n connection))) ∙ ap (λ t. connection.session.unsent ++ (told_text w n connection ++ t)) (sym (none refl))
heard-bytes false w n connection p q others none more = more

pub kept-bytes : (t : Bool) (connection : Connection) (p q : Option Connection) (others : List ℕ) → (t ≡ true → others ≡ []) → unsent_in p ≡ unsent_in q ++ others
    → unsent_in (cond t (Some connection) p) ≡ unsent_in (cond t (Some connection) q) ++ others
kept-bytes true connection p q others none more = sym (append-nil connection.session.unsent) ∙ ap (λ t. connection.session.unsent ++ t) (sym (none refl))
kept-bytes false connection p q others none more = more

pub same_number : (n j : ℕ) → eqb n j ≡ true → n ≡ j
same_number n j e = grind (arith, nat_tests)

told_at_once-bytes : (j : ℕ) (w : World) (n : Notice) (connections : List Connection) → Distinct (map connection_link connections) → unsent_on j (map (told_at_once w n) connections) ≡ unsent_on j connections ++ sent_to j (told_acts w n connections)
told_at_once-bytes j w n [] distinct = refl
told_at_once-bytes j w n (connection ∷ connections) distinct = by (is_open connection) (told_at_once-bytes j w n connections distinct.1) where
  none : eqb (connection_link connection) j ≡ true → sent_to j (told_acts w n connections) ≡ []
  none e = let P : ℕ → Type 0 = λ n. Absent n (map connection_link connections) in sent-absent j w n connections (subst P (same_number (connection_link connection) j e) distinct.0)

  by : (b : Bool) → unsent_on j (map (told_at_once w n) connections) ≡ unsent_on j connections ++ sent_to j (told_acts w n connections)
      → unsent_in (cond (eqb (connection_link (cond b (told_open w n connection) connection)) j) (Some (cond b (told_open w n connection) connection)) (at_key connection_link j (map (told_at_once w n) connections)))
      ≡ unsent_in (cond (eqb (connection_link connection) j) (Some connection) (at_key connection_link j connections)) ++ sent_to j (flat_map (told_to w n) (cond b (connection.session.client ∷ clients_of connections) (clients_of connections)))
  by true more =
      heard-bytes (eqb (connection_link connection) j) w n connection (at_key connection_link j (map (told_at_once w n) connections)) (at_key connection_link j connections) (sent_to j (told_acts w n connections)) none more
      ∙ ap (λ t. unsent_in (cond (eqb (connection_link connection) j) (Some connection) (at_key connection_link j connections)) ++ t) (sym (acts_more j w n connection (clients_of connections)))
  by false more = kept-bytes (eqb (connection_link connection) j) connection (at_key connection_link j (map (told_at_once w n) connections)) (at_key connection_link j connections) (sent_to j (told_acts w n connections)) none more

told-all_at_once : (w : World) (n : Notice) (connections : List Connection) → map (told_connection w n) connections ≡ map (told_at_once w n) connections
told-all_at_once w n [] = refl
told-all_at_once w n (connection ∷ connections) = ap (λ s. s ∷ map (told_connection w n) connections) (told_is w n connection) ∙ ap (λ ss. told_at_once w n connection ∷ ss) (told-all_at_once w n connections)

pub told-clients : (w : World) (n : Notice) (connections : List Connection) → clients_of (map (told_connection w n) connections) ≡ map (after_event n.kind n.buffer.0) (clients_of connections)
told-clients w n connections = ap clients_of (told-all_at_once w n connections) ∙ told_at_once-clients w n connections

pub told-leaving : (j : ℕ) (w : World) (n : Notice) (connections : List Connection) → leaving_on j (map (told_connection w n) connections) ≡ leaving_on j connections
told-leaving j w n connections = ap (leaving_on j) (told-all_at_once w n connections) ∙ told_at_once-leaving j w n connections

pub told-bytes : (j : ℕ) (w : World) (n : Notice) (connections : List Connection) → Distinct (map connection_link connections) → unsent_on j (map (told_connection w n) connections) ≡ unsent_on j connections ++ sent_to j (told_acts w n connections)
told-bytes j w n connections distinct = ap (unsent_on j) (told-all_at_once w n connections) ∙ told_at_once-bytes j w n connections distinct

-- ---- the client of a link

pub absent-connection : (k : ℕ) (connections : List Connection) → Absent k (map connection_link connections) → at_key connection_link k connections ≡ None
absent-connection k [] absent = refl
absent-connection k (connection ∷ connections) absent = rw (other_link (connection_link connection) k absent.0) (absent-connection k connections absent.1)

pub absent-client : (k : ℕ) (connections : List Connection) → Absent k (map connection_link connections) → at_key client_link k (clients_of connections) ≡ None
absent-client k [] absent = refl
absent-client k (connection ∷ connections) absent = by (is_open connection) (absent-client k connections absent.1) where
  by : (b : Bool) → at_key client_link k (clients_of connections) ≡ None → at_key client_link k (cond b (connection.session.client ∷ clients_of connections) (clients_of connections)) ≡ None
  by true more = ap (λ t. cond t (Some connection.session.client) (at_key client_link k (clients_of connections))) (other_link (connection_link connection) k absent.0) ∙ more
  by false more = more

absent-without : (k : ℕ) (connections : List Connection) → Absent k (map connection_link connections) → without client_link k (clients_of connections) ≡ clients_of connections
absent-without k [] absent = refl
absent-without k (connection ∷ connections) absent = by (is_open connection) (absent-without k connections absent.1) where
  by : (b : Bool) → without client_link k (clients_of connections) ≡ clients_of connections → without client_link k (cond b (connection.session.client ∷ clients_of connections) (clients_of connections)) ≡ cond b (connection.session.client ∷ clients_of connections) (clients_of connections)
  by true more = ap (λ t. cond (not t) (connection.session.client ∷ without client_link k (clients_of connections)) (without client_link k (clients_of connections))) (other_link (connection_link connection) k absent.0) ∙ ap (λ clients. connection.session.client ∷ clients) more
  by false more = more

some_same : (x y : Connection) → Some x ≡ Some y → x ≡ y
some_same x y e = cc

-- the client of a link, where it is open
pub client-open : (k : ℕ) (connections : List Connection) (connection : Connection) → at_key connection_link k connections ≡ Some connection → is_open connection ≡ true → at_key client_link k (clients_of connections) ≡ Some connection.session.client
client-open k [] connection at sits = absurd (cc)
client-open k (x ∷ connections) connection at sits = by (is_open x) (eqb (connection_link x) k) refl refl (λ a. client-open k connections connection a sits) at where
  by : (b t : Bool) → is_open x ≡ b → eqb (connection_link x) k ≡ t → (at_key connection_link k connections ≡ Some connection → at_key client_link k (clients_of connections) ≡ Some connection.session.client) → cond t (Some x) (at_key connection_link k connections) ≡ Some connection
      → at_key client_link k (cond b (x.session.client ∷ clients_of connections) (clients_of connections)) ≡ Some connection.session.client
  by true true e q more a = ap (λ t. cond t (Some x.session.client) (at_key client_link k (clients_of connections))) q ∙ ap (λ (s : Connection). Some s.session.client) (some_same x connection a)
  by true false e q more a = ap (λ t. cond t (Some x.session.client) (at_key client_link k (clients_of connections))) q ∙ more a
  by false true e q more a = absurd (false≢true (sym e ∙ ap is_open (some_same x connection a) ∙ sits))
  by false false e q more a = more a

pub client-missing : (k : ℕ) (connections : List Connection) → at_key connection_link k connections ≡ None → at_key client_link k (clients_of connections) ≡ None
client-missing k [] at = refl
client-missing k (x ∷ connections) at = by (is_open x) (eqb (connection_link x) k) refl (client-missing k connections) at where
  by : (b t : Bool) → eqb (connection_link x) k ≡ t → (at_key connection_link k connections ≡ None → at_key client_link k (clients_of connections) ≡ None) → cond t (Some x) (at_key connection_link k connections) ≡ None
      → at_key client_link k (cond b (x.session.client ∷ clients_of connections) (clients_of connections)) ≡ None
  by b true q more a = absurd (cc)
  by true false q more a = ap (λ t. cond t (Some x.session.client) (at_key client_link k (clients_of connections))) q ∙ more a
  by false false q more a = more a

pub client-leaving : (k : ℕ) (connections : List Connection) (connection : Connection) → Distinct (map connection_link connections) → at_key connection_link k connections ≡ Some connection → is_open connection ≡ false → at_key client_link k (clients_of connections) ≡ None
client-leaving k [] connection distinct at leaves = absurd (cc)
client-leaving k (x ∷ connections) connection distinct at leaves = by (is_open x) (eqb (connection_link x) k) refl refl (λ a. client-leaving k connections connection distinct.1 a leaves) at where
  by : (b t : Bool) → is_open x ≡ b → eqb (connection_link x) k ≡ t → (at_key connection_link k connections ≡ Some connection → at_key client_link k (clients_of connections) ≡ None) → cond t (Some x) (at_key connection_link k connections) ≡ Some connection
      → at_key client_link k (cond b (x.session.client ∷ clients_of connections) (clients_of connections)) ≡ None
  by true true e q more a = absurd (false≢true (sym leaves ∙ sym (ap is_open (some_same x connection a)) ∙ e))
  by true false e q more a = ap (λ t. cond t (Some x.session.client) (at_key client_link k (clients_of connections))) q ∙ more a
  by false true e q more a = let P : ℕ → Type 0 = λ n. Absent n (map connection_link connections) in absent-client k connections (subst P (same_number (connection_link x) k q) distinct.0)
  by false false e q more a = more a

-- another session on the connection of an open client
pub clients-put : (k : ℕ) (connections : List Connection) (connection : Connection) (session' : Known) → at_key connection_link k connections ≡ Some connection → is_open connection ≡ true
    → clients_of (put_at connection_link k (record { session = session'; leaving = None }) connections) ≡ put_at client_link k session'.client (clients_of connections)
clients-put k [] connection session' at sits = refl
clients-put k (x ∷ connections) connection session' at sits = by (is_open x) (eqb (connection_link x) k) refl refl (λ a. clients-put k connections connection session' a sits) at where
  y : Connection
  y = record { session = session'; leaving = None }

  by : (b t : Bool) → is_open x ≡ b → eqb (connection_link x) k ≡ t
      → (at_key connection_link k connections ≡ Some connection → clients_of (put_at connection_link k y connections) ≡ put_at client_link k session'.client (clients_of connections)) → cond t (Some x) (at_key connection_link k connections) ≡ Some connection
      → clients_of (cond t (y ∷ connections) (x ∷ put_at connection_link k y connections)) ≡ put_at client_link k session'.client (cond b (x.session.client ∷ clients_of connections) (clients_of connections))
  by true true e q more a = sym (ap (λ t. cond t (session'.client ∷ clients_of connections) (x.session.client ∷ put_at client_link k session'.client (clients_of connections))) q)
  by true false e q more a =
      ap (λ b. cond b (x.session.client ∷ clients_of (put_at connection_link k y connections)) (clients_of (put_at connection_link k y connections))) e ∙ ap (λ clients. x.session.client ∷ clients) (more a)
      ∙ sym (ap (λ t. cond t (session'.client ∷ clients_of connections) (x.session.client ∷ put_at client_link k session'.client (clients_of connections))) q)
  by false true e q more a = absurd (false≢true (sym e ∙ ap is_open (some_same x connection a) ∙ sits))
  by false false e q more a = ap (λ b. cond b (x.session.client ∷ clients_of (put_at connection_link k y connections)) (clients_of (put_at connection_link k y connections))) e ∙ more a

-- the connection of an open client that leaves
pub clients-leave : (k : ℕ) (connections : List Connection) (connection : Connection) (session' : Known) (why : Cause) → Distinct (map connection_link connections) → at_key connection_link k connections ≡ Some connection
    → clients_of (put_at connection_link k (record { session = session'; leaving = Some why }) connections) ≡ without client_link k (clients_of connections)
clients-leave k [] connection session' why distinct at = refl
clients-leave k (x ∷ connections) connection session' why distinct at = by (is_open x) (eqb (connection_link x) k) refl refl (λ a. clients-leave k connections connection session' why distinct.1 a) at where
  y : Connection
  y = record { session = session'; leaving = Some why }

  others : eqb (connection_link x) k ≡ true → clients_of connections ≡ without client_link k (clients_of connections)
  others q = let P : ℕ → Type 0 = λ n. Absent n (map connection_link connections) in sym (absent-without k connections (subst P (same_number (connection_link x) k q) distinct.0))

  filtered : (t : Bool) → eqb (connection_link x) k ≡ t → cond (not t) (x.session.client ∷ without client_link k (clients_of connections)) (without client_link k (clients_of connections)) ≡ without client_link k (x.session.client ∷ clients_of connections)
  filtered t q = sym (ap (λ t. cond (not t) (x.session.client ∷ without client_link k (clients_of connections)) (without client_link k (clients_of connections))) q)

  by : (b t : Bool) → is_open x ≡ b → eqb (connection_link x) k ≡ t
      → (at_key connection_link k connections ≡ Some connection → clients_of (put_at connection_link k y connections) ≡ without client_link k (clients_of connections)) → cond t (Some x) (at_key connection_link k connections) ≡ Some connection
      → clients_of (cond t (y ∷ connections) (x ∷ put_at connection_link k y connections)) ≡ without client_link k (cond b (x.session.client ∷ clients_of connections) (clients_of connections))
  by true true e q more a = others q ∙ filtered true q
  by true false e q more a =
      ap (λ b. cond b (x.session.client ∷ clients_of (put_at connection_link k y connections)) (clients_of (put_at connection_link k y connections))) e ∙ ap (λ clients. x.session.client ∷ clients) (more a) ∙ filtered false q
  by false true e q more a = others q
  by false false e q more a = ap (λ b. cond b (x.session.client ∷ clients_of (put_at connection_link k y connections)) (clients_of (put_at connection_link k y connections))) e ∙ more a

-- how many clients are open
pub open-length : (connections : List Connection) → length (filter (λ connection. is_open connection) connections) ≡ length (clients_of connections)
open-length [] = refl
open-length (connection ∷ connections) = by (is_open connection) (open-length connections) where
  by : (b : Bool) → length (filter (λ connection. is_open connection) connections) ≡ length (clients_of connections)
      → length (cond b (connection ∷ filter (λ connection. is_open connection) connections) (filter (λ connection. is_open connection) connections)) ≡ length (cond b (connection.session.client ∷ clients_of connections) (clients_of connections))
  by true more = ap suc more
  by false more = more

-- ---- a connection that is put after the others

pub clients-push : (connections : List Connection) (session : Known) → clients_of (connections ++ record { session = session; leaving = None } ∷ []) ≡ clients_of connections ++ session.client ∷ []
clients-push [] session = refl
clients-push (connection ∷ connections) session = by (is_open connection) (clients-push connections session) where
  y : Connection
  y = record { session = session; leaving = None }

  by : (b : Bool) → clients_of (connections ++ y ∷ []) ≡ clients_of connections ++ session.client ∷ []
      → cond b (connection.session.client ∷ clients_of (connections ++ y ∷ [])) (clients_of (connections ++ y ∷ [])) ≡ cond b (connection.session.client ∷ clients_of connections) (clients_of connections) ++ session.client ∷ []
  by true more = ap (λ clients. connection.session.client ∷ clients) more
  by false more = more

pub links-push : (connections : List Connection) (connection : Connection) → map connection_link (connections ++ connection ∷ []) ≡ map connection_link connections ++ connection_link connection ∷ []
links-push [] connection = refl
links-push (other ∷ connections) connection = ap (λ links. connection_link other ∷ links) (links-push connections connection)

new-unsent : (t : Bool) (connection : Connection) → connection.session.unsent ≡ [] → unsent_in (cond t (Some connection) None) ≡ []
new-unsent true connection e = e
new-unsent false connection e = refl

new-leaving : (t : Bool) (connection : Connection) → connection.leaving ≡ None → leaving_in (cond t (Some connection) None) ≡ None
new-leaving true connection e = e
new-leaving false connection e = refl

same-seen : {A : Type 0} (f : Option Connection → A) (t : Bool) (x : Connection) (p q : Option Connection) → f p ≡ f q → f (cond t (Some x) p) ≡ f (cond t (Some x) q)
same-seen f true x p q e = refl
same-seen f false x p q e = e

pub unsent-push : (j : ℕ) (connections : List Connection) (connection : Connection) → connection.session.unsent ≡ [] → unsent_on j (connections ++ connection ∷ []) ≡ unsent_on j connections
unsent-push j [] connection e = new-unsent (eqb (connection_link connection) j) connection e
unsent-push j (other ∷ connections) connection e = same-seen unsent_in (eqb (connection_link other) j) other (at_key connection_link j (connections ++ connection ∷ [])) (at_key connection_link j connections) (unsent-push j connections connection e)

pub leaving-push : (j : ℕ) (connections : List Connection) (connection : Connection) → connection.leaving ≡ None → leaving_on j (connections ++ connection ∷ []) ≡ leaving_on j connections
leaving-push j [] connection e = new-leaving (eqb (connection_link connection) j) connection e
leaving-push j (other ∷ connections) connection e = same-seen leaving_in (eqb (connection_link other) j) other (at_key connection_link j (connections ++ connection ∷ [])) (at_key connection_link j connections) (leaving-push j connections connection e)

pub kept-push : (j : ℕ) (connections : List Connection) (connection : Connection) → IsSome (leaving_on j connections) → at_key connection_link j (connections ++ connection ∷ []) ≡ at_key connection_link j connections
kept-push j [] connection some = absurd (cc)
kept-push j (other ∷ connections) connection some = by (eqb (connection_link other) j) (kept-push j connections connection) some where
  by : (t : Bool) → (IsSome (leaving_on j connections) → at_key connection_link j (connections ++ connection ∷ []) ≡ at_key connection_link j connections) → IsSome (leaving_in (cond t (Some other) (at_key connection_link j connections)))
      → cond t (Some other) (at_key connection_link j (connections ++ connection ∷ [])) ≡ cond t (Some other) (at_key connection_link j connections)
  by true more some = refl
  by false more some = more some
