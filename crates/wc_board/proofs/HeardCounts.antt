-- How many parts of a notice some client hears: no more than before once one was told.
use Rattle.std.proofs.Common.{◌≡◌, ℕ, ◌+◌, ◌≤◌, Bool, true, false, cond, eqb, ◌&&◌, ◌||◌, ◌⊎◌, inl, inr, List, [], ◌∷◌, Some, refl, ap, sym, subst, ◌∙◌, arith, eqb-true}
use Rattle.std.specs.Prelude.{not}
use Rattle.std.proofs.lemmas.Bool.{false≢true}
use Rattle.wc_text.specs.declared.names.Cause.TheVariants.{NoMemory}
use Rattle.wc_keys.specs.declared.events.Asked.{Asked}
use Rattle.wc_keys.specs.declared.events.Asked.TheVariants as asked
use Rattle.wc_keys.specs.Events.{asked_of}
use Rattle.wc_model.specs.declared.notice.EventKind.{EventKind}
use Rattle.wc_model.specs.declared.notice.EventKind.TheVariants as kind
use Rattle.wc_model.specs.declared.notice.Notice.{Notice}
use Rattle.wc_model.specs.World.{World}
use Rattle.wc_session.specs.declared.client.Client.{Client}
use Rattle.wc_session.specs.declared.sync_set.SyncSet.{SyncSet}
use Rattle.wc_session.specs.declared.sync_set.BufferSet.{BufferSet}
use Rattle.wc_session.specs.Sync.{no_options, union, set_at, asks, wants, follows, without_set, sets_after, after_event}
use Rattle.wc_board.specs.declared.connection.Connection.{Connection}
use Rattle.wc_board.specs.Connections.{is_open}
use Rattle.wc_board.specs.Served.{listens, noted_connection, starved_connection, part_connection, ConnectionServed, ConnectionsServed, is_heard, heard_number}
use Rattle.wc_hooks.proofs.Lists.{by_bool, count_first, count_rest}

-- ---- one client

or_more : (x y : Bool) → (x || false) ≡ true → (x || y) ≡ true
or_more true y e = refl
or_more false y e = absurd (false≢true e)

either_more : (x y u v : Bool) → ((x || false) || (y || false)) ≡ true → ((x || u) || (y || v)) ≡ true
either_more true y u v e = refl
either_more false true true v e = refl
either_more false true false v e = refl
either_more false false u v e = absurd (false≢true e)

asks_more : (a : Asked) (s t : SyncSet) → asks a (union s no_options) ≡ true → asks a (union s t) ≡ true
asks_more asked.Buffers s t e = or_more s.buffers t.buffers e
asks_more asked.Buffer s t e = or_more s.buffer t.buffer e
asks_more asked.Either s t e = either_more s.buffers s.buffer t.buffers t.buffer e
asks_more asked.Nicklist s t e = or_more s.nicklist t.nicklist e
asks_more asked.Trims s t e = or_more s.trims t.trims e
asks_more asked.Nothing s t e = absurd (false≢true e)

-- the set of a buffer that was closed is empty, and each other one is as it was
no_set : (b : ℕ) (sets : List BufferSet) → set_at b (without_set b sets) ≡ no_options
no_set b [] = refl
no_set b (s ∷ sets) = by (eqb s.buffer.0 b) refl (no_set b sets) where
  by : (t : Bool) → eqb s.buffer.0 b ≡ t → set_at b (without_set b sets) ≡ no_options → set_at b (cond (not t) (s ∷ without_set b sets) (without_set b sets)) ≡ no_options
  by true e more = more
  by false e more = ap (λ t. cond t s.set (set_at b (without_set b sets))) e ∙ more

same_set : (buffer b : ℕ) (sets : List BufferSet) → eqb buffer b ≡ false → set_at b (without_set buffer sets) ≡ set_at b sets
same_set buffer b [] other = refl
same_set buffer b (s ∷ sets) other = by (eqb s.buffer.0 buffer) refl (same_set buffer b sets other) where
  by : (t : Bool) → eqb s.buffer.0 buffer ≡ t → set_at b (without_set buffer sets) ≡ set_at b sets → set_at b (cond (not t) (s ∷ without_set buffer sets) (without_set buffer sets)) ≡ cond (eqb s.buffer.0 b) s.set (set_at b sets)
  by true e more =
      let apart : eqb s.buffer.0 b ≡ false = ap (λ n. eqb n b) (eqb-true s.buffer.0 buffer e) ∙ other in
      more ∙ sym (ap (λ t. cond t s.set (set_at b sets)) apart)
  by false e more = ap (λ set. cond (eqb s.buffer.0 b) s.set set) more

closed_fewer : (kind : EventKind) (buffer b : ℕ) (client : Client) → wants kind (union client.everywhere (set_at b (without_set buffer client.sets))) ≡ true → follows kind b client ≡ true
closed_fewer kind buffer b client heard = by (eqb buffer b) refl where
  P : SyncSet → Type 0
  P set = wants kind (union client.everywhere set) ≡ true

  by : (t : Bool) → eqb buffer b ≡ t → follows kind b client ≡ true
  by true e =
      let here : set_at b (without_set buffer client.sets) ≡ no_options = ap (λ n. set_at b (without_set n client.sets)) (eqb-true buffer b e) ∙ no_set b client.sets in
      asks_more (asked_of kind) client.everywhere (set_at b client.sets) (subst P here heard)
  by false e = subst P (same_set buffer b client.sets e) heard

-- an event leaves the sets as they were, or one buffer is closed
sets_are : (event : EventKind) (buffer : ℕ) (sets : List BufferSet) → (sets_after event buffer sets ≡ without_set buffer sets) ⊎ (sets_after event buffer sets ≡ sets)
sets_are kind.Closing buffer sets = inl refl
sets_are _ buffer sets = inr refl

-- who follows events after one followed them before
follows_before : (event kind : EventKind) (buffer b : ℕ) (client : Client) → follows kind b (after_event event buffer client) ≡ true → follows kind b client ≡ true
follows_before event kind buffer b client heard = by (sets_are event buffer client.sets) where
  P : List BufferSet → Type 0
  P sets = wants kind (union client.everywhere (set_at b sets)) ≡ true

  by : (sets_after event buffer client.sets ≡ without_set buffer client.sets) ⊎ (sets_after event buffer client.sets ≡ client.sets) → follows kind b client ≡ true
  by (inl e) = closed_fewer kind buffer b client (subst P e heard)
  by (inr e) = subst P e heard

-- ---- one connection

-- who listens now listened before
abbrev ListenedBefore : Connection → Connection → Type 0
ListenedBefore old new = (kind : EventKind) (b : ℕ) → listens kind b new ≡ true → listens kind b old ≡ true

abbrev heard_with : EventKind → ℕ → Connection → List ℕ → Connection
heard_with event buffer connection bytes = record connection { session = record { client = after_event event buffer connection.session.client; unsent = bytes } }

heard_before : (event : EventKind) (buffer : ℕ) (connection : Connection) (bytes : List ℕ) → ListenedBefore connection (cond (is_open connection) (heard_with event buffer connection bytes) connection)
heard_before event buffer connection bytes kind b = by (is_open connection) where
  both : (x f : Bool) → (f ≡ true → follows kind b connection.session.client ≡ true) → (x && f) ≡ true → (x && follows kind b connection.session.client) ≡ true
  both true f before e = before e
  both false f before e = e

  by : (t : Bool) → listens kind b (cond t (heard_with event buffer connection bytes) connection) ≡ true → listens kind b connection ≡ true
  by true e = both (is_open connection) (follows kind b (after_event event buffer connection.session.client)) (follows_before event kind buffer b connection.session.client) e
  by false e = e

starved_before : (event : EventKind) (buffer : ℕ) (connection : Connection) → ListenedBefore connection (starved_connection event buffer connection)
starved_before event buffer connection kind b = by (listens event buffer connection) where
  by : (t : Bool) → listens kind b (cond t (record connection { leaving = Some NoMemory }) (noted_connection event buffer connection)) ≡ true → listens kind b connection ≡ true
  by true e = absurd (false≢true e)
  by false e = heard_before event buffer connection connection.session.unsent kind b e

served_before : (w : World) (part : Notice) (a b : Connection) → ConnectionServed part.kind part.buffer.0 (part_connection w part) a b → ListenedBefore a b
served_before w part a b (inl e) = subst (ListenedBefore a) (sym e) (heard_before part.kind part.buffer.0 a _)
served_before w part a b (inr e) = subst (ListenedBefore a) (sym e) (starved_before part.kind part.buffer.0 a)

-- ---- all connections

any_more : (x y p q : Bool) → (x ≡ true → y ≡ true) → (p ≡ true → q ≡ true) → (x || p) ≡ true → (y || q) ≡ true
any_more true y p q first others e = ap (λ t. t || q) (first refl)
any_more false true p q first others e = refl
any_more false false p q first others e = others e

-- a part that some client hears after another was told is one that some client heard before it
pub heard_before_all : (w : World) (part other : Notice) (old new : List Connection) → ConnectionsServed part.kind part.buffer.0 (part_connection w part) old new → is_heard new other ≡ true → is_heard old other ≡ true
heard_before_all w part other [] [] served e = e
heard_before_all w part other [] (b ∷ new) served e = absurd served
heard_before_all w part other (a ∷ old) [] served e = absurd served
heard_before_all w part other (a ∷ old) (b ∷ new) served e =
    any_more (listens other.kind other.buffer.0 b) (listens other.kind other.buffer.0 a) (is_heard new other) (is_heard old other) (served_before w part a b served.0 other.kind other.buffer.0) (heard_before_all w part other old new served.1) e

-- ---- the numbers

abbrev one_if : Bool → ℕ
one_if b = cond b 1 0

pub heard_one : (connections : List Connection) (part : Notice) (b : Bool) → is_heard connections part ≡ b → heard_number connections (part ∷ []) ≡ one_if b
heard_one connections part true e = count_first (is_heard connections) part [] e
heard_one connections part false e = count_rest (is_heard connections) part [] e

-- of the first of them and of the others
pub heard_more : (connections : List Connection) (part : Notice) (parts : List Notice) → heard_number connections (part ∷ parts) ≡ heard_number connections (part ∷ []) + heard_number connections parts
heard_more connections part parts =
    let heard : Notice → Bool = λ part. is_heard connections part in
    by_bool (is_heard connections part)
    (λ t. let one = count_first heard part [] t in let all = count_first heard part parts t in omega (arith, one, all))
    (λ f. let one = count_rest heard part [] f in let all = count_rest heard part parts f in omega (arith, one, all))

less_if : (x y : Bool) → (x ≡ true → y ≡ true) → one_if x ≤ one_if y
less_if true y e = (let is = e refl in rw is (omega arith))
less_if false y e = omega arith

pub heard_fewer : (w : World) (part : Notice) (parts : List Notice) (old new : List Connection) → ConnectionsServed part.kind part.buffer.0 (part_connection w part) old new → heard_number new parts ≤ heard_number old parts
heard_fewer w part [] old new served = omega arith
heard_fewer w part (other ∷ parts) old new served =
    let first = less_if (is_heard new other) (is_heard old other) (heard_before_all w part other old new served) in
    let now = heard_more new other parts in
    let before = heard_more old other parts in
    let one = heard_one new other (is_heard new other) refl in
    let was = heard_one old other (is_heard old other) refl in
    let others = heard_fewer w part parts old new served in
    omega (arith, first, now, before, one, was, others)
