-- The clients of a link, of which the first alone is told events.
use Rattle.std.proofs.Common.{◌≡◌, ℕ, Bool, true, false, cond, ◌&&◌, ◌||◌, List, [], ◌∷◌, ◌++◌, map, filter, Option, Some, None, is_some, option_map, refl, sym, ap, ◌∙◌, arith, eqb, append-nil, not}
use Rattle.std.specs.List.{AllByRecursion, flat_map}
use Rattle.std.proofs.lemmas.Bool.{false≢true, or_parts}
use Rattle.std.proofs.lemmas.Bool.Decides.{nat_tests}
use Rattle.wc_text.specs.declared.names.Handle.{Handle}
use Rattle.wc_outside.specs.Keyed.{at_key, put_at, without}
use Rattle.wc_model.specs.declared.notice.EventKind.{EventKind}
use Rattle.wc_model.specs.declared.notice.EventKind.TheVariants as kind
use Rattle.wc_model.specs.declared.notice.Notice.{Notice}
use Rattle.wc_model.specs.declared.notice.Trim.{Trim}
use Rattle.wc_model.specs.Order.{order}
use Rattle.wc_model.specs.Parts.{has_flips, flag_part, flag_parts, trim_part, parts_of}
use Rattle.wc_model.specs.World.{World}
use Rattle.wc_nickdiff.specs.declared.diff_item.Push.{Push}
use Rattle.wc_nickdiff.specs.declared.diff_item.Push.TheVariants.{Nothing, Diff, Full}
use Rattle.wc_objects.specs.declared.object.WireMessage.{WireMessage}
use Rattle.wc_events.specs.BufferObjects.{id_of, objects_of}
use Rattle.wc_events.specs.NickObjects.{push_kind}
use Rattle.wc_session.specs.declared.client.Client.{Client}
use Rattle.wc_session.specs.declared.sync_set.BufferSet.{BufferSet}
use Rattle.wc_session.specs.declared.sync_set.SyncSet.{SyncSet}
use Rattle.wc_session.specs.Event.{part_told, parts_told, notice_told, event_messages, if_fits, push_told, push_messages}
use Rattle.wc_session.specs.Sync.{no_options, union, set_at, wants, follows, without_set, sets_after, after_event}
use Rattle.wc_core.specs.State.{Act}
use Rattle.wc_core.specs.Step.{client_link, sends}
use Rattle.wc_core.specs.Served.{messages_to}
use Rattle.wc_core.proofs.MessageLemmas.{messages_to-append}
use Rattle.wc_view.specs.Views.{heard_parts}
use Rattle.wc_mirror_laws.specs.Settled.{follows_all, is_following, sets_have_trims, HasNoTrims, IsPlain}
use Rattle.wc_mirror_laws.specs.Kept.{asks_some, has_sets, asks_events, is_quiet, is_first_alone}

-- ---- whether a client follows all events

-- one more client that does not
pub following-push : (limit : Option ℕ) (link : ℕ) (client : Client) (clients : List Client) → follows_all limit client ≡ false
    → is_following limit (at_key client_link link (clients ++ client ∷ [])) ≡ is_following limit (at_key client_link link clients)
following-push limit link client [] e = by (eqb (client_link client) link) where
  by : (b : Bool) → is_following limit (cond b (Some client) None) ≡ false
  by true = e
  by false = refl
following-push limit link client (other ∷ clients) e = by (eqb (client_link other) link) (following-push limit link client clients e) where
  by : (b : Bool) → is_following limit (at_key client_link link (clients ++ client ∷ [])) ≡ is_following limit (at_key client_link link clients)
      → is_following limit (cond b (Some other) (at_key client_link link (clients ++ client ∷ []))) ≡ is_following limit (cond b (Some other) (at_key client_link link clients))
  by true more = refl
  by false more = more

-- whoever keeps no limit of its own hears of lines that went
abbrev IsUnlimited : Option ℕ → Type 0
IsUnlimited None = Unit {0}
IsUnlimited (Some limit) = ⊥

-- an event that a mirror asks for
abbrev IsAskable : Option ℕ → EventKind → Type 0
IsAskable limit kind.NickTouched = ⊥
IsAskable limit kind.LimitSet = ⊥
IsAskable limit kind.LinesTrimmed = IsUnlimited limit
IsAskable limit _ = Unit {0}

-- it is wanted by any set of all options
wants_all : (limit : Option ℕ) (k : EventKind) (set : SyncSet) → IsAskable limit k → set.buffers ≡ true → set.buffer ≡ true → set.nicklist ≡ true → (IsUnlimited limit → set.trims ≡ true) → wants k set ≡ true
wants_all limit kind.Opened set is a b n t = a
wants_all limit kind.TitleChanged set is a b n t = b
wants_all limit kind.VarAdded set is a b n t = b
wants_all limit kind.VarChanged set is a b n t = b
wants_all limit kind.VarRemoved set is a b n t = b
wants_all limit kind.Cleared set is a b n t = b
wants_all limit kind.LineAdded set is a b n t = b
wants_all limit kind.LineDataChanged set is a b n t = b
wants_all limit kind.Nicklist set is a b n t = n
wants_all limit kind.NicklistDiff set is a b n t = n
wants_all limit kind.NickTouched set is a b n t = absurd is
wants_all limit kind.LimitSet set is a b n t = absurd is
wants_all limit kind.LinesTrimmed set is a b n t = t is
wants_all limit _ set is a b n t = ap (λ x. x || set.buffer) a

-- a client that does is told each such event
pub follows_each : (limit : Option ℕ) (k : EventKind) (buffer : ℕ) (client : Client) → IsAskable limit k → follows_all limit client ≡ true → follows k buffer client ≡ true
follows_each limit k buffer client is e =
    wants_all limit k (union client.everywhere set) is (one client.everywhere.buffers set.buffers all.0) (one client.everywhere.buffer set.buffer all.1) (one client.everywhere.nicklist set.nicklist all.2)
    (λ un. one client.everywhere.trims set.trims (trims_in limit un all.3))
  where
    set : SyncSet
    set = set_at buffer client.sets

    one : (a b : Bool) → a ≡ true → a || b ≡ true
    one a b e = ap (λ t. t || b) e

    parts : (a b c d : Bool) → a && (b && (c && d)) ≡ true → (a ≡ true) × (b ≡ true) × (c ≡ true) × (d ≡ true)
    parts true true true d e = (refl, refl, refl, e)
    parts true true false d e = absurd (false≢true e)
    parts true false c d e = absurd (false≢true e)
    parts false b c d e = absurd (false≢true e)

    all : (client.everywhere.buffers ≡ true) × (client.everywhere.buffer ≡ true) × (client.everywhere.nicklist ≡ true) × (is_some limit || client.everywhere.trims ≡ true)
    all = parts client.everywhere.buffers client.everywhere.buffer client.everywhere.nicklist (is_some limit || client.everywhere.trims) e

    trims_in : (limit : Option ℕ) → IsUnlimited limit → is_some limit || client.everywhere.trims ≡ true → client.everywhere.trims ≡ true
    trims_in None un e = e
    trims_in (Some limit) un e = absurd un

-- ---- a client that asked for nothing

wants_none : (k : EventKind) (set : SyncSet) → set.buffers ≡ false → set.buffer ≡ false → set.nicklist ≡ false → set.trims ≡ false → wants k set ≡ false
wants_none kind.Opened set a b n t = a
wants_none kind.TitleChanged set a b n t = b
wants_none kind.VarAdded set a b n t = b
wants_none kind.VarChanged set a b n t = b
wants_none kind.VarRemoved set a b n t = b
wants_none kind.Cleared set a b n t = b
wants_none kind.LineAdded set a b n t = b
wants_none kind.LineDataChanged set a b n t = b
wants_none kind.Nicklist set a b n t = n
wants_none kind.NicklistDiff set a b n t = n
wants_none kind.NickTouched set a b n t = refl
wants_none kind.LimitSet set a b n t = refl
wants_none kind.LinesTrimmed set a b n t = t
wants_none _ set a b n t = ap (λ x. x || set.buffer) a ∙ b

-- none of its sets has an option
record AsksNothing (client : Client) : Type 0 where
  buffers : client.everywhere.buffers ≡ false
  buffer : client.everywhere.buffer ≡ false
  nicklist : client.everywhere.nicklist ≡ false
  trims : client.everywhere.trims ≡ false
  sets : client.sets ≡ []

asks_nothing : (client : Client) → asks_events client ≡ false → AsksNothing client
asks_nothing client e = by client.everywhere.buffers client.everywhere.upgrade client.everywhere.buffer client.everywhere.nicklist client.everywhere.trims client.sets refl refl refl refl refl e where
  by : (a u b n t : Bool) (sets : List BufferSet) → client.everywhere.buffers ≡ a → client.everywhere.buffer ≡ b → client.everywhere.nicklist ≡ n → client.everywhere.trims ≡ t → client.sets ≡ sets
      → (a || (u || (b || (n || t)))) || has_sets sets ≡ false → AsksNothing client
  by true u b n t sets p q r l s e = absurd (false≢true (sym e))
  by false true b n t sets p q r l s e = absurd (false≢true (sym e))
  by false false true n t sets p q r l s e = absurd (false≢true (sym e))
  by false false false true t sets p q r l s e = absurd (false≢true (sym e))
  by false false false false true sets p q r l s e = absurd (false≢true (sym e))
  by false false false false false (set ∷ sets) p q r l s e = absurd (false≢true (sym e))
  by false false false false false [] p q r l s e = record { buffers = p; buffer = q; nicklist = r; trims = l; sets = s }

follows_none : (k : EventKind) (buffer : ℕ) (client : Client) → asks_events client ≡ false → follows k buffer client ≡ false
follows_none k buffer client e =
    let is = asks_nothing client e in
    ap (λ sets. wants k (union client.everywhere (set_at buffer sets))) is.sets
    ∙ wants_none k (union client.everywhere no_options) (ap (λ t. t || false) is.buffers) (ap (λ t. t || false) is.buffer) (ap (λ t. t || false) is.nicklist) (ap (λ t. t || false) is.trims)

no_sets : (k : EventKind) (buffer : ℕ) → sets_after k buffer [] ≡ []
no_sets kind.Closing buffer = refl
no_sets _ buffer = refl

-- what it hears leaves it so
heard_nothing : (k : EventKind) (buffer : ℕ) (client : Client) → asks_events client ≡ false → asks_events (after_event k buffer client) ≡ false
heard_nothing k buffer client e =
    let is = asks_nothing client e in
    let none : has_sets (sets_after k buffer client.sets) ≡ has_sets client.sets = ap (λ sets. has_sets (sets_after k buffer sets)) is.sets ∙ ap has_sets (no_sets k buffer) ∙ ap has_sets (sym is.sets) in
    ap (λ t. asks_some client.everywhere || t) none ∙ e

-- ---- the first client of a link is alone to ask

pub first-quiet : (link : ℕ) (clients : List Client) → is_quiet link clients ≡ true → is_first_alone link clients ≡ true
first-quiet link [] e = refl
first-quiet link (client ∷ clients) e = by (eqb (client_link client) link) (asks_events client) (first-quiet link clients) e where
  by : (b f : Bool) → (is_quiet link clients ≡ true → is_first_alone link clients ≡ true) → not (b && f) && is_quiet link clients ≡ true → cond b (is_quiet link clients) (is_first_alone link clients) ≡ true
  by true true more e = absurd (false≢true e)
  by true false more e = e
  by false f more e = more e

-- one more client that did not ask
quiet-push : (link : ℕ) (client : Client) (clients : List Client) → asks_events client ≡ false → is_quiet link (clients ++ client ∷ []) ≡ is_quiet link clients
quiet-push link client [] e = rw e (by (eqb (client_link client) link)) where
  by : (b : Bool) → not (b && false) && true ≡ true
  by true = refl
  by false = refl
quiet-push link client (other ∷ clients) e = ap (λ t. not (eqb (client_link other) link && asks_events other) && t) (quiet-push link client clients e)

pub first-push : (link : ℕ) (client : Client) (clients : List Client) → asks_events client ≡ false → is_first_alone link (clients ++ client ∷ []) ≡ is_first_alone link clients
first-push link client [] e = by (eqb (client_link client) link) where
  by : (b : Bool) → cond b true true ≡ true
  by true = refl
  by false = refl
first-push link client (other ∷ clients) e =
    ap (λ t. cond (eqb (client_link other) link) t (is_first_alone link (clients ++ client ∷ []))) (quiet-push link client clients e)
    ∙ ap (λ t. cond (eqb (client_link other) link) (is_quiet link clients) t) (first-push link client clients e)

-- another state of a client
quiet-put : (link k : ℕ) (client : Client) (clients : List Client) → client_link client ≡ k → eqb k link ≡ false → is_quiet link (put_at client_link k client clients) ≡ is_quiet link clients
quiet-put link k client [] e other = refl
quiet-put link k client (first ∷ clients) e other = by (eqb (client_link first) k) refl (quiet-put link k client clients e other) where
  quiet : Client → List Client → Bool
  quiet c cs = not (eqb (client_link c) link && asks_events c) && is_quiet link cs

  skip : (c : Client) → client_link c ≡ k → quiet c clients ≡ is_quiet link clients
  skip c e = let t : eqb (client_link c) link ≡ false = ap (λ n. eqb n link) e ∙ other in rw t refl

  by : (b : Bool) → eqb (client_link first) k ≡ b → is_quiet link (put_at client_link k client clients) ≡ is_quiet link clients
      → is_quiet link (cond b (client ∷ clients) (first ∷ put_at client_link k client clients)) ≡ quiet first clients
  by true t more = skip client e ∙ sym (skip first (grind (arith, nat_tests)))
  by false t more = ap (λ b. not (eqb (client_link first) link && asks_events first) && b) more

pub first-put : (link k : ℕ) (client : Client) (clients : List Client) → client_link client ≡ k → is_first_alone link (put_at client_link k client clients) ≡ is_first_alone link clients
first-put link k client [] e = refl
first-put link k client (first ∷ clients) e = by (eqb (client_link first) k) (eqb (client_link first) link) refl refl (first-put link k client clients e) where
  alone : Client → List Client → Bool
  alone c cs = cond (eqb (client_link c) link) (is_quiet link cs) (is_first_alone link cs)

  by : (b t : Bool) → eqb (client_link first) k ≡ b → eqb (client_link first) link ≡ t
      → is_first_alone link (put_at client_link k client clients) ≡ is_first_alone link clients
      → is_first_alone link (cond b (client ∷ clients) (first ∷ put_at client_link k client clients)) ≡ alone first clients
  by true t here is more =
      let same : client_link client ≡ client_link first = grind (arith, nat_tests) in
      ap (λ n. cond (eqb n link) (is_quiet link clients) (is_first_alone link clients)) same
  by false true here is more =
      let other : eqb k link ≡ false = grind (arith, nat_tests) in
      ap (λ t. cond (eqb (client_link first) link) t (is_first_alone link (put_at client_link k client clients))) (quiet-put link k client clients e other)
      ∙ rw is refl
  by false false here is more =
      ap (λ t. cond (eqb (client_link first) link) (is_quiet link (put_at client_link k client clients)) t) more ∙ rw is refl

-- without the clients of some link
quiet-without : (link k : ℕ) (clients : List Client) → is_quiet link clients ≡ true → is_quiet link (without client_link k clients) ≡ true
quiet-without link k [] e = refl
quiet-without link k (client ∷ clients) e = grind (arith, nat_tests, quiet-without link k clients)

pub first-without : (link k : ℕ) (clients : List Client) → is_first_alone link clients ≡ true → is_first_alone link (without client_link k clients) ≡ true
first-without link k [] e = refl
first-without link k (client ∷ clients) e = by (eqb (client_link client) k) (eqb (client_link client) link) refl refl (first-without link k clients) e where
  by : (b t : Bool) → eqb (client_link client) k ≡ b → eqb (client_link client) link ≡ t → (is_first_alone link clients ≡ true → is_first_alone link (without client_link k clients) ≡ true)
      → cond t (is_quiet link clients) (is_first_alone link clients) ≡ true → is_first_alone link (cond (not b) (client ∷ without client_link k clients) (without client_link k clients)) ≡ true
  by true true here is more e = more (first-quiet link clients e)
  by true false here is more e = more e
  by false true here is more e = rw is (quiet-without link k clients e)
  by false false here is more e = rw is (more e)

-- ---- messages for a link

abbrev no_messages : List WireMessage
no_messages = []

either_none : (t : Bool) → no_messages ≡ cond t no_messages no_messages
either_none true = refl
either_none false = refl

pub messages-sends : (link k : ℕ) (messages : List WireMessage) → messages_to link (sends k messages) ≡ cond (eqb k link) messages no_messages
messages-sends link k [] = either_none (eqb k link)
messages-sends link k (m ∷ messages) = by (eqb k link) (messages-sends link k messages) where
  by : (t : Bool) → messages_to link (sends k messages) ≡ cond t messages no_messages
      → cond t (m ∷ []) no_messages ++ messages_to link (sends k messages) ≡ cond t (m ∷ messages) no_messages
  by true more = ap (λ t. m ∷ t) more
  by false more = more

-- ---- what clients hear

pub following-heard : (limit : Option ℕ) (k : EventKind) (buffer link : ℕ) (clients : List Client) → is_following limit (at_key client_link link (map (after_event k buffer) clients)) ≡ is_following limit (at_key client_link link clients)
following-heard limit k buffer link [] = refl
following-heard limit k buffer link (client ∷ clients) = by (eqb (client_link client) link) (following-heard limit k buffer link clients) where
  by : (b : Bool) → is_following limit (at_key client_link link (map (after_event k buffer) clients)) ≡ is_following limit (at_key client_link link clients)
      → is_following limit (cond b (Some (after_event k buffer client)) (at_key client_link link (map (after_event k buffer) clients))) ≡ is_following limit (cond b (Some client) (at_key client_link link clients))
  by true more = refl
  by false more = more

quiet-heard : (k : EventKind) (buffer link : ℕ) (clients : List Client) → is_quiet link clients ≡ true → is_quiet link (map (after_event k buffer) clients) ≡ true
quiet-heard k buffer link [] e = refl
quiet-heard k buffer link (client ∷ clients) e = by (eqb (client_link client) link) (asks_events client) refl (quiet-heard k buffer link clients) e where
  by : (b f : Bool) → asks_events client ≡ f → (is_quiet link clients ≡ true → is_quiet link (map (after_event k buffer) clients) ≡ true) → not (b && f) && is_quiet link clients ≡ true
      → not (b && asks_events (after_event k buffer client)) && is_quiet link (map (after_event k buffer) clients) ≡ true
  by true true asked more e = absurd (false≢true e)
  by true false asked more e = ap (λ f. not f && is_quiet link (map (after_event k buffer) clients)) (heard_nothing k buffer client asked) ∙ more e
  by false f asked more e = more e

pub first-heard : (k : EventKind) (buffer link : ℕ) (clients : List Client) → is_first_alone link clients ≡ true → is_first_alone link (map (after_event k buffer) clients) ≡ true
first-heard k buffer link [] e = refl
first-heard k buffer link (client ∷ clients) e = by (eqb (client_link client) link) (first-heard k buffer link clients) e where
  by : (b : Bool) → (is_first_alone link clients ≡ true → is_first_alone link (map (after_event k buffer) clients) ≡ true) → cond b (is_quiet link clients) (is_first_alone link clients) ≡ true
      → cond b (is_quiet link (map (after_event k buffer) clients)) (is_first_alone link (map (after_event k buffer) clients)) ≡ true
  by true more e = quiet-heard k buffer link clients e
  by false more e = more e

-- ---- what clients are told

-- each client is sent what it is told
abbrev pub sends_each : (Client → List WireMessage) → List Client → List Act
sends_each told clients = flat_map (λ client. sends (client_link client) (told client)) clients

module _ (link : ℕ) (told : Client → List WireMessage) (nothing : (client : Client) → asks_events client ≡ false → told client ≡ []) where
  messages-told : (client : Client) (clients : List Client)
      → messages_to link (sends_each told (client ∷ clients)) ≡ cond (eqb (client_link client) link) (told client) no_messages ++ messages_to link (sends_each told clients)
  messages-told client clients =
      messages_to-append link (sends (client_link client) (told client)) (sends_each told clients)
      ∙ ap (λ t. t ++ messages_to link (sends_each told clients)) (messages-sends link (client_link client) (told client))

  -- the clients of a link that asked for nothing are told nothing
  told-quiet : (clients : List Client) → is_quiet link clients ≡ true → messages_to link (sends_each told clients) ≡ []
  told-quiet [] e = refl
  told-quiet (client ∷ clients) e = messages-told client clients ∙ by (eqb (client_link client) link) (asks_events client) refl (told-quiet clients) e where
    by : (b f : Bool) → asks_events client ≡ f → (is_quiet link clients ≡ true → messages_to link (sends_each told clients) ≡ []) → not (b && f) && is_quiet link clients ≡ true
        → cond b (told client) no_messages ++ messages_to link (sends_each told clients) ≡ []
    by true true asked more e = absurd (false≢true e)
    by true false asked more e = ap (λ t. t ++ messages_to link (sends_each told clients)) (nothing client asked) ∙ more e
    by false f asked more e = more e

  -- the first client of a link is told alone
  pub told-first : (clients : List Client) (client : Client) → is_first_alone link clients ≡ true → at_key client_link link clients ≡ Some client → messages_to link (sends_each told clients) ≡ told client
  told-first [] client e at = absurd (let h = at in cc)
  told-first (first ∷ clients) client e at = messages-told first clients ∙ by (eqb (client_link first) link) (told-first clients client) e at where
    by : (b : Bool) → (is_first_alone link clients ≡ true → at_key client_link link clients ≡ Some client → messages_to link (sends_each told clients) ≡ told client)
        → cond b (is_quiet link clients) (is_first_alone link clients) ≡ true → cond b (Some first) (at_key client_link link clients) ≡ Some client
        → cond b (told first) no_messages ++ messages_to link (sends_each told clients) ≡ told client
    by true more e at =
        let same : first ≡ client = cc in
        ap (λ t. told first ++ t) (told-quiet clients e) ∙ append-nil (told first) ∙ ap (λ c. told c) same
    by false more e at = more e at

-- ---- a client that did not ask for lines that went

unset_plain : (buffer : ℕ) (sets : List BufferSet) → sets_have_trims sets ≡ false → (set_at buffer sets).trims ≡ false
unset_plain buffer [] e = refl
unset_plain buffer (s ∷ sets) e =
    let both = or_parts s.set.trims (sets_have_trims sets) e in
    by (eqb s.buffer.0 buffer) both.0 (unset_plain buffer sets both.1)
  where
    by : (b : Bool) → s.set.trims ≡ false → (set_at buffer sets).trims ≡ false → (cond b s.set (set_at buffer sets)).trims ≡ false
    by true here more = here
    by false here more = more

trims_unfollowed : (buffer : ℕ) (client : Client) → HasNoTrims (Some client) → follows kind.LinesTrimmed buffer client ≡ false
trims_unfollowed buffer client plain = ap (λ t. t || (set_at buffer client.sets).trims) plain.0 ∙ unset_plain buffer client.sets plain.1

-- a closed buffer takes its set along
fewer_plain : (buffer : ℕ) (sets : List BufferSet) → sets_have_trims sets ≡ false → sets_have_trims (without_set buffer sets) ≡ false
fewer_plain buffer [] e = refl
fewer_plain buffer (s ∷ sets) e =
    let both = or_parts s.set.trims (sets_have_trims sets) e in
    by (not (eqb s.buffer.0 buffer)) both.0 (fewer_plain buffer sets both.1)
  where
    by : (b : Bool) → s.set.trims ≡ false → sets_have_trims (without_set buffer sets) ≡ false → sets_have_trims (cond b (s ∷ without_set buffer sets) (without_set buffer sets)) ≡ false
    by true here more = ap (λ t. t || sets_have_trims (without_set buffer sets)) here ∙ more
    by false here more = more

sets_plain : (k : EventKind) (buffer : ℕ) (sets : List BufferSet) → sets_have_trims sets ≡ false → sets_have_trims (sets_after k buffer sets) ≡ false
sets_plain kind.Closing buffer sets e = fewer_plain buffer sets e
sets_plain _ buffer sets e = e

after_plain : (k : EventKind) (buffer : ℕ) (client : Client) → HasNoTrims (Some client) → HasNoTrims (Some (after_event k buffer client))
after_plain k buffer client plain = (plain.0, sets_plain k buffer client.sets plain.1)

heard_plain : (k : EventKind) (buffer link : ℕ) (clients : List Client) → HasNoTrims (at_key client_link link clients) → HasNoTrims (at_key client_link link (map (after_event k buffer) clients))
heard_plain k buffer link [] plain = plain
heard_plain k buffer link (client ∷ clients) plain = by (eqb (client_link client) link) plain (heard_plain k buffer link clients) where
  by : (b : Bool) → HasNoTrims (cond b (Some client) (at_key client_link link clients)) → (HasNoTrims (at_key client_link link clients) → HasNoTrims (at_key client_link link (map (after_event k buffer) clients)))
      → HasNoTrims (cond b (Some (after_event k buffer client)) (at_key client_link link (map (after_event k buffer) clients)))
  by true plain more = after_plain k buffer client plain
  by false plain more = more plain

pub plain-heard : (limit : Option ℕ) (k : EventKind) (buffer link : ℕ) (clients : List Client) → IsPlain limit (at_key client_link link clients) → IsPlain limit (at_key client_link link (map (after_event k buffer) clients))
plain-heard None k buffer link clients plain = tt
plain-heard (Some limit) k buffer link clients plain = heard_plain k buffer link clients plain

-- ---- events

none_told : (world : World) (parts : List Notice) (client : Client) → asks_events client ≡ false → parts_told world parts client ≡ []
unfolding part_told
none_told world [] client e = refl
none_told world (part ∷ parts) client e =
    let more = none_told world parts (after_event part.kind part.buffer.0 client) (heard_nothing part.kind part.buffer.0 client e) in
    rw (follows_none part.kind part.buffer.0 client e) more

pub told_nothing : (world : World) (notice : Notice) (client : Client) → asks_events client ≡ false → notice_told world notice client ≡ []
told_nothing world notice client e = none_told world (parts_of world notice) client e

-- a part that is told whoever follows all events
abbrev pub IsHeard : Option ℕ → EventKind → Type 0
IsHeard limit kind.LinesTrimmed = IsUnlimited limit
IsHeard limit _ = Unit {0}

module _ (limit : Option ℕ) (world : World) (part : Notice) where
  -- the messages of an event of this kind
  abbrev messages_as : EventKind → List WireMessage
  messages_as k = if_fits (option_map (λ objects. record { id = id_of k; objects = objects }) (objects_of world k part))

  -- of a touched row, and of another limit, nothing is told
  told_as : (k : EventKind) (client : Client) → IsHeard limit k → follows_all limit client ≡ true → cond (follows k part.buffer.0 client) (messages_as k) no_messages ≡ messages_as k
  unfolding objects_of
  told_as kind.NickTouched client heard e = refl
  told_as kind.LimitSet client heard e = refl
  told_as kind.LinesTrimmed client heard e = ap (λ b. cond b (messages_as kind.LinesTrimmed) no_messages) (follows_each limit kind.LinesTrimmed part.buffer.0 client heard e)
  told_as k client heard e = ap (λ b. cond b (messages_as k) no_messages) (follows_each limit k part.buffer.0 client tt e)

  -- a client that follows all events is told each
  told_each : (client : Client) → IsHeard limit part.kind → follows_all limit client ≡ true → part_told world part client ≡ event_messages world part
  unfolding part_told
  told_each client heard e = told_as part.kind client heard e

-- whoever keeps no limit of its own hears all parts
heard_all : (k : EventKind) → IsHeard None k
heard_all kind.LinesTrimmed = tt
heard_all _ = tt

all_told : (world : World) (parts : List Notice) (client : Client) → follows_all None client ≡ true → parts_told world parts client ≡ flat_map (event_messages world) parts
all_told world [] client e = refl
all_told world (part ∷ parts) client e =
    let here = told_each None world part client (heard_all part.kind) e in
    let more = all_told world parts (after_event part.kind part.buffer.0 client) e in
    λ i. here i ++ more i

-- of lines that went nothing is told to whoever did not ask for it
untrimmed : (world : World) (trims : List Trim) (client : Client) → HasNoTrims (Some client) → parts_told world (map trim_part trims) client ≡ []
unfolding part_told
untrimmed world [] client plain = refl
untrimmed world (trim ∷ trims) client plain =
    let more = untrimmed world trims client plain in
    rw (trims_unfollowed trim.buffer.0 client plain) more

-- the kind of the event of a change, and of that of flags
abbrev pub IsOwn : EventKind → Type 0
IsOwn kind.LinesTrimmed = ⊥
IsOwn _ = Unit {0}

abbrev AreOwn : List Notice → Type 0
AreOwn parts = AllByRecursion (λ (part : Notice). IsOwn part.kind) parts

own_heard : (limit : Option ℕ) (k : EventKind) → IsOwn k → IsHeard limit k
own_heard limit kind.LinesTrimmed own = absurd own
own_heard limit _ own = tt

each_own : (flips : List Handle) (buffers : List ℕ) → AreOwn (map (flag_part flips) buffers)
each_own flips [] = tt
each_own flips (buffer ∷ buffers) = (tt, each_own flips buffers)

flags_own : (world : World) (flips : List Handle) → AreOwn (flag_parts world flips)
flags_own world [] = tt
flags_own world (flip ∷ flips) = each_own (flip ∷ flips) (filter (has_flips world (flip ∷ flips)) (order world.groups))

-- all but the lines that went
own_told : (limit : ℕ) (world : World) (parts : List Notice) (trims : List Trim) (client : Client) → AreOwn parts → follows_all (Some limit) client ≡ true → HasNoTrims (Some client)
    → parts_told world (parts ++ map trim_part trims) client ≡ flat_map (event_messages world) parts
own_told limit world [] trims client own e plain = untrimmed world trims client plain
own_told limit world (part ∷ parts) trims client own e plain =
    let here = told_each (Some limit) world part client (own_heard (Some limit) part.kind own.0) e in
    let more = own_told limit world parts trims (after_event part.kind part.buffer.0 client) own.1 e (after_plain part.kind part.buffer.0 client plain) in
    λ i. here i ++ more i

-- a client that follows all events is told the parts that a mirror needs
pub told_heard : (limit : Option ℕ) (world : World) (notice : Notice) (client : Client) → IsOwn notice.kind → follows_all limit client ≡ true → IsPlain limit (Some client)
    → notice_told world notice client ≡ flat_map (event_messages world) (heard_parts limit world notice)
told_heard None world notice client own e plain = all_told world (parts_of world notice) client e
told_heard (Some limit) world notice client own e plain = own_told limit world (notice ∷ flag_parts world notice.flips) notice.trims client (own, flags_own world notice.flips) e plain

-- ---- pushes

module _ (buffer : Handle) where
  pub pushed_nothing : (push : Push) (client : Client) → asks_events client ≡ false → push_told buffer push client ≡ []
  unfolding push_told
  pushed_nothing push client e = rw (follows_none (push_kind push) buffer.0 client e) refl

  -- a client that follows all events is told each
  pub pushed_each : (limit : Option ℕ) (push : Push) (client : Client) → follows_all limit client ≡ true → push_told buffer push client ≡ push_messages buffer push
  unfolding push_told
  pushed_each limit Nothing client e = refl
  pushed_each limit (Diff items) client e = ap (λ b. cond b (push_messages buffer (Diff items)) no_messages) (follows_each limit kind.NicklistDiff buffer.0 client tt e)
  pushed_each limit (Full items) client e = ap (λ b. cond b (push_messages buffer (Full items)) no_messages) (follows_each limit kind.Nicklist buffer.0 client tt e)
