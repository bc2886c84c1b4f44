-- A push gives each client that follows the rows of now in place of those that were told.
use Rattle.std.proofs.Common.{◌≡◌, ℕ, ◌+◌, ◌-◌, ◌<◌, ◌≤◌, ◌^◌, Bool, true, false, cond, ◌||◌, eqb, eq-eqb, eqb-true, nat_lt, List, [], ◌∷◌, ◌++◌, map, length, codes, Option, Some, None, is_some, unwrap_or, refl, sym, ap, subst, ◌∙◌, arith}
use Rattle.std.specs.Prelude.{IfSome}
use Rattle.std.specs.FinMap.{get, insert}
use Rattle.std.specs.List.{AllByRecursion, flat_map}
use Rattle.std.proofs.lemmas.Bool.{false≢true}
use Rattle.std.proofs.lemmas.Bool.Decides.{nat_tests}
use Rattle.std.proofs.lemmas.List.{length-map}
use Rattle.wc_text.specs.declared.names.Handle.{Handle}
use Rattle.wc_text.specs.Splits.{BeginsWithout}
use Rattle.wc_nicklist.specs.declared.item.Item.{Item}
use Rattle.wc_nicklist.specs.declared.item.Row.{Row}
use Rattle.wc_nicklist.proofs.OrderLaws.{by_bool}
use Rattle.wc_nickdiff.specs.declared.diff_item.DiffItem.{DiffItem}
use Rattle.wc_nickdiff.specs.declared.diff_item.Push.{Push}
use Rattle.wc_nickdiff.specs.declared.diff_item.Push.TheVariants.{Nothing, Diff, Full}
use Rattle.wc_nickdiff.specs.NickPush.{root_item, full_list, diff, push_of, nick_push}
use Rattle.wc_outside.specs.Keyed.{at_key}
use Rattle.wc_buffers.specs.declared.row.BufferEntry.{BufferEntry}
use Rattle.wc_buffers.specs.Calls.{handle_of}
use Rattle.wc_buffers.specs.Groups.{rows, has, in_group, times_in}
use Rattle.wc_model.specs.declared.notice.EventKind.TheVariants as kind
use Rattle.wc_model.specs.World.{rows_at, root_at}
use Rattle.wc_world.proofs.GroupRows.{some_row, in_rows}
use Rattle.wc_world.proofs.MapLemmas.{alike}
use Rattle.wc_objects.specs.declared.object.WireMessage.{WireMessage}
use Rattle.wc_objects.specs.Spelling.{message_bytes}
use Rattle.wc_objects.specs.Within.{ItemWithin}
use Rattle.wc_keys.specs.Events.{id_of}
use Rattle.wc_keys.proofs.EventIds.{id_text}
use Rattle.wc_events.specs.NickForms.{IsPushText}
use Rattle.wc_events.specs.NickObjects.{nick_path, nick_keys, diff_keys, nick_item, diff_item, nick_objects, diff_objects, push_kind, push_message, nick_dump}
use Rattle.wc_events.proofs.NicksFormed.{diff_formed, full_formed}
use Rattle.wc_events.proofs.PushTexts.{push_text}
use Rattle.wc_session.specs.declared.client.Client.{Client}
use Rattle.wc_session.specs.Event.{push_told, push_messages}
use Rattle.wc_session.specs.Sending.{fits}
use Rattle.wc_session.specs.Sync.{follows}
use Rattle.wc_session.proofs.SendingLemmas.{fits_within}
use Rattle.wc_view.specs.Ids.{IsFree}
use Rattle.wc_view.proofs.NickPushed.{push_shows}
use Rattle.wc_board.specs.Told.{Told}
use Rattle.wc_core.specs.State.{State, told_at}
use Rattle.wc_core.specs.Step.{client_link, push_at, pushes_of, push_step}
use Rattle.wc_core.specs.Served.{messages_to}
use Rattle.wc_core.proofs.MessageLemmas.{messages_to-append}
use Rattle.wc_mirror_laws.specs.Held.{HeldPart, Lines, Buffers, Nicks, NicksHeld, HeldOf, HasToldNicks, Has}
use Rattle.wc_mirror_laws.specs.Kept.{is_first_alone, IsStateKept}
use Rattle.wc_mirror_laws.specs.Mirrors.{fold_all, mirror_after, PushKeeps, PushMirrors, ListsFit}
use Rattle.wc_mirror_laws.specs.Nicks.{AreRowsKept}
use Rattle.wc_mirror_laws.specs.Settled.{client_on, follows_all, is_following}
use Rattle.wc_mirror_laws.specs.Worlds.{IsBufferKept}
use Rattle.wc_mirror_laws.proofs.ChangeLemmas.{acts_spelt, clients_spelt, Tells}
use Rattle.wc_mirror_laws.proofs.ClientLemmas.{told-first, pushed_nothing, pushed_each}
use Rattle.wc_mirror_laws.proofs.DiffItems.{of_diff, of_full}
use Rattle.wc_mirror_laws.proofs.HeldLemmas.{fold_all-append, nicks_told}
use Rattle.wc_mirror_laws.proofs.IdLemmas.{event_apart, id_free}
use Rattle.wc_mirror_laws.proofs.LimitLemmas.{counts_same}
use Rattle.wc_mirror_laws.proofs.ListLemmas.{all_map}
use Rattle.wc_mirror_laws.proofs.MapLemmas.{get_put}
use Rattle.wc_mirror_laws.proofs.NewsLemmas.{news_put}
use Rattle.wc_mirror_laws.proofs.NickDumps.{IsItemKept, root_kept, items_kept, nick_small, diff_small, nick_dump_size}
use Rattle.wc_mirror_laws.proofs.NickRows.{tellable}
use Rattle.wc_mirror_laws.proofs.NoticeLemmas.{found_key}
use Rattle.wc_mirror_laws.proofs.RootEvents.{push_roots}
use Rattle.wc_mirror_laws.proofs.RowLemmas.{row_has, times_rows}
use Rattle.wc_mirror_laws.proofs.SizeLemmas.{IsSmall, spelt_size, message_size}
use Rattle.wc_mirror_laws.proofs.TellingLemmas.{AllSpelt, AreGood, fitting_spelt, whole_message, messages_of}
use Rattle.wc_mirror_laws.proofs.WithinLemmas.{nick_within, nicks_within, diff_within, items_within}
use Rattle.wc_mirror_laws.proofs.WorldLemmas.{once}

-- ---- what is pushed keeps its limits

-- items within their limits, at most one more than a world has rows
abbrev IsPushKept : Push → Type 0
IsPushKept Nothing = Unit {0}
IsPushKept (Diff ds) = AllByRecursion (λ (d : DiffItem). IsItemKept d.item) ds × (length ds ≤ 1048577)
IsPushKept (Full items) = AllByRecursion IsItemKept items × (length items ≤ 1048577)

push_of_kept : (root : Item) (ds : List DiffItem) (now : List Row) → AllByRecursion (λ (d : DiffItem). IsItemKept d.item) ds → AllByRecursion IsItemKept (full_list root now) → length now ≤ 1048576 → IsPushKept (push_of root ds now)
push_of_kept root [] now of_ds of_now few = tt
push_of_kept root (d ∷ ds) now of_ds of_now few = by_bool (nat_lt (length (d ∷ ds)) (length now + 1)) _
    (λ t. rw t (of_ds, grind (arith, nat_tests, few)))
    (λ t. rw t (of_now, omega (arith, few, length-map now (λ (r : Row). r.item))))

push_kept : (next buffer : ℕ) (told now : List Row) → next ≤ 2 ^ 62 + 1 → buffer < next → AreRowsKept next told → AreRowsKept next now → IsPushKept (nick_push (root_at buffer) told now)
push_kept next buffer told now ended below was is =
    let root : Handle = root_at buffer in
    let base = root_kept root (omega arith) in
    let old = items_kept next told ended was in
    let new = items_kept next now ended is in
    push_of_kept (root_item root) (diff (root_item root) told now) now (of_diff IsItemKept root base told now old new) (of_full IsItemKept root base now new) is.few

-- ---- what is pushed keeps the rules of messages and fits in one

abbrev full_message : Handle → List Item → WireMessage
full_message buffer items = record { id = id_of kind.Nicklist; objects = nick_objects (map (nick_item buffer) items) }

abbrev diff_message : Handle → List DiffItem → WireMessage
diff_message buffer ds = record { id = id_of kind.NicklistDiff; objects = diff_objects (map (diff_item buffer) ds) }

record IsMessageGood (m : WireMessage) : Type 0 where
  good : AreGood m.objects
  short : length (message_bytes m.id m.objects) ≤ 2 ^ 31 - 1

abbrev IsPushGood : Handle → Push → Type 0
IsPushGood buffer Nothing = Unit {0}
IsPushGood buffer (Diff ds) = IsMessageGood (diff_message buffer ds)
IsPushGood buffer (Full items) = IsMessageGood (full_message buffer items)

push_good : (buffer : Handle) (push : Push) → buffer.0 < 2 ^ 64 → IsPushText push → IsPushKept push → IsPushGood buffer push
push_good buffer Nothing small text kept = tt
push_good buffer (Diff ds) small text kept =
    let items = map (diff_item buffer) ds in
    let few = kept.1 in
    record {
      good = record {
        formed = diff_formed buffer ds text;
        within = items_within nick_path diff_keys items (all_map (λ (d : DiffItem). IsItemKept d.item) ItemWithin (diff_item buffer) ds (λ d is. diff_within buffer d small is.handle) kept.0);
      };
      short = message_size (id_of kind.NicklistDiff) nick_path diff_keys items (omega arith)
          (spelt_size nick_path diff_keys items (omega arith) (omega arith) (omega (arith, few, length-map ds (diff_item buffer)))
          (all_map (λ (d : DiffItem). IsItemKept d.item) IsSmall (diff_item buffer) ds (λ d is. diff_small buffer d small is) kept.0));
    }
push_good buffer (Full list) small text kept =
    let items = map (nick_item buffer) list in
    let few = kept.1 in
    record {
      good = record {
        formed = full_formed buffer list text;
        within = nicks_within items (all_map IsItemKept ItemWithin (nick_item buffer) list (λ i is. nick_within buffer i small is.handle) kept.0);
      };
      short = message_size (id_of kind.Nicklist) nick_path nick_keys items (omega arith)
          (spelt_size nick_path nick_keys items (omega arith) (omega arith) (omega (arith, few, length-map list (nick_item buffer)))
          (all_map IsItemKept IsSmall (nick_item buffer) list (λ i is. nick_small buffer i small is) kept.0));
    }

push_spelt : (buffer : Handle) (push : Push) → IsPushGood buffer push → AllSpelt (push_messages buffer push)
push_spelt buffer Nothing is = tt
push_spelt buffer (Diff ds) is = fitting_spelt (diff_message buffer ds) (id_text kind.NicklistDiff) is.good
push_spelt buffer (Full items) is = fitting_spelt (full_message buffer items) (id_text kind.Nicklist) is.good

-- no push is too long to be told
push_whole : (buffer : Handle) (push : Push) → IsPushGood buffer push → push_messages buffer push ≡ messages_of (push_message buffer push)
push_whole buffer Nothing is = refl
push_whole buffer (Diff ds) is = whole_message (diff_message buffer ds) is.short
push_whole buffer (Full items) is = whole_message (full_message buffer items) is.short

-- the push of a buffer
buffer_good : (link : ℕ) (state : State) (e : BufferEntry) → IsStateKept link state → IsBufferKept state.world.next e → IsPushGood e.row.handle (push_at state (handle_of e))
buffer_good link state e kept is =
    let h = handle_of e in
    let was = kept.told.rows h in
    let now = kept.world.nicks.rows h in
    let below = is.below in
    let ended = kept.world.ended in
    push_good e.row.handle (push_at state h) (omega arith) (push_text (root_at h) (told_at state h) (rows_at state.world h) was.held now.held)
    (push_kept state.world.next h (told_at state h) (rows_at state.world h) kept.world.ended is.below was now)

-- ---- the messages of pushes

told_spelt : (buffer : Handle) (push : Push) (client : Client) → AllSpelt (push_messages buffer push) → AllSpelt (push_told buffer push client)
unfolding push_told
told_spelt buffer push client all = by (follows (push_kind push) buffer.0 client) where
  by : (b : Bool) → AllSpelt (cond b (push_messages buffer push) [])
  by true = all
  by false = tt

pushes_spelt : (link : ℕ) (state : State) (es : List BufferEntry) → IsStateKept link state → AllByRecursion (IsBufferKept state.world.next) es → AllSpelt (messages_to link (flat_map (pushes_of state) (map handle_of es)))
pushes_spelt link state [] kept each = tt
pushes_spelt link state (e ∷ es) kept each =
    let push : Push = push_at state (handle_of e) in
    acts_spelt link (pushes_of state (handle_of e)) (flat_map (pushes_of state) (map handle_of es))
    (clients_spelt link (push_told e.row.handle push) state.clients (λ client. told_spelt e.row.handle push client (push_spelt e.row.handle push (buffer_good link state e kept each.0))))
    (pushes_spelt link state es kept each.1)

-- the messages of the push of a buffer
abbrev pushed_at : State → ℕ → List WireMessage
pushed_at state buffer = push_messages (record { 0 = buffer }) (push_at state buffer)

-- the client of a link that follows all events is sent all of them
all_pushed : (limit : Option ℕ) (link : ℕ) (state : State) (client : Client) → is_first_alone link state.clients ≡ true → at_key client_link link state.clients ≡ Some client → follows_all limit client ≡ true → (buffers : List ℕ)
    → messages_to link (flat_map (pushes_of state) buffers) ≡ flat_map (pushed_at state) buffers
all_pushed limit link state client first at all [] = refl
all_pushed limit link state client first at all (b ∷ buffers) =
    let buffer : Handle = record { 0 = b } in
    let push : Push = push_at state b in
    let here : messages_to link (pushes_of state b) ≡ pushed_at state b = told-first link (push_told buffer push) (pushed_nothing buffer push) state.clients client first at ∙ pushed_each buffer limit push client all in
    messages_to-append link (pushes_of state b) (flat_map (pushes_of state) buffers) ∙ (λ i. here i ++ all_pushed limit link state client first at all buffers i)

-- ---- what a client makes of them

-- lines and buffers stay
lines_stay : (limit : Option ℕ) (id : List ℕ) (part : HeldOf Lines) (buffer : Handle) (push : Push) → BeginsWithout 95 id → fold_all Lines limit id part (messages_of (push_message buffer push)) ≡ part
lines_stay limit id part buffer Nothing free = refl
lines_stay limit id part buffer (Diff ds) free = rw (event_apart (codes "nicklist_diff") id free) refl
lines_stay limit id part buffer (Full items) free = rw (event_apart (codes "nicklist") id free) refl

buffers_stay : (limit : Option ℕ) (id : List ℕ) (part : HeldOf Buffers) (buffer : Handle) (push : Push) → BeginsWithout 95 id → fold_all Buffers limit id part (messages_of (push_message buffer push)) ≡ part
buffers_stay limit id part buffer Nothing free = refl
buffers_stay limit id part buffer (Diff ds) free = rw (event_apart (codes "nicklist_diff") id free) refl
buffers_stay limit id part buffer (Full items) free = rw (event_apart (codes "nicklist") id free) refl

all_stay : (which : HeldPart) (limit : Option ℕ) (link : ℕ) (id : List ℕ) (state : State) (part : HeldOf which) (es : List BufferEntry) → IsStateKept link state → AllByRecursion (IsBufferKept state.world.next) es
    → ((buffer : Handle) (push : Push) → fold_all which limit id part (messages_of (push_message buffer push)) ≡ part) → fold_all which limit id part (flat_map (pushed_at state) (map handle_of es)) ≡ part
all_stay which limit link id state part [] kept each stays = refl
all_stay which limit link id state part (e ∷ es) kept each stays =
    let push : Push = push_at state (handle_of e) in
    let rest = flat_map (pushed_at state) (map handle_of es) in
    let here : fold_all which limit id part (pushed_at state (handle_of e)) ≡ part = ap (fold_all which limit id part) (push_whole e.row.handle push (buffer_good link state e kept each.0)) ∙ stays e.row.handle push in
    fold_all-append which limit id part (pushed_at state (handle_of e)) rest ∙ ap (λ part. fold_all which limit id part rest) here ∙ all_stay which limit link id state part es kept each.1 stays

stored : (o : Option (List Row)) → is_some o ≡ true → o ≡ Some (unwrap_or o [])
stored None e = absurd (false≢true e)
stored (Some list) e = refl

not_in : (h : ℕ) (es : List BufferEntry) → times_in handle_of h es ≡ 0 → in_group handle_of h es ≡ false
not_in h [] none = refl
not_in h (e ∷ es) none =
    let other : eqb (handle_of e) h ≡ false = grind (arith, nat_tests, none) in
    let left : times_in handle_of h es ≡ 0 = omega arith in
    rw other (not_in h es left)

-- A client that has the rows that were told of these buffers, each of which is there once, and those of now of all others
-- has those of now of all.
nicks_pushed : (limit : Option ℕ) (link : ℕ) (id : List ℕ) (state : State) (es : List BufferEntry) (held : NicksHeld) (m : Told) → IsStateKept link state → IsFree id → AllByRecursion (IsBufferKept state.world.next) es
    → ((q : ℕ) → times_in handle_of q es ≤ 1) → ((q : ℕ) → in_group handle_of q es ≡ true → has handle_of q state.world.groups ≡ true)
    → ((q : ℕ) → get m q ≡ cond (in_group handle_of q es) (get state.told q) (get state.world.nicks q)) → HasToldNicks held m
    → HasToldNicks (fold_all Nicks limit id held (flat_map (pushed_at state) (map handle_of es))) state.world.nicks
nicks_pushed limit link id state [] held m kept free each once among at had = subst (HasToldNicks held) (alike m state.world.nicks at) had
nicks_pushed limit link id state (e ∷ es) held m kept free each once among at had =
    let nicks = state.world.nicks in
    let h = handle_of e in
    let buffer = e.row.handle in
    let push : Push = push_at state h in
    let old = told_at state h in
    let now = rows_at state.world h in
    let same : eqb h h ≡ true = eq-eqb h h refl in
    let here : in_group handle_of h (e ∷ es) ≡ true = ap (λ b. b || in_group handle_of h es) same in
    let there : has handle_of h state.world.groups ≡ true = among h here in
    let was : get m h ≡ Some old = at h ∙ ap (λ b. cond b (get state.told h) (get nicks h)) here ∙ stored (get state.told h) (kept.told.there h ∙ there) in
    let is : get nicks h ≡ Some now = stored (get nicks h) (kept.world.nicks.there h ∙ there) in
    let all : cond (eqb h h) 1 0 + times_in handle_of h es ≤ 1 = once h in
    let none : times_in handle_of h es ≡ 0 = (let one : 1 + times_in handle_of h es ≤ 1 = rw same at all in omega arith) in
    let tells = tellable state.world.next old (kept.told.rows h) in
    let shows = tellable state.world.next now (kept.world.nicks.rows h) in
    let one : HasToldNicks (fold_all Nicks limit id held (messages_of (push_message buffer push))) (insert m h now) =
    nicks_told limit id held m (insert m h now) (push_message buffer push) had (push_shows id m (root_at h) buffer old now free was tells shows) (push_roots id held.roots m buffer old now free was tells shows had.roots)
    in
    let first = subst (λ ms. HasToldNicks (fold_all Nicks limit id held ms) (insert m h now)) (sym (push_whole buffer push (buffer_good link state e kept each.0))) one in
    let rest = flat_map (pushed_at state) (map handle_of es) in
    subst (λ held. HasToldNicks held nicks) (sym (fold_all-append Nicks limit id held (pushed_at state h) rest))
    (nicks_pushed limit link id state es (fold_all Nicks limit id held (pushed_at state h)) (insert m h now) kept free each.1
    (λ q. let most = once q in omega arith) (λ q t. among q (right (eqb h q) (in_group handle_of q es) t))
    (λ q. get_put m h now q ∙ next q (eqb q h) refl (not_in h es none) is) first)
  where
    right : (b c : Bool) → c ≡ true → b || c ≡ true
    right true c t = refl
    right false c t = t

    turned : (q k : ℕ) → eqb q k ≡ false → eqb k q ≡ false
    turned q k t = grind (arith, nat_tests)

    next : (q : ℕ) (b : Bool) → eqb q (handle_of e) ≡ b → in_group handle_of (handle_of e) es ≡ false → get state.world.nicks (handle_of e) ≡ Some (rows_at state.world (handle_of e))
        → cond b (Some (rows_at state.world (handle_of e))) (get m q) ≡ cond (in_group handle_of q es) (get state.told q) (get state.world.nicks q)
    next q true t none is =
        let same : q ≡ handle_of e = eqb-true q (handle_of e) t in
        subst (λ q. Some (rows_at state.world (handle_of e)) ≡ cond (in_group handle_of q es) (get state.told q) (get state.world.nicks q)) (sym same)
        (sym (ap (λ b. cond b (get state.told (handle_of e)) (get state.world.nicks (handle_of e))) none ∙ is))
    next q false t none is = at q ∙ ap (λ b. cond (b || in_group handle_of q es) (get state.told q) (get state.world.nicks q)) (turned q (handle_of e) t)

-- ---- all buffers

pushed_right : (which : HeldPart) (limit : Option ℕ) (link : ℕ) (id : List ℕ) (state : State) (part : HeldOf which) → IsStateKept link state → BeginsWithout 95 id → Has which part state
    → Has which (fold_all which limit id part (flat_map (pushed_at state) (map handle_of (rows state.world.groups)))) (push_step state).state
pushed_right Lines limit link id state part kept free had =
    subst (λ part. Has Lines part (push_step state).state) (sym (all_stay Lines limit link id state part (rows state.world.groups) kept kept.world.each (λ buffer push. lines_stay limit id part buffer push free))) had
pushed_right Buffers limit link id state part kept free had =
    subst (λ part. Has Buffers part (push_step state).state) (sym (all_stay Buffers limit link id state part (rows state.world.groups) kept kept.world.each (λ buffer push. buffers_stay limit id part buffer push free))) had
pushed_right Nicks limit link id state part kept free had =
    nicks_pushed limit link id state (rows state.world.groups) part state.told kept (id_free id free) kept.world.each
    (λ q. let one = once state.world.limit state.world kept.world q in omega (arith, one, times_rows handle_of q state.world.groups))
    (λ q t. sym (in_rows handle_of q state.world.groups) ∙ t) at had
  where
    either : (a b : Option (List Row)) (t : Bool) → is_some a ≡ t → is_some b ≡ t → a ≡ cond t a b
    either a b true p q = refl
    either None None false p q = refl
    either None (Some y) false p q = absurd (false≢true (sym q))
    either (Some x) b false p q = absurd (false≢true (sym p))

    at : (q : ℕ) → get state.told q ≡ cond (in_group handle_of q (rows state.world.groups)) (get state.told q) (get state.world.nicks q)
    at q =
        let there = in_rows handle_of q state.world.groups in
        either (get state.told q) (get state.world.nicks q) (in_group handle_of q (rows state.world.groups)) (kept.told.there q ∙ sym there) (kept.world.nicks.there q ∙ sym there)

-- no limit of lines has a part in it
pub push_right : (which : HeldPart) (limit : Option ℕ) (link : ℕ) (id : List ℕ) (state : State) (part : HeldOf which) → IsStateKept link state → BeginsWithout 95 id → is_following limit (client_on link state) ≡ true → Has which part state
    → Has which (mirror_after which limit link id part (push_step state).acts) (push_step state).state
push_right which limit link id state part kept free follows had = by (client_on link state) refl follows where
  by : (o : Option Client) → client_on link state ≡ o → is_following limit o ≡ true → Has which (mirror_after which limit link id part (push_step state).acts) (push_step state).state
  by None at follows = absurd (false≢true follows)
  by (Some client) at follows =
      let buffers = map handle_of (rows state.world.groups) in
      subst (λ ms. Has which (fold_all which limit id part ms) (push_step state).state) (sym (all_pushed limit link state client kept.first at follows buffers)) (pushed_right which limit link id state part kept free had)

-- what was told is then what there is
pub Tells-pushes : (which : HeldPart) (limit : Option ℕ) (link : ℕ) (id : List ℕ) (state : State) → BeginsWithout 95 id → IsStateKept link state → Tells which limit link id state (push_step state)
Tells-pushes which limit link id state free kept = record {
  following = refl;
  kept = record { most = kept.most; world = kept.world; once = kept.once; shown = kept.shown; told = kept.world.nicks; texts = kept.texts; rows = kept.rows; news = kept.news; there = kept.there; first = kept.first };
  plain = λ plain. plain;
  counts = counts_same state.world;
  spelt = pushes_spelt link state (rows state.world.groups) kept kept.world.each;
  news = news_put state (push_step state).state (push_step state).acts refl refl;
  right = λ follows plain stays part had. push_right which limit link id state part kept free follows had;
}

pub push_keeps : PushKeeps
push_keeps link state kept = (Tells-pushes Lines None link [] state tt kept).kept

pub push_mirrors : (which : HeldPart) → PushMirrors which
push_mirrors which limit link id state part kept free follows had = push_right which limit link id state part kept free follows had

-- ---- each fits in a message

whole_fits : (buffer : Handle) (push : Push) → IsPushGood buffer push → IfSome (push_message buffer push) (λ m. fits m ≡ true)
whole_fits buffer Nothing is = tt
whole_fits buffer (Diff ds) is = fits_within (diff_message buffer ds) is.short
whole_fits buffer (Full items) is = fits_within (full_message buffer items) is.short

pub lists_fit : ListsFit
lists_fit link state kept = (
  λ buffer there.
      let r = some_row handle_of buffer.0 state.world.groups there in
      let own : IsBufferKept state.world.next r.0 = row_has (IsBufferKept state.world.next) handle_of buffer.0 (rows state.world.groups) r.0 r.1 kept.world.each in
      let key : handle_of r.0 ≡ buffer.0 = found_key buffer.0 (rows state.world.groups) r.0 r.1 in
      subst (λ h. IfSome (push_message (record { 0 = h }) (push_at state h)) (λ m. fits m ≡ true)) key
      (whole_fits r.0.row.handle (push_at state (handle_of r.0)) (buffer_good link state r.0 kept own)),
  λ id known. fits_within (record { id = id; objects = nick_dump state.world }) (nick_dump_size state.world.limit id state.world known kept.world),
)
