-- Each message that is replied keeps the rules.
use Rattle.std.proofs.Common.{◌≡◌, ℕ, ◌^◌, ◌<◌, Bool, true, false, cond, not, ◌&&◌, ◌||◌, List, [], ◌∷◌, codes, Option, Some, None, option_map, refl, arith}
use Rattle.std.specs.Prelude.{ℤ}
use Rattle.std.specs.List.{AllByRecursion}
use Rattle.std.specs.Option.{is_none}
use Rattle.std.specs.Int.{w8, w32, w64}
use Rattle.std.specs.Int.RustNames.{FitsSigned}
use Rattle.std.specs.Str.{IsUtf8, bytes_eq, is_utf8, chars}
use Rattle.std.proofs.lemmas.Str.{IsUtf8-from_is_utf8}
use lib.Utf8.{encode}
use denote.Hole.Carrier.{out}
use Rattle.wc_text.specs.declared.names.Cause.TheVariants as cause
use Rattle.wc_text.specs.declared.names.Handle.{Handle}
use Rattle.wc_text.specs.declared.names.Pair.{Pair}
use Rattle.wc_buffers.specs.declared.row.BufferEntry.{BufferEntry}
use Rattle.wc_buffers.specs.Calls.{EntryGroups, handle_of, entry_of}
use Rattle.wc_buffers.specs.Groups.{rows}
use Rattle.wc_model.specs.World.{World}
use Rattle.wc_objects.specs.declared.kind.Kind.{Kind}
use Rattle.wc_objects.specs.declared.kind.Kind.TheVariants as k
use Rattle.wc_objects.specs.declared.object.Object.{Object}
use Rattle.wc_objects.specs.declared.object.Object.TheVariants as o
use Rattle.wc_objects.specs.declared.object.Object.TheViews.{out-Object, out-roll-Object}
use Rattle.wc_objects.specs.declared.object.WireMessage.{WireMessage}
use Rattle.wc_objects.specs.Within.{SimpleWithin, PairWithin, ObjectWithin}
use Rattle.wc_relaycmd.specs.declared.algorithm.Algorithm.{Algorithm}
use Rattle.wc_relaycmd.specs.declared.request.Command.{Command}
use Rattle.wc_relaycmd.specs.declared.request.Command.TheVariants as ask
use Rattle.wc_relaycmd.specs.declared.request.Request.{Request}
use Rattle.wc_relaycmd.specs.Utf8.{CommandUtf8, RequestIsUtf8}
use Rattle.wc_events.specs.NickObjects.{nick_objects, root_and_rows}
use Rattle.wc_hdata.specs.declared.path.Path.{Path}
use Rattle.wc_hdata.specs.declared.refused.WalkRefused.{WalkRefused}
use Rattle.wc_hdata.specs.Answers.{path_of}
use Rattle.wc_hdata.specs.Hdata.{refusal, walk_object}
use Rattle.wc_hdata.specs.Infos.{info_of}
use Rattle.wc_hdata.proofs.SoundWalks.{sound_formed, walk_within}
use Rattle.wc_session.specs.declared.client.Client.{Client}
use Rattle.wc_session.specs.declared.outcome.Outcome.TheVariants as outcome
use Rattle.wc_hotlist.specs.declared.row.HotRow.{HotRow}
use Rattle.wc_session.specs.Hotlists.{hotlist_objects, hotlist_text}
use Rattle.wc_mirror_laws.specs.Kept.{AreSmall}
use Rattle.wc_mirror_laws.proofs.BesideGood.{null_good, hotlist_good, completion_good}
use Rattle.wc_session.specs.Handshakes.{choice_in, algorithm_for, asks_escapes, entry, handshake_table, handshake_objects}
use Rattle.wc_session.specs.Logins.{pairs_let_in}
use Rattle.wc_session.specs.Names.{buffer_named}
use Rattle.wc_session.specs.Reply.{Answer, silent, leaves, replies, test_texts, test_numbers, test_objects, hdata_answered, hdata_objects, path_objects, unless_refused, info_objects, infolist_objects, or_null, list_of_named, nicklist_objects, pong_objects, shaken, handshake_reply, handshake_answer, init_answer, typed_into, input_answer, is_open, served, reply_of}
use Rattle.wc_session.specs.Sending.{message, fits, fitting, null_hdata, reply}
use Rattle.wc_session.specs.RequestContext.{Context}
use Rattle.wc_session.specs.Heeded.{password_of, masks_of}
use Rattle.wc_session.proofs.Formed.{info_formed, infolist_formed, pong_formed, test_formed, handshake_formed}
use Rattle.wc_mirror_laws.specs.Worlds.{IsBufferKept, IsWorldKept}
use Rattle.wc_mirror_laws.proofs.NickDumps.{nick_dump_good, nick_list_good}
use Rattle.wc_mirror_laws.proofs.RowLemmas.{row_has}
use Rattle.wc_mirror_laws.proofs.TellingLemmas.{AllSpelt, AreGood, one_spelt, fitting_spelt}
use Rattle.wc_mirror_laws.proofs.WorldSound.{infolist_within, world_sound}
use Rattle.wc_hdata.proofs.ValuesWithin.{simple_str}

-- ---- the numbers of objects

str_within : (text : Option (List ℕ)) → ObjectWithin (o.Str text)
unfolding ObjectWithin out-Object out
str_within text = tt

buf_within : (text : Option (List ℕ)) → ObjectWithin (o.Buf text)
unfolding ObjectWithin out-Object out
buf_within text = tt

inf_within : (name value : Option (List ℕ)) → ObjectWithin (o.Inf name value)
unfolding ObjectWithin out-Object out
inf_within name value = tt

chr_within : (n : ℤ) → FitsSigned w8 n → ObjectWithin (o.Chr n)
unfolding ObjectWithin out-Object out
chr_within n fit = fit

int_within : (n : ℤ) → FitsSigned w32 n → ObjectWithin (o.Int n)
unfolding ObjectWithin out-Object out
int_within n fit = fit

lon_within : (n : ℤ) → FitsSigned w64 n → ObjectWithin (o.Lon n)
unfolding ObjectWithin out-Object out
lon_within n fit = fit

tim_within : (n : ℤ) → FitsSigned w64 n → ObjectWithin (o.Tim n)
unfolding ObjectWithin out-Object out
tim_within n fit = fit

ptr_within : (n : ℕ) → n < 2 ^ 64 → ObjectWithin (o.Ptr n)
unfolding ObjectWithin out-Object out
ptr_within n fit = fit

simple_int : (n : ℤ) → FitsSigned w32 n → SimpleWithin (o.Int n)
unfolding SimpleWithin out-Object out
simple_int n fit = fit

arr_within : (values : List Object) → AllByRecursion SimpleWithin values → (kind : Kind) → ObjectWithin (o.Arr kind values)
unfolding ObjectWithin
arr_within values all kind = rw (← o.rolls-Arr kind values, out-roll-Object) all

htb_within : (table : List (Object × Object)) → AllByRecursion PairWithin table → ObjectWithin (o.Htb k.Str k.Str table)
unfolding ObjectWithin
htb_within table all = rw (← o.rolls-Htb k.Str k.Str table, out-roll-Object) all

-- ---- replies

walk_good : (limit : ℕ) (world : World) (path : Path) (keys : List ℕ) → IsWorldKept limit world → AreGood (walk_object world path keys ∷ [])
walk_good limit world path keys is =
    let sound = world_sound limit world is in
    record { formed = sound_formed world path keys sound; within = (walk_within world path keys sound, tt) }

hdata_good : (limit : ℕ) (world : World) (text keys : List ℕ) → IsWorldKept limit world → AreGood (hdata_objects world text keys)
unfolding hdata_objects
hdata_good limit world text keys is = by (path_of text) where
  told : (path : Path) (o : Option WalkRefused) → AreGood (unless_refused o (walk_object world path keys))
  told path None = walk_good limit world path keys is
  told path (Some refused) = null_good

  by : (o : Option Path) → AreGood (path_objects world keys o)
  by None = null_good
  by (Some path) = told path (refusal world path keys)

answered_good : (limit : ℕ) (world : World) (rows : List HotRow) (text keys : List ℕ) → IsWorldKept limit world → AreSmall rows → AreGood (hdata_answered world rows text keys)
unfolding hdata_answered
answered_good limit world rows text keys is small = by (bytes_eq text hotlist_text) where
  by : (b : Bool) → AreGood (cond b (hotlist_objects rows keys) (hdata_objects world text keys))
  by true = hotlist_good rows keys small
  by false = hdata_good limit world text keys is

nicklist_good : (limit : ℕ) (world : World) (buffer : Option (List ℕ)) → IsWorldKept limit world → AreGood (nicklist_objects world buffer)
unfolding nicklist_objects
nicklist_good limit world None is = nick_dump_good limit world is
nicklist_good limit world (Some name) is = by (buffer_named world.groups name) where
  found : (h : Handle) (o : Option BufferEntry) → entry_of h world.groups ≡ o → AreGood (or_null (option_map (λ e. nick_objects (root_and_rows world e)) o))
  found h None at = null_good
  found h (Some e) at = nick_list_good limit world e is (row_has (IsBufferKept world.next) handle_of h.0 (rows world.groups) e at is.each)

  by : (o : Option Handle) → AreGood (or_null (list_of_named world o))
  by None = null_good
  by (Some h) = found h (entry_of h world.groups) refl

test_within : AllByRecursion ObjectWithin test_objects
unfolding test_objects
test_within = (
  chr_within _ (record { sfits = omega arith }),
  (
    int_within _ (record { sfits = omega arith }),
    (
      int_within _ (record { sfits = omega arith }),
      (
        lon_within _ (record { sfits = omega arith }),
        (
          lon_within _ (record { sfits = omega arith }),
          (
            str_within _,
            (
              str_within _,
              (
                str_within _,
                (
                  buf_within _,
                  (
                    buf_within _,
                    (
                      ptr_within _ (omega arith),
                      (
                        ptr_within _ (omega arith),
                        (
                          tim_within _ (record { sfits = omega arith }),
                          (
                            arr_within test_texts (simple_str _, (simple_str _, tt)) k.Str,
                            (arr_within test_numbers (simple_int _ (record { sfits = omega arith }), (simple_int _ (record { sfits = omega arith }), (simple_int _ (record { sfits = omega arith }), tt))) k.Int, tt),
                          ),
                        ),
                      ),
                    ),
                  ),
                ),
              ),
            ),
          ),
        ),
      ),
    ),
  ),
)

test_good : AreGood test_objects
test_good = record { formed = test_formed; within = test_within }

info_good : (name : List ℕ) → IsUtf8 name → AreGood (info_objects name)
info_good name text = record { formed = info_formed name text; within = (inf_within (Some name) (info_of name), tt) }

infolist_good : (limit : ℕ) (world : World) (name argument : List ℕ) → IsWorldKept limit world → IsUtf8 name → AreGood (infolist_objects world name argument)
infolist_good limit world name argument is text = record {
  formed = infolist_formed world name argument (λ h e at. (row_has (IsBufferKept world.next) handle_of h.0 (rows world.groups) e at is.each).fit) text;
  within = infolist_within limit world name argument is;
}

pong_good : (text : List ℕ) → IsUtf8 text → AreGood (pong_objects text)
pong_good text utf8 = record { formed = pong_formed text utf8; within = (str_within (Some text), tt) }

entry_within : (name value : List ℕ) → PairWithin (entry name value)
entry_within name value = (simple_str (Some name), simple_str (Some value))

table_within : (nonce : List ℕ) (choice : Option Algorithm) (escapes : Bool) → AllByRecursion PairWithin (handshake_table nonce choice escapes)
unfolding handshake_table
table_within nonce choice escapes = (
  entry_within _ _,
  (entry_within _ _, (entry_within _ _, (entry_within _ _, (entry_within _ _, (entry_within _ _, tt))))),
)

handshake_good : (nonce : List ℕ) (choice : Option Algorithm) (escapes : Bool) → AreGood (handshake_objects nonce choice escapes)
handshake_good nonce choice escapes = record {
  formed = handshake_formed nonce choice escapes;
  within = (htb_within (handshake_table nonce choice escapes) (table_within nonce choice escapes), tt);
}

-- a reply with such objects
reply_spelt : (id : List ℕ) (objects : List Object) → IsUtf8 id → AreGood objects → AllSpelt (reply id objects)
unfolding reply
reply_spelt id objects text good = by (fits (message id objects)) refl where
  by : (b : Bool) → fits (message id objects) ≡ b → AllSpelt (cond b (message id objects ∷ []) (fitting (message id null_hdata)))
  by true e = (one_spelt (message id objects) text good e, tt)
  by false e = fitting_spelt (message id null_hdata) text null_good

if_spelt : (b : Bool) (x y : Answer) → AllSpelt x.messages → AllSpelt y.messages → AllSpelt (cond b x y).messages
if_spelt true x y p q = p
if_spelt false x y p q = q

replies_spelt : (client : Client) (messages : List WireMessage) → AllSpelt messages → AllSpelt (replies client messages).messages
replies_spelt client [] all = tt
replies_spelt client (m ∷ messages) all = all

handshake_spelt : (masks : List ℕ) (client : Client) (id : List ℕ) (pairs : List Pair) → IsUtf8 id → AllSpelt (handshake_answer masks client id pairs).messages
unfolding handshake_answer
handshake_spelt masks client id pairs text =
    let messages = handshake_reply masks client id pairs in
    let all = reply_spelt id (handshake_objects client.nonce (choice_in masks pairs) (asks_escapes pairs)) text (handshake_good client.nonce (choice_in masks pairs) (asks_escapes pairs)) in
    if_spelt (not client.logged_in && is_none (choice_in masks pairs))
    (record { messages = messages; outcome = outcome.Leave cause.LoginFailed; client = shaken masks client pairs })
    (replies (shaken masks client pairs) messages) all (replies_spelt (shaken masks client pairs) messages all)

init_spelt : (masks password : List ℕ) (client : Client) (pairs : List Pair) → AllSpelt (init_answer masks password client pairs).messages
unfolding init_answer
init_spelt masks password client pairs =
    let let_in : Client = record client { logged_in = true } in
    if_spelt client.logged_in (silent client) (cond (pairs_let_in pairs password client.nonce (algorithm_for masks client.chosen)) (silent let_in) (leaves client cause.LoginFailed))
    tt (if_spelt (pairs_let_in pairs password client.nonce (algorithm_for masks client.chosen)) (silent let_in) (leaves client cause.LoginFailed) tt tt)

input_spelt : (groups : EntryGroups) (client : Client) (buffer text : List ℕ) → AllSpelt (input_answer groups client buffer text).messages
input_spelt groups client buffer text = by (buffer_named groups buffer) where
  by : (o : Option Handle) → AllSpelt (typed_into client text o).messages
  by None = tt
  by (Some h) = tt

pong_is_text : is_utf8 (codes "_pong") ≡ true
unfolding is_utf8 chars encode
pong_is_text = refl

pong_text : IsUtf8 (codes "_pong")
pong_text = IsUtf8-from_is_utf8 (codes "_pong") pong_is_text

served_spelt : (limit : ℕ) (world : World) (context : Context) (client : Client) (id : List ℕ) (command : Command) → IsWorldKept limit world → AreSmall context.hotlist → IsUtf8 id → CommandUtf8 command → AllSpelt (served world context client id command).messages
unfolding served CommandUtf8
served_spelt limit world context client id (ask.Handshake pairs) is small text utf8 = handshake_spelt (masks_of context.options) client id pairs text
served_spelt limit world context client id (ask.Init pairs) is small text utf8 = init_spelt (masks_of context.options) (password_of context.options) client pairs
served_spelt limit world context client id (ask.Hdata path keys) is small text utf8 = replies_spelt client _ (reply_spelt id _ text (answered_good limit world context.hotlist path keys is small))
served_spelt limit world context client id (ask.Info name) is small text utf8 = replies_spelt client _ (reply_spelt id _ text (info_good name utf8))
served_spelt limit world context client id (ask.Infolist name argument) is small text utf8 = replies_spelt client _ (reply_spelt id _ text (infolist_good limit world name argument is utf8.0))
served_spelt limit world context client id (ask.Nicklist buffer) is small text utf8 = replies_spelt client _ (reply_spelt id _ text (nicklist_good limit world buffer is))
served_spelt limit world context client id (ask.Input buffer typed) is small text utf8 = input_spelt world.groups client buffer typed
served_spelt limit world context client id (ask.Completion buffer position typed) is small text utf8 = replies_spelt client _ (reply_spelt id _ text (completion_good world context.commands buffer position typed utf8.1))
served_spelt limit world context client id (ask.Sync buffers asked) is small text utf8 = tt
served_spelt limit world context client id (ask.Desync buffers asked) is small text utf8 = tt
served_spelt limit world context client id ask.Test is small text utf8 = replies_spelt client _ (reply_spelt id _ text test_good)
served_spelt limit world context client id (ask.Ping typed) is small text utf8 = replies_spelt client _ (reply_spelt (codes "_pong") _ pong_text (pong_good typed utf8))
served_spelt limit world context client id ask.Quit is small text utf8 = tt

-- what a request gets
pub answer_spelt : (limit : ℕ) (world : World) (context : Context) (client : Client) (request : Request) → IsWorldKept limit world → AreSmall context.hotlist → RequestIsUtf8 request → AllSpelt (reply_of world context client request).messages
unfolding reply_of
answer_spelt limit world context client request is small utf8 =
    if_spelt (client.logged_in || is_open request.command) (served world context client request.id request.command) (leaves client cause.LoginFailed)
    (served_spelt limit world context client request.id request.command is small utf8.id utf8.command) tt
