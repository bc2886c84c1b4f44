-- What a client makes of the event of a change and of a dump, for each part that it may hold.
use Rattle.std.proofs.Common.{◌≡◌, ℕ, ◌-◌, ◌^◌, ◌≤◌, cond, List, [], ◌∷◌, ◌++◌, length, Option, Some, None, refl, sym, ap, subst, ◌∙◌, arith}
use Rattle.std.specs.Prelude.{Result, Ok, Err}
use Rattle.std.specs.List.{AllByRecursion, flat_map, cons_option}
use Rattle.std.proofs.lemmas.Slice.Eq.{bytes_eq-Decides}
use Rattle.wc_buffers.specs.Calls.{EntryGroups}
use Rattle.wc_buffers.specs.Groups.{AllFilled}
use Rattle.wc_buffers.specs.Kept.{handles}
use Rattle.wc_model.specs.declared.change.Change.{Change}
use Rattle.wc_model.specs.World.{World, lines_at, rows_at}
use Rattle.wc_model.specs.Apply.{refusal, after}
use Rattle.wc_model.specs.declared.notice.Notice.{Notice}
use Rattle.wc_model.specs.Notices.{notice}
use Rattle.wc_model.specs.Parts.{flag_part, trim_part}
use Rattle.wc_model.specs.Touches.{told_after}
use Rattle.wc_objects.specs.declared.object.Object.{Object}
use Rattle.wc_objects.specs.declared.object.WireMessage.{WireMessage}
use Rattle.wc_objects.specs.Spelling.{message_bytes}
use Rattle.wc_events.specs.LineObjects.{line_dump}
use Rattle.wc_events.specs.BufferObjects.{event_of, buffer_dump}
use Rattle.wc_events.specs.NickObjects.{nick_dump}
use Rattle.wc_session.specs.Event.{event_messages}
use Rattle.wc_session.specs.Sending.{message}
use Rattle.wc_view.specs.Ids.{IsFree}
use Rattle.wc_view.specs.Views.{HasAll, Suits, heard_parts, part_events, fold_all as fold_lines_all}
use Rattle.wc_view.specs.BufferViews.{HasBuffers, AreGrouped, fold_told_buffers}
use Rattle.wc_view.specs.NickFold.{NickPart, fold_nicks}
use Rattle.wc_view.specs.NickViews.{HasNicks, HasLists, fold_told_nicks}
use Rattle.wc_view.proofs.DumpLaw.{dump_shows}
use Rattle.wc_view.proofs.NoticeLaw.{notice_shows}
use Rattle.wc_view.proofs.BufferDump.{dump_shows as dump_shows_buffers}
use Rattle.wc_view.proofs.BufferLaw.{notice_shows as notice_shows_buffers, flag_shows as flag_shows_buffers, trim_shows as trim_shows_buffers}
use Rattle.wc_view.proofs.NickDump.{dump_shows as dump_shows_nicks}
use Rattle.wc_view.proofs.NickNotice.{notice_shows as notice_shows_nicks, flag_shows as flag_shows_nicks, trim_shows as trim_shows_nicks}
use Rattle.wc_board.specs.Told.{Told}
use Rattle.wc_core.specs.State.{State}
use Rattle.wc_core.specs.Step.{made_step}
use Rattle.wc_mirror_laws.specs.Held.{HeldPart, Lines, Buffers, Nicks, NicksHeld, HeldOf, fold_unrefused, fold_one, HasToldNicks, Has}
use Rattle.wc_mirror_laws.specs.Nicks.{AreListsKept}
use Rattle.wc_mirror_laws.specs.Roots.{HasRoots}
use Rattle.wc_mirror_laws.specs.Worlds.{IsWorldKept}
use Rattle.wc_mirror_laws.specs.Mirrors.{fold_all}
use Rattle.wc_mirror_laws.proofs.BufferSizes.{buffer_dump_size}
use Rattle.wc_mirror_laws.proofs.DumpLemmas.{few_groups}
use Rattle.wc_mirror_laws.proofs.NickDumps.{nick_dump_size}
use Rattle.wc_mirror_laws.proofs.NickRows.{tellable}
use Rattle.wc_mirror_laws.proofs.NoticeLemmas.{IsTelling, telling, trim_telling, flag_telling, others_heard, others_all, drawn, contents_differ, stands}
use Rattle.wc_mirror_laws.proofs.RootEvents.{fold_told_roots, change_roots, flag_roots, trim_roots, dump_roots}
use Rattle.wc_mirror_laws.proofs.SizeLemmas.{dump_size}
use Rattle.wc_mirror_laws.proofs.TellingLemmas.{messages_of, event_whole}
use Rattle.wc_mirror_laws.specs.Changes.{IsTold}
use Rattle.wc_mirror_laws.proofs.WorldLemmas.{once, limit_after, after_kept, limit_most}

-- ---- a world, in the words of the mirror's buffers

groups_filled : (groups : EntryGroups) → AllFilled (handles groups) → AllFilled groups
groups_filled [] all = tt
groups_filled ([] ∷ groups) all = absurd all
groups_filled ((e ∷ group) ∷ groups) all = groups_filled groups all

grouped : (limit : ℕ) (world : World) → IsWorldKept limit world → AreGrouped world
grouped limit world is = record {
  once = once limit world is;
  drawn = drawn limit world is;
  filled = groups_filled world.groups is.groups.filled;
  few = (let few = few_groups limit world is in omega arith);
}

-- the rows can be told
listed : (limit : ℕ) (world : World) → IsWorldKept limit world → HasLists world
listed limit world is = record {
  once = once limit world is;
  drawn = drawn limit world is;
  stored = is.nicks.there;
  rows = λ buffer. tellable world.next (rows_at world buffer) (is.nicks.rows buffer);
}

-- ---- the event of a change

pub fold_all-append : (which : HeldPart) (limit : Option ℕ) (id : List ℕ) (part : HeldOf which) (a b : List WireMessage) → fold_all which limit id part (a ++ b) ≡ fold_all which limit id (fold_all which limit id part a) b
fold_all-append which limit id part [] b = refl
fold_all-append which limit id part (m ∷ a) b = fold_all-append which limit id (fold_one which limit id part m) a b

lines_told : (limit : Option ℕ) (id : List ℕ) (part : HeldOf Lines) (messages : List WireMessage) → fold_all Lines limit id part messages ≡ fold_lines_all limit id part messages
lines_told limit id part [] = refl
lines_told limit id part (m ∷ messages) = lines_told limit id (fold_one Lines limit id part m) messages

buffers_told : (limit : Option ℕ) (id : List ℕ) (part : HeldOf Buffers) (o : Option WireMessage) → fold_all Buffers limit id part (messages_of o) ≡ fold_told_buffers id part o
buffers_told limit id part None = refl
buffers_told limit id part (Some m) = refl

-- rows and roots after an event, where there is one
pub nicks_told : (limit : Option ℕ) (id : List ℕ) (held : NicksHeld) (told new : Told) (o : Option WireMessage) → HasToldNicks held told → HasNicks (fold_told_nicks id (Some told) o) new → HasRoots (fold_told_roots id held.roots o) new
    → HasToldNicks (fold_all Nicks limit id held (messages_of o)) new
nicks_told limit id held told new None had rows roots = record { rows = had.rows ∙ rows; roots = roots }
nicks_told limit id held told new (Some m) had rows roots = record { rows = ap (λ r. fold_unrefused id r m) had.rows ∙ rows; roots = roots }

-- ---- the parts of a notice

-- the messages of these
abbrev pub parts_messages : World → List Notice → List WireMessage
parts_messages v parts = flat_map (event_messages v) parts

heard : (own : Option ℕ) (v : World) (n : Notice) → heard_parts own v n ≡ n ∷ others_heard own v n
heard None v n = refl
heard (Some limit) v n = refl

heard_telling : (own : Option ℕ) (limit : ℕ) (v : World) (n : Notice) → IsWorldKept limit v → IsTelling n → AllByRecursion IsTelling (heard_parts own v n)
heard_telling own limit v n is tells = subst (AllByRecursion IsTelling) (sym (heard own v n)) (tells, others_all IsTelling own limit v n is tells flag_telling trim_telling)

one_more : (o : Option WireMessage) (messages : List WireMessage) → messages_of o ++ messages ≡ cons_option o messages
one_more None messages = refl
one_more (Some m) messages = refl

-- none of them is too long to be told
parts_whole : (limit : ℕ) (v : World) (parts : List Notice) → limit ≤ 4096 → IsWorldKept limit v → AllByRecursion IsTelling parts → parts_messages v parts ≡ part_events v parts
parts_whole limit v [] most is all = refl
parts_whole limit v (part ∷ parts) most is all =
    let here = event_whole limit v part most is all.0 in
    let more = parts_whole limit v parts most is all.1 in
    (λ i. here i ++ more i) ∙ one_more (event_of v part) (part_events v parts)

-- what is had stays true of what a client makes of a part
abbrev Stays : (which : HeldPart) → Option ℕ → List ℕ → World → (HeldOf which → Type 0) → Notice → Type 0
Stays which limit id v P part = (held : HeldOf which) → P held → P (fold_all which limit id held (event_messages v part))

-- the event of a change, and then others that leave a part as it is
own_and_others : (which : HeldPart) (limit : Option ℕ) (id : List ℕ) (part : HeldOf which) (v : World) (n : Notice) (P : HeldOf which → Type 0)
    → P (fold_all which limit id part (event_messages v n)) → AllByRecursion (Stays which limit id v P) (others_heard limit v n) → P (fold_all which limit id part (parts_messages v (heard_parts limit v n)))
own_and_others which limit id part v n P own others =
    subst (λ parts. P (fold_all which limit id part (parts_messages v parts))) (sym (heard limit v n))
    (subst P (sym (fold_all-append which limit id part (event_messages v n) (parts_messages v (others_heard limit v n))))
    (go (others_heard limit v n) (fold_all which limit id part (event_messages v n)) others own))
  where
    go : (parts : List Notice) (held : HeldOf which) → AllByRecursion (Stays which limit id v P) parts → P held → P (fold_all which limit id held (parts_messages v parts))
    go [] held all p = p
    go (part ∷ parts) held all p =
        let now = fold_all which limit id held (event_messages v part) in
        subst P (sym (fold_all-append which limit id held (event_messages v part) (parts_messages v parts))) (go parts now all.1 (all.0 held p))

-- the buffers after one part
buffers_heard : (own : Option ℕ) (limit : ℕ) (id : List ℕ) (held : HeldOf Buffers) (v : World) (part : Notice) → limit ≤ 4096 → IsWorldKept limit v → IsTelling part
    → fold_all Buffers own id held (event_messages v part) ≡ fold_told_buffers id held (event_of v part)
buffers_heard own limit id held v part most is tells = ap (fold_all Buffers own id held) (event_whole limit v part most is tells) ∙ buffers_told own id held (event_of v part)

-- the rows and the roots after one part
nicks_heard : (own : Option ℕ) (limit : ℕ) (id : List ℕ) (held : NicksHeld) (told new : Told) (v : World) (part : Notice) → limit ≤ 4096 → IsWorldKept limit v → IsTelling part → HasToldNicks held told
    → HasNicks (fold_told_nicks id (Some told) (event_of v part)) new → HasRoots (fold_told_roots id held.roots (event_of v part)) new → HasToldNicks (fold_all Nicks own id held (event_messages v part)) new
nicks_heard own limit id held told new v part most is tells had rows roots =
    subst (λ held. HasToldNicks held new) (sym (ap (fold_all Nicks own id held) (event_whole limit v part most is tells))) (nicks_told own id held told new (event_of v part) had rows roots)

-- whoever had a part has it after the events that it heard of
pub change_right : (which : HeldPart) (limit : Option ℕ) (id : List ℕ) (part : HeldOf which) (state : State) (change : Change) → state.world.limit ≤ 4096 → IsWorldKept state.world.limit state.world
    → AreListsKept state.world.next state.world.groups state.told → IsTold change.what → IsFree id → refusal state.world change ≡ None → Suits limit state.world → Suits limit (after state.world change) → Has which part state
    → Has which (fold_all which limit id part (parts_messages (after state.world change) (heard_parts limit (after state.world change) (notice state.world change)))) (made_step state change).state
change_right Lines limit id part state change most kept lists told free good before then had =
    let w = state.world in
    let v = after w change in
    let n = notice w change in
    let parts = heard_parts limit v n in
    let is = after_kept w.limit w change.buffer change.what kept told good in
    let tells = telling w.limit w change.buffer change.what most kept told good in
    let now = limit_after w.limit change.what in
    let whole = parts_whole now v parts (limit_most w.limit change.what told most) is (heard_telling limit now v n is tells) in
    subst (λ part. HasAll part v) (sym (ap (fold_all Lines limit id part) whole ∙ lines_told limit id part (part_events v parts)))
    (notice_shows limit id part w change (stands w.limit w most kept) before then free good (λ buffer. contents_differ v.next (lines_at v buffer) (is.apart buffer)) had)
change_right Buffers limit id part state change most kept lists told free good before then had =
    let w = state.world in
    let v = after w change in
    let n = notice w change in
    let now = limit_after w.limit change.what in
    let is = after_kept w.limit w change.buffer change.what kept told good in
    let least = limit_most w.limit change.what told most in
    let tells = telling w.limit w change.buffer change.what most kept told good in
    let has = λ (held : HeldOf Buffers). HasBuffers held v in
    own_and_others Buffers limit id part v n has (subst has (sym (buffers_heard limit now id part v n least is tells)) (notice_shows_buffers id part w change (grouped w.limit w kept) free good had))
    (others_all (Stays Buffers limit id v has) limit now v n is tells
    (λ flips buffer small held p. subst has (sym (buffers_heard limit now id held v (flag_part flips buffer) least is (flag_telling flips buffer small) ∙ flag_shows_buffers id held v flips buffer free)) p)
    (λ trim small held p. subst has (sym (buffers_heard limit now id held v (trim_part trim) least is (trim_telling trim small) ∙ trim_shows_buffers id held v trim free)) p))
change_right Nicks limit id part state change most kept lists told free good before then had =
    let w = state.world in
    let v = after w change in
    let n = notice w change in
    let now = limit_after w.limit change.what in
    let new = told_after w change.buffer change.what state.told in
    let is = after_kept w.limit w change.buffer change.what kept told good in
    let least = limit_most w.limit change.what told most in
    let tells = telling w.limit w change.buffer change.what most kept told good in
    let has = λ (held : NicksHeld). HasToldNicks held new in
    own_and_others Nicks limit id part v n has
    (nicks_heard limit now id part state.told new v n least is tells had
    (notice_shows_nicks id state.told w change (listed w.limit w kept) (λ buffer. lists.there buffer ∙ sym (kept.nicks.there buffer)) free good)
    (change_roots id part.roots state.told w change.buffer change.what free had.roots))
    (others_all (Stays Nicks limit id v has) limit now v n is tells
    (λ flips buffer small held p. nicks_heard limit now id held new new v (flag_part flips buffer) least is (flag_telling flips buffer small) p (flag_shows_nicks id (Some new) v flips buffer free)
    (subst (λ roots. HasRoots roots new) (sym (flag_roots id held.roots v flips buffer free)) p.roots))
    (λ trim small held p. nicks_heard limit now id held new new v (trim_part trim) least is (trim_telling trim small) p (trim_shows_nicks id (Some new) v trim free)
    (subst (λ roots. HasRoots roots new) (sym (trim_roots id held.roots v trim free)) p.roots)))

-- ---- the dump

abbrev pub dump_of : HeldPart → World → List Object
dump_of Lines world = line_dump world
dump_of Buffers world = buffer_dump world.groups
dump_of Nicks world = nick_dump world

-- under an id that a line can hold
pub dump_short : (which : HeldPart) (limit : ℕ) (id : List ℕ) (world : World) → length id ≤ 65536 → limit ≤ 4096 → IsWorldKept limit world → length (message_bytes id (dump_of which world)) ≤ 2 ^ 31 - 1
dump_short Lines limit id world known most is = dump_size limit id world known most is
dump_short Buffers limit id world known most is = buffer_dump_size limit id world known is
dump_short Nicks limit id world known most is = nick_dump_size limit id world known is

-- what the dump shows was told: of nicklists this is so after a push
abbrev pub IsAllTold : HeldPart → State → Type 0
IsAllTold Lines state = Unit {0}
IsAllTold Buffers state = Unit {0}
IsAllTold Nicks state = state.told ≡ state.world.nicks

-- a dump sets the rows, whatever they were
rows_dumped : (limit : ℕ) (id : List ℕ) (rows : Result (Option NickPart) ℕ) (world : World) → IsWorldKept limit world → HasNicks (fold_unrefused id rows (message id (nick_dump world))) world.nicks
rows_dumped limit id (Ok part) world is = dump_shows_nicks id part world (listed limit world is)
rows_dumped limit id (Err place) world is =
    ap (λ b. cond b (fold_nicks id None (message id (nick_dump world))) (Err place)) ((bytes_eq-Decides id id).1 refl) ∙ dump_shows_nicks id None world (listed limit world is)

pub dump_shown : (which : HeldPart) (limit : Option ℕ) (id : List ℕ) (part : HeldOf which) (state : State) → state.world.limit ≤ 4096 → IsWorldKept state.world.limit state.world → Suits limit state.world → IsAllTold which state
    → Has which (fold_one which limit id part (message id (dump_of which state.world))) state
dump_shown Lines limit id part state most is suits told = dump_shows limit id part state.world (stands state.world.limit state.world most is) suits
dump_shown Buffers limit id part state most is suits told = dump_shows_buffers id part state.world (grouped state.world.limit state.world is)
dump_shown Nicks limit id part state most is suits told =
    subst (HasToldNicks (fold_one Nicks limit id part (message id (nick_dump state.world)))) (sym told)
    (record { rows = rows_dumped state.world.limit id part.rows state.world is; roots = dump_roots state.world.limit id part.roots state.world is })
