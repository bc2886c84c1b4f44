-- What the events of changes, pushes and the dump make of the roots that a client holds.
use Rattle.std.proofs.Common.{◌≡◌, ◌≢◌, ℕ, ◌+◌, ◌≤◌, ◌<◌, Bool, true, false, nat_lt, List, [], ◌∷◌, ◌++◌, map, length, codes, Option, Some, None, is_some, option_map, unwrap_or, bytes_eq, refl, sym, ap, subst, ◌∙◌, arith}
use Rattle.std.specs.FinMap.{get, insert, remove, empty}
use Rattle.std.specs.List.{AllByRecursion, flat_map}
use Rattle.std.specs.Option.{option_and_then}
use Rattle.std.proofs.lemmas.Bool.Decides.{nat_tests}
use Rattle.wc_text.specs.declared.names.Handle.{Handle}
use Rattle.wc_nicklist.specs.declared.item.Item.{Item}
use Rattle.wc_nicklist.specs.declared.item.Row.{Row}
use Rattle.wc_nicklist.proofs.OrderLaws.{by_bool}
use Rattle.wc_nickdiff.specs.declared.diff_item.DiffItem.{DiffItem}
use Rattle.wc_nickdiff.specs.NickPush.{root_item, full_list, diff, push_of, nick_push}
use Rattle.wc_buffers.specs.declared.row.BufferEntry.{BufferEntry}
use Rattle.wc_buffers.specs.Calls.{handle_of, entry_of, lacks_var}
use Rattle.wc_buffers.specs.Groups.{rows}
use Rattle.wc_model.specs.declared.change.What.{What}
use Rattle.wc_model.specs.declared.change.What.TheVariants.{Add, Close, MoveTo, MergeInto, Unmerge, Hide, Unhide, Rename, ShortName, Title, SetVar, RemoveVar, Print, Clear, Flips, AddGroup, AddNick, RemoveGroup, RemoveNick, ChangeGroup, ChangeNick, Limit}
use Rattle.wc_model.specs.declared.notice.EventKind.{EventKind}
use Rattle.wc_model.specs.declared.notice.EventKind.TheVariants as event
use Rattle.wc_model.specs.World.{World, lines_at, rows_at, root_at}
use Rattle.wc_model.specs.Apply.{after_of}
use Rattle.wc_model.specs.declared.notice.Trim.{Trim}
use Rattle.wc_model.specs.Notices.{notice_of, var_kind}
use Rattle.wc_model.specs.Parts.{flag_part, trim_part}
use Rattle.wc_model.specs.Touches.{told_after}
use Rattle.wc_world.proofs.GroupRows.{in_rows}
use Rattle.wc_objects.specs.declared.object.Object.{Object}
use Rattle.wc_objects.specs.declared.object.WireMessage.{WireMessage}
use Rattle.wc_events.specs.BufferObjects.{event_of, objects_of, flagged_objects, trim_objects}
use Rattle.wc_events.specs.NickObjects.{nick_path, nick_keys, nick_item, diff_item, nick_objects, diff_objects, push_message, root_and_rows, nick_dump}
use Rattle.wc_session.specs.Sending.{message}
use Rattle.wc_view.specs.Each.{onto, each}
use Rattle.wc_view.specs.Ids.{IsFree}
use Rattle.wc_view.specs.NickRows.{nick_row_in, nick_rows_on, nick_changes_on}
use Rattle.wc_view.specs.NickViews.{AreTellable}
use Rattle.wc_view.proofs.LineTold.{items_told, same_bytes, named_told}
use Rattle.wc_view.proofs.NickPushed.{few_listed}
use Rattle.wc_view.proofs.NickTold.{IsFew, AreFew, AreFewChanges, row_at, rows_told, change_at, changes_told}
use Rattle.wc_view.proofs.NoticeLaw.{other_id, message_of, told_of as told_objects}
use Rattle.wc_board.specs.Told.{Told, told_of}
use Rattle.wc_mirror_laws.specs.Roots.{RootPart, with_items, with_items_told, with_dump_told, without_named, paired, rows_in, fold_roots, HasRoots}
use Rattle.wc_mirror_laws.specs.Worlds.{IsWorldKept}
use Rattle.wc_mirror_laws.proofs.DiffItems.{of_diff, first_long}
use Rattle.wc_mirror_laws.proofs.ListLemmas.{all_map}
use Rattle.wc_mirror_laws.proofs.NickRows.{tellable}
use Rattle.wc_mirror_laws.proofs.RootLemmas.{IsOwn, IsRight, at_buffer, rows_own, IsAmong, put_roots, full_roots, diff_roots, closed_roots, list_read, lists_roots}

-- the roots after an event, where there is one
abbrev pub fold_told_roots : List ℕ → RootPart → Option WireMessage → RootPart
fold_told_roots id roots None = roots
fold_told_roots id roots (Some m) = fold_roots id roots m

-- ---- events that tell of no root

abbrev is_rootless : EventKind → Bool
is_rootless event.Closing = false
is_rootless event.Nicklist = false
is_rootless event.NicklistDiff = false
is_rootless event.NickTouched = false
is_rootless event.LimitSet = false
is_rootless _ = true

rootless_var : (b : Bool) → is_rootless (var_kind b) ≡ true
rootless_var true = refl
rootless_var false = refl

rootless_message : (id : List ℕ) (roots : RootPart) (kind : EventKind) (objects : List Object) → is_rootless kind ≡ true → IsFree id → fold_roots id roots (message_of kind objects) ≡ roots
rootless_message id roots event.Opened objects e free = rw (other_id (codes "buffer_opened") id free) refl
rootless_message id roots event.Moved objects e free = rw (other_id (codes "buffer_moved") id free) refl
rootless_message id roots event.Merged objects e free = rw (other_id (codes "buffer_merged") id free) refl
rootless_message id roots event.Unmerged objects e free = rw (other_id (codes "buffer_unmerged") id free) refl
rootless_message id roots event.Hidden objects e free = rw (other_id (codes "buffer_hidden") id free) refl
rootless_message id roots event.Unhidden objects e free = rw (other_id (codes "buffer_unhidden") id free) refl
rootless_message id roots event.Renamed objects e free = rw (other_id (codes "buffer_renamed") id free) refl
rootless_message id roots event.TitleChanged objects e free = rw (other_id (codes "buffer_title_changed") id free) refl
rootless_message id roots event.VarAdded objects e free = rw (other_id (codes "buffer_localvar_added") id free) refl
rootless_message id roots event.VarChanged objects e free = rw (other_id (codes "buffer_localvar_changed") id free) refl
rootless_message id roots event.VarRemoved objects e free = rw (other_id (codes "buffer_localvar_removed") id free) refl
rootless_message id roots event.Cleared objects e free = rw (other_id (codes "buffer_cleared") id free) refl
rootless_message id roots event.LineAdded objects e free = rw (other_id (codes "buffer_line_added") id free) refl
rootless_message id roots event.LineDataChanged objects e free = rw (other_id (codes "buffer_line_data_changed") id free) refl
rootless_message id roots event.Closing objects e free = absurd (let z = e in cc)
rootless_message id roots event.Nicklist objects e free = absurd (let z = e in cc)
rootless_message id roots event.NicklistDiff objects e free = absurd (let z = e in cc)
rootless_message id roots event.NickTouched objects e free = absurd (let z = e in cc)
rootless_message id roots event.LimitSet objects e free = absurd (let z = e in cc)
rootless_message id roots event.LinesTrimmed objects e free = rw (other_id (codes "buffer_lines_trimmed") id free) refl

rootless : (id : List ℕ) (roots : RootPart) (kind : EventKind) (objects : Option (List Object)) → is_rootless kind ≡ true → IsFree id → fold_told_roots id roots (option_map (message_of kind) objects) ≡ roots
rootless id roots kind None e free = refl
rootless id roots kind (Some objects) e free = rootless_message id roots kind objects e free

-- the roots after the event of a change
abbrev roots_after : List ℕ → RootPart → World → Handle → What → RootPart
roots_after id roots w h a = fold_told_roots id roots (event_of (after_of w h a) (notice_of w (after_of w h a) h a))

-- no buffer is closed
abbrev StaysOpen : What → Type 0
StaysOpen Close = ⊥
StaysOpen _ = Unit {0}

stays : (id : List ℕ) (roots : RootPart) (w : World) (h : Handle) (a : What) → StaysOpen a → IsFree id → roots_after id roots w h a ≡ roots
unfolding objects_of
stays id roots w h (Add spec) is free = rootless id roots event.Opened (told_objects w h (Add spec)) refl free
stays id roots w h Close is free = absurd is
stays id roots w h (MoveTo number) is free = rootless id roots event.Moved (told_objects w h (MoveTo number)) refl free
stays id roots w h (MergeInto into) is free = rootless id roots event.Merged (told_objects w h (MergeInto into)) refl free
stays id roots w h Unmerge is free = rootless id roots event.Unmerged (told_objects w h Unmerge) refl free
stays id roots w h Hide is free = rootless id roots event.Hidden (told_objects w h Hide) refl free
stays id roots w h Unhide is free = rootless id roots event.Unhidden (told_objects w h Unhide) refl free
stays id roots w h (Rename name flips) is free = rootless id roots event.Renamed (told_objects w h (Rename name flips)) refl free
stays id roots w h (ShortName name) is free = rootless id roots event.Renamed (told_objects w h (ShortName name)) refl free
stays id roots w h (Title title) is free = rootless id roots event.TitleChanged (told_objects w h (Title title)) refl free
stays id roots w h (SetVar var) is free =
    let new = lacks_var var.name (entry_of h w.groups) in
    rootless id roots (var_kind new) (told_objects w h (SetVar var)) (rootless_var new) free
stays id roots w h (RemoveVar name) is free = rootless id roots event.VarRemoved (told_objects w h (RemoveVar name)) refl free
stays id roots w h (Print line) is free = rootless id roots event.LineAdded (told_objects w h (Print line)) refl free
stays id roots w h Clear is free = rootless id roots event.Cleared (told_objects w h Clear) refl free
stays id roots w h (Flips flips) is free = rootless id roots event.LineDataChanged (told_objects w h (Flips flips)) refl free
stays id roots w h (AddGroup parent item) is free = refl
stays id roots w h (AddNick group item) is free = refl
stays id roots w h (RemoveGroup name) is free = refl
stays id roots w h (RemoveNick name) is free = refl
stays id roots w h (ChangeGroup item) is free = refl
stays id roots w h (ChangeNick item) is free = refl
stays id roots w h (Limit limit) is free = refl

closes : (id : List ℕ) (roots : RootPart) (w : World) (h : Handle) → IsFree id → roots_after id roots w h Close ≡ remove roots h.0
unfolding after_of objects_of
closes id roots w h free =
    let notice = notice_of w (after_of w h Close) h Close in
    rw (other_id (codes "buffer_closing") id free) (ap (λ b. without_named b roots) (named_told notice))

pub change_roots : (id : List ℕ) (roots : RootPart) (told : Told) (w : World) (h : Handle) (a : What) → IsFree id → HasRoots roots told → HasRoots (roots_after id roots w h a) (told_after w h a told)
change_roots id roots told w h (Add spec) free has =
    subst (λ r. HasRoots r (insert told w.next [])) (sym (stays id roots w h (Add spec) tt free)) (put_roots roots told w.next [] (λ some. absurd (some refl)) has)
change_roots id roots told w h Close free has = subst (λ r. HasRoots r (remove told h.0)) (sym (closes id roots w h free)) (closed_roots roots told h.0 has)
change_roots id roots told w h a free has = subst (λ r. HasRoots r told) (sym (stays id roots w h a tt free)) has

-- lines that went change no root
pub trim_roots : (id : List ℕ) (roots : RootPart) (v : World) (trim : Trim) → IsFree id → fold_told_roots id roots (event_of v (trim_part trim)) ≡ roots
unfolding objects_of
trim_roots id roots v trim free = rootless id roots event.LinesTrimmed (Some (trim_objects trim)) refl free

-- nor do lines whose flags differ
pub flag_roots : (id : List ℕ) (roots : RootPart) (v : World) (flips : List Handle) (buffer : ℕ) → IsFree id → fold_told_roots id roots (event_of v (flag_part flips buffer)) ≡ roots
unfolding objects_of
flag_roots id roots v flips buffer free = rootless id roots event.LineDataChanged (flagged_objects (record { 0 = buffer }) flips (lines_at v buffer)) refl free

-- ---- pushes

some_rows : (rows : List Row) → rows ≢ [] → 1 ≤ length rows
some_rows [] some = absurd (some refl)
some_rows (r ∷ rows) some = omega arith

-- where less than the whole list is sent some rows were told before
filled_before : (root : Item) (before now : List Row) → length (diff root before now) < length now + 1 → now ≢ [] → before ≢ []
filled_before root before now short some none =
    let long = first_long root now (some_rows now some) in
    let same : length (diff root before now) ≡ length (diff root [] now) = ap (λ rows. length (diff root rows now)) none in
    omega (arith, short, long, same)

-- what is told is what was put together for it
pairs_told : {X Y : Type 0} (o : Option (List X)) (pair : X → ℕ × Item) (make : Y → X) (ys : List Y) → o ≡ Some (map make ys) → paired o pair ≡ Some (map (λ y. pair (make y)) ys)
pairs_told {Y = Y} o pair make ys e = ap (λ o. paired o pair) e ∙ ap Some (twice ys) where
  twice : (ys : List Y) → map pair (map make ys) ≡ map (λ y. pair (make y)) ys
  twice [] = refl
  twice (y ∷ ys) = ap (λ zs. pair (make y) ∷ zs) (twice ys)

full_told : (id : List ℕ) (roots : RootPart) (buffer : Handle) (items : List Item) → IsFree id → AreFew items
    → fold_roots id roots (message_of event.Nicklist (nick_objects (map (nick_item buffer) items))) ≡ with_items (at_buffer buffer.0 items) roots
full_told id roots buffer items free few =
    rw (other_id (codes "nicklist") id free)
    (ap (λ told. with_items_told told roots) (pairs_told (nick_rows_on (nick_objects (map (nick_item buffer) items))) (λ row. (row.buffer, row.item)) (row_at buffer) items (rows_told buffer items few)))

-- the items of a diff
abbrev diff_read : ℕ → List DiffItem → List (ℕ × Item)
diff_read buffer ds = map (λ (d : DiffItem). (buffer, d.item)) ds

diff_told : (id : List ℕ) (roots : RootPart) (buffer : Handle) (ds : List DiffItem) → IsFree id → AreFewChanges ds
    → fold_roots id roots (message_of event.NicklistDiff (diff_objects (map (diff_item buffer) ds))) ≡ with_items (diff_read buffer.0 ds) roots
diff_told id roots buffer ds free few =
    rw (other_id (codes "nicklist_diff") id free)
    (ap (λ told. with_items_told told roots) (pairs_told (nick_changes_on (diff_objects (map (diff_item buffer) ds))) (λ change. (change.buffer, change.diff.item)) (change_at buffer) ds (changes_told buffer ds few)))

diff_right : (told : Told) (buffer : ℕ) (ds : List DiffItem) → is_some (get told buffer) ≡ true → AllByRecursion (λ (d : DiffItem). IsOwn buffer d.item) ds → AllByRecursion (IsRight (IsAmong told)) (diff_read buffer ds)
diff_right told buffer ds here own = all_map (λ (d : DiffItem). IsOwn buffer d.item) (IsRight (IsAmong told)) (λ (d : DiffItem). (buffer, d.item)) ds (λ d is. (here, is)) own

pub push_roots : (id : List ℕ) (roots : RootPart) (told : Told) (buffer : Handle) (before now : List Row) → IsFree id → get told buffer.0 ≡ Some before → AreTellable before → AreTellable now → HasRoots roots told
    → HasRoots (fold_told_roots id roots (push_message buffer (nick_push (root_at buffer.0) before now))) (insert told buffer.0 now)
push_roots id roots told buffer before now free at old new has =
    go (diff root before now) (of_diff IsFew (root_at buffer.0) (omega arith) before now old.levels new.levels)
    (of_diff (IsOwn buffer.0) (root_at buffer.0) (λ e. refl) before now (rows_own buffer.0 before old.held) (rows_own buffer.0 now new.held))
    (λ short some none. filled_before root before now short some (sym held ∙ none))
  where
    root : Item
    root = root_item (root_at buffer.0)

    held : told_of told buffer.0 ≡ before
    held = ap (λ o. unwrap_or o []) at

    go : (ds : List DiffItem) → AreFewChanges ds → AllByRecursion (λ (d : DiffItem). IsOwn buffer.0 d.item) ds → (length ds < length now + 1 → now ≢ [] → told_of told buffer.0 ≢ [])
        → HasRoots (fold_told_roots id roots (push_message buffer (push_of root ds now))) (insert told buffer.0 now)
    go [] few own some = put_roots roots told buffer.0 now (some (omega arith)) has
    go (d ∷ ds) few own some = by_bool (nat_lt (length (d ∷ ds)) (length now + 1)) _
        (λ t. rw t (subst (λ r. HasRoots r (insert told buffer.0 now)) (sym (diff_told id roots buffer (d ∷ ds) free few))
        (diff_roots roots told buffer.0 (diff_read buffer.0 (d ∷ ds)) now (diff_right told buffer.0 (d ∷ ds) (ap is_some at) own) (some (grind (arith, nat_tests))) has)))
        (λ t. rw t (subst (λ r. HasRoots r (insert told buffer.0 now)) (sym (full_told id roots buffer (full_list root now) free (few_listed (root_at buffer.0) now new.levels)))
        (full_roots roots told buffer.0 now (ap is_some at) new.held has)))

-- ---- the dump

-- what is told of two lists
paired_more : {X Y : Type 0} (f : X → Option Y) (pair : Y → ℕ × Item) (xs ys : List X) (p q : List (ℕ × Item)) → paired (each f xs) pair ≡ Some p → paired (each f ys) pair ≡ Some q → paired (each f (xs ++ ys)) pair ≡ Some (p ++ q)
paired_more {Y = Y} f pair [] ys p q e g = let none : [] ≡ p = (let z = e in cc) in g ∙ ap (λ p. Some (p ++ q)) none
paired_more {Y = Y} f pair (x ∷ xs) ys p q e g = by (f x) (each f xs) (each f (xs ++ ys)) (λ p e. paired_more f pair xs ys p q e g) e
  where
    by : (o : Option Y) (m n : Option (List Y)) → ((p : List (ℕ × Item)) → paired m pair ≡ Some p → paired n pair ≡ Some (p ++ q)) → paired (onto o m) pair ≡ Some p → paired (onto o n) pair ≡ Some (p ++ q)
    by None None n more e = absurd (let z = e in cc)
    by None (Some ms) n more e = absurd (let z = e in cc)
    by (Some y) None n more e = absurd (let z = e in cc)
    by (Some y) (Some ms) None more e = absurd (let z = more (map pair ms) refl in cc)
    by (Some y) (Some ms) (Some ns) more e =
        let rest : map pair ns ≡ map pair ms ++ q = (let z = more (map pair ms) refl in cc) in
        let same : pair y ∷ map pair ms ≡ p = (let z = e in cc) in
        ap (λ zs. Some (pair y ∷ zs)) rest ∙ ap (λ p. Some (p ++ q)) same

list_told : (buffer : Handle) (items : List Item) → AreFew items → paired (each nick_row_in (map (nick_item buffer) items)) (λ row. (row.buffer, row.item)) ≡ Some (at_buffer buffer.0 items)
list_told buffer items few =
    pairs_told (each nick_row_in (map (nick_item buffer) items)) (λ row. (row.buffer, row.item)) (row_at buffer) items
    (sym (ap (option_and_then (each nick_row_in)) (items_told nick_path nick_keys (map (nick_item buffer) items) refl refl)) ∙ rows_told buffer items few)

each_read : (limit : ℕ) (world : World) (es : List BufferEntry) → IsWorldKept limit world → paired (each nick_row_in (flat_map (root_and_rows world) es)) (λ row. (row.buffer, row.item)) ≡ Some (flat_map (list_read world) es)
each_read limit world [] is = refl
each_read limit world (e ∷ es) is =
    let h = handle_of e in
    let few = few_listed (root_at h) (rows_at world h) (tellable world.next (rows_at world h) (is.nicks.rows h)).levels in
    paired_more nick_row_in (λ row. (row.buffer, row.item)) (root_and_rows world e) (flat_map (root_and_rows world) es) (list_read world e) (flat_map (list_read world) es)
    (list_told e.row.handle (full_list (root_item (root_at h)) (rows_at world h)) few) (each_read limit world es is)

dump_read : (limit : ℕ) (world : World) → IsWorldKept limit world → rows_in (nick_dump world) ≡ Some (flat_map (list_read world) (rows world.groups))
dump_read limit world is =
    ap (λ items. paired (option_and_then (each nick_row_in) items) (λ row. (row.buffer, row.item))) (items_told nick_path nick_keys (flat_map (root_and_rows world) (rows world.groups)) refl refl)
    ∙ each_read limit world (rows world.groups) is

pub dump_roots : (limit : ℕ) (id : List ℕ) (roots : RootPart) (world : World) → IsWorldKept limit world → HasRoots (fold_roots id roots (message id (nick_dump world))) world.nicks
dump_roots limit id roots world is =
    subst (λ r. HasRoots r world.nicks) (sym (read (same_bytes id)))
    (lists_roots world (rows world.groups) (λ q. is.nicks.there q ∙ sym (in_rows handle_of q world.groups)) (λ q. (is.nicks.rows q).held))
  where
    read : bytes_eq id id ≡ true → fold_roots id roots (message id (nick_dump world)) ≡ with_items (flat_map (list_read world) (rows world.groups)) empty
    read same = rw same (ap (λ o. with_dump_told o roots) (dump_read limit world is))
