-- The event of a change of a world is folded to the nicklists that are told after the change.
use Rattle.std.proofs.Common.{◌≡◌, ℕ, ◌<◌, Bool, true, false, cond, List, [], ◌∷◌, ◌++◌, codes, Option, Some, None, option_map, Ok, refl, ap, ◌∙◌, arith, eq-eqb}
use Rattle.std.specs.Prelude.{is_some}
use Rattle.std.specs.FinMap.{get, insert}
use Rattle.wc_text.specs.declared.names.Handle.{Handle}
use Rattle.wc_buffers.specs.declared.row.BufferSpec.{BufferSpec}
use Rattle.wc_buffers.specs.Groups.{has, row_of}
use Rattle.wc_buffers.specs.Calls.{handle_of, entry_of, lacks_var, new_entry as opened_entry}
use Rattle.wc_world.proofs.GroupRows.{row_of-append, or_some, no_row}
use Rattle.wc_model.specs.declared.change.What.{What}
use Rattle.wc_model.specs.declared.change.What.TheVariants.{Add, Close, MoveTo, MergeInto, Unmerge, Hide, Unhide, Rename, ShortName, Title, SetVar, RemoveVar, Print, Clear, Flips, AddGroup, AddNick, RemoveGroup, RemoveNick, ChangeGroup, ChangeNick, Limit}
use Rattle.wc_model.specs.declared.notice.EventKind.{EventKind}
use Rattle.wc_model.specs.declared.notice.EventKind.TheVariants as event
use Rattle.wc_model.specs.World.{World, lines_at}
use Rattle.wc_model.specs.Apply.{after_of, row_of as new_row}
use Rattle.wc_model.specs.Notices.{notice_of, var_kind}
use Rattle.wc_model.specs.Touches.{told_after}
use Rattle.wc_objects.specs.declared.object.Object.{Object}
use Rattle.wc_events.specs.BufferObjects.{event_of, objects_of, flagged_objects, opened_objects, trim_objects}
use Rattle.wc_view.specs.Ids.{IsFree}
use Rattle.wc_view.specs.NickFold.{NickPart, with_opened, without_named, fold_nicks}
use Rattle.wc_view.specs.NickViews.{HasNicks, HasLists, fold_told_nicks, NickNoticeShows, NickTrimShows, NickFlagShows}
use Rattle.wc_view.proofs.EntryLemmas.{by_bool}
use Rattle.wc_view.proofs.LineTold.{named_told}
use Rattle.wc_view.proofs.NoticeLaw.{other_id, message_of, told_of}
use Rattle.wc_view.proofs.BufferTold.{opened_by}

-- the events that change no nicklists; a touch of a nicklist and another limit are no events
abbrev quiet : EventKind → Bool
quiet event.Opened = false
quiet event.Closing = false
quiet event.Nicklist = false
quiet event.NicklistDiff = false
quiet event.NickTouched = false
quiet event.LimitSet = false
quiet _ = true

var_quiet : (b : Bool) → quiet (var_kind b) ≡ true
var_quiet true = refl
var_quiet false = refl

quiet_message : (id : List ℕ) (part : Option NickPart) (kind : EventKind) (objects : List Object) → quiet kind ≡ true → IsFree id
    → fold_nicks id part (message_of kind objects) ≡ Ok part
quiet_message id part event.Moved objects q free = rw (other_id (codes "buffer_moved") id free) refl
quiet_message id part event.Merged objects q free = rw (other_id (codes "buffer_merged") id free) refl
quiet_message id part event.Unmerged objects q free = rw (other_id (codes "buffer_unmerged") id free) refl
quiet_message id part event.Hidden objects q free = rw (other_id (codes "buffer_hidden") id free) refl
quiet_message id part event.Unhidden objects q free = rw (other_id (codes "buffer_unhidden") id free) refl
quiet_message id part event.Renamed objects q free = rw (other_id (codes "buffer_renamed") id free) refl
quiet_message id part event.TitleChanged objects q free = rw (other_id (codes "buffer_title_changed") id free) refl
quiet_message id part event.VarAdded objects q free = rw (other_id (codes "buffer_localvar_added") id free) refl
quiet_message id part event.VarChanged objects q free = rw (other_id (codes "buffer_localvar_changed") id free) refl
quiet_message id part event.VarRemoved objects q free = rw (other_id (codes "buffer_localvar_removed") id free) refl
quiet_message id part event.Cleared objects q free = rw (other_id (codes "buffer_cleared") id free) refl
quiet_message id part event.LineAdded objects q free = rw (other_id (codes "buffer_line_added") id free) refl
quiet_message id part event.LineDataChanged objects q free = rw (other_id (codes "buffer_line_data_changed") id free) refl
quiet_message id part event.LinesTrimmed objects q free = rw (other_id (codes "buffer_lines_trimmed") id free) refl
quiet_message id part event.Opened objects q free = absurd (let z = q in cc)
quiet_message id part event.Closing objects q free = absurd (let z = q in cc)
quiet_message id part event.Nicklist objects q free = absurd (let z = q in cc)
quiet_message id part event.NicklistDiff objects q free = absurd (let z = q in cc)
quiet_message id part event.NickTouched objects q free = absurd (let z = q in cc)
quiet_message id part event.LimitSet objects q free = absurd (let z = q in cc)

quiet_told : (id : List ℕ) (part : Option NickPart) (kind : EventKind) (objects : Option (List Object)) → quiet kind ≡ true → IsFree id
    → fold_told_nicks id part (option_map (message_of kind) objects) ≡ Ok part
quiet_told id part kind None q free = refl
quiet_told id part kind (Some objects) q free = quiet_message id part kind objects q free

abbrev Shows : List ℕ → NickPart → World → Handle → What → Type 0
Shows id told world buffer what =
    HasNicks (fold_told_nicks id (Some told) (event_of (after_of world buffer what) (notice_of world (after_of world buffer what) buffer what))) (told_after world buffer what told)

-- ---- a new buffer
open_shows : (id : List ℕ) (told : NickPart) (world : World) (buffer : Handle) (spec : BufferSpec) → HasLists world
    → ((q : ℕ) → is_some (get told q) ≡ is_some (get world.nicks q)) → IsFree id → Shows id told world buffer (Add spec)
unfolding after_of objects_of
open_shows id told world buffer spec lists same free =
    let gs = world.groups in
    let n = world.next in
    let e = opened_entry (new_row n spec) spec.vars in
    let notice = notice_of world (after_of world buffer (Add spec)) buffer (Add spec) in
    let absent : has handle_of n gs ≡ false = by_bool (has handle_of n gs) _ (λ t. absurd (let l : n < n = lists.drawn n t in omega arith)) (λ t. t) in
    let entry : row_of handle_of n (gs ++ (e ∷ []) ∷ []) ≡ Some e =
    row_of-append handle_of n gs ((e ∷ []) ∷ []) ∙ ap (λ o. or_some o (row_of handle_of n ((e ∷ []) ∷ []))) (no_row handle_of n gs absent)
    ∙ ap (λ b. cond b (Some e) None) (eq-eqb n n refl) in
    let new : is_some (get told n) ≡ false = same n ∙ lists.stored n ∙ absent in
    ap (λ o. fold_told_nicks id (Some told) (option_map (message_of event.Opened) (option_map (opened_objects notice) o))) entry
    ∙ rw (other_id (codes "buffer_opened") id free)
    (ap (λ t. Ok (Some (with_opened t told))) (opened_by notice e)
    ∙ ap (λ b. Ok (Some (cond b told (insert told n [])))) new)

-- ---- a buffer that is closed
close_shows : (id : List ℕ) (told : NickPart) (world : World) (buffer : Handle) → IsFree id → Shows id told world buffer Close
unfolding after_of objects_of
close_shows id told world buffer free =
    let notice = notice_of world (after_of world buffer Close) buffer Close in
    rw (other_id (codes "buffer_closing") id free) (ap (λ b. Ok (Some (without_named b told))) (named_told notice))

-- ---- each change
change_shows : (id : List ℕ) (told : NickPart) (world : World) (buffer : Handle) (what : What) → HasLists world
    → ((q : ℕ) → is_some (get told q) ≡ is_some (get world.nicks q)) → IsFree id → Shows id told world buffer what
unfolding objects_of
change_shows id told world buffer (Add spec) lists same free = open_shows id told world buffer spec lists same free
change_shows id told world buffer Close lists same free = close_shows id told world buffer free
change_shows id told world buffer (MoveTo number) lists same free = quiet_told id (Some told) event.Moved (told_of world buffer (MoveTo number)) refl free
change_shows id told world buffer (MergeInto into) lists same free = quiet_told id (Some told) event.Merged (told_of world buffer (MergeInto into)) refl free
change_shows id told world buffer Unmerge lists same free = quiet_told id (Some told) event.Unmerged (told_of world buffer Unmerge) refl free
change_shows id told world buffer Hide lists same free = quiet_told id (Some told) event.Hidden (told_of world buffer Hide) refl free
change_shows id told world buffer Unhide lists same free = quiet_told id (Some told) event.Unhidden (told_of world buffer Unhide) refl free
change_shows id told world buffer (Rename name flips) lists same free = quiet_told id (Some told) event.Renamed (told_of world buffer (Rename name flips)) refl free
change_shows id told world buffer (ShortName name) lists same free = quiet_told id (Some told) event.Renamed (told_of world buffer (ShortName name)) refl free
change_shows id told world buffer (Title title) lists same free = quiet_told id (Some told) event.TitleChanged (told_of world buffer (Title title)) refl free
change_shows id told world buffer (SetVar var) lists same free =
    quiet_told id (Some told) (var_kind (lacks_var var.name (entry_of buffer world.groups))) (told_of world buffer (SetVar var)) (var_quiet (lacks_var var.name (entry_of buffer world.groups))) free
change_shows id told world buffer (RemoveVar name) lists same free = quiet_told id (Some told) event.VarRemoved (told_of world buffer (RemoveVar name)) refl free
change_shows id told world buffer (Print line) lists same free = quiet_told id (Some told) event.LineAdded (told_of world buffer (Print line)) refl free
change_shows id told world buffer Clear lists same free = quiet_told id (Some told) event.Cleared (told_of world buffer Clear) refl free
change_shows id told world buffer (Flips flips) lists same free = quiet_told id (Some told) event.LineDataChanged (told_of world buffer (Flips flips)) refl free
change_shows id told world buffer (AddGroup parent item) lists same free = refl
change_shows id told world buffer (AddNick group item) lists same free = refl
change_shows id told world buffer (RemoveGroup name) lists same free = refl
change_shows id told world buffer (RemoveNick name) lists same free = refl
change_shows id told world buffer (ChangeGroup item) lists same free = refl
change_shows id told world buffer (ChangeNick item) lists same free = refl
change_shows id told world buffer (Limit limit) lists same free = refl

pub notice_shows : NickNoticeShows
notice_shows id told world change lists same free accepted = change_shows id told world change.buffer change.what lists same free

pub trim_shows : NickTrimShows
unfolding objects_of
trim_shows id part world trim free = quiet_message id part event.LinesTrimmed (trim_objects trim) refl free

pub flag_shows : NickFlagShows
unfolding objects_of
flag_shows id part world flips buffer free = quiet_told id part event.LineDataChanged (flagged_objects (record { 0 = buffer }) flips (lines_at world buffer)) refl free
