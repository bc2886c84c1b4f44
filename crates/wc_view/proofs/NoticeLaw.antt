-- The event of a change of a world is folded to the lines after the change.
use Rattle.std.proofs.Common.{◌≡◌, ℕ, zero, suc, ◌+◌, ◌-◌, ◌<◌, ◌≤◌, Bool, true, false, cond, List, [], ◌∷◌, ◌++◌, length, drop, map, codes, Option, Some, None, option_map, refl, sym, ap, subst, ◌∙◌, arith, eqb}
use Rattle.std.specs.Prelude.{unwrap_or, bytes_eq}
use Rattle.std.specs.FinMap.{get, insert, remove, get-insert, get-remove}
use Rattle.std.specs.Cmp.{nat_cmp_total}
use Rattle.std.specs.List.{drop-map}
use Rattle.std.proofs.lemmas.Bool.{eq-eqb, eqb-true}
use Rattle.std.proofs.lemmas.Bool.Decides.{nat_tests}
use Rattle.std.proofs.lemmas.List.{length-map, map-append, length-append, append-nil}
use Rattle.std.proofs.lemmas.List.Elements.{filter_map-append}
use Rattle.std.proofs.lemmas.Grind.{fold-append}
use Rattle.wc_text.specs.declared.names.Handle.{Handle}
use Rattle.wc_lines.specs.declared.line.Line.{Line}
use Rattle.wc_lines.specs.Ring.{last_of, newest}
use Rattle.wc_buffers.specs.declared.row.BufferEntry.{BufferEntry}
use Rattle.wc_buffers.specs.Groups.{has}
use Rattle.wc_buffers.specs.Calls.{EntryGroups, handle_of, lacks_var, entry_of, with_entry, with_full_name}
use Rattle.wc_buffers.proofs.GroupLaws.{has-map}
use Rattle.wc_model.specs.declared.change.Flip.{Flip}
use Rattle.wc_model.specs.declared.change.LineSpec.{LineSpec}
use Rattle.wc_model.specs.declared.change.What.{What}
use Rattle.wc_model.specs.declared.change.What.TheVariants.{Add, Close, MoveTo, MergeInto, Unmerge, Hide, Unhide, Rename, ShortName, Title, SetVar, RemoveVar, Print, Clear, Flips, AddGroup, AddNick, RemoveGroup, RemoveNick, ChangeGroup, ChangeNick, Limit}
use Rattle.wc_model.specs.declared.notice.EventKind.{EventKind}
use Rattle.wc_model.specs.declared.notice.EventKind.TheVariants as kind
use Rattle.wc_model.specs.declared.notice.Notice.{Notice}
use Rattle.wc_model.specs.declared.notice.Trim.{Trim}
use Rattle.wc_model.specs.World.{World, lines_at as lines_in, printed_at}
use Rattle.wc_model.specs.Apply.{after_of, with_limit}
use Rattle.wc_model.specs.LineCuts.{line_of}
use Rattle.wc_model.specs.Notices.{notice_of, flips_between, trim_of, trims_of, var_kind}
use Rattle.wc_model.specs.Order.{order}
use Rattle.wc_model.specs.Parts.{flag_part, flag_parts, parts_of, trim_part}
use Rattle.wc_objects.specs.declared.object.Object.{Object}
use Rattle.wc_objects.specs.declared.object.WireMessage.{WireMessage}
use Rattle.wc_events.specs.LineObjects.{line_added, added_objects}
use Rattle.wc_events.specs.BufferObjects.{id_of, event_of, event_objects, objects_of, named_objects}
use Rattle.wc_view.specs.Ids.{IsFree}
use Rattle.wc_view.specs.declared.mirror_buffer.MirrorLine.{MirrorLine}
use Rattle.wc_view.specs.Parts.{Part, lines_at, kept_lines, with_row, without}
use Rattle.wc_view.specs.Fold.{fold_lines, with_new_line, without_lines_of}
use Rattle.wc_view.specs.Views.{shown_line, view_of, HasLines, HasAll, IsMirrorable, Suits, ContentsDiffer, fold_all, heard_parts, part_events, NoticeShows}
use Rattle.wc_view.proofs.EntryLemmas.{by_bool, last_all, tied}
use Rattle.wc_view.proofs.FlagTold.{HasLast, fold_told, told_then, flags_told_all, flags_stay, flags_kept}
use Rattle.wc_view.proofs.FlipLemmas.{mapped_lines, flipped_lines, flips_show}
use Rattle.wc_view.proofs.LineTold.{row, added_read, named_told}
use Rattle.wc_view.proofs.PartLemmas.{none_of}
use Rattle.wc_view.proofs.TrimTold.{HasThese, these, from_lines, left_after, trims_show, left_of, left_below}

-- ---- the ids of events
pub other_id : (rest id : List ℕ) → IsFree id → bytes_eq (95 ∷ rest) id ≡ false
other_id rest [] free = refl
other_id rest (b ∷ id) free = let e : eqb 95 b ≡ false = grind (arith, nat_tests) in rw e refl

-- the events that change no lines; a touch of a nicklist and another limit are no events
abbrev pub quiet : EventKind → Bool
quiet kind.Cleared = false
quiet kind.Closing = false
quiet kind.LineAdded = false
quiet kind.LineDataChanged = false
quiet kind.NickTouched = false
quiet kind.LimitSet = false
quiet kind.LinesTrimmed = false
quiet _ = true

var_quiet : (b : Bool) → quiet (var_kind b) ≡ true
var_quiet true = refl
var_quiet false = refl

abbrev pub message_of : EventKind → List Object → WireMessage
message_of kind objects = record { id = id_of kind; objects = objects }

quiet_message : (limit : Option ℕ) (id : List ℕ) (part : Option Part) (kind : EventKind) (objects : List Object) → quiet kind ≡ true → IsFree id
    → fold_lines limit id part (message_of kind objects) ≡ part
quiet_message limit id part kind.Opened objects q free = rw (other_id (codes "buffer_opened") id free) refl
quiet_message limit id part kind.Moved objects q free = rw (other_id (codes "buffer_moved") id free) refl
quiet_message limit id part kind.Merged objects q free = rw (other_id (codes "buffer_merged") id free) refl
quiet_message limit id part kind.Unmerged objects q free = rw (other_id (codes "buffer_unmerged") id free) refl
quiet_message limit id part kind.Hidden objects q free = rw (other_id (codes "buffer_hidden") id free) refl
quiet_message limit id part kind.Unhidden objects q free = rw (other_id (codes "buffer_unhidden") id free) refl
quiet_message limit id part kind.Renamed objects q free = rw (other_id (codes "buffer_renamed") id free) refl
quiet_message limit id part kind.TitleChanged objects q free = rw (other_id (codes "buffer_title_changed") id free) refl
quiet_message limit id part kind.VarAdded objects q free = rw (other_id (codes "buffer_localvar_added") id free) refl
quiet_message limit id part kind.VarChanged objects q free = rw (other_id (codes "buffer_localvar_changed") id free) refl
quiet_message limit id part kind.VarRemoved objects q free = rw (other_id (codes "buffer_localvar_removed") id free) refl
quiet_message limit id part kind.Cleared objects q free = absurd (let z = q in cc)
quiet_message limit id part kind.Closing objects q free = absurd (let z = q in cc)
quiet_message limit id part kind.LineAdded objects q free = absurd (let z = q in cc)
quiet_message limit id part kind.LineDataChanged objects q free = absurd (let z = q in cc)
quiet_message limit id part kind.Nicklist objects q free = rw (other_id (codes "nicklist") id free) refl
quiet_message limit id part kind.NicklistDiff objects q free = rw (other_id (codes "nicklist_diff") id free) refl
quiet_message limit id part kind.NickTouched objects q free = absurd (let z = q in cc)
quiet_message limit id part kind.LimitSet objects q free = absurd (let z = q in cc)
quiet_message limit id part kind.LinesTrimmed objects q free = absurd (let z = q in cc)

quiet_told : (limit : Option ℕ) (id : List ℕ) (part : Option Part) (kind : EventKind) (objects : Option (List Object)) → quiet kind ≡ true → IsFree id
    → fold_told limit id part (option_map (message_of kind) objects) ≡ part
quiet_told limit id part kind None q free = refl
quiet_told limit id part kind (Some objects) q free = quiet_message limit id part kind objects q free

stays : (part folded : Option Part) (world following : World) → folded ≡ part → ((q : ℕ) → lines_in following q ≡ lines_in world q) → HasAll part world → HasAll folded following
stays part folded world following same lines had q =
    subst (λ p. HasLines p q (lines_in following q)) (sym same) (subst (HasLines part q) (sym (lines q)) (had q))

-- ---- a buffer that has no lines any more
emptied_shows : (part : Option Part) (world following : World) (buffer : ℕ) → ((q : ℕ) → lines_in following q ≡ cond (eqb q buffer) [] (lines_in world q))
    → HasAll part world → HasAll (option_map (without buffer) part) following
emptied_shows None world following buffer lines had q = absurd (had 0)
emptied_shows (Some held) world following buffer lines had q =
    ap (λ o. unwrap_or o []) (get-remove nat_cmp_total held buffer q) ∙ by_bool (eqb q buffer) _
    (λ t. rw (tied q buffer, t) (sym (ap view_of (lines q ∙ ap (λ b. cond b [] (lines_in world q)) t))))
    (λ t. rw (tied q buffer, t) (had q ∙ sym (ap view_of (lines q ∙ ap (λ b. cond b [] (lines_in world q)) t))))

closing_told : (limit : Option ℕ) (id : List ℕ) (part : Option Part) (notice : Notice) → IsFree id
    → fold_lines limit id part (message_of kind.Closing (named_objects notice)) ≡ option_map (without notice.buffer.0) part
closing_told limit id part notice free = rw (other_id (codes "buffer_closing") id free) (ap (λ b. without_lines_of b part) (named_told notice))

cleared_told : (limit : Option ℕ) (id : List ℕ) (part : Option Part) (notice : Notice) → IsFree id
    → fold_lines limit id part (message_of kind.Cleared (named_objects notice)) ≡ option_map (without notice.buffer.0) part
cleared_told limit id part notice free = rw (other_id (codes "buffer_cleared") id free) (ap (λ b. without_lines_of b part) (named_told notice))

-- ---- the events of a change
-- without lines that went, or with a limit of its own, a client hears the event of the change and those of flags
told_flags : (limit : Option ℕ) (id : List ℕ) (part : Option Part) (world : World) (notice : Notice)
    → fold_all limit id part (part_events world (notice ∷ flag_parts world notice.flips)) ≡ fold_all limit id (fold_told limit id part (event_of world notice)) (part_events world (flag_parts world notice.flips))
told_flags limit id part world notice = told_then limit id part world notice (flag_parts world notice.flips)

heard_alone : (limit : Option ℕ) (world : World) (notice : Notice) → notice.trims ≡ [] → heard_parts limit world notice ≡ notice ∷ flag_parts world notice.flips
heard_alone None world notice none = ap (λ trims. notice ∷ (flag_parts world notice.flips ++ map trim_part trims)) none ∙ ap (λ parts. notice ∷ parts) (append-nil (flag_parts world notice.flips))
heard_alone (Some n) world notice none = refl

told_alone : (limit : Option ℕ) (id : List ℕ) (part : Option Part) (world : World) (notice : Notice) → notice.trims ≡ []
    → fold_all limit id part (part_events world (heard_parts limit world notice)) ≡ fold_all limit id (fold_told limit id part (event_of world notice)) (part_events world (flag_parts world notice.flips))
told_alone limit id part world notice none =
    ap (λ parts. fold_all limit id part (part_events world parts)) (heard_alone limit world notice none) ∙ told_flags limit id part world notice

-- and else those of lines that went after these
told_trims : (id : List ℕ) (part : Option Part) (world : World) (notice : Notice)
    → fold_all None id part (part_events world (parts_of world notice))
    ≡ fold_all None id (fold_all None id (fold_told None id part (event_of world notice)) (part_events world (flag_parts world notice.flips))) (part_events world (map trim_part notice.trims))
told_trims id part world notice =
    let flags = flag_parts world notice.flips in
    let trims = map trim_part notice.trims in
    told_then None id part world notice (flags ++ trims)
    ∙ ap (fold_all None id (fold_told None id part (event_of world notice))) (filter_map-append (event_of world) flags trims)
    ∙ fold-append (fold_lines None id) (fold_told None id part (event_of world notice)) (part_events world flags) (part_events world trims)

-- the id of the events of flags
flags_id : (id : List ℕ) → IsFree id → bytes_eq (id_of kind.LineDataChanged) id ≡ false
flags_id id free = other_id (codes "buffer_line_data_changed") id free

-- ---- a new line
newest_more : (xs : List Line) (x : Line) → newest (xs ++ x ∷ []) ≡ Some x
newest_more [] x = refl
newest_more (y ∷ []) x = refl
newest_more (y ∷ z ∷ xs) x = newest_more (z ∷ xs) x

newest_drop : (k : ℕ) (xs : List Line) (x : Line) → k ≤ length xs → newest (drop k (xs ++ x ∷ [])) ≡ Some x
newest_drop zero xs x l = newest_more xs x
newest_drop (suc k) [] x l = absurd (omega arith)
newest_drop (suc k) (y ∷ xs) x l = newest_drop k xs x (omega arith)

newest_last : (n : ℕ) (xs : List Line) (x : Line) → newest (last_of (suc n) (xs ++ x ∷ [])) ≡ Some x
newest_last n xs x =
    let e : length (xs ++ x ∷ []) - suc n ≡ length xs - n = omega (arith, length-append xs (x ∷ [])) in
    ap (λ k. newest (drop k (xs ++ x ∷ []))) e ∙ newest_drop (length xs - n) xs x (omega arith)

after_line : (limit : Option ℕ) (id : List ℕ) (held : Part) (buffer : Handle) (line : Line) → IsFree id
    → fold_lines limit id (Some held) (line_added buffer line) ≡ Some (with_row limit (row buffer line) held)
after_line limit id held buffer line free =
    rw (other_id (codes "buffer_line_added") id free) (ap (λ found. with_new_line limit found (Some held)) (added_read buffer line))

view_last : (limit : ℕ) (lines : List Line) → last_of limit (view_of lines) ≡ view_of (last_of limit lines)
view_last limit lines =
    ap (λ n. drop (n - limit) (view_of lines)) (length-map lines shown_line) ∙ drop-map shown_line (length lines - limit) lines

-- what a client has of each buffer once a line of one was told
abbrev told_lines : Option ℕ → World → Handle → Line → ℕ → List MirrorLine
told_lines limit world buffer line q = cond (eqb q buffer.0) (kept_lines limit (view_of (lines_in world buffer.0 ++ line ∷ []))) (view_of (lines_in world q))

row_shown : (limit : Option ℕ) (held : Part) (world : World) (buffer : Handle) (line : Line) → ((q : ℕ) → lines_at held q ≡ view_of (lines_in world q))
    → (q : ℕ) → lines_at (with_row limit (row buffer line) held) q ≡ told_lines limit world buffer line q
row_shown limit held world buffer line had q =
    let new = kept_lines limit (lines_at held buffer.0 ++ shown_line line ∷ []) in
    let is : new ≡ kept_lines limit (view_of (lines_in world buffer.0 ++ line ∷ [])) =
    ap (kept_lines limit) (ap (λ ls. ls ++ shown_line line ∷ []) (had buffer.0) ∙ sym (map-append shown_line (lines_in world buffer.0) (line ∷ []))) in
    ap (λ o. unwrap_or o []) (get-insert nat_cmp_total held buffer.0 new q) ∙ by_bool (eqb q buffer.0) _
    (λ t. rw (tied q buffer.0, t) is)
    (λ t. rw (tied q buffer.0, t) (had q))

line_told : (limit : Option ℕ) (id : List ℕ) (part : Option Part) (world : World) (buffer : Handle) (line : Line) → IsFree id → HasAll part world
    → (q : ℕ) → HasThese (fold_lines limit id part (line_added buffer line)) q (told_lines limit world buffer line q)
line_told limit id None world buffer line free had q = absurd (had 0)
line_told limit id (Some held) world buffer line free had q =
    subst (λ p. HasThese p q (told_lines limit world buffer line q)) (sym (after_line limit id held buffer line free)) (row_shown limit held world buffer line had q)

-- where no line may be held none is
nothing_left : {X : Type 0} (xs : List X) → drop (length xs) xs ≡ []
nothing_left [] = refl
nothing_left (x ∷ xs) = nothing_left xs

none_last : {X : Type 0} (xs : List X) → last_of 0 xs ≡ []
none_last xs = let e : length xs - 0 ≡ length xs = omega arith in ap (λ k. drop k xs) e ∙ nothing_left xs

empty : {X : Type 0} (xs : List X) → length xs ≤ 0 → xs ≡ []
empty [] l = refl
empty (x ∷ xs) l = absurd (omega arith)

-- what is told of a new line, where a buffer holds some
abbrev told_newest : Handle → List Line → Option WireMessage
told_newest buffer lines = option_map (message_of kind.LineAdded) (option_map (added_objects buffer) (newest lines))

-- the lines of the buffers after a print, as many as the limit
abbrev Printed : ℕ → World → World → Handle → Line → Type 0
Printed limit world following buffer line =
    (q : ℕ) → lines_in following q ≡ cond (eqb q buffer.0) (last_of limit (lines_in world buffer.0 ++ line ∷ [])) (lines_in world q)

shown_if : (b : Bool) (xs ys : List Line) (shown : List MirrorLine) → shown ≡ view_of xs → cond b shown (view_of ys) ≡ view_of (cond b xs ys)
shown_if true xs ys shown e = e
shown_if false xs ys shown e = refl

-- a client with this limit of its own
cut_shows : (limit : ℕ) (id : List ℕ) (part : Option Part) (world following : World) (buffer : Handle) (line : Line) → IsFree id
    → ((q : ℕ) → length (lines_in world q) ≤ limit) → Printed limit world following buffer line
    → HasAll part world → HasAll (fold_told (Some limit) id part (told_newest buffer (last_of limit (lines_in world buffer.0 ++ line ∷ [])))) following
cut_shows zero id part world following buffer line free within lines had =
    let none : last_of 0 (lines_in world buffer.0 ++ line ∷ []) ≡ [] = none_last (lines_in world buffer.0 ++ line ∷ []) in
    stays part _ world following (ap (λ held. fold_told (Some 0) id part (told_newest buffer held)) none)
    (λ q. lines q ∙ by_bool (eqb q buffer.0) _
    (λ t. rw t (none ∙ sym (empty (lines_in world q) (within q))))
    (λ t. rw t refl)) had
cut_shows (suc n) id part world following buffer line free within lines had =
    let all = lines_in world buffer.0 ++ line ∷ [] in
    subst (λ found. HasAll (fold_told (Some (suc n)) id part (option_map (message_of kind.LineAdded) (option_map (added_objects buffer) found))) following)
    (sym (newest_last n (lines_in world buffer.0) line))
    (λ q. these _ q (lines_in following q) (subst (HasThese (fold_lines (Some (suc n)) id part (line_added buffer line)) q)
    (shown_if (eqb q buffer.0) (last_of (suc n) all) (lines_in world q) (last_of (suc n) (view_of all)) (view_last (suc n) all) ∙ sym (ap view_of (lines q)))
    (line_told (Some (suc n)) id part world buffer line free had q)))

-- a client without one, which is told of the lines that went

trims_left : (id : List ℕ) (part : Option Part) (following : World) (trims : List Trim) (count : ℕ → ℕ) → IsFree id → ((q : ℕ) (lines : List MirrorLine) → left_after trims q lines ≡ drop (count q) lines)
    → ((q : ℕ) → HasLast count following part q) → HasAll (fold_all None id part (part_events following (map trim_part trims))) following
trims_left id None following trims count free left has q = absurd (has 0)
trims_left id (Some held) following trims count free left has q =
    these _ q (lines_in following q) (subst (HasThese (fold_all None id (Some held) (part_events following (map trim_part trims))) q)
    (left q (lines_at held q) ∙ has q)
    (trims_show None id following (other_id (codes "buffer_lines_trimmed") id free) trims (Some held) (λ b. lines_at held b) (λ b. refl) q))

-- events of flags before those of lines that went change nothing of what is left
flags_then : (id : List ℕ) (part : Option Part) (following : World) (flips : List Handle) (trims : List Trim) (count : ℕ → ℕ) → IsFree id → ((q : ℕ) → ContentsDiffer (lines_in following q))
    → ((q : ℕ) (lines : List MirrorLine) → left_after trims q lines ≡ drop (count q) lines) → ((q : ℕ) → HasLast count following part q)
    → HasAll (fold_all None id (fold_all None id part (part_events following (flag_parts following flips))) (part_events following (map trim_part trims))) following
flags_then id part following flips trims count free apart left has =
    trims_left id _ following trims count free left (flags_stay None id part following flips count (flags_id id free) apart has)

-- how many of the oldest lines of a buffer go at a print
abbrev gone_count : ℕ → World → Handle → ℕ → ℕ
gone_count limit world buffer q = cond (eqb q buffer.0) (length (lines_in world buffer.0) + 1 - limit) 0

gone_left : (limit : ℕ) (world : World) (buffer : Handle) → length (lines_in world buffer.0) ≤ limit → (q : ℕ) (lines : List MirrorLine)
    → left_after (trim_of buffer (length (lines_in world buffer.0) + 1 - limit)) q lines ≡ drop (gone_count limit world buffer q) lines
gone_left limit world buffer within q lines =
    let count = length (lines_in world buffer.0) + 1 - limit in
    left_of buffer count q lines (omega (arith, within)) ∙ by_bool (eqb q buffer.0) (cond (eqb q buffer.0) (drop count lines) lines ≡ drop (gone_count limit world buffer q) lines) (λ t. rw t refl) (λ t. rw t refl)

last_these : (count : ℕ → ℕ) (world : World) (part : Option Part) (now : ℕ → List MirrorLine) → ((q : ℕ) → HasThese part q (now q)) → ((q : ℕ) → drop (count q) (now q) ≡ view_of (lines_in world q)) → (q : ℕ) → HasLast count world part q
last_these count world None now has is q = absurd (has 0)
last_these count world (Some held) now has is q = ap (drop (count q)) (has q) ∙ is q

-- the lines that a client holds once the new line was told
trimmed_shows : (limit : ℕ) (id : List ℕ) (part : Option Part) (world following : World) (buffer : Handle) (line : Line) → IsFree id
    → ((q : ℕ) → length (lines_in world q) ≤ limit) → Printed limit world following buffer line → HasAll part world
    → (q : ℕ) → HasLast (gone_count limit world buffer) following (fold_told None id part (told_newest buffer (last_of limit (lines_in world buffer.0 ++ line ∷ [])))) q
trimmed_shows zero id part world following buffer line free within lines had =
    let all = lines_in world buffer.0 ++ line ∷ [] in
    subst (λ held. (q : ℕ) → HasLast (gone_count 0 world buffer) following (fold_told None id part (told_newest buffer held)) q) (sym (none_last all))
    (last_these (gone_count 0 world buffer) following part (λ q. view_of (lines_in world q)) (λ q. from_lines part q (lines_in world q) (had q))
    (λ q. ap (λ ls. drop (gone_count 0 world buffer q) (view_of ls)) (empty (lines_in world q) (within q)) ∙ none_of (gone_count 0 world buffer q) ∙ sym (ap view_of (none_held q))))
  where
    none_held : (q : ℕ) → lines_in following q ≡ []
    none_held q = lines q ∙ by_bool (eqb q buffer.0) (cond (eqb q buffer.0) (last_of 0 (lines_in world buffer.0 ++ line ∷ [])) (lines_in world q) ≡ [])
        (λ t. rw t (none_last (lines_in world buffer.0 ++ line ∷ [])))
        (λ t. rw t (empty (lines_in world q) (within q)))
trimmed_shows (suc n) id part world following buffer line free within lines had =
    let all = lines_in world buffer.0 ++ line ∷ [] in
    let count : length (lines_in world buffer.0) + 1 - suc n ≡ length all - suc n = omega (arith, length-append (lines_in world buffer.0) (line ∷ [])) in
    subst (λ found. (q : ℕ) → HasLast (gone_count (suc n) world buffer) following (fold_told None id part (option_map (message_of kind.LineAdded) (option_map (added_objects buffer) found))) q)
    (sym (newest_last n (lines_in world buffer.0) line))
    (last_these (gone_count (suc n) world buffer) following (fold_lines None id part (line_added buffer line)) (told_lines None world buffer line)
    (line_told None id part world buffer line free had)
    (λ q. by_bool (eqb q buffer.0) _
    (λ t. rw t (ap (λ k. drop k (view_of all)) count ∙ drop-map shown_line (length all - suc n) all ∙ sym (ap view_of (lines q ∙ ap (λ b. cond b (last_of (suc n) all) (lines_in world q)) t))))
    (λ t. rw t (sym (ap view_of (lines q ∙ ap (λ b. cond b (last_of (suc n) all) (lines_in world q)) t))))))

-- ---- the lines of a world after a change
inserted : (world following : World) (buffer : ℕ) (lines : List Line) → following.lines ≡ insert world.lines buffer lines
    → (q : ℕ) → lines_in following q ≡ cond (eqb q buffer) lines (lines_in world q)
inserted world following buffer lines is q =
    ap (λ m. unwrap_or (get m q) []) is
    ∙ ap (λ o. unwrap_or o []) (get-insert nat_cmp_total world.lines buffer lines q) ∙ by_bool (eqb q buffer) _
    (λ t. rw (tied q buffer, t) refl)
    (λ t. rw (tied q buffer, t) refl)

removed : (world following : World) (buffer : ℕ) → following.lines ≡ remove world.lines buffer
    → (q : ℕ) → lines_in following q ≡ cond (eqb q buffer) [] (lines_in world q)
removed world following buffer is q =
    ap (λ m. unwrap_or (get m q) []) is
    ∙ ap (λ o. unwrap_or o []) (get-remove nat_cmp_total world.lines buffer q) ∙ by_bool (eqb q buffer) _
    (λ t. rw (tied q buffer, t) refl)
    (λ t. rw (tied q buffer, t) refl)

-- a new buffer had no lines
opened_lines : (world following : World) → IsMirrorable world → following.lines ≡ insert world.lines world.next [] → (q : ℕ) → lines_in following q ≡ lines_in world q
opened_lines world following stands is q =
    inserted world following world.next [] is q ∙ by_bool (eqb q world.next) _
    (λ t. rw t (sym (stands.gone q (unknown q (eqb-true q world.next t)))))
    (λ t. rw t refl)
  where
    unknown : (q : ℕ) → q ≡ world.next → has handle_of q world.groups ≡ false
    unknown q e = by_bool (has handle_of q world.groups) _
        (λ t. absurd (let l : q < world.next = stands.drawn q t in omega arith))
        (λ t. t)

limited_lines : (limit : ℕ) (world following : World) → following.lines ≡ (with_limit limit world).lines → (q : ℕ) → lines_in following q ≡ last_of limit (lines_in world q)
limited_lines limit world following is q = mapped_lines (last_of limit) world following (none_of (0 - limit)) is q

-- ---- each change
abbrev pub told_of : World → Handle → What → Option (List Object)
told_of world buffer what = event_objects (after_of world buffer what) (notice_of world (after_of world buffer what) buffer what)

abbrev Own : Option ℕ → List ℕ → Option Part → World → Handle → What → Type 0
Own limit id part world buffer what =
    HasAll (fold_told limit id part (event_of (after_of world buffer what) (notice_of world (after_of world buffer what) buffer what))) (after_of world buffer what)

abbrev Flagged : Option ℕ → List ℕ → Option Part → World → Handle → What → Type 0
Flagged limit id part world buffer what =
    HasAll (fold_all limit id (fold_told limit id part (event_of (after_of world buffer what) (notice_of world (after_of world buffer what) buffer what)))
    (part_events (after_of world buffer what) (flag_parts (after_of world buffer what) (flips_between world (after_of world buffer what))))) (after_of world buffer what)

abbrev Shows : Option ℕ → List ℕ → Option Part → World → Handle → What → Type 0
Shows limit id part world buffer what =
    HasAll (fold_all limit id part (part_events (after_of world buffer what) (heard_parts limit (after_of world buffer what) (notice_of world (after_of world buffer what) buffer what)))) (after_of world buffer what)

abbrev Apart : World → Handle → What → Type 0
Apart world buffer what = (q : ℕ) → ContentsDiffer (lines_in (after_of world buffer what) q)

-- a change for which no line went
flagged : (limit : Option ℕ) (id : List ℕ) (part : Option Part) (world : World) (buffer : Handle) (what : What) → trims_of world buffer what ≡ []
    → Flagged limit id part world buffer what → Shows limit id part world buffer what
flagged limit id part world buffer what none told =
    let following = after_of world buffer what in
    subst (λ p. HasAll p following) (sym (told_alone limit id part following (notice_of world following buffer what) none)) told

-- and after whose own event a client has the lines
alone : (limit : Option ℕ) (id : List ℕ) (part : Option Part) (world : World) (buffer : Handle) (what : What) → trims_of world buffer what ≡ [] → IsFree id → Apart world buffer what
    → Own limit id part world buffer what → Shows limit id part world buffer what
alone limit id part world buffer what none free apart own =
    flagged limit id part world buffer what none (flags_kept limit id _ (after_of world buffer what) (flips_between world (after_of world buffer what)) (flags_id id free) apart own)

print_shows : (limit : Option ℕ) (id : List ℕ) (part : Option Part) (world : World) (buffer : Handle) (spec : LineSpec)
    → IsMirrorable world → Suits limit world → IsFree id → Apart world buffer (Print spec) → HasAll part world → Shows limit id part world buffer (Print spec)
unfolding after_of objects_of
print_shows (Some n) id part world buffer spec stands limited free apart had =
    let following = after_of world buffer (Print spec) in
    let line = line_of (printed_at world buffer.0) world.next spec in
    let lines = last_of world.limit (lines_in world buffer.0 ++ line ∷ []) in
    let notice = notice_of world following buffer (Print spec) in
    let here : lines_in following buffer.0 ≡ lines = inserted world following buffer.0 lines refl buffer.0 ∙ ap (λ b. cond b lines (lines_in world buffer.0)) (eq-eqb buffer.0 buffer.0 refl) in
    subst (λ p. HasAll p following) (sym (told_flags (Some n) id part following notice))
    (flags_kept (Some n) id _ following notice.flips (flags_id id free) apart
    (subst (λ n. HasAll (fold_told (Some n) id part (told_newest buffer (lines_in following buffer.0))) following) limited
    (subst (λ held. HasAll (fold_told (Some world.limit) id part (told_newest buffer held)) following) (sym here)
    (cut_shows world.limit id part world following buffer line free stands.within (inserted world following buffer.0 lines refl) had))))
print_shows None id part world buffer spec stands limited free apart had =
    let following = after_of world buffer (Print spec) in
    let line = line_of (printed_at world buffer.0) world.next spec in
    let lines = last_of world.limit (lines_in world buffer.0 ++ line ∷ []) in
    let notice = notice_of world following buffer (Print spec) in
    let here : lines_in following buffer.0 ≡ lines = inserted world following buffer.0 lines refl buffer.0 ∙ ap (λ b. cond b lines (lines_in world buffer.0)) (eq-eqb buffer.0 buffer.0 refl) in
    subst (λ p. HasAll p following) (sym (told_trims id part following notice))
    (flags_then id _ following notice.flips notice.trims (gone_count world.limit world buffer) free apart (gone_left world.limit world buffer (stands.within buffer.0))
    (subst (λ held. (q : ℕ) → HasLast (gone_count world.limit world buffer) following (fold_told None id part (told_newest buffer held)) q) (sym here)
    (trimmed_shows world.limit id part world following buffer line free stands.within (inserted world following buffer.0 lines refl) had)))

limit_shows : (limit : Option ℕ) (id : List ℕ) (part : Option Part) (world : World) (buffer : Handle) (most : ℕ)
    → IsMirrorable world → Suits limit world → Suits limit (after_of world buffer (Limit most)) → IsFree id → Apart world buffer (Limit most) → HasAll part world → Shows limit id part world buffer (Limit most)
unfolding after_of objects_of
limit_shows (Some n) id part world buffer most stands limited still free apart had =
    let following = after_of world buffer (Limit most) in
    let notice = notice_of world following buffer (Limit most) in
    subst (λ p. HasAll p following) (sym (told_flags (Some n) id part following notice))
    (flags_kept (Some n) id part following notice.flips (flags_id id free) apart
    (stays part part world following refl
    (λ q. limited_lines most world following refl q ∙ last_all most (lines_in world q) (omega (arith, stands.within q, limited, still))) had))
limit_shows None id part world buffer most stands limited still free apart had =
    let following = after_of world buffer (Limit most) in
    let notice = notice_of world following buffer (Limit most) in
    let count : ℕ → ℕ = λ q. length (lines_in world q) - most in
    subst (λ p. HasAll p following) (sym (told_trims id part following notice))
    (flags_then id part following notice.flips notice.trims count free apart (λ q lines. left_below most world q lines stands)
    (last_these count following part (λ q. view_of (lines_in world q)) (λ q. from_lines part q (lines_in world q) (had q))
    (λ q. drop-map shown_line (count q) (lines_in world q) ∙ sym (ap view_of (limited_lines most world following refl q)))))

renamed_has : (q : ℕ) (buffer : Handle) (name : List ℕ) (groups : EntryGroups) → has handle_of q (with_entry buffer (with_full_name name) groups) ≡ has handle_of q groups
renamed_has q buffer name groups = has-map renamed handle_of handle_of kept q groups
  where
    renamed : BufferEntry → BufferEntry
    renamed e = cond (eqb (handle_of e) buffer.0) (with_full_name name e) e

    kept : (e : BufferEntry) → handle_of (cond (eqb (handle_of e) buffer.0) (with_full_name name e) e) ≡ handle_of e
    kept e = by_bool (eqb (handle_of e) buffer.0) _ (λ t. rw t refl) (λ t. rw t refl)

renamed_shows : (limit : Option ℕ) (id : List ℕ) (part : Option Part) (world : World) (buffer : Handle) (name : List ℕ) (flips : List Flip) → IsMirrorable world → IsFree id
    → Apart world buffer (Rename name flips) → HasAll part world → Flagged limit id part world buffer (Rename name flips)
unfolding after_of
renamed_shows limit id part world buffer name flips stands free apart had =
    let following = after_of world buffer (Rename name flips) in
    let told = flips_between world following in
    subst (λ p. HasAll (fold_all limit id p (part_events following (flag_parts following told))) following) (sym (quiet_told limit id part kind.Renamed (told_of world buffer (Rename name flips)) refl free))
    (subst (λ events. HasAll (fold_all limit id part events) following) (sym (flags_told_all following told))
    (flips_show limit id part world following flips [] stands (flags_id id free) (λ q. renamed_has q buffer name world.groups) (flipped_lines flips world following refl) apart had))

-- the event of a change of flags is one of flags too, of the null handle
flips_shows : (limit : Option ℕ) (id : List ℕ) (part : Option Part) (world : World) (buffer : Handle) (flips : List Flip) → IsMirrorable world → IsFree id
    → Apart world buffer (Flips flips) → HasAll part world → Flagged limit id part world buffer (Flips flips)
unfolding after_of objects_of
flips_shows limit id part world buffer flips stands free apart had =
    let following = after_of world buffer (Flips flips) in
    let told = flips_between world following in
    subst (λ events. HasAll (fold_all limit id (fold_told limit id part (event_of following (flag_part told 0))) events) following) (sym (flags_told_all following told))
    (subst (λ p. HasAll p following) (told_then limit id part following (flag_part told 0) (map (flag_part told) (order following.groups)))
    (flips_show limit id part world following flips (0 ∷ []) stands (flags_id id free) (λ q. refl) (flipped_lines flips world following refl) apart had))

change_shows : (limit : Option ℕ) (id : List ℕ) (part : Option Part) (world : World) (buffer : Handle) (what : What)
    → IsMirrorable world → Suits limit world → Suits limit (after_of world buffer what) → IsFree id → Apart world buffer what → HasAll part world → Shows limit id part world buffer what
unfolding after_of objects_of
change_shows limit id part world buffer (Add spec) stands limited still free apart had =
    alone limit id part world buffer (Add spec) refl free apart
    (stays part _ world (after_of world buffer (Add spec)) (quiet_told limit id part kind.Opened (told_of world buffer (Add spec)) refl free) (opened_lines world (after_of world buffer (Add spec)) stands refl) had)
change_shows limit id part world buffer Close stands limited still free apart had =
    alone limit id part world buffer Close refl free apart
    (subst (λ p. HasAll p (after_of world buffer Close)) (sym (closing_told limit id part _ free)) (emptied_shows part world (after_of world buffer Close) buffer.0 (removed world (after_of world buffer Close) buffer.0 refl) had))
change_shows limit id part world buffer (MoveTo number) stands limited still free apart had =
    alone limit id part world buffer (MoveTo number) refl free apart
    (stays part _ world (after_of world buffer (MoveTo number)) (quiet_told limit id part kind.Moved (told_of world buffer (MoveTo number)) refl free) (λ q. refl) had)
change_shows limit id part world buffer (MergeInto into) stands limited still free apart had =
    alone limit id part world buffer (MergeInto into) refl free apart
    (stays part _ world (after_of world buffer (MergeInto into)) (quiet_told limit id part kind.Merged (told_of world buffer (MergeInto into)) refl free) (λ q. refl) had)
change_shows limit id part world buffer Unmerge stands limited still free apart had =
    alone limit id part world buffer Unmerge refl free apart
    (stays part _ world (after_of world buffer Unmerge) (quiet_told limit id part kind.Unmerged (told_of world buffer Unmerge) refl free) (λ q. refl) had)
change_shows limit id part world buffer Hide stands limited still free apart had =
    alone limit id part world buffer Hide refl free apart
    (stays part _ world (after_of world buffer Hide) (quiet_told limit id part kind.Hidden (told_of world buffer Hide) refl free) (λ q. refl) had)
change_shows limit id part world buffer Unhide stands limited still free apart had =
    alone limit id part world buffer Unhide refl free apart
    (stays part _ world (after_of world buffer Unhide) (quiet_told limit id part kind.Unhidden (told_of world buffer Unhide) refl free) (λ q. refl) had)
change_shows limit id part world buffer (Rename name flips) stands limited still free apart had =
    flagged limit id part world buffer (Rename name flips) refl (renamed_shows limit id part world buffer name flips stands free apart had)
change_shows limit id part world buffer (ShortName name) stands limited still free apart had =
    alone limit id part world buffer (ShortName name) refl free apart
    (stays part _ world (after_of world buffer (ShortName name)) (quiet_told limit id part kind.Renamed (told_of world buffer (ShortName name)) refl free) (λ q. refl) had)
change_shows limit id part world buffer (Title title) stands limited still free apart had =
    alone limit id part world buffer (Title title) refl free apart
    (stays part _ world (after_of world buffer (Title title)) (quiet_told limit id part kind.TitleChanged (told_of world buffer (Title title)) refl free) (λ q. refl) had)
change_shows limit id part world buffer (SetVar var) stands limited still free apart had =
    alone limit id part world buffer (SetVar var) refl free apart
    (stays part _ world (after_of world buffer (SetVar var)) (quiet_told limit id part (var_kind (lacks_var var.name (entry_of buffer world.groups))) (told_of world buffer (SetVar var)) (var_quiet (lacks_var var.name (entry_of buffer world.groups))) free) (λ q. refl) had)
change_shows limit id part world buffer (RemoveVar name) stands limited still free apart had =
    alone limit id part world buffer (RemoveVar name) refl free apart
    (stays part _ world (after_of world buffer (RemoveVar name)) (quiet_told limit id part kind.VarRemoved (told_of world buffer (RemoveVar name)) refl free) (λ q. refl) had)
change_shows limit id part world buffer (Print line) stands limited still free apart had =
    print_shows limit id part world buffer line stands limited free apart had
change_shows limit id part world buffer Clear stands limited still free apart had =
    alone limit id part world buffer Clear refl free apart
    (subst (λ p. HasAll p (after_of world buffer Clear)) (sym (cleared_told limit id part _ free)) (emptied_shows part world (after_of world buffer Clear) buffer.0 (inserted world (after_of world buffer Clear) buffer.0 [] refl) had))
change_shows limit id part world buffer (Flips flips) stands limited still free apart had =
    flagged limit id part world buffer (Flips flips) refl (flips_shows limit id part world buffer flips stands free apart had)
change_shows limit id part world buffer (AddGroup parent item) stands limited still free apart had = alone limit id part world buffer (AddGroup parent item) refl free apart had
change_shows limit id part world buffer (AddNick group item) stands limited still free apart had = alone limit id part world buffer (AddNick group item) refl free apart had
change_shows limit id part world buffer (RemoveGroup name) stands limited still free apart had = alone limit id part world buffer (RemoveGroup name) refl free apart had
change_shows limit id part world buffer (RemoveNick name) stands limited still free apart had = alone limit id part world buffer (RemoveNick name) refl free apart had
change_shows limit id part world buffer (ChangeGroup item) stands limited still free apart had = alone limit id part world buffer (ChangeGroup item) refl free apart had
change_shows limit id part world buffer (ChangeNick item) stands limited still free apart had = alone limit id part world buffer (ChangeNick item) refl free apart had
change_shows limit id part world buffer (Limit most) stands limited still free apart had = limit_shows limit id part world buffer most stands limited still free apart had

pub notice_shows : NoticeShows
notice_shows limit id part world change stands limited still free accepted apart had = change_shows limit id part world change.buffer change.what stands limited still free apart had
