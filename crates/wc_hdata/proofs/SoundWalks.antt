-- What a path leads to in a sound world keeps the rules of messages, and each number is one of its
-- type.
use Rattle.std.proofs.Common.{◌≡◌, ℕ, ◌^◌, ◌<◌, Bool, true, false, cond, eqb, List, [], ◌∷◌, map, length, Option, Some, None, subst, arith}
use Rattle.std.specs.Prelude.{pos, unwrap_or}
use Rattle.std.specs.List.{AllByRecursion, cons_option}
use Rattle.wc_text.specs.declared.names.Handle.{Handle}
use Rattle.wc_buffers.specs.declared.row.BufferEntry.{BufferEntry}
use Rattle.wc_buffers.specs.Calls.{EntryGroups, handle_of, entry_of, number}
use Rattle.wc_buffers.specs.Groups.{rows}
use Rattle.wc_model.specs.Order.{order, before_in, after_in, first_of as first_number, prev_of, next_of}
use Rattle.wc_model.specs.World.{World}
use Rattle.wc_objects.specs.declared.object.Object.{Object}
use Rattle.wc_objects.specs.declared.object.Object.TheVariants as o
use Rattle.wc_objects.specs.declared.object.Object.TheViews.{out-roll-Object, out-roll-Hda}
use Rattle.wc_objects.specs.declared.object.Hda.{roll-Hda}
use Rattle.wc_objects.specs.declared.object.HdaItem.{HdaItem}
use Rattle.wc_objects.specs.Forms.{well_formed}
use Rattle.wc_objects.specs.Within.{ValueWithin, ItemWithin, HdaWithin, ObjectWithin}
use Rattle.wc_events.specs.BufferObjects.{count, bare_name, is_channel}
use Rattle.wc_keys.specs.declared.key.Key.{Key}
use Rattle.wc_keys.specs.declared.key.Key.TheVariants as k
use Rattle.wc_hdata.specs.declared.path.Path.{Path}
use Rattle.wc_hdata.specs.Hdata.{keys_asked, walk_object}
use Rattle.wc_keys.specs.Keys.{keys_text}
use Rattle.wc_hdata.specs.Lists.{lines_in}
use Rattle.wc_hdata.specs.Paths.{h_path_of}
use Rattle.wc_hdata.specs.Reached.{HeldLine, Place, Buffer, Lines, Line_at, Data_at}
use Rattle.wc_hdata.specs.Refusals.{reached}
use Rattle.wc_hdata.specs.Sound.{IsSoundBuffer, IsSound}
use Rattle.wc_hdata.specs.Values.{of_entry, of_buffer, line_number, first_of, last_of, of_lines, of_line, of_data, value_of, values_of, item_of, items_of}
use Rattle.wc_hdata.specs.Walk.{Node}
use Rattle.wc_hdata.proofs.Everywhere.{all_map, all_weaken}
use Rattle.wc_hdata.proofs.SoundPlaces.{OnSome, IsSoundHeld, IsSoundPlace, IsSoundNode, entry_sound, lines_sound, reached_sound}
use Rattle.wc_hdata.proofs.ValuesWithin.{moment_within, count_within, truth_within, flag_within, value_tim, value_chr, value_int, value_ptr, value_str, value_texts, value_table}
use Rattle.wc_hdata.proofs.WalkFormed.{IsTold, walk_keeps_rules}

-- ---- an object of items

hda_fits : (path keys : List ℕ) (items : List HdaItem) → AllByRecursion ItemWithin items → HdaWithin (roll-Hda (record { path = Some path; keys = Some keys; items = items }))
unfolding HdaWithin
hda_fits path keys items all = rw out-roll-Hda all

hda_within : (path keys : List ℕ) (items : List HdaItem) → AllByRecursion ItemWithin items → ObjectWithin (o.Hda (roll-Hda (record { path = Some path; keys = Some keys; items = items })))
unfolding ObjectWithin
hda_within path keys items all = rw (← o.rolls-Hda (roll-Hda (record { path = Some path; keys = Some keys; items = items })), out-roll-Object) (hda_fits path keys items all)

-- ---- buffers

abbrev Small : ℕ → Type 0
Small n = n < 2 ^ 64

all_small : (es : List BufferEntry) → AllByRecursion IsSoundBuffer es → AllByRecursion Small (map handle_of es)
all_small es all = all_map IsSoundBuffer Small handle_of (λ e sound. sound.handle) es all

before_small : (before n : ℕ) (ms : List ℕ) → Small before → AllByRecursion Small ms → Small (before_in before n ms)
before_small before n [] small all = omega arith
before_small before n (m ∷ ms) small all = by (eqb m n) (before_small m n ms all.0 all.1) where
  by : (b : Bool) → Small (before_in m n ms) → Small (cond b before (before_in m n ms))
  by true rest = small
  by false rest = rest

first_small : (ms : List ℕ) → AllByRecursion Small ms → Small (first_number ms)
first_small [] all = omega arith
first_small (m ∷ ms) all = all.0

after_small : (n : ℕ) (ms : List ℕ) → AllByRecursion Small ms → Small (after_in n ms)
after_small n [] all = omega arith
after_small n (m ∷ ms) all = by (eqb m n) (after_small n ms all.1) where
  by : (b : Bool) → Small (after_in n ms) → Small (cond b (first_number ms) (after_in n ms))
  by true rest = first_small ms all.1
  by false rest = rest

entry_within : (groups : EntryGroups) (buffer : Handle) (key : Key) (e : BufferEntry) → AllByRecursion Small (order groups) → OnSome ValueWithin (of_entry groups buffer key e)
entry_within groups buffer k.Number e small = value_int (count (unwrap_or (number buffer groups) 0)) (count_within (unwrap_or (number buffer groups) 0))
entry_within groups buffer k.FullName e small = value_str e.row.full_name
entry_within groups buffer k.ShortName e small = value_str e.row.short_name
entry_within groups buffer k.Hidden e small = value_int _ (flag_within e.row.hidden)
entry_within groups buffer k.Title e small = value_str e.row.title
entry_within groups buffer k.LocalVariables e small = value_table e.vars
entry_within groups buffer k.PrevBuffer e small = value_ptr (prev_of buffer.0 groups) (before_small 0 buffer.0 (order groups) (omega arith) small)
entry_within groups buffer k.NextBuffer e small = value_ptr (next_of buffer.0 groups) (after_small buffer.0 (order groups) small)
entry_within groups buffer k.Name e small = value_str (bare_name e.row.full_name)
entry_within groups buffer k.BufferType e small = value_int (pos 0) (record { sfits = omega arith })
entry_within groups buffer k.Notify e small = value_int (pos 3) (record { sfits = omega arith })
entry_within groups buffer k.Nicklist e small = value_int _ (flag_within (is_channel e.vars))
entry_within groups buffer _ e small = tt

buffer_within : (groups : EntryGroups) (buffer : Handle) (key : Key) (o : Option BufferEntry) → AllByRecursion Small (order groups) → OnSome ValueWithin (of_buffer groups buffer key o)
buffer_within groups buffer key None small = tt
buffer_within groups buffer key (Some e) small = entry_within groups buffer key e small

-- ---- lines

line_small : (o : Option HeldLine) → OnSome IsSoundHeld o → Small (line_number o)
line_small None kept = omega arith
line_small (Some held) kept = kept.line.handle

first_kept : (lines : List HeldLine) → AllByRecursion IsSoundHeld lines → OnSome IsSoundHeld (first_of lines)
first_kept [] all = tt
first_kept (held ∷ lines) all = all.0

last_kept : (lines : List HeldLine) → AllByRecursion IsSoundHeld lines → OnSome IsSoundHeld (last_of lines)
last_kept [] all = tt
last_kept (held ∷ []) all = all.0
last_kept (held ∷ (next ∷ lines)) all = last_kept (next ∷ lines) all.1

lines_within : (key : Key) (lines : List HeldLine) → AllByRecursion IsSoundHeld lines → OnSome ValueWithin (of_lines key lines)
lines_within k.FirstLine lines all = value_ptr (line_number (first_of lines)) (line_small (first_of lines) (first_kept lines all))
lines_within k.LastLine lines all = value_ptr (line_number (last_of lines)) (line_small (last_of lines) (last_kept lines all))
lines_within k.LinesCount lines all = value_int (count (length lines)) (count_within (length lines))
lines_within _ lines all = tt

line_within : (key : Key) (held : HeldLine) → IsSoundHeld held → OnSome ValueWithin (of_line key held.line)
line_within k.Data held kept = value_ptr held.line.content.0 kept.line.content
line_within _ held kept = tt

data_within : (key : Key) (held : HeldLine) → IsSoundHeld held → OnSome ValueWithin (of_data key held)
data_within k.Buffer held kept = value_ptr held.buffer.0 kept.buffer
data_within k.Id held kept = value_int _ (count_within held.line.id)
data_within k.Date held kept = value_tim _ (moment_within held.line.date)
data_within k.DateUsec held kept = value_int _ (count_within held.line.usec)
data_within k.DatePrinted held kept = value_tim _ (moment_within held.line.date_printed)
data_within k.DateUsecPrinted held kept = value_int _ (count_within held.line.usec_printed)
data_within k.Displayed held kept = value_chr _ (truth_within held.line.displayed)
data_within k.NotifyLevel held kept = value_chr held.line.notify kept.line.notify
data_within k.Highlight held kept = value_chr _ (truth_within held.line.highlight)
data_within k.TagsArray held kept = value_texts held.line.tags
data_within k.Prefix held kept = value_str held.line.prefix
data_within k.Message held kept = value_str held.line.message
data_within _ held kept = tt

-- ---- items

place_within : (world : World) (place : Place) (key : Key) → IsSound world → IsSoundPlace world.groups place → OnSome ValueWithin (value_of world place key)
unfolding value_of
place_within world (Buffer buffer) key is kept = buffer_within world.groups buffer key (entry_of buffer world.groups) (all_small (rows world.groups) is.buffers)
place_within world (Lines list) key is kept = lines_within key (lines_in world list) (lines_sound world list is kept)
place_within world (Line_at held) key is kept = line_within key held kept
place_within world (Data_at held) key is kept = data_within key held kept

values_within : (world : World) (keys : List Key) (place : Place) → IsSound world → IsSoundPlace world.groups place → AllByRecursion ValueWithin (values_of world keys place)
values_within world [] place is kept = tt
values_within world (key ∷ keys) place is kept = by (value_of world place key) (place_within world place key is kept) (values_within world keys place is kept) where
  by : (o : Option Object) → OnSome ValueWithin o → AllByRecursion ValueWithin (values_of world keys place) → AllByRecursion ValueWithin (cons_option o (values_of world keys place))
  by None here rest = rest
  by (Some value) here rest = (here, rest)

node_within : (world : World) (keys : List Key) (node : Node) → AllByRecursion Small node.pointers → AllByRecursion ValueWithin (values_of world keys node.place) → ItemWithin (item_of world keys node)
unfolding ItemWithin
node_within world keys node small all = (small, all)

nodes_within : (world : World) (keys : List Key) (nodes : List Node) → IsSound world → AllByRecursion (IsSoundNode world.groups) nodes → AllByRecursion ItemWithin (items_of world keys nodes)
nodes_within world keys nodes is all =
    all_map (IsSoundNode world.groups) ItemWithin (item_of world keys)
    (λ node kept. node_within world keys node kept.pointers (values_within world keys node.place is kept.place)) nodes all

pub walk_within : (world : World) (path : Path) (keys : List ℕ) → IsSound world → ObjectWithin (walk_object world path keys)
unfolding walk_object
walk_within world path keys is =
    let asked = keys_asked path keys in
    hda_within (h_path_of path) (keys_text asked) (items_of world asked (reached world path)) (nodes_within world asked (reached world path) is (reached_sound world path is))

-- ---- the rules of messages

sound_told : (groups : EntryGroups) (place : Place) → IsSoundPlace groups place → IsTold groups place
sound_told groups (Buffer buffer) sound = sound.there
sound_told groups (Lines list) sound = tt
sound_told groups (Line_at held) sound = tt
sound_told groups (Data_at held) sound = sound.line.text

pub sound_formed : (world : World) (path : Path) (keys : List ℕ) → IsSound world → well_formed (walk_object world path keys ∷ []) ≡ true
sound_formed world path keys is =
    walk_keeps_rules world path keys (λ h e at. (subst (OnSome IsSoundBuffer) at (entry_sound world h is)).fit)
    (all_weaken (IsSoundNode world.groups) (λ (node : Node). IsTold world.groups node.place) (λ node sound. sound_told world.groups node.place sound.place) (reached world path) (reached_sound world path is))
