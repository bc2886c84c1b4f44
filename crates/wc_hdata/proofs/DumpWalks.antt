-- The walks of the dumps tell what the dumps tell.
use Rattle.std.proofs.Common.{◌≡◌, ℕ, suc, ◌+◌, ◌-◌, ◌^◌, ◌≤◌, true, false, cond, List, [], ◌∷◌, ◌++◌, ◌⊎◌, inl, inr, map, length, Option, Some, None, arith, refl, sym, ap, ◌∙◌, append_assoc, length-append}
use Rattle.std.specs.Prelude.{nat_le, nat_lt, unwrap_or, option_map}
use Rattle.std.specs.List.{flat_map, filter_map, position_or_len, AllByRecursion}
use Rattle.std.proofs.lemmas.Bool.Decides.{nat_tests}
use Rattle.std.proofs.lemmas.List.{map-append, length-map}
use Rattle.std.proofs.lemmas.List.Concat.{flat_map-append}
use Rattle.wc_text.specs.declared.names.Handle.{Handle}
use Rattle.wc_lines.specs.declared.line.Line.{Line}
use Rattle.wc_buffers.specs.declared.row.BufferEntry.{BufferEntry}
use Rattle.wc_buffers.specs.Calls.{EntryGroups, handle_of, buffer_of, entry_of, number}
use Rattle.wc_buffers.specs.Groups.{rows, in_group, place, times_in, times}
use Rattle.wc_buffers.specs.Kept.{AreBuffers}
use Rattle.wc_buffers.proofs.GroupLaws.{times_in-append, times-append, in_group_tells}
use Rattle.wc_model.specs.World.{World, lines_at}
use Rattle.wc_objects.specs.declared.object.Object.TheVariants as o
use Rattle.wc_objects.specs.declared.object.Hda.{roll-Hda}
use Rattle.wc_objects.specs.declared.object.HdaItem.{HdaItem, roll-HdaItem}
use Rattle.wc_events.specs.BufferObjects.{text, table, count, dump_keys, dumped_values, dumped_buffer, dumped_groups, buffer_dump}
use Rattle.wc_events.specs.LineObjects.{truth, line_keys, line_values, dumped_item, dumped_lines, line_dump}
use Rattle.wc_events.proofs.DumpLemmas.{rows_once, all_parts, few_groups}
use Rattle.wc_keys.specs.declared.key.Key.{Key}
use Rattle.wc_keys.specs.declared.key.Key.TheVariants as k
use Rattle.wc_hdata.specs.declared.path.Step.{Step}
use Rattle.wc_hdata.specs.Answers.{path_of, head_of, place_of, step_of, count_inside}
use Rattle.wc_hdata.specs.declared.count.Count.TheVariants.{One, All}
use Rattle.wc_hdata.specs.declared.variable.Variable.TheVariants.{OwnLines, FirstLine, Data}
use Rattle.wc_hdata.specs.Dumps.{buffers_text, buffers_path, buffers_keys, lines_text, lines_path, lines_keys}
use Rattle.wc_hdata.specs.Hdata.{keys_asked, walk_object}
use Rattle.wc_hdata.specs.Keys.{named_keys}
use Rattle.wc_keys.specs.Keys.{keys_text}
use Rattle.wc_hdata.specs.Lists.{held_by}
use Rattle.wc_hdata.specs.Paths.{h_path_of}
use Rattle.wc_hdata.specs.Reached.{Buffer, Line_at, Data_at}
use Rattle.wc_hdata.specs.Refusals.{reached}
use Rattle.wc_hdata.specs.Starts.{starts}
use Rattle.wc_hdata.specs.Steps.{all_buffers, reach}
use Rattle.wc_hdata.specs.Values.{item_of, of_buffer, value_of, values_of}
use Rattle.wc_hdata.specs.Walk.{Node, nodes_at, node_at, onward, onward_all, nodes_reached, row_number}

-- ---- the paths and the keys

pub buffers_read : path_of buffers_text ≡ Some buffers_path
unfolding path_of head_of place_of count_inside
buffers_read = refl

pub lines_read : path_of lines_text ≡ Some lines_path
unfolding path_of head_of place_of step_of count_inside
lines_read = refl

abbrev pub buffer_keys : List Key
buffer_keys = k.Number ∷ k.FullName ∷ k.ShortName ∷ k.Hidden ∷ k.Title ∷ k.LocalVariables ∷ []

abbrev pub data_keys : List Key
data_keys = k.Buffer ∷ k.Id ∷ k.Date ∷ k.DateUsec ∷ k.DatePrinted ∷ k.DateUsecPrinted ∷ k.Displayed ∷ k.NotifyLevel ∷ k.Highlight ∷ k.TagsArray ∷ k.Prefix ∷ k.Message ∷ []

pub buffer_keys_asked : keys_asked buffers_path buffers_keys ≡ buffer_keys
unfolding named_keys
buffer_keys_asked = refl

pub data_keys_asked : keys_asked lines_path lines_keys ≡ data_keys
unfolding named_keys
data_keys_asked = refl

pub buffer_keys_written : keys_text buffer_keys ≡ dump_keys
unfolding keys_text
buffer_keys_written = refl

pub data_keys_written : keys_text data_keys ≡ line_keys
unfolding keys_text
data_keys_written = refl

-- ---- the buffers in their order

abbrev pub handle : BufferEntry → Handle
handle e = e.row.handle

-- what is found under the handle of a buffer
abbrev is_found : EntryGroups → BufferEntry → Type 0
is_found groups e = entry_of e.row.handle groups ≡ Some e

pub all_handles : (groups : EntryGroups) → all_buffers groups ≡ map handle (rows groups)
all_handles [] = refl
all_handles (group ∷ groups) = ap (λ hs. map handle group ++ hs) (all_handles groups) ∙ sym (map-append handle group (rows groups))

-- ---- the number of a buffer

abbrev stands : ℕ → List BufferEntry → Type 0
stands h group = (in_group handle_of h group ≡ true) × (1 ≤ times_in handle_of h group)

lies_in : (before group : List BufferEntry) (e : BufferEntry) (others : List BufferEntry) → group ≡ before ++ e ∷ others → stands (handle_of e) group
lies_in before group e others same = by (in_group_tells handle_of (handle_of e) group) where
  by : stands (handle_of e) group ⊎ ((in_group handle_of (handle_of e) group ≡ false) × (times_in handle_of (handle_of e) group ≡ 0)) → stands (handle_of e) group
  by (inl t) = t
  by (inr f) =
      let none = f.1 in
      let here : times_in handle_of (handle_of e) (e ∷ others) ≡ 1 + times_in handle_of (handle_of e) others = grind (arith, nat_tests) in
      let all : times_in handle_of (handle_of e) group ≡ times_in handle_of (handle_of e) before + times_in handle_of (handle_of e) (e ∷ others) = ap (times_in handle_of (handle_of e)) same ∙ times_in-append handle_of (handle_of e) before (e ∷ others) in
      absurd (omega (arith, none, here, all))

first_place : (h : ℕ) (done : EntryGroups) (group : List BufferEntry) (groups : EntryGroups) → times handle_of h done ≡ 0 → in_group handle_of h group ≡ true
    → position_or_len (in_group handle_of h) (done ++ group ∷ groups) ≡ length done
first_place h [] group groups none inside = rw inside refl
first_place h (first ∷ done) group groups none inside = by (in_group_tells handle_of h first) (λ no. first_place h done group groups no inside) where
  by : ((in_group handle_of h first ≡ true) × (1 ≤ times_in handle_of h first)) ⊎ ((in_group handle_of h first ≡ false) × (times_in handle_of h first ≡ 0))
      → (times handle_of h done ≡ 0 → position_or_len (in_group handle_of h) (done ++ group ∷ groups) ≡ length done)
      → position_or_len (in_group handle_of h) (first ∷ (done ++ group ∷ groups)) ≡ suc (length done)
  by (inl t) others = absurd (let some = t.1 in omega arith)
  by (inr f) others =
      let no = f.0 in
      let zero = f.1 in
      let one_more : 1 + length done ≡ suc (length done) = omega arith in
      rw no (ap (λ n. 1 + n) (others (omega (arith, zero))) ∙ one_more)

placed : (h : ℕ) (done : EntryGroups) (group : List BufferEntry) (groups : EntryGroups) → times handle_of h done ≡ 0 → in_group handle_of h group ≡ true → place handle_of h (done ++ group ∷ groups) ≡ Some (length done)
placed h done group groups none inside =
    let within : nat_lt (length done) (length (done ++ group ∷ groups)) ≡ true = grind (arith, nat_tests, length-append done (group ∷ groups)) in
    ap (λ n. cond (nat_lt n (length (done ++ group ∷ groups))) (Some n) None) (first_place h done group groups none inside) ∙ rw within refl

-- each buffer of a group has the number after those of the groups before it
abbrev has_number : EntryGroups → ℕ → BufferEntry → Type 0
has_number groups n e = number e.row.handle groups ≡ Some n

one_number : (all done groups : EntryGroups) (group before : List BufferEntry) (e : BufferEntry) (others : List BufferEntry) (n : ℕ) → ((h : ℕ) → times handle_of h all ≤ 1) → all ≡ done ++ group ∷ groups
    → n ≡ length done + 1 → group ≡ before ++ e ∷ others → has_number all n e
one_number all done groups group before e others n once same is parted =
    let inside = lies_in before group e others parted in
    let some = inside.1 in
    let all_times : times handle_of (handle_of e) all ≡ times handle_of (handle_of e) done + times handle_of (handle_of e) (group ∷ groups) =
    ap (times handle_of (handle_of e)) same ∙ times-append handle_of (handle_of e) done (group ∷ groups) in
    let at_most = once (handle_of e) in
    let none : times handle_of (handle_of e) done ≡ 0 = omega (arith, some, all_times, at_most) in
    ap (λ (gs : EntryGroups). number e.row.handle gs) same ∙ ap (option_map (λ m. m + 1)) (placed (handle_of e) done group groups none inside.0) ∙ ap Some (sym is)

group_numbers : (all done groups : EntryGroups) (group before es : List BufferEntry) (n : ℕ) → ((h : ℕ) → times handle_of h all ≤ 1) → all ≡ done ++ group ∷ groups
    → n ≡ length done + 1 → group ≡ before ++ es → AllByRecursion (has_number all n) es
group_numbers all done groups group before [] n once same is parted = tt
group_numbers all done groups group before (e ∷ es) n once same is parted = (
  one_number all done groups group before e es n once same is parted,
  group_numbers all done groups group (before ++ e ∷ []) es n once same is (parted ∙ sym (append_assoc before (e ∷ []) es)),
)

-- ---- the items of the buffers

entry_values : (n : ℕ) (groups : EntryGroups) (e : BufferEntry) → has_number groups n e → nat_le n (2 ^ 31 - 1) ≡ true
    → filter_map (λ key. of_buffer groups e.row.handle key (Some e)) buffer_keys ≡ dumped_values n e
unfolding dumped_values
entry_values n groups e numbered small =
    let others = text e.row.full_name ∷ text e.row.short_name ∷ o.Int (truth e.row.hidden) ∷ text e.row.title ∷ table e.vars ∷ [] in
    ap (λ (m : Option ℕ). o.Int (count (unwrap_or m 0)) ∷ others) numbered ∙ rw small refl

buffer_values : (n : ℕ) (world : World) (e : BufferEntry) → is_found world.groups e → has_number world.groups n e → nat_le n (2 ^ 31 - 1) ≡ true
    → values_of world buffer_keys (Buffer e.row.handle) ≡ dumped_values n e
unfolding value_of
buffer_values n world e found numbered small =
    ap (λ (entry : Option BufferEntry). filter_map (λ key. of_buffer world.groups e.row.handle key entry) buffer_keys) found
    ∙ entry_values n world.groups e numbered small

abbrev buffer_item : World → Handle → HdaItem
buffer_item world buffer = item_of world buffer_keys (node_at world.groups [] (Buffer buffer))

group_items : (n : ℕ) (world : World) (es : List BufferEntry) → AllByRecursion (is_found world.groups) es → AllByRecursion (has_number world.groups n) es → nat_le n (2 ^ 31 - 1) ≡ true
    → map (buffer_item world) (map handle es) ≡ map (dumped_buffer n) es
group_items n world [] found numbered small = refl
group_items n world (e ∷ es) found numbered small =
    λ i. roll-HdaItem (record { pointers = e.row.handle.0 ∷ []; values = buffer_values n world e found.0 numbered.0 small i }) ∷ group_items n world es found.1 numbered.1 small i

from_group : (world : World) (once : (h : ℕ) → times handle_of h world.groups ≤ 1) (done groups : EntryGroups) (n : ℕ) → length world.groups ≤ 256 → world.groups ≡ done ++ groups → n ≡ length done + 1
    → AllByRecursion (is_found world.groups) (rows groups) → map (buffer_item world) (map handle (rows groups)) ≡ dumped_groups n groups
from_group world once done [] n few same is found = refl
from_group world once done (group ∷ groups) n few same is found =
    let parts = all_parts (is_found world.groups) group (rows groups) found in
    let lengths : length world.groups ≡ length done + suc (length groups) = ap length same ∙ length-append done (group ∷ groups) in
    let small : nat_le n (2 ^ 31 - 1) ≡ true = grind (arith, nat_tests, lengths, few, is) in
    let more : n + 1 ≡ length (done ++ group ∷ []) + 1 = omega (arith, is, length-append done (group ∷ [])) in
    let regrouped : world.groups ≡ (done ++ group ∷ []) ++ groups = same ∙ sym (append_assoc done (group ∷ []) groups) in
    ap (map (buffer_item world)) (map-append handle group (rows groups)) ∙ map-append (buffer_item world) (map handle group) (map handle (rows groups))
    ∙ (λ i. group_items n world group parts.0 (group_numbers world.groups done groups group [] group n once same is refl) small i
    ++ from_group world once (done ++ group ∷ []) groups (n + 1) few regrouped more parts.1 i)

pub few_of : (groups : EntryGroups) → AreBuffers groups → length groups ≤ 256
few_of groups are = let few = few_groups groups are in omega (arith, few, length-map groups (map handle))

-- each handle is that of one buffer at most
abbrev pub AreOnce : EntryGroups → Type 0
AreOnce groups = (h : ℕ) → times handle_of h groups ≤ 1

items_at : (world : World) (buffers : List Handle) → map (item_of world buffer_keys) (nodes_at world.groups [] (map Buffer buffers)) ≡ map (buffer_item world) buffers
items_at world [] = refl
items_at world (buffer ∷ buffers) = ap (λ items. buffer_item world buffer ∷ items) (items_at world buffers)

all_items : (world : World) → AreOnce world.groups → length world.groups ≤ 256 → map (item_of world buffer_keys) (nodes_at world.groups [] (map Buffer (all_buffers world.groups))) ≡ dumped_groups 1 world.groups
all_items world once few =
    items_at world (all_buffers world.groups) ∙ ap (map (buffer_item world)) (all_handles world.groups)
    ∙ from_group world once [] world.groups 1 few refl refl (rows_once world.groups once)

-- the walk of all buffers is their dump
pub buffers_walked : (world : World) → AreOnce world.groups → length world.groups ≤ 256 → walk_object world buffers_path buffers_keys ∷ [] ≡ buffer_dump world.groups
unfolding walk_object reached starts
buffers_walked world once few =
    (λ i. o.Hda (roll-Hda (record { path = Some (h_path_of buffers_path); keys = Some (keys_text (buffer_keys_asked i)); items = map (item_of world (buffer_keys_asked i)) (nodes_at world.groups [] (map Buffer (all_buffers world.groups))) })) ∷ [])
    ∙ (λ i. o.Hda (roll-Hda (record { path = Some (h_path_of buffers_path); keys = Some (buffer_keys_written i); items = all_items world once few i })) ∷ [])

-- ---- the items of the lines

abbrev pub to_list : Step
to_list = record { variable = OwnLines; count = One }

abbrev pub to_lines : Step
to_lines = record { variable = FirstLine; count = All }

abbrev pub to_data : Step
to_data = record { variable = Data; count = One }

abbrev line_nodes : World → List Handle → List Node
line_nodes world buffers = nodes_reached world lines_path.steps (nodes_at world.groups [] (map Buffer buffers))

line_data : (world : World) (buffer : Handle) (line : Line) → values_of world data_keys (Data_at (held_by buffer line)) ≡ line_values buffer line
unfolding value_of line_values
line_data world buffer line = refl

-- the items of lines to which the list of their buffer led
data_items : (world : World) (buffer own : Handle) (lines : List Line)
    → map (item_of world data_keys) (onward_all world to_data (nodes_at world.groups (buffer.0 ∷ own.0 ∷ []) (map Line_at (map (held_by buffer) lines)))) ≡ map (dumped_item buffer own) lines
unfolding reach dumped_item
data_items world buffer own [] = refl
data_items world buffer own (line ∷ lines) =
    λ i. roll-HdaItem (record { pointers = buffer.0 ∷ own.0 ∷ line.handle.0 ∷ line.content.0 ∷ []; values = line_data world buffer line i }) ∷ data_items world buffer own lines i

-- the items of the lines of one buffer, by the number of its list
abbrev items_by : World → Handle → ℕ → List HdaItem
items_by world buffer own =
    map (item_of world data_keys) (onward_all world to_data (nodes_at world.groups (buffer.0 ∷ own ∷ []) (map Line_at (map (held_by buffer) (lines_at world buffer.0)))))

one_buffer : (world : World) (buffer : Handle) (buffers : List Handle)
    → map (item_of world data_keys) (line_nodes world (buffer ∷ buffers))
    ≡ items_by world buffer (row_number (λ row. row.own_lines.0) (buffer_of buffer world.groups)) ++ map (item_of world data_keys) (line_nodes world buffers)
unfolding reach
one_buffer world buffer buffers =
    let own = row_number (λ row. row.own_lines.0) (buffer_of buffer world.groups) in
    let lines = nodes_at world.groups (buffer.0 ∷ own ∷ []) (map Line_at (map (held_by buffer) (lines_at world buffer.0))) in
    let others = onward_all world to_lines (onward_all world to_list (nodes_at world.groups [] (map Buffer buffers))) in
    ap (map (item_of world data_keys)) (flat_map-append (onward world to_data) lines others)
    ∙ map-append (item_of world data_keys) (onward_all world to_data lines) (onward_all world to_data others)

line_items : (world : World) (es : List BufferEntry) → AllByRecursion (is_found world.groups) es → map (item_of world data_keys) (line_nodes world (map handle es)) ≡ flat_map (dumped_lines world) es
line_items world [] found = refl
line_items world (e ∷ es) found =
    one_buffer world e.row.handle (map handle es)
    ∙ (λ i. items_by world e.row.handle (row_number (λ row. row.own_lines.0) (option_map (λ (b : BufferEntry). b.row) (found.0 i))) ++ line_items world es found.1 i)
    ∙ ap (λ items. items ++ flat_map (dumped_lines world) es) (data_items world e.row.handle e.row.own_lines (lines_at world e.row.handle.0))

-- the walk of all lines is their dump
pub lines_walked : (world : World) → AreOnce world.groups → walk_object world lines_path lines_keys ∷ [] ≡ line_dump world
unfolding walk_object reached starts
lines_walked world once =
    (λ i. o.Hda (roll-Hda (record { path = Some (h_path_of lines_path); keys = Some (keys_text (data_keys_asked i)); items = map (item_of world (data_keys_asked i)) (line_nodes world (all_handles world.groups i)) })) ∷ [])
    ∙ (λ i. o.Hda (roll-Hda (record { path = Some (h_path_of lines_path); keys = Some (data_keys_written i); items = line_items world (rows world.groups) (rows_once world.groups once) i })) ∷ [])
