-- How long the events of buffers are at most, and the dump of all buffers.
use Rattle.std.proofs.Common.{◌≡◌, ℕ, ◌+◌, ◌*◌, ◌-◌, ◌^◌, ◌<◌, ◌≤◌, List, [], ◌∷◌, ◌++◌, length, map, Some, refl, arith}
use Rattle.std.specs.Prelude.{pos, codes}
use Rattle.std.specs.List.{flat_map, AllByRecursion}
use Rattle.std.proofs.lemmas.List.{length-append, length-map}
use Rattle.wc_text.specs.declared.names.Handle.{Handle}
use Rattle.wc_text.specs.declared.names.Pair.{Pair}
use Rattle.wc_buffers.specs.declared.row.BufferEntry.{BufferEntry}
use Rattle.wc_buffers.specs.Calls.{EntryGroups}
use Rattle.wc_buffers.specs.Groups.{rows}
use Rattle.wc_buffers.specs.Kept.{AreVars, IsBuffer}
use Rattle.wc_model.specs.declared.notice.Notice.{Notice}
use Rattle.wc_model.specs.declared.notice.Trim.{Trim}
use Rattle.wc_model.specs.World.{World}
use Rattle.wc_objects.specs.declared.kind.Kind.TheVariants as k
use Rattle.wc_objects.specs.declared.object.Object.{Object}
use Rattle.wc_objects.specs.declared.object.Object.TheVariants as o
use Rattle.wc_objects.specs.declared.object.Object.TheViews.{out-roll-Object}
use Rattle.wc_objects.specs.declared.object.HdaItem.{HdaItem, roll-HdaItem}
use Rattle.wc_objects.specs.Spelling.{be32, text_bytes, pointer_bytes, simple_bytes, pair_bytes, value_bytes, item_bytes, message_bytes}
use Rattle.wc_objects.proofs.Rooms.{length-be32}
use Rattle.wc_events.specs.LineObjects.{truth}
use Rattle.wc_events.specs.BufferObjects.{pair_of, table, count, about, opened_keys, opened_values, opened_objects, placed_keys, placed_values, placed_objects, renamed_keys, renamed_values, renamed_objects, title_keys, title_values, title_objects, vars_keys, vars_values, vars_objects, trim_keys, trim_values, trim_objects, dump_keys, dumped_values, dumped_buffer, dumped_groups, buffer_dump}
use Rattle.wc_mirror_laws.specs.Worlds.{IsBufferKept, IsWorldKept}
use Rattle.wc_mirror_laws.proofs.HandleLemmas.{rows_handles}
use Rattle.wc_mirror_laws.proofs.ListLemmas.{all_append, all_front, all_back, all_map}
use Rattle.wc_mirror_laws.proofs.NoticeLemmas.{IsTrimTold, IsTelling}
use Rattle.wc_mirror_laws.proofs.SizeLemmas.{IsAtMost, AreAtMost, total, text_size, simple_size, pointer_short, number_short, text_short, pointers_size, values_size, spelt, message_size}
use Rattle.wc_mirror_laws.proofs.VarLemmas.{AreShort}

-- ---- values

pairs_size : (vars : List Pair) → AreVars vars → AreShort vars → length (flat_map pair_bytes (map pair_of vars)) ≤ 1096 * length vars
pairs_size [] are short = omega arith
pairs_size (v ∷ vars) are short =
    let more = pairs_size vars are.1 short.1 in
    let name = simple_size v.name in
    let value = simple_size v.value in
    let cut = are.0.short in
    let named : length v.name ≤ 64 = short.0 in
    omega (
      arith,
      length-append (pair_bytes (pair_of v)) (flat_map pair_bytes (map pair_of vars)),
      length-append (simple_bytes (o.Str (Some v.name))) (simple_bytes (o.Str (Some v.value))),
    )

table_short : (vars : List Pair) → length vars ≤ 64 → AreVars vars → AreShort vars → IsAtMost 70154 (table vars)
unfolding value_bytes
table_short vars few are short =
    rw (← o.rolls-Htb k.Str k.Str (map pair_of vars), out-roll-Object)
    (let all = pairs_size vars are short in
    omega (
      arith,
      length-append (be32 (length (map pair_of vars))) (flat_map pair_bytes (map pair_of vars)),
      length-be32 (length (map pair_of vars)),
      length-map vars pair_of,
    ))

-- a buffer within its limits, whose variables have short names
abbrev IsBounded : BufferEntry → Type 0
IsBounded e = IsBuffer e × AreShort e.vars

-- how long the values of each event are at most, and those of a buffer of the dump

abbrev opened_sizes : List ℕ
opened_sizes = 4 ∷ 260 ∷ 132 ∷ 4 ∷ 1028 ∷ 70154 ∷ 17 ∷ 17 ∷ []

abbrev placed_sizes : List ℕ
placed_sizes = 4 ∷ 260 ∷ 17 ∷ 17 ∷ []

abbrev renamed_sizes : List ℕ
renamed_sizes = 4 ∷ 260 ∷ 132 ∷ 70154 ∷ []

abbrev title_sizes : List ℕ
title_sizes = 4 ∷ 260 ∷ 1028 ∷ []

abbrev vars_sizes : List ℕ
vars_sizes = 4 ∷ 260 ∷ 70154 ∷ []

abbrev dumped_sizes : List ℕ
dumped_sizes = 4 ∷ 260 ∷ 132 ∷ 4 ∷ 1028 ∷ 70154 ∷ []

opened_short : (n : Notice) (e : BufferEntry) → IsTelling n → IsBounded e → AreAtMost (opened_values n e) opened_sizes
unfolding opened_values
opened_short n e tells is = (
  number_short (count n.number),
  (
    text_short 256 n.full_name tells.short,
    (
      text_short 128 e.row.short_name is.0.short_name.1,
      (
        number_short (truth e.row.hidden),
        (
          text_short 1024 e.row.title is.0.title,
          (table_short e.vars is.0.few is.0.vars is.1, (pointer_short n.prev.0 tells.prev, (pointer_short n.next.0 tells.next, tt))),
        ),
      ),
    ),
  ),
)

placed_short : (n : Notice) → IsTelling n → AreAtMost (placed_values n) placed_sizes
unfolding placed_values
placed_short n tells = (number_short (count n.number), (text_short 256 n.full_name tells.short, (pointer_short n.prev.0 tells.prev, (pointer_short n.next.0 tells.next, tt))))

renamed_short : (n : Notice) (e : BufferEntry) → IsTelling n → IsBounded e → AreAtMost (renamed_values n e) renamed_sizes
unfolding renamed_values
renamed_short n e tells is = (
  number_short (count n.number),
  (text_short 256 n.full_name tells.short, (text_short 128 e.row.short_name is.0.short_name.1, (table_short e.vars is.0.few is.0.vars is.1, tt))),
)

title_short : (n : Notice) (e : BufferEntry) → IsTelling n → IsBounded e → AreAtMost (title_values n e) title_sizes
unfolding title_values
title_short n e tells is = (number_short (count n.number), (text_short 256 n.full_name tells.short, (text_short 1024 e.row.title is.0.title, tt)))

vars_short : (n : Notice) (e : BufferEntry) → IsTelling n → IsBounded e → AreAtMost (vars_values n e) vars_sizes
unfolding vars_values
vars_short n e tells is = (number_short (count n.number), (text_short 256 n.full_name tells.short, (table_short e.vars is.0.few is.0.vars is.1, tt)))

trim_short : (trim : Trim) → IsTrimTold trim → AreAtMost (trim_values trim) (17 ∷ 4 ∷ [])
unfolding trim_values
trim_short trim told = (pointer_short trim.buffer.0 told.buffer, (number_short (count trim.count), tt))

dumped_short : (number : ℕ) (e : BufferEntry) → IsBounded e → AreAtMost (dumped_values number e) dumped_sizes
unfolding dumped_values
dumped_short number e is = (
  number_short (pos number),
  (
    text_short 256 e.row.full_name is.0.full_name.1,
    (
      text_short 128 e.row.short_name is.0.short_name.1,
      (number_short (truth e.row.hidden), (text_short 1024 e.row.title is.0.title, (table_short e.vars is.0.few is.0.vars is.1, tt))),
    ),
  ),
)

-- ---- items

-- an item of any buffer is no longer
abbrev IsBrief : HdaItem → Type 0
IsBrief item = length (item_bytes item) ≤ 80000

item_size : (pointers : List ℕ) (values : List Object) (ns : List ℕ) → length pointers ≤ 1 → AllByRecursion (λ p. p < 2 ^ 64) pointers → AreAtMost values ns → total ns ≤ 75000
    → length (flat_map pointer_bytes pointers ++ flat_map value_bytes values) ≤ 80000
item_size pointers values ns one small all most =
    let front = pointers_size pointers small in
    let back = values_size values ns all in
    omega (arith, length-append (flat_map pointer_bytes pointers) (flat_map value_bytes values))

item_brief : (buffer : ℕ) (values : List Object) (ns : List ℕ) → buffer < 2 ^ 64 → AreAtMost values ns → total ns ≤ 75000 → IsBrief (roll-HdaItem (record { pointers = buffer ∷ []; values = values }))
unfolding item_bytes
item_brief buffer values ns small all most = item_size (buffer ∷ []) values ns (omega arith) (small, tt) all most

items_size : (items : List HdaItem) → AllByRecursion IsBrief items → length (flat_map item_bytes items) ≤ 80000 * length items
items_size [] all = omega arith
items_size (item ∷ items) all =
    let more = items_size items all.1 in
    let here : length (item_bytes item) ≤ 80000 = all.0 in
    omega (arith, length-append (item_bytes item) (flat_map item_bytes items))

spelt_size : (path keys : List ℕ) (items : List HdaItem) → length path ≤ 100 → length keys ≤ 200 → length items ≤ 256 → AllByRecursion IsBrief items → length (spelt path keys items) ≤ 1800000000
spelt_size path keys items short named few all =
    let size = items_size items all in
    let front = text_size path in
    let following = text_size keys in
    omega (
      arith,
      length-be32 (length items),
      length-append (text_bytes (Some path)) (text_bytes (Some keys) ++ (be32 (length items) ++ flat_map item_bytes items)),
      length-append (text_bytes (Some keys)) (be32 (length items) ++ flat_map item_bytes items),
      length-append (be32 (length items)) (flat_map item_bytes items),
    )

-- ---- events

about_size : (id keys : List ℕ) (buffer : Handle) (values : List Object) (ns : List ℕ) → length id ≤ 65536 → length keys ≤ 200 → buffer.0 < 2 ^ 64 → AreAtMost values ns → total ns ≤ 75000
    → length (message_bytes id (about keys buffer values)) ≤ 2 ^ 31 - 1
about_size id keys buffer values ns known named small all most =
    let items = roll-HdaItem (record { pointers = buffer.0 ∷ []; values = values }) ∷ [] in
    message_size id (codes "buffer") keys items known (spelt_size (codes "buffer") keys items (omega arith) named (omega arith) (item_brief buffer.0 values ns small all most, tt))

pub opened_size : (id : List ℕ) (n : Notice) (e : BufferEntry) → length id ≤ 65536 → IsTelling n → IsBuffer e → AreShort e.vars → length (message_bytes id (opened_objects n e)) ≤ 2 ^ 31 - 1
opened_size id n e known tells fit short = about_size id opened_keys n.buffer (opened_values n e) opened_sizes known (omega arith) tells.buffer (opened_short n e tells (fit, short)) (omega arith)

pub placed_size : (id : List ℕ) (n : Notice) → length id ≤ 65536 → IsTelling n → length (message_bytes id (placed_objects n)) ≤ 2 ^ 31 - 1
placed_size id n known tells = about_size id placed_keys n.buffer (placed_values n) placed_sizes known (omega arith) tells.buffer (placed_short n tells) (omega arith)

pub renamed_size : (id : List ℕ) (n : Notice) (e : BufferEntry) → length id ≤ 65536 → IsTelling n → IsBuffer e → AreShort e.vars → length (message_bytes id (renamed_objects n e)) ≤ 2 ^ 31 - 1
renamed_size id n e known tells fit short = about_size id renamed_keys n.buffer (renamed_values n e) renamed_sizes known (omega arith) tells.buffer (renamed_short n e tells (fit, short)) (omega arith)

pub title_size : (id : List ℕ) (n : Notice) (e : BufferEntry) → length id ≤ 65536 → IsTelling n → IsBuffer e → AreShort e.vars → length (message_bytes id (title_objects n e)) ≤ 2 ^ 31 - 1
title_size id n e known tells fit short = about_size id title_keys n.buffer (title_values n e) title_sizes known (omega arith) tells.buffer (title_short n e tells (fit, short)) (omega arith)

pub vars_size : (id : List ℕ) (n : Notice) (e : BufferEntry) → length id ≤ 65536 → IsTelling n → IsBuffer e → AreShort e.vars → length (message_bytes id (vars_objects n e)) ≤ 2 ^ 31 - 1
vars_size id n e known tells fit short = about_size id vars_keys n.buffer (vars_values n e) vars_sizes known (omega arith) tells.buffer (vars_short n e tells (fit, short)) (omega arith)

pub trim_size : (id : List ℕ) (trim : Trim) → length id ≤ 65536 → IsTrimTold trim → length (message_bytes id (trim_objects trim)) ≤ 2 ^ 31 - 1
trim_size id trim known told = about_size id trim_keys trim.buffer (trim_values trim) (17 ∷ 4 ∷ []) known (omega arith) told.buffer (trim_short trim told) (omega arith)

-- ---- the dump

dumped_count : (number : ℕ) (groups : EntryGroups) → length (dumped_groups number groups) ≡ length (rows groups)
dumped_count number [] = refl
dumped_count number (group ∷ groups) =
    let more = dumped_count (number + 1) groups in
    omega (arith, length-append (map (dumped_buffer number) group) (dumped_groups (number + 1) groups), length-map group (dumped_buffer number), length-append group (rows groups))

module _ (next : ℕ) (ended : next ≤ 2 ^ 62 + 1) where
  dumped_brief : (number : ℕ) (e : BufferEntry) → IsBufferKept next e → IsBrief (dumped_buffer number e)
  dumped_brief number e kept = let below = kept.below in item_brief e.row.handle.0 (dumped_values number e) dumped_sizes (omega arith) (dumped_short number e (kept.fit, kept.names)) (omega arith)

  groups_brief : (number : ℕ) (groups : EntryGroups) → AllByRecursion (IsBufferKept next) (rows groups) → AllByRecursion IsBrief (dumped_groups number groups)
  groups_brief number [] all = tt
  groups_brief number (group ∷ groups) all =
      all_append IsBrief (map (dumped_buffer number) group) (dumped_groups (number + 1) groups)
      (all_map (IsBufferKept next) IsBrief (dumped_buffer number) group (dumped_brief number) (all_front (IsBufferKept next) group (rows groups) all))
      (groups_brief (number + 1) groups (all_back (IsBufferKept next) group (rows groups) all))

-- under an id that a line can hold
pub buffer_dump_size : (limit : ℕ) (id : List ℕ) (world : World) → length id ≤ 65536 → IsWorldKept limit world → length (message_bytes id (buffer_dump world.groups)) ≤ 2 ^ 31 - 1
buffer_dump_size limit id world known is =
    let items = dumped_groups 1 world.groups in
    let few = is.groups.few in
    message_size id (codes "buffer") dump_keys items known
    (spelt_size (codes "buffer") dump_keys items (omega arith) (omega arith) (omega (arith, dumped_count 1 world.groups, rows_handles world.groups))
    (groups_brief world.next is.ended 1 world.groups is.each))
