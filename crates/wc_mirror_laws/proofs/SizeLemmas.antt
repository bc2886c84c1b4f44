-- How long the events that change lines are at most, and the dump of all lines.
use Rattle.std.proofs.Common.{◌≡◌, ℕ, ◌+◌, ◌*◌, ◌-◌, ◌^◌, ◌<◌, ◌≤◌, Bool, true, false, cond, List, [], ◌∷◌, ◌++◌, length, map, filter, sum_by, Some, refl, ap, ◌∙◌, arith, eqb, leb}
use Rattle.std.specs.Prelude.{ℤ, pos, codes}
use Rattle.std.specs.List.{flat_map, AllByRecursion}
use Rattle.std.specs.Fmt.{signed_decimal}
use Rattle.std.specs.Int.{w32, cast_unsigned}
use Rattle.std.specs.Int.Digits.{digits_of}
use Rattle.std.proofs.lemmas.Bool.Decides.{nat_tests}
use Rattle.std.proofs.lemmas.List.{length-append, length-map}
use Rattle.std.proofs.lemmas.List.Elements.{recursion_from_All}
use Rattle.std.proofs.lemmas.List.Sums.{sum_by-cons, length-filter, count_by-le-length}
use Rattle.std.proofs.lemmas.Fmt.{length_signed_le}
use Rattle.std.proofs.lemmas.Int.Digits.{length-digits_of-le}
use denote.Hole.Carrier.{out}
use Rattle.wc_text.specs.declared.names.Handle.{Handle}
use Rattle.wc_lines.specs.declared.line.Line.{Line}
use Rattle.wc_buffers.specs.declared.row.BufferEntry.{BufferEntry}
use Rattle.wc_buffers.specs.Groups.{rows}
use Rattle.wc_model.specs.declared.notice.Notice.{Notice}
use Rattle.wc_model.specs.Parts.{is_flipped}
use Rattle.wc_model.specs.World.{World, lines_at}
use Rattle.wc_objects.specs.declared.kind.Kind.TheVariants as k
use Rattle.wc_objects.specs.declared.object.Object.{Object}
use Rattle.wc_objects.specs.declared.object.Object.TheVariants as o
use Rattle.wc_objects.specs.declared.object.Object.TheViews.{out-Object, out-roll-Object, out-roll-Hda}
use Rattle.wc_objects.specs.declared.object.Hda.{Hda, roll-Hda}
use Rattle.wc_objects.specs.declared.object.HdaItem.{HdaItem, roll-HdaItem}
use Rattle.wc_objects.specs.Hex.{hex, glyph}
use Rattle.wc_objects.specs.Spelling.{be32, text_bytes, pointer_bytes, simple_bytes, value_bytes, item_bytes, hda_bytes, object_bytes, message_bytes}
use Rattle.wc_objects.proofs.Rooms.{length-be32, length-message_bytes}
use Rattle.wc_keys.specs.Events.{line_path}
use Rattle.wc_events.specs.LineObjects.{moment, truth, texts, line_keys, line_values, added_item, added_objects, dumped_item, dumped_lines, line_dump}
use Rattle.wc_events.specs.BufferObjects.{count, named_keys, named_values, named_objects, flag_keys, flag_item, flag_items, flag_objects}
use Rattle.wc_mirror_laws.specs.Printed.{IsPrinted}
use Rattle.wc_mirror_laws.specs.Worlds.{IsBufferKept, IsWorldKept}
use Rattle.wc_mirror_laws.proofs.ListLemmas.{all_filter, all_map, all_flat}
use Rattle.wc_mirror_laws.proofs.HandleLemmas.{rows_handles}

hex_size : (p : ℕ) → p < 2 ^ 64 → length (hex p) ≤ 16
unfolding hex
hex_size p small = by (eqb p 0) where
  by : (b : Bool) → length (cond b (48 ∷ []) (map glyph (digits_of 16 p))) ≤ 16
  by true = omega arith
  by false = omega (arith, length-map (digits_of 16 p) glyph, length-digits_of-le 16 16 p (omega arith) (omega arith))

pointer_size : (p : ℕ) → p < 2 ^ 64 → length (pointer_bytes p) ≤ 17
pointer_size p small = let h = hex_size p small in omega arith

pub text_size : (text : List ℕ) → length (text_bytes (Some text)) ≡ 4 + length text
unfolding text_bytes
text_size text = length-append (be32 (length text)) text ∙ ap (λ n. n + length text) (length-be32 (length text))

-- ---- values

-- the bytes of a value are at most so many
abbrev pub IsAtMost : ℕ → Object → Type 0
IsAtMost n value = length (value_bytes value) ≤ n

pub pointer_short : (p : ℕ) → p < 2 ^ 64 → IsAtMost 17 (o.Ptr p)
unfolding value_bytes simple_bytes out-Object out
pointer_short p small = pointer_size p small

date_size : (date : ℕ) → length (signed_decimal (moment date)) ≤ 21
date_size date = by (leb date (2 ^ 63 - 1)) refl where
  by : (b : Bool) → leb date (2 ^ 63 - 1) ≡ b → length (signed_decimal (pos (cond b date (2 ^ 63 - 1)))) ≤ 21
  by true e = let small : date ≤ 2 ^ 63 - 1 = grind (arith, nat_tests) in length_signed_le 20 (pos date) (omega arith) (omega arith)
  by false e = length_signed_le 20 (pos (2 ^ 63 - 1)) (omega arith) (omega arith)

date_short : (date : ℕ) → IsAtMost 22 (o.Tim (moment date))
unfolding value_bytes simple_bytes out-Object out
date_short date = let h = date_size date in omega arith

pub level_short : (n : ℤ) → IsAtMost 1 (o.Chr n)
unfolding value_bytes simple_bytes out-Object out
level_short n = omega arith

pub number_short : (n : ℤ) → IsAtMost 4 (o.Int n)
unfolding value_bytes simple_bytes out-Object out
number_short n = let h = length-be32 (cast_unsigned w32 n) in omega arith

pub text_short : (n : ℕ) (text : List ℕ) → length text ≤ n → IsAtMost (4 + n) (o.Str (Some text))
unfolding value_bytes simple_bytes out-Object out
text_short n text small = let h = text_size text in omega arith

pub simple_size : (text : List ℕ) → length (simple_bytes (o.Str (Some text))) ≡ 4 + length text
unfolding simple_bytes out-Object out
simple_size text = text_size text

texts_size : (tags : List (List ℕ)) → length (flat_map simple_bytes (texts tags)) ≡ 4 * length tags + sum_by (λ tag. length tag) tags
texts_size [] = omega arith
texts_size (tag ∷ tags) =
    let more = texts_size tags in
    let here = simple_size tag in
    omega (arith, length-append (simple_bytes (o.Str (Some tag))) (flat_map simple_bytes (texts tags)), sum_by-cons (λ (tag : List ℕ). length tag) tag tags)

tags_short : (tags : List (List ℕ)) → length tags ≤ 32 → sum_by (λ tag. length tag) tags ≤ 256 → IsAtMost 391 (o.Arr k.Str (texts tags))
unfolding value_bytes
tags_short tags few short =
    rw (← o.rolls-Arr k.Str (texts tags), out-roll-Object)
    (let all = texts_size tags in
    omega (
      arith,
      length-append (be32 (length (texts tags))) (flat_map simple_bytes (texts tags)),
      length-be32 (length (texts tags)),
    ))

-- the bytes of each value are at most so many
abbrev pub AreAtMost : List Object → List ℕ → Type 0
AreAtMost [] [] = Unit {0}
AreAtMost (value ∷ values) (n ∷ ns) = IsAtMost n value × AreAtMost values ns
AreAtMost _ _ = ⊥

abbrev pub total : List ℕ → ℕ
total [] = 0
total (n ∷ ns) = n + total ns

pub values_size : (values : List Object) (ns : List ℕ) → AreAtMost values ns → length (flat_map value_bytes values) ≤ total ns
values_size [] [] all = omega arith
values_size [] (n ∷ ns) all = absurd all
values_size (value ∷ values) [] all = absurd all
values_size (value ∷ values) (n ∷ ns) all =
    let more = values_size values ns all.1 in
    let here : length (value_bytes value) ≤ n = all.0 in
    omega (arith, length-append (value_bytes value) (flat_map value_bytes values))

abbrev line_sizes : List ℕ
line_sizes = 17 ∷ 4 ∷ 22 ∷ 4 ∷ 22 ∷ 4 ∷ 1 ∷ 1 ∷ 1 ∷ 391 ∷ 132 ∷ 1028 ∷ []

values_short : (buffer : Handle) (line : Line) → buffer.0 < 2 ^ 64 → IsPrinted line → AreAtMost (line_values buffer line) line_sizes
unfolding line_values
values_short buffer line small is = (
  pointer_short buffer.0 small,
  (
    number_short (count line.id),
    (
      date_short line.date,
      (
        number_short (count line.usec),
        (
          date_short line.date_printed,
          (
            number_short (count line.usec_printed),
            (
              level_short (truth line.displayed),
              (
                level_short line.notify,
                (
                  level_short (truth line.highlight),
                  (
                    tags_short line.tags is.few is.tags,
                    (text_short 128 line.prefix is.prefix, (text_short 1024 line.message is.message, tt)),
                  ),
                ),
              ),
            ),
          ),
        ),
      ),
    ),
  ),
)

named_short : (notice : Notice) → length notice.full_name ≤ 256 → AreAtMost (named_values notice) (4 ∷ 260 ∷ [])
unfolding named_values
named_short notice short = (number_short (count notice.number), (text_short 256 notice.full_name short, tt))

-- ---- items

pub pointers_size : (pointers : List ℕ) → AllByRecursion (λ p. p < 2 ^ 64) pointers → length (flat_map pointer_bytes pointers) ≤ 17 * length pointers
pointers_size [] all = omega arith
pointers_size (p ∷ pointers) all =
    let more = pointers_size pointers all.1 in
    let here = pointer_size p all.0 in
    omega (arith, length-append (pointer_bytes p) (flat_map pointer_bytes pointers))

-- an item of any line is no longer
abbrev pub IsSmall : HdaItem → Type 0
IsSmall item = length (item_bytes item) ≤ 1700

pub item_size : (pointers : List ℕ) (values : List Object) (ns : List ℕ) → length pointers ≤ 4 → AllByRecursion (λ p. p < 2 ^ 64) pointers → AreAtMost values ns → total ns ≤ 1627
    → length (flat_map pointer_bytes pointers ++ flat_map value_bytes values) ≤ 1700
item_size pointers values ns few small all most =
    let front = pointers_size pointers small in
    let back = values_size values ns all in
    omega (arith, length-append (flat_map pointer_bytes pointers) (flat_map value_bytes values))

added_small : (buffer : Handle) (line : Line) → buffer.0 < 2 ^ 64 → IsPrinted line → IsSmall (added_item buffer line)
unfolding item_bytes added_item
added_small buffer line small is = item_size (line.content.0 ∷ []) (line_values buffer line) line_sizes (omega arith) (is.content, tt) (values_short buffer line small is) (omega arith)

dumped_small : (buffer own : Handle) (line : Line) → buffer.0 < 2 ^ 64 → own.0 < 2 ^ 64 → IsPrinted line → IsSmall (dumped_item buffer own line)
unfolding item_bytes dumped_item
dumped_small buffer own line small lines is =
    item_size (buffer.0 ∷ own.0 ∷ line.handle.0 ∷ line.content.0 ∷ []) (line_values buffer line) line_sizes (omega arith)
    (small, (lines, (is.handle, (is.content, tt)))) (values_short buffer line small is) (omega arith)

named_small : (notice : Notice) → notice.buffer.0 < 2 ^ 64 → length notice.full_name ≤ 256 → IsSmall (roll-HdaItem (record { pointers = notice.buffer.0 ∷ []; values = named_values notice }))
unfolding item_bytes
named_small notice small short = item_size (notice.buffer.0 ∷ []) (named_values notice) (4 ∷ 260 ∷ []) (omega arith) (small, tt) (named_short notice short) (omega arith)

flag_small : (buffer : Handle) (line : Line) → buffer.0 < 2 ^ 64 → IsPrinted line → IsSmall (flag_item buffer line)
unfolding item_bytes
flag_small buffer line small is =
    item_size (line.content.0 ∷ []) (o.Ptr buffer.0 ∷ o.Chr (truth line.displayed) ∷ []) (17 ∷ 1 ∷ []) (omega arith) (is.content, tt) (pointer_short buffer.0 small, (level_short (truth line.displayed), tt)) (omega arith)

items_size : (items : List HdaItem) → AllByRecursion IsSmall items → length (flat_map item_bytes items) ≤ 1700 * length items
items_size [] all = omega arith
items_size (item ∷ items) all =
    let more = items_size items all.1 in
    let here : length (item_bytes item) ≤ 1700 = all.0 in
    omega (arith, length-append (item_bytes item) (flat_map item_bytes items))

-- ---- messages

abbrev pub hda_of : List ℕ → List ℕ → List HdaItem → Hda
hda_of path keys items = roll-Hda (record { path = Some path; keys = Some keys; items = items })

-- the bytes of items on a path
abbrev pub spelt : List ℕ → List ℕ → List HdaItem → List ℕ
spelt path keys items = text_bytes (Some path) ++ (text_bytes (Some keys) ++ (be32 (length items) ++ flat_map item_bytes items))

hda_spelt : (path keys : List ℕ) (items : List HdaItem) → hda_bytes (hda_of path keys items) ≡ spelt path keys items
unfolding hda_bytes
hda_spelt path keys items = rw out-roll-Hda refl

object_spelt : (path keys : List ℕ) (items : List HdaItem) → object_bytes (o.Hda (hda_of path keys items)) ≡ codes "hda" ++ spelt path keys items
unfolding object_bytes
object_spelt path keys items = rw (← o.rolls-Hda (hda_of path keys items), out-roll-Object) (ap (λ t. codes "hda" ++ t) (hda_spelt path keys items))

pub spelt_size : (path keys : List ℕ) (items : List HdaItem) → length path ≤ 100 → length keys ≤ 200 → length items ≤ 1048832 → AllByRecursion IsSmall items → length (spelt path keys items) ≤ 1800000000
spelt_size path keys items short named few all =
    let size = items_size items all in
    let count = length-be32 (length items) in
    let front = text_size path in
    let following = text_size keys in
    omega (
      arith,
      length-append (text_bytes (Some path)) (text_bytes (Some keys) ++ (be32 (length items) ++ flat_map item_bytes items)),
      length-append (text_bytes (Some keys)) (be32 (length items) ++ flat_map item_bytes items),
      length-append (be32 (length items)) (flat_map item_bytes items),
    )

-- a message of such items fits
pub message_size : (id path keys : List ℕ) (items : List HdaItem) → length id ≤ 65536 → length (spelt path keys items) ≤ 1800000000
    → length (message_bytes id (o.Hda (hda_of path keys items) ∷ [])) ≤ 2 ^ 31 - 1
message_size id path keys items known size =
    let object = object_bytes (o.Hda (hda_of path keys items)) in
    let whole = length-message_bytes id (o.Hda (hda_of path keys items) ∷ []) in
    let front = text_size id in
    let is : length object ≡ length (codes "hda" ++ spelt path keys items) = ap length (object_spelt path keys items) in
    omega (
      arith,
      length-append (text_bytes (Some id)) (object ++ []),
      length-append object [],
      length-append (codes "hda") (spelt path keys items),
    )

-- the event of a line
pub added_size : (id : List ℕ) (buffer : Handle) (line : Line) → length id ≤ 65536 → buffer.0 < 2 ^ 64 → IsPrinted line → length (message_bytes id (added_objects buffer line)) ≤ 2 ^ 31 - 1
added_size id buffer line known small is =
    let items = added_item buffer line ∷ [] in
    message_size id (codes "line_data") line_keys items known (spelt_size (codes "line_data") line_keys items (omega arith) (omega arith) (omega arith) (added_small buffer line small is, tt))

-- the event of the lines of a buffer whose flags differ, which are at most all that it holds
pub flags_size : (id : List ℕ) (buffer : Handle) (flips : List Handle) (lines : List Line) → length id ≤ 65536 → buffer.0 < 2 ^ 64 → length lines ≤ 4096 → AllByRecursion IsPrinted lines
    → length (message_bytes id (flag_objects buffer flips lines)) ≤ 2 ^ 31 - 1
flags_size id buffer flips lines known small few all =
    let told = filter (is_flipped flips) lines in
    let items = flag_items buffer flips lines in
    message_size id line_path flag_keys items known
    (spelt_size line_path flag_keys items (omega arith) (omega arith) (omega (arith, length-map told (flag_item buffer), length-filter (is_flipped flips) lines, count_by-le-length (is_flipped flips) lines))
    (all_map IsPrinted IsSmall (flag_item buffer) told (λ line printed. flag_small buffer line small printed) (all_filter IsPrinted (is_flipped flips) lines all)))

-- the event of a buffer that is closed or cleared
pub named_size : (id : List ℕ) (notice : Notice) → length id ≤ 65536 → notice.buffer.0 < 2 ^ 64 → length notice.full_name ≤ 256 → length (message_bytes id (named_objects notice)) ≤ 2 ^ 31 - 1
named_size id notice known small short =
    let items = roll-HdaItem (record { pointers = notice.buffer.0 ∷ []; values = named_values notice }) ∷ [] in
    message_size id (codes "buffer") named_keys items known (spelt_size (codes "buffer") named_keys items (omega arith) (omega arith) (omega arith) (named_small notice small short, tt))

-- ---- the dump

dumped_count : (world : World) (es : List BufferEntry) → ((h : ℕ) → length (lines_at world h) ≤ 4096) → length (flat_map (dumped_lines world) es) ≤ 4096 * length es
dumped_count world [] few = omega arith
dumped_count world (e ∷ es) few =
    let more = dumped_count world es few in
    let here = few e.row.handle.0 in
    omega (
      arith,
      length-append (dumped_lines world e) (flat_map (dumped_lines world) es),
      length-map (lines_at world e.row.handle.0) (dumped_item e.row.handle e.row.own_lines),
    )

-- under an id that a line can hold
pub dump_size : (limit : ℕ) (id : List ℕ) (world : World) → length id ≤ 65536 → limit ≤ 4096 → IsWorldKept limit world → length (message_bytes id (line_dump world)) ≤ 2 ^ 31 - 1
dump_size limit id world known most is =
    let items = flat_map (dumped_lines world) (rows world.groups) in
    let count = dumped_count world (rows world.groups) (λ h. let within = is.within h in omega arith) in
    let few = is.groups.few in
    let path = codes "buffer/lines/line/line_data" in
    message_size id path line_keys items known
    (spelt_size path line_keys items (omega arith) (omega arith) (omega (arith, rows_handles world.groups))
    (all_flat (IsBufferKept world.next) IsSmall (dumped_lines world) (rows world.groups) small is.each))
  where
    small : (e : BufferEntry) → IsBufferKept world.next e → AllByRecursion IsSmall (dumped_lines world e)
    small e kept =
        let below = kept.below in
        let own = kept.own in
        let ended = is.ended in
        all_map IsPrinted IsSmall (dumped_item e.row.handle e.row.own_lines) (lines_at world e.row.handle.0) (λ line printed. dumped_small e.row.handle e.row.own_lines line (omega arith) (omega arith) printed)
        (recursion_from_All IsPrinted (lines_at world e.row.handle.0) (is.printed e.row.handle.0))
