-- Items of nicklists as bytes, and how they follow one another.
use Rattle.std.proofs.Common.{◌≡◌, ℕ, ◌+◌, ◌≤◌, ◌<◌, List, [], ◌∷◌, ◌++◌, length, Option, Some, None, refl, sym, ap, ◌∙◌, append-nil, append_assoc, length-append, drop, get_or, arith}
use Rattle.std.specs.Prelude.{MatchOption}
use Rattle.std.specs.List.{flat_map, filter_map, cons_option}
use Rattle.std.proofs.lemmas.List.{drop_all, drop_more}
use Rattle.std.proofs.lemmas.List.Concat.{flat_map-append}
use Rattle.bytes.specs.Filled.{Filled}
use Rattle.wc_text.specs.declared.names.Handle.{Handle}
use Rattle.wc_nicklist.specs.declared.item.Item.{Item}
use Rattle.wc_nickdiff.specs.declared.diff_item.DiffItem.{DiffItem}
use Rattle.wc_nickdiff.specs.declared.diff_item.Mark.{Mark}
use Rattle.wc_objects.specs.declared.object.Object.{Object}
use Rattle.wc_objects.specs.declared.object.Object.TheVariants as o
use Rattle.wc_objects.specs.declared.object.Object.TheViews.{out-roll-HdaItem}
use Rattle.wc_objects.specs.declared.object.HdaItem.{HdaItem, roll-HdaItem}
use Rattle.wc_objects.specs.Spelling.{item_bytes, value_bytes, pointer_bytes, HasRoomFor, Puts}
use Rattle.wc_keys.specs.declared.key.Key.{Key}
use Rattle.wc_keys.specs.declared.key.KeyList.TheVariants as l
use Rattle.wc_keys.specs.Keys.{keys_in}
use Rattle.wc_events.specs.declared.lent_nick.LentNick.{LentNick}
use Rattle.wc_events.specs.declared.nick_bytes.Left.{Left}
use Rattle.wc_events.specs.HdaBytes.{items_bytes}
use Rattle.wc_events.specs.NickBytes.{item_lent, marked_value, lent_value, key_bytes, told_bytes, IsAfter, IsOver}
use Rattle.wc_events.specs.NickObjects.{mark_code, nick_values, nick_item, diff_item}
use Rattle.wc_events.specs.ValueBytes.{bytes_if}

-- ---- one item

-- the values under these keys
values_told : (n : LentNick) (keys : List Key) → flat_map value_bytes (filter_map (lent_value n) keys) ≡ flat_map (key_bytes n) keys
unfolding key_bytes
values_told n [] = refl
values_told n (k ∷ keys) = by (lent_value n k) (values_told n keys)
  where
    by : (value : Option Object) → flat_map value_bytes (filter_map (lent_value n) keys) ≡ flat_map (key_bytes n) keys
        → flat_map value_bytes (cons_option value (filter_map (lent_value n) keys)) ≡ bytes_if value ++ flat_map (key_bytes n) keys
    by None e = e
    by (Some value) e = ap (λ (b : List ℕ). value_bytes value ++ b) e

-- an item with its two pointers and these values
item_is : (a b : ℕ) (values : List Object) → items_bytes (roll-HdaItem (record { pointers = a ∷ b ∷ []; values = values }) ∷ [])
    ≡ pointer_bytes a ++ (pointer_bytes b ++ flat_map value_bytes values)
unfolding item_bytes
item_is a b values =
    let opened = out-roll-HdaItem (record { pointers = a ∷ b ∷ []; values = values }) in
    append-nil (item_bytes (roll-HdaItem (record { pointers = a ∷ b ∷ []; values = values })))
    ∙ (λ i. flat_map pointer_bytes (opened i).pointers ++ flat_map value_bytes (opened i).values)
    ∙ append_assoc (pointer_bytes a) (pointer_bytes b ++ []) (flat_map value_bytes values)
    ∙ ap (λ (x : List ℕ). pointer_bytes a ++ x) (append_assoc (pointer_bytes b) [] (flat_map value_bytes values))

told_item : (buffer : Handle) (n : LentNick) (keys : List Key)
    → items_bytes (roll-HdaItem (record { pointers = buffer.0 ∷ n.handle.0 ∷ []; values = filter_map (lent_value n) keys }) ∷ []) ≡ told_bytes buffer n keys
told_item buffer n keys =
    item_is buffer.0 n.handle.0 (filter_map (lent_value n) keys)
    ∙ ap (λ (x : List ℕ). pointer_bytes buffer.0 ++ (pointer_bytes n.handle.0 ++ x)) (values_told n keys)

list_values : (mark : Option Mark) (i : Item) → mark ≡ None → filter_map (marked_value mark i) (keys_in l.Nicks) ≡ nick_values i
unfolding nick_values
list_values mark i none = ap (λ m. filter_map (marked_value m i) (keys_in l.Nicks)) none

diff_values : (mark : Option Mark) (d : DiffItem) → mark ≡ Some d.mark
    → filter_map (marked_value mark d.item) (keys_in l.Diff) ≡ o.Chr (mark_code d.mark) ∷ nick_values d.item
unfolding nick_values
diff_values mark d some = ap (λ m. filter_map (marked_value m d.item) (keys_in l.Diff)) some

-- a group or a nick of a list
pub list_told : (buffer : Handle) (n : LentNick) (i : Item) (keys : List Key) → n.mark ≡ None → item_lent n ≡ i → keys ≡ keys_in l.Nicks
    → told_bytes buffer n keys ≡ items_bytes (nick_item buffer i ∷ [])
list_told buffer n i keys none is all =
    let item : Handle → List Object → HdaItem = λ handle values. roll-HdaItem (record { pointers = buffer.0 ∷ handle.0 ∷ []; values = values }) in
    sym (told_item buffer n keys)
    ∙ ap (λ ks. items_bytes (item n.handle (filter_map (lent_value n) ks) ∷ [])) all
    ∙ ap (λ values. items_bytes (item n.handle values ∷ [])) (list_values n.mark (item_lent n) none)
    ∙ ap (λ (x : Item). items_bytes (item x.handle (nick_values x) ∷ [])) is

-- an item of a diff
pub diff_told : (buffer : Handle) (n : LentNick) (d : DiffItem) (keys : List Key) → n.mark ≡ Some d.mark → item_lent n ≡ d.item → keys ≡ keys_in l.Diff
    → told_bytes buffer n keys ≡ items_bytes (diff_item buffer d ∷ [])
diff_told buffer n d keys some is all =
    let item : Handle → List Object → HdaItem = λ handle values. roll-HdaItem (record { pointers = buffer.0 ∷ handle.0 ∷ []; values = values }) in
    sym (told_item buffer n keys)
    ∙ ap (λ ks. items_bytes (item n.handle (filter_map (lent_value n) ks) ∷ [])) all
    ∙ ap (λ (x : Item). items_bytes (item x.handle (filter_map (marked_value n.mark x) (keys_in l.Diff)) ∷ [])) is
    ∙ ap (λ values. items_bytes (item d.item.handle values ∷ [])) (diff_values n.mark d some)

-- ---- what one item leaves

-- each item takes some room
told_length : (buffer : Handle) (n : LentNick) (keys : List Key) → 1 ≤ length (told_bytes buffer n keys)
told_length buffer n keys = omega arith

one_over : (left : Left) (bytes : List ℕ) (items : List HdaItem) → bytes ≡ items_bytes items → left.room < length bytes → IsOver left items
one_over left bytes items same over = omega (arith, over, ap length same)

one_after : (left rest : Left) (buffer : Handle) (n : LentNick) (keys : List Key) (item : HdaItem) → told_bytes buffer n keys ≡ items_bytes (item ∷ [])
    → (rest.room + length (told_bytes buffer n keys) ≡ left.room) × (rest.items ≡ left.items + 1) → IsAfter left rest (item ∷ [])
one_after left rest buffer n keys item same is =
    let some = told_length buffer n keys in
    record {
      room = ap (λ (x : List ℕ). rest.room + length x) (sym same) ∙ is.0;
      counted = is.1;
      few = omega (arith, is.0, is.1, some);
    }

-- what is left after an item, by what is left after its bytes
pub told_leaves : (o : Option Left) (left : Left) (buffer : Handle) (n : LentNick) (keys : List Key) (item : HdaItem) → told_bytes buffer n keys ≡ items_bytes (item ∷ [])
    → MatchOption o (left.room < length (told_bytes buffer n keys)) (λ rest. (rest.room + length (told_bytes buffer n keys) ≡ left.room) × (rest.items ≡ left.items + 1))
    → MatchOption o (IsOver left (item ∷ [])) (λ rest. IsAfter left rest (item ∷ []))
told_leaves None left buffer n keys item same over = one_over left (told_bytes buffer n keys) (item ∷ []) same over
told_leaves (Some rest) left buffer n keys item same is = one_after left rest buffer n keys item same is

-- ---- one after another

pub bytes_append : (xs ys : List HdaItem) → items_bytes (xs ++ ys) ≡ items_bytes xs ++ items_bytes ys
bytes_append xs ys = flat_map-append item_bytes xs ys

lengths : (all first more : List HdaItem) → all ≡ first ++ more → length (items_bytes all) ≡ length (items_bytes first) + length (items_bytes more)
lengths all first more is = ap (λ items. length (items_bytes items)) is ∙ ap length (bytes_append first more) ∙ length-append (items_bytes first) (items_bytes more)

counts : (all first more : List HdaItem) → all ≡ first ++ more → length all ≡ length first + length more
counts all first more is = ap length is ∙ length-append first more

pub after_none : (left : Left) → IsAfter left left []
after_none left = record { room = omega arith; counted = omega arith; few = omega arith }

pub then_over : (left mid : Left) (all first more : List HdaItem) → all ≡ first ++ more → IsAfter left mid first → IsOver mid more → IsOver left all
then_over left mid all first more is one over = omega (arith, lengths all first more is, one.room, over)

pub first_over : (left : Left) (all first more : List HdaItem) → all ≡ first ++ more → IsOver left first → IsOver left all
first_over left all first more is over = omega (arith, lengths all first more is, over)

pub then_after : (left mid rest : Left) (all first more : List HdaItem) → all ≡ first ++ more → IsAfter left mid first → IsAfter mid rest more → IsAfter left rest all
then_after left mid rest all first more is one two = record {
  room = omega (arith, lengths all first more is, one.room, two.room);
  counted = omega (arith, counts all first more is, one.counted, two.counted);
  few = omega (arith, one.few, two.few);
}

-- what is left after the second part, by what it leaves of what the first left
pub list_leaves : (o : Option Left) (left mid : Left) (all first more : List HdaItem) → all ≡ first ++ more → IsAfter left mid first
    → MatchOption o (IsOver mid more) (λ rest. IsAfter mid rest more) → MatchOption o (IsOver left all) (λ rest. IsAfter left rest all)
list_leaves None left mid all first more is one over = then_over left mid all first more is one over
list_leaves (Some rest) left mid all first more is one two = then_after left mid rest all first more is one two

-- what is left of a room in mid-list, and the items that are still to come
pub record IsAmid (whole left : Left) (all rest : List HdaItem) : Type 0 where
  pub room : left.room + length (items_bytes all) ≡ whole.room + length (items_bytes rest)
  pub counted : left.items + length rest ≡ whole.items + length all
  pub few : left.items + left.room ≤ whole.items + whole.room

pub amid_start : (whole : Left) (all rest : List HdaItem) → rest ≡ all → IsAmid whole whole all rest
amid_start whole all rest is = record {
  room = ap (λ items. whole.room + length (items_bytes items)) (sym is);
  counted = ap (λ items. whole.items + length items) is;
  few = omega arith;
}

pub amid_on : (whole left next : Left) (all rest first more : List HdaItem) → rest ≡ first ++ more → IsAmid whole left all rest → IsAfter left next first → IsAmid whole next all more
amid_on whole left next all rest first more is amid one = record {
  room = omega (arith, lengths rest first more is, amid.room, one.room);
  counted = omega (arith, counts rest first more is, amid.counted, one.counted);
  few = omega (arith, amid.few, one.few);
}

pub amid_over : (whole left : Left) (all rest first more : List HdaItem) → rest ≡ first ++ more → IsAmid whole left all rest → IsOver left first → IsOver whole all
amid_over whole left all rest first more is amid over = omega (arith, lengths rest first more is, amid.room, over)

pub amid_end : (whole left : Left) (all rest : List HdaItem) → rest ≡ [] → IsAmid whole left all rest → IsAfter whole left all
amid_end whole left all rest none amid =
    let bytes : length (items_bytes rest) ≡ 0 = ap (λ items. length (items_bytes items)) none in
    let count : length rest ≡ 0 = ap (λ (items : List HdaItem). length items) none in
    record {
      room = omega (arith, amid.room, bytes);
      counted = omega (arith, amid.counted, count);
      few = amid.few;
    }

-- ---- the same of the bytes

pub first_room : (old : Filled) (all first more : List HdaItem) → all ≡ first ++ more → HasRoomFor old (items_bytes all) → HasRoomFor old (items_bytes first)
first_room old all first more is room =
    let parts = lengths all first more is in
    (omega (arith, room.0, parts), omega (arith, room.1, parts))

pub puts_none : (out : Filled) → Puts out out []
puts_none out = (sym (append-nil out.items), omega arith)

pub then_room : (old mid : Filled) (all first more : List HdaItem) → all ≡ first ++ more → HasRoomFor old (items_bytes all) → Puts old mid (items_bytes first) → HasRoomFor mid (items_bytes more)
then_room old mid all first more is room puts =
    let parts = lengths all first more is in
    (omega (arith, room.0, puts.1, parts), omega (arith, room.1, parts))

pub then_puts : (old mid new : Filled) (all first more : List HdaItem) → all ≡ first ++ more → Puts old mid (items_bytes first) → Puts mid new (items_bytes more) → Puts old new (items_bytes all)
then_puts old mid new all first more is p q = (
  q.0 ∙ ap (λ (x : List ℕ). x ++ items_bytes more) p.0 ∙ append_assoc old.items (items_bytes first) (items_bytes more)
      ∙ ap (λ (x : List ℕ). old.items ++ x) (sym (ap items_bytes is ∙ bytes_append first more)),
  omega (arith, p.1, q.1, lengths all first more is),
)

-- the bytes in mid-list, and the items that are still to come
pub record PutsAmid (old now : Filled) (all rest : List HdaItem) : Type 0 where
  pub bytes : now.items ++ items_bytes rest ≡ old.items ++ items_bytes all
  pub spare : now.spare + length (items_bytes all) ≡ old.spare + length (items_bytes rest)
  pub fewer : length (items_bytes rest) ≤ length (items_bytes all)

pub puts_start : (old : Filled) (all rest : List HdaItem) → rest ≡ all → PutsAmid old old all rest
puts_start old all rest is = record {
  bytes = ap (λ items. old.items ++ items_bytes items) is;
  spare = ap (λ items. old.spare + length (items_bytes items)) (sym is);
  fewer = let same = ap (λ items. length (items_bytes items)) is in omega (arith, same);
}

pub puts_room : (old now : Filled) (all rest first more : List HdaItem) → rest ≡ first ++ more → HasRoomFor old (items_bytes all) → PutsAmid old now all rest → HasRoomFor now (items_bytes first)
puts_room old now all rest first more is room amid =
    let parts = lengths rest first more is in
    (omega (arith, room.0, amid.spare, parts), omega (arith, room.1, amid.fewer, parts))

pub puts_on : (old now next : Filled) (all rest first more : List HdaItem) → rest ≡ first ++ more → PutsAmid old now all rest → Puts now next (items_bytes first) → PutsAmid old next all more
puts_on old now next all rest first more is amid one =
    let parts = lengths rest first more is in
    record {
      bytes =
          ap (λ (x : List ℕ). x ++ items_bytes more) one.0 ∙ append_assoc now.items (items_bytes first) (items_bytes more)
          ∙ ap (λ (x : List ℕ). now.items ++ x) (sym (ap items_bytes is ∙ bytes_append first more)) ∙ amid.bytes;
      spare = omega (arith, amid.spare, one.1, parts);
      fewer = omega (arith, amid.fewer, parts);
    }

pub puts_end : (old now : Filled) (all rest : List HdaItem) → rest ≡ [] → PutsAmid old now all rest → Puts old now (items_bytes all)
puts_end old now all rest none amid =
    let bytes : length (items_bytes rest) ≡ 0 = ap (λ items. length (items_bytes items)) none in (
      sym (append-nil now.items) ∙ ap (λ items. now.items ++ items_bytes items) (sym none) ∙ amid.bytes,
      omega (arith, amid.spare, bytes),
    )

-- ---- the items that are still to come of a list

pub drop_on : {X : Type 0} (xs : List X) (i : ℕ) (x : X) → i < length xs → x ≡ get_or xs i x → drop i xs ≡ x ∷ drop (i + 1) xs
drop_on xs i x within is = drop_more xs i x within ∙ ap (λ y. y ∷ drop (i + 1) xs) (sym is)

pub drop_end : {X : Type 0} (xs : List X) (i : ℕ) → length xs ≤ i → drop i xs ≡ []
drop_end xs i past = drop_all i xs past
