-- The message that is written is that of the objects, and its length is that which was found.
use Rattle.std.proofs.Common.{◌≡◌, ℕ, ◌+◌, ◌-◌, ◌^◌, ◌<◌, ◌≤◌, List, ◌++◌, length, take, drop, sym, ap, ◌∙◌, append_assoc, length-append, take_at, drop_at, arith}
use Rattle.bytes.specs.Filled.{Filled}
use Rattle.wc_objects.specs.declared.object.HdaItem.{HdaItem}
use Rattle.wc_objects.specs.declared.write.WriteRefused.{WriteRefused}
use Rattle.wc_objects.specs.Spelling.{message_bytes, be32}
use Rattle.wc_objects.proofs.Rooms.{length-be32}
use Rattle.wc_keys.specs.declared.key.KeyList.{KeyList}
use Rattle.wc_keys.specs.Keys.{list_text}
use Rattle.wc_keys.specs.Events.{nick_path}
use Rattle.wc_events.specs.declared.nick_bytes.Left.{Left}
use Rattle.wc_events.specs.declared.nicks.Nicks.{Nicks}
use Rattle.wc_events.specs.HdaBytes.{front_bytes, items_bytes, hda_body, hda_message}
use Rattle.wc_events.specs.NickBytes.{IsOver, Grows, Written, Refused, head_bytes, IsHead, IsCounted, IsWhole, IsCut}
use Rattle.wc_events.specs.Nicks.{nicks_items, nicks_keys, nicks_objects}
use Rattle.wc_events.proofs.HdaMessages.{hda_message_is}
use Rattle.wc_events.proofs.NickWalks.{grows_same, grows_on}

nicks_message : (id : List ℕ) (n : Nicks) → hda_message (front_bytes id nick_path (list_text (nicks_keys n))) (nicks_items n) ≡ message_bytes id (nicks_objects n)
nicks_message id n = hda_message_is id nick_path (list_text (nicks_keys n)) (nicks_items n)

-- ---- lengths
length_of_body : (front : List ℕ) (items : List HdaItem) → length (hda_body front items) ≡ length front + 4 + length (items_bytes items)
length_of_body front items =
    omega (arith, length-append front (be32 (length items) ++ items_bytes items), length-append (be32 (length items)) (items_bytes items), length-be32 (length items))

length_of_message : (front : List ℕ) (items : List HdaItem) → length (hda_message front items) ≡ 4 + length (hda_body front items)
length_of_message front items =
    let body = hda_body front items in
    omega (arith, length-append (be32 (4 + length body)) body, length-be32 (4 + length body))

front_over : (front : List ℕ) (items : List HdaItem) → 2147483639 < length front → 2 ^ 31 - 1 < length (hda_message front items)
front_over front items over = omega (arith, over, length_of_message front items, length_of_body front items)

items_over : (front : List ℕ) (items : List HdaItem) (room : ℕ) (left : Left) → left.room ≡ room → room + length front ≡ 2147483639 → IsOver left items → 2 ^ 31 - 1 < length (hda_message front items)
items_over front items room left is whole over = omega (arith, over, is, whole, length_of_message front items, length_of_body front items)

-- ---- what is before the items
pub head_too_long : (front : List ℕ) (items : List HdaItem) (refused : WriteRefused) (old new : Filled) → (new.items ≡ old.items) × (refused ≡ WriteRefused.TooLong → 2147483639 < length front) → IsCut refused front items old new
head_too_long front items refused old new is = record { kept = grows_same old new is.0; too_long = λ e. front_over front items (is.1 e) }

-- ---- counts that are put in place of others

length_of_head : (front : List ℕ) → length (head_bytes front) ≡ length front + 8
length_of_head front = omega (arith, length-append (be32 0) (front ++ be32 0), length-append front (be32 0), length-be32 0)

-- four bytes in mid-list
set_at : (a w v b xs : List ℕ) (at : ℕ) → xs ≡ a ++ (w ++ b) → length a ≡ at → length w ≡ 4 → take at xs ++ (v ++ drop (at + 4) xs) ≡ a ++ (v ++ b)
set_at a w v b xs at is here four =
    let long : length (a ++ w) ≡ at + 4 = omega (arith, length-append a w, here, four) in
    let past : drop (at + 4) (a ++ (w ++ b)) ≡ b = ap (drop (at + 4)) (sym (append_assoc a w b)) ∙ drop_at (a ++ w) b (at + 4) long in
    ap (λ (x : List ℕ). take at x ++ (v ++ drop (at + 4) x)) is
    ∙ ap (λ (x : List ℕ). x ++ (v ++ drop (at + 4) (a ++ (w ++ b)))) (take_at a (w ++ b) at here)
    ∙ ap (λ (x : List ℕ). a ++ (v ++ x)) past

-- the items after what is before them
listed_is : (front : List ℕ) (items : List HdaItem) (old headed listed : Filled) → headed.items ≡ old.items ++ head_bytes front → listed.items ≡ headed.items ++ items_bytes items
    → listed.items ≡ (old.items ++ (be32 0 ++ front)) ++ (be32 0 ++ items_bytes items)
listed_is front items old headed listed head is =
    let z = be32 0 in
    let b = items_bytes items in
    is ∙ ap (λ (x : List ℕ). x ++ b) head ∙ append_assoc old.items (z ++ (front ++ z)) b ∙ ap (λ (x : List ℕ). old.items ++ (x ++ b)) (sym (append_assoc z front z))
    ∙ ap (λ (x : List ℕ). old.items ++ x) (append_assoc (z ++ front) z b) ∙ sym (append_assoc old.items (z ++ front) (z ++ b))

pub count_within : (front : List ℕ) (items : List HdaItem) (old headed listed : Filled) (start room : ℕ) (left rest : Left) → start ≡ length old.items → IsHead front old headed room → Written left rest headed listed items
    → start + (2147483643 - room) + 4 ≤ length listed.items
count_within front items old headed listed start room left rest begins head walk =
    omega (arith, begins, head.room, ap (λ (x : List ℕ). length x) head.bytes, length-append old.items (head_bytes front), length_of_head front, ap (λ (x : List ℕ). length x) walk.bytes, length-append headed.items (items_bytes items))

pub is_counted : (front : List ℕ) (items : List HdaItem) (old headed listed new : Filled) (start room : ℕ) (left rest : Left) → start ≡ length old.items → left.room ≡ room → left.items ≡ 0 → IsHead front old headed room → Written left rest headed listed items
    → new.items ≡ take (start + (2147483643 - room)) listed.items ++ (be32 rest.items ++ drop (start + (2147483643 - room) + 4) listed.items) → IsCounted front items old new rest.room
is_counted front items old headed listed new start room left rest begins same none head walk set =
    let z = be32 0 in
    let b = items_bytes items in
    let here : length (old.items ++ (z ++ front)) ≡ start + (2147483643 - room) = omega (arith, begins, head.room, length-append old.items (z ++ front), length-append z front, length-be32 0) in
    let count : rest.items ≡ length items = omega (arith, none, walk.after.counted) in
    record {
      bytes =
          set ∙ set_at (old.items ++ (z ++ front)) z (be32 rest.items) b listed.items (start + (2147483643 - room)) (listed_is front items old headed listed head.bytes walk.bytes) here (length-be32 0)
          ∙ append_assoc old.items (z ++ front) (be32 rest.items ++ b) ∙ ap (λ (x : List ℕ). old.items ++ x) (append_assoc z front (be32 rest.items ++ b))
          ∙ ap (λ n. old.items ++ (z ++ (front ++ (be32 n ++ b)))) count;
      room = omega (arith, same, head.room, walk.after.room, length_of_body front items);
    }

pub items_cut : (refused : WriteRefused) (front : List ℕ) (items : List HdaItem) (old headed new : Filled) (room : ℕ) (left : Left) → left.room ≡ room → IsHead front old headed room → Refused refused left headed new items → IsCut refused front items old new
items_cut refused front items old headed new room left same head one = record {
  kept = grows_on old headed new (head_bytes front, head.bytes) one.kept;
  too_long = λ e. items_over front items room left same head.room (one.too_long e);
}

-- ---- the length of the message

pub length_within : (front : List ℕ) (items : List HdaItem) (old counted : Filled) (start room : ℕ) → start ≡ length old.items → IsCounted front items old counted room → start + 4 ≤ length counted.items
length_within front items old counted start room begins is =
    omega (arith, begins, ap (λ (x : List ℕ). length x) is.bytes, length-append old.items (be32 0 ++ hda_body front items), length-append (be32 0) (hda_body front items), length-be32 0)

pub is_whole : (front : List ℕ) (items : List HdaItem) (old counted new : Filled) (start room : ℕ) → start ≡ length old.items → IsCounted front items old counted room
    → new.items ≡ take start counted.items ++ (be32 (2147483647 - room) ++ drop (start + 4) counted.items) → IsWhole front items old new
is_whole front items old counted new start room begins is set =
    let body = hda_body front items in
    let size : 2147483647 - room ≡ 4 + length body = omega (arith, is.room) in
    record {
      bytes =
          set ∙ set_at old.items (be32 0) (be32 (2147483647 - room)) body counted.items start is.bytes (sym begins) (length-be32 0)
          ∙ ap (λ n. old.items ++ (be32 n ++ body)) size;
      short = omega (arith, is.room, length_of_message front items);
    }

-- ---- what is taken back

pub cut_back : (old new : Filled) (start : ℕ) → start ≡ length old.items → Grows old new → take start new.items ≡ old.items
cut_back old new start begins grows = ap (take start) grows.1 ∙ take_at old.items grows.0 start (sym begins)

-- the same with the keys as they are found
pub nicks_message_by : (id : List ℕ) (n : Nicks) (list : KeyList) (keys : List ℕ) → keys ≡ list_text list → list ≡ nicks_keys n
    → hda_message (front_bytes id nick_path keys) (nicks_items n) ≡ message_bytes id (nicks_objects n)
nicks_message_by id n list keys text same =
    ap (λ (ks : List ℕ). hda_message (front_bytes id nick_path ks) (nicks_items n)) (text ∙ ap list_text same) ∙ nicks_message id n
