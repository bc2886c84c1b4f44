-- Lines as bytes, one after another, and the message around them.
use Rattle.std.proofs.Common.{◌≡◌, ℕ, ◌+◌, ◌-◌, ◌^◌, ◌≤◌, ◌<◌, true, false, List, [], ◌∷◌, ◌++◌, length, filter, Option, refl, sym, ap, subst, ◌∙◌, append-nil, append_assoc, length-append, arith}
use Rattle.std.proofs.lemmas.List.Concat.{flat_map-append}
use Rattle.bytes.specs.Filled.{Filled}
use Rattle.wc_text.specs.declared.names.Handle.{Handle}
use Rattle.wc_buffers.proofs.GroupLaws.{by_bool}
use Rattle.wc_lines.specs.declared.line.Line.{Line}
use Rattle.wc_model.specs.Parts.{is_flipped}
use Rattle.wc_keys.specs.declared.key.Key.{Key}
use Rattle.wc_objects.specs.Spelling.{be32, HasRoomFor, Puts}
use Rattle.wc_objects.proofs.Rooms.{Puts-then, length-be32}
use Rattle.wc_events.specs.declared.line_writer.Size.{Size}
use Rattle.wc_events.specs.declared.nick_bytes.Left.{Left}
use Rattle.wc_events.specs.LinesTold.{line_spelled, lines_spelled, lines_body, lines_message, Leaves, IsRest, IsSize}

-- ---- one line

pub one_line : (buffer : Handle) (keys : List Key) (line : Line) → lines_spelled buffer keys (line ∷ []) ≡ line_spelled buffer keys line
one_line buffer keys line = append-nil (line_spelled buffer keys line)

-- it takes some room
pub line_length : (buffer : Handle) (keys : List Key) (line : Line) → 1 ≤ length (line_spelled buffer keys line)
unfolding line_spelled
line_length buffer keys line = omega arith

pub one_rest : (bytes : List ℕ) (left rest : Left) → 1 ≤ length bytes → rest.room + length bytes ≡ left.room → rest.items ≡ left.items + 1 → IsRest bytes 1 left rest
one_rest bytes left rest some room counted = record { room = room; counted = counted; few = omega (arith, some, room, counted) }

pub one_leaves : (o : Option Left) (left : Left) (buffer : Handle) (keys : List Key) (line : Line) → Leaves o left (line_spelled buffer keys line) 1
    → Leaves o left (lines_spelled buffer keys (line ∷ [])) 1
one_leaves o left buffer keys line is = subst (λ (b : List ℕ). Leaves o left b 1) (sym (one_line buffer keys line)) is

-- ---- those whose flags differ

pub flip_is : (flips : List Handle) (line : Line) → is_flipped flips line ≡ true → filter (is_flipped flips) (line ∷ []) ≡ line ∷ []
flip_is flips line on = rw on refl

pub flip_none : (flips : List Handle) (line : Line) → is_flipped flips line ≡ false → filter (is_flipped flips) (line ∷ []) ≡ []
flip_none flips line off = rw off refl

pub flip_leaves : (o : Option Left) (left : Left) (buffer : Handle) (keys : List Key) (flips : List Handle) (line : Line) → is_flipped flips line ≡ true
    → Leaves o left (line_spelled buffer keys line) 1 → Leaves o left (lines_spelled buffer keys (filter (is_flipped flips) (line ∷ []))) (length (filter (is_flipped flips) (line ∷ [])))
flip_leaves o left buffer keys flips line on is =
    subst (λ (ls : List Line). Leaves o left (lines_spelled buffer keys ls) (length ls)) (sym (flip_is flips line on)) (one_leaves o left buffer keys line is)

pub flip_rest : (left : Left) (buffer : Handle) (keys : List Key) (flips : List Handle) (line : Line) → is_flipped flips line ≡ false
    → IsRest (lines_spelled buffer keys (filter (is_flipped flips) (line ∷ []))) (length (filter (is_flipped flips) (line ∷ []))) left left
flip_rest left buffer keys flips line off =
    let none : IsRest [] 0 left left = record { room = omega arith; counted = omega arith; few = omega arith } in
    subst (λ (ls : List Line). IsRest (lines_spelled buffer keys ls) (length ls) left left) (sym (flip_none flips line off)) none

pub flip_room : (out : Filled) (buffer : Handle) (keys : List Key) (flips : List Handle) (line : Line) → is_flipped flips line ≡ true
    → HasRoomFor out (lines_spelled buffer keys (filter (is_flipped flips) (line ∷ []))) → HasRoomFor out (line_spelled buffer keys line)
flip_room out buffer keys flips line on room =
    subst (λ (b : List ℕ). HasRoomFor out b) (ap (λ (ls : List Line). lines_spelled buffer keys ls) (flip_is flips line on) ∙ one_line buffer keys line) room

pub flip_puts : (old new : Filled) (buffer : Handle) (keys : List Key) (flips : List Handle) (line : Line) → is_flipped flips line ≡ true
    → Puts old new (line_spelled buffer keys line) → Puts old new (lines_spelled buffer keys (filter (is_flipped flips) (line ∷ [])))
flip_puts old new buffer keys flips line on puts =
    subst (λ (b : List ℕ). Puts old new b) (sym (ap (λ (ls : List Line). lines_spelled buffer keys ls) (flip_is flips line on) ∙ one_line buffer keys line)) puts

pub flip_puts_none : (out : Filled) (buffer : Handle) (keys : List Key) (flips : List Handle) (line : Line) → is_flipped flips line ≡ false
    → Puts out out (lines_spelled buffer keys (filter (is_flipped flips) (line ∷ [])))
flip_puts_none out buffer keys flips line off =
    let none : Puts out out [] = (sym (append-nil out.items), omega arith) in
    subst (λ (ls : List Line). Puts out out (lines_spelled buffer keys ls)) (sym (flip_none flips line off)) none

-- the first of those that are left is told before the others
pub flips_first : (flips : List Handle) (line : Line) (rest left : List Line) → left ≡ line ∷ rest
    → filter (is_flipped flips) left ≡ filter (is_flipped flips) (line ∷ []) ++ filter (is_flipped flips) rest
flips_first flips line rest left is =
    ap (filter (is_flipped flips)) is ∙ by_bool (is_flipped flips line) _ (λ on. rw on refl) (λ off. rw off refl)

-- ---- one after another

pub parts : (buffer : Handle) (keys : List Key) (rest first more : List Line) → rest ≡ first ++ more → lines_spelled buffer keys rest ≡ lines_spelled buffer keys first ++ lines_spelled buffer keys more
parts buffer keys rest first more is = ap (lines_spelled buffer keys) is ∙ flat_map-append (line_spelled buffer keys) first more

pub lengths : (buffer : Handle) (keys : List Key) (rest first more : List Line) → rest ≡ first ++ more
    → length (lines_spelled buffer keys rest) ≡ length (lines_spelled buffer keys first) + length (lines_spelled buffer keys more)
lengths buffer keys rest first more is = ap length (parts buffer keys rest first more is) ∙ length-append (lines_spelled buffer keys first) (lines_spelled buffer keys more)

pub counts : (rest first more : List Line) → rest ≡ first ++ more → length rest ≡ length first + length more
counts rest first more is = ap length is ∙ length-append first more

-- what is left in the midst of all, by what is still to come
pub record IsAmid (buffer : Handle) (keys : List Key) (whole left : Left) (all rest : List Line) : Type 0 where
  pub room : left.room + length (lines_spelled buffer keys all) ≡ whole.room + length (lines_spelled buffer keys rest)
  pub counted : left.items + length rest ≡ whole.items + length all
  pub few : left.items + left.room ≤ whole.items + whole.room

pub amid_start : (buffer : Handle) (keys : List Key) (whole : Left) (all rest : List Line) → rest ≡ all → IsAmid buffer keys whole whole all rest
amid_start buffer keys whole all rest is = record {
  room = ap (λ lines. whole.room + length (lines_spelled buffer keys lines)) (sym is);
  counted = ap (λ lines. whole.items + length lines) is;
  few = omega arith;
}

pub amid_on : (buffer : Handle) (keys : List Key) (whole left next : Left) (all rest first more : List Line) → rest ≡ first ++ more → IsAmid buffer keys whole left all rest
    → IsRest (lines_spelled buffer keys first) (length first) left next → IsAmid buffer keys whole next all more
amid_on buffer keys whole left next all rest first more is amid one = record {
  room = omega (arith, lengths buffer keys rest first more is, amid.room, one.room);
  counted = omega (arith, counts rest first more is, amid.counted, one.counted);
  few = omega (arith, amid.few, one.few);
}

pub amid_over : (buffer : Handle) (keys : List Key) (whole left : Left) (all rest first more : List Line) → rest ≡ first ++ more → IsAmid buffer keys whole left all rest
    → left.room < length (lines_spelled buffer keys first) → whole.room < length (lines_spelled buffer keys all)
amid_over buffer keys whole left all rest first more is amid over = omega (arith, lengths buffer keys rest first more is, amid.room, over)

pub amid_end : (buffer : Handle) (keys : List Key) (whole left : Left) (all rest : List Line) → rest ≡ [] → IsAmid buffer keys whole left all rest
    → IsRest (lines_spelled buffer keys all) (length all) whole left
amid_end buffer keys whole left all rest none amid =
    let bytes : length (lines_spelled buffer keys rest) ≡ 0 = ap (λ lines. length (lines_spelled buffer keys lines)) none in
    let count : length rest ≡ 0 = ap (λ (lines : List Line). length lines) none in
    record {
      room = omega (arith, amid.room, bytes);
      counted = omega (arith, amid.counted, count);
      few = amid.few;
    }

-- the bytes in the midst of all
pub record PutsAmid (buffer : Handle) (keys : List Key) (old now : Filled) (all rest : List Line) : Type 0 where
  pub bytes : now.items ++ lines_spelled buffer keys rest ≡ old.items ++ lines_spelled buffer keys all
  pub spare : now.spare + length (lines_spelled buffer keys all) ≡ old.spare + length (lines_spelled buffer keys rest)
  pub fewer : length (lines_spelled buffer keys rest) ≤ length (lines_spelled buffer keys all)

pub puts_start : (buffer : Handle) (keys : List Key) (old : Filled) (all rest : List Line) → rest ≡ all → PutsAmid buffer keys old old all rest
puts_start buffer keys old all rest is = record {
  bytes = ap (λ lines. old.items ++ lines_spelled buffer keys lines) is;
  spare = ap (λ lines. old.spare + length (lines_spelled buffer keys lines)) (sym is);
  fewer = let same = ap (λ lines. length (lines_spelled buffer keys lines)) is in omega (arith, same);
}

pub puts_room : (buffer : Handle) (keys : List Key) (old now : Filled) (all rest first more : List Line) → rest ≡ first ++ more → HasRoomFor old (lines_spelled buffer keys all)
    → PutsAmid buffer keys old now all rest → HasRoomFor now (lines_spelled buffer keys first)
puts_room buffer keys old now all rest first more is room amid =
    let long = lengths buffer keys rest first more is in
    (omega (arith, room.0, amid.spare, long), omega (arith, room.1, amid.fewer, long))

pub puts_on : (buffer : Handle) (keys : List Key) (old now next : Filled) (all rest first more : List Line) → rest ≡ first ++ more → PutsAmid buffer keys old now all rest
    → Puts now next (lines_spelled buffer keys first) → PutsAmid buffer keys old next all more
puts_on buffer keys old now next all rest first more is amid one =
    let long = lengths buffer keys rest first more is in
    record {
      bytes =
          ap (λ (x : List ℕ). x ++ lines_spelled buffer keys more) one.0 ∙ append_assoc now.items (lines_spelled buffer keys first) (lines_spelled buffer keys more)
          ∙ ap (λ (x : List ℕ). now.items ++ x) (sym (parts buffer keys rest first more is)) ∙ amid.bytes;
      spare = omega (arith, amid.spare, one.1, long);
      fewer = omega (arith, amid.fewer, long);
    }

pub puts_end : (buffer : Handle) (keys : List Key) (old now : Filled) (all rest : List Line) → rest ≡ [] → PutsAmid buffer keys old now all rest → Puts old now (lines_spelled buffer keys all)
puts_end buffer keys old now all rest none amid =
    let bytes : length (lines_spelled buffer keys rest) ≡ 0 = ap (λ lines. length (lines_spelled buffer keys lines)) none in (
      sym (append-nil now.items) ∙ ap (λ lines. now.items ++ lines_spelled buffer keys lines) (sym none) ∙ amid.bytes,
      omega (arith, amid.spare, bytes),
    )

-- ---- the message around them

length_of_body : (front : List ℕ) (buffer : Handle) (keys : List Key) (lines : List Line) → length (lines_body front buffer keys lines) ≡ length front + 4 + length (lines_spelled buffer keys lines)
length_of_body front buffer keys lines =
    omega (arith, length-append front (be32 (length lines) ++ lines_spelled buffer keys lines), length-append (be32 (length lines)) (lines_spelled buffer keys lines), length-be32 (length lines))

length_of_message : (front : List ℕ) (buffer : Handle) (keys : List Key) (lines : List Line) → length (lines_message front buffer keys lines) ≡ 4 + length (lines_body front buffer keys lines)
length_of_message front buffer keys lines =
    let body = lines_body front buffer keys lines in
    omega (arith, length-append (be32 (4 + length body)) body, length-be32 (4 + length body))

pub front_over : (front : List ℕ) (buffer : Handle) (keys : List Key) (lines : List Line) → 2147483639 < length front → 2 ^ 31 - 1 < length (lines_message front buffer keys lines)
front_over front buffer keys lines over = omega (arith, over, length_of_message front buffer keys lines, length_of_body front buffer keys lines)

pub lines_over : (front : List ℕ) (buffer : Handle) (keys : List Key) (lines : List Line) (room : ℕ) → room + length front ≡ 2147483639 → room < length (lines_spelled buffer keys lines)
    → 2 ^ 31 - 1 < length (lines_message front buffer keys lines)
lines_over front buffer keys lines room left over = omega (arith, over, left, length_of_message front buffer keys lines, length_of_body front buffer keys lines)

pub is_size : (front : List ℕ) (buffer : Handle) (keys : List Key) (lines : List Line) (whole left : Left) → whole.items ≡ 0 → whole.room + length front ≡ 2147483639
    → IsRest (lines_spelled buffer keys lines) (length lines) whole left → IsSize (lines_message front buffer keys lines) lines (record { bytes = 2147483647 - left.room; items = left.items })
is_size front buffer keys lines whole left none room rest = record {
  bytes = omega (arith, room, rest.room, length_of_message front buffer keys lines, length_of_body front buffer keys lines);
  counted = omega (arith, none, rest.counted);
  short = omega arith;
}

pub body_has_room : (front : List ℕ) (buffer : Handle) (keys : List Key) (lines : List Line) (size : Size) (old counted : Filled) → IsSize (lines_message front buffer keys lines) lines size → size.bytes ≤ old.spare
    → Puts old counted (be32 size.bytes) → HasRoomFor counted (lines_body front buffer keys lines)
body_has_room front buffer keys lines size old counted is room puts =
    let whole = length_of_message front buffer keys lines in
    (omega (arith, room, puts.1, is.bytes, whole, length-be32 size.bytes), omega (arith, is.bytes, is.short, whole))

pub message_is : (front : List ℕ) (buffer : Handle) (keys : List Key) (lines : List Line) (size : Size) (old counted new : Filled) → IsSize (lines_message front buffer keys lines) lines size
    → Puts old counted (be32 size.bytes) → Puts counted new (lines_body front buffer keys lines) → new.items ≡ old.items ++ lines_message front buffer keys lines
message_is front buffer keys lines size old counted new is head body =
    let length_is : size.bytes ≡ 4 + length (lines_body front buffer keys lines) = omega (arith, is.bytes, length_of_message front buffer keys lines) in
    (Puts-then old counted new (be32 size.bytes) (lines_body front buffer keys lines) head body).0
    ∙ ap (λ n. old.items ++ (be32 n ++ lines_body front buffer keys lines)) length_is
