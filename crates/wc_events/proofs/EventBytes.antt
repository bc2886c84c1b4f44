-- Events as they are put after other bytes.
use Rattle.std.proofs.Common.{◌≡◌, ℕ, ◌+◌, ◌-◌, ◌^◌, ◌≤◌, true, List, [], ◌∷◌, ◌++◌, length, map, filter, Option, None, Some, refl, sym, ap, subst, ◌∙◌, append_assoc}
use Rattle.std.specs.Prelude.{Result, Ok, Err, OnOk}
use Rattle.std.specs.List.{flat_map, filter_map, cons_option}
use Rattle.std.proofs.lemmas.List.{length-map}
use Rattle.wc_text.specs.declared.names.Handle.{Handle}
use Rattle.wc_lines.specs.declared.line.Line.{Line}
use Rattle.wc_model.specs.Parts.{is_flipped}
use Rattle.wc_keys.specs.declared.key.Key.{Key}
use Rattle.wc_keys.specs.declared.key.KeyList.{KeyList}
use Rattle.wc_keys.specs.declared.key.KeyList.TheVariants as l
use Rattle.wc_keys.specs.Keys.{keys_in, list_text}
use Rattle.wc_keys.specs.Events.{line_path}
use Rattle.wc_objects.specs.declared.object.Object.{Object}
use Rattle.wc_objects.specs.declared.object.Object.TheVariants as o
use Rattle.wc_objects.specs.declared.object.Object.TheViews.{out-roll-HdaItem}
use Rattle.wc_objects.specs.declared.object.Hda.{roll-Hda}
use Rattle.wc_objects.specs.declared.object.HdaItem.{HdaItem, roll-HdaItem}
use Rattle.wc_objects.specs.declared.write.WriteRefused.{WriteRefused}
use Rattle.wc_objects.specs.Forms.{well_formed}
use Rattle.wc_objects.specs.Spelling.{message_bytes, item_bytes, value_bytes, pointer_bytes, be32}
use Rattle.wc_events.specs.BufferObjects.{flag_objects}
use Rattle.wc_events.specs.EventBytes.{IsPut}
use Rattle.wc_events.specs.HdaBytes.{front_bytes, items_bytes, hda_body, hda_message}
use Rattle.wc_events.specs.LineObjects.{line_value, line_values, added_item, added_objects}
use Rattle.wc_events.specs.LinesTold.{line_spelled, lines_spelled, lines_body, lines_message}
use Rattle.wc_events.specs.ValueBytes.{line_bytes, bytes_if}
use Rattle.wc_events.proofs.HdaMessages.{hda_message_is}

-- ---- an event

put_some : (old new id : List ℕ) (told : List Object) → new ≡ old ++ message_bytes id told → length (message_bytes id told) ≤ 2 ^ 31 - 1 → well_formed told ≡ true → IsPut old new id (Some told)
put_some old new id told bytes fits formed = record { bytes = bytes; formed = formed; fits = fits }

-- a message was put, or not
pub puts_told : (r : Result (Unit {0}) WriteRefused) (old new id bytes : List ℕ) (told : List Object) → bytes ≡ message_bytes id told → well_formed told ≡ true
    → OnOk r (new ≡ old ++ bytes) → OnOk r (length bytes ≤ 2 ^ 31 - 1) → OnOk r (IsPut old new id (Some told))
puts_told (Ok u) old new id bytes told same formed put fits =
    put_some old new id told (put ∙ ap (λ (b : List ℕ). old ++ b) same) (subst (λ (b : List ℕ). length b ≤ 2 ^ 31 - 1) same fits) formed
puts_told (Err e) old new id bytes told same formed put fits = tt

-- ---- lines

abbrev told_line : Handle → List Key → Line → HdaItem
told_line buffer keys line = roll-HdaItem (record { pointers = line.content.0 ∷ []; values = filter_map (line_value buffer line) keys })

abbrev lines_objects : KeyList → Handle → List Line → List Object
lines_objects list buffer lines = o.Hda (roll-Hda (record {
  path = Some line_path;
  keys = Some (list_text list);
  items = map (told_line buffer (keys_in list)) lines;
})) ∷ []

values_told : (buffer : Handle) (line : Line) (keys : List Key) → flat_map value_bytes (filter_map (line_value buffer line) keys) ≡ flat_map (line_bytes buffer line) keys
unfolding line_bytes
values_told buffer line [] = refl
values_told buffer line (k ∷ keys) = by (line_value buffer line k) (values_told buffer line keys)
  where
    by : (value : Option Object) → flat_map value_bytes (filter_map (line_value buffer line) keys) ≡ flat_map (line_bytes buffer line) keys
        → flat_map value_bytes (cons_option value (filter_map (line_value buffer line) keys)) ≡ bytes_if value ++ flat_map (line_bytes buffer line) keys
    by None e = e
    by (Some value) e = ap (λ (b : List ℕ). value_bytes value ++ b) e

item_told : (buffer : Handle) (keys : List Key) (line : Line) → item_bytes (told_line buffer keys line) ≡ line_spelled buffer keys line
unfolding item_bytes line_spelled
item_told buffer keys line =
    let opened = out-roll-HdaItem (record { pointers = line.content.0 ∷ []; values = filter_map (line_value buffer line) keys }) in
    (λ i. flat_map pointer_bytes (opened i).pointers ++ flat_map value_bytes (opened i).values)
    ∙ append_assoc (pointer_bytes line.content.0) [] (flat_map value_bytes (filter_map (line_value buffer line) keys))
    ∙ ap (λ (x : List ℕ). pointer_bytes line.content.0 ++ x) (values_told buffer line keys)

items_told : (buffer : Handle) (keys : List Key) (lines : List Line) → items_bytes (map (told_line buffer keys) lines) ≡ lines_spelled buffer keys lines
items_told buffer keys [] = refl
items_told buffer keys (line ∷ lines) = λ i. item_told buffer keys line i ++ items_told buffer keys lines i

body_told : (front : List ℕ) (buffer : Handle) (keys : List Key) (lines : List Line) → lines_body front buffer keys lines ≡ hda_body front (map (told_line buffer keys) lines)
body_told front buffer keys lines =
    let count = sym (length-map lines (told_line buffer keys)) in
    let items = sym (items_told buffer keys lines) in
    λ i. front ++ (be32 (count i) ++ items i)

message_told : (id text : List ℕ) (buffer : Handle) (keys : List Key) (lines : List Line)
    → lines_message (front_bytes id line_path text) buffer keys lines ≡ hda_message (front_bytes id line_path text) (map (told_line buffer keys) lines)
message_told id text buffer keys lines = ap (λ (b : List ℕ). be32 (4 + length b) ++ b) (body_told (front_bytes id line_path text) buffer keys lines)

lines_told : (id text kind : List ℕ) (buffer : Handle) (keys : List Key) (list : KeyList) (lines : List Line) → id ≡ kind → text ≡ list_text list → keys ≡ keys_in list
    → lines_message (front_bytes id line_path text) buffer keys lines ≡ message_bytes kind (lines_objects list buffer lines)
lines_told id text kind buffer keys list lines same_id same_text same_keys =
    (λ i. lines_message (front_bytes (same_id i) line_path (same_text i)) buffer (same_keys i) lines)
    ∙ message_told kind (list_text list) buffer (keys_in list) lines
    ∙ hda_message_is kind line_path (list_text list) (map (told_line buffer (keys_in list)) lines)

pub added_told : (id text kind : List ℕ) (buffer : Handle) (keys : List Key) (line : Line) → id ≡ kind → text ≡ list_text l.LineData → keys ≡ keys_in l.LineData
    → lines_message (front_bytes id line_path text) buffer keys (line ∷ []) ≡ message_bytes kind (added_objects buffer line)
unfolding added_item line_values
added_told id text kind buffer keys line same_id same_text same_keys = lines_told id text kind buffer keys l.LineData (line ∷ []) same_id same_text same_keys

pub flags_told : (id text kind : List ℕ) (buffer : Handle) (keys : List Key) (flips : List Handle) (lines : List Line) → id ≡ kind → text ≡ list_text l.Flags → keys ≡ keys_in l.Flags
    → lines_message (front_bytes id line_path text) buffer keys (filter (is_flipped flips) lines) ≡ message_bytes kind (flag_objects buffer flips lines)
flags_told id text kind buffer keys flips lines same_id same_text same_keys = lines_told id text kind buffer keys l.Flags (filter (is_flipped flips) lines) same_id same_text same_keys
