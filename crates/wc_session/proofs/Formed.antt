-- What is replied keeps the rules of messages.
use Rattle.std.proofs.Common.{◌≡◌, ℕ, ℤ, true, false, Bool, cond, ◌++◌, ◌&&◌, nat_lt, arith, List, [], ◌∷◌, codes, Option, Some, None, refl, sym, subst}
use Rattle.std.specs.List.{list_all}
use Rattle.std.specs.Prelude.{unwrap_or, bytes_eq}
use Rattle.std.specs.Str.{IsUtf8, IsAscii, is_utf8, chars}
use Rattle.std.proofs.lemmas.Str.{is_utf8-from_IsUtf8, IsUtf8-from_is_utf8, IsUtf8-from_ascii}
use Rattle.std.proofs.lemmas.Str.Ascii.{IsAscii-nil, IsAscii-cons}
use Rattle.std.proofs.lemmas.Bool.Decides.{nat_tests}
use Rattle.std.proofs.lemmas.Slice.Eq.{bytes_eq-Decides}
use Rattle.hex.specs.Hex.{encode_upper, upper_digits}
use Rattle.hex.proofs.HexLemmas.{IsAscii-encode_with}
use lib.Utf8.{encode}
use denote.Hole.Carrier.{out}
use Rattle.wc_objects.specs.declared.kind.Kind.TheVariants as k
use Rattle.wc_objects.specs.declared.object.Object.TheVariants as o
use Rattle.wc_objects.specs.declared.object.Object.TheViews.{out-Object, out-roll-Object, out-roll-Hda}
use Rattle.wc_objects.specs.declared.object.Hda.{roll-Hda}
use Rattle.wc_objects.specs.declared.object.InlVar.{InlVar}
use Rattle.wc_objects.specs.Forms.{is_text, simple_is, value_is, hda_is, variable_is, object_is, well_formed}
use Rattle.wc_text.specs.declared.names.Handle.{Handle}
use Rattle.wc_buffers.specs.declared.row.BufferEntry.{BufferEntry}
use Rattle.wc_buffers.specs.declared.row.BufferRow.{BufferRow}
use Rattle.wc_buffers.specs.Calls.{EntryGroups, entry_of, number}
use Rattle.wc_buffers.specs.Kept.{IsBuffer, HasUtf8Row}
use Rattle.wc_model.specs.World.{World}
use Rattle.wc_events.specs.BufferObjects.{count, text}
use Rattle.wc_events.specs.LineObjects.{truth}
use Rattle.wc_hdata.specs.Infos.{info_of, variable, variables_of, buffer_item, buffer_items, setting_of, setting_variables, setting_item, infolist_object}
use Rattle.wc_hdata.specs.Steps.{all_buffers}
use Rattle.wc_relaycmd.specs.declared.algorithm.Algorithm.{Algorithm}
use Rattle.wc_relaycmd.specs.declared.algorithm.Algorithm.TheVariants as a
use Rattle.wc_session.specs.Sending.{null_hdata}
use Rattle.wc_session.specs.Handshakes.{name_of_choice, switch, handshake_table, handshake_objects}
use Rattle.wc_session.specs.Reply.{test_texts, test_numbers, test_objects, info_objects, infolist_objects, pong_objects}

null_hda : hda_is (roll-Hda (record { path = None; keys = None; items = [] })) ≡ true
unfolding hda_is
null_hda = rw out-roll-Hda refl

pub null_formed : well_formed null_hdata ≡ true
unfolding well_formed object_is
null_formed = rw (← o.rolls-Hda (roll-Hda (record { path = None; keys = None; items = [] })), out-roll-Object, null_hda) refl

-- each information is text
info_text : (name : List ℕ) → is_text (info_of name) ≡ true
unfolding is_utf8 chars encode
info_text name = by (bytes_eq name (codes "version")) (bytes_eq name (codes "version_number")) where
  by : (a b : Bool) → is_text (cond a (Some (codes "4.0.0")) (cond b (Some (codes "67108864")) None)) ≡ true
  by true b = refl
  by false true = refl
  by false false = refl

pub info_formed : (name : List ℕ) → IsUtf8 name → well_formed (info_objects name) ≡ true
unfolding well_formed object_is out-Object out
info_formed name h = rw (is_utf8-from_IsUtf8 name h, info_text name) refl

-- ---- the list of buffers

ptr_variable : (name : List ℕ) (n : ℕ) → is_utf8 name ≡ true → variable_is (variable name (o.Ptr n)) ≡ true
unfolding variable variable_is simple_is out-Object out
ptr_variable name n named = rw named refl

int_variable : (name : List ℕ) (n : ℤ) → is_utf8 name ≡ true → variable_is (variable name (o.Int n)) ≡ true
unfolding variable variable_is simple_is out-Object out
int_variable name n named = rw named refl

str_variable : (name value : List ℕ) → is_utf8 name ≡ true → IsUtf8 value → variable_is (variable name (text value)) ≡ true
unfolding variable variable_is simple_is out-Object out
str_variable name value name_text value_text = rw (name_text, is_utf8-from_IsUtf8 value value_text) refl

abbrev are_variables : List InlVar → Bool
are_variables item = list_all (λ v. variable_is v) item

variables_formed : (number : ℤ) (buffer : Handle) (row : BufferRow) → HasUtf8Row row → are_variables (variables_of number buffer row) ≡ true
unfolding variables_of is_utf8 chars encode
variables_formed number buffer row is =
    rw (
      ptr_variable (codes "pointer") buffer.0 refl,
      int_variable (codes "number") number refl,
      str_variable (codes "full_name") row.full_name refl is.full_name,
      str_variable (codes "short_name") row.short_name refl is.short_name,
      str_variable (codes "title") row.title refl is.title,
      int_variable (codes "hidden") (truth row.hidden) refl,
    ) refl

-- each buffer that is there keeps its limits
abbrev pub AreFit : EntryGroups → Type 0
AreFit groups = (h : Handle) (e : BufferEntry) → entry_of h groups ≡ Some e → IsBuffer e

items_formed : (groups : EntryGroups) (buffers : List Handle) → AreFit groups → list_all are_variables (buffer_items groups buffers) ≡ true
items_formed groups [] are = refl
items_formed groups (buffer ∷ buffers) are = by (entry_of buffer groups) refl (items_formed groups buffers are) where
  by : (e : Option BufferEntry) → entry_of buffer groups ≡ e → list_all are_variables (buffer_items groups buffers) ≡ true
      → list_all are_variables (buffer_item groups buffer e ++ buffer_items groups buffers) ≡ true
  by None at rest = rest
  by (Some e) at rest = rw (variables_formed (count (unwrap_or (number buffer groups) 0)) buffer e.row (are buffer e at).text) rest

inl_formed : (name : List ℕ) (items : List (List InlVar)) → IsUtf8 name → list_all are_variables items ≡ true → well_formed (o.Inl name items ∷ []) ≡ true
unfolding well_formed object_is
inl_formed name items h are = rw (← o.rolls-Inl name items, out-roll-Object, is_utf8-from_IsUtf8 name h, are) refl

setting_formed : (name value : List ℕ) → IsUtf8 name → is_utf8 value ≡ true → list_all are_variables (setting_variables name value ∷ []) ≡ true
unfolding setting_variables is_utf8 chars encode
setting_formed name value name_text value_text =
    rw (str_variable (codes "full_name") name refl name_text, str_variable (codes "value") value refl (IsUtf8-from_is_utf8 value value_text)) refl

-- a name that is one of the settings is text
known_text : (name known : List ℕ) → bytes_eq name known ≡ true → is_utf8 known ≡ true → IsUtf8 name
known_text name known same known_is = subst IsUtf8 (sym ((bytes_eq-Decides name known).0 same)) (IsUtf8-from_is_utf8 known known_is)

setting_items_formed : (name : List ℕ) → list_all are_variables (setting_item name (setting_of name)) ≡ true
unfolding is_utf8 chars encode
setting_items_formed name =
    by (bytes_eq name (codes "weechat.look.buffer_time_format")) (bytes_eq name (codes "weechat.completion.nick_completer")) (bytes_eq name (codes "weechat.completion.nick_add_space")) refl refl refl where
      by : (format completer space : Bool) → bytes_eq name (codes "weechat.look.buffer_time_format") ≡ format → bytes_eq name (codes "weechat.completion.nick_completer") ≡ completer → bytes_eq name (codes "weechat.completion.nick_add_space") ≡ space
          → list_all are_variables (setting_item name (cond format (Some (codes "%H:%M:%S")) (cond completer (Some (codes ":")) (cond space (Some (codes "on")) None)))) ≡ true
      by true completer space e f g = setting_formed name (codes "%H:%M:%S") (known_text name (codes "weechat.look.buffer_time_format") e refl) refl
      by false true space e f g = setting_formed name (codes ":") (known_text name (codes "weechat.completion.nick_completer") f refl) refl
      by false false true e f g = setting_formed name (codes "on") (known_text name (codes "weechat.completion.nick_add_space") g refl) refl
      by false false false e f g = refl

pub infolist_formed : (world : World) (name argument : List ℕ) → AreFit world.groups → IsUtf8 name → well_formed (infolist_objects world name argument) ≡ true
unfolding infolist_objects infolist_object
infolist_formed world name argument are h = inl_formed name _ h (by (bytes_eq name (codes "buffer")) (bytes_eq name (codes "option"))) where
  by : (buffers options : Bool) → list_all are_variables (cond buffers (buffer_items world.groups (all_buffers world.groups)) (cond options (setting_item argument (setting_of argument)) [])) ≡ true
  by true options = items_formed world.groups (all_buffers world.groups) are
  by false true = setting_items_formed argument
  by false false = refl

pub pong_formed : (text : List ℕ) → IsUtf8 text → well_formed (pong_objects text) ≡ true
unfolding well_formed object_is value_is simple_is out-Object out
pong_formed text h = rw (is_utf8-from_IsUtf8 text h) refl

-- ---- the reply to `test`

chr_formed : (n : ℤ) → object_is (o.Chr n) ≡ true
unfolding object_is simple_is out-Object out
chr_formed n = refl

int_formed : (n : ℤ) → object_is (o.Int n) ≡ true
unfolding object_is simple_is out-Object out
int_formed n = refl

lon_formed : (n : ℤ) → object_is (o.Lon n) ≡ true
unfolding object_is simple_is out-Object out
lon_formed n = refl

ptr_formed : (n : ℕ) → object_is (o.Ptr n) ≡ true
unfolding object_is simple_is out-Object out
ptr_formed n = refl

tim_formed : (n : ℤ) → object_is (o.Tim n) ≡ true
unfolding object_is simple_is out-Object out
tim_formed n = refl

str_formed : object_is (o.Str (Some (codes "a string"))) ≡ true
unfolding object_is simple_is is_utf8 chars encode out-Object out
str_formed = refl

empty_formed : object_is (o.Str (Some [])) ≡ true
unfolding object_is simple_is is_utf8 chars encode out-Object out
empty_formed = refl

null_str_formed : object_is (o.Str None) ≡ true
unfolding object_is simple_is out-Object out
null_str_formed = refl

buf_formed : object_is (o.Buf (Some (codes "buffer"))) ≡ true
unfolding object_is simple_is is_utf8 chars encode out-Object out
buf_formed = refl

null_buf_formed : object_is (o.Buf None) ≡ true
unfolding object_is simple_is out-Object out
null_buf_formed = refl

texts_simple : list_all (λ value. simple_is k.Str value) test_texts ≡ true
unfolding simple_is is_utf8 chars encode out-Object out
texts_simple = refl

texts_formed : object_is (o.Arr k.Str test_texts) ≡ true
unfolding object_is
texts_formed = rw (← o.rolls-Arr k.Str test_texts, out-roll-Object) texts_simple

numbers_simple : list_all (λ value. simple_is k.Int value) test_numbers ≡ true
unfolding simple_is out-Object out
numbers_simple = refl

numbers_formed : object_is (o.Arr k.Int test_numbers) ≡ true
unfolding object_is
numbers_formed = rw (← o.rolls-Arr k.Int test_numbers, out-roll-Object) numbers_simple

pub test_formed : well_formed test_objects ≡ true
unfolding well_formed test_objects
test_formed =
    rw (chr_formed, int_formed, int_formed, lon_formed, lon_formed, str_formed, empty_formed, null_str_formed, buf_formed, null_buf_formed, ptr_formed, ptr_formed, tim_formed, texts_formed, numbers_formed) refl

-- ---- the reply to a handshake

text_simple : (text : List ℕ) → is_utf8 text ≡ true → simple_is k.Str (o.Str (Some text)) ≡ true
unfolding simple_is out-Object out
text_simple text h = h

algo_text : is_utf8 (codes "password_hash_algo") ≡ true
unfolding is_utf8 chars encode
algo_text = refl

iterations_text : is_utf8 (codes "password_hash_iterations") ≡ true
unfolding is_utf8 chars encode
iterations_text = refl

count_text : is_utf8 (codes "100000") ≡ true
unfolding is_utf8 chars encode
count_text = refl

totp_text : is_utf8 (codes "totp") ≡ true
unfolding is_utf8 chars encode
totp_text = refl

off_text : is_utf8 (codes "off") ≡ true
unfolding is_utf8 chars encode
off_text = refl

nonce_text : is_utf8 (codes "nonce") ≡ true
unfolding is_utf8 chars encode
nonce_text = refl

compression_text : is_utf8 (codes "compression") ≡ true
unfolding is_utf8 chars encode
compression_text = refl

escape_text : is_utf8 (codes "escape_commands") ≡ true
unfolding is_utf8 chars encode
escape_text = refl

switch_text : (on : Bool) → is_utf8 (switch on) ≡ true
unfolding is_utf8 chars encode
switch_text true = refl
switch_text false = refl

choice_text : (choice : Option Algorithm) → is_utf8 (name_of_choice choice) ≡ true
unfolding is_utf8 chars encode
choice_text None = refl
choice_text (Some a.Plain) = refl
choice_text (Some a.Sha256) = refl
choice_text (Some a.Sha512) = refl
choice_text (Some a.Pbkdf2Sha256) = refl
choice_text (Some a.Pbkdf2Sha512) = refl

ascii_from : (text : List ℕ) → list_all (λ b. nat_lt b 128) text ≡ true → IsAscii text
ascii_from [] h = IsAscii-nil
ascii_from (b ∷ text) h =
    IsAscii-cons b text (grind (arith, nat_tests)) (ascii_from text (grind (arith, nat_tests)))

digits_text : (nonce : List ℕ) → is_utf8 (encode_upper nonce) ≡ true
digits_text nonce =
    is_utf8-from_IsUtf8 (encode_upper nonce) (IsUtf8-from_ascii (encode_upper nonce) (IsAscii-encode_with upper_digits nonce (ascii_from upper_digits refl)))

table_simple : (nonce : List ℕ) (choice : Option Algorithm) (escapes : Bool)
    → list_all (λ p. simple_is k.Str p.0 && simple_is k.Str p.1) (handshake_table nonce choice escapes) ≡ true
unfolding handshake_table
table_simple nonce choice escapes =
    rw (
      text_simple _ algo_text,
      text_simple _ (choice_text choice),
      text_simple _ iterations_text,
      text_simple _ count_text,
      text_simple _ totp_text,
      text_simple _ off_text,
      text_simple _ nonce_text,
      text_simple _ (digits_text nonce),
      text_simple _ compression_text,
      text_simple _ escape_text,
      text_simple _ (switch_text escapes),
    ) refl

pub handshake_formed : (nonce : List ℕ) (choice : Option Algorithm) (escapes : Bool) → well_formed (handshake_objects nonce choice escapes) ≡ true
unfolding well_formed object_is value_is
handshake_formed nonce choice escapes =
    rw (← o.rolls-Htb k.Str k.Str (handshake_table nonce choice escapes), out-roll-Object, table_simple nonce choice escapes) refl
