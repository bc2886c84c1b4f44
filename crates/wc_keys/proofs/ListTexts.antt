-- The texts of the lists of keys, and the paths, as messages may have them.
use Rattle.std.proofs.Common.{◌≡◌, true, Some, refl}
use Rattle.std.specs.Str.{is_utf8, chars}
use lib.Utf8.{encode}
use Rattle.wc_objects.specs.Forms.{kinds_of, key_kind, named_kind}
use Rattle.wc_keys.specs.declared.key.KeyList.{KeyList}
use Rattle.wc_keys.specs.declared.key.KeyList.TheVariants as l
use Rattle.wc_keys.specs.Keys.{kinds_in, list_text}
use Rattle.wc_keys.specs.Events.{buffer_path, line_path, nick_path, lines_path}

pub list_is_text : (list : KeyList) → is_utf8 (list_text list) ≡ true
unfolding is_utf8 chars encode
list_is_text l.Buffer = refl
list_is_text l.Lines = refl
list_is_text l.Line = refl
list_is_text l.LineData = refl
list_is_text l.Dump = refl
list_is_text l.Opened = refl
list_is_text l.Placed = refl
list_is_text l.Renamed = refl
list_is_text l.Titled = refl
list_is_text l.Variables = refl
list_is_text l.Named = refl
list_is_text l.Flags = refl
list_is_text l.Trimmed = refl
list_is_text l.Nicks = refl
list_is_text l.Diff = refl
list_is_text l.Hotlist = refl
list_is_text l.Completion = refl

pub list_names_kinds : (list : KeyList) → kinds_of (list_text list) ≡ Some (kinds_in list)
unfolding kinds_of key_kind named_kind
list_names_kinds l.Buffer = refl
list_names_kinds l.Lines = refl
list_names_kinds l.Line = refl
list_names_kinds l.LineData = refl
list_names_kinds l.Dump = refl
list_names_kinds l.Opened = refl
list_names_kinds l.Placed = refl
list_names_kinds l.Renamed = refl
list_names_kinds l.Titled = refl
list_names_kinds l.Variables = refl
list_names_kinds l.Named = refl
list_names_kinds l.Flags = refl
list_names_kinds l.Trimmed = refl
list_names_kinds l.Nicks = refl
list_names_kinds l.Diff = refl
list_names_kinds l.Hotlist = refl
list_names_kinds l.Completion = refl

pub buffer_path_is_text : is_utf8 buffer_path ≡ true
unfolding is_utf8 chars encode
buffer_path_is_text = refl

pub line_path_is_text : is_utf8 line_path ≡ true
unfolding is_utf8 chars encode
line_path_is_text = refl

pub nick_path_is_text : is_utf8 nick_path ≡ true
unfolding is_utf8 chars encode
nick_path_is_text = refl

pub lines_path_is_text : is_utf8 lines_path ≡ true
unfolding is_utf8 chars encode
lines_path_is_text = refl
