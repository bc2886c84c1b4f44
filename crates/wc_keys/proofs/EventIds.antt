-- The ids of events are texts.
use Rattle.std.proofs.Common.{◌≡◌, true, refl}
use Rattle.std.specs.Str.{IsUtf8, is_utf8, chars}
use Rattle.std.proofs.lemmas.Str.{IsUtf8-from_is_utf8}
use lib.Utf8.{encode}
use Rattle.wc_model.specs.declared.notice.EventKind.{EventKind}
use Rattle.wc_model.specs.declared.notice.EventKind.TheVariants as kind
use Rattle.wc_keys.specs.Events.{id_of}

pub id_is_text : (k : EventKind) → is_utf8 (id_of k) ≡ true
unfolding is_utf8 chars encode
id_is_text kind.Opened = refl
id_is_text kind.Moved = refl
id_is_text kind.Merged = refl
id_is_text kind.Unmerged = refl
id_is_text kind.Hidden = refl
id_is_text kind.Unhidden = refl
id_is_text kind.Renamed = refl
id_is_text kind.TitleChanged = refl
id_is_text kind.VarAdded = refl
id_is_text kind.VarChanged = refl
id_is_text kind.VarRemoved = refl
id_is_text kind.Cleared = refl
id_is_text kind.Closing = refl
id_is_text kind.LineAdded = refl
id_is_text kind.LineDataChanged = refl
id_is_text kind.Nicklist = refl
id_is_text kind.NicklistDiff = refl
id_is_text kind.NickTouched = refl
id_is_text kind.LimitSet = refl
id_is_text kind.LinesTrimmed = refl

pub id_text : (k : EventKind) → IsUtf8 (id_of k)
id_text k = IsUtf8-from_is_utf8 (id_of k) (id_is_text k)
