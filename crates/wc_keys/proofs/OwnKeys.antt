-- Events of buffers and the dump have no key of our own.
use Rattle.std.proofs.Common.{◌≡◌, false, refl}
use Rattle.wc_model.specs.declared.notice.EventKind.{EventKind}
use Rattle.wc_model.specs.declared.notice.EventKind.TheVariants as kind
use Rattle.wc_keys.specs.declared.key.KeyList.TheVariants as l
use Rattle.wc_keys.specs.Keys.{has_own}
use Rattle.wc_keys.specs.Events.{buffer_path, list_of, path_of}

pub own_not_told : (k : EventKind) → path_of k ≡ buffer_path → has_own (list_of k) ≡ false
own_not_told kind.Opened on = refl
own_not_told kind.Moved on = refl
own_not_told kind.Merged on = refl
own_not_told kind.Unmerged on = refl
own_not_told kind.Hidden on = refl
own_not_told kind.Unhidden on = refl
own_not_told kind.Renamed on = refl
own_not_told kind.TitleChanged on = refl
own_not_told kind.VarAdded on = refl
own_not_told kind.VarChanged on = refl
own_not_told kind.VarRemoved on = refl
own_not_told kind.Cleared on = refl
own_not_told kind.Closing on = refl
own_not_told kind.LineAdded on = refl
own_not_told kind.LineDataChanged on = refl
own_not_told kind.Nicklist on = absurd (cc)
own_not_told kind.NicklistDiff on = absurd (cc)
own_not_told kind.NickTouched on = absurd (cc)
own_not_told kind.LimitSet on = refl
own_not_told kind.LinesTrimmed on = refl

pub own_not_dumped : has_own l.Dump ≡ false
own_not_dumped = refl
