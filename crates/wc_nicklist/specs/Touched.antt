-- What a touch adds to the rows that were at the first touches.
use Rattle.std.specs.Prelude.{◌==◌, ◌&&◌, Option, Some, None, if◌then◌else◌}
use Rattle.wc_text.specs.declared.names.Handle.{Handle}
use Rattle.wc_nicklist.specs.declared.item.Key.{Key}
use Rattle.wc_nicklist.specs.declared.item.Row.{Row}
use Rattle.wc_nicklist.specs.Rows.{key_eq}

-- the earlier row, where the key was touched before
abbrev pub earlier_or : Option (Option Row) → Option Row → Option (Option Row)
earlier_or None before = Some before
earlier_or (Some row) before = Some row

-- only the first touch of a key of a buffer counts
abbrev pub first_touch : Handle → Key → Option Row → (Handle → Key → Option (Option Row)) → Handle →
    Key → Option (Option Row)
first_touch buffer key before first b k = if (buffer.0 == b.0) && key_eq key k
    then earlier_or (first b k) before else first b k
