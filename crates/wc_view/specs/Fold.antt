-- What a message changes of the lines that a client holds.
use Rattle.std.specs.Prelude.{ℕ, Bool, ◌||◌, List, Option, Some, None, option_map}
use Rattle.std.specs.Prelude.{if◌then◌else◌, bytes_eq}
use Rattle.std.specs.Option.{option_and_then}
use Rattle.wc_model.specs.declared.notice.EventKind.TheVariants as kind
use Rattle.wc_objects.specs.declared.object.WireMessage.{WireMessage}
use Rattle.wc_keys.specs.Events.{line_path, lines_path, id_of}
use Rattle.wc_view.specs.declared.flags.LineFlag.{LineFlag}
use Rattle.wc_view.specs.declared.rows.LineRow.{LineRow}
use Rattle.wc_view.specs.declared.trims.LineTrim.{LineTrim}
use Rattle.wc_view.specs.Each.{only}
use Rattle.wc_view.specs.Flags.{flags_on}
use Rattle.wc_view.specs.Named.{buffer_named}
use Rattle.wc_view.specs.Parts.{Part, with_row, part_of, without, with_flags, with_trim}
use Rattle.wc_view.specs.Rows.{rows_on}
use Rattle.wc_view.specs.Trims.{trim_on}

-- the dump sets the part
abbrev pub with_dump : Option ℕ → Option (List LineRow) → Option Part → Option Part
with_dump limit None part = part
with_dump limit (Some rows) part = Some (part_of limit rows)

-- a new line, where the part is set
abbrev pub with_new_line : Option ℕ → Option LineRow → Option Part → Option Part
with_new_line limit None part = part
with_new_line limit (Some row) None = None
with_new_line limit (Some row) (Some part) = Some (with_row limit row part)

-- a buffer without its lines, where the part is set
abbrev pub without_lines_of : Option ℕ → Option Part → Option Part
without_lines_of None part = part
without_lines_of (Some buffer) part = option_map (without buffer) part

-- flags of lines, where the part is set
abbrev pub with_shown_flags : Option (List LineFlag) → Option Part → Option Part
with_shown_flags None part = part
with_shown_flags (Some flags) part = option_map (λ part. with_flags part flags) part

-- lines that went, where the part is set
abbrev pub without_trimmed : Option LineTrim → Option Part → Option Part
without_trimmed None part = part
without_trimmed (Some trim) part = option_map (with_trim trim) part

abbrev pub only_row : Option (List LineRow) → Option LineRow
only_row rows = option_and_then only rows

abbrev pub fold_dump : Option ℕ → Option Part → WireMessage → Option Part
fold_dump limit part message =
    with_dump limit (rows_on lines_path message.objects) part

abbrev pub fold_added : Option ℕ → Option Part → WireMessage → Option Part
fold_added limit part message = with_new_line limit
    (only_row (rows_on line_path message.objects)) part

abbrev pub fold_emptied : Option Part → WireMessage → Option Part
fold_emptied part message = without_lines_of (buffer_named message.objects) part

abbrev pub fold_flags : Option Part → WireMessage → Option Part
fold_flags part message = with_shown_flags (flags_on message.objects) part

abbrev pub fold_trimmed : Option Part → WireMessage → Option Part
fold_trimmed part message = without_trimmed (trim_on message.objects) part

-- a buffer that is closed or cleared has no lines any more
abbrev pub empties : List ℕ → Bool
empties id = bytes_eq id (id_of kind.Closing) || bytes_eq id (id_of kind.Cleared)

abbrev pub fold_marks : Option Part → WireMessage → Option Part
fold_marks part message =
    if bytes_eq message.id (id_of kind.LineDataChanged) then fold_flags part message
    else (if bytes_eq message.id (id_of kind.LinesTrimmed)
    then fold_trimmed part message else part)

abbrev pub fold_change : Option Part → WireMessage → Option Part
fold_change part message =
    if empties message.id then fold_emptied part message else fold_marks part message

abbrev pub fold_event : Option ℕ → Option Part → WireMessage → Option Part
fold_event limit part message =
    if bytes_eq message.id (id_of kind.LineAdded) then fold_added limit part message
    else fold_change part message

-- The reply under the id of the line dump, and the events: of a new line, which has exactly one, of
-- a buffer that is closed or cleared, of flags of lines, and of lines that went. Other messages, and
-- those whose keys or values are not those of their kind, change nothing. With a limit no buffer keeps
-- more lines than it; without one no line goes but by its event.
abbrev pub fold_lines : Option ℕ → List ℕ → Option Part → WireMessage → Option Part
fold_lines limit id part message =
    if bytes_eq message.id id then fold_dump limit part message else fold_event limit part message
