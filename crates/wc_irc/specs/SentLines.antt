-- The lines that a command sends, of which none is longer than servers read, and refusals.
use Rattle.std.specs.Prelude.{ℕ, Bool, nat_le, flat_map, List, [], ◌∷◌, ◌++◌, codes, length, Option, Some, None}
use Rattle.std.specs.Prelude.{if◌then◌else◌}
use Rattle.wc_text.specs.Splits.{word_of}
use Rattle.wc_ircmsg.specs.declared.message.Message.{Message}
use Rattle.wc_ircmsg.specs.Written.{line_of}
use Rattle.wc_buffers.specs.declared.row.BufferRow.{BufferRow}
use Rattle.wc_buffers.specs.Calls.{EntryGroups, buffer_of}
use Rattle.wc_irc.specs.declared.act.Act.{Act}
use Rattle.wc_irc.specs.declared.act.Act.TheVariants as act
use Rattle.wc_irc.specs.Lines.{printed}

-- a refusal is a line of the core's buffer, which has the handle 1
abbrev pub told_in : Option BufferRow → List ℕ → List Act
told_in None text = []
told_in (Some row) text = printed row.full_name [] (codes "=!=") text ∷ []

abbrev pub refusal : EntryGroups → List ℕ → List Act
refusal groups text = told_in (buffer_of (record { 0 = 1 }) groups) text

-- a command whose line would be too long
abbrev pub too_long : EntryGroups → List ℕ → List Act
too_long groups command = refusal groups (codes "irc: too long: " ++ command)

abbrev pub sent_message : Message → Act
sent_message m = act.Send (line_of m)

-- a line has 510 bytes at most before its CR LF (RFC 2812)
abbrev pub fits_line : List ℕ → Bool
fits_line line = nat_le (length line) 510

abbrev pub line_acts : EntryGroups → List ℕ → List Act
line_acts groups line = if fits_line line then act.Send line ∷ [] else too_long groups (word_of line)

-- the line of each message, one by one
abbrev pub each_acts : EntryGroups → List Message → List Act
each_acts groups ms = flat_map (λ m. line_acts groups (line_of m)) ms

-- two lines, of which none is sent where one is too long
abbrev pub both_acts : EntryGroups → List ℕ → List ℕ → List Act
both_acts groups first second =
    if fits_line first then (
    if fits_line second then act.Send first ∷ act.Send second ∷ []
    else too_long groups (word_of second)) else too_long groups (word_of first)
