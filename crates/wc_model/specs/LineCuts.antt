-- A line as a buffer takes it: what is too long is cut.
use Rattle.std.specs.Prelude.{ℕ, ◌+◌, ◌%◌, ◌^◌, min, List, [], ◌∷◌, length, nat_lt, ◌||◌, if◌then◌else◌}
use Rattle.wc_lines.specs.declared.line.Line.{Line}
use Rattle.wc_buffers.specs.Vars.{cut_to}
use Rattle.wc_model.specs.declared.change.LineSpec.{LineSpec}

-- the tags up to the first that does not fit, where so many tags and bytes were taken before
abbrev pub tags_from : ℕ → ℕ → List (List ℕ) → List (List ℕ)
tags_from count size [] = []
tags_from count size (tag ∷ tags) =
    if nat_lt 32 (count + 1) || nat_lt 256 (size + length tag) then []
    else tag ∷ tags_from (count + 1) (size + length tag) tags

abbrev pub cut_tags : List (List ℕ) → List (List ℕ)
cut_tags tags = tags_from 0 0 tags

-- microseconds of a second
abbrev pub cut_usec : ℕ → ℕ
cut_usec usec = min usec 999999

-- the id of a line before which so many were printed in its buffer
abbrev pub id_of : ℕ → ℕ
id_of printed = printed % (2 ^ 31)

-- the line with this handle, and the next one for its content, before which so many were printed
abbrev pub line_of : ℕ → ℕ → LineSpec → Line
line_of printed handle spec = record {
  handle = record { 0 = handle };
  content = record { 0 = handle + 1 };
  id = id_of printed;
  date = spec.date;
  usec = cut_usec spec.usec;
  date_printed = spec.date_printed;
  usec_printed = cut_usec spec.usec_printed;
  displayed = spec.displayed;
  notify = spec.notify;
  highlight = spec.highlight;
  tags = cut_tags spec.tags;
  prefix = cut_to 128 spec.prefix;
  message = cut_to 1024 spec.message;
}
