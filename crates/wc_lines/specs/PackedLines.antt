-- A line by its marks and its texts.
use Rattle.std.specs.Prelude.{List, ℕ}
use Rattle.wc_lines.specs.declared.line.Line.{Line}
use Rattle.wc_lines.specs.declared.packed_line.LineMarks.{LineMarks}

abbrev pub line_with : LineMarks → List (List ℕ) → List ℕ → List ℕ → Line
line_with marks tags prefix message = record {
  handle = marks.handle;
  content = marks.content;
  id = marks.id;
  date = marks.date;
  usec = marks.usec;
  date_printed = marks.date_printed;
  usec_printed = marks.usec_printed;
  displayed = marks.displayed;
  notify = marks.notify;
  highlight = marks.highlight;
  tags = tags;
  prefix = prefix;
  message = message;
}
