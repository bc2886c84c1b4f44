-- What an element of a path leads to.
use Rattle.std.specs.Prelude.{List, map}
use Rattle.wc_text.specs.declared.names.Handle.{Handle}
use Rattle.wc_lines.specs.declared.line.Line.{Line}
use Rattle.wc_hdata.specs.declared.place.HeldLine.{HeldLine as Lent}
use Rattle.wc_hdata.specs.declared.place.LineList.{LineList}
use Rattle.wc_hdata.specs.declared.place.Place.{Place as LentPlace}
use Rattle.wc_hdata.specs.declared.place.Place.TheVariants as lent

-- a line, and the buffer that holds it
pub record HeldLine : Type 0 where
  pub buffer : Handle
  pub line : Line

pub data Place : Type 0 where
  Buffer : Handle → Place
  Lines : LineList → Place
  Line_at : HeldLine → Place
  Data_at : HeldLine → Place

-- what is lent
abbrev pub held_line : Lent → HeldLine
held_line held = record { buffer = held.buffer; line = held.line.now }

abbrev pub held_lines : List Lent → List HeldLine
held_lines lines = map held_line lines

abbrev pub place_of : LentPlace → Place
place_of (lent.Buffer buffer) = Buffer buffer
place_of (lent.Lines list) = Lines list
place_of (lent.Line held) = Line_at (held_line held)
place_of (lent.LineData held) = Data_at (held_line held)
