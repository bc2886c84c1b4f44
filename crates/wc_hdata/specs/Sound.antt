-- A world whose texts are UTF-8 and whose numbers are within their types.
use Rattle.std.specs.Prelude.{ℕ, ◌<◌, ◌^◌}
use Rattle.std.specs.Int.{w8}
use Rattle.std.specs.Int.RustNames.{FitsSigned}
use Rattle.std.specs.List.{AllByRecursion}
use Rattle.wc_lines.specs.declared.line.Line.{Line}
use Rattle.wc_lines.specs.LineText.{HasUtf8Texts}
use Rattle.wc_buffers.specs.declared.row.BufferEntry.{BufferEntry}
use Rattle.wc_buffers.specs.Groups.{rows}
use Rattle.wc_buffers.specs.Kept.{IsBuffer}
use Rattle.wc_model.specs.World.{World, lines_at}

pub record IsSoundBuffer (e : BufferEntry) : Type 0 where
  pub fit : IsBuffer e
  pub handle : e.row.handle.0 < 2 ^ 64
  pub own : e.row.own_lines.0 < 2 ^ 64
  pub mixed : e.row.mixed_lines.0 < 2 ^ 64

pub record IsSoundLine (line : Line) : Type 0 where
  pub text : HasUtf8Texts line
  pub handle : line.handle.0 < 2 ^ 64
  pub content : line.content.0 < 2 ^ 64
  pub notify : FitsSigned w8 line.notify

pub record IsSound (world : World) : Type 0 where
  pub buffers : AllByRecursion IsSoundBuffer (rows world.groups)
  pub lines : (h : ℕ) → AllByRecursion IsSoundLine (lines_at world h)
