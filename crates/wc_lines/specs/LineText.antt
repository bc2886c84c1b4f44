-- The texts of a line are UTF-8.
use Rattle.std.specs.Prelude.{All}
use Rattle.std.specs.Str.{IsUtf8}
use Rattle.wc_lines.specs.declared.line.Line.{Line}

pub record HasUtf8Texts (line : Line) : Type 0 where
  pub tags : All IsUtf8 line.tags
  pub prefix : IsUtf8 line.prefix
  pub message : IsUtf8 line.message
