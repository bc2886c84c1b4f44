-- The lines that the core prints are short.
use Rattle.std.specs.Prelude.{◌<◌, ◌≤◌, ◌^◌, length, sum_by}
use Rattle.std.specs.Int.{w8}
use Rattle.std.specs.Int.RustNames.{FitsSigned}
use Rattle.wc_lines.specs.declared.line.Line.{Line}
use Rattle.wc_lines.specs.LineText.{HasUtf8Texts}

-- a line with a level of 8 bits, with tags, a prefix and a message that were cut, and with handles of
-- 64 bits
pub record IsPrinted (line : Line) : Type 0 where
  pub handle : line.handle.0 < 2 ^ 64
  pub content : line.content.0 < 2 ^ 64
  pub notify : FitsSigned w8 line.notify
  pub few : length line.tags ≤ 32
  pub tags : sum_by (λ tag. length tag) line.tags ≤ 256
  pub prefix : length line.prefix ≤ 128
  pub message : length line.message ≤ 1024
  pub text : HasUtf8Texts line
