use Rattle.std.proofs.Common.{◌≡◌, ◌++◌}
use Rattle.std.specs.Prelude.{All}
use Rattle.wc_lines.specs.LinesLeft.{lines_left}
use Rattle.wc_lines.specs.LineText.{HasUtf8Texts}
use Rattle.wc_rules.specs.Displayed.{flips_of}
use Rattle.wc_rules.proofs.flags.push_flips.Given as goal

-- the flips so far, and those of the lines that are left
abbrev pub invariant-loop-line : goal.invariant-loop-line
invariant-loop-line l = record {
  seeks : l.seeker ≡ l.fn.seeker;
  text : All HasUtf8Texts (lines_left l.line-iterator);
  flips : l.flips ++ flips_of l.fn.seeker.filters l.fn.seeker.name (lines_left l.line-iterator)
      ≡ l.fn.flips ++ flips_of l.fn.seeker.filters l.fn.seeker.name l.lines.lines;
}
