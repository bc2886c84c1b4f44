use Rattle.std.proofs.Common.{◌≡◌, ◌≤◌, ◌+◌, length}
use Rattle.wc_options.specs.Config.{after_lines}
use Rattle.wc_options.specs.File.{lines_of}
use Rattle.wc_options.proofs.options.Options.read_lines.Given as goal

abbrev pub invariant-loop-line : goal.invariant-loop-line
invariant-loop-line l = record {
  same : after_lines l.version l.number l.self (lines_of l.rest) ≡ after_lines l.version l.fn.first l.fn.self (lines_of l.fn.bytes);
  few : l.number + length l.rest ≤ l.fn.first + length l.fn.bytes;
}

abbrev pub decreases-loop-line : goal.decreases-loop-line
decreases-loop-line l = length l.rest
