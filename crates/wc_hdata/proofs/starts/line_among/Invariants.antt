use Rattle.std.proofs.Common.{◌≡◌, drop}
use Rattle.std.specs.List.{AllByRecursion}
use Rattle.wc_hdata.specs.Kept.{IsThere}
use Rattle.wc_hdata.specs.Starts.{line_among}
use Rattle.wc_hdata.proofs.starts.line_among.Given as goal

abbrev pub invariant-loop-buffer : goal.invariant-loop-buffer
invariant-loop-buffer l = record {
  same : line_among l.world l.element l.pointer l.buffers ≡ line_among l.world l.element l.pointer (drop l.buffer-index l.buffers);
  there : AllByRecursion (IsThere l.world.groups) (drop l.buffer-index l.buffers);
}
