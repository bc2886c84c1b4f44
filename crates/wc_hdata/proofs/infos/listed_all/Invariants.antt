use Rattle.std.proofs.Common.{◌≡◌, ◌++◌, drop}
use Rattle.wc_hdata.specs.Infos.{buffer_items}
use Rattle.wc_hdata.specs.Steps.{all_buffers}
use Rattle.wc_hdata.proofs.infos.listed_all.Given as goal

abbrev pub invariant-loop-buffer : goal.invariant-loop-buffer
invariant-loop-buffer l = l.items ++ buffer_items l.buffers (drop l.buffer-index l.buffer-items) ≡ buffer_items l.buffers (all_buffers l.buffers)
