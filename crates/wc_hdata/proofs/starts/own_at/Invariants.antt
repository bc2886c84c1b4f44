use Rattle.std.proofs.Common.{◌≡◌, drop}
use Rattle.std.specs.Prelude.{find}
use Rattle.wc_hdata.specs.Starts.{has_own, own_at}
use Rattle.wc_hdata.proofs.starts.own_at.Given as goal

abbrev pub invariant-loop-buffer : goal.invariant-loop-buffer
invariant-loop-buffer l = own_at l.buffers l.pointer ≡ find (has_own l.buffers l.pointer) (drop l.buffer-index l.all)
