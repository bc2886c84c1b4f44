use Rattle.std.proofs.Common.{◌≡◌, drop}
use Rattle.wc_session.specs.Sync.{set_at}
use Rattle.wc_session.proofs.buffer_sets.BufferSets.at.Given as goal

abbrev pub invariant-loop-own : goal.invariant-loop-own
invariant-loop-own l = set_at l.buffer.0 (drop l.own-index l.own-items) ≡ set_at l.buffer.0 l.self
