use Rattle.std.proofs.Common.{◌≡◌, ◌++◌, drop}
use Rattle.std.specs.List.{filter_map}
use Rattle.wc_events.specs.BufferObjects.{noticed_value}
use Rattle.wc_events.proofs.event_values.noticed_values.Given as goal

abbrev pub invariant-loop-key : goal.invariant-loop-key
invariant-loop-key l = l.values ++ filter_map (noticed_value l.notice) (drop l.key-index l.keys) ≡ filter_map (noticed_value l.notice) l.keys
