use Rattle.std.proofs.Common.{◌≡◌, ◌++◌, drop}
use Rattle.std.specs.List.{filter_map}
use Rattle.wc_events.specs.BufferObjects.{trim_value}
use Rattle.wc_events.proofs.trims.trim_values.Given as goal

abbrev pub invariant-loop-key : goal.invariant-loop-key
invariant-loop-key l = l.values ++ filter_map (trim_value l.trim) (drop l.key-index l.keys) ≡ filter_map (trim_value l.trim) l.keys
