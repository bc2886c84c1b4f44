use Rattle.std.proofs.Common.{◌≡◌, ◌++◌, drop}
use Rattle.std.specs.List.{filter_map}
use Rattle.wc_events.specs.BufferObjects.{numbered_value}
use Rattle.wc_events.proofs.event_values.numbered_values.Given as goal

abbrev pub invariant-loop-key : goal.invariant-loop-key
invariant-loop-key l = l.values ++ filter_map (numbered_value l.number (record { row = l.row; vars = l.vars })) (drop l.key-index l.keys) ≡ filter_map (numbered_value l.number (record { row = l.row; vars = l.vars })) l.keys
