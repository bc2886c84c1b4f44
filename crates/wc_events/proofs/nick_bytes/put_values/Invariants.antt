use Rattle.std.proofs.Common.{take}
use Rattle.std.specs.List.{flat_map}
use Rattle.wc_objects.specs.Spelling.{Puts}
use Rattle.wc_events.specs.NickBytes.{key_bytes}
use Rattle.wc_events.proofs.nick_bytes.put_values.Given as goal

abbrev pub invariant-loop-key : goal.invariant-loop-key
invariant-loop-key l = Puts l.fn.out l.out (flat_map (key_bytes l.nick) (take l.key-index l.keys))
