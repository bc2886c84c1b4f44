use Rattle.std.proofs.Common.{◌≡◌, option_map}
use Rattle.wc_triggers.specs.Keys.{each_key, names_left, keyed_after, signal_keys}
use Rattle.wc_triggers.proofs.KeyLemmas.{left_in}
use Rattle.std.specs.Option.{option_copied}
use Rattle.wc_triggers.proofs.keys.signal_keys.Given as goal

abbrev pub invariant-loop-rest : goal.invariant-loop-rest
invariant-loop-rest l = option_map (keyed_after l.keys) (each_key (names_left (option_copied l.rest))) ≡ signal_keys l.text

abbrev pub decreases-loop-rest : goal.decreases-loop-rest
decreases-loop-rest l = left_in (option_copied l.rest)
