use Rattle.std.proofs.Common.{◌≡◌, [], Some}
use Rattle.std.specs.Option.{option_copied}
use Rattle.wc_hdata.proofs.CutLemmas.{length_left}
use Rattle.wc_hdata.proofs.KeyLemmas.{adds, keys_left}
use Rattle.wc_hdata.proofs.keys.read_keys_in.Given as goal

abbrev pub invariant-loop-rest : goal.invariant-loop-rest
invariant-loop-rest l = adds l.keys (keys_left l.list (option_copied l.rest)) ≡ adds [] (keys_left l.list (Some l.text))

abbrev pub decreases-loop-rest : goal.decreases-loop-rest
decreases-loop-rest l = length_left (option_copied l.rest)
