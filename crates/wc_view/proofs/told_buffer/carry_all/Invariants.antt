use Rattle.std.proofs.Common.{◌≡◌, drop}
use Rattle.wc_view.specs.ToldBuffer.{carry_all}
use Rattle.wc_view.proofs.told_buffer.carry_all.Given as goal

-- what is left to carry comes to the whole
abbrev pub invariant-loop-key : goal.invariant-loop-key
invariant-loop-key l = carry_all (drop l.key-index l.keys) l.values l.told ≡ carry_all l.keys l.initial.values l.initial.told
