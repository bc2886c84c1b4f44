use Rattle.std.proofs.Common.{◌≡◌, drop}
use Rattle.wc_objects.specs.Forms.{kind_among}
use Rattle.wc_objects.proofs.keys.kind_among.Given as goal

-- no kind before this one has the letters
abbrev pub invariant-loop-kind : goal.invariant-loop-kind
invariant-loop-kind l = kind_among l.kinds l.letters ≡ kind_among (drop l.kind-index l.kinds) l.letters
