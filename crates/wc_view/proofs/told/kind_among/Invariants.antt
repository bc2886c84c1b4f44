use Rattle.std.proofs.Common.{◌≡◌, drop}
use Rattle.wc_view.specs.BufferFold.{kind_among}
use Rattle.wc_view.proofs.told.kind_among.Given as goal

abbrev pub invariant-loop-kind : goal.invariant-loop-kind
invariant-loop-kind l = kind_among l.id (drop l.kind-index l.kinds) ≡ kind_among l.id l.kinds
