use Rattle.std.proofs.Common.{◌≡◌, ◌++◌, drop, map, List, ℕ}
use Rattle.std.specs.Borrow.{Bor}
use Rattle.wc_irc.proofs.errand.put_params.Given as goal

abbrev pub invariant-loop-other : goal.invariant-loop-other
invariant-loop-other l = l.params ++ map (λ (other : Bor (List ℕ)). other.now) (drop l.other-index l.others) ≡ l.fn.params ++ map (λ (other : Bor (List ℕ)). other.now) l.others
