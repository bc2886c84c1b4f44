use Rattle.std.proofs.Common.{◌≡◌, map}
use Rattle.wc_view.specs.declared.nick_rows.NickChange.{NickChange}
use Rattle.wc_view.proofs.mirror_nicks.diff_of.Given as goal

abbrev pub invariant-loop-change : goal.invariant-loop-change
invariant-loop-change l = l.items ≡ map (λ (change : NickChange). change.diff) l.yielded
