use Rattle.std.proofs.Common.{◌≡◌, ◌++◌, take}
use Rattle.wc_view.proofs.grouped.push_groups.Given as goal

abbrev pub invariant-loop-group : goal.invariant-loop-group
invariant-loop-group l = l.found ≡ l.initial.found ++ take l.group-index l.groups
