use Rattle.std.proofs.Common.{◌≡◌, [], fold}
use Rattle.wc_view.specs.NickGroups.{with_item}
use Rattle.wc_view.proofs.nick_groups.by_buffer.Given as goal

abbrev pub invariant-loop-row : goal.invariant-loop-row
invariant-loop-row l = l.groups.items ≡ fold with_item [] l.yielded
