use Rattle.std.proofs.Common.{◌≡◌}
use Rattle.std.specs.Vec.Iter.{into_iter_items}
use Rattle.wc_view.specs.Each.{each}
use Rattle.wc_view.specs.NickGroups.{entry_listed, GroupsAreUtf8}
use Rattle.wc_view.proofs.NickFolded.{Lists}
use Rattle.wc_view.proofs.mirror_nicks.lists_of.Given as goal

-- the lists so far and those of the groups that are left
abbrev pub invariant-loop-group : goal.invariant-loop-group
invariant-loop-group l = record {
  lists : Lists l.entries.items (into_iter_items l.group-iterator) (each entry_listed l.fn.groups.items);
  texts : GroupsAreUtf8 (into_iter_items l.group-iterator);
}
