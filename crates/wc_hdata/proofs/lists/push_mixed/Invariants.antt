use Rattle.std.proofs.Common.{◌++◌, List}
use Rattle.std.specs.List.{AllByRecursion}
use Rattle.wc_text.specs.declared.names.Handle.{Handle}
use Rattle.wc_buffers.specs.Kept.{handles}
use Rattle.wc_hdata.specs.Kept.{IsMade}
use Rattle.wc_hdata.specs.Listed.{IsMixedList, firsts_of}
use Rattle.wc_hdata.proofs.lists.push_mixed.Given as goal

abbrev pub invariant-loop-group : goal.invariant-loop-group
invariant-loop-group l = record {
  goes : (goal.iterator-loop-group).can_next l.group-iterator;
  ends : (goal.iterator-loop-group).is_finite l.group-iterator;
  lists : AllByRecursion (IsMixedList l.world) l.mixed.items;
  made : (more : List Handle) → AllByRecursion (IsMade (firsts_of l.mixed.items ++ more)) l.group-iterator → AllByRecursion (IsMade (firsts_of l.mixed.items ++ more)) (handles l.world.groups);
}
