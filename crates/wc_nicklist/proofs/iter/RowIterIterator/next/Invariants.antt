use Rattle.std.proofs.Common.{◌≡◌, ◌++◌, length, map}
use Rattle.wc_nicklist.specs.Stored.{entry_row, AllEntriesLead}
use Rattle.wc_nicklist.specs.Tree.{entries_in}
use Rattle.wc_nicklist.proofs.iter.RowIterIterator.next.Given as goal

-- the rows that are left stay, and so does what is known of their entries
abbrev pub invariant-loop-self : goal.invariant-loop-self
invariant-loop-self l =
    let left = l.self-inside.leaf.now ++ entries_in l.self-inside.leaves.now in
    record {
      rows : map (entry_row l.self-inside.store.now) left ≡ l.fn.self;
      stand : AllEntriesLead l.self-inside.store.now left;
    }

abbrev pub decreases-loop-self : goal.decreases-loop-self
decreases-loop-self l = length l.self-inside.leaves.now
