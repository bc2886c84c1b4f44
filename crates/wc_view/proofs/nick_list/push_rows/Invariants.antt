use Rattle.std.proofs.Common.{◌≡◌, []}
use Rattle.std.specs.Vec.Iter.{into_iter_items}
use Rattle.wc_nicklist.specs.Rows.{root_name}
use Rattle.wc_nickdiff.specs.PushLaw.{rows_from}
use Rattle.wc_view.specs.NickLists.{IsListing, ItemsAreUtf8}
use Rattle.wc_view.proofs.NickListing.{Reads}
use Rattle.wc_view.proofs.nick_list.push_rows.Given as goal

-- the rows so far and those of the items that are left
abbrev pub invariant-loop-item : goal.invariant-loop-item
invariant-loop-item l = record {
  listing : IsListing l.listing;
  root : l.listing.root_name ≡ root_name;
  texts : ItemsAreUtf8 (into_iter_items l.item-iterator);
  rows : Reads (rows_from [] (into_iter_items l.fn.rows)) l.listing.list.rows (into_iter_items l.item-iterator);
}
