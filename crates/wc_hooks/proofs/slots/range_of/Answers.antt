use Rattle.std.proofs.Common.{◌≡◌, ◌≤◌, List, length, rules, sym, subst, true, false}
use Rattle.std.specs.List.Sorted.{IsPartitionedBy, IsPartitionPoint}
use Rattle.std.proofs.lemmas.List.Sorted.{IsPartitionPoint-from_clause}
use Rattle.wc_hooks.specs.declared.slot.Slot.{Slot}
use Rattle.wc_hooks.specs.Slots.{is_slot_for}
use Rattle.wc_hooks.proofs.Opens.{is_first, first_partition, others_partition, is_range}
use Rattle.wc_hooks.proofs.slots.range_of.Goals as goal

pub returns : goal.returns
returns c =
    let kind = c.args.kind in
    let key = c.args.key.now in
    let slots = c.args.slots.now in
    let start = c.partition_point-start.result in
    let count = c.partition_point-count.result in
    let back = c.split_at.ensures.back in
    let first = IsPartitionPoint-from_clause (is_first kind key) slots start c.partition_point-start.ensures.partitioned (first_partition kind key slots c.requires) (λ a r f' k. search rules) in
    let parted = subst (λ (l : List Slot). IsPartitionedBy (is_slot_for kind key) l) (sym back) (others_partition kind key slots start c.requires first) in
    let here = IsPartitionPoint-from_clause (is_slot_for kind key) c.split_at.result.1.now count c.partition_point-count.ensures.partitioned parted (λ a r f' k. search rules) in
    is_range kind key slots start count c.partition_point-start.ensures.bound (subst (λ (l : List Slot). count ≤ length l) back c.partition_point-count.ensures.bound) first
    (subst (λ (l : List Slot). IsPartitionPoint (λ y. is_slot_for kind key y ≡ true) (λ y. is_slot_for kind key y ≡ false) l count) back here)
