use Rattle.std.proofs.Common.{refl, sym, ◌∙◌}
use Rattle.wc_nicklist.proofs.Owned.{tree_reserved}
use Rattle.wc_nicklist.proofs.row_tree.RowTree.reserve.Goals as goal

pub invariant_of-self : goal.invariant_of-self
invariant_of-self c =
    let a = c.self.inside in
    tree_reserved a.store c.reserve.new.self a.leaves.items a.leaves.items a.spare a.spare a.count c.reserve.ensures.same refl refl c.self.invariant

pub invariant_of-self-in_err-reserve-2 : goal.invariant_of-self-in_err-reserve-2
invariant_of-self-in_err-reserve-2 c =
    let a = c.self.inside in
    tree_reserved a.store c.reserve.new.self a.leaves.items c.reserve-2.new.self.items a.spare a.spare a.count c.reserve.ensures.same c.reserve-2.ensures.items refl c.self.invariant

pub invariant_of-self-in_err-reserve-3 : goal.invariant_of-self-in_err-reserve-3
invariant_of-self-in_err-reserve-3 c =
    let a = c.self.inside in
    tree_reserved a.store c.reserve.new.self a.leaves.items c.reserve-2.new.self.items a.spare c.reserve-3.new.self a.count c.reserve.ensures.same c.reserve-2.ensures.items (c.reserve-3.ensures.items ∙ sym c.self.invariant.spare_empty) c.self.invariant

pub invariant_of-self-2 : goal.invariant_of-self-2
invariant_of-self-2 c =
    let a = c.self.inside in
    tree_reserved a.store c.reserve.new.self a.leaves.items c.reserve-2.new.self.items a.spare c.reserve-3.new.self a.count c.reserve.ensures.same c.reserve-2.ensures.items (c.reserve-3.ensures.items ∙ sym c.self.invariant.spare_empty) c.self.invariant
