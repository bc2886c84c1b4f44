use Rattle.std.proofs.Common.{◌≡◌, ◌∷◌, suc, take, drop, sym, ap, ◌∙◌, subst, arith}
use Rattle.std.specs.Prelude.{vec_len}
use Rattle.wc_nicklist.specs.Tree.{IsLeaf, AreLeaves}
use Rattle.wc_nicklist.proofs.Leaves.{leaves-append}
use Rattle.wc_nicklist.proofs.TreeLaws.{some_rows}
use Rattle.wc_nicklist.proofs.row_tree.drop_empty.Goals as goal

pub returns-then-is_empty-clause-leaves : goal.returns-then-is_empty-clause-leaves
returns-then-is_empty-clause-leaves c =
    let n = c.requires.nearly in
    subst AreLeaves (sym c.remove.ensures.items) (leaves-append (take c.args.at c.args.leaves.now.items) (drop (suc c.args.at) c.args.leaves.now.items) n.before n.following)

pub returns-else-is_empty-clause-leaves : goal.returns-else-is_empty-clause-leaves
returns-else-is_empty-clause-leaves c =
    let n = c.requires.nearly in
    let at = c.args.at in
    let leaves = c.args.leaves.now.items in
    let same : c.index.result.now ≡ n.leaf = c.index.ensures ∙ n.split.value c.index.result.now in
    let some = some_rows (vec_len c.index.result.now) c.if-is_empty.ensures in
    let leaf : IsLeaf n.leaf = record { filled = omega (arith, some, ap vec_len same); fits = n.fits; roomy = n.roomy } in
    subst AreLeaves (sym n.split.whole) (leaves-append (take at leaves) (n.leaf ∷ drop (suc at) leaves) n.before (leaf, n.following))
