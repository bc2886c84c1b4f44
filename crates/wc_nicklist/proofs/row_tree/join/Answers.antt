use Rattle.std.proofs.Common.{◌≡◌, ◌+◌, ◌≤◌, ◌++◌, List, sym, ap, ◌∙◌, subst, arith}
use Rattle.std.specs.Prelude.{slice_index_or, slice_set, vec_len, vec_capacity}
use Rattle.wc_nicklist.specs.Tree.{Leaf, entries_in, AreLeaves, AreFewAt}
use Rattle.wc_nicklist.proofs.Joined.{fits_both, joined_leaves, joined_entries, next_value, without_split}
use Rattle.wc_nicklist.proofs.row_tree.join.Goals as goal

pub append-requires : goal.append-requires
append-requires c =
    let leaves = c.args.leaves.now.items in
    let at = c.args.at in
    let F : List Leaf → Type 0 = λ z. AreFewAt z at in
    let f : AreFewAt leaves at = subst F c.as_slice.ensures.value (c.are_few.ensures c.if-not-are_few.false) in
    let same : c.index_mut.result.now ≡ f.leaf = c.index_mut.ensures.value ∙ ap (λ z. slice_index_or z at c.index_mut.result.now) c.remove-next.ensures.items ∙ (without_split leaves at f).value c.index_mut.result.now in
    let next : c.remove-next.result ≡ f.next = c.remove-next.ensures.value ∙ next_value leaves at f c.remove-next.result in
    let room = fits_both leaves at f c.requires.leaves in
    omega (arith, room, ap vec_len same, ap vec_capacity same, ap vec_len next)

pub returns-clause-entries : goal.returns-clause-entries
returns-clause-entries c =
    let leaves = c.args.leaves.now.items in
    let at = c.args.at in
    let F : List Leaf → Type 0 = λ z. AreFewAt z at in
    let f : AreFewAt leaves at = subst F c.as_slice.ensures.value (c.are_few.ensures c.if-not-are_few.false) in
    let same : c.index_mut.result.now ≡ f.leaf = c.index_mut.ensures.value ∙ ap (λ z. slice_index_or z at c.index_mut.result.now) c.remove-next.ensures.items ∙ (without_split leaves at f).value c.index_mut.result.now in
    let next : c.remove-next.result ≡ f.next = c.remove-next.ensures.value ∙ next_value leaves at f c.remove-next.result in
    let items : c.append.new.self.items ≡ f.leaf.items ++ f.next.items = c.append.ensures.items ∙ (λ i. (same i).items ++ (next i).items) in
    ap (λ z. entries_in (slice_set z at c.append.new.self)) c.remove-next.ensures.items ∙ joined_entries leaves at f c.append.new.self items

pub returns-clause-leaves : goal.returns-clause-leaves
returns-clause-leaves c =
    let leaves = c.args.leaves.now.items in
    let at = c.args.at in
    let F : List Leaf → Type 0 = λ z. AreFewAt z at in
    let f : AreFewAt leaves at = subst F c.as_slice.ensures.value (c.are_few.ensures c.if-not-are_few.false) in
    let same : c.index_mut.result.now ≡ f.leaf = c.index_mut.ensures.value ∙ ap (λ z. slice_index_or z at c.index_mut.result.now) c.remove-next.ensures.items ∙ (without_split leaves at f).value c.index_mut.result.now in
    let next : c.remove-next.result ≡ f.next = c.remove-next.ensures.value ∙ next_value leaves at f c.remove-next.result in
    let len : vec_len c.append.new.self ≡ vec_len f.leaf + vec_len f.next = omega (arith, c.append.ensures.len, ap vec_len same, ap vec_len next) in
    let capacity : vec_capacity f.leaf ≤ vec_capacity c.append.new.self = omega (arith, c.append.ensures.capacity, ap vec_capacity same) in
    let A : List Leaf → Type 0 = λ z. AreLeaves (slice_set z at c.append.new.self) in
    subst A (sym c.remove-next.ensures.items) (joined_leaves leaves at f c.append.new.self c.requires.leaves len capacity)
