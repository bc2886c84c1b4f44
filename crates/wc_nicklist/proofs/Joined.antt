-- Two leaves that are joined into one.
use Rattle.std.proofs.Common.{◌≡◌, ℕ, suc, ◌+◌, ◌≤◌, List, [], ◌∷◌, ◌++◌, length, take, drop, sym, ap, ◌∙◌, subst, arith, add-one, append_assoc, length-append}
use Rattle.std.specs.Prelude.{slice_index_or, slice_set, remove, vec_len, vec_capacity}
use Rattle.std.proofs.lemmas.List.{drop_at}
use Rattle.wc_nicklist.specs.Stored.{IsSplitAt}
use Rattle.wc_nicklist.specs.Tree.{Leaf, entries_in, IsLeaf, AreLeaves, AreFewAt}
use Rattle.wc_nicklist.proofs.Leaves.{entries_in-append, entries_at, leaves_left, leaves_right, leaves-append}
use Rattle.wc_nicklist.proofs.Places.{drop_of_get, split_at}
use Rattle.wc_nicklist.proofs.TreeLaws.{before_made, after_made, front_length}

module _ (leaves : List Leaf) (c : ℕ) (f : AreFewAt leaves c) where
  abbrev pub rest : List Leaf
  rest = drop (suc (suc c)) leaves

  pub first_split : IsSplitAt leaves c f.leaf (drop (suc c) leaves)
  first_split = split_at leaves c f.leaf (drop (suc c) leaves) (drop_of_get leaves c f.leaf f.got)

  next_first : drop (suc c) leaves ≡ f.next ∷ rest
  next_first = drop_of_get leaves (suc c) f.next f.next_got

  -- the leaves without the second
  without : remove leaves (c + 1) ≡ take c leaves ++ f.leaf ∷ rest
  without =
      let s = first_split in
      let pre = take c leaves ++ f.leaf ∷ [] in
      let len = front_length leaves c s.within in
      let one : leaves ≡ pre ++ f.next ∷ rest = s.whole ∙ ap (λ z. take c leaves ++ f.leaf ∷ z) next_first ∙ sym (append_assoc (take c leaves) (f.leaf ∷ []) (f.next ∷ rest)) in
      let more : length pre ≡ c + 1 = simp length-append (omega arith) in
      (λ i. before_made leaves pre (f.next ∷ rest) (c + 1) one more i ++ after_made leaves pre rest f.next (c + 1) one more i)
      ∙ append_assoc (take c leaves) (f.leaf ∷ []) rest

  pub without_split : IsSplitAt (remove leaves (c + 1)) c f.leaf rest
  without_split =
      let s = first_split in
      let len = front_length leaves c s.within in
      split_at (remove leaves (c + 1)) c f.leaf rest (ap (drop c) without ∙ drop_at (take c leaves) (f.leaf ∷ rest) c len)

  joined : (j : Leaf) → slice_set (remove leaves (c + 1)) c j ≡ take c leaves ++ j ∷ rest
  joined j =
      let s = first_split in
      let len = front_length leaves c s.within in
      without_split.written j ∙ ap (λ z. z ++ j ∷ rest) (before_made (remove leaves (c + 1)) (take c leaves) (f.leaf ∷ rest) c without len)

  pub joined_entries : (j : Leaf) → j.items ≡ f.leaf.items ++ f.next.items → entries_in (slice_set (remove leaves (c + 1)) c j) ≡ entries_in leaves
  joined_entries j e =
      ap entries_in (joined j) ∙ entries_in-append (take c leaves) (j ∷ rest)
      ∙ ap (λ z. entries_in (take c leaves) ++ (z ++ entries_in rest)) e
      ∙ ap (λ z. entries_in (take c leaves) ++ z) (append_assoc f.leaf.items f.next.items (entries_in rest))
      ∙ ap (λ z. entries_in (take c leaves) ++ (f.leaf.items ++ entries_in z)) (sym next_first)
      ∙ sym (entries_at leaves c f.leaf first_split)

  pub joined_leaves : (j : Leaf) → AreLeaves leaves → vec_len j ≡ vec_len f.leaf + vec_len f.next → vec_capacity f.leaf ≤ vec_capacity j → AreLeaves (slice_set (remove leaves (c + 1)) c j)
  joined_leaves j h len capacity =
      let parts = subst AreLeaves first_split.whole h in
      let both = leaves_right (take c leaves) (f.leaf ∷ drop (suc c) leaves) parts in
      let others = subst AreLeaves next_first both.1 in
      let filled = both.0.filled in
      let roomy = both.0.roomy in
      let few = f.few in
      let i : IsLeaf j = record { filled = omega (arith, filled, len); fits = omega (arith, few, len); roomy = omega (arith, roomy, capacity) } in
      subst AreLeaves (sym (joined j)) (leaves-append (take c leaves) (j ∷ rest) (leaves_left (take c leaves) (f.leaf ∷ drop (suc c) leaves) parts) (i, others.1))

  -- there is room for both
  pub fits_both : AreLeaves leaves → vec_len f.leaf + vec_len f.next ≤ vec_capacity f.leaf
  fits_both h =
      let roomy = (leaves_right (take c leaves) (f.leaf ∷ drop (suc c) leaves) (subst AreLeaves first_split.whole h)).0.roomy in
      let few = f.few in
      omega (arith, roomy, few)

  -- what is taken out is the second
  pub next_value : (d : Leaf) → slice_index_or leaves (c + 1) d ≡ f.next
  next_value d = ap (λ n. slice_index_or leaves n d) (add-one c) ∙ (split_at leaves (suc c) f.next rest (drop_of_get leaves (suc c) f.next f.next_got)).value d
