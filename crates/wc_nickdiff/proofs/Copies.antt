-- Rows that are added in their order, one by one.
use Rattle.std.proofs.Common.{◌≡◌, ℕ, true, false, Some, None, List, [], ◌∷◌, ◌++◌, refl, sym, ap, ◌∙◌, subst}
use Rattle.wc_nicklist.specs.declared.item.Row.{Row}
use Rattle.wc_nicklist.specs.Order.{key, group_key, before}
use Rattle.wc_nicklist.specs.Rows.{find_row, insert_row, is_root, below, below_row, parent_of, path_below, Ascending, IsRows, TextsAreUtf8}
use Rattle.wc_nicklist.specs.Calls.{add_row, add_under, row_under}
use Rattle.wc_nicklist.proofs.OrderLaws.{by_bool, before_below, before_one_way}
use Rattle.wc_nicklist.proofs.RowLaws.{find_key}
use Rattle.wc_nicklist.proofs.Held.{by_row, path_below-same}
use Rattle.wc_nickdiff.proofs.Split.{after_append, split_of}

-- a row after all others comes in after them
at_end : (a : List Row) (r : Row) (b : List Row) → Ascending (a ++ r ∷ b) → insert_row r a ≡ a ++ r ∷ []
at_end [] r b h = refl
at_end (x ∷ xs) r b h = let t : before r x ≡ false = before_one_way x r (after_append x r xs b h.0) in rw t (ap (λ l. x ∷ l) (at_end xs r b h.1))

pub below_found : (p : List ℕ) (rows : List Row) (q : List (List ℕ)) (g : Row) → path_below p rows ≡ Some q → is_root p ≡ false → find_row (group_key p) rows ≡ Some g → q ≡ below g
unfolding path_below
below_found p rows q g e n f = let i : Some (below g) ≡ Some q = rw (n, f) at e in cc

is_group : (p : List ℕ) (rows : List Row) (g : Row) → find_row (group_key p) rows ≡ Some g → g.item.is_group ≡ true
is_group p rows g f = ap (λ k. k.is_group) (find_key (group_key p) rows g f)

module _ (rows a : List Row) (r : Row) (b : List Row) (e : rows ≡ a ++ r ∷ b) (ok : IsRows rows) where
  -- its parent is there by then
  parent_there : path_below (parent_of r) a ≡ Some r.path
  parent_there =
      let s = split_of rows a r b e ok.ascending ok.keyed in
      let own = (ok.held (key r) r s.there).parent in
      path_below-same (parent_of r) rows a r.path
      (λ n g f. ap below_row (s.left (group_key (parent_of r)) g f (before_below g r (is_group (parent_of r) rows g f) (below_found (parent_of r) rows r.path g own n f))))
      own

  pub next_copied : add_row r.item.is_group (parent_of r) r.item a ≡ a ++ r ∷ []
  next_copied =
      let s = split_of rows a r b e ok.ascending ok.keyed in
      let level = (ok.held (key r) r s.there).level in
      let same : row_under r.item.is_group r.path r.item ≡ r = λ i. record r { item = record (r.item) { level = sym level i } } in
      ap (λ o. add_under r.item.is_group o r.item a) parent_there ∙ ap (λ x. insert_row x a) same ∙ at_end a r b (subst Ascending e ok.ascending)

  pub next_utf8 : TextsAreUtf8 r.item
  next_utf8 = (ok.held (key r) r (split_of rows a r b e ok.ascending ok.keyed).there).utf8
