-- Edits of rows that a nicklist can hold leave such rows.
use Rattle.std.proofs.Common.{◌≡◌, ℕ, ◌<◌, ◌≤◌, Bool, true, false, ◌&&◌, ◌||◌, Option, Some, None, List, [], ◌∷◌, ◌++◌, ◌⊎◌, length, refl, sym, ap, ◌∙◌, subst, inl, inr}
use Rattle.std.proofs.lemmas.Bool.{true≢false}
use Rattle.wc_nicklist.specs.declared.item.Item.{Item}
use Rattle.wc_nicklist.specs.declared.item.Key.{Key}
use Rattle.wc_nicklist.specs.declared.item.Row.{Row}
use Rattle.wc_nicklist.specs.Order.{key, key_at, group_key}
use Rattle.wc_nicklist.specs.Rows.{key_eq, path_eq, find_row, insert_row, remove_row, replace_row, changed_row, root_name, is_root, last_or, parent_of, below, below_row, path_below, has_child, TextsAreUtf8, IsListedRow, IsRows}
use Rattle.wc_nicklist.specs.Calls.{row_under}
use Rattle.wc_nicklist.proofs.OrderLaws.{by_bool, bytes_true, key_eq-true, path_eq-same}
use Rattle.wc_nicklist.proofs.RowLaws.{find_key, find-insert, find-remove, find-replace, keyed-insert, keyed-remove, keyed-replace, ascending-insert, ascending-remove, ascending-replace}

last_or-push : (d : List ℕ) (xs : List (List ℕ)) (x : List ℕ) → last_or d (xs ++ x ∷ []) ≡ x
last_or-push d [] x = refl
last_or-push d (y ∷ ys) x = last_or-push y ys x

pub by_row : (o : Option Row) (P : Type 0) → (o ≡ None → P) → ((r : Row) → o ≡ Some r → P) → P
by_row None P at_none at_some = at_none refl
by_row (Some r) P at_none at_some = at_some r refl

-- a path is the one below a group, whose name is its last
pub path_below-parent : (p : List ℕ) (rows : List Row) (q : List (List ℕ)) → path_below p rows ≡ Some q → last_or root_name q ≡ p
unfolding path_below
path_below-parent p rows q e = by_bool (is_root p) _
    (λ t. let i : Some [] ≡ Some q = rw t at e in let j : [] ≡ q = cc in ap (last_or root_name) (sym j) ∙ sym (bytes_true p root_name t))
    (λ t. by_row (find_row (group_key p) rows) _
    (λ n. absurd (let i : None ≡ Some q = rw (t, n) at e in cc))
    (λ g n.
    let i : Some (below g) ≡ Some q = rw (t, n) at e in
    let j : below g ≡ q = cc in
    ap (last_or root_name) (sym j) ∙ last_or-push root_name g.path g.item.name ∙ ap (λ k. k.name) (find_key (group_key p) rows g n)))

-- a group that is found again with its path gives the same path
pub path_below-same : (p : List ℕ) (old new : List Row) (q : List (List ℕ)) → (is_root p ≡ false → (g : Row) → find_row (group_key p) old ≡ Some g → below_row (find_row (group_key p) new) ≡ Some (below g)) → path_below p old ≡ Some q → path_below p new ≡ Some q
unfolding path_below
path_below-same p old new q h e = by_bool (is_root p) _
    (λ t. rw t (let i : Some [] ≡ Some q = rw t at e in i))
    (λ t. rw t (by_row (find_row (group_key p) old) _
    (λ n. absurd (let i : None ≡ Some q = rw (t, n) at e in cc))
    (λ g n. h t g n ∙ (let i : Some (below g) ≡ Some q = rw (t, n) at e in i))))

path_below-insert : (p : List ℕ) (r : Row) (rows : List Row) (q : List (List ℕ)) → find_row (key r) rows ≡ None → path_below p rows ≡ Some q → path_below p (insert_row r rows) ≡ Some q
path_below-insert p r rows q a e = path_below-same p rows (insert_row r rows) q
    (λ n g f. ap below_row (find-insert r (group_key p) rows a) ∙ by_bool (key_eq (key r) (group_key p)) _
    (λ t. absurd (let i : None ≡ Some g = sym (ap (λ k. find_row k rows) (sym (key_eq-true _ _ t)) ∙ a) ∙ f in cc))
    (λ t. rw t (ap below_row f)))
    e

-- the row that is added
pub held-insert : (rows : List Row) (g : Bool) (parent : List ℕ) (path : List (List ℕ)) (i : Item) → IsRows rows → path_below parent rows ≡ Some path → find_row (key_at g i.name) rows ≡ None → (0 < length i.name) × (length i.name ≤ 64) → (g && is_root i.name) ≡ false → TextsAreUtf8 i → IsRows (insert_row (row_under g path i) rows)
held-insert rows g parent path i ok e a named no_root utf8 =
    let r = row_under g path i in
    let new = insert_row r rows in
    record {
      ascending = ascending-insert r rows a ok.ascending;
      keyed = keyed-insert r rows a ok.keyed;
      held = λ k x f.
          let d = sym (find-insert r k rows a) ∙ f in
          by_bool (key_eq (key r) k) _
          (λ t.
          let j : Some r ≡ Some x = rw t at d in
          let same : r ≡ x = cc in
          subst (IsListedRow new) same (record {
            parent = path_below-insert (parent_of r) r rows path a (ap (λ p. path_below p rows) (path_below-parent parent rows path e) ∙ e);
            level = refl;
            named = named;
            no_root = no_root;
            utf8 = record { name = utf8.name; color = utf8.color; prefix = utf8.prefix; prefix_color = utf8.prefix_color };
          }))
          (λ t.
          let h = ok.held k x (rw t at d) in
          record {
            parent = path_below-insert (parent_of x) r rows x.path a h.parent;
            level = h.level;
            named = h.named;
            no_root = h.no_root;
            utf8 = h.utf8;
          });
    }

-- a row that is below a path
no_child : (path : List (List ℕ)) (rows : List Row) (k : Key) (x : Row) → has_child path rows ≡ false → find_row k rows ≡ Some x → x.path ≡ path → ⊥
no_child path [] k x h e i = cc
no_child path (y ∷ ys) k x h e i = by_bool (key_eq (key y) k) _
    (λ t.
    let j : Some y ≡ Some x = rw t at e in
    let same : y ≡ x = cc in
    let u : path_eq y.path path ≡ true = ap (λ z. path_eq z path) (ap (λ r. r.path) same ∙ i) ∙ path_eq-same path in
    true≢false (let l = h in rw u at l))
    (λ t. no_child path ys k x (or_right (path_eq y.path path) _ h) (rw t at e) i)
  where
    or_right : (a b : Bool) → a || b ≡ false → b ≡ false
    or_right true b e = absurd (true≢false e)
    or_right false b e = e

below_found : (p : List ℕ) (rows : List Row) (q : List (List ℕ)) (g : Row) → path_below p rows ≡ Some q → is_root p ≡ false → find_row (group_key p) rows ≡ Some g → below g ≡ q
unfolding path_below
below_found p rows q g e n f = let i : Some (below g) ≡ Some q = rw (n, f) at e in cc

-- a path is the root's, or the one below a group
pub parent_found : (p : List ℕ) (rows : List Row) (q : List (List ℕ)) → path_below p rows ≡ Some q → (q ≡ []) ⊎ ((g : Row) × (find_row (group_key p) rows ≡ Some g) × (below g ≡ q))
unfolding path_below
parent_found p rows q e = by_bool (is_root p) _
    (λ t. let i : Some [] ≡ Some q = rw t at e in let j : [] ≡ q = cc in inl (sym j))
    (λ t. by_row (find_row (group_key p) rows) _
    (λ n. absurd (let i : None ≡ Some q = rw (t, n) at e in cc))
    (λ g n. let i : Some (below g) ≡ Some q = rw (t, n) at e in let j : below g ≡ q = cc in inr (g, n, j)))

-- the row that is removed, which has no children
pub held-remove : (rows : List Row) (k : Key) (r : Row) → IsRows rows → find_row k rows ≡ Some r → (r.item.is_group ≡ true → has_child (below r) rows ≡ false) → IsRows (remove_row k rows)
held-remove rows k r ok e childless = record {
  ascending = ascending-remove k rows ok.ascending;
  keyed = keyed-remove k rows ok.keyed;
  held = λ q x f.
      let d = sym (find-remove k q rows) ∙ f in
      by_bool (key_eq k q) _
      (λ t. absurd (let j : None ≡ Some x = rw t at d in cc))
      (λ t. kept q x (rw t at d));
}
  where
    kept : (q : Key) (x : Row) → find_row q rows ≡ Some x → IsListedRow (remove_row k rows) x
    kept q x there =
        let h = ok.held q x there in
        record {
          parent = path_below-same (parent_of x) rows (remove_row k rows) x.path (λ n g f. by_bool (key_eq k (group_key (parent_of x))) _
              (λ u.
              let same : Some r ≡ Some g = sym e ∙ ap (λ z. find_row z rows) (key_eq-true _ _ u) ∙ f in
              let one : r ≡ g = cc in
              let group : r.item.is_group ≡ true = ap (λ z. z.is_group) (find_key k rows r e ∙ key_eq-true _ _ u) in
              absurd (no_child (below r) rows q x (childless group) there (sym (below_found (parent_of x) rows x.path g h.parent n f) ∙ ap below (sym one))))
              (λ u. ap below_row (find-remove k (group_key (parent_of x)) rows) ∙ rw u (ap below_row f))) h.parent;
          level = h.level;
          named = h.named;
          no_root = h.no_root;
          utf8 = h.utf8;
        }

-- the row that is changed
pub held-change : (rows : List Row) (k : Key) (r : Row) (i : Item) → IsRows rows → find_row k rows ≡ Some r → TextsAreUtf8 i → IsRows (replace_row (changed_row r i) rows)
held-change rows k r i ok e utf8 = record {
  ascending = ascending-replace s r rows own refl ok.keyed ok.ascending;
  keyed = keyed-replace s rows ok.keyed;
  held = λ q x f.
      let d = sym (find-replace s r q rows own) ∙ f in
      by_bool (key_eq (key s) q) _
      (λ t.
      let j : Some s ≡ Some x = rw t at d in
      let same : s ≡ x = cc in
      let h = ok.held k r e in
      subst (IsListedRow new) same (record {
        parent = below_kept (parent_of r) r.path h.parent;
        level = h.level;
        named = h.named;
        no_root = h.no_root;
        utf8 = record { name = h.utf8.name; color = utf8.color; prefix = utf8.prefix; prefix_color = utf8.prefix_color };
      }))
      (λ t.
      let h = ok.held q x (rw t at d) in
      record {
        parent = below_kept (parent_of x) x.path h.parent;
        level = h.level;
        named = h.named;
        no_root = h.no_root;
        utf8 = h.utf8;
      });
}
  where
    s : Row
    s = changed_row r i

    new : List Row
    new = replace_row (changed_row r i) rows

    own : find_row (key (changed_row r i)) rows ≡ Some r
    own = ap (λ z. find_row z rows) (find_key k rows r e) ∙ e

    below_kept : (p : List ℕ) (q : List (List ℕ)) → path_below p rows ≡ Some q → path_below p (replace_row (changed_row r i) rows) ≡ Some q
    below_kept p q h = path_below-same p rows (replace_row (changed_row r i) rows) q
        (λ n g f. ap below_row (find-replace (changed_row r i) r (group_key p) rows own) ∙ by_bool (key_eq (key r) (group_key p)) _
        (λ u.
        let same : Some r ≡ Some g = sym own ∙ ap (λ z. find_row z rows) (key_eq-true _ _ u) ∙ f in
        let one : r ≡ g = cc in
        rw u (ap (λ z. Some (below z)) one))
        (λ u. rw u (ap below_row f)))
        h
