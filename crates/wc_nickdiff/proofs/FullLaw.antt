-- A full list is read as the rows that it was made of, and a push gives the rows now.
use Rattle.std.proofs.Common.{◌≡◌, ℕ, ◌+◌, ◌-◌, true, false, Some, None, Ok, List, [], ◌∷◌, ◌++◌, ◌⊎◌, map, length, take, refl, sym, ap, ◌∙◌, arith, inl, inr, append_assoc}
use Rattle.std.specs.Prelude.{nat_lt}
use Rattle.std.proofs.lemmas.Bool.{true≢false, cond-true, cond-false}
use Rattle.std.proofs.lemmas.List.{take_at, take_all}
use Rattle.std.specs.declared.cmp.Ordering.TheVariants.{Less}
use Rattle.std.specs.Cmp.Lexicographic.{slice_cmp}
use Rattle.wc_text.specs.declared.names.Handle.{Handle}
use Rattle.wc_nicklist.specs.declared.item.Item.{Item}
use Rattle.wc_nicklist.specs.declared.item.Key.{Key}
use Rattle.wc_nicklist.specs.declared.item.Row.{Row}
use Rattle.wc_nicklist.specs.Order.{key, group_key, key_cmp, address, before}
use Rattle.wc_nicklist.specs.Rows.{key_eq, find_row, below, level_at, IsRows}
use Rattle.wc_nicklist.proofs.OrderLaws.{by_bool, key_eq-same, group_address, before_below, between, before_less, nick_below_group}
use Rattle.wc_nicklist.proofs.Held.{by_row}
use Rattle.wc_nickdiff.specs.declared.diff_item.DiffItem.{DiffItem}
use Rattle.wc_nickdiff.specs.Apply.{applied_all}
use Rattle.wc_nickdiff.specs.NickPush.{root_item, diff, push_of, nick_push, full_list}
use Rattle.wc_nickdiff.specs.PushLaw.{rows_from, rows_of, rows_after_push}
use Rattle.wc_nickdiff.proofs.PushLaw.{HasParent, Kept, kept, diff_law}
use Rattle.wc_nickdiff.proofs.Split.{IsSplit, split_of, find-append, one_row}

-- a list of group keys that begins with another
prefix_names : (xs ys : List (List ℕ)) (d : Key) (rest : List Key) → map group_key ys ≡ map group_key xs ++ d ∷ rest → (n : List ℕ) × (more : List (List ℕ)) × (ys ≡ xs ++ n ∷ more) × (d ≡ group_key n)
prefix_names [] [] d rest e = absurd cc
prefix_names [] (y ∷ ys) d rest e = (y, ys, refl, cc)
prefix_names (x ∷ xs) [] d rest e = absurd cc
prefix_names (x ∷ xs) (y ∷ ys) d rest e =
    let h : group_key y ≡ group_key x = cc in
    let i : y ≡ x = ap (λ (k : Key). k.name) h in
    let r = prefix_names xs ys d rest cc in
    (r.0, r.1, (λ j. i j ∷ r.2 j), r.3)

-- the last group before a place, and the path below it
pub record LastGroup (pre : List Row) (path : List (List ℕ)) : Type 0 where
  pub group : Row
  pub there : find_row (key group) pre ≡ Some group
  pub kind : group.item.is_group ≡ true
  pub path_is : path ≡ below group
  pub others : (k : Key) (x : Row) → find_row k pre ≡ Some x → x.item.is_group ≡ true → (x ≡ group) ⊎ (before x group ≡ true)

abbrev Context : List Row → List (List ℕ) → Type 0
Context pre path = ((path ≡ []) × ((k : Key) (x : Row) → find_row k pre ≡ Some x → x.item.is_group ≡ true → ⊥)) ⊎ LastGroup pre path

filled_less : (xs : List (List ℕ)) (n : List ℕ) → slice_cmp key_cmp [] (map group_key (xs ++ n ∷ [])) ≡ Less
filled_less [] n = refl
filled_less (x ∷ xs) n = refl

-- a group between a row's parent and the row is below that parent
under_parent : (g r : Row) → g.item.is_group ≡ true → slice_cmp key_cmp (map group_key r.path) (address g) ≡ Less → before g r ≡ true → (n : List ℕ) × (more : List (List ℕ)) × (below g ≡ r.path ++ n ∷ more) × (key_cmp (group_key n) (key r) ≡ Less)
under_parent g r gg e gb =
    let b = between (map group_key r.path) (address g) (key r) e (before_less g r gb) in
    let c = prefix_names r.path (below g) b.0 b.1 (sym (group_address g gg) ∙ b.2) in
    (c.0, c.1, c.2, ap (λ z. key_cmp z (key r)) (sym c.3) ∙ b.3)

from_parent : (p g r : Row) → p.item.is_group ≡ true → r.path ≡ below p → before p g ≡ true → slice_cmp key_cmp (map group_key r.path) (address g) ≡ Less
from_parent p g r pg rp pb = ap (λ z. slice_cmp key_cmp z (address g)) (sym (group_address p pg ∙ ap (map group_key) (sym rp))) ∙ before_less p g pb

from_root : (g r : Row) → g.item.is_group ≡ true → r.path ≡ [] → slice_cmp key_cmp (map group_key r.path) (address g) ≡ Less
from_root g r gg e = ap (λ z. slice_cmp key_cmp (map group_key z) (address g)) e ∙ ap (slice_cmp key_cmp []) (group_address g gg) ∙ filled_less g.path g.item.name

module _ (rows : List Row) (ok : Kept rows) where
  -- the next row: a nick is below the last group, and a group's path is a front of that
  nick_path : (pre : List Row) (r : Row) (post : List Row) (path : List (List ℕ)) → rows ≡ pre ++ r ∷ post → Context pre path → r.item.is_group ≡ false → r.path ≡ path
  nick_path pre r post path e ctx nick =
      let s = split_of rows pre r post e ok.ascending ok.keyed in
      go s ctx (ok.parents (key r) r s.there)
    where
      wrong : (g : LastGroup pre path) → IsSplit rows pre r post → slice_cmp key_cmp (map group_key r.path) (address g.group) ≡ Less → r.path ≡ path
      wrong g s l = let u = under_parent g.group r g.kind l (s.left_before (key g.group) g.group g.there) in absurd (nick_below_group (group_key u.0) (key r) refl nick u.3)

      go : IsSplit rows pre r post → Context pre path → HasParent rows r → r.path ≡ path
      go s (inl c) (inl h) = h ∙ sym c.0
      go s (inl c) (inr p) = absurd (c.1 (key p.0) p.0 (s.left (key p.0) p.0 p.1 (before_below p.0 r p.2 p.3)) p.2)
      go s (inr g) (inl h) = wrong g s (from_root g.group r g.kind h)
      go s (inr g) (inr p) =
          elim (g.others (key p.0) p.0 (s.left (key p.0) p.0 p.1 (before_below p.0 r p.2 p.3)) p.2) [
            | inl same ↦ p.3 ∙ ap below same ∙ sym g.path_is
            | inr b ↦ wrong g s (from_parent p.0 g.group r p.2 p.3 b)
          ]

  group_path : (pre : List Row) (r : Row) (post : List Row) (path : List (List ℕ)) → rows ≡ pre ++ r ∷ post → Context pre path → take (length r.path) path ≡ r.path
  group_path pre r post path e ctx =
      let s = split_of rows pre r post e ok.ascending ok.keyed in
      go s ctx (ok.parents (key r) r s.there)
    where
      front : (g : LastGroup pre path) → IsSplit rows pre r post → slice_cmp key_cmp (map group_key r.path) (address g.group) ≡ Less → take (length r.path) path ≡ r.path
      front g s l = let u = under_parent g.group r g.kind l (s.left_before (key g.group) g.group g.there) in ap (take (length r.path)) (g.path_is ∙ u.2) ∙ take_at r.path (u.0 ∷ u.1) (length r.path) refl

      go : IsSplit rows pre r post → Context pre path → HasParent rows r → take (length r.path) path ≡ r.path
      go s c (inl h) = ap (λ z. take (length z) path) h ∙ sym h
      go s (inl c) (inr p) = absurd (c.1 (key p.0) p.0 (s.left (key p.0) p.0 p.1 (before_below p.0 r p.2 p.3)) p.2)
      go s (inr g) (inr p) =
          elim (g.others (key p.0) p.0 (s.left (key p.0) p.0 p.1 (before_below p.0 r p.2 p.3)) p.2) [
            | inl same ↦ take_all (length r.path) path (let i : path ≡ r.path = g.path_is ∙ ap below (sym same) ∙ sym p.3 in omega (arith, ap length i)) ∙ (g.path_is ∙ ap below (sym same) ∙ sym p.3)
            | inr b ↦ front g s (from_parent p.0 g.group r p.2 p.3 b)
          ]

  find_pushed : (pre : List Row) (r x : Row) (k : Key) → find_row k (pre ++ r ∷ []) ≡ Some x → (find_row k pre ≡ Some x) ⊎ (r ≡ x)
  find_pushed pre r x k e =
      let f = sym (find-append k pre (r ∷ [])) ∙ e in
      by_row (find_row k pre) _
      (λ n. by_bool (key_eq (key r) k) _
      (λ t. inr (one_row r x (let z = f in rw (n, t) at z)))
      (λ t. absurd (let z : None ≡ Some x = rw (n, t) at f in cc)))
      (λ y n. inl (n ∙ ap Some (one_row y x (let z = f in rw n at z))))

  after_nick : (pre : List Row) (r : Row) (path : List (List ℕ)) → Context pre path → r.item.is_group ≡ false → Context (pre ++ r ∷ []) path
  after_nick pre r path (inl c) nick = inl (c.0, λ k x e g. elim (find_pushed pre r x k e) [ inl i ↦ c.1 k x i g | inr i ↦ true≢false (sym g ∙ ap (λ (z : Row). z.item.is_group) (sym i) ∙ nick) ])
  after_nick pre r path (inr c) nick = inr (record {
    group = c.group;
    there = find-append (key c.group) pre (r ∷ []) ∙ rw c.there refl;
    kind = c.kind;
    path_is = c.path_is;
    others = λ k x e g. elim (find_pushed pre r x k e) [ inl i ↦ c.others k x i g | inr i ↦ absurd (true≢false (sym g ∙ ap (λ (z : Row). z.item.is_group) (sym i) ∙ nick)) ];
  })

  after_group : (pre : List Row) (r : Row) (post : List Row) → rows ≡ pre ++ r ∷ post → r.item.is_group ≡ true → Context (pre ++ r ∷ []) (below r)
  after_group pre r post e kind =
      let s = split_of rows pre r post e ok.ascending ok.keyed in
      inr (record {
        group = r;
        there = find-append (key r) pre (r ∷ []) ∙ rw (s.not_left, key_eq-same (key r)) refl;
        kind = kind;
        path_is = refl;
        others = λ k x e g. elim (find_pushed pre r x k e) [ inl i ↦ inr (s.left_before k x i) | inr i ↦ inl (sym i) ];
      })

  snoc : (pre : List Row) (r : Row) (post : List Row) → pre ++ r ∷ post ≡ (pre ++ r ∷ []) ++ post
  snoc pre r post = sym (append_assoc pre (r ∷ []) post)

  read_all : (pre post : List Row) (path : List (List ℕ)) → rows ≡ pre ++ post → Context pre path → rows_from path (map (λ x. x.item) post) ≡ post
  read_all pre [] path e ctx = refl
  read_all pre (r ∷ rest) path e ctx =
      let s = split_of rows pre r rest e ok.ascending ok.keyed in
      let level = (ok.good (key r) r s.there).level in
      by_bool r.item.is_group _
      (λ g.
      let n : r.item.level - 1 ≡ length r.path = ap (λ k. k - 1) (level ∙ ap (λ z. level_at z r.path) g) ∙ omega arith in
      let p : take (r.item.level - 1) path ≡ r.path = ap (λ k. take k path) n ∙ group_path pre r rest path e ctx in
      let more = read_all (pre ++ r ∷ []) rest (below r) (e ∙ snoc pre r rest) (after_group pre r rest e g) in
      cond-true r.item.is_group _ _ g ∙ (ap (λ z. record { path = z; item = r.item } ∷ rows_from (z ++ r.item.name ∷ []) (map (λ x. x.item) rest)) p ∙ ap (λ l. r ∷ l) more))
      (λ g.
      let p = nick_path pre r rest path e ctx g in
      let more = read_all (pre ++ r ∷ []) rest path (e ∙ snoc pre r rest) (after_nick pre r path ctx g) in
      cond-false r.item.is_group _ _ g ∙ (ap (λ z. record { path = z; item = r.item } ∷ rows_from path (map (λ x. x.item) rest)) (sym p) ∙ ap (λ l. r ∷ l) more))

-- The law of the full list.
pub full_law : (root : Item) (rows : List Row) → Kept rows → rows_of (full_list root rows) ≡ rows
full_law root rows ok = read_all rows ok [] rows [] refl (inl (refl, λ k x e g. absurd cc))

-- Folding the push of two lists of rows over the first gives the second.
pub push_law : (root : Handle) (told now : List Row) → IsRows told → IsRows now → rows_after_push (nick_push root told now) told ≡ Ok now
push_law root told now old new = go (diff (root_item root) told now) (diff_law (root_item root) told now refl (kept told old) (kept now new))
  where
    go : (ds : List DiffItem) → applied_all ds told ≡ Ok now → rows_after_push (push_of (root_item root) ds now) told ≡ Ok now
    go [] e = e
    go (d ∷ ds) e = by_bool (nat_lt (length (d ∷ ds)) (length now + 1)) _ (λ s. rw s e) (λ s. rw s (ap Ok (full_law (root_item root) now (kept now new))))
