-- The push law: the diff of two lists of rows takes the first to the second, and no item of it is refused.
use Rattle.std.proofs.Common.{◌≡◌, ℕ, ◌+◌, Bool, true, false, cond, not, ◌&&◌, Option, Some, None, Ok, List, [], ◌∷◌, ◌++◌, ◌⊎◌, length, map, refl, sym, ap, ◌∙◌, inl, inr, ⊎_elim, subst, eq-eqb}
use Rattle.std.specs.Prelude.{bytes_eq, filter, reverse, is_some, if◌then◌else◌}
use Rattle.std.proofs.lemmas.Bool.{true≢false, false≢true, not-true, not-false, not_from_false, and_parts, eqb-true}
use Rattle.std.specs.Cmp.Lexicographic.{bytes_decides}
use Rattle.wc_nicklist.specs.declared.item.Item.{Item}
use Rattle.wc_nicklist.specs.declared.item.Key.{Key}
use Rattle.wc_nicklist.specs.declared.item.Row.{Row}
use Rattle.wc_nicklist.specs.Order.{key, group_key, before}
use Rattle.wc_nicklist.specs.Rows.{bool_eq, path_eq, find_row, Ascending, Keyed, root_name, is_root, last_or, parent_of, below, path_below, level_at, IsRows}
use Rattle.wc_nicklist.proofs.OrderLaws.{by_bool, path_eq-true, path_eq-same, path_eq-other, before_below, before_one_way}
use Rattle.wc_nicklist.proofs.RowLaws.{find_key, same_rows}
use Rattle.wc_nicklist.proofs.Held.{by_row, parent_found}
use Rattle.wc_nickdiff.specs.Apply.{applied_all}
use Rattle.wc_nickdiff.specs.declared.diff_item.Mark.TheVariants.{Removed, Added, Changed}
use Rattle.wc_nickdiff.specs.NickPush.{item_eq, stays, differs, change_list, is_group, is_nick, outs, ins, changed_rows, op, item_or, group_item, ops, diff}
use Rattle.wc_nickdiff.proofs.Steps.{Runs, runs-append, with_parents_run, Found, Holds, path_under, Good, Stands, AllReady, phase, after_all, ready_at_each, found_removed, found_added, found_changed}
use Rattle.wc_nickdiff.proofs.Split.{or_row, split_of, find-filter, keyed-filter, ascending-filter, keep_some, reverse_split, is_some-reverse, one_row, no_row}

bool_eq-true : (a b : Bool) → bool_eq a b ≡ true → a ≡ b
bool_eq-true true true e = refl
bool_eq-true true false e = absurd (false≢true e)
bool_eq-true false true e = absurd (false≢true e)
bool_eq-true false false e = refl

pub item_eq-true : (a b : Item) → item_eq a b ≡ true → a ≡ b
unfolding item_eq
item_eq-true a b e =
    let p7 = and_parts _ _ e in
    let p6 = and_parts _ _ p7.0 in
    let p5 = and_parts _ _ p6.0 in
    let p4 = and_parts _ _ p5.0 in
    let p3 = and_parts _ _ p4.0 in
    let p2 = and_parts _ _ p3.0 in
    let p1 = and_parts _ _ p2.0 in
    let h : a.handle.0 ≡ b.handle.0 = eqb-true a.handle.0 b.handle.0 p1.0 in
    let g : a.is_group ≡ b.is_group = bool_eq-true a.is_group b.is_group p1.1 in
    let v : a.visible ≡ b.visible = bool_eq-true a.visible b.visible p2.1 in
    let l : a.level ≡ b.level = eqb-true a.level b.level p3.1 in
    let n : a.name ≡ b.name = (bytes_decides a.name b.name).0 p4.1 in
    let c : a.color ≡ b.color = (bytes_decides a.color b.color).0 p5.1 in
    let x : a.prefix ≡ b.prefix = (bytes_decides a.prefix b.prefix).0 p6.1 in
    let y : a.prefix_color ≡ b.prefix_color = (bytes_decides a.prefix_color b.prefix_color).0 p7.1 in
    λ i. record { handle = record { 0 = h i }; is_group = g i; visible = v i; level = l i; name = n i; color = c i; prefix = x i; prefix_color = y i }

bool_eq-same : (a : Bool) → bool_eq a a ≡ true
bool_eq-same true = refl
bool_eq-same false = refl

bytes_same : (a : List ℕ) → bytes_eq a a ≡ true
bytes_same a = (bytes_decides a a).1 refl

pub item_eq-same : (a : Item) → item_eq a a ≡ true
unfolding item_eq
item_eq-same a =
    rw (eq-eqb a.handle.0 a.handle.0 refl, bool_eq-same a.is_group, bool_eq-same a.visible, eq-eqb a.level a.level refl, bytes_same a.name, bytes_same a.color, bytes_same a.prefix, bytes_same a.prefix_color) refl

-- the row is the root's, or a group of these rows is its parent
abbrev pub HasParent : List Row → Row → Type 0
HasParent rows r = (r.path ≡ []) ⊎ ((g : Row) × (find_row (key g) rows ≡ Some g) × (g.item.is_group ≡ true) × (r.path ≡ below g))

-- what is used of rows that a nicklist can hold
pub record Kept (rows : List Row) : Type 0 where
  pub ascending : Ascending rows
  pub keyed : Keyed rows
  pub parents : (k : Key) (r : Row) → find_row k rows ≡ Some r → HasParent rows r
  pub no_root : (k : Key) (r : Row) → find_row k rows ≡ Some r → r.item.is_group ≡ true → is_root r.item.name ≡ false
  pub good : (k : Key) (r : Row) → find_row k rows ≡ Some r → Good r

not_and : (g b : Bool) → (g && b) ≡ false → g ≡ true → b ≡ false
not_and true b e t = e
not_and false b e t = absurd (false≢true t)

pub kept : (rows : List Row) → IsRows rows → Kept rows
kept rows ok = record {
  ascending = ok.ascending;
  keyed = ok.keyed;
  parents = λ k r e. elim (parent_found (parent_of r) rows r.path (ok.held k r e).parent) [
    | inl i ↦ inl i
    | inr x ↦ inr (x.0, ap (λ q. find_row q rows) (find_key (group_key (parent_of r)) rows x.0 x.1) ∙ x.1, ap (λ (q : Key). q.is_group) (find_key (group_key (parent_of r)) rows x.0 x.1), sym x.2)
  ];
  no_root = λ k r e g. not_and r.item.is_group (is_root r.item.name) (ok.held k r e).no_root g;
  good = λ k r e. let h = ok.held k r e in record { level = h.level; named = h.named; no_root = h.no_root };
}

same_level : (a b : Row) → Good a → Good b → a.path ≡ b.path → key a ≡ key b → a.item.level ≡ b.item.level
same_level a b x y p k = x.level ∙ (λ i. level_at ((k i).is_group) (p i)) ∙ sym y.level

-- paths with one more name
last_push : (d : List ℕ) (xs : List (List ℕ)) (n : List ℕ) → last_or d (xs ++ n ∷ []) ≡ n
last_push d [] n = refl
last_push d (x ∷ xs) n = last_push x xs n

not_empty : {P : Type 0} (xs : List (List ℕ)) (n : List ℕ) → xs ++ n ∷ [] ≡ [] → P
not_empty [] n e = absurd cc
not_empty (x ∷ xs) n e = absurd cc

same_front : (xs ys : List (List ℕ)) (m n : List ℕ) → xs ++ m ∷ [] ≡ ys ++ n ∷ [] → (xs ≡ ys) × (m ≡ n)
same_front [] [] m n e = (refl, cc)
same_front [] (y ∷ ys) m n e = not_empty ys n (let i : [] ≡ ys ++ n ∷ [] = cc in sym i)
same_front (x ∷ xs) [] m n e = not_empty xs m cc
same_front (x ∷ xs) (y ∷ ys) m n e =
    let r = same_front xs ys m n cc in
    let h : x ≡ y = cc in
    (λ i. h i ∷ r.0 i, r.1)

key-group : (g : Row) → g.item.is_group ≡ true → key g ≡ group_key g.item.name
key-group g e = λ i. record { is_group = e i; name = g.item.name }

-- a parent that is found gives the path
under_root : (r : Row) (f : Found) → r.path ≡ [] → path_under (parent_of r) f ≡ Some r.path
under_root r f e =
    let n : parent_of r ≡ root_name = ap (last_or root_name) e in
    ap (λ z. path_under z f) n ∙ ap Some (sym e)

under_group : (r g : Row) (f : Found) → g.item.is_group ≡ true → is_root g.item.name ≡ false → r.path ≡ below g → Stands f g → path_under (parent_of r) f ≡ Some r.path
under_group r g f e nr p s =
    let n : parent_of r ≡ g.item.name = ap (last_or root_name) p ∙ last_push root_name g.path g.item.name in
    let there : f (group_key g.item.name) ≡ Some s.row = ap f (sym (key-group g e)) ∙ s.there in
    let same : s.row.item.name ≡ g.item.name = ap (λ (k : Key). k.name) s.same in
    ap (λ z. path_under z f) n ∙ rw (nr, there) (ap Some ((λ i. s.path i ++ same i ∷ []) ∙ sym p))

-- the name of the parent's item
named_root : (root : Item) (src : List Row) (r : Row) → root.name ≡ root_name → r.path ≡ [] → (group_item root (λ k. find_row k src) (parent_of r)).name ≡ parent_of r
named_root root src r rn e =
    let n : parent_of r ≡ root_name = ap (last_or root_name) e in
    ap (λ z. (group_item root (λ k. find_row k src) z).name) n ∙ rn ∙ sym n

named_group : (root : Item) (src : List Row) (r g : Row) → g.item.is_group ≡ true → is_root g.item.name ≡ false → r.path ≡ below g → find_row (key g) src ≡ Some g → (group_item root (λ k. find_row k src) (parent_of r)).name ≡ parent_of r
named_group root src r g e nr p there =
    let n : parent_of r ≡ g.item.name = ap (last_or root_name) p ∙ last_push root_name g.path g.item.name in
    let at : find_row (group_key g.item.name) src ≡ Some g = ap (λ z. find_row z src) (sym (key-group g e)) ∙ there in
    ap (λ z. (group_item root (λ k. find_row k src) z).name) n ∙ rw (nr, at) (sym n)

-- what is in other rows
abbrev pub stays_in : List Row → Row → Bool
stays_in now r = stays (Some r) (find_row (key r) now)

abbrev pub stood_in : List Row → Row → Bool
stood_in told r = stays (find_row (key r) told) (Some r)

stays_there : (rows : List Row) (r s : Row) → find_row (key r) rows ≡ Some s → s.path ≡ r.path → stays_in rows r ≡ true
stays_there rows r s e p = rw e (ap (path_eq r.path) p ∙ path_eq-same r.path)

stood_there : (rows : List Row) (r s : Row) → find_row (key r) rows ≡ Some s → s.path ≡ r.path → stood_in rows r ≡ true
stood_there rows r s e p = rw e (ap (λ z. path_eq z r.path) p ∙ path_eq-same r.path)

stays_row : (rows : List Row) (r : Row) → stays_in rows r ≡ true → (s : Row) × (find_row (key r) rows ≡ Some s) × (s.path ≡ r.path)
stays_row rows r e = go (find_row (key r) rows) e
  where
    go : (o : Option Row) → stays (Some r) o ≡ true → (s : Row) × (o ≡ Some s) × (s.path ≡ r.path)
    go None e = absurd (false≢true e)
    go (Some s) e = (s, refl, sym (path_eq-true r.path s.path e))

stood_row : (rows : List Row) (r : Row) → stood_in rows r ≡ true → (s : Row) × (find_row (key r) rows ≡ Some s) × (s.path ≡ r.path)
stood_row rows r e = go (find_row (key r) rows) e
  where
    go : (o : Option Row) → stays o (Some r) ≡ true → (s : Row) × (o ≡ Some s) × (s.path ≡ r.path)
    go None e = absurd (false≢true e)
    go (Some s) e = (s, refl, path_eq-true s.path r.path e)

-- a row that is as it was told
same_items : (u r : Row) (o : Option Row) → o ≡ Some u → stays o (Some r) ≡ true → change_list o (Some r) ≡ false → item_eq u.item r.item ≡ true
same_items u r o e z d =
    let w : (true && not (item_eq u.item r.item)) ≡ false = ap (λ b. b && not (item_eq u.item r.item)) (sym (ap (λ q. stays q (Some r)) (sym e) ∙ z)) ∙ ap (λ q. change_list q (Some r)) (sym e) ∙ d in
    not-false _ w

module _ (root : Item) (told now : List Row) (root_named : root.name ≡ root_name) (old : Kept told) (new : Kept now) where
  abbrev t : Found
  t q = find_row q told

  abbrev n : Found
  n q = find_row q now

  abbrev out_nicks : List Row
  out_nicks = filter is_nick (outs told now)

  abbrev out_groups : List Row
  out_groups = filter is_group (outs told now)

  abbrev in_nicks : List Row
  in_nicks = filter is_nick (ins told now)

  abbrev in_groups : List Row
  in_groups = filter is_group (ins told now)

  outs_keyed : Keyed (outs told now)
  outs_keyed = keyed-filter _ told old.keyed

  ins_keyed : Keyed (ins told now)
  ins_keyed = keyed-filter _ now new.keyed

  outs_ascending : Ascending (outs told now)
  outs_ascending = ascending-filter _ told old.ascending

  ins_ascending : Ascending (ins told now)
  ins_ascending = ascending-filter _ now new.ascending

  -- a row of the outs: it was, it is not now
  out_parts : (q : Key) (r : Row) → find_row q (outs told now) ≡ Some r → (find_row q told ≡ Some r) × (stays_in now r ≡ false)
  out_parts q r e = let k = keep_some _ _ r (sym (find-filter (λ x. not (stays_in now x)) q told old.keyed) ∙ e) in (k.0, not-true _ k.1)

  in_parts : (q : Key) (r : Row) → find_row q (ins told now) ≡ Some r → (find_row q now ≡ Some r) × (stood_in told r ≡ false)
  in_parts q r e = let k = keep_some _ _ r (sym (find-filter (λ x. not (stood_in told x)) q now new.keyed) ∙ e) in (k.0, not-true _ k.1)

  -- and the other way
  out_there : (q : Key) (r : Row) → find_row q told ≡ Some r → stays_in now r ≡ false → find_row q (outs told now) ≡ Some r
  out_there q r e s = find-filter (λ x. not (stays_in now x)) q told old.keyed ∙ rw (e, s) refl

  in_there : (q : Key) (r : Row) → find_row q now ≡ Some r → stood_in told r ≡ false → find_row q (ins told now) ≡ Some r
  in_there q r e s = find-filter (λ x. not (stood_in told x)) q now new.keyed ∙ rw (e, s) refl

  part : (p : Row → Bool) (rows : List Row) (q : Key) (r : Row) → Keyed rows → find_row q (filter p rows) ≡ Some r → (find_row q rows ≡ Some r) × (p r ≡ true)
  part p rows q r kd e = keep_some p _ r (sym (find-filter p q rows kd) ∙ e)

  part_there : (p : Row → Bool) (rows : List Row) (q : Key) (r : Row) → Keyed rows → find_row q rows ≡ Some r → p r ≡ true → find_row q (filter p rows) ≡ Some r
  part_there p rows q r kd e s = find-filter p q rows kd ∙ rw (e, s) refl

  -- a key's kind is that of its row
  kind_of : (rows : List Row) (q : Key) (r : Row) → find_row q rows ≡ Some r → r.item.is_group ≡ q.is_group
  kind_of rows q r e = ap (λ (k : Key). k.is_group) (find_key q rows r e)

  no_group_in_nicks : (rows : List Row) (q : Key) → Keyed rows → q.is_group ≡ true → find_row q (filter is_nick rows) ≡ None
  no_group_in_nicks rows q kd g = by_row (find_row q (filter is_nick rows)) _ (λ e. e)
      (λ r e. let p = part is_nick rows q r kd e in absurd (true≢false (sym (kind_of rows q r p.0 ∙ g) ∙ not-true _ p.1)))

  no_nick_in_groups : (rows : List Row) (q : Key) → Keyed rows → q.is_group ≡ false → find_row q (filter is_group rows) ≡ None
  no_nick_in_groups rows q kd g = by_row (find_row q (filter is_group rows)) _ (λ e. e)
      (λ r e. let p = part is_group rows q r kd e in absurd (true≢false (sym p.1 ∙ kind_of rows q r p.0 ∙ g)))

  -- the states between the phases
  abbrev f1 : Found
  f1 = after_all t Removed out_nicks

  abbrev f2 : Found
  f2 = after_all f1 Removed (reverse out_groups)

  abbrev f3 : Found
  f3 = after_all f2 Added in_groups

  abbrev f4 : Found
  f4 = after_all f3 Added in_nicks

  abbrev f5 : Found
  f5 = after_all f4 Changed (changed_rows told now)

  -- under a parent of these rows
  parent_ready : (src : List Row) (g : Found) (r : Row) → Kept src → HasParent src r → ((p : Row) → find_row (key p) src ≡ Some p → p.item.is_group ≡ true → r.path ≡ p.path ++ p.item.name ∷ [] → Stands g p) → ((group_item root (λ k. find_row k src) (parent_of r)).name ≡ parent_of r) × (path_under (parent_of r) g ≡ Some r.path)
  parent_ready src g r ok (inl e) h = (named_root root src r root_named e, under_root r g e)
  parent_ready src g r ok (inr x) h =
      let nr = ok.no_root (key x.0) x.0 x.1 x.2 in
      (named_group root src r x.0 x.2 nr x.3 x.1, under_group r x.0 g x.2 nr x.3 (h x.0 x.1 x.2 x.3))

  f1_at : (q : Key) → f1 q ≡ cond (is_some (find_row q out_nicks)) None (t q)
  f1_at q = found_removed t out_nicks q

  f2_at : (q : Key) → f2 q ≡ cond (is_some (find_row q out_groups)) None (f1 q)
  f2_at q = found_removed f1 (reverse out_groups) q ∙ ap (λ b. cond b None (f1 q)) (is_some-reverse q out_groups)

  no_out : (p : Row → Bool) (q : Key) (r : Row) → t q ≡ Some r → stays_in now r ≡ true → find_row q (filter p (outs told now)) ≡ None
  no_out p q r e s = by_row (find_row q (filter p (outs told now))) _ (λ i. i)
      (λ x i. let o = out_parts q x (part p (outs told now) q x outs_keyed i).0 in
      let j : x ≡ r = one_row x r (sym o.0 ∙ e) in
      absurd (true≢false (sym s ∙ ap (stays_in now) (sym j) ∙ o.1)))

  no_in : (p : Row → Bool) (q : Key) (r : Row) → n q ≡ Some r → stood_in told r ≡ true → find_row q (filter p (ins told now)) ≡ None
  no_in p q r e s = by_row (find_row q (filter p (ins told now))) _ (λ i. i)
      (λ x i. let o = in_parts q x (part p (ins told now) q x ins_keyed i).0 in
      let j : x ≡ r = one_row x r (sym o.0 ∙ e) in
      absurd (true≢false (sym s ∙ ap (stood_in told) (sym j) ∙ o.1)))

  -- what is left once the outs are out
  f2_kept : (q : Key) (r : Row) → t q ≡ Some r → stays_in now r ≡ true → f2 q ≡ Some r
  f2_kept q r e s = f2_at q ∙ rw (no_out is_group q r e s) (f1_at q ∙ rw (no_out is_nick q r e s) e)

  f2_out : (q : Key) (r : Row) → t q ≡ Some r → stays_in now r ≡ false → f2 q ≡ None
  f2_out q r e s = let o = out_there q r e s in by_bool r.item.is_group _
      (λ g. f2_at q ∙ rw (part_there is_group _ q r outs_keyed o g) refl)
      (λ g. let i : f1 q ≡ None = f1_at q ∙ rw (part_there is_nick _ q r outs_keyed o (not_from_false _ g)) refl in
      f2_at q ∙ rw i (elim (is_some (find_row q out_groups)) as (λ b. cond {A = Option Row} b None None ≡ None) [ true ↦ refl | false ↦ refl ]))

  f2_none : (q : Key) → t q ≡ None → f2 q ≡ None
  f2_none q e =
      let i : f1 q ≡ None = f1_at q ∙ rw e (elim (is_some (find_row q out_nicks)) as (λ b. cond {A = Option Row} b None None ≡ None) [ true ↦ refl | false ↦ refl ]) in
      f2_at q ∙ rw i (elim (is_some (find_row q out_groups)) as (λ b. cond {A = Option Row} b None None ≡ None) [ true ↦ refl | false ↦ refl ])

  -- a group that is out has no row below it once those after it are out
  childless : (r : Row) → t (key r) ≡ Some r → stays_in now r ≡ false → r.item.is_group ≡ true → (b : List Row) → ((q : Key) (x : Row) → find_row q out_groups ≡ Some x → before r x ≡ true → find_row q b ≡ Some x)
      → (q : Key) (c : Row) → cond (is_some (find_row q b)) None (f1 q) ≡ Some c → c.path ≡ below r → ⊥
  childless r there gone gr b right q c z cp = by_row (find_row q b) _
      (λ i. by_row (find_row q out_nicks) _
      (λ j.
      let tq : t q ≡ Some c = (let y : f1 q ≡ Some c = rw i at z in let w : cond (is_some (find_row q out_nicks)) None (t q) ≡ Some c = sym (f1_at q) ∙ y in rw j at w) in
      by_bool (stays_in now c) _
      (λ s.
      let u = stays_row now c s in
      ⊎_elim
      (λ y. not_empty r.path r.item.name (sym (u.2 ∙ cp) ∙ y))
      (λ y.
      let f = same_front y.0.path r.path y.0.item.name r.item.name (sym y.3 ∙ u.2 ∙ cp) in
      let k : key y.0 ≡ key r = λ i. record { is_group = (y.2 ∙ sym gr) i; name = f.1 i } in
      true≢false (sym (stays_there now r y.0 (ap (λ l. find_row l now) (sym k) ∙ y.1) f.0) ∙ gone))
      (new.parents (key c) u.0 u.1))
      (λ s. let o = out_there q c tq s in by_bool c.item.is_group _
      (λ cg. no_row c (sym (right q c (part_there is_group _ q c outs_keyed o cg) (before_below r c gr cp)) ∙ i))
      (λ cg. no_row c (sym (part_there is_nick _ q c outs_keyed o (not_from_false _ cg)) ∙ j))))
      (λ x j. let y : f1 q ≡ Some c = rw i at z in let w : cond (is_some (find_row q out_nicks)) None (t q) ≡ Some c = sym (f1_at q) ∙ y in
      no_row c (sym (rw j at w))))
      (λ x i. no_row c (sym (rw i at z)))

  -- the first phase: nicks out
  ready1 : AllReady root told t Removed out_nicks
  ready1 = ready_at_each root told t Removed out_nicks (λ a r b e.
      let s = split_of out_nicks a r b e (ascending-filter is_nick _ outs_ascending) (keyed-filter is_nick _ outs_keyed) in
      let g : Found = after_all t Removed a in
      let is = part is_nick _ (key r) r outs_keyed s.there in
      let o = out_parts (key r) r is.0 in
      let own : g (key r) ≡ Some r = found_removed t a (key r) ∙ rw s.not_left o.0 in
      let pr = parent_ready told g r old (old.parents (key r) r o.0) (λ p pf pg pp. record {
        row = p;
        there = found_removed t a (key p) ∙ by_row (find_row (key p) a) _
            (λ i. rw i pf)
            (λ x i. no_row x (sym (s.left_in (key p) x i) ∙ no_group_in_nicks (outs told now) (key p) outs_keyed pg));
        path = refl;
        same = refl;
        level = refl;
      }) in
      record {
        named = pr.0;
        under = pr.1;
        fits = (record { row = r; there = own; path = refl; same = refl; level = refl }, λ gr. absurd (true≢false (sym gr ∙ not-true _ is.1)));
        good = old.good (key r) r o.0;
      })

  -- the second: groups out, the last first
  ready2 : AllReady root told f1 Removed (reverse out_groups)
  ready2 = ready_at_each root told f1 Removed (reverse out_groups) (λ pre r post e.
      let s = split_of out_groups (reverse post) r (reverse pre) (reverse_split out_groups pre r post e) (ascending-filter is_group _ outs_ascending) (keyed-filter is_group _ outs_keyed) in
      let g : Found = after_all f1 Removed pre in
      let g_at : (q : Key) → g q ≡ cond (is_some (find_row q (reverse pre))) None (f1 q) = λ q. found_removed f1 pre q ∙ ap (λ b. cond b None (f1 q)) (sym (is_some-reverse q pre)) in
      let is = part is_group _ (key r) r outs_keyed s.there in
      let o = out_parts (key r) r is.0 in
      let f1_group : (q : Key) → q.is_group ≡ true → f1 q ≡ t q = λ q gr. f1_at q ∙ rw (no_group_in_nicks (outs told now) q outs_keyed gr) refl in
      let own : g (key r) ≡ Some r = g_at (key r) ∙ rw s.not_right (f1_group (key r) is.1 ∙ o.0) in
      let pr = parent_ready told g r old (old.parents (key r) r o.0) (λ p pf pg pp. record {
        row = p;
        there = g_at (key p) ∙ by_row (find_row (key p) (reverse pre)) _
            (λ i. rw i (f1_group (key p) pg ∙ pf))
            (λ x i.
            let j : x ≡ p = one_row x p (sym (out_parts (key p) x (part is_group _ (key p) x outs_keyed (s.right_in (key p) x i)).0).0 ∙ pf) in
            absurd (true≢false (sym (s.right_after (key p) x i) ∙ ap (before r) j ∙ before_one_way p r (before_below p r pg pp))));
        path = refl;
        same = refl;
        level = refl;
      }) in
      record {
        named = pr.0;
        under = pr.1;
        fits = (record { row = r; there = own; path = refl; same = refl; level = refl }, λ gr q c z. path_eq-other c.path (below r) (λ cp. childless r o.0 o.1 is.1 (reverse pre) s.right q c (sym (g_at q) ∙ z) cp));
        good = old.good (key r) r o.0;
      })

  -- a row of now that did not are is not found before it is put in
  f2_fresh : (r : Row) → n (key r) ≡ Some r → stood_in told r ≡ false → f2 (key r) ≡ None
  f2_fresh r e s = by_row (t (key r)) _ (λ i. f2_none (key r) i)
      (λ x i. by_bool (stays_in now x) _
      (λ z.
      let u = stays_row now x z in
      let k : key x ≡ key r = find_key (key r) told x i in
      let j : u.0 ≡ r = one_row u.0 r (sym u.1 ∙ ap (λ l. find_row l now) k ∙ e) in
      absurd (true≢false (sym (stood_there told r x i (sym u.2 ∙ ap (λ (l : Row). l.path) j)) ∙ s)))
      (λ z. f2_out (key r) x i z))

  -- one that was there is there with its path
  f2_stood : (r x : Row) → n (key r) ≡ Some r → t (key r) ≡ Some x → x.path ≡ r.path → f2 (key r) ≡ Some x
  f2_stood r x e i p =
      let k : key x ≡ key r = find_key (key r) told x i in
      f2_kept (key r) x i (stays_there now x r (ap (λ l. find_row l now) k ∙ e) (sym p))

  in_groups_keyed : Keyed in_groups
  in_groups_keyed = keyed-filter is_group _ ins_keyed

  in_nicks_keyed : Keyed in_nicks
  in_nicks_keyed = keyed-filter is_nick _ ins_keyed

  f3_at : (q : Key) → f3 q ≡ or_row (find_row q in_groups) (f2 q)
  f3_at q = found_added f2 in_groups q in_groups_keyed

  f4_at : (q : Key) → f4 q ≡ or_row (find_row q in_nicks) (f3 q)
  f4_at q = found_added f3 in_nicks q in_nicks_keyed

  -- the third: groups in
  ready3 : AllReady root now f2 Added in_groups
  ready3 = ready_at_each root now f2 Added in_groups (λ a r b e.
      let s = split_of in_groups a r b e (ascending-filter is_group _ ins_ascending) in_groups_keyed in
      let g : Found = after_all f2 Added a in
      let g_at : (q : Key) → g q ≡ or_row (find_row q a) (f2 q) = λ q. found_added f2 a q s.left_keyed in
      let is = part is_group _ (key r) r ins_keyed s.there in
      let o = in_parts (key r) r is.0 in
      let own : g (key r) ≡ None = g_at (key r) ∙ rw s.not_left (f2_fresh r o.0 o.1) in
      let pr = parent_ready now g r new (new.parents (key r) r o.0) (λ p pf pg pp. by_bool (stood_in told p) _
      (λ z. let u = stood_row told p z in record {
        row = u.0;
        there = g_at (key p) ∙ by_row (find_row (key p) a) _
            (λ i. rw i (f2_stood p u.0 pf u.1 u.2))
            (λ x i. no_row x (sym (s.left_in (key p) x i) ∙ no_in is_group (key p) p pf z));
        path = u.2;
        same = find_key (key p) told u.0 u.1;
        level = same_level u.0 p (old.good (key p) u.0 u.1) (new.good (key p) p pf) u.2 (find_key (key p) told u.0 u.1);
      })
      (λ z. record {
        row = p;
        there = g_at (key p) ∙ rw (s.left (key p) p (part_there is_group _ (key p) p ins_keyed (in_there (key p) p pf z) pg) (before_below p r pg pp)) refl;
        path = refl;
        same = refl;
        level = refl;
      })) in
      record {
        named = pr.0;
        under = pr.1;
        fits = own;
        good = new.good (key r) r o.0;
      })

  -- a group of now, once the groups are in
  f3_group : (p : Row) → n (key p) ≡ Some p → p.item.is_group ≡ true → Stands f3 p
  f3_group p pf pg = by_bool (stood_in told p) _
      (λ z. let u = stood_row told p z in record {
        row = u.0;
        there = f3_at (key p) ∙ rw (no_in is_group (key p) p pf z) (f2_stood p u.0 pf u.1 u.2);
        path = u.2;
        same = find_key (key p) told u.0 u.1;
        level = same_level u.0 p (old.good (key p) u.0 u.1) (new.good (key p) p pf) u.2 (find_key (key p) told u.0 u.1);
      })
      (λ z. record {
        row = p;
        there = f3_at (key p) ∙ rw (part_there is_group _ (key p) p ins_keyed (in_there (key p) p pf z) pg) refl;
        path = refl;
        same = refl;
        level = refl;
      })

  -- the fourth: nicks in
  ready4 : AllReady root now f3 Added in_nicks
  ready4 = ready_at_each root now f3 Added in_nicks (λ a r b e.
      let s = split_of in_nicks a r b e (ascending-filter is_nick _ ins_ascending) in_nicks_keyed in
      let g : Found = after_all f3 Added a in
      let g_at : (q : Key) → g q ≡ or_row (find_row q a) (f3 q) = λ q. found_added f3 a q s.left_keyed in
      let is = part is_nick _ (key r) r ins_keyed s.there in
      let o = in_parts (key r) r is.0 in
      let nick : r.item.is_group ≡ false = not-true _ is.1 in
      let own : g (key r) ≡ None = g_at (key r) ∙ rw s.not_left (f3_at (key r) ∙ rw (no_nick_in_groups _ (key r) ins_keyed nick) (f2_fresh r o.0 o.1)) in
      let pr = parent_ready now g r new (new.parents (key r) r o.0) (λ p pf pg pp.
      let st = f3_group p pf pg in record {
        row = st.row;
        there = g_at (key p) ∙ by_row (find_row (key p) a) _
            (λ i. rw i st.there)
            (λ x i. no_row x (sym (s.left_in (key p) x i) ∙ no_group_in_nicks (ins told now) (key p) ins_keyed pg));
        path = st.path;
        same = st.same;
        level = st.level;
      }) in
      record {
        named = pr.0;
        under = pr.1;
        fits = own;
        good = new.good (key r) r o.0;
      })

  -- what is found then at a key of now
  f4_stood : (r x : Row) → n (key r) ≡ Some r → t (key r) ≡ Some x → x.path ≡ r.path → f4 (key r) ≡ Some x
  f4_stood r x e i p =
      let z = stood_there told r x i p in
      f4_at (key r) ∙ rw (no_in is_nick (key r) r e z) (f3_at (key r) ∙ rw (no_in is_group (key r) r e z) (f2_stood r x e i p))

  f4_new : (r : Row) → n (key r) ≡ Some r → stood_in told r ≡ false → f4 (key r) ≡ Some r
  f4_new r e z = let o = in_there (key r) r e z in by_bool r.item.is_group _
      (λ g. f4_at (key r) ∙ rw (no_group_in_nicks _ (key r) ins_keyed g) (f3_at (key r) ∙ rw (part_there is_group _ (key r) r ins_keyed o g) refl))
      (λ g. f4_at (key r) ∙ rw (part_there is_nick _ (key r) r ins_keyed o (not_from_false _ g)) refl)

  f4_none : (q : Key) → n q ≡ None → f4 q ≡ None
  f4_none q e =
      let no_part : (p : Row → Bool) → find_row q (filter p (ins told now)) ≡ None = λ p. by_row (find_row q (filter p (ins told now))) _ (λ i. i) (λ x i. no_row x (sym (in_parts q x (part p _ q x ins_keyed i).0).0 ∙ e)) in
      let low : f2 q ≡ None = by_row (t q) _ (λ i. f2_none q i) (λ x i.
      let k : key x ≡ q = find_key q told x i in
      let nx : find_row (key x) now ≡ None = ap (λ l. find_row l now) k ∙ e in
      f2_out q x i (rw nx refl)) in
      f4_at q ∙ rw (no_part is_nick) (f3_at q ∙ rw (no_part is_group) low)

  f4_stands : (r : Row) → n (key r) ≡ Some r → Stands f4 r
  f4_stands r e = by_bool (stood_in told r) _
      (λ z. let u = stood_row told r z in record { row = u.0; there = f4_stood r u.0 e u.1 u.2; path = u.2; same = find_key (key r) told u.0 u.1; level = same_level u.0 r (old.good (key r) u.0 u.1) (new.good (key r) r e) u.2 (find_key (key r) told u.0 u.1) })
      (λ z. record { row = r; there = f4_new r e z; path = refl; same = refl; level = refl })

  abbrev altered : Row → Bool
  altered r = change_list (find_row (key r) told) (Some r)

  -- the last: changed rows
  ready5 : AllReady root now f4 Changed (changed_rows told now)
  ready5 = ready_at_each root now f4 Changed (changed_rows told now) (λ a r b e.
      let s = split_of (changed_rows told now) a r b e (ascending-filter altered now new.ascending) (keyed-filter altered now new.keyed) in
      let g : Found = after_all f4 Changed a in
      let g_at : (q : Key) → g q ≡ or_row (find_row q a) (f4 q) = λ q. found_changed f4 a q s.left_keyed in
      let all : (p : Row) → n (key p) ≡ Some p → Stands g p = λ p pf. by_row (find_row (key p) a) _
      (λ i. let st = f4_stands p pf in record { row = st.row; there = g_at (key p) ∙ rw i st.there; path = st.path; same = st.same; level = st.level })
      (λ x i.
      let j : x ≡ p = one_row x p (sym (part altered now (key p) x new.keyed (s.left_in (key p) x i)).0 ∙ pf) in
      record { row = p; there = g_at (key p) ∙ rw i (ap Some j); path = refl; same = refl; level = refl }) in
      let own = part altered now (key r) r new.keyed s.there in
      let pr = parent_ready now g r new (new.parents (key r) r own.0) (λ p pf pg pp. all p pf) in
      record { named = pr.0; under = pr.1; fits = all r own.0; good = new.good (key r) r own.0 })

  -- in the end each key has the row of now
  f5_all : (q : Key) → f5 q ≡ n q
  f5_all q = found_changed f4 (changed_rows told now) q (keyed-filter altered now new.keyed) ∙ by_row (n q) _
      (λ e. rw (find-filter altered q now new.keyed, e) (f4_none q e))
      (λ r e.
      let k : key r ≡ q = find_key q now r e in
      let own : n (key r) ≡ Some r = ap (λ l. find_row l now) k ∙ e in
      rw (find-filter altered q now new.keyed, e) (by_bool (altered r) _
      (λ d. rw d refl)
      (λ d. rw d (ap f4 (sym k) ∙ by_bool (stood_in told r) _
      (λ z.
      let u = stood_row told r z in
      let eq : item_eq u.0.item r.item ≡ true = same_items u.0 r (find_row (key r) told) u.1 z d in
      let item = item_eq-true u.0.item r.item eq in
      f4_stood r u.0 own u.1 u.2 ∙ ap Some (λ i. record { path = u.2 i; item = item i }))
      (λ z. f4_new r own z)))))

  -- the whole diff
  all_run : Runs (ops root told now) told now
  all_run =
      let start : Holds t told = record { ascending = old.ascending; keyed = old.keyed; found = λ k. refl } in
      let p1 = phase root told t Removed out_nicks told refl start ready1 in
      let p2 = phase root told f1 Removed (reverse out_groups) p1.0 refl p1.2 ready2 in
      let p3 = phase root now f2 Added in_groups p2.0 refl p2.2 ready3 in
      let p4 = phase root now f3 Added in_nicks p3.0 refl p3.2 ready4 in
      let p5 = phase root now f4 Changed (changed_rows told now) p4.0 refl p4.2 ready5 in
      let end : p5.0 ≡ now = same_rows p5.0 now p5.2.ascending p5.2.keyed new.ascending new.keyed (λ k. p5.2.found k ∙ f5_all k) in
      let a5 : Runs (map (op Changed root n) (changed_rows told now)) p4.0 now = subst (λ l. Runs (map (op Changed root n) (changed_rows told now)) p4.0 l) end p5.1 in
      let a4 = runs-append _ _ p3.0 p4.0 now p4.1 a5 in
      let a3 = runs-append _ _ p2.0 p3.0 now p3.1 a4 in
      let a2 = runs-append _ _ p1.0 p2.0 now p2.1 a3 in
      runs-append _ _ told p1.0 now p1.1 a2

  pub diff_law : applied_all (diff root told now) told ≡ Ok now
  diff_law = with_parents_run (ops root told now) None 0 told now all_run
