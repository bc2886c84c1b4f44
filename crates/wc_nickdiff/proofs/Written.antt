-- The items of a diff, list by list.
use Rattle.std.proofs.Common.{◌≡◌, ℕ, ◌+◌, ◌<◌, ◌≤◌, true, false, Option, Some, None, List, [], ◌∷◌, ◌++◌, map, length, get_or, take, refl, sym, ap, ◌∙◌, arith, append_assoc}
use Rattle.std.specs.Prelude.{filter, reverse, nat_lt, ◌==◌, if◌then◌else◌}
use Rattle.std.specs.Cmp.Lexicographic.{bytes_decides}
use Rattle.std.proofs.lemmas.Bool.{false≢true}
use Rattle.std.proofs.lemmas.Bool.Decides.{nat_tests}
use Rattle.std.proofs.lemmas.List.{take_more, map-append}
use Rattle.wc_nicklist.specs.declared.item.Item.{Item}
use Rattle.wc_nicklist.specs.declared.item.Key.{Key}
use Rattle.wc_nicklist.specs.declared.item.Row.{Row}
use Rattle.wc_nicklist.specs.Rows.{find_row, parent_of}
use Rattle.wc_nicklist.proofs.OrderLaws.{by_bool}
use Rattle.wc_nickdiff.specs.declared.diff_item.DiffItem.{DiffItem}
use Rattle.wc_nickdiff.specs.declared.diff_item.Mark.{Mark}
use Rattle.wc_nickdiff.specs.declared.diff_item.Mark.TheVariants.{Parent, Added, Removed, Changed}
use Rattle.wc_nickdiff.specs.declared.diff_item.Push.TheVariants.{Nothing, Diff, Full}
use Rattle.wc_nickdiff.specs.Compared.{items_written}
use Rattle.wc_nickdiff.specs.NickPush.{Op, op, same_name, with_parents, last_under, is_group, is_nick, outs, ins, changed_rows, diff, push_of, full_list}

name_is : (p : Option (List ℕ)) (name : List ℕ) → same_name p name ≡ true → p ≡ Some name
name_is None name e = absurd (false≢true e)
name_is (Some p) name e = ap Some ((bytes_decides p name).0 e)

module _ (m : Mark) (root : Item) (found : Key → Option Row) where
  -- items after others go on from the parent that was named last
  pub with_parents-append : (rs : List Row) (os : List Op) (p : Option (List ℕ)) → with_parents p (map (op m root found) rs ++ os) ≡ with_parents p (map (op m root found) rs) ++ with_parents (last_under p rs) os
  with_parents-append [] os p = refl
  with_parents-append (r ∷ rs) os p =
      let here = with_parents-append rs os p in
      let there = with_parents-append rs os (Some (parent_of r)) in
      by_bool (same_name p (parent_of r)) _
      (λ t. rw t (ap (λ l. record { mark = m; item = r.item } ∷ l) (here ∙ ap (λ q. with_parents p (map (op m root found) rs) ++ with_parents (last_under q rs) os) (name_is p (parent_of r) t))))
      (λ t. rw t (ap (λ l. record { mark = Parent; item = (op m root found r).parent } ∷ record { mark = m; item = r.item } ∷ l) there))

  last_under-push : (rs : List Row) (r : Row) (p : Option (List ℕ)) → last_under p (rs ++ r ∷ []) ≡ Some (parent_of r)
  last_under-push [] r p = refl
  last_under-push (x ∷ xs) r p = last_under-push xs r (Some (parent_of x))

  -- the next row
  pub next_written : (rows : List Row) (n : ℕ) (r : Row) (p : Option (List ℕ)) → n < length rows → r ≡ get_or rows n r
      → with_parents p (map (op m root found) (take (n + 1) rows)) ≡ with_parents p (map (op m root found) (take n rows)) ++ with_parents (last_under p (take n rows)) (op m root found r ∷ [])
  next_written rows n r p l e =
      ap (λ rs. with_parents p (map (op m root found) rs)) (take_more rows n r l ∙ ap (λ z. take n rows ++ z ∷ []) (sym e))
      ∙ ap (with_parents p) (map-append (op m root found) (take n rows) (r ∷ []))
      ∙ with_parents-append (take n rows) (op m root found r ∷ []) p

  pub next_under : (rows : List Row) (n : ℕ) (r : Row) (p : Option (List ℕ)) → n < length rows → r ≡ get_or rows n r → last_under p (take (n + 1) rows) ≡ Some (parent_of r)
  next_under rows n r p l e = ap (last_under p) (take_more rows n r l ∙ ap (λ z. take n rows ++ z ∷ []) (sym e)) ∙ last_under-push (take n rows) r p

  -- what is written, once the next row is put
  pub put_more : (rows : List Row) (n : ℕ) (r : Row) (p : Option (List ℕ)) (start old new : List DiffItem) (q : Option (List ℕ)) → n < length rows → r ≡ get_or rows n r
      → old ≡ start ++ with_parents p (map (op m root found) (take n rows)) → q ≡ last_under p (take n rows) → new ≡ old ++ with_parents q (op m root found r ∷ [])
      → new ≡ start ++ with_parents p (map (op m root found) (take (n + 1) rows))
  put_more rows n r p start old new q l e was under is =
      let done = with_parents p (map (op m root found) (take n rows)) in
      let more = with_parents (last_under p (take n rows)) (op m root found r ∷ []) in
      let here : new ≡ (start ++ done) ++ more = is ∙ (λ i. was i ++ with_parents (under i) (op m root found r ∷ [])) in
      let grouped : (start ++ done) ++ more ≡ start ++ (done ++ more) = append_assoc start done more in
      here ∙ grouped ∙ ap (λ x. start ++ x) (sym (next_written rows n r p l e))

-- the five lists of a diff, as they are put one after the other
pub five : (root : Item) (f n : Key → Option Row) (a b c d e : List Row)
    → with_parents None (map (op Removed root f) a) ++ with_parents (last_under None a) (map (op Removed root f) b)
    ++ with_parents (last_under (last_under None a) b) (map (op Added root n) c)
    ++ with_parents (last_under (last_under (last_under None a) b) c) (map (op Added root n) d)
    ++ with_parents (last_under (last_under (last_under (last_under None a) b) c) d) (map (op Changed root n) e)
    ≡ items_written root f n a b c d e
five root f n a b c d e =
    let p1 = last_under None a in
    let p2 = last_under p1 b in
    let p3 = last_under p2 c in
    let p4 = last_under p3 d in
    let o5 = map (op Changed root n) e in
    let o4 = map (op Added root n) d in
    let o3 = map (op Added root n) c in
    let o2 = map (op Removed root f) b in
    let o1 = map (op Removed root f) a in
    let w4 = with_parents-append Added root n d o5 p3 in
    let w3 = with_parents-append Added root n c (o4 ++ o5) p2 in
    let w2 = with_parents-append Removed root f b (o3 ++ (o4 ++ o5)) p1 in
    let w1 = with_parents-append Removed root f a (o2 ++ (o3 ++ (o4 ++ o5))) None in
    grouped (with_parents None o1) (with_parents p1 o2) (with_parents p2 o3) (with_parents p3 o4) (with_parents p4 o5)
    ∙ sym (w1 ∙ ap (λ l. with_parents None o1 ++ l) (w2 ∙ ap (λ l. with_parents p1 o2 ++ l) (w3 ∙ ap (λ l. with_parents p2 o3 ++ l) w4)))
  where
    grouped : (u v w x y : List DiffItem) → u ++ v ++ w ++ x ++ y ≡ u ++ (v ++ (w ++ (x ++ y)))
    grouped u v w x y = simp append_assoc

-- what one list adds
one_list : (o : Row → Op) (ys xs : List Row) (old new start : List DiffItem) (p q : Option (List ℕ)) → ys ≡ xs → old ≡ start → p ≡ q → new ≡ old ++ with_parents p (map o ys) → new ≡ start ++ with_parents q (map o xs)
one_list o ys xs old new start p q same was under is = is ∙ (λ i. was i ++ with_parents (under i) (map o (same i)))

next_parent : (ys xs : List Row) (p q r : Option (List ℕ)) → ys ≡ xs → p ≡ q → r ≡ last_under p ys → r ≡ last_under q xs
next_parent ys xs p q r same under is = is ∙ (λ i. last_under (under i) (same i))

pub written_in_turn : (root : Item) (f n : Key → Option Row) (a b c d e a' b' c' d' e' : List Row)
    → a' ≡ a → b' ≡ b → c' ≡ c → d' ≡ d → e' ≡ e
    → (i0 i1 i2 i3 i4 i5 : List DiffItem) (p0 p1 p2 p3 p4 : Option (List ℕ)) → i0 ≡ [] → p0 ≡ None
    → i1 ≡ i0 ++ with_parents p0 (map (op Removed root f) a') → p1 ≡ last_under p0 a'
    → i2 ≡ i1 ++ with_parents p1 (map (op Removed root f) b') → p2 ≡ last_under p1 b'
    → i3 ≡ i2 ++ with_parents p2 (map (op Added root n) c') → p3 ≡ last_under p2 c'
    → i4 ≡ i3 ++ with_parents p3 (map (op Added root n) d') → p4 ≡ last_under p3 d'
    → i5 ≡ i4 ++ with_parents p4 (map (op Changed root n) e')
    → i5 ≡ items_written root f n a b c d e
written_in_turn root f n a b c d e a' b' c' d' e' sa sb sc sd se i0 i1 i2 i3 i4 i5 p0 p1 p2 p3 p4 hi hp h1 u1 h2 u2 h3 u3 h4 u4 h5 =
    let q1 = next_parent a' a p0 None p1 sa hp u1 in
    let q2 = next_parent b' b p1 _ p2 sb q1 u2 in
    let q3 = next_parent c' c p2 _ p3 sc q2 u3 in
    let q4 = next_parent d' d p3 _ p4 sd q3 u4 in
    let j1 = one_list (op Removed root f) a' a i0 i1 [] p0 None sa hi hp h1 in
    let j2 = one_list (op Removed root f) b' b i1 i2 _ p1 _ sb j1 q1 h2 in
    let j3 = one_list (op Added root n) c' c i2 i3 _ p2 _ sc j2 q2 h3 in
    let j4 = one_list (op Added root n) d' d i3 i4 _ p3 _ sd j3 q3 h4 in
    let j5 = one_list (op Changed root n) e' e i4 i5 _ p4 _ se j4 q4 h5 in
    j5 ∙ five root f n a b c d e

-- they are those of the comparison
pub written_is : (root : Item) (told now : List Row) (f : Key → Option Row) → ((k : Key) → f k ≡ find_row k told) → (a b c d e : List Row)
    → a ≡ filter is_nick (outs told now) → b ≡ reverse (filter is_group (outs told now)) → c ≡ filter is_group (ins told now) → d ≡ filter is_nick (ins told now) → e ≡ changed_rows told now
    → items_written root f (λ k. find_row k now) a b c d e ≡ diff root told now
written_is root told now f same a b c d e ea eb ec ed ee = λ i. items_written root (λ k. same k i) (λ k. find_row k now) (ea i) (eb i) (ec i) (ed i) (ee i)

-- what is pushed, by the number of items
pub push_nothing : (root : Item) (ds : List DiffItem) (now : List Row) → length ds ≡ 0 → Nothing ≡ push_of root ds now
push_nothing root [] now e = refl
push_nothing root (d ∷ ds) now e = absurd (omega arith)

pub push_diff : (root : Item) (ds : List DiffItem) (now : List Row) → (length ds ≡ 0 → ⊥) → length ds ≤ length now → Diff ds ≡ push_of root ds now
push_diff root [] now n l = absurd (n refl)
push_diff root (d ∷ ds) now n l = let t : nat_lt (length (d ∷ ds)) (length now + 1) ≡ true = grind (arith, nat_tests) in rw t refl

pub push_full : (root : Item) (ds : List DiffItem) (now : List Row) → (length ds ≡ 0 → ⊥) → length now < length ds → Full (full_list root now) ≡ push_of root ds now
push_full root [] now n l = absurd (n refl)
push_full root (d ∷ ds) now n l = let t : nat_lt (length (d ∷ ds)) (length now + 1) ≡ false = grind (arith, nat_tests) in rw t refl
