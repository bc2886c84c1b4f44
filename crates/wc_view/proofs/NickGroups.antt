-- The items of each buffer among rows.
use Rattle.std.proofs.Common.{◌≡◌, ℕ, zero, suc, ◌+◌, ◌<◌, ◌≤◌, Bool, true, false, cond, ◌&&◌, Option, Some, None, List, [], ◌∷◌, ◌++◌, length, take, get_or, set, map, fold, refl, sym, ap, ◌∙◌, subst, arith, eqb}
use Rattle.std.specs.Prelude.{unwrap_or, filter}
use Rattle.std.specs.List.{list_all}
use Rattle.std.specs.FinMap.{find}
use Rattle.std.specs.Ordering.{nat_cmp, eq_by_cmp}
use Rattle.std.proofs.lemmas.Bool.{true≢false, eqb-true, eq-eqb}
use Rattle.std.proofs.lemmas.Bool.Decides.{nat_tests}
use Rattle.std.proofs.lemmas.List.{append_assoc}
use Rattle.wc_nicklist.specs.declared.item.Item.{Item}
use Rattle.wc_nicklist.specs.Rows.{TextsAreUtf8}
use Rattle.wc_view.specs.declared.nick_rows.NickRow.{NickRow}
use Rattle.wc_view.specs.Entries.{IsEntry}
use Rattle.wc_view.specs.NickFold.{items_of, are_of}
use Rattle.wc_view.specs.NickGroups.{Group, with_item, by_buffer, GroupsAreUtf8}
use Rattle.wc_view.specs.NickLists.{ItemsAreUtf8}
use Rattle.wc_view.proofs.EntryLemmas.{by_bool, tied}

-- ---- an item more
item_by : (h i : ℕ) (gs : List Group) (x : Item) (d : Group) → i < length gs → (get_or gs i d).0 ≡ h → find nat_cmp h (take i gs) ≡ None
    → set gs i ((get_or gs i d).0, (get_or gs i d).1 ++ x ∷ []) ≡ with_item gs (record { buffer = h; item = x })
item_by h i [] x d l a b = absurd (omega arith)
item_by h zero (g ∷ gs) x d l a b = rw (eq-eqb g.0 h a) refl
item_by h (suc i) (g ∷ gs) x d l a b = by_bool (eqb h g.0) _
    (λ t. absurd (let z : Some g.1 ≡ None = rw (tied h g.0, t) at b in cc))
    (λ t.
    let u : eqb g.0 h ≡ false = grind (arith, nat_tests) in
    let rest : find nat_cmp h (take i gs) ≡ None = rw (tied h g.0, t) at b in
    rw u (ap (λ z. g ∷ z) (item_by h i gs x d (omega arith) a rest)))

pub item_at : (i : ℕ) (gs : List Group) (row : NickRow) (b b2 : Group) → i < length gs → IsEntry row.buffer i gs → b ≡ get_or gs i b
    → b2 ≡ (b.0, b.1 ++ row.item ∷ []) → set gs i b2 ≡ with_item gs row
item_at i gs row b b2 l e is new =
    ap (set gs i) (new ∙ ap (λ (z : Group). (z.0, z.1 ++ row.item ∷ [])) is)
    ∙ item_by row.buffer i gs row.item b l (e.at b) e.before

pub item_new : (gs : List Group) (row : NickRow) (b : Group) → find nat_cmp row.buffer gs ≡ None → b ≡ (row.buffer, row.item ∷ []) → gs ++ b ∷ [] ≡ with_item gs row
item_new [] row b n new = ap (λ z. z ∷ []) new
item_new (g ∷ gs) row b n new = by_bool (eqb row.buffer g.0) _
    (λ t. absurd (let z : Some g.1 ≡ None = rw (tied row.buffer g.0, t) at n in cc))
    (λ t.
    let u : eqb g.0 row.buffer ≡ false = grind (arith, nat_tests) in
    let rest : find nat_cmp row.buffer gs ≡ None = rw (tied row.buffer g.0, t) at n in
    rw u (ap (λ z. g ∷ z) (item_new gs row b rest new)))

-- ---- texts
items_push : (xs : List Item) (x : Item) → ItemsAreUtf8 xs → TextsAreUtf8 x → ItemsAreUtf8 (xs ++ x ∷ [])
items_push [] x h u = (u, tt)
items_push (y ∷ ys) x h u = (h.0, items_push ys x h.1 u)

groups_push : (gs : List Group) (row : NickRow) → GroupsAreUtf8 gs → TextsAreUtf8 row.item → GroupsAreUtf8 (with_item gs row)
groups_push [] row h u = ((u, tt), tt)
groups_push (g ∷ gs) row h u = by_bool (eqb g.0 row.buffer) _
    (λ t. rw t (items_push g.1 row.item h.0 u, h.1))
    (λ t. rw t (h.0, groups_push gs row h.1 u))

abbrev pub RowsAreUtf8 : List NickRow → Type 0
RowsAreUtf8 [] = Unit {0}
RowsAreUtf8 (row ∷ rows) = TextsAreUtf8 row.item × RowsAreUtf8 rows

groups_from : (gs : List Group) (rows : List NickRow) → GroupsAreUtf8 gs → RowsAreUtf8 rows → GroupsAreUtf8 (fold with_item gs rows)
groups_from gs [] h u = h
groups_from gs (row ∷ rows) h u = groups_from (with_item gs row) rows (groups_push gs row h u.0) u.1

pub groups_utf8 : (rows : List NickRow) → RowsAreUtf8 rows → GroupsAreUtf8 (by_buffer rows)
groups_utf8 rows u = groups_from [] rows tt u

-- ---- one buffer
pub one_group : (b : ℕ) (xs : List Item) (rows : List NickRow) → are_of b rows ≡ true → fold with_item ((b, xs) ∷ []) rows ≡ (b, xs ++ map (λ (row : NickRow). row.item) rows) ∷ []
one_group b xs [] e = ap (λ z. (b, z) ∷ []) (sym (nothing_after xs))
  where
    nothing_after : (ys : List Item) → ys ++ [] ≡ ys
    nothing_after [] = refl
    nothing_after (y ∷ ys) = ap (λ z. y ∷ z) (nothing_after ys)
one_group b xs (row ∷ rows) e = by_bool (eqb row.buffer b) _
    (λ t.
    let u : eqb b row.buffer ≡ true = grind (arith, nat_tests) in
    let rest : are_of b rows ≡ true = rw t at e in
    rw u (one_group b (xs ++ row.item ∷ []) rows rest ∙ ap (λ z. (b, z) ∷ []) (append_assoc xs (row.item ∷ []) (map (λ (row : NickRow). row.item) rows))))
    (λ t. absurd (true≢false (sym (let z = e in rw t at z))))

grown : (gs : List Group) (row : NickRow) → length gs ≤ length (with_item gs row)
grown [] row = omega arith
grown (g ∷ gs) row = by_bool (eqb g.0 row.buffer) _ (λ t. rw t (omega arith)) (λ t. rw t (let h = grown gs row in omega arith))

grown_all : (gs : List Group) (rows : List NickRow) → length gs ≤ length (fold with_item gs rows)
grown_all gs [] = omega arith
grown_all gs (row ∷ rows) = let h = grown gs row in let k = grown_all (with_item gs row) rows in omega arith

pub more_groups : (b : ℕ) (xs : List Item) (rows : List NickRow) → are_of b rows ≡ false → 2 ≤ length (fold with_item ((b, xs) ∷ []) rows)
more_groups b xs [] e = absurd (true≢false e)
more_groups b xs (row ∷ rows) e = by_bool (eqb row.buffer b) _
    (λ t.
    let u : eqb b row.buffer ≡ true = grind (arith, nat_tests) in
    let rest : are_of b rows ≡ false = rw t at e in
    rw u (more_groups b (xs ++ row.item ∷ []) rows rest))
    (λ t.
    let u : eqb b row.buffer ≡ false = grind (arith, nat_tests) in
    rw u (let k = grown_all ((b, xs) ∷ (row.buffer, row.item ∷ []) ∷ []) rows in omega arith))

-- ---- all buffers
abbrev pub some_items : List Item → Option (List Item)
some_items [] = None
some_items (x ∷ xs) = Some (x ∷ xs)

find_with : (q : ℕ) (gs : List Group) (row : NickRow) → find nat_cmp q (with_item gs row) ≡ cond (eqb q row.buffer) (Some (unwrap_or (find nat_cmp q gs) [] ++ row.item ∷ [])) (find nat_cmp q gs)
find_with q [] row = by_bool (eqb q row.buffer) _ (λ t. rw (tied q row.buffer, t) refl) (λ t. rw (tied q row.buffer, t) refl)
find_with q (g ∷ gs) row = by_bool (eqb g.0 row.buffer) _
    (λ t. by_bool (eqb q g.0) _
    (λ u. let w : eqb q row.buffer ≡ true = grind (arith, nat_tests) in rw (t, tied q g.0, u, w) refl)
    (λ u. let w : eqb q row.buffer ≡ false = grind (arith, nat_tests) in rw (t, tied q g.0, u, w) refl))
    (λ t. by_bool (eqb q g.0) _
    (λ u. let w : eqb q row.buffer ≡ false = grind (arith, nat_tests) in rw (t, tied q g.0, u, w) refl)
    (λ u. rw (t, tied q g.0, u) (find_with q gs row)))

of_push : (q : ℕ) (rows : List NickRow) (row : NickRow) → items_of q (rows ++ row ∷ []) ≡ cond (eqb row.buffer q) (items_of q rows ++ row.item ∷ []) (items_of q rows)
of_push q [] row = by_bool (eqb row.buffer q) _ (λ t. rw t refl) (λ t. rw t refl)
of_push q (first ∷ rows) row = by_bool (eqb first.buffer q) _
    (λ t. rw t (ap (λ z. first.item ∷ z) (of_push q rows row) ∙ by_bool (eqb row.buffer q) _ (λ u. rw u refl) (λ u. rw u refl)))
    (λ t. rw t (of_push q rows row))

filled : (xs : List Item) (x : Item) → Some (unwrap_or (some_items xs) [] ++ x ∷ []) ≡ some_items (xs ++ x ∷ [])
filled [] x = refl
filled (y ∷ ys) x = refl

abbrev Finds : List Group → List NickRow → Type 0
Finds gs done = (q : ℕ) → find nat_cmp q gs ≡ some_items (items_of q done)

finds_push : (gs : List Group) (done : List NickRow) (row : NickRow) → Finds gs done → Finds (with_item gs row) (done ++ row ∷ [])
finds_push gs done row h q = find_with q gs row ∙ by_bool (eqb q row.buffer) _
    (λ t.
    let u : eqb row.buffer q ≡ true = grind (arith, nat_tests) in
    let e : items_of q (done ++ row ∷ []) ≡ items_of q done ++ row.item ∷ [] = of_push q done row ∙ rw u refl in
    rw t (ap (λ o. Some (unwrap_or o [] ++ row.item ∷ [])) (h q) ∙ filled (items_of q done) row.item ∙ ap some_items (sym e)))
    (λ t.
    let u : eqb row.buffer q ≡ false = grind (arith, nat_tests) in
    let e : items_of q (done ++ row ∷ []) ≡ items_of q done = of_push q done row ∙ rw u refl in
    rw t (h q ∙ ap some_items (sym e)))

finds_from : (gs : List Group) (done rows : List NickRow) → Finds gs done → Finds (fold with_item gs rows) (done ++ rows)
finds_from gs done [] h = λ q. h q ∙ ap (λ z. some_items (items_of q z)) (sym (whole done))
  where
    whole : (xs : List NickRow) → xs ++ [] ≡ xs
    whole [] = refl
    whole (x ∷ xs) = ap (λ z. x ∷ z) (whole xs)
finds_from gs done (row ∷ rows) h = λ q.
    finds_from (with_item gs row) (done ++ row ∷ []) rows (finds_push gs done row h) q
    ∙ ap (λ z. some_items (items_of q z)) (append_assoc done (row ∷ []) rows)

pub groups_find : (rows : List NickRow) (q : ℕ) → find nat_cmp q (by_buffer rows) ≡ some_items (items_of q rows)
groups_find rows q = finds_from [] [] rows (λ z. refl) q

-- each buffer once
abbrev pub Apart : List Group → Type 0
Apart [] = Unit {0}
Apart (g ∷ gs) = (find nat_cmp g.0 gs ≡ None) × Apart gs

apart_push : (gs : List Group) (row : NickRow) → Apart gs → Apart (with_item gs row)
apart_push [] row h = (refl, tt)
apart_push (g ∷ gs) row h = by_bool (eqb g.0 row.buffer) _
    (λ t. rw t (h.0, h.1))
    (λ t. rw t (find_with g.0 gs row ∙ rw t h.0, apart_push gs row h.1))

apart_from : (gs : List Group) (rows : List NickRow) → Apart gs → Apart (fold with_item gs rows)
apart_from gs [] h = h
apart_from gs (row ∷ rows) h = apart_from (with_item gs row) rows (apart_push gs row h)

pub groups_apart : (rows : List NickRow) → Apart (by_buffer rows)
groups_apart rows = apart_from [] rows tt

-- each group has the items of its buffer
abbrev pub AreItems : List Group → List NickRow → Type 0
AreItems [] rows = Unit {0}
AreItems (g ∷ gs) rows = (g.1 ≡ items_of g.0 rows) × AreItems gs rows

from_some : (xs ys : List Item) → Some xs ≡ some_items ys → xs ≡ ys
from_some xs [] e = absurd cc
from_some xs (y ∷ ys) e = cc

items_by : (all gs : List Group) (rows : List NickRow) → Apart gs → ((q : ℕ) (xs : List Item) → find nat_cmp q gs ≡ Some xs → find nat_cmp q all ≡ Some xs)
    → ((q : ℕ) → find nat_cmp q all ≡ some_items (items_of q rows)) → AreItems gs rows
items_by all [] rows a h f = tt
items_by all (g ∷ gs) rows a h f =
    let own : find nat_cmp g.0 (g ∷ gs) ≡ Some g.1 = rw (tied g.0 g.0, eq-eqb g.0 g.0 refl) refl in (
      from_some g.1 (items_of g.0 rows) (sym (h g.0 g.1 own) ∙ f g.0),
      items_by all gs rows a.1 (λ q xs e. h q xs (by_bool (eqb q g.0) _
          (λ t. absurd (let z : None ≡ Some xs = sym (ap (λ k. find nat_cmp k gs) (eqb-true q g.0 t) ∙ a.0) ∙ e in cc))
          (λ t. rw (tied q g.0, t) e))) f,
    )

pub groups_items : (rows : List NickRow) → AreItems (by_buffer rows) rows
groups_items rows = items_by (by_buffer rows) (by_buffer rows) rows (groups_apart rows) (λ q xs e. e) (groups_find rows)
