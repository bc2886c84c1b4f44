-- Rows that a client can hold, and the front of such rows.
use Rattle.std.proofs.Common.{◌≡◌, ℕ, Bool, true, false, ◌&&◌, Option, Some, None, List, [], ◌∷◌, ◌++◌, refl, sym, ap, ◌∙◌, subst}
use Rattle.std.specs.Prelude.{is_none}
use Rattle.std.specs.List.{list_all}
use Rattle.std.proofs.lemmas.Bool.{true≢false, and_parts, and_from, eqb-true, eq-eqb}
use Rattle.std.proofs.lemmas.List.{append-nil}
use Rattle.wc_nicklist.specs.declared.item.Key.{Key}
use Rattle.wc_nicklist.specs.declared.item.Row.{Row}
use Rattle.wc_nicklist.specs.Order.{key, group_key, address, before}
use Rattle.wc_nicklist.specs.Rows.{key_eq, find_row, insert_row, AllAfter, Ascending, Keyed, is_root, parent_of, below, below_row, path_below, level_at}
use Rattle.wc_nicklist.specs.Calls.{name_refusal}
use Rattle.wc_nicklist.specs.Stored.{AllBefore}
use Rattle.wc_nicklist.proofs.OrderLaws.{by_bool, key_eq-true, key_eq-same, path_eq-true, path_eq-same, before_is, before_below, before_one_way, before_itself}
use Rattle.wc_nicklist.proofs.RowLaws.{find_key, after_found, ascending-insert, keyed-insert}
use Rattle.wc_nicklist.proofs.Held.{by_row, path_below-same}
use Rattle.wc_nicklist.proofs.Places.{insert_place}
use Rattle.wc_nickdiff.proofs.Split.{or_row, find-append, one_row, split_of}
use Rattle.wc_view.specs.NickFold.{is_path, may_be_listed, are_ascending, are_keyed, are_rows}

-- a row whose parent is there, with its level and a name that it may have
pub record Stands (rows : List Row) (r : Row) : Type 0 where
  pub parent : path_below (parent_of r) rows ≡ Some r.path
  pub level : r.item.level ≡ level_at r.item.is_group r.path
  pub named : name_refusal r.item.is_group r.item.name ≡ None

is_path-true : (o : Option (List (List ℕ))) (path : List (List ℕ)) → is_path o path ≡ true → o ≡ Some path
is_path-true None path e = absurd (true≢false (sym e))
is_path-true (Some q) path e = ap Some (path_eq-true q path e)

none_is : {A : Type 0} (o : Option A) → is_none o ≡ true → o ≡ None
none_is None e = refl
none_is (Some x) e = absurd (true≢false (sym e))

stands_from : (rows : List Row) (r : Row) → may_be_listed rows r ≡ true → Stands rows r
stands_from rows r e =
    let p = and_parts _ _ e in
    let q = and_parts _ _ p.1 in
    record { parent = is_path-true _ _ p.0; level = eqb-true _ _ q.0; named = none_is _ q.1 }

stands_to : (rows : List Row) (r : Row) → Stands rows r → may_be_listed rows r ≡ true
stands_to rows r s =
    and_from _ _ (ap (λ o. is_path o r.path) s.parent ∙ path_eq-same r.path)
    (and_from _ _ (eq-eqb _ _ s.level) (ap is_none s.named))

after_from : (x : Row) (xs : List Row) → list_all (λ y. before x y) xs ≡ true → AllAfter x xs
after_from x [] e = tt
after_from x (y ∷ ys) e = let p = and_parts _ _ e in (p.0, after_from x ys p.1)

after_to : (x : Row) (xs : List Row) → AllAfter x xs → list_all (λ y. before x y) xs ≡ true
after_to x [] h = refl
after_to x (y ∷ ys) h = and_from _ _ h.0 (after_to x ys h.1)

ascending_from : (xs : List Row) → are_ascending xs ≡ true → Ascending xs
ascending_from [] e = tt
ascending_from (x ∷ xs) e = let p = and_parts _ _ e in (after_from x xs p.0, ascending_from xs p.1)

ascending_to : (xs : List Row) → Ascending xs → are_ascending xs ≡ true
ascending_to [] h = refl
ascending_to (x ∷ xs) h = and_from _ _ (after_to x xs h.0) (ascending_to xs h.1)

keyed_from : (xs : List Row) → are_keyed xs ≡ true → Keyed xs
keyed_from [] e = tt
keyed_from (x ∷ xs) e = let p = and_parts _ _ e in (none_is _ p.0, keyed_from xs p.1)

keyed_to : (xs : List Row) → Keyed xs → are_keyed xs ≡ true
keyed_to [] h = refl
keyed_to (x ∷ xs) h = and_from _ _ (ap is_none h.0) (keyed_to xs h.1)

-- what is found in a list is found in it after a row of another key
find_after : (x : Row) (xs : List Row) → find_row (key x) xs ≡ None → (k : Key) (r : Row) → find_row k xs ≡ Some r → find_row k (x ∷ xs) ≡ Some r
find_after x xs n k r f = by_bool (key_eq (key x) k) _
    (λ t. absurd (let i : None ≡ Some r = sym (ap (λ z. find_row z xs) (sym (key_eq-true _ _ t)) ∙ n) ∙ f in cc))
    (λ t. rw t f)

pub find_first : (x : Row) (xs : List Row) → find_row (key x) (x ∷ xs) ≡ Some x
find_first x xs = rw (key_eq-same (key x)) refl

found_from : (all xs : List Row) → list_all (may_be_listed all) xs ≡ true → (k : Key) (r : Row) → find_row k xs ≡ Some r → Stands all r
found_from all [] e k r f = absurd cc
found_from all (x ∷ xs) e k r f =
    let p = and_parts _ _ e in
    by_bool (key_eq (key x) k) _
    (λ t. subst (Stands all) (one_row x r (rw t at f)) (stands_from all x p.0))
    (λ t. found_from all xs p.1 k r (rw t at f))

found_to : (all xs : List Row) → Keyed xs → ((k : Key) (r : Row) → find_row k xs ≡ Some r → Stands all r) → list_all (may_be_listed all) xs ≡ true
found_to all [] kd h = refl
found_to all (x ∷ xs) kd h =
    and_from _ _ (stands_to all x (h (key x) x (find_first x xs)))
    (found_to all xs kd.1 (λ k r f. h k r (find_after x xs kd.0 k r f)))

-- rows that a nicklist can hold
pub record Good (rows : List Row) : Type 0 where
  pub ascending : Ascending rows
  pub keyed : Keyed rows
  pub stand : (k : Key) (r : Row) → find_row k rows ≡ Some r → Stands rows r

pub good_from : (rows : List Row) → are_rows rows ≡ true → Good rows
unfolding are_rows
good_from rows e =
    let p = and_parts _ _ e in
    let q = and_parts _ _ p.1 in
    record { ascending = ascending_from rows p.0; keyed = keyed_from rows q.0; stand = found_from rows rows q.1 }

pub good_to : (rows : List Row) → Good rows → are_rows rows ≡ true
unfolding are_rows
good_to rows g =
    and_from _ _ (ascending_to rows g.ascending)
    (and_from _ _ (keyed_to rows g.keyed) (found_to rows rows g.keyed g.stand))

-- ---- the front of rows
after_left : (x : Row) (ys b : List Row) → AllAfter x (ys ++ b) → AllAfter x ys
after_left x [] b h = tt
after_left x (y ∷ ys) b h = (h.0, after_left x ys b h.1)

after_right : (x : Row) (ys b : List Row) → AllAfter x (ys ++ b) → AllAfter x b
after_right x [] b h = h
after_right x (y ∷ ys) b h = after_right x ys b h.1

ascending_left : (a b : List Row) → Ascending (a ++ b) → Ascending a
ascending_left [] b h = tt
ascending_left (x ∷ xs) b h = (after_left x xs b h.0, ascending_left xs b h.1)

no_left : (o p : Option Row) → or_row o p ≡ None → o ≡ None
no_left None p e = refl
no_left (Some r) p e = absurd cc

keyed_left : (a b : List Row) → Keyed (a ++ b) → Keyed a
keyed_left [] b h = tt
keyed_left (x ∷ xs) b h = (no_left _ _ (sym (find-append (key x) xs b) ∙ h.0), keyed_left xs b h.1)

across : (a b : List Row) → Ascending (a ++ b) → (k : Key) (x : Row) → find_row k a ≡ Some x → (q : Key) (g : Row) → find_row q b ≡ Some g → before x g ≡ true
across [] b h k x e q g f = absurd cc
across (y ∷ ys) b h k x e q g f = by_bool (key_eq (key y) k) _
    (λ t. ap (λ z. before z g) (sym (one_row y x (rw t at e))) ∙ after_found y q b g (after_right y ys b h.0) f)
    (λ t. across ys b h.1 k x (rw t at e) q g f)

-- a parent is before the row
parent_before : (rows : List Row) (x g : Row) → path_below (parent_of x) rows ≡ Some x.path → is_root (parent_of x) ≡ false → find_row (group_key (parent_of x)) rows ≡ Some g → before g x ≡ true
unfolding path_below
parent_before rows x g e n f =
    let i : Some (below g) ≡ Some x.path = rw (n, f) at e in
    let p : below g ≡ x.path = cc in
    before_below g x (ap (λ (k : Key). k.is_group) (find_key (group_key (parent_of x)) rows g f)) (sym p)

pub found_right : (a b : List Row) (k : Key) (g : Row) → find_row k (a ++ b) ≡ Some g → find_row k a ≡ None → find_row k b ≡ Some g
found_right a b k g f n = ap (λ o. or_row o (find_row k b)) (sym n) ∙ sym (find-append k a b) ∙ f

pub found_left : (a b : List Row) (k : Key) (g h : Row) → find_row k (a ++ b) ≡ Some g → find_row k a ≡ Some h → h ≡ g
found_left a b k g h f n = one_row h g (ap (λ o. or_row o (find_row k b)) (sym n) ∙ sym (find-append k a b) ∙ f)

-- a parent that can not come after the row is in the front
front_parent : (a b : List Row) (x : Row) → ((g : Row) → find_row (group_key (parent_of x)) b ≡ Some g → before g x ≡ true → ⊥) → Stands (a ++ b) x → Stands a x
front_parent a b x not_after s = record {
  parent = path_below-same (parent_of x) (a ++ b) a x.path kept s.parent;
  level = s.level;
  named = s.named;
}
  where
    kept : is_root (parent_of x) ≡ false → (g : Row) → find_row (group_key (parent_of x)) (a ++ b) ≡ Some g → below_row (find_row (group_key (parent_of x)) a) ≡ Some (below g)
    kept n g f = by_row (find_row (group_key (parent_of x)) a) _
        (λ m. absurd (not_after g (found_right a b _ g f m) (parent_before (a ++ b) x g s.parent n f)))
        (λ h m. ap below_row m ∙ ap (λ z. Some (below z)) (found_left a b _ g h f m))

pub alone : (r : Row) (k : Key) (h : Row) → find_row k (r ∷ []) ≡ Some h → r ≡ h
alone r k h f = by_bool (key_eq (key r) k) _
    (λ t. one_row r h (rw t at f))
    (λ t. absurd (let i : None ≡ Some h = rw t at f in cc))

both_ways : (x g : Row) → before x g ≡ true → before g x ≡ true → ⊥
both_ways x g s t = true≢false (sym s ∙ before_one_way g x t)

pub good_left : (a b : List Row) → Good (a ++ b) → Good a
good_left a b g = record {
  ascending = ascending_left a b g.ascending;
  keyed = keyed_left a b g.keyed;
  stand = λ k x e.
      front_parent a b x (λ h f t. both_ways x h (across a b g.ascending k x e _ h f) t)
      (g.stand k x (find-append k a b ∙ ap (λ o. or_row o (find_row k b)) e));
}

-- ---- one row more
pub record Fits (rows : List Row) (r : Row) : Type 0 where
  pub following : (k : Key) (x : Row) → find_row k rows ≡ Some x → before x r ≡ true
  pub fresh : find_row (key r) rows ≡ None
  pub stands : Stands rows r

pub fits_from : (rows : List Row) (r : Row) → are_rows (rows ++ r ∷ []) ≡ true → Fits rows r
fits_from rows r e =
    let g = good_from (rows ++ r ∷ []) e in
    let s = split_of (rows ++ r ∷ []) rows r [] refl g.ascending g.keyed in
    record {
      following = s.left_before;
      fresh = s.not_left;
      stands = front_parent rows (r ∷ []) r (λ h f t. not_itself h (alone r _ h f) t) (g.stand (key r) r s.there);
    }
  where
    not_itself : (h : Row) → r ≡ h → before h r ≡ true → ⊥
    not_itself h i t = true≢false (sym (ap (λ z. before z r) i ∙ t) ∙ before_itself r)

all_before : (rows : List Row) (r : Row) → Keyed rows → ((k : Key) (x : Row) → find_row k rows ≡ Some x → before x r ≡ true) → AllBefore rows (address r)
all_before [] r kd h = tt
all_before (x ∷ xs) r kd h =
    (sym (before_is x r) ∙ h (key x) x (find_first x xs), all_before xs r kd.1 (λ k y f. h k y (find_after x xs kd.0 k y f)))

-- a row that fits comes in after the others
pub insert_last : (rows : List Row) (r : Row) → Keyed rows → Fits rows r → insert_row r rows ≡ rows ++ r ∷ []
insert_last rows r kd f =
    let whole : rows ++ [] ≡ rows = append-nil rows in
    ap (insert_row r) (sym whole)
    ∙ insert_place rows [] r (all_before rows r kd f.following) tt (ap (find_row (key r)) whole ∙ f.fresh)

stands_more : (rows b : List Row) (x : Row) → Stands rows x → Stands (rows ++ b) x
stands_more rows b x s = record {
  parent = path_below-same (parent_of x) rows (rows ++ b) x.path
      (λ n g f. ap below_row (find-append _ rows b ∙ ap (λ o. or_row o (find_row (group_key (parent_of x)) b)) f)) s.parent;
  level = s.level;
  named = s.named;
}

pub fits_to : (rows : List Row) (r : Row) → are_rows rows ≡ true → Fits rows r → are_rows (rows ++ r ∷ []) ≡ true
fits_to rows r e f =
    let g = good_from rows e in
    let i = insert_last rows r g.keyed f in
    good_to (rows ++ r ∷ []) (record {
      ascending = subst Ascending i (ascending-insert r rows f.fresh g.ascending);
      keyed = subst Keyed i (keyed-insert r rows f.fresh g.keyed);
      stand = λ k x h. by_row (find_row k rows) _
          (λ n. subst (Stands (rows ++ r ∷ [])) (alone r k x (found_right rows (r ∷ []) k x h n)) (stands_more rows (r ∷ []) r f.stands))
          (λ y n. stands_more rows (r ∷ []) x (g.stand k x (n ∙ ap Some (found_left rows (r ∷ []) k x y h n))));
    })
