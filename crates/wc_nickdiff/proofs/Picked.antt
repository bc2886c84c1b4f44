-- What is picked of the keys that were touched is what the comparison of the rows told with the rows now has.
use Rattle.std.proofs.Common.{◌≡◌, Bool, true, false, cond, not, ◌&&◌, Option, Some, None, List, [], ◌∷◌, ◌++◌, ◌⊎◌, inl, inr, refl, sym, ap, ◌∙◌, subst}
use Rattle.std.specs.Prelude.{filter, if◌then◌else◌}
use Rattle.std.specs.List.Sorted.{IsPermutation, IsSortedBy}
use Rattle.std.proofs.lemmas.Bool.{true≢false}
use Rattle.std.proofs.lemmas.List.Elements.{filter-append}
use Rattle.wc_nicklist.specs.declared.item.Key.{Key}
use Rattle.wc_nicklist.specs.declared.item.Row.{Row}
use Rattle.wc_nicklist.specs.Order.{key, before}
use Rattle.wc_nicklist.specs.Rows.{key_eq, path_eq, find_row, Ascending, Keyed, IsRows}
use Rattle.wc_nicklist.proofs.OrderLaws.{by_bool, key_eq-true, key_eq-same, path_eq-same}
use Rattle.wc_nicklist.proofs.RowLaws.{find_key, key_eq-back}
use Rattle.wc_nicklist.proofs.Held.{by_row}
use Rattle.wc_nickdiff.specs.declared.diff_item.FirstTouch.{FirstTouch}
use Rattle.wc_nickdiff.specs.Compared.{keep, leaving_row, coming_row, changed_pair, listed_row, picked_rows}
use Rattle.wc_nickdiff.specs.Held.{before_at, is_untouched, EachOnce}
use Rattle.wc_nickdiff.specs.NickPush.{stays, differs, change_list, item_eq, is_group, is_nick, outs, ins, changed_rows}
use Rattle.wc_nickdiff.specs.Told.{told_or, told_at, IsTold}
use Rattle.wc_nickdiff.proofs.PushLaw.{item_eq-same}
use Rattle.wc_nickdiff.proofs.Sorted.{sorted_is}
use Rattle.wc_nickdiff.proofs.Split.{split_of, or_row, find-append, find-filter, keyed-filter, ascending-filter, no_row}

-- the touch of a key
abbrev touch_at : Key → List FirstTouch → Option FirstTouch
touch_at k [] = None
touch_at k (t ∷ ts) = if key_eq t.key k then Some t else touch_at k ts

-- a row that was there, or is, under its key
abbrev HasKey : Key → Option Row → Type 0
HasKey k None = Unit {0}
HasKey k (Some r) = key r ≡ k

abbrev HaveKeys : List FirstTouch → Type 0
HaveKeys [] = Unit {0}
HaveKeys (t ∷ ts) = HasKey t.key t.before × HaveKeys ts

have_keys : (ts : List FirstTouch) → EachOnce ts → ((k : Key) (b : Option Row) → before_at k ts ≡ Some b → HasKey k b) → HaveKeys ts
have_keys [] once h = tt
have_keys (t ∷ ts) once h = (
  h t.key t.before (rw (key_eq-same t.key) refl),
  have_keys ts once.1 (λ k b e. by_bool (key_eq t.key k) _
      (λ s. absurd (let i : None ≡ Some b = sym once.0 ∙ ap (λ z. before_at z ts) (key_eq-true t.key k s) ∙ e in cc))
      (λ s. h k b (rw s e))),
)

found_has_key : (k : Key) (rows : List Row) → HasKey k (find_row k rows)
found_has_key k rows = by_row (find_row k rows) (HasKey k (find_row k rows)) (λ e. rw e tt) (λ r e. rw e (find_key k rows r e))

-- what a comparison picks is one of the two rows
abbrev Picks : (Option Row → Option Row → Option Row) → Type 0
Picks pick = (k : Key) (told now : Option Row) → HasKey k told → HasKey k now → HasKey k (pick told now)

abbrev at_touch : (Option Row → Option Row → Option Row) → List Row → Option FirstTouch → Option Row
at_touch pick now None = None
at_touch pick now (Some t) = pick t.before (find_row t.key now)

find-listed : (k q : Key) (o : Option Row) → HasKey k o → find_row q (listed_row o) ≡ cond (key_eq k q) o None
find-listed k q None h = elim (key_eq k q) as (λ b. None ≡ cond {A = Option Row} b None None) [ true ↦ refl | false ↦ refl ]
find-listed k q (Some r) h = ap (λ z. cond {A = Option Row} (key_eq z q) (Some r) None) h

-- the keys of what is picked are those that were touched
touched_only : (k : Key) (ts : List FirstTouch) → before_at k ts ≡ None → touch_at k ts ≡ None
touched_only k [] e = refl
touched_only k (t ∷ ts) e = by_bool (key_eq t.key k) _
    (λ s. absurd (let i : Some t.before ≡ None = rw s at e in cc))
    (λ s. rw s (touched_only k ts (rw s at e)))

or_none : (a b : Option Row) → b ≡ None → or_row a b ≡ a
or_none None b e = e
or_none (Some r) b e = refl

find-picked : (pick : Option Row → Option Row → Option Row) → Picks pick → (now : List Row) (q : Key) (ts : List FirstTouch) → EachOnce ts → HaveKeys ts → find_row q (picked_rows pick now ts) ≡ at_touch pick now (touch_at q ts)
find-picked pick ok now q [] once h = refl
find-picked pick ok now q (t ∷ ts) once h =
    let own = find-listed t.key q (pick t.before (find_row t.key now)) (ok t.key t.before (find_row t.key now) h.0 (found_has_key t.key now)) in
    let rest = find-picked pick ok now q ts once.1 h.1 in
    find-append q (listed_row (pick t.before (find_row t.key now))) (picked_rows pick now ts) ∙ ap (λ o. or_row o (find_row q (picked_rows pick now ts))) own ∙ by_bool (key_eq t.key q) _
    (λ s. rw s (or_none (pick t.before (find_row t.key now)) (find_row q (picked_rows pick now ts)) (rest ∙ ap (at_touch pick now) (touched_only q ts (ap (λ z. before_at z ts) (sym (key_eq-true t.key q s)) ∙ once.0)))))
    (λ s. rw s rest)

keyed-listed : (k : Key) (o : Option Row) (rows : List Row) → HasKey k o → find_row k rows ≡ None → Keyed rows → Keyed (listed_row o ++ rows)
keyed-listed k None rows own none kd = kd
keyed-listed k (Some r) rows own none kd = (ap (λ z. find_row z rows) own ∙ none, kd)

keyed-picked : (pick : Option Row → Option Row → Option Row) → Picks pick → (now : List Row) (ts : List FirstTouch) → EachOnce ts → HaveKeys ts → Keyed (picked_rows pick now ts)
keyed-picked pick ok now [] once h = tt
keyed-picked pick ok now (t ∷ ts) once h =
    keyed-listed t.key (pick t.before (find_row t.key now)) (picked_rows pick now ts)
    (ok t.key t.before (find_row t.key now) h.0 (found_has_key t.key now))
    (find-picked pick ok now t.key ts once.1 h.1 ∙ ap (at_touch pick now) (touched_only t.key ts once.0))
    (keyed-picked pick ok now ts once.1 h.1)

keep_key : (p : Row → Bool) (k : Key) (o : Option Row) → HasKey k o → HasKey k (keep p o)
keep_key p k None h = tt
keep_key p k (Some r) h = by_bool (p r) _ (λ t. rw t h) (λ t. rw t tt)

keep_none : (p : Row → Bool) (o : Option Row) → o ≡ None → keep p o ≡ None
keep_none p o e = rw e refl

-- a row that is as it was told is not picked
stays_itself : (r : Row) → stays (Some r) (Some r) ≡ true
stays_itself r = path_eq-same r.path

-- whether a key was touched, by its touch
not_before : (k : Key) (us : List FirstTouch) → touch_at k us ≡ None → before_at k us ≡ None
not_before k [] e = refl
not_before k (u ∷ us) e = by_bool (key_eq u.key k) _
    (λ s. absurd (let i : Some u ≡ None = rw s at e in cc))
    (λ s. rw s (not_before k us (rw s at e)))

before_there : (k : Key) (us : List FirstTouch) (t : FirstTouch) → touch_at k us ≡ Some t → (before_at k us ≡ Some t.before) × (t.key ≡ k)
before_there k [] t e = absurd cc
before_there k (u ∷ us) t e = by_bool (key_eq u.key k) _
    (λ s.
    let i : Some u ≡ Some t = rw s at e in
    let j : u ≡ t = cc in
    (rw s (ap (λ z. Some z.before) j), ap (λ z. z.key) (sym j) ∙ key_eq-true u.key k s))
    (λ s. let r = before_there k us t (rw s at e) in (rw s r.0, r.1))

-- the row that was there
abbrev pub stood : Option Row → Option Row → Option Row
stood told now = told

or_nothing : (o : Option Row) → or_row o None ≡ o
or_nothing None = refl
or_nothing (Some r) = refl

-- two lists without a key of both
keyed-append : (xs ys : List Row) → Keyed xs → Keyed ys → ((k : Key) (r : Row) → find_row k xs ≡ Some r → find_row k ys ≡ None) → Keyed (xs ++ ys)
keyed-append [] ys kx ky h = ky
keyed-append (x ∷ xs) ys kx ky h = (
  find-append (key x) xs ys ∙ rw kx.0 (h (key x) x (rw (key_eq-same (key x)) refl)),
  keyed-append xs ys kx.1 ky (λ k r e. by_bool (key_eq (key x) k) _ (λ t. h k x (rw t refl)) (λ t. h k r (rw t e))),
)

-- a row of these rows is found there
stands_there : (rows a : List Row) (r : Row) (b : List Row) → rows ≡ a ++ r ∷ b → IsRows rows → find_row (key r) rows ≡ Some r
stands_there rows a r b e ok = (split_of rows a r b e ok.ascending ok.keyed).there

-- the next row whose key was not touched
pub next_untouched : (ts : List FirstTouch) (rows a : List Row) (r : Row) (b got : List Row) → rows ≡ a ++ r ∷ b → IsRows rows → got ≡ filter (is_untouched ts) a → before_at (key r) ts ≡ None
    → got ++ listed_row (find_row (key r) rows) ≡ filter (is_untouched ts) (a ++ r ∷ [])
next_untouched ts rows a r b got e ok was none =
    let own : filter (is_untouched ts) (r ∷ []) ≡ r ∷ [] = rw none refl in
    (λ i. was i ++ listed_row (stands_there rows a r b e ok i)) ∙ ap (λ l. filter (is_untouched ts) a ++ l) (sym own) ∙ sym (filter-append (is_untouched ts) a (r ∷ []))

module _ (ts : List FirstTouch) (now told : List Row) (once : EachOnce ts) (new : IsRows now) (h : IsTold (λ k. before_at k ts) now told) where
  keys : HaveKeys ts
  keys = have_keys ts once (λ k b e.
      let f : b ≡ find_row k told = ap (λ o. told_or o (find_row k now)) (sym e) ∙ h.found k in
      subst (HasKey k) (sym f) (found_has_key k told))

  -- a key that was not touched has the row that was told
  untouched : (k : Key) → touch_at k ts ≡ None → find_row k now ≡ find_row k told
  untouched k e = ap (λ o. told_or o (find_row k now)) (sym (not_before k ts e)) ∙ h.found k

  -- one that was touched has the row that was there then
  told_there : (k : Key) (t : FirstTouch) → touch_at k ts ≡ Some t → (t.before ≡ find_row k told) × (t.key ≡ k)
  told_there k t e = let p = before_there k ts t e in (ap (λ o. told_or o (find_row k now)) (sym p.0) ∙ h.found k, p.1)

  -- the comparison of one key, where it was not touched and where it was
  by_touch : (k : Key) (pick : Option Row → Option Row → Option Row) (P : Option Row → Type 0) → (find_row k now ≡ find_row k told → P None) → P (pick (find_row k told) (find_row k now)) → P (at_touch pick now (touch_at k ts))
  by_touch k pick P none some = go (touch_at k ts) refl
    where
      go : (o : Option FirstTouch) → touch_at k ts ≡ o → P (at_touch pick now o)
      go None e = none (untouched k e)
      go (Some t) e =
          let w = told_there k t e in
          subst P (λ i. pick (sym w.0 i) (find_row (sym w.1 i) now)) some

  own_row : (k : Key) (rows : List Row) (r : Row) → find_row k rows ≡ Some r → find_row (key r) rows ≡ Some r
  own_row k rows r e = ap (λ z. find_row z rows) (find_key k rows r e) ∙ e

  -- where the key's row is the same in both lists it is in none of the three
  outs_none : (k : Key) → find_row k now ≡ find_row k told → keep (λ r. not (stays (Some r) (find_row (key r) now))) (find_row k told) ≡ None
  outs_none k e = by_row (find_row k told) _
      (λ n. rw n refl)
      (λ r n. let i : find_row (key r) now ≡ Some r = own_row k now r (e ∙ n) in rw (n, i, stays_itself r) refl)

  ins_none : (k : Key) → find_row k now ≡ find_row k told → keep (λ r. not (stays (find_row (key r) told) (Some r))) (find_row k now) ≡ None
  ins_none k e = by_row (find_row k now) _
      (λ n. rw n refl)
      (λ r n. let i : find_row (key r) told ≡ Some r = own_row k told r (sym e ∙ n) in rw (n, i, stays_itself r) refl)

  changed_none : (k : Key) → find_row k now ≡ find_row k told → keep (λ r. change_list (find_row (key r) told) (Some r)) (find_row k now) ≡ None
  changed_none k e = by_row (find_row k now) _
      (λ n. rw n refl)
      (λ r n. let i : find_row (key r) told ≡ Some r = own_row k told r (sym e ∙ n) in rw (n, i, item_eq-same r.item, stays_itself r) refl)

  -- the key of a row that is kept is that of the look-up
  outs_some : (k : Key) → leaving_row (find_row k told) (find_row k now) ≡ keep (λ r. not (stays (Some r) (find_row (key r) now))) (find_row k told)
  outs_some k = by_row (find_row k told) _
      (λ n. rw n refl)
      (λ r n. rw n (ap (λ q. keep (λ x. not (stays (Some x) (find_row q now))) (Some r)) (sym (find_key k told r n))))

  ins_some : (k : Key) → coming_row (find_row k told) (find_row k now) ≡ keep (λ r. not (stays (find_row (key r) told) (Some r))) (find_row k now)
  ins_some k = by_row (find_row k now) _
      (λ n. rw n refl)
      (λ r n. rw n (ap (λ q. keep (λ x. not (stays (find_row q told) (Some x))) (Some r)) (sym (find_key k now r n))))

  changed_some : (k : Key) → changed_pair (find_row k told) (find_row k now) ≡ keep (λ r. change_list (find_row (key r) told) (Some r)) (find_row k now)
  changed_some k = by_row (find_row k now) _
      (λ n. rw n refl)
      (λ r n. rw n (ap (λ q. keep (λ x. change_list (find_row q told) (Some x)) (Some r)) (sym (find_key k now r n))))

  found_outs : (p : Row → Bool) (k : Key) → at_touch (λ t n. keep p (leaving_row t n)) now (touch_at k ts) ≡ find_row k (filter p (outs told now))
  found_outs p k =
      by_touch k (λ t n. keep p (leaving_row t n)) (λ o. o ≡ keep p (keep (λ r. not (stays (Some r) (find_row (key r) now))) (find_row k told)))
      (λ e. sym (ap (keep p) (outs_none k e)))
      (ap (keep p) (outs_some k))
      ∙ sym (ap (keep p) (find-filter (λ r. not (stays (Some r) (find_row (key r) now))) k told h.held.keyed))
      ∙ sym (find-filter p k (outs told now) (keyed-filter _ told h.held.keyed))

  found_ins : (p : Row → Bool) (k : Key) → at_touch (λ t n. keep p (coming_row t n)) now (touch_at k ts) ≡ find_row k (filter p (ins told now))
  found_ins p k =
      by_touch k (λ t n. keep p (coming_row t n)) (λ o. o ≡ keep p (keep (λ r. not (stays (find_row (key r) told) (Some r))) (find_row k now)))
      (λ e. sym (ap (keep p) (ins_none k e)))
      (ap (keep p) (ins_some k))
      ∙ sym (ap (keep p) (find-filter (λ r. not (stays (find_row (key r) told) (Some r))) k now new.keyed))
      ∙ sym (find-filter p k (ins told now) (keyed-filter _ now new.keyed))

  found_changed : (k : Key) → at_touch changed_pair now (touch_at k ts) ≡ find_row k (changed_rows told now)
  found_changed k =
      by_touch k changed_pair (λ o. o ≡ keep (λ r. change_list (find_row (key r) told) (Some r)) (find_row k now))
      (λ e. sym (changed_none k e))
      (changed_some k)
      ∙ sym (find-filter (λ r. change_list (find_row (key r) told) (Some r)) k now new.keyed)

  leaving_picks : (p : Row → Bool) → Picks (λ t n. keep p (leaving_row t n))
  leaving_picks p k t n a b = keep_key p k (leaving_row t n) (keep_key _ k t a)

  coming_picks : (p : Row → Bool) → Picks (λ t n. keep p (coming_row t n))
  coming_picks p k t n a b = keep_key p k (coming_row t n) (keep_key _ k n b)

  changing_picks : Picks changed_pair
  changing_picks k t n a b = keep_key _ k n b

  -- once they are sorted
  pub outs_law : (p : Row → Bool) (rows : List Row) → IsPermutation (picked_rows (λ t n. keep p (leaving_row t n)) now ts) rows → IsSortedBy before rows → rows ≡ filter p (outs told now)
  outs_law p rows m s =
      let pick : Option Row → Option Row → Option Row = λ t n. keep p (leaving_row t n) in
      sorted_is (picked_rows pick now ts) rows (filter p (outs told now)) m s
      (keyed-picked pick (leaving_picks p) now ts once keys)
      (ascending-filter p _ (ascending-filter _ told h.held.ascending))
      (keyed-filter p _ (keyed-filter _ told h.held.keyed))
      (λ k. find-picked pick (leaving_picks p) now k ts once keys ∙ found_outs p k)

  pub ins_law : (p : Row → Bool) (rows : List Row) → IsPermutation (picked_rows (λ t n. keep p (coming_row t n)) now ts) rows → IsSortedBy before rows → rows ≡ filter p (ins told now)
  ins_law p rows m s =
      let pick : Option Row → Option Row → Option Row = λ t n. keep p (coming_row t n) in
      sorted_is (picked_rows pick now ts) rows (filter p (ins told now)) m s
      (keyed-picked pick (coming_picks p) now ts once keys)
      (ascending-filter p _ (ascending-filter _ now new.ascending))
      (keyed-filter p _ (keyed-filter _ now new.keyed))
      (λ k. find-picked pick (coming_picks p) now k ts once keys ∙ found_ins p k)

  pub changed_law : (rows : List Row) → IsPermutation (picked_rows changed_pair now ts) rows → IsSortedBy before rows → rows ≡ changed_rows told now
  changed_law rows m s =
      sorted_is (picked_rows changed_pair now ts) rows (changed_rows told now) m s
      (keyed-picked changed_pair changing_picks now ts once keys)
      (ascending-filter _ now new.ascending)
      (keyed-filter _ now new.keyed)
      (λ k. find-picked changed_pair changing_picks now k ts once keys ∙ found_changed k)

  -- the rows whose keys were not touched, and those that were at the touches
  kept_rows : (k : Key) (o : Option FirstTouch) → touch_at k ts ≡ o → keep (is_untouched ts) (find_row k now) ≡ elim o [ None ↦ find_row k now | Some t ↦ None ]
  kept_rows k None e = by_row (find_row k now) _
      (λ n. rw n refl)
      (λ r n. let i : before_at (key r) ts ≡ None = ap (λ z. before_at z ts) (find_key k now r n) ∙ not_before k ts e in rw (n, i) refl)
  kept_rows k (Some t) e = by_row (find_row k now) _
      (λ n. rw n refl)
      (λ r n. let i : before_at (key r) ts ≡ Some t.before = ap (λ z. before_at z ts) (find_key k now r n) ∙ (before_there k ts t e).0 in rw (n, i) refl)

  stood_picks : Picks stood
  stood_picks k t n a b = a

  found_told : (k : Key) → find_row k (filter (is_untouched ts) now ++ picked_rows stood now ts) ≡ find_row k told
  found_told k =
      find-append k (filter (is_untouched ts) now) (picked_rows stood now ts)
      ∙ (λ i. or_row (find-filter (is_untouched ts) k now new.keyed i) (find-picked stood stood_picks now k ts once keys i))
      ∙ go (touch_at k ts) refl
    where
      go : (o : Option FirstTouch) → touch_at k ts ≡ o → or_row (keep (is_untouched ts) (find_row k now)) (at_touch stood now o) ≡ find_row k told
      go None e = ap (λ z. or_row z None) (kept_rows k None e) ∙ or_nothing (find_row k now) ∙ untouched k e
      go (Some t) e = ap (λ z. or_row z t.before) (kept_rows k (Some t) e) ∙ (told_there k t e).0

  keyed_told : Keyed (filter (is_untouched ts) now ++ picked_rows stood now ts)
  keyed_told = keyed-append (filter (is_untouched ts) now) (picked_rows stood now ts) (keyed-filter (is_untouched ts) now new.keyed) (keyed-picked stood stood_picks now ts once keys)
      (λ k r e. find-picked stood stood_picks now k ts once keys ∙ apart k r (touch_at k ts) refl (sym (find-filter (is_untouched ts) k now new.keyed) ∙ e))
    where
      apart : (k : Key) (r : Row) (o : Option FirstTouch) → touch_at k ts ≡ o → keep (is_untouched ts) (find_row k now) ≡ Some r → at_touch stood now o ≡ None
      apart k r None e f = refl
      apart k r (Some t) e f = no_row r (sym f ∙ kept_rows k (Some t) e)

  pub told_law : (rows : List Row) → IsPermutation (filter (is_untouched ts) now ++ picked_rows stood now ts) rows → IsSortedBy before rows → rows ≡ told
  told_law rows m s = sorted_is (filter (is_untouched ts) now ++ picked_rows stood now ts) rows told m s keyed_told h.held.ascending h.held.keyed found_told
