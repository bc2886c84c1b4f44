-- What a nicklist keeps of its parts is kept by each edit.
use Rattle.std.proofs.Common.{◌≡◌, ℕ, Bool, true, false, cond, ◌&&◌, Option, Some, None, List, [], ◌∷◌, ◌++◌, length, refl, sym, ap, ◌∙◌, subst, arith}
use Rattle.std.specs.Prelude.{◌==◌, IsSome, IsSomeAnd, is_some, nat_eq}
use Rattle.std.proofs.lemmas.Bool.{true≢false, eqb-true, eq-eqb}
use Rattle.std.proofs.lemmas.Bool.Decides.{nat_tests}
use Rattle.wc_nicklist.specs.declared.index.Index.{Index}
use Rattle.wc_nicklist.specs.declared.item.Item.{Item}
use Rattle.wc_nicklist.specs.declared.item.Key.{Key}
use Rattle.wc_nicklist.specs.declared.item.Row.{Row}
use Rattle.wc_nicklist.specs.declared.refused.NickRefused.{NickRefused}
use Rattle.wc_nicklist.specs.declared.refused.NickRefused.TheVariants.{NoMemory, IsRoot, BadName}
use Rattle.wc_nicklist.specs.declared.room.Room.{Room}
use Rattle.wc_nicklist.specs.declared.store.RowId.{RowId}
use Rattle.wc_nicklist.specs.declared.store.Store.{Store}
use Rattle.wc_nicklist.specs.Calls.{is_bad_name, when, or_else, name_refusal, row_under, has_children}
use Rattle.wc_nicklist.specs.Index.{id_in}
use Rattle.wc_nicklist.specs.Kept.{row_under_id, IndexesRows, RoomIsFree, IfRoom, parent_in, IsNicklistKept}
use Rattle.wc_nicklist.specs.Order.{key, key_at, group_key}
use Rattle.wc_nicklist.specs.Rows.{key_eq, find_row, insert_row, remove_row, changed_row, replace_row, change_found, change_row, is_root, below_row, path_below, TextsAreUtf8, IsRows}
use Rattle.wc_nicklist.specs.Stored.{row_at, Stored}
use Rattle.wc_nicklist.proofs.Held.{by_row, held-insert, held-remove, held-change}
use Rattle.wc_nicklist.proofs.OrderLaws.{by_bool, key_eq-true}
use Rattle.wc_nicklist.proofs.Refusals.{is_name}
use Rattle.wc_nicklist.proofs.RowLaws.{key_eq-at, find_key, find-insert, find-remove, find-replace}

pub is_there : (o : Option Row) → IsSome o → (r : Row) × (o ≡ Some r)
is_there None h = absurd (true≢false (sym h))
is_there (Some r) h = (r, refl)

-- the row under the number that the index has
pub id_row : (stored : Stored) (index : Index) (k : Key) (j : RowId) → IndexesRows stored index → id_in index k ≡ Some j → (r : Row) × (row_at stored.store j.0 ≡ Some r) × (find_row k stored.rows ≡ Some r)
id_row stored index k j h e =
    let row : row_at stored.store j.0 ≡ find_row k stored.rows = ap (row_under_id stored) (sym e) ∙ h.rows k in
    let some : true ≡ is_some (find_row k stored.rows) = ap is_some (sym e) ∙ h.some k in
    let r = is_there (find_row k stored.rows) (sym some) in
    (r.0, row ∙ r.1, r.1)

pub no_id : (stored : Stored) (index : Index) (k : Key) → IndexesRows stored index → id_in index k ≡ None → find_row k stored.rows ≡ None
no_id stored index k h e = sym (h.rows k) ∙ ap (row_under_id stored) e

-- the row under the number of a key is the one that is found
pub id_known : (stored : Stored) (index : Index) (k : Key) (j : RowId) → IndexesRows stored index → id_in index k ≡ Some j → IsSomeAnd (row_at stored.store j.0) (λ r. find_row (key r) stored.rows ≡ Some r)
id_known stored index k j h e =
    let x = id_row stored index k j h e in
    let P : Option Row → Type 0 = λ o. IsSomeAnd o (λ r. find_row (key r) stored.rows ≡ Some r) in
    subst P (sym x.1) (ap (λ z. find_row z stored.rows) (find_key k stored.rows x.0 x.2) ∙ x.2)

-- the row stays under its number where only another number's changes
kept_under : (stored after : Stored) (index : Index) (k : Key) (n : ℕ) → IndexesRows stored index → ((m : ℕ) → (n ≡ m → ⊥) → row_at after.store m ≡ row_at stored.store m) → ((r : Row) → row_at stored.store n ≡ Some r → find_row k stored.rows ≡ Some r → ⊥) → row_under_id after (id_in index k) ≡ find_row k stored.rows
kept_under stored after index k n h same apart = go (id_in index k) refl
  where
    go : (o : Option RowId) → id_in index k ≡ o → row_under_id after o ≡ find_row k stored.rows
    go None e = sym (no_id stored index k h e)
    go (Some j) e = let r = id_row stored index k j h e in same j.0 (λ i. apart r.0 (ap (row_at stored.store) i ∙ r.1) r.2) ∙ r.1 ∙ sym r.2

other_number : (s t : Store) (n : ℕ) (w : Option Row) → ((m : ℕ) → row_at t m ≡ cond (nat_eq n m) w (row_at s m)) → (m : ℕ) → (n ≡ m → ⊥) → row_at t m ≡ row_at s m
other_number s t n w after m o = after m ∙ by_bool (nat_eq n m) _ (λ y. absurd (o (eqb-true n m y))) (λ y. rw y refl)

own_number : (s t : Store) (n : ℕ) (w : Option Row) → ((m : ℕ) → row_at t m ≡ cond (nat_eq n m) w (row_at s m)) → row_at t n ≡ w
own_number s t n w after = let y = eq-eqb n n refl in after n ∙ rw y refl

-- where a number is chosen as its row is
some_of : (b : Bool) (v w : Option RowId) (x y : Option Row) → is_some v ≡ is_some x → is_some w ≡ is_some y → is_some (cond b v w) ≡ is_some (cond b x y)
some_of true v w x y h l = h
some_of false v w x y h l = l

row_of_either : (after : Stored) (b : Bool) (v w : Option RowId) (x y : Option Row) → (b ≡ true → row_under_id after v ≡ x) → (b ≡ false → row_under_id after w ≡ y) → row_under_id after (cond b v w) ≡ cond b x y
row_of_either after true v w x y h l = h refl
row_of_either after false v w x y h l = l refl

-- an item is added where room was made
pub put_kept : (stored after : Stored) (index next : Index) (r : Room) (g : Bool) (i : Item) (n : List ℕ) (x : Row) (id : RowId)
    → IsRows stored.rows → IndexesRows stored index → RoomIsFree stored index r
    → find_row (key_at g i.name) stored.rows ≡ None → name_refusal g i.name ≡ None → TextsAreUtf8 i
    → n ≡ i.name → x ≡ row_under g r.path i → after.rows ≡ insert_row x stored.rows
    → row_at stored.store id.0 ≡ None
    → ((m : ℕ) → row_at after.store m ≡ cond (nat_eq id.0 m) (Some x) (row_at stored.store m))
    → ((k : Key) → id_in next k ≡ cond (key_eq (key_at g n) k) (Some id) (id_in index k))
    → IsNicklistKept after next None
put_kept stored after index next r g i n x id ok indexed room absent named utf8 en ex rows_are fresh at ids_are =
    let name = is_name g i.name named in
    let row = row_under g r.path i in
    let rows : after.rows ≡ insert_row row stored.rows = rows_are ∙ ap (λ z. insert_row z stored.rows) ex in
    let ids : (k : Key) → id_in next k ≡ cond (key_eq (key row) k) (Some id) (id_in index k) = λ k. ids_are k ∙ ap (λ z. cond (key_eq (key_at g z) k) (Some id) (id_in index k)) en in
    let found : (k : Key) → find_row k after.rows ≡ cond (key_eq (key row) k) (Some row) (find_row k stored.rows) = λ k. ap (find_row k) rows ∙ find-insert row k stored.rows absent in
    record {
      held = subst IsRows (sym rows) (held-insert stored.rows g r.parent r.path i ok room.parent absent name.bounds name.no_root utf8);
      indexed = record {
        rows = λ k.
            ap (row_under_id after) (ids k)
            ∙ row_of_either after (key_eq (key row) k) (Some id) (id_in index k) (Some row) (find_row k stored.rows)
            (λ t. own_number stored.store after.store id.0 (Some x) at ∙ ap Some ex)
            (λ t. kept_under stored after index k id.0 indexed (other_number stored.store after.store id.0 (Some x) at) (λ q h _. let j : None ≡ Some q = sym fresh ∙ h in cc))
            ∙ sym (found k);
        some = λ k. ap is_some (ids k) ∙ some_of (key_eq (key row) k) (Some id) (id_in index k) (Some row) (find_row k stored.rows) refl (indexed.some k) ∙ sym (ap is_some (found k));
      };
      prepared = tt;
    }

kind_of : (g : Bool) (name : List ℕ) (rows : List Row) (r : Row) → find_row (key_at g name) rows ≡ Some r → r.item.is_group ≡ g
kind_of g name rows r e = ap (λ k. k.is_group) (find_key (key_at g name) rows r e)

-- two keys have two numbers
apart_from : (k q : Key) (rows : List Row) (r : Row) → find_row k rows ≡ Some r → key_eq k q ≡ false → (x : Row) → x ≡ r → find_row q rows ≡ Some x → ⊥
apart_from k q rows r found t x same there =
    let one : k ≡ q = sym (find_key k rows r found) ∙ ap key (sym same) ∙ find_key q rows x there in
    true≢false (sym (key_eq-at k q one) ∙ t)

-- a row without children is taken out
pub take_kept : (stored after : Stored) (index next : Index) (g : Bool) (name : List ℕ) (r : Row) (id : RowId)
    → IsRows stored.rows → IndexesRows stored index
    → find_row (key_at g name) stored.rows ≡ Some r
    → row_at stored.store id.0 ≡ Some r
    → (g ≡ true → has_children (find_row (key_at g name) stored.rows) stored.rows ≡ false)
    → after.rows ≡ remove_row (key_at g name) stored.rows
    → ((m : ℕ) → row_at after.store m ≡ cond (nat_eq id.0 m) None (row_at stored.store m))
    → ((k : Key) → id_in next k ≡ cond (key_eq (key_at g name) k) None (id_in index k))
    → IsNicklistKept after next None
take_kept stored after index next g name r id ok indexed found there childless rows_are at ids =
    let q = key_at g name in
    let gone : (k : Key) → find_row k after.rows ≡ cond (key_eq q k) None (find_row k stored.rows) = λ k. ap (find_row k) rows_are ∙ find-remove q k stored.rows in
    record {
      held = subst IsRows (sym rows_are) (held-remove stored.rows q r ok found (λ group. ap (λ o. has_children o stored.rows) (sym found) ∙ childless (sym (kind_of g name stored.rows r found) ∙ group)));
      indexed = record {
        rows = λ k.
            ap (row_under_id after) (ids k)
            ∙ row_of_either after (key_eq q k) None (id_in index k) None (find_row k stored.rows)
            (λ t. refl)
            (λ t. kept_under stored after index k id.0 indexed (other_number stored.store after.store id.0 None at) (λ x h. apart_from q k stored.rows r found t x (same_some (sym h ∙ there))))
            ∙ sym (gone k);
        some = λ k. ap is_some (ids k) ∙ some_of (key_eq q k) None (id_in index k) None (find_row k stored.rows) refl (indexed.some k) ∙ sym (ap is_some (gone k));
      };
      prepared = tt;
    }
  where
    same_some : {x y : Row} → Some x ≡ Some y → x ≡ y
    same_some {x} {y} e = cc

-- the item of a row is written
pub write_kept : (stored after : Stored) (index : Index) (k : Key) (r : Row) (i : Item) (id : RowId)
    → IsRows stored.rows → IndexesRows stored index
    → find_row k stored.rows ≡ Some r → id_in index k ≡ Some id → TextsAreUtf8 i
    → after.rows ≡ change_row k i stored.rows
    → ((m : ℕ) → row_at after.store m ≡ cond (nat_eq id.0 m) (Some (changed_row r i)) (row_at stored.store m))
    → IsNicklistKept after index None
write_kept stored after index k r i id ok indexed found own utf8 rows_are at =
    let s = changed_row r i in
    let rows : after.rows ≡ replace_row s stored.rows = rows_are ∙ ap (λ o. change_found o i stored.rows) found in
    let mine : find_row (key s) stored.rows ≡ Some r = ap (λ z. find_row z stored.rows) (find_key k stored.rows r found) ∙ found in
    let now : (q : Key) → find_row q after.rows ≡ cond (key_eq (key s) q) (Some s) (find_row q stored.rows) = λ q. ap (find_row q) rows ∙ find-replace s r q stored.rows mine in
    let same : key s ≡ k = find_key k stored.rows r found in
    record {
      held = subst IsRows (sym rows) (held-change stored.rows k r i ok found utf8);
      indexed = record {
        rows = λ q. by_bool (key_eq (key s) q) _
            (λ t.
            let j : id_in index q ≡ Some id = ap (id_in index) (sym (key_eq-true (key s) q t) ∙ same) ∙ own in
            ap (row_under_id after) j ∙ own_number stored.store after.store id.0 (Some s) at ∙ sym (now q ∙ rw t refl))
            (λ t.
            let x = id_row stored index k id indexed own in
            kept_under stored after index q id.0 indexed (other_number stored.store after.store id.0 (Some s) at) (λ z h. apart_from (key s) q stored.rows r mine t z (same_some (sym h ∙ x.1 ∙ sym x.2 ∙ found))) ∙ sym (now q ∙ rw t refl));
        some = λ q. indexed.some q ∙ sym (ap is_some (now q) ∙ by_bool (key_eq (key s) q) _
            (λ t. rw t (ap is_some (sym (ap (λ z. find_row z stored.rows) (sym (key_eq-true (key s) q t)) ∙ mine))))
            (λ t. rw t refl));
      };
      prepared = tt;
    }
  where
    same_some : {x y : Row} → Some x ≡ Some y → x ≡ y
    same_some {x} {y} e = cc

-- the path below a parent, by its row
pub below_root : (p : List ℕ) (rows : List Row) → IsSome (path_below p rows) → find_row (group_key p) rows ≡ None → path_below p rows ≡ Some []
unfolding path_below
below_root p rows h n = by_bool (is_root p) _
    (λ t. rw t refl)
    (λ t. absurd (true≢false (sym (let i : IsSome (cond (is_root p) (Some []) (below_row (find_row (group_key p) rows))) = h in rw (t, n) at i))))

pub below_group : (p : List ℕ) (rows : List Row) (r : Row) → IsRows rows → find_row (group_key p) rows ≡ Some r → path_below p rows ≡ Some (r.path ++ p ∷ [])
unfolding path_below
below_group p rows r ok e =
    let k = find_key (group_key p) rows r e in
    let group : r.item.is_group ≡ true = ap (λ z. z.is_group) k in
    let name : r.item.name ≡ p = ap (λ z. z.name) k in
    let no : is_root p ≡ false = no_root_at r.item.is_group r.item.name group name (ok.held (group_key p) r e).no_root in
    rw (no, e) (λ j. Some (r.path ++ name j ∷ []))
  where
    no_root_at : (g : Bool) (n : List ℕ) → g ≡ true → n ≡ p → g && is_root n ≡ false → is_root p ≡ false
    no_root_at false n e i h = absurd (true≢false (sym e))
    no_root_at true n e i h = ap is_root (sym i) ∙ h

pub parent_root : (p : List ℕ) (rows : List Row) → is_root p ≡ true → true ≡ is_some (path_below p rows)
unfolding path_below
parent_root p rows t = rw t refl

pub parent_group : (p : List ℕ) (rows : List Row) → is_root p ≡ false → is_some (find_row (group_key p) rows) ≡ is_some (path_below p rows)
unfolding path_below
parent_group p rows t = rw t (by_row (find_row (group_key p) rows) _ (λ e. rw e refl) (λ r e. rw e refl))

-- room stands for a parent that is there
pub room_parent : (stored : Stored) (index : Index) (o : Option Room) (p : List ℕ) → IfRoom stored index o → parent_in o ≡ Some p → is_some (path_below p stored.rows) ≡ true
room_parent stored index None p h e = absurd cc
room_parent stored index (Some r) p h e = let same : r.parent ≡ p = cc in ap (λ q. is_some (path_below q stored.rows)) (sym same) ∙ ap is_some h.parent

-- a name is never refused for want of memory
pub not_memory : (g : Bool) (name : List ℕ) (e : NickRefused) → name_refusal g name ≡ Some e → e ≡ NoMemory → ⊥
unfolding name_refusal
not_memory g name e h m = go (g && is_root name) (is_bad_name name) h
  where
    go : (root bad : Bool) → or_else (when root IsRoot) (when bad (BadName (length name))) ≡ Some e → ⊥
    go true bad i = let j : Some IsRoot ≡ Some NoMemory = i ∙ ap Some m in cc
    go false true i = let j : Some (BadName (length name)) ≡ Some NoMemory = i ∙ ap Some m in cc
    go false false i = cc

pub no_names : (path : List (List ℕ)) → (length path == 0) ≡ true → [] ≡ path
no_names [] e = refl
no_names (n ∷ ns) e = let none : length (n ∷ ns) ≡ 0 = grind (arith, nat_tests) in absurd (omega (arith, none))
