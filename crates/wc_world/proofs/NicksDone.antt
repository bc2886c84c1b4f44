-- Changes of groups and nicks: from what was done to the fields of a world to the clauses on the world.
use Rattle.std.proofs.Common.{◌≡◌, ◌≢◌, ℕ, ◌+◌, ◌<◌, ◌≤◌, ◌^◌, Bool, true, false, ◌&&◌, cond, ltb, List, [], ◌∷◌, length, Option, Some, None, unwrap_or, is_some, refl, ap, sym, subst, ◌∙◌, arith, lt-ltb, le-ltb}
use Rattle.std.specs.FinMap.{get, insert}
use Rattle.std.specs.HashMap.{HashMap}
use Rattle.std.proofs.lemmas.Bool.{true≢false}
use borrow.Author.Tests.{ltb-false, leb-false, le-leb, lt-leb}
use Rattle.wc_text.specs.declared.names.Handle.{Handle}
use Rattle.wc_lines.specs.Held.{RingView}
use Rattle.wc_nicklist.specs.declared.item.Item.{Item}
use Rattle.wc_nicklist.specs.declared.item.Key.{Key}
use Rattle.wc_nicklist.specs.declared.item.Row.{Row}
use Rattle.wc_nicklist.specs.declared.refused.NickRefused.{NickRefused}
use Rattle.wc_nicklist.specs.declared.refused.NickRefused.TheVariants.{IsRoot, BadName, NoParent, NameTaken, NoSuch, NotEmpty, NoMemory}
use Rattle.wc_nicklist.specs.Calls as calls
use Rattle.wc_nicklist.specs.Order.{key_at}
use Rattle.wc_nicklist.specs.Rows.{Nicks, find_row, remove_row, change_row, change_found, path_below, is_root, TextsAreUtf8, IsRows}
use Rattle.wc_nicklist.specs.Touched.{first_touch}
use Rattle.wc_buffers.specs.declared.refused.BufferRefused.{BufferRefused}
use Rattle.wc_buffers.specs.Calls.{EntryGroups, no_buffer, buffer_of}
use Rattle.wc_model.specs.declared.change.What.{What}
use Rattle.wc_model.specs.declared.notice.EventKind.TheVariants as kinds
use Rattle.wc_model.specs.declared.notice.Notice.{Notice}
use Rattle.wc_model.specs.declared.refused.ChangeRefused.{ChangeRefused}
use Rattle.wc_model.specs.World.{World, lines_at, rows_at, row_count, row_limit}
use Rattle.wc_model.specs.Apply.{refusal_of, after_of, or_else, of_buffers, of_nicks, too_many_rows, adds_row, removes_row, changes_row, with_rows, item_with, handle_in}
use Rattle.wc_model.specs.Notices.{notice_of, notice_at, name_in, flips_between, Accepted}
use Rattle.wc_model.specs.Touches.{touched_key, touched_at, touched_by}
use Rattle.wc_world.specs.declared.line_limit.LineLimit.{LineLimit}
use Rattle.wc_world.specs.Kept.{world_of, IsWorld}
use Rattle.wc_world.specs.Nicks.{list_at, rows_of, rows_map, with_edit, IsListChangedAt, IsCut, AreCut, AreNicks, add_of, remove_of, change_of_rows, refused_by_nicks}
use Rattle.wc_world.specs.Told.{told_at}
use Rattle.wc_world.proofs.Done.{are_apart, no_flips_between}
use Rattle.wc_world.proofs.FlipLemmas.{no_flips}
use Rattle.wc_nicklist.proofs.Lengths.{length-insert_row, length-remove_row, length-change_row}
use Rattle.wc_nicklist.proofs.Held.{held-insert, held-remove, held-change}
use Rattle.wc_nicklist.proofs.RowLaws.{find_key}
use Rattle.wc_nicklist.proofs.Refusals.{is_name, may_add as nicklist_may_add, may_remove}
use Rattle.wc_world.proofs.CutItems.{added_cut, removed_cut, changed_cut}
use Rattle.wc_world.proofs.NickLemmas.{rows_there, rows_within, some_list, list_put, put_rows, nicks_changed, all_held}

-- ---- the six kinds, by the kind of the item

module _ (w : World) (h : Handle) (g : Bool) where
  pub adding_refused : (parent : List ℕ) (item : Item) → refusal_of w h (add_of g parent item) ≡ adds_row w h g parent item
  unfolding refusal_of
  adding_refused parent item = by g
    where
      by : (g : Bool) → refusal_of w h (add_of g parent item) ≡ adds_row w h g parent item
      by true = refl
      by false = refl

  pub removing_refused : (name : List ℕ) → refusal_of w h (remove_of g name) ≡ removes_row w h g name
  unfolding refusal_of
  removing_refused name = by g
    where
      by : (g : Bool) → refusal_of w h (remove_of g name) ≡ removes_row w h g name
      by true = refl
      by false = refl

  pub changing_refused : (item : Item) → refusal_of w h (change_of_rows g item) ≡ changes_row w h g item
  unfolding refusal_of
  changing_refused item = by g
    where
      by : (g : Bool) → refusal_of w h (change_of_rows g item) ≡ changes_row w h g item
      by true = refl
      by false = refl

  -- the world with these rows of the buffer and this next handle
  abbrev pub with_list : List Row → ℕ → World
  with_list rows next = record (with_rows w h rows) { next = next }

  pub after_adding : (parent : List ℕ) (item : Item) → after_of w h (add_of g parent item) ≡ with_list (calls.add_row g parent (item_with (record { 0 = w.next }) item) (rows_at w h.0)) (w.next + 1)
  unfolding after_of
  after_adding parent item = by g
    where
      by : (g : Bool) → after_of w h (add_of g parent item) ≡ with_list (calls.add_row g parent (item_with (record { 0 = w.next }) item) (rows_at w h.0)) (w.next + 1)
      by true = refl
      by false = refl

  pub after_removing : (name : List ℕ) → after_of w h (remove_of g name) ≡ with_list (remove_row (key_at g name) (rows_at w h.0)) w.next
  unfolding after_of
  after_removing name = by g
    where
      by : (g : Bool) → after_of w h (remove_of g name) ≡ with_list (remove_row (key_at g name) (rows_at w h.0)) w.next
      by true = refl
      by false = refl

  pub after_changing : (item : Item) → after_of w h (change_of_rows g item) ≡ with_list (change_row (key_at g item.name) (item_with (handle_in (find_row (key_at g item.name) (rows_at w h.0))) item) (rows_at w h.0)) w.next
  unfolding after_of
  after_changing item = by g
    where
      by : (g : Bool) → after_of w h (change_of_rows g item) ≡ with_list (change_row (key_at g item.name) (item_with (handle_in (find_row (key_at g item.name) (rows_at w h.0))) item) (rows_at w h.0)) w.next
      by true = refl
      by false = refl

-- what is noticed of such a change, and the key that it touches
pub record IsNickChange (what : What) (key : Key) : Type 0 where
  pub told : (w b : World) (h : Handle) → notice_of w b h what ≡ notice_at kinds.NickTouched h b.groups [] (flips_between w b)
  pub touched : touched_key what ≡ Some key

pub is_adding : (g : Bool) (parent : List ℕ) (item : Item) → IsNickChange (add_of g parent item) (key_at g item.name)
is_adding true parent item = record { told = λ w b h. refl; touched = refl }
is_adding false parent item = record { told = λ w b h. refl; touched = refl }

pub is_removing : (g : Bool) (name : List ℕ) → IsNickChange (remove_of g name) (key_at g name)
is_removing true name = record { told = λ w b h. refl; touched = refl }
is_removing false name = record { told = λ w b h. refl; touched = refl }

pub is_changing : (g : Bool) (item : Item) → IsNickChange (change_of_rows g item) (key_at g item.name)
is_changing true item = record { told = λ w b h. refl; touched = refl }
is_changing false item = record { told = λ w b h. refl; touched = refl }

-- the touch of the row that is
pub row_touched : (w v : World) (h : Handle) (what : What) (key k : Key) (before : Option Row) (first now : Handle → Key → Option (Option Row))
    → w ≡ v → IsNickChange what key → k ≡ key → before ≡ find_row key (rows_at w h.0) → ((b : Handle) (q : Key) → now b q ≡ first_touch h k before first b q) → (b : Handle) (q : Key) → now b q ≡ touched_by v h what first b q
row_touched w v h what key k before first now is n e f t b q =
    t b q
    ∙ (λ i. first_touch h (e i) (f i) first b q)
    ∙ sym (ap (λ o. touched_for o) n.touched)
    ∙ ap (λ v. touched_by v h what first b q) is
  where
    touched_for : Option Key → Option (Option Row)
    touched_for o = touched_at w h o first b q

-- ---- refusals

module _ (w : World) (h : Handle) (g : Bool) (parent : List ℕ) (item : Item) where
  pub add_nowhere : (e : BufferRefused) → no_buffer h w.groups ≡ Some e → adds_row w h g parent item ≡ Some (ChangeRefused.Buffer e)
  add_nowhere e r = rw r refl

  pub add_refused : (e : NickRefused) → no_buffer h w.groups ≡ None → calls.add_refusal g parent item.name (rows_at w h.0) ≡ Some e → adds_row w h g parent item ≡ Some (ChangeRefused.Nick e)
  add_refused e b r = rw (b, r) refl

  pub add_full : no_buffer h w.groups ≡ None → calls.add_refusal g parent item.name (rows_at w h.0) ≡ None → row_limit ≤ row_count w → adds_row w h g parent item ≡ Some (ChangeRefused.TooManyRows row_limit)
  add_full b r f = let full = le-leb row_limit (row_count w) f in rw (b, r, full) refl

  pub add_spent : no_buffer h w.groups ≡ None → calls.add_refusal g parent item.name (rows_at w h.0) ≡ None → row_count w < row_limit → 2 ^ 62 < w.next → adds_row w h g parent item ≡ Some ChangeRefused.Spent
  add_spent b r f l = let few = lt-leb row_limit (row_count w) f in let room : ltb (2 ^ 62 + 1) (w.next + 1) ≡ true = lt-ltb (2 ^ 62 + 1) (w.next + 1) (omega arith) in rw (b, r, few, room) refl

  pub add_free : no_buffer h w.groups ≡ None → calls.add_refusal g parent item.name (rows_at w h.0) ≡ None → row_count w < row_limit → w.next ≤ 2 ^ 62 → adds_row w h g parent item ≡ None
  add_free b r f l = let few = lt-leb row_limit (row_count w) f in let room : ltb (2 ^ 62 + 1) (w.next + 1) ≡ false = le-ltb (2 ^ 62 + 1) (w.next + 1) (omega arith) in rw (b, r, few, room) refl

or_first : (a b : Option ChangeRefused) → or_else a b ≡ None → a ≡ None
or_first None b e = refl
or_first (Some a) b e = absurd cc

or_second : (a b : Option ChangeRefused) → or_else a b ≡ None → b ≡ None
or_second None b e = e
or_second (Some a) b e = absurd cc

no_buffers : (o : Option BufferRefused) → of_buffers o ≡ None → o ≡ None
no_buffers None e = refl
no_buffers (Some x) e = absurd cc

no_nicks : (o : Option NickRefused) → of_nicks o ≡ None → o ≡ None
no_nicks None e = refl
no_nicks (Some x) e = absurd cc

not_full : (b : Bool) (e : ChangeRefused) → cond b (Some e) None ≡ None → b ≡ false
not_full true e n = absurd cc
not_full false e n = refl

-- what holds where nothing is refused
pub record MayAdd (w : World) (h : Handle) (g : Bool) (parent : List ℕ) (item : Item) : Type 0 where
  pub there : no_buffer h w.groups ≡ None
  pub free : calls.add_refusal g parent item.name (rows_at w h.0) ≡ None
  pub room : row_count w < row_limit
  pub left : w.next + 1 ≤ 2 ^ 62 + 1

pub may_add : (w : World) (h : Handle) (g : Bool) (parent : List ℕ) (item : Item) → adds_row w h g parent item ≡ None → MayAdd w h g parent item
may_add w h g parent item e =
    let one = or_second (of_buffers (no_buffer h w.groups)) _ e in
    let two = or_second (of_nicks (calls.add_refusal g parent item.name (rows_at w h.0))) _ one in
    record {
      there = no_buffers _ (or_first (of_buffers (no_buffer h w.groups)) _ e);
      free = no_nicks _ (or_first (of_nicks (calls.add_refusal g parent item.name (rows_at w h.0))) _ one);
      room = leb-false row_limit (row_count w) (not_full _ _ (or_first (too_many_rows w) _ two));
      left = ltb-false (2 ^ 62 + 1) (w.next + 1) (not_full _ _ (or_second (too_many_rows w) _ two));
    }

pub record MayEdit (w : World) (h : Handle) (o : Option NickRefused) : Type 0 where
  pub there : no_buffer h w.groups ≡ None
  pub free : o ≡ None

-- what a nicklist answers is what is answered
pub edit_answered : (w : World) (h : Handle) (o p : Option NickRefused) → no_buffer h w.groups ≡ None → o ≡ p → or_else (of_buffers (no_buffer h w.groups)) (of_nicks o) ≡ of_nicks p
edit_answered w h o p b e = λ i. or_else (of_buffers (b i)) (of_nicks (e i))

pub may_edit : (w : World) (h : Handle) (o : Option NickRefused) → or_else (of_buffers (no_buffer h w.groups)) (of_nicks o) ≡ None → MayEdit w h o
may_edit w h o e = record {
  there = no_buffers _ (or_first (of_buffers (no_buffer h w.groups)) _ e);
  free = no_nicks _ (or_second (of_buffers (no_buffer h w.groups)) _ e);
}

-- the refusal of a nicklist, as a change of the world has it
pub of_list : (e : NickRefused) (r : ChangeRefused) (o : Option ChangeRefused) → r ≡ refused_by_nicks e → (e ≢ NoMemory → o ≡ Some (ChangeRefused.Nick e)) → Some r ≢ Some ChangeRefused.NoMemory → Some r ≡ o
of_list e r o is f n = by e is f
  where
    kind : NickRefused → Bool
    kind NoMemory = true
    kind IsRoot = false
    kind (BadName n) = false
    kind (NoParent name) = false
    kind (NameTaken name) = false
    kind (NoSuch name) = false
    kind (NotEmpty name) = false

    other : (e : NickRefused) → kind e ≡ false → e ≢ NoMemory
    other e k p = true≢false (sym (ap kind p) ∙ k)

    by : (e : NickRefused) → r ≡ refused_by_nicks e → (e ≢ NoMemory → o ≡ Some (ChangeRefused.Nick e)) → Some r ≡ o
    by NoMemory is f = absurd (n (ap Some is))
    by IsRoot is f = ap Some is ∙ sym (f (other IsRoot refl))
    by (BadName n) is f = ap Some is ∙ sym (f (other (BadName n) refl))
    by (NoParent name) is f = ap Some is ∙ sym (f (other (NoParent name) refl))
    by (NameTaken name) is f = ap Some is ∙ sym (f (other (NameTaken name) refl))
    by (NoSuch name) is f = ap Some is ∙ sym (f (other (NoSuch name) refl))
    by (NotEmpty name) is f = ap Some is ∙ sym (f (other (NotEmpty name) refl))

-- ---- accepted changes

-- a nicklist changed by f, seen in the world
pub rows_put : {S T : Type 0} (m : HashMap ℕ Nicks S) (n : HashMap ℕ Nicks T) (h : ℕ) (f : List Row → List Row) → is_some (list_at m h) ≡ true → IsListChangedAt h (with_edit f) m n → rows_map n ≡ insert (rows_map m) h (f (unwrap_or (get (rows_map m) h) []))
rows_put m n h f t is =
    let x = some_list (list_at m h) t in
    put_rows m n h (with_edit f x.0) (list_put m n h (with_edit f) x.0 x.1 is)
    ∙ ap (λ rows. insert (rows_map m) h (f rows)) (sym (rows_there m h ∙ ap rows_of x.1))

pub nicked : {S T U : Type 0} (gs : EntryGroups) (m : HashMap ℕ RingView S) (k : HashMap ℕ Nicks T) (l : HashMap ℕ Nicks U) (limit : LineLimit) (next next2 : ℕ) (v : World) (h : Handle) (what : What) (key : Key) (f : List Row → List Row) (name : List ℕ) (told : Notice)
    → IsWorld gs m limit next → world_of gs m (rows_map k) limit next ≡ v → refusal_of v h what ≡ None → IsNickChange what key
    → is_some (list_at k h.0) ≡ true → IsListChangedAt h.0 (with_edit f) k l
    → after_of (world_of gs m (rows_map k) limit next) h what ≡ record (with_rows (world_of gs m (rows_map k) limit next) h (f (rows_at (world_of gs m (rows_map k) limit next) h.0))) { next = next2 }
    → name ≡ name_in (buffer_of h gs) → told ≡ told_at kinds.NickTouched h gs name [] []
    → Accepted v (record { buffer = h; what = what }) (world_of gs m (rows_map l) limit next2) told
nicked gs m k l limit next next2 v h what key f name told w is r n t c a e d =
    let old : World = world_of gs m (rows_map k) limit next in
    let new : World = record (with_rows old h (f (rows_at old h.0))) { next = next2 } in
    let apart = are_apart gs m (rows_map k) limit next w in
    let rows : rows_map l ≡ insert (rows_map k) h.0 (f (rows_at old h.0)) = rows_put k l h.0 f t c in
    let following : world_of gs m (rows_map l) limit next2 ≡ new = ap (λ ns. world_of gs m ns limit next2) rows in
    let flips : flips_between old new ≡ [] = no_flips_between old new apart (λ q. no_flips next (lines_at old q) (apart q)) in
    let read : told_at kinds.NickTouched h gs name [] [] ≡ told_at kinds.NickTouched h gs (name_in (buffer_of h gs)) [] [] = ap (λ name. told_at kinds.NickTouched h gs name [] []) e in
    let meant : told_at kinds.NickTouched h gs (name_in (buffer_of h gs)) [] [] ≡ notice_at kinds.NickTouched h gs [] (flips_between old new) = ap (notice_at kinds.NickTouched h gs []) (sym flips) in
    subst (λ v. refusal_of v h what ≡ None → Accepted v (record { buffer = h; what = what }) (world_of gs m (rows_map l) limit next2) told) is
    (λ r. record {
      accepted = r;
      after = following ∙ sym a;
      notice = d ∙ read ∙ meant ∙ sym (n.told old new h) ∙ ap (λ b. notice_of old b h what) (sym a);
    }) r

-- ---- what holds of the nicklists still holds

found_some : (k : Key) (rows : List Row) → is_some (find_row k rows) ≡ true → 1 ≤ length rows
found_some k [] t = absurd (true≢false (sym t))
found_some k (x ∷ rows) t = omega arith

find_some : (o : Option Row) → is_some o ≡ true → (r : Row) × (o ≡ Some r)
find_some None t = absurd (true≢false (sym t))
find_some (Some r) t = (r, refl)

added_length : (g : Bool) (parent : List ℕ) (i : Item) (rows : List Row) → calls.add_refusal g parent i.name rows ≡ None → length (calls.add_row g parent i rows) ≡ length rows + 1
added_length g parent i rows e = by (path_below parent rows) (nicklist_may_add g i.name rows parent e).parent
  where
    by : (o : Option (List (List ℕ))) → is_some o ≡ true → length (calls.add_under g o i rows) ≡ length rows + 1
    by None t = absurd (true≢false (sym t))
    by (Some path) t = length-insert_row (calls.row_under g path i) rows

-- rows that a nicklist can hold, after an edit that is not refused
added_held : (g : Bool) (parent : List ℕ) (i : Item) (rows : List Row) → calls.add_refusal g parent i.name rows ≡ None → TextsAreUtf8 i → IsRows rows → IsRows (calls.add_row g parent i rows)
added_held g parent i rows e u held =
    let may = nicklist_may_add g i.name rows parent e in
    let name = is_name g i.name may.named in
    by (path_below parent rows) refl may.parent name.bounds name.no_root may.absent
  where
    by : (o : Option (List (List ℕ))) → path_below parent rows ≡ o → is_some o ≡ true → (0 < length i.name) × (length i.name ≤ 64) → (g && is_root i.name) ≡ false → find_row (key_at g i.name) rows ≡ None → IsRows (calls.add_under g o i rows)
    by None p t b r a = absurd (true≢false (sym t))
    by (Some path) p t b r a = held-insert rows g parent path i held p a b r u

removed_held : (g : Bool) (name : List ℕ) (rows : List Row) → calls.remove_refusal g name rows ≡ None → IsRows rows → IsRows (remove_row (key_at g name) rows)
removed_held g name rows e held =
    let may = may_remove g name rows e in
    let found = find_some (find_row (key_at g name) rows) may.stands in
    held-remove rows (key_at g name) found.0 held found.1
    (λ t. sym (ap (λ o. calls.has_children o rows) found.1) ∙ may.childless (sym (ap (λ (k : Key). k.is_group) (find_key (key_at g name) rows found.0 found.1)) ∙ t))

changed_held : (key : Key) (i : Item) (rows : List Row) → TextsAreUtf8 i → IsRows rows → IsRows (change_row key i rows)
changed_held key i rows u held = by (find_row key rows) refl
  where
    by : (o : Option Row) → find_row key rows ≡ o → IsRows (change_found o i rows)
    by None e = held
    by (Some r) e = held-change rows key r i held e u

module _ {S T : Type 0} (gs : EntryGroups) (m : HashMap ℕ Nicks S) (n : HashMap ℕ Nicks T) (count : ℕ) (h : ℕ) (w : AreNicks gs m count) (t : is_some (list_at m h) ≡ true) where
  edited_kept : (count2 : ℕ) (f : List Row → List Row) → IsListChangedAt h (with_edit f) m n → ((rows : List Row) → AreCut rows → AreCut (f rows)) → (IsRows (rows_of (list_at m h)) → IsRows (f (rows_of (list_at m h))))
      → count2 + length (rows_of (list_at m h)) ≡ count + length (f (rows_of (list_at m h))) → count2 ≤ row_limit → AreNicks gs n count2
  edited_kept count2 f is cut held sum most =
      let x = some_list (list_at m h) t in
      let whole : count2 + length x.0.rows ≡ count + length (f x.0.rows) = subst (λ o. count2 + length (rows_of o) ≡ count + length (f (rows_of o))) x.1 sum in
      let fits : IsRows (f x.0.rows) = subst (λ o. IsRows (rows_of o) → IsRows (f (rows_of o))) x.1 held (w.fit h x.0 x.1).held in
      nicks_changed gs m n count count2 h x.0 (with_edit f x.0) w x.1 (list_put m n h (with_edit f) x.0 x.1 is) refl fits (cut x.0.rows (w.fit h x.0 x.1).cut) whole most

  pub added_kept : (g : Bool) (parent : List ℕ) (item : Item) → IsListChangedAt h (with_edit (calls.add_row g parent item)) m n → calls.add_refusal g parent item.name (rows_of (list_at m h)) ≡ None → TextsAreUtf8 item → IsCut item → count < row_limit → AreNicks gs n (count + 1)
  added_kept g parent item is free text cut few =
      let more = added_length g parent item (rows_of (list_at m h)) free in
      edited_kept (count + 1) (calls.add_row g parent item) is (λ rows c. added_cut g parent item rows cut c) (added_held g parent item (rows_of (list_at m h)) free text) (omega (arith, more)) (omega (arith, few))

  held_there : IsRows (rows_of (list_at m h))
  held_there = subst IsRows (rows_there m h) (all_held gs m count w h)

  pub row_counted : (g : Bool) (name : List ℕ) → calls.remove_refusal g name (rows_of (list_at m h)) ≡ None → 1 ≤ count
  row_counted g name free =
      let some = found_some (key_at g name) (rows_of (list_at m h)) (may_remove g name (rows_of (list_at m h)) free).stands in
      let within = rows_within gs gs m m count w h in
      omega (arith, some, within)

  pub removed_kept : (left : ℕ) (g : Bool) (name : List ℕ) → IsListChangedAt h (with_edit (remove_row (key_at g name))) m n → calls.remove_refusal g name (rows_of (list_at m h)) ≡ None → left + 1 ≡ count → AreNicks gs n left
  removed_kept left g name is free less =
      let rows : IsRows (rows_of (list_at m h)) = held_there in
      let found = find_some (find_row (key_at g name) (rows_of (list_at m h))) (may_remove g name (rows_of (list_at m h)) free).stands in
      let fewer = length-remove_row (key_at g name) (rows_of (list_at m h)) found.0 rows.keyed found.1 in
      let most = w.most in
      edited_kept left (remove_row (key_at g name)) is (λ rows c. removed_cut (key_at g name) rows c) (removed_held g name (rows_of (list_at m h)) free) (omega (arith, fewer, less)) (omega (arith, most, less))

  pub changed_kept : (key : Key) (item : Item) → IsListChangedAt h (with_edit (change_row key item)) m n → TextsAreUtf8 item → IsCut item → AreNicks gs n count
  changed_kept key item is text cut =
      let same = length-change_row key item (rows_of (list_at m h)) in
      edited_kept count (change_row key item) is (λ rows c. changed_cut key item rows cut c) (changed_held key item (rows_of (list_at m h)) text) (omega (arith, same)) w.most
