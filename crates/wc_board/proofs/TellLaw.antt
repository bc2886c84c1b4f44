-- An accepted change keeps the rows that were told.
use Rattle.std.proofs.Common.{◌≡◌, ℕ, ◌+◌, ◌≤◌, Bool, true, false, cond, eqb, ◌&&◌, List, [], ◌∷◌, ◌++◌, ◌⊎◌, inl, inr, Option, Some, None, unwrap_or, refl, ap, sym, subst, ◌∙◌, arith, eq-eqb, eqb-true}
use Rattle.std.specs.FinMap.{FinMap, get, insert, remove, get-insert, get-remove}
use Rattle.std.specs.Ordering.{nat_cmp}
use Rattle.std.specs.Cmp.{nat_cmp_total}
use Rattle.wc_text.specs.declared.names.Handle.{Handle}
use Rattle.wc_nicklist.specs.declared.item.Item.{Item}
use Rattle.wc_nicklist.specs.declared.item.Key.{Key}
use Rattle.wc_nicklist.specs.declared.item.Row.{Row}
use Rattle.wc_nicklist.specs.Calls as calls
use Rattle.wc_nicklist.specs.Order.{key, key_at}
use Rattle.wc_nicklist.specs.Rows.{key_eq, find_row, remove_row, changed_row, change_found, change_row, path_below, IsRows}
use Rattle.wc_nicklist.specs.Touched.{earlier_or, first_touch}
use Rattle.wc_nicklist.proofs.Refusals.{may_add as nicklist_may_add}
use Rattle.wc_nicklist.proofs.RowLaws.{find_key, find-insert, find-remove, find-replace}
use Rattle.wc_nickdiff.specs.Held.{OfBuffer, before_at}
use Rattle.wc_nickdiff.specs.Told.{told_or, IsTold}
use Rattle.wc_nickdiff.proofs.TouchLaw.{touch_law, pushed_told, untouched_told}
use Rattle.wc_buffers.specs.declared.row.BufferEntry.{BufferEntry}
use Rattle.wc_buffers.specs.declared.row.BufferSpec.{BufferSpec}
use Rattle.wc_buffers.specs.Calls.{EntryGroups, handle_of, new_entry}
use Rattle.wc_buffers.specs.Groups.{has, times}
use Rattle.wc_buffers.specs.Kept.{AreBuffers}
use Rattle.wc_buffers.proofs.GroupLaws.{has_tells, times-append}
use Rattle.wc_model.specs.declared.change.Change.{Change}
use Rattle.wc_model.specs.declared.change.What.{What}
use Rattle.wc_model.specs.declared.change.What.TheVariants as what
use Rattle.wc_model.specs.Apply.{refusal, after, refusal_of, after_of, row_of, item_with, handle_in}
use Rattle.wc_model.specs.Touches.{told_after}
use Rattle.wc_model.specs.World.{World, rows_at}
use Rattle.wc_world.specs.Nicks.{add_of, remove_of, change_of_rows}
use Rattle.wc_world.proofs.MapLemmas.{tied, eqb_turned}
use Rattle.wc_world.proofs.NicksDone.{adding_refused, after_adding, after_removing, after_changing, may_add}
use Rattle.wc_board.specs.BoardView.{NoStrayTouches}
use Rattle.wc_board.specs.Pushes.{AreHeld}
use Rattle.wc_board.specs.Told.{Told, told_of, AllPushed, WasTold, AreTold, first_of, first_after, AreTouched}

-- ---- rows by their buffer

abbrev no_rows : List Row
no_rows = []

rows_put : (nicks : FinMap nat_cmp (List Row)) (k : ℕ) (rows : List Row) (q : ℕ) → unwrap_or (get (insert nicks k rows) q) [] ≡ cond (eqb q k) rows (unwrap_or (get nicks q) [])
rows_put nicks k rows q = ap (λ o. unwrap_or o []) (get-insert nat_cmp_total nicks k rows q ∙ ap (λ b. cond b (Some rows) (get nicks q)) (tied q k)) ∙ by (eqb q k) where
  by : (b : Bool) → unwrap_or (cond b (Some rows) (get nicks q)) no_rows ≡ cond b rows (unwrap_or (get nicks q) no_rows)
  by true = refl
  by false = refl

rows_out : (nicks : FinMap nat_cmp (List Row)) (k q : ℕ) → unwrap_or (get (remove nicks k) q) [] ≡ cond (eqb q k) [] (unwrap_or (get nicks q) [])
rows_out nicks k q = ap (λ o. unwrap_or o []) (get-remove nat_cmp_total nicks k q ∙ ap (λ b. cond b None (get nicks q)) (tied q k)) ∙ by (eqb q k) where
  by : (b : Bool) → unwrap_or (cond b None (get nicks q)) no_rows ≡ cond b no_rows (unwrap_or (get nicks q) no_rows)
  by true = refl
  by false = refl

no_rows_held : IsRows []
no_rows_held = record { ascending = tt; keyed = tt; held = λ k r e. absurd (cc) }

-- ---- what was told, where the same was touched

told_same : (f g : Key → Option (Option Row)) (now told : List Row) → ((k : Key) → f k ≡ g k) → IsTold g now told → IsTold f now told
told_same f g now told e h = record { held = h.held; found = λ k. ap (λ o. told_or o (find_row k now)) (e k) ∙ h.found k }

-- nothing was told of a buffer without rows of which nothing was touched
told_nothing : (f : Key → Option (Option Row)) → ((k : Key) → f k ≡ None) → IsTold f [] []
told_nothing f none = record { held = no_rows_held; found = λ k. ap (λ o. told_or o None) (none k) }

-- rows and told rows that are none where the test holds
told_by : (f : Key → Option (Option Row)) (now told rows others : List Row) (t : Bool) → now ≡ cond t [] rows → told ≡ cond t [] others → (t ≡ true → IsTold f [] []) → (t ≡ false → IsTold f rows others) → IsTold f now told
told_by f now told rows others true e q none same = subst (λ r. IsTold f r told) (sym e) (subst (λ r. IsTold f [] r) (sym q) (none refl))
told_by f now told rows others false e q none same = subst (λ r. IsTold f r told) (sym e) (subst (λ r. IsTold f rows r) (sym q) (same refl))

-- ---- a buffer that comes

times_own : (e : BufferEntry) (n : ℕ) → handle_of e ≡ n → times handle_of n ((e ∷ []) ∷ []) ≡ 1
times_own e n is = ap (λ t. (cond t 1 0 + 0) + 0) (eq-eqb (handle_of e) n is)

-- no other buffer has its handle, since each handle is there once
was_free : (gs : EntryGroups) (e : BufferEntry) (n : ℕ) → handle_of e ≡ n → times handle_of n (gs ++ (e ∷ []) ∷ []) ≤ 1 → has handle_of n gs ≡ false
was_free gs e n is once = by (has_tells handle_of n gs) where
  all : times handle_of n (gs ++ (e ∷ []) ∷ []) ≡ times handle_of n gs + times handle_of n ((e ∷ []) ∷ [])
  all = times-append handle_of n gs ((e ∷ []) ∷ [])

  own : times handle_of n ((e ∷ []) ∷ []) ≡ 1
  own = times_own e n is

  by : ((has handle_of n gs ≡ true) × (1 ≤ times handle_of n gs)) ⊎ ((has handle_of n gs ≡ false) × (times handle_of n gs ≡ 0)) → has handle_of n gs ≡ false
  by (inl there) = (let some = there.1 in absurd (omega (arith, once, all, own, some)))
  by (inr gone) = gone.0

opened_told : (w : World) (h : Handle) (spec : BufferSpec) (old new : List OfBuffer) (told : Told) → AreBuffers (after_of w h (what.Add spec)).groups → NoStrayTouches w old → ((b : Handle) (k : Key) → first_of new b k ≡ first_of old b k) → AreTold w old (told_of told)
    → AreTold (after_of w h (what.Add spec)) new (told_of (insert told w.next []))
unfolding after_of
opened_told w h spec old new told are stray same was b =
    told_by (first_of new b) (unwrap_or (get (insert w.nicks w.next []) b.0) []) (told_of (insert told w.next []) b.0) (rows_at w b.0) (told_of told b.0) (eqb b.0 w.next) (rows_put w.nicks w.next [] b.0) (rows_put told w.next [] b.0)
    (λ t. told_nothing (first_of new b) (λ k. same b k ∙ ap (before_at k) (stray b (ap (λ n. has handle_of n w.groups) (eqb-true b.0 w.next t) ∙ free))))
    (λ t. told_same (first_of new b) (first_of old b) (rows_at w b.0) (told_of told b.0) (same b) (was b))
  where
    free : has handle_of w.next w.groups ≡ false
    free = was_free w.groups (new_entry (row_of w.next spec) spec.vars) w.next refl (are.once w.next)

-- ---- a buffer that goes

closed_told : (w : World) (h : Handle) (old new : List OfBuffer) (told : Told) → ((b : Handle) (k : Key) → first_of new b k ≡ cond (eqb h.0 b.0) None (first_of old b k)) → AreTold w old (told_of told)
    → AreTold (after_of w h what.Close) new (told_of (remove told h.0))
unfolding after_of
closed_told w h old new told same was b =
    told_by (first_of new b) (unwrap_or (get (remove w.nicks h.0) b.0) []) (told_of (remove told h.0) b.0) (rows_at w b.0) (told_of told b.0) (eqb b.0 h.0) (rows_out w.nicks h.0 b.0) (rows_out told h.0 b.0)
    (λ t. told_nothing (first_of new b) (λ k. turned k ∙ ap (λ t. cond t None (first_of old b k)) t))
    (λ t. told_same (first_of new b) (first_of old b) (rows_at w b.0) (told_of told b.0) (λ k. turned k ∙ ap (λ t. cond t None (first_of old b k)) t) (was b))
  where
    turned : (k : Key) → first_of new b k ≡ cond (eqb b.0 h.0) None (first_of old b k)
    turned k = same b k ∙ ap (λ t. cond t None (first_of old b k)) (eqb_turned h.0 b.0)

-- ---- a group or a nick

nick_told : (w following : World) (h : Handle) (k : Key) (rows : List Row) (old new : List OfBuffer) (told : ℕ → List Row) → ((q : ℕ) → rows_at following q ≡ cond (eqb q h.0) rows (rows_at w q))
    → ((b : Handle) (q : Key) → first_of new b q ≡ first_touch h k (find_row k (rows_at w h.0)) (first_of old) b q) → ((q : Key) → key_eq k q ≡ false → find_row q rows ≡ find_row q (rows_at w h.0)) → AreTold w old told → AreTold following new told
nick_told w following h k rows old new told put touched others was b = by (eqb b.0 h.0) refl where
  here : WasTold following new h (told h.0)
  here =
      let own : rows_at following h.0 ≡ rows = put h.0 ∙ ap (λ t. cond t rows (rows_at w h.0)) (eq-eqb h.0 h.0 refl) in
      let law : IsTold (first_touch h k (find_row k (rows_at w h.0)) (first_of old) h) rows (told h.0) = touch_law h k (first_of old) (rows_at w h.0) rows (told h.0) others (was h) in
      subst (λ r. IsTold (first_of new h) r (told h.0)) (sym own) (told_same (first_of new h) (first_touch h k (find_row k (rows_at w h.0)) (first_of old) h) rows (told h.0) (touched h) law)

  by : (t : Bool) → eqb b.0 h.0 ≡ t → WasTold following new b (told b.0)
  by true e =
      let P : ℕ → Type 0 = λ n. WasTold following new (record { 0 = n }) (told n) in
      subst P (sym (eqb-true b.0 h.0 e)) here
  by false e =
      let same : rows_at following b.0 ≡ rows_at w b.0 = put b.0 ∙ ap (λ t. cond t rows (rows_at w b.0)) e in
      let first : (q : Key) → first_of new b q ≡ first_of old b q = λ q. touched b q ∙ ap (λ t. cond (t && key_eq k q) (earlier_or (first_of old b q) (find_row k (rows_at w h.0))) (first_of old b q)) (eqb_turned h.0 b.0 ∙ e) in
      subst (λ r. IsTold (first_of new b) r (told b.0)) (sym same) (told_same (first_of new b) (first_of old b) (rows_at w b.0) (told b.0) first (was b))

-- the rows of other keys stay
added_others : (g : Bool) (parent : List ℕ) (i : Item) (rows : List Row) → calls.add_refusal g parent i.name rows ≡ None → (q : Key) → key_eq (key_at g i.name) q ≡ false → find_row q (calls.add_row g parent i rows) ≡ find_row q rows
added_others g parent i rows free q other = by (path_below parent rows) (nicklist_may_add g i.name rows parent free).absent where
  by : (o : Option (List (List ℕ))) → find_row (key_at g i.name) rows ≡ None → find_row q (calls.add_under g o i rows) ≡ find_row q rows
  by None absent = refl
  by (Some path) absent = find-insert (calls.row_under g path i) q rows absent ∙ ap (λ t. cond t (Some (calls.row_under g path i)) (find_row q rows)) other

removed_others : (k : Key) (rows : List Row) (q : Key) → key_eq k q ≡ false → find_row q (remove_row k rows) ≡ find_row q rows
removed_others k rows q other = find-remove k q rows ∙ ap (λ t. cond t None (find_row q rows)) other

changed_others : (k : Key) (i : Item) (rows : List Row) (q : Key) → key_eq k q ≡ false → find_row q (change_row k i rows) ≡ find_row q rows
changed_others k i rows q other = by (find_row k rows) refl where
  by : (o : Option Row) → find_row k rows ≡ o → find_row q (change_found o i rows) ≡ find_row q rows
  by None e = refl
  by (Some r) e =
      let own : key (changed_row r i) ≡ k = find_key k rows r e in
      find-replace (changed_row r i) r q rows (ap (λ z. find_row z rows) own ∙ e) ∙ ap (λ t. cond t (Some (changed_row r i)) (find_row q rows)) (ap (λ z. key_eq z q) own ∙ other)

added_told : (w : World) (h : Handle) (g : Bool) (parent : List ℕ) (item : Item) (old new : List OfBuffer) (told : ℕ → List Row) → refusal_of w h (add_of g parent item) ≡ None
    → ((b : Handle) (q : Key) → first_of new b q ≡ first_touch h (key_at g item.name) (find_row (key_at g item.name) (rows_at w h.0)) (first_of old) b q) → AreTold w old told → AreTold (after_of w h (add_of g parent item)) new told
added_told w h g parent item old new told free touched was =
    let drawn = item_with (record { 0 = w.next }) item in
    let rows = calls.add_row g parent drawn (rows_at w h.0) in
    nick_told w (after_of w h (add_of g parent item)) h (key_at g item.name) rows old new told
    (λ q. ap (λ w. rows_at w q) (after_adding w h g parent item) ∙ rows_put w.nicks h.0 rows q) touched
    (added_others g parent drawn (rows_at w h.0) (may_add w h g parent item (sym (adding_refused w h g parent item) ∙ free)).free) was

removed_told : (w : World) (h : Handle) (g : Bool) (name : List ℕ) (old new : List OfBuffer) (told : ℕ → List Row)
    → ((b : Handle) (q : Key) → first_of new b q ≡ first_touch h (key_at g name) (find_row (key_at g name) (rows_at w h.0)) (first_of old) b q) → AreTold w old told → AreTold (after_of w h (remove_of g name)) new told
removed_told w h g name old new told touched was =
    let rows = remove_row (key_at g name) (rows_at w h.0) in
    nick_told w (after_of w h (remove_of g name)) h (key_at g name) rows old new told
    (λ q. ap (λ w. rows_at w q) (after_removing w h g name) ∙ rows_put w.nicks h.0 rows q) touched (removed_others (key_at g name) (rows_at w h.0)) was

changed_told : (w : World) (h : Handle) (g : Bool) (item : Item) (old new : List OfBuffer) (told : ℕ → List Row)
    → ((b : Handle) (q : Key) → first_of new b q ≡ first_touch h (key_at g item.name) (find_row (key_at g item.name) (rows_at w h.0)) (first_of old) b q) → AreTold w old told → AreTold (after_of w h (change_of_rows g item)) new told
changed_told w h g item old new told touched was =
    let drawn = item_with (handle_in (find_row (key_at g item.name) (rows_at w h.0))) item in
    let rows = change_row (key_at g item.name) drawn (rows_at w h.0) in
    nick_told w (after_of w h (change_of_rows g item)) h (key_at g item.name) rows old new told
    (λ q. ap (λ w. rows_at w q) (after_changing w h g item) ∙ rows_put w.nicks h.0 rows q) touched (changed_others (key_at g item.name) drawn (rows_at w h.0)) was

-- ---- all changes

-- a change of no rows
plain_told : (w following : World) (old new : List OfBuffer) (told : ℕ → List Row) → ((q : ℕ) → rows_at following q ≡ rows_at w q) → ((b : Handle) (k : Key) → first_of new b k ≡ first_of old b k) → AreTold w old told → AreTold following new told
plain_told w following old new told rows same was b = subst (λ r. IsTold (first_of new b) r (told b.0)) (sym (rows b.0)) (told_same (first_of new b) (first_of old b) (rows_at w b.0) (told b.0) (same b) (was b))

tell_law : (w : World) (h : Handle) (x : What) (old new : List OfBuffer) (told : Told) → refusal_of w h x ≡ None → AreBuffers (after_of w h x).groups → NoStrayTouches w old → ((b : Handle) (k : Key) → first_of new b k ≡ first_after w h x (first_of old) b k) → AreTold w old (told_of told)
    → AreTold (after_of w h x) new (told_of (told_after w h x told))
unfolding after_of
tell_law w h (what.Add spec) old new told free are stray touched was = opened_told w h spec old new told are stray touched was
tell_law w h what.Close old new told free are stray touched was = closed_told w h old new told touched was
tell_law w h (what.MoveTo number) old new told free are stray touched was = plain_told w (after_of w h (what.MoveTo number)) old new (told_of told) (λ q. refl) touched was
tell_law w h (what.MergeInto into) old new told free are stray touched was = plain_told w (after_of w h (what.MergeInto into)) old new (told_of told) (λ q. refl) touched was
tell_law w h what.Unmerge old new told free are stray touched was = plain_told w (after_of w h what.Unmerge) old new (told_of told) (λ q. refl) touched was
tell_law w h what.Hide old new told free are stray touched was = plain_told w (after_of w h what.Hide) old new (told_of told) (λ q. refl) touched was
tell_law w h what.Unhide old new told free are stray touched was = plain_told w (after_of w h what.Unhide) old new (told_of told) (λ q. refl) touched was
tell_law w h (what.Rename name flips) old new told free are stray touched was = plain_told w (after_of w h (what.Rename name flips)) old new (told_of told) (λ q. refl) touched was
tell_law w h (what.ShortName name) old new told free are stray touched was = plain_told w (after_of w h (what.ShortName name)) old new (told_of told) (λ q. refl) touched was
tell_law w h (what.Title title) old new told free are stray touched was = plain_told w (after_of w h (what.Title title)) old new (told_of told) (λ q. refl) touched was
tell_law w h (what.SetVar var) old new told free are stray touched was = plain_told w (after_of w h (what.SetVar var)) old new (told_of told) (λ q. refl) touched was
tell_law w h (what.RemoveVar name) old new told free are stray touched was = plain_told w (after_of w h (what.RemoveVar name)) old new (told_of told) (λ q. refl) touched was
tell_law w h (what.Print line) old new told free are stray touched was = plain_told w (after_of w h (what.Print line)) old new (told_of told) (λ q. refl) touched was
tell_law w h what.Clear old new told free are stray touched was = plain_told w (after_of w h what.Clear) old new (told_of told) (λ q. refl) touched was
tell_law w h (what.Flips flips) old new told free are stray touched was = plain_told w (after_of w h (what.Flips flips)) old new (told_of told) (λ q. refl) touched was
tell_law w h (what.AddGroup parent item) old new told free are stray touched was = added_told w h true parent item old new (told_of told) free touched was
tell_law w h (what.AddNick group item) old new told free are stray touched was = added_told w h false group item old new (told_of told) free touched was
tell_law w h (what.RemoveGroup name) old new told free are stray touched was = removed_told w h true name old new (told_of told) touched was
tell_law w h (what.RemoveNick name) old new told free are stray touched was = removed_told w h false name old new (told_of told) touched was
tell_law w h (what.ChangeGroup item) old new told free are stray touched was = changed_told w h true item old new (told_of told) touched was
tell_law w h (what.ChangeNick item) old new told free are stray touched was = changed_told w h false item old new (told_of told) touched was
tell_law w h (what.Limit limit) old new told free are stray touched was = plain_told w (after_of w h (what.Limit limit)) old new (told_of told) (λ q. refl) touched was

pub change_keeps_told : (w : World) (change : Change) (old new : List OfBuffer) (told : Told) → refusal w change ≡ None → AreBuffers (after w change).groups → NoStrayTouches w old → AreTouched w change old new → AreTold w old (told_of told)
    → AreTold (after w change) new (told_of (told_after w change.buffer change.what told))
change_keeps_told w change old new told free are stray touched was = tell_law w change.buffer change.what old new told free are stray touched was

-- ---- pushed rows

pub rows_told : (w : World) (pending : List OfBuffer) → AreHeld w → AllPushed pending → AreTold w pending (rows_at w)
rows_told w pending held nothing b = told_same (first_of pending b) (λ k. None) (rows_at w b.0) (rows_at w b.0) (λ k. ap (before_at k) (nothing b)) (pushed_told (rows_at w b.0) (held b.0))

pub told_rows : (w : World) (pending : List OfBuffer) (told : ℕ → List Row) → AreHeld w → AllPushed pending → AreTold w pending told → (b : ℕ) → told b ≡ rows_at w b
told_rows w pending told held nothing was b =
    let h : Handle = record { 0 = b } in
    untouched_told (first_of pending h) (rows_at w b) (told b) (held b) (λ k. ap (before_at k) (nothing h)) (was h)
