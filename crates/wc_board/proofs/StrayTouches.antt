-- Through a change nothing is kept of a buffer that is not there.
use Rattle.std.proofs.Common.{◌≡◌, ℕ, Bool, true, false, cond, eqb, ◌&&◌, List, [], ◌∷◌, Option, Some, None, Err, refl, ap, sym, subst, ◌∙◌, eqb-true}
use Rattle.std.specs.List.{list_any}
use Rattle.std.proofs.lemmas.Bool.{false≢true}
use Rattle.wc_text.specs.declared.names.Handle.{Handle}
use Rattle.wc_nicklist.specs.declared.item.Item.{Item}
use Rattle.wc_nicklist.specs.declared.item.Key.{Key}
use Rattle.wc_nicklist.specs.declared.item.Row.{Row}
use Rattle.wc_nicklist.specs.Calls as calls
use Rattle.wc_nicklist.specs.Rows.{key_eq}
use Rattle.wc_nicklist.specs.Touched.{earlier_or, first_touch}
use Rattle.wc_nicklist.proofs.OrderLaws.{key_eq-same}
use Rattle.wc_nickdiff.specs.declared.diff_item.FirstTouch.{FirstTouch}
use Rattle.wc_nickdiff.specs.Held.{OfBuffer, before_at, touches_of}
use Rattle.wc_buffers.specs.declared.refused.BufferRefused.{BufferRefused}
use Rattle.wc_buffers.specs.Calls.{EntryGroups, handle_of, is_there, no_buffer, merge_refusal, with_hidden, with_full_name, with_short_name, with_title, with_var, without_var, with_buffer, without_buffer, new_entry}
use Rattle.wc_buffers.specs.Groups.{has, rows}
use Rattle.wc_buffers.specs.Vars.{cut_to}
use Rattle.wc_buffers.proofs.GroupLaws.{by_bool, list_any-map}
use Rattle.wc_buffers.proofs.RefusalLemmas.{there_good, merge_good}
use Rattle.wc_model.specs.declared.change.Change.{Change}
use Rattle.wc_model.specs.declared.change.What.{What}
use Rattle.wc_model.specs.declared.change.What.TheVariants as what
use Rattle.wc_model.specs.declared.notice.Notice.{Notice}
use Rattle.wc_model.specs.declared.refused.ChangeRefused.{ChangeRefused}
use Rattle.wc_model.specs.declared.refused.ChangeRefused.TheVariants as refused
use Rattle.wc_model.specs.Apply.{refusal, after, refusal_of, after_of, of_buffers, row_of}
use Rattle.wc_model.specs.Notices.{Accepted, Outcome}
use Rattle.wc_model.specs.Order.{order}
use Rattle.wc_model.specs.Touches.{touched_by}
use Rattle.wc_model.specs.World.{World, rows_at}
use Rattle.wc_world.specs.Nicks.{add_of, remove_of, change_of_rows}
use Rattle.wc_world.proofs.GroupRows.{in_rows, merged_apart, has-merge, has-move, has-unmerge, has-update}
use Rattle.wc_world.proofs.NicksDone.{adding_refused, removing_refused, changing_refused, may_add, may_edit}
use Rattle.wc_world.proofs.Opened.{has_opened, has_closed}
use Rattle.wc_board.specs.BoardView.{NoStrayTouches}
use Rattle.wc_board.specs.Told.{first_of, is_close, first_after, AreTouched, AreSameTouches}

none_before : (ts : List FirstTouch) → ((k : Key) → before_at k ts ≡ None) → ts ≡ []
none_before [] none = refl
none_before (t ∷ ts) none = absurd (let e = none t.key in let i : Some t.before ≡ None = rw (key_eq-same t.key) at e in cc)

-- ---- which buffers are there

cond_true : (t x : Bool) → cond t true x ≡ false → x ≡ false
cond_true true x e = absurd (false≢true (sym e))
cond_true false x e = e

cond_false : (t x : Bool) → t ≡ false → cond t false x ≡ false → x ≡ false
cond_false true x e g = absurd (false≢true (sym e))
cond_false false x e g = g

no_reason : (o : Option BufferRefused) → of_buffers o ≡ None → o ≡ None
no_reason None e = refl
no_reason (Some reason) e = absurd (cc)

may_merge : (w : World) (h into : Handle) → refusal_of w h (what.MergeInto into) ≡ None → merge_refusal h into w.groups ≡ None
unfolding refusal_of
may_merge w h into free = no_reason (merge_refusal h into w.groups) free

merged : (w : World) (h into b : Handle) → refusal_of w h (what.MergeInto into) ≡ None → is_there b (after_of w h (what.MergeInto into)).groups ≡ is_there b w.groups
unfolding after_of
merged w h into b free =
    let good = merge_good h into w.groups (may_merge w h into free) in
    has-merge handle_of h.0 into.0 b.0 w.groups good.1 (merged_apart handle_of h.0 into.0 w.groups good.0 good.2)

-- a buffer that is not there after a change was not there before, unless it was closed
still_there : (w : World) (h : Handle) (x : What) (b : Handle) → refusal_of w h x ≡ None → (is_close x && eqb h.0 b.0) ≡ false → is_there b (after_of w h x).groups ≡ false → is_there b w.groups ≡ false
unfolding after_of
still_there w h (what.Add spec) b free other gone = cond_true (eqb w.next b.0) (is_there b w.groups) (sym (has_opened w.groups (with_buffer (row_of w.next spec) spec.vars w.groups) (new_entry (row_of w.next spec) spec.vars) w.next refl refl b.0) ∙ gone)
still_there w h what.Close b free other gone = cond_false (eqb h.0 b.0) (is_there b w.groups) other (sym (has_closed w.groups (without_buffer h w.groups) h refl b.0) ∙ gone)
still_there w h (what.MoveTo number) b free other gone = sym (has-move handle_of h.0 _ b.0 w.groups) ∙ gone
still_there w h (what.MergeInto into) b free other gone = sym (merged w h into b free) ∙ gone
still_there w h what.Unmerge b free other gone = sym (has-unmerge handle_of h.0 b.0 w.groups) ∙ gone
still_there w h what.Hide b free other gone = sym (has-update handle_of h.0 (with_hidden true) (λ e. refl) b.0 w.groups) ∙ gone
still_there w h what.Unhide b free other gone = sym (has-update handle_of h.0 (with_hidden false) (λ e. refl) b.0 w.groups) ∙ gone
still_there w h (what.Rename name flips) b free other gone = sym (has-update handle_of h.0 (with_full_name name) (λ e. refl) b.0 w.groups) ∙ gone
still_there w h (what.ShortName name) b free other gone = sym (has-update handle_of h.0 (with_short_name name) (λ e. refl) b.0 w.groups) ∙ gone
still_there w h (what.Title title) b free other gone = sym (has-update handle_of h.0 (with_title (cut_to 1024 title)) (λ e. refl) b.0 w.groups) ∙ gone
still_there w h (what.SetVar var) b free other gone = sym (has-update handle_of h.0 (with_var var.name var.value) (λ e. refl) b.0 w.groups) ∙ gone
still_there w h (what.RemoveVar name) b free other gone = sym (has-update handle_of h.0 (without_var name) (λ e. refl) b.0 w.groups) ∙ gone
still_there w h (what.Print line) b free other gone = gone
still_there w h what.Clear b free other gone = gone
still_there w h (what.Flips flips) b free other gone = gone
still_there w h (what.AddGroup parent item) b free other gone = gone
still_there w h (what.AddNick group item) b free other gone = gone
still_there w h (what.RemoveGroup name) b free other gone = gone
still_there w h (what.RemoveNick name) b free other gone = gone
still_there w h (what.ChangeGroup item) b free other gone = gone
still_there w h (what.ChangeNick item) b free other gone = gone
still_there w h (what.Limit limit) b free other gone = gone

apart : (h b : Handle) (gs : EntryGroups) → is_there h gs ≡ true → is_there b gs ≡ false → eqb h.0 b.0 ≡ false
apart h b gs there gone = by_bool (eqb h.0 b.0) _ (λ t. absurd (false≢true (sym gone ∙ ap (λ n. has handle_of n gs) (sym (eqb-true h.0 b.0 t)) ∙ there))) (λ t. t)

-- ---- what is touched

-- a touch of a buffer that is there is none of one that is not
touched_there : (w : World) (h : Handle) (key : Key) (row : Option Row) (first : Handle → Key → Option (Option Row)) (b : Handle) (k : Key) → no_buffer h w.groups ≡ None → is_there b w.groups ≡ false → first_touch h key row first b k ≡ first b k
touched_there w h key row first b k there gone = ap (λ t. cond (t && key_eq key k) (earlier_or (first b k) row) (first b k)) (apart h b w.groups (there_good h w.groups there) gone)

added_there : (w : World) (h : Handle) (g : Bool) (parent : List ℕ) (item : Item) → refusal_of w h (add_of g parent item) ≡ None → no_buffer h w.groups ≡ None
added_there w h g parent item free = (may_add w h g parent item (sym (adding_refused w h g parent item) ∙ free)).there

removed_there : (w : World) (h : Handle) (g : Bool) (name : List ℕ) → refusal_of w h (remove_of g name) ≡ None → no_buffer h w.groups ≡ None
removed_there w h g name free = (may_edit w h (calls.remove_refusal g name (rows_at w h.0)) (sym (removing_refused w h g name) ∙ free)).there

changed_there : (w : World) (h : Handle) (g : Bool) (item : Item) → refusal_of w h (change_of_rows g item) ≡ None → no_buffer h w.groups ≡ None
changed_there w h g item free = (may_edit w h (calls.change_refusal g item.name (rows_at w h.0)) (sym (changing_refused w h g item) ∙ free)).there

untouched : (w : World) (h : Handle) (x : What) (first : Handle → Key → Option (Option Row)) (b : Handle) (k : Key) → refusal_of w h x ≡ None → is_there b w.groups ≡ false → touched_by w h x first b k ≡ first b k
untouched w h (what.Add spec) first b k free gone = refl
untouched w h what.Close first b k free gone = refl
untouched w h (what.MoveTo number) first b k free gone = refl
untouched w h (what.MergeInto into) first b k free gone = refl
untouched w h what.Unmerge first b k free gone = refl
untouched w h what.Hide first b k free gone = refl
untouched w h what.Unhide first b k free gone = refl
untouched w h (what.Rename name flips) first b k free gone = refl
untouched w h (what.ShortName name) first b k free gone = refl
untouched w h (what.Title title) first b k free gone = refl
untouched w h (what.SetVar var) first b k free gone = refl
untouched w h (what.RemoveVar name) first b k free gone = refl
untouched w h (what.Print line) first b k free gone = refl
untouched w h what.Clear first b k free gone = refl
untouched w h (what.Flips flips) first b k free gone = refl
untouched w h (what.AddGroup parent item) first b k free gone = touched_there w h _ _ first b k (added_there w h true parent item free) gone
untouched w h (what.AddNick group item) first b k free gone = touched_there w h _ _ first b k (added_there w h false group item free) gone
untouched w h (what.RemoveGroup name) first b k free gone = touched_there w h _ _ first b k (removed_there w h true name free) gone
untouched w h (what.RemoveNick name) first b k free gone = touched_there w h _ _ first b k (removed_there w h false name free) gone
untouched w h (what.ChangeGroup item) first b k free gone = touched_there w h _ _ first b k (changed_there w h true item free) gone
untouched w h (what.ChangeNick item) first b k free gone = touched_there w h _ _ first b k (changed_there w h false item free) gone
untouched w h (what.Limit limit) first b k free gone = refl

-- ---- what is kept

-- of a change that was made
stray_after : (w : World) (change : Change) (old new : List OfBuffer) → refusal w change ≡ None → AreTouched w change old new → NoStrayTouches w old → NoStrayTouches (after w change) new
stray_after w change old new free touched none b gone = none_before (touches_of b new) (λ k. touched b k ∙ by k (is_close change.what && eqb change.buffer.0 b.0) refl) where
  by : (k : Key) (t : Bool) → (is_close change.what && eqb change.buffer.0 b.0) ≡ t → first_after w change.buffer change.what (first_of old) b k ≡ None
  by k true e = ap (λ t. cond t None (touched_by w change.buffer change.what (first_of old) b k)) e
  by k false e =
      let away = still_there w change.buffer change.what b free e gone in
      ap (λ t. cond t None (touched_by w change.buffer change.what (first_of old) b k)) e
      ∙ untouched w change.buffer change.what (first_of old) b k free away
      ∙ ap (before_at k) (none b away)

stray_same : (w following : World) (old new : List OfBuffer) → following ≡ w → AreSameTouches old new → NoStrayTouches w old → NoStrayTouches following new
stray_same w following old new e same none b gone =
    none_before (touches_of b new) (λ k. same b k ∙ ap (before_at k) (none b (ap (λ (world : World). is_there b world.groups) (sym e) ∙ gone)))

refused_stays : (w : World) (change : Change) (following : World) (reason : ChangeRefused) → Outcome w change following (Err reason) → following ≡ w
refused_stays w change following (refused.Buffer reason) made = made.0
refused_stays w change following (refused.Nick reason) made = made.0
refused_stays w change following (refused.NoLine h) made = made.0
refused_stays w change following (refused.TooManyRows limit) made = made.0
refused_stays w change following refused.Spent made = made.0
refused_stays w change following refused.NoMemory made = made

pub stray_refused : (w : World) (change : Change) (following : World) (reason : ChangeRefused) (old new : List OfBuffer) → Outcome w change following (Err reason) → AreSameTouches old new → NoStrayTouches w old → NoStrayTouches following new
stray_refused w change following reason old new made same none = stray_same w following old new (refused_stays w change following reason made) same none

pub stray_made : (w : World) (change : Change) (following : World) (notice : Notice) (old new : List OfBuffer) → Accepted w change following notice → AreTouched w change old new → NoStrayTouches w old → NoStrayTouches following new
stray_made w change following notice old new made touched none =
    let P : World → Type 0 = λ world. NoStrayTouches world new in
    subst P (sym made.after) (stray_after w change old new made.accepted touched none)

-- what is kept of a change, once what was closed is forgotten
pub touched_kept : (w : World) (change : Change) (old mid new : List OfBuffer) (closes : Bool) → closes ≡ is_close change.what → ((b : Handle) (k : Key) → first_of mid b k ≡ touched_by w change.buffer change.what (first_of old) b k)
    → ((b : Handle) → touches_of b new ≡ cond (closes && eqb change.buffer.0 b.0) [] (touches_of b mid)) → AreTouched w change old new
touched_kept w change old mid new closes is touched forgets b k =
    ap (before_at k) (forgets b)
    ∙ ap (λ t. before_at k (cond (t && eqb change.buffer.0 b.0) [] (touches_of b mid))) is
    ∙ by (is_close change.what && eqb change.buffer.0 b.0)
  where
    by : (t : Bool) → before_at k (cond t [] (touches_of b mid)) ≡ cond t None (touched_by w change.buffer change.what (first_of old) b k)
    by true = refl
    by false = touched b k

-- ---- all is forgotten

ordered : (q : ℕ) (gs : EntryGroups) → list_any (λ n. eqb n q) (order gs) ≡ has handle_of q gs
ordered q gs = list_any-map handle_of (λ n. eqb n q) (λ e. eqb (handle_of e) q) (λ e. refl) (rows gs) ∙ in_rows handle_of q gs

-- once what was touched of the buffers that are there is forgotten
pub all_forgotten : (w : World) (old new : List OfBuffer) → NoStrayTouches w old → ((b : Handle) → touches_of b new ≡ cond (list_any (λ n. eqb n b.0) (order w.groups)) [] (touches_of b old)) → (b : Handle) → touches_of b new ≡ []
all_forgotten w old new none forgets b = forgets b ∙ by (list_any (λ n. eqb n b.0) (order w.groups)) refl where
  by : (t : Bool) → list_any (λ n. eqb n b.0) (order w.groups) ≡ t → cond t [] (touches_of b old) ≡ []
  by true e = refl
  by false e = none b (sym (ordered b.0 w.groups) ∙ e)
