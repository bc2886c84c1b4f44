-- Edits of the buffers, at a buffer that is there.
use Rattle.std.proofs.Common.{◌≡◌, ℕ, ◌<◌, Bool, true, false, ◌&&◌, ◌||◌, eqb, eqb-true, [], ◌∷◌, List, Option, Some, None, is_some, IsSomeAnd, length, map, refl, sym, subst, ◌∙◌}
use Rattle.std.proofs.lemmas.List.{length-map}
use Rattle.std.proofs.lemmas.Bool.{false≢true, false_from_ne_true}
use Rattle.std.specs.HashMap.{HashMap}
use Rattle.std.specs.List.{list_any}
use Rattle.std.specs.declared.alloc.Global.{Global}
use Rattle.std.specs.declared.vec.Vec.{Vec}
use Rattle.wc_text.specs.declared.names.Handle.{Handle}
use Rattle.wc_buffers.specs.declared.row.BufferEntry.{BufferEntry}
use Rattle.wc_buffers.specs.Calls.{is_there, with_entry}
use Rattle.wc_buffers.specs.Groups.{rows, in_group, has}
use Rattle.wc_buffers.specs.Kept.{at_handle, entry_at, groups_of_handles, AreBuffersKept, IsBuffer, IsEntryChanged}
use Rattle.wc_buffers.specs.Table.{key}
use Rattle.wc_buffers.proofs.Keeps.{kept_changed, shown_changed}
use Rattle.wc_buffers.proofs.Shown.{there-shown, has-shown, rows-shown}

pub is_stored : {S T : Type 0} (gs : List (List Handle)) (es : HashMap ℕ BufferEntry S) (ns : HashMap (Vec ℕ Global) Handle T) → AreBuffersKept gs es ns → (h : Handle) → is_there h (groups_of_handles es gs) ≡ true → is_some (at_handle es h.0) ≡ true
is_stored gs es ns kept h there = there-shown gs es ns kept h.0 ∙ there

pub is_grouped : {S T : Type 0} (gs : List (List Handle)) (es : HashMap ℕ BufferEntry S) (ns : HashMap (Vec ℕ Global) Handle T) → AreBuffersKept gs es ns → (h : Handle) → is_there h (groups_of_handles es gs) ≡ true → has key h.0 gs ≡ true
is_grouped gs es ns kept h there = sym (has-shown gs es ns kept h.0) ∙ there

pub is_not_grouped : {S T : Type 0} (gs : List (List Handle)) (es : HashMap ℕ BufferEntry S) (ns : HashMap (Vec ℕ Global) Handle T) → AreBuffersKept gs es ns → (h : Handle) → is_there h (groups_of_handles es gs) ≡ false → has key h.0 gs ≡ false
is_not_grouped gs es ns kept h there = sym (has-shown gs es ns kept h.0) ∙ there

pub kept_changed_at : {S T : Type 0} (h : Handle) (f : BufferEntry → BufferEntry) (gs : List (List Handle)) (es es2 : HashMap ℕ BufferEntry S) (ns : HashMap (Vec ℕ Global) Handle T) → ((e : BufferEntry) → (f e).row.handle ≡ e.row.handle) → ((e : BufferEntry) → (f e).row.full_name ≡ e.row.full_name)
    → ((e : BufferEntry) → IsBuffer e → IsBuffer (f e)) → IsEntryChanged h.0 f es es2 → AreBuffersKept gs es ns → AreBuffersKept gs es2 ns
kept_changed_at h f gs es es2 ns handle name fits new kept = kept_changed h.0 f gs es es2 ns handle name (λ e i is. fits e is) new kept

pub shown_changed_at : {S T : Type 0} (h : Handle) (f : BufferEntry → BufferEntry) (gs : List (List Handle)) (es es2 : HashMap ℕ BufferEntry S) (ns : HashMap (Vec ℕ Global) Handle T) → AreBuffersKept gs es ns → IsEntryChanged h.0 f es es2 → is_there h (groups_of_handles es gs) ≡ true → groups_of_handles es2 gs ≡ with_entry h f (groups_of_handles es gs)
shown_changed_at h f gs es es2 ns kept new there = shown_changed h.0 f gs es es2 ns kept new (is_stored gs es ns kept h there)

pub within_shown : {S : Type 0} (gs : List (List Handle)) (es : HashMap ℕ BufferEntry S) (n : ℕ) → n < length (groups_of_handles es gs) → n < length gs
within_shown gs es n l = subst (λ m. n < m) (length-map gs (map (entry_at es))) l

together_self : (h : ℕ) (gs : List (List Handle)) → has key h gs ≡ true → list_any (λ g. in_group key h g && in_group key h g) gs ≡ true
together_self h [] e = e
together_self h (g ∷ gs) e = by (in_group key h g) e (together_self h gs)
  where
    by : (t : Bool) → (t || has key h gs) ≡ true → (has key h gs ≡ true → list_any (λ g. in_group key h g && in_group key h g) gs ≡ true) → ((t && t) || list_any (λ g. in_group key h g && in_group key h g) gs) ≡ true
    by true o rest = refl
    by false o rest = rest o

-- a buffer that is there is together with itself
pub not_together : (h into : ℕ) (gs : List (List Handle)) → has key h gs ≡ true → list_any (λ g. in_group key h g && in_group key into g) gs ≡ false → eqb h into ≡ false
not_together h into gs there e = false_from_ne_true (eqb h into)
    (λ t.
    let same : h ≡ into = eqb-true h into t in
    let apart : list_any (λ g. in_group key h g && in_group key h g) gs ≡ false = subst (λ n. list_any (λ g. in_group key h g && in_group key n g) gs ≡ false) (sym same) e in
    false≢true (sym apart ∙ together_self h gs there))

pub room_shown : {S T : Type 0} (gs : List (List Handle)) (es : HashMap ℕ BufferEntry S) (ns : HashMap (Vec ℕ Global) Handle T) → AreBuffersKept gs es ns → length (rows (groups_of_handles es gs)) < 256 → length (rows gs) < 256
room_shown gs es ns kept l = subst (λ n. n < 256) (sym (rows-shown gs es ns kept)) l

-- the buffer that is there, with the full name that it has
pub stored_entry : (o : Option BufferEntry) (name : List ℕ) → is_some o ≡ true → IsSomeAnd o (λ e. e.row.full_name ≡ name) → (e : BufferEntry) × (o ≡ Some e) × (e.row.full_name ≡ name)
stored_entry None name there old = absurd (false≢true there)
stored_entry (Some e) name there old = (e, refl, old)
