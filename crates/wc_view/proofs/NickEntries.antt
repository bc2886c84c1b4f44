-- A list of entries seen as the nicklist of each buffer.
use Rattle.std.proofs.Common.{◌≡◌, ℕ, ◌<◌, Bool, true, false, cond, Option, Some, None, List, [], ◌∷◌, ◌++◌, length, get_or, set, refl, sym, ap, ◌∙◌, eqb}
use Rattle.std.specs.Prelude.{is_some}
use Rattle.std.specs.FinMap.{find, get, insert, remove, get-insert, get-remove, get-from_entries, same_map, nat_cmp-IsAntisymmetric, from_entries_push}
use Rattle.std.specs.List.{filter}
use Rattle.std.specs.Ordering.{nat_cmp, eq_by_cmp}
use Rattle.std.specs.Cmp.{nat_cmp_total}
use Rattle.wc_nicklist.specs.declared.item.Row.{Row}
use Rattle.wc_view.specs.Entries.{IsEntry}
use Rattle.wc_view.specs.NickEntries.{NickEntry, nicks_at}
use Rattle.wc_view.specs.NickFold.{put_rows}
use Rattle.wc_view.specs.NickSteps.{put_new}
use Rattle.wc_view.proofs.EntryLemmas.{tied, find_here, find_set}
use Rattle.wc_view.proofs.EditLemmas.{is_other, found_else}

entry_rows : (h i : ℕ) (es : List NickEntry) (d : NickEntry) → i < length es → IsEntry h i es → get (nicks_at es) h ≡ Some (get_or es i d).1
entry_rows h i es d l e = get-from_entries nat_cmp_total es h ∙ find_here h i es d l (e.at d) e.before

no_rows : (h : ℕ) (es : List NickEntry) → find nat_cmp h es ≡ None → get (nicks_at es) h ≡ None
no_rows h es e = get-from_entries nat_cmp_total es h ∙ e

pub nicks_shown : (h i : ℕ) (es : List NickEntry) (e : NickEntry) (rows : List Row) → i < length es → IsEntry h i es → e ≡ get_or es i e → rows ≡ e.1
    → Some rows ≡ get (nicks_at es) h
nicks_shown h i es e rows l at is shown = ap Some (shown ∙ ap (λ (z : NickEntry). z.1) is) ∙ sym (entry_rows h i es e l at)

pub none_shown : (h : ℕ) (es : List NickEntry) → find nat_cmp h es ≡ None → None ≡ get (nicks_at es) h
none_shown h es e = sym (no_rows h es e)

put_at : (h i : ℕ) (es : List NickEntry) (v : List Row) (d : NickEntry) → i < length es → IsEntry h i es → nicks_at (set es i (h, v)) ≡ insert (nicks_at es) h v
put_at h i es v d l e = same_map nat_cmp_total nat_cmp-IsAntisymmetric _ _ (λ q.
    get-from_entries nat_cmp_total (set es i (h, v)) q ∙ find_set h i q es v d l (e.at d) e.before
    ∙ sym (get-insert nat_cmp_total (nicks_at es) h v q ∙ ap (cond (eq_by_cmp nat_cmp q h) (Some v)) (get-from_entries nat_cmp_total es q)))

-- another nicklist of a buffer that is there, and of one that is not
pub list_replaced : (i : ℕ) (es : List NickEntry) (entry : NickEntry) → i < length es → IsEntry entry.0 i es
    → nicks_at (set es i entry) ≡ put_rows entry.0 (Some entry.1) (nicks_at es)
list_replaced i es entry l e =
    put_at entry.0 i es entry.1 entry l e
    ∙ sym (ap (λ o. cond (is_some o) (insert (nicks_at es) entry.0 entry.1) (nicks_at es)) (entry_rows entry.0 i es entry l e))

pub none_replaced : (es : List NickEntry) (entry : NickEntry) → find nat_cmp entry.0 es ≡ None → nicks_at es ≡ put_rows entry.0 (Some entry.1) (nicks_at es)
none_replaced es entry n = sym (ap (λ o. cond (is_some o) (insert (nicks_at es) entry.0 entry.1) (nicks_at es)) (no_rows entry.0 es n))

-- a buffer that comes
pub held_already : (i : ℕ) (es : List NickEntry) (entry : NickEntry) → i < length es → IsEntry entry.0 i es → nicks_at es ≡ put_new entry (nicks_at es)
held_already i es entry l e = sym (ap (λ o. cond (is_some o) (nicks_at es) (insert (nicks_at es) entry.0 entry.1)) (entry_rows entry.0 i es entry l e))

pub buffer_added : (es : List NickEntry) (entry : NickEntry) → find nat_cmp entry.0 es ≡ None → nicks_at (es ++ entry ∷ []) ≡ put_new entry (nicks_at es)
buffer_added es entry n =
    from_entries_push nat_cmp_total nat_cmp-IsAntisymmetric es entry.0 entry.1 n
    ∙ sym (ap (λ o. cond (is_some o) (nicks_at es) (insert (nicks_at es) entry.0 entry.1)) (no_rows entry.0 es n))

-- a buffer that goes
pub list_gone : (h : ℕ) (es : List NickEntry) → nicks_at (filter (is_other h) es) ≡ remove (nicks_at es) h
list_gone h es = same_map nat_cmp_total nat_cmp-IsAntisymmetric _ _ (λ q.
    get-from_entries nat_cmp_total (filter (is_other h) es) q ∙ found_else q h es
    ∙ sym (get-remove nat_cmp_total (nicks_at es) h q ∙ ap (λ b. cond b None (get (nicks_at es) q)) (tied q h)
    ∙ ap (cond (eqb q h) None) (get-from_entries nat_cmp_total es q)))

-- what `nicklist_of` needs
pub ruleset nicklist_of_facts = (nicks_shown, none_shown)

-- what `replace_list` needs
pub ruleset replace_list_facts = (list_replaced, none_replaced)

-- what `add_buffer` needs
pub ruleset add_buffer_facts = (held_already, buffer_added)
