-- What holds where a call is not refused.
use Rattle.std.proofs.Common.{◌≡◌, ◌≢◌, ℕ, ◌+◌, ◌-◌, ◌<◌, ◌≤◌, Bool, true, false, cond, not, ◌&&◌, ltb, eqb, List, Option, Some, None, option_map, length, refl, ap, sym, ◌∙◌, arith}
use Rattle.std.proofs.lemmas.Bool.{false≢true, or_parts, not-false, leb-false, lt-ltb, le-ltb}
use Rattle.std.proofs.lemmas.Bool.Decides.{nat_tests}
use Rattle.std.specs.List.{list_any}
use Rattle.wc_text.specs.declared.names.Handle.{Handle}
use Rattle.wc_text.specs.declared.names.Pair.{Pair}
use Rattle.wc_buffers.specs.declared.row.BufferRow.{BufferRow}
use Rattle.wc_buffers.specs.declared.refused.BufferRefused.{BufferRefused}
use Rattle.wc_buffers.specs.declared.refused.BufferRefused.TheVariants.{NoMemory, TooMany}
use Rattle.wc_buffers.specs.Calls.{EntryGroups, AnswersRefusal, handle_of, is_there, entry_of, number, other_named, when, or_else, no_buffer, is_bad_name, bad_name, is_fixed, fixed_var, bad_names, refusal_of_name, no_room, too_many_vars, add_refusal_so_far, add_refusal, close_refusal, move_refusal, are_together, same_group, merge_refusal, is_alone, unmerge_refusal, rename_refusal, short_name_refusal, lacks_var, is_full, var_refusal, set_var_refusal, remove_var_refusal}
use Rattle.wc_buffers.specs.Groups.{rows, in_group, place}
use Rattle.wc_buffers.specs.Vars.{vars_of}
use Rattle.wc_buffers.proofs.Fits.{or_none, when_none}
use Rattle.wc_buffers.proofs.TableLemmas.{position_none}

pub not_due : (due answer : Option BufferRefused) → AnswersRefusal due answer → answer ≡ None → due ≡ None
not_due due answer says none = sym (says (λ memory. let e : ◌≡◌ {A = Option BufferRefused} None (Some NoMemory) = sym none ∙ memory in cc)) ∙ none

pub there_good : (h : Handle) (gs : EntryGroups) → no_buffer h gs ≡ None → is_there h gs ≡ true
there_good h gs e = not-false (is_there h gs) (when_none (not (is_there h gs)) _ e)

pub close_good : (h : Handle) (gs : EntryGroups) → close_refusal h gs ≡ None → is_there h gs ≡ true
unfolding close_refusal
close_good h gs e = there_good h gs (or_none (no_buffer h gs) _ e).0

pub move_good : (h : Handle) (n : ℕ) (gs : EntryGroups) → move_refusal h n gs ≡ None → (is_there h gs ≡ true) × (0 < n) × (n - 1 < length gs)
unfolding move_refusal
move_good h n gs e =
    let a = or_none (no_buffer h gs) _ e in
    let o = or_parts (eqb n 0) (ltb (length gs) n) (when_none _ _ a.1) in
    (there_good h gs a.0, grind (arith, nat_tests, o), grind (arith, nat_tests, o))

pub unmerge_good : (h : Handle) (gs : EntryGroups) → unmerge_refusal h gs ≡ None → (is_there h gs ≡ true) × (is_alone h gs ≡ false)
unfolding unmerge_refusal
unmerge_good h gs e = let a = or_none (no_buffer h gs) _ e in (there_good h gs a.0, when_none _ _ a.1)

has_number : (h : Handle) (gs : EntryGroups) → is_there h gs ≡ true → same_group (number h gs) ≡ None → ⊥
has_number h gs there e = by (place handle_of h.0 gs) refl e
  where
    by : (o : Option ℕ) → place handle_of h.0 gs ≡ o → same_group (option_map (λ n. n + 1) o) ≡ None → ⊥
    by None i n = false≢true (sym (position_none (in_group handle_of h.0) gs i) ∙ there)
    by (Some x) i n = absurd cc

pub merge_good : (h into : Handle) (gs : EntryGroups) → merge_refusal h into gs ≡ None → (is_there h gs ≡ true) × (is_there into gs ≡ true) × (are_together h into gs ≡ false)
unfolding merge_refusal
merge_good h into gs e =
    let a = or_none (no_buffer h gs) _ e in
    let b = or_none (no_buffer into gs) _ a.1 in
    let there = there_good h gs a.0 in
    (there, there_good into gs b.0, by there (are_together h into gs) b.1)
  where
    by : is_there h gs ≡ true → (t : Bool) → cond t (same_group (number h gs)) None ≡ None → t ≡ false
    by there true n = absurd (has_number h gs there n)
    by there false n = refl

pub rename_good : (h : Handle) (name : List ℕ) (gs : EntryGroups) → rename_refusal h name gs ≡ None → (is_there h gs ≡ true) × (is_bad_name 256 name ≡ false) × (list_any (other_named name h) (rows gs) ≡ false)
unfolding rename_refusal
rename_good h name gs e =
    let a = or_none (no_buffer h gs) _ e in
    let b = or_none (bad_name 256 name) (refusal_of_name name h gs) a.1 in
    (there_good h gs a.0, when_none _ _ b.0, when_none _ _ b.1)

pub short_name_good : (h : Handle) (name : List ℕ) (gs : EntryGroups) → short_name_refusal h name gs ≡ None → (is_there h gs ≡ true) × (is_bad_name 128 name ≡ false)
unfolding short_name_refusal
short_name_good h name gs e = let a = or_none (no_buffer h gs) _ e in (there_good h gs a.0, when_none _ _ a.1)

var_good : (h : Handle) (name : List ℕ) (gs : EntryGroups) → var_refusal h name gs ≡ None → (is_there h gs ≡ true) × (is_fixed name ≡ false)
unfolding var_refusal
var_good h name gs e =
    let a = or_none (no_buffer h gs) _ e in
    let b = or_none (bad_name 64 name) (fixed_var name) a.1 in
    (there_good h gs a.0, when_none _ _ b.1)

pub set_var_good : (h : Handle) (name : List ℕ) (gs : EntryGroups) → set_var_refusal h name gs ≡ None → (is_there h gs ≡ true) × (is_fixed name ≡ false) × ((lacks_var name (entry_of h gs) && is_full (entry_of h gs)) ≡ false)
unfolding set_var_refusal
set_var_good h name gs e =
    let a = or_none (var_refusal h name gs) _ e in
    let b = var_good h name gs a.0 in
    (b.0, b.1, when_none _ _ a.1)

pub remove_var_good : (h : Handle) (name : List ℕ) (gs : EntryGroups) → remove_var_refusal h name gs ≡ None → (is_there h gs ≡ true) × (is_fixed name ≡ false)
unfolding remove_var_refusal
remove_var_good h name gs e = var_good h name gs (or_none (var_refusal h name gs) _ e).0

pub add_good : (row : BufferRow) (vars : List Pair) (gs : EntryGroups) → add_refusal_so_far row vars gs ≡ None → (bad_names row vars ≡ None) × (list_any (other_named row.full_name row.handle) (rows gs) ≡ false) × (length (rows gs) < 256)
unfolding add_refusal_so_far no_room
add_good row vars gs e =
    let a = or_none (bad_names row vars) _ e in
    let b = or_none (refusal_of_name row.full_name row.handle gs) (no_room gs) a.1 in
    (a.0, when_none _ _ b.0, leb-false 256 (length (rows gs)) (when_none _ _ b.1))

-- ---- the refusal of an add in its two parts

pub add_refused : (row : BufferRow) (vars : List Pair) (gs : EntryGroups) (answer : Option BufferRefused) (e : BufferRefused) → AnswersRefusal (add_refusal_so_far row vars gs) answer → answer ≡ Some e → e ≢ NoMemory → add_refusal row vars gs ≡ Some e
unfolding add_refusal
add_refused row vars gs answer e says is memory =
    let due : add_refusal_so_far row vars gs ≡ Some e = sym (says (λ m. let n : Some e ≡ Some NoMemory = sym is ∙ m in memory cc)) ∙ is in
    ap (λ o. or_else o (too_many_vars row.full_name vars)) due

pub add_rest : (row : BufferRow) (vars : List Pair) (gs : EntryGroups) → add_refusal_so_far row vars gs ≡ None → add_refusal row vars gs ≡ too_many_vars row.full_name vars
unfolding add_refusal
add_rest row vars gs e = ap (λ o. or_else o (too_many_vars row.full_name vars)) e

pub vars_refused : (full_name : List ℕ) (vars : List Pair) → 64 < length (vars_of full_name vars) → too_many_vars full_name vars ≡ Some (TooMany 64)
unfolding too_many_vars
vars_refused full_name vars l = ap (λ t. when t (TooMany 64)) (lt-ltb 64 (length (vars_of full_name vars)) l)

pub vars_good : (full_name : List ℕ) (vars : List Pair) → length (vars_of full_name vars) ≤ 64 → too_many_vars full_name vars ≡ None
unfolding too_many_vars
vars_good full_name vars l = ap (λ t. when t (TooMany 64)) (le-ltb 64 (length (vars_of full_name vars)) l)
