-- The names of variables stay short.
use Rattle.std.proofs.Common.{◌≡◌, ℕ, ◌≤◌, Bool, true, false, cond, List, [], ◌∷◌, length, find, Some, None, option_map, bytes_eq, refl, arith}
use Rattle.std.specs.List.{AllByRecursion}
use Rattle.wc_text.specs.declared.names.Handle.{Handle}
use Rattle.wc_text.specs.declared.names.Pair.{Pair}
use Rattle.wc_buffers.specs.declared.refused.BufferRefused.TheVariants.{BadName}
use Rattle.wc_buffers.specs.declared.row.BufferRow.{BufferRow}
use Rattle.wc_buffers.specs.Calls.{EntryGroups, is_bad_name, bad_name, no_buffer, bad_var_names, fixed_vars, bad_names, var_refusal, set_var_refusal, new_entry}
use Rattle.wc_buffers.specs.Vars.{var, set_var, remove_var, plugin_var, name_var, set_fixed, set_all, vars_of}
use Rattle.wc_buffers.proofs.Fits.{or_none, when_none, good_name}
use Rattle.wc_mirror_laws.specs.Worlds.{HasShortName}

abbrev pub AreShort : List Pair → Type 0
AreShort vars = AllByRecursion HasShortName vars

pub short_set : (p : Pair) (vars : List Pair) → HasShortName p → AreShort vars → AreShort (set_var p vars)
short_set p [] is all = (is, tt)
short_set p (v ∷ vars) is all = elim (bytes_eq p.name v.name) as (λ b. AreShort (cond b (p ∷ vars) (v ∷ set_var p vars))) [
  | true ↦ (is, all.1)
  | false ↦ (all.0, short_set p vars is all.1)
]

pub short_removed : (name : List ℕ) (vars : List Pair) → AreShort vars → AreShort (remove_var name vars)
short_removed name [] all = tt
short_removed name (v ∷ vars) all = elim (bytes_eq name v.name) as (λ b. AreShort (cond b vars (v ∷ remove_var name vars))) [
  | true ↦ all.1
  | false ↦ (all.0, short_removed name vars all.1)
]

pub short_fixed : (full_name : List ℕ) (vars : List Pair) → AreShort vars → AreShort (set_fixed full_name vars)
short_fixed full_name vars all = short_set (name_var full_name) (set_var (plugin_var full_name) vars) (omega arith) (short_set (plugin_var full_name) vars (omega arith) all)

short_all : (kept vars : List Pair) → AreShort kept → bad_var_names vars ≡ None → AreShort (set_all kept vars)
short_all kept [] are good = are
short_all kept (v ∷ vars) are good =
    by (is_bad_name 64 v.name) refl good (λ t e. short_all (set_var (var v.name v.value) kept) vars (short_set (var v.name v.value) kept (good_name 64 v.name t).1 are) e)
  where
    by : (b : Bool) → is_bad_name 64 v.name ≡ b → option_map (λ (v : Pair). BadName (length v.name)) (cond b (Some v) (find (λ (v : Pair). is_bad_name 64 v.name) vars)) ≡ None
        → (is_bad_name 64 v.name ≡ false → bad_var_names vars ≡ None → AreShort (set_all kept (v ∷ vars))) → AreShort (set_all kept (v ∷ vars))
    by true t e rest = absurd (let h = e in cc)
    by false t e rest = rest t e

pub opened_short : (row : BufferRow) (vars : List Pair) → bad_names row vars ≡ None → AreShort (new_entry row vars).vars
unfolding bad_names vars_of
opened_short row vars good =
    let a = or_none (bad_name 256 row.full_name) _ good in
    let b = or_none (bad_name 128 row.short_name) _ a.1 in
    let c = or_none (bad_var_names vars) (fixed_vars vars) b.1 in
    short_all (set_fixed row.full_name []) vars (short_fixed row.full_name [] tt) c.0

pub set_name_short : (h : Handle) (name : List ℕ) (groups : EntryGroups) → set_var_refusal h name groups ≡ None → length name ≤ 64
unfolding set_var_refusal var_refusal
set_name_short h name groups e =
    let a = or_none (var_refusal h name groups) _ e in
    let b = or_none (no_buffer h groups) _ a.0 in
    let c = or_none (bad_name 64 name) _ b.1 in
    (good_name 64 name (when_none _ _ c.0)).1
