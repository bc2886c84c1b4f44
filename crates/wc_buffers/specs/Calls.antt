-- The calls of the buffers: the refusal of each, where there is one, and the groups after it.
use Rattle.std.specs.Prelude.{◌≡◌, ◌≢◌, ℕ, ◌+◌, ◌-◌, ◌==◌, Bool, true, not, ◌&&◌}
use Rattle.std.specs.Prelude.{◌||◌, nat_lt, nat_le, Option, Some, None, List, [], ◌∷◌, ◌++◌, length}
use Rattle.std.specs.Prelude.{find, option_map, is_none, if◌then◌else◌, bytes_eq, codes}
use Rattle.std.specs.List.{list_any}
use Rattle.wc_text.specs.declared.names.Handle.{Handle}
use Rattle.wc_text.specs.declared.names.Pair.{Pair}
use Rattle.wc_buffers.specs.declared.row.BufferRow.{BufferRow}
use Rattle.wc_buffers.specs.declared.row.BufferEntry.{BufferEntry}
use Rattle.wc_buffers.specs.declared.refused.BufferRefused.{BufferRefused}
use Rattle.wc_buffers.specs.declared.refused.BufferRefused.TheVariants.{NoBuffer, IsCore, BadName}
use Rattle.wc_buffers.specs.declared.refused.BufferRefused.TheVariants.{FixedVar, NameTaken, NoVar}
use Rattle.wc_buffers.specs.declared.refused.BufferRefused.TheVariants.{SameGroup, NotMerged}
use Rattle.wc_buffers.specs.declared.refused.BufferRefused.TheVariants.{BadNumber, TooMany}
use Rattle.wc_buffers.specs.declared.refused.BufferRefused.TheVariants.{NoMemory}
use Rattle.wc_buffers.specs.Groups.{rows, has, place, row_of, update, take_out, merge, move_group}
use Rattle.wc_buffers.specs.Groups.{unmerge, in_group}
use Rattle.wc_buffers.specs.Vars.{cut_to, var, var_of, set_var, remove_var, set_fixed, vars_of}

abbrev pub EntryGroups : Type 0
EntryGroups = List (List BufferEntry)

abbrev pub handle_of : BufferEntry → ℕ
handle_of e = e.row.handle.0

abbrev pub is_there : Handle → EntryGroups → Bool
is_there h gs = has handle_of h.0 gs

-- what there is of a buffer
abbrev pub entry_of : Handle → EntryGroups → Option BufferEntry
entry_of h gs = row_of handle_of h.0 gs

abbrev pub buffer_of : Handle → EntryGroups → Option BufferRow
buffer_of h gs = option_map (λ (e : BufferEntry). e.row) (entry_of h gs)

abbrev pub vars_at : Handle → EntryGroups → Option (List Pair)
vars_at h gs = option_map (λ (e : BufferEntry). e.vars) (entry_of h gs)

-- one plus the place of the group that holds the buffer
abbrev pub number : Handle → EntryGroups → Option ℕ
number h gs = option_map (λ n. n + 1) (place handle_of h.0 gs)

-- the first buffer of a full name
abbrev pub is_named : List ℕ → BufferEntry → Bool
is_named name e = bytes_eq name e.row.full_name

abbrev pub handle_of_name : List ℕ → EntryGroups → Option Handle
handle_of_name name gs = option_map (λ (e : BufferEntry). e.row.handle)
    (find (is_named name) (rows gs))

-- whether a buffer other than this one has the full name
abbrev pub other_named : List ℕ → Handle → BufferEntry → Bool
other_named name h e = is_named name e && not (handle_of e == h.0)

-- ---- refusals

-- what a call that takes memory answers, where memory is found
abbrev pub AnswersRefusal : Option BufferRefused → Option BufferRefused → Type 0
AnswersRefusal due answer = answer ≢ Some NoMemory → answer ≡ due

-- a reason where it holds, and the first of several
abbrev pub when : Bool → BufferRefused → Option BufferRefused
when holds reason = if holds then Some reason else None

abbrev pub or_else : Option BufferRefused → Option BufferRefused → Option BufferRefused
or_else None b = b
or_else (Some a) b = Some a

abbrev pub no_buffer : Handle → EntryGroups → Option BufferRefused
no_buffer h gs = when (not (is_there h gs)) (NoBuffer h)

-- empty, or above its limit
abbrev pub is_bad_name : ℕ → List ℕ → Bool
is_bad_name limit name = (length name == 0) || nat_lt limit (length name)

abbrev pub bad_name : ℕ → List ℕ → Option BufferRefused
bad_name limit name = when (is_bad_name limit name) (BadName (length name))

abbrev pub is_fixed : List ℕ → Bool
is_fixed name = bytes_eq name (codes "plugin") || bytes_eq name (codes "name")

abbrev pub fixed_var : List ℕ → Option BufferRefused
fixed_var name = when (is_fixed name) (FixedVar name)

-- the first variable with a bad name, and the first of the two that a buffer has by itself
abbrev pub bad_var_names : List Pair → Option BufferRefused
bad_var_names vars = option_map (λ (v : Pair). BadName (length v.name))
    (find (λ (v : Pair). is_bad_name 64 v.name) vars)

abbrev pub fixed_vars : List Pair → Option BufferRefused
fixed_vars vars = option_map (λ (v : Pair). FixedVar v.name)
    (find (λ (v : Pair). is_fixed v.name) vars)

abbrev pub refusal_of_name : List ℕ → Handle → EntryGroups → Option BufferRefused
refusal_of_name name h gs = when (list_any (other_named name h) (rows gs)) (NameTaken name)

-- what of a new buffer is refused whatever is there
unfoldable pub bad_names : BufferRow → List Pair → Option BufferRefused
bad_names row vars =
    or_else (bad_name 256 row.full_name)
    (or_else (bad_name 128 row.short_name)
    (or_else (bad_var_names vars)
    (fixed_vars vars)))

unfoldable pub no_room : EntryGroups → Option BufferRefused
no_room gs = when (nat_le 256 (length (rows gs))) (TooMany 256)

unfoldable pub too_many_vars : List ℕ → List Pair → Option BufferRefused
too_many_vars full_name vars = when (nat_lt 64 (length (vars_of full_name vars))) (TooMany 64)

-- all but the number of its variables
unfoldable pub add_refusal_so_far : BufferRow → List Pair → EntryGroups → Option BufferRefused
add_refusal_so_far row vars gs = or_else (bad_names row vars)
    (or_else (refusal_of_name row.full_name row.handle gs) (no_room gs))

unfoldable pub add_refusal : BufferRow → List Pair → EntryGroups → Option BufferRefused
add_refusal row vars gs = or_else (add_refusal_so_far row vars gs)
    (too_many_vars row.full_name vars)

unfoldable pub close_refusal : Handle → EntryGroups → Option BufferRefused
close_refusal h gs = or_else (no_buffer h gs) (when (h.0 == 1) IsCore)

unfoldable pub move_refusal : Handle → ℕ → EntryGroups → Option BufferRefused
move_refusal h n gs = or_else (no_buffer h gs) (when ((n == 0) || nat_lt (length gs) n)
    (BadNumber n))

-- whether the two are in one group
abbrev pub are_together : Handle → Handle → EntryGroups → Bool
are_together h into gs = list_any (λ g. in_group handle_of h.0 g && in_group handle_of into.0 g) gs

-- the number where there is one
abbrev pub same_group : Option ℕ → Option BufferRefused
same_group n = option_map SameGroup n

unfoldable pub merge_refusal : Handle → Handle → EntryGroups → Option BufferRefused
merge_refusal h into gs =
    or_else (no_buffer h gs)
    (or_else (no_buffer into gs)
    (if are_together h into gs then same_group (number h gs) else None))

-- whether the buffer is the only one of its group
abbrev pub is_alone : Handle → EntryGroups → Bool
is_alone h gs = list_any (λ g. in_group handle_of h.0 g && (length g == 1)) gs

unfoldable pub unmerge_refusal : Handle → EntryGroups → Option BufferRefused
unmerge_refusal h gs = or_else (no_buffer h gs) (when (is_alone h gs) NotMerged)

unfoldable pub rename_refusal : Handle → List ℕ → EntryGroups → Option BufferRefused
rename_refusal h name gs = or_else (no_buffer h gs)
    (or_else (bad_name 256 name) (refusal_of_name name h gs))

unfoldable pub short_name_refusal : Handle → List ℕ → EntryGroups → Option BufferRefused
short_name_refusal h name gs = or_else (no_buffer h gs) (bad_name 128 name)

-- whether a buffer has no such variable, and whether it has as many as are allowed
abbrev pub lacks_var : List ℕ → Option BufferEntry → Bool
lacks_var name None = true
lacks_var name (Some e) = is_none (var_of name e.vars)

abbrev pub is_full : Option BufferEntry → Bool
is_full None = true
is_full (Some e) = nat_le 64 (length e.vars)

-- what is refused of any variable that is set or removed
unfoldable pub var_refusal : Handle → List ℕ → EntryGroups → Option BufferRefused
var_refusal h name gs = or_else (no_buffer h gs) (or_else (bad_name 64 name) (fixed_var name))

unfoldable pub set_var_refusal : Handle → List ℕ → EntryGroups → Option BufferRefused
set_var_refusal h name gs = or_else (var_refusal h name gs)
    (when (lacks_var name (entry_of h gs) && is_full (entry_of h gs)) (TooMany 64))

unfoldable pub remove_var_refusal : Handle → List ℕ → EntryGroups → Option BufferRefused
remove_var_refusal h name gs = or_else (var_refusal h name gs)
    (when (lacks_var name (entry_of h gs)) (NoVar name))

-- ---- the groups after each call

abbrev pub new_entry : BufferRow → List Pair → BufferEntry
new_entry row vars = record {
  row = record {
    handle = row.handle;
    own_lines = row.own_lines;
    mixed_lines = row.mixed_lines;
    full_name = row.full_name;
    short_name = row.short_name;
    title = cut_to 1024 row.title;
    hidden = row.hidden;
  };
  vars = vars_of row.full_name vars;
}

-- a group of its own at the end
abbrev pub with_buffer : BufferRow → List Pair → EntryGroups → EntryGroups
with_buffer row vars gs = gs ++ (new_entry row vars ∷ []) ∷ []

abbrev pub without_buffer : Handle → EntryGroups → EntryGroups
without_buffer h gs = take_out handle_of h.0 gs

abbrev pub move_group_to : Handle → ℕ → EntryGroups → EntryGroups
move_group_to h n gs = move_group handle_of h.0 (n - 1) gs

abbrev pub merge_groups : Handle → Handle → EntryGroups → EntryGroups
merge_groups h into gs = merge handle_of h.0 into.0 gs

abbrev pub unmerge_group : Handle → EntryGroups → EntryGroups
unmerge_group h gs = unmerge handle_of h.0 gs

-- a buffer with another row or other variables
abbrev pub with_hidden : Bool → BufferEntry → BufferEntry
with_hidden hidden e = record { row = record e.row { hidden = hidden }; vars = e.vars }

abbrev pub with_full_name : List ℕ → BufferEntry → BufferEntry
with_full_name name e = record {
  row = record e.row { full_name = name };
  vars = set_fixed name e.vars;
}

abbrev pub with_short_name : List ℕ → BufferEntry → BufferEntry
with_short_name name e = record { row = record e.row { short_name = name }; vars = e.vars }

abbrev pub with_title : List ℕ → BufferEntry → BufferEntry
with_title title e = record { row = record e.row { title = title }; vars = e.vars }

abbrev pub with_var : List ℕ → List ℕ → BufferEntry → BufferEntry
with_var name value e = record { row = e.row; vars = set_var (var name value) e.vars }

abbrev pub without_var : List ℕ → BufferEntry → BufferEntry
without_var name e = record { row = e.row; vars = remove_var name e.vars }

abbrev pub with_entry : Handle → (BufferEntry → BufferEntry) → EntryGroups → EntryGroups
with_entry h f gs = update handle_of h.0 f gs
