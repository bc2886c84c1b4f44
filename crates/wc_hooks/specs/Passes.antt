-- What a pass takes at its opening, and what it gives of that at each turn.
use Rattle.std.specs.Prelude.{ℕ, Bool, not, ◌&&◌, ◌==◌, Option, List, [], ◌∷◌, ◌++◌, map, filter}
use Rattle.std.specs.Prelude.{find, option_to_list, if◌then◌else◌}
use Rattle.std.specs.List.{list_any}
use Rattle.wc_hooks.specs.declared.entry.Entry.{Entry}
use Rattle.wc_hooks.specs.declared.entry.HookId.{HookId}
use Rattle.wc_hooks.specs.declared.entry.Owner.{Owner}
use Rattle.wc_hooks.specs.declared.kind.HookKind.{HookKind}
use Rattle.wc_hooks.specs.Kinds.{same_owner}
use Rattle.wc_hooks.specs.Rows.{HookRow, rows_filed, entry_of, is_on}

-- the enabled entries of a kind and a key, by priority downward, ties by creation
abbrev pub hooks_on : HookKind → List ℕ → List HookRow → List Entry
hooks_on kind key rows = map entry_of (filter (λ row. row.enabled) (rows_filed kind key rows))

-- some entry of this owner is marked as running
abbrev pub runs : Owner → List Entry → Bool
runs owner marks = list_any (λ mark. same_owner mark.owner owner) marks

-- it lives, is enabled, and no entry of its owner is marked as running
abbrev pub may_run : List HookRow → List Entry → Entry → Bool
may_run rows marks entry = is_on entry.id rows && not (runs entry.owner marks)

-- the first of what is left that may run
abbrev pub due : List HookRow → List Entry → List Entry → Option Entry
due rows marks left = find (may_run rows marks) left

-- what comes after the first that passes the test
abbrev pub following : {A : Type 0} → (A → Bool) → List A → List A
following test [] = []
following test (first ∷ left) = if test first then left else following test left

abbrev pub entries_left : List HookRow → List Entry → List Entry → List Entry
entries_left rows marks left = following (may_run rows marks) left

-- the entry that was given, if any, is marked as running
abbrev pub with_given : Option Entry → List Entry → List Entry
with_given given marks = marks ++ option_to_list given

-- the entry with this number is not marked
abbrev pub without_mark : HookId → List Entry → List Entry
without_mark id marks = filter (λ mark. not (mark.id.0 == id.0)) marks
