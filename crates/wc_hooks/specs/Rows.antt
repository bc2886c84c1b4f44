-- The entries that live, in one list: by kind and key, then by priority downward, ties by creation.
use Rattle.std.specs.Prelude.{ℕ, Bool, true, not, ◌&&◌, ◌==◌, List, length, map, filter}
use Rattle.std.specs.Prelude.{if◌then◌else◌, bytes_eq}
use Rattle.std.specs.List.{list_any}
use Rattle.wc_hooks.specs.declared.entry.Entry.{Entry}
use Rattle.wc_hooks.specs.declared.entry.HookId.{HookId}
use Rattle.wc_hooks.specs.declared.entry.Owner.{Owner}
use Rattle.wc_hooks.specs.declared.kind.HookKind.{HookKind}
use Rattle.wc_hooks.specs.Kinds.{is_relay, same_kind}
use Rattle.wc_hooks.specs.Ranks.{Rank, put_by, falls_by}

-- an entry that lives
pub record HookRow : Type 0 where
  pub id : HookId
  pub kind : HookKind
  pub key : List ℕ
  pub priority : ℕ
  pub owner : Owner
  pub enabled : Bool

abbrev pub is_id : HookId → HookRow → Bool
is_id id row = row.id.0 == id.0

abbrev pub is_for : HookKind → List ℕ → HookRow → Bool
is_for kind key row = same_kind row.kind kind && bytes_eq row.key key

-- those of a kind and a key
abbrev pub rows_filed : HookKind → List ℕ → List HookRow → List HookRow
rows_filed kind key rows = filter (is_for kind key) rows

abbrev pub rank_of : HookRow → Rank
rank_of row = record { kind = row.kind; key = row.key; priority = row.priority }

abbrev pub put_in : HookRow → List HookRow → List HookRow
put_in row rows = put_by rank_of row rows

abbrev pub falls : List HookRow → Bool
falls rows = falls_by rank_of rows

abbrev pub without : HookId → List HookRow → List HookRow
without id rows = filter (λ row. not (is_id id row)) rows

abbrev pub with_switch : HookId → Bool → HookRow → HookRow
with_switch id on row = if is_id id row then record row { enabled = on } else row

-- the one with this number enabled or disabled
abbrev pub rows_switched : HookId → Bool → List HookRow → List HookRow
rows_switched id on rows = map (with_switch id on) rows

-- one with this number lives
abbrev pub lives : HookId → List HookRow → Bool
lives id rows = list_any (is_id id) rows

-- one with this number lives and is enabled
abbrev pub is_on : HookId → List HookRow → Bool
is_on id rows = list_any (λ row. is_id id row && row.enabled) rows

-- how many are of the kind of relay sessions, and of all other kinds
abbrev pub relays : List HookRow → ℕ
relays rows = length (filter (λ row. is_relay row.kind) rows)

abbrev pub others : List HookRow → ℕ
others rows = length (filter (λ row. not (is_relay row.kind)) rows)

abbrev pub entry_of : HookRow → Entry
entry_of row = record { id = row.id; owner = row.owner }

-- an entry that was just hooked
abbrev pub new_row : HookId → HookKind → List ℕ → ℕ → Owner → HookRow
new_row id kind key priority owner = record {
  id = id;
  kind = kind;
  key = key;
  priority = priority;
  owner = owner;
  enabled = true;
}
