-- What contracts see of the table, and what each call makes of it.
use Rattle.std.specs.Prelude.{◌≡◌, ℕ, ◌+◌, ◌≤◌, Bool, true, false, not, ◌&&◌, ◌==◌, nat_le}
use Rattle.std.specs.Prelude.{Option, Some, None, List, [], length, map, take, filter, is_some}
use Rattle.std.specs.Prelude.{replicate, if◌then◌else◌}
use Rattle.std.specs.List.{list_all, list_any, slice_set, slice_index_or}
use Rattle.wc_hooks.specs.declared.entry.Entry.{Entry}
use Rattle.wc_hooks.specs.declared.entry.HookId.{HookId}
use Rattle.wc_hooks.specs.declared.kind.HookKind.{HookKind}
use Rattle.wc_hooks.specs.Kinds.{is_relay}
use Rattle.wc_hooks.specs.Rows.{HookRow, put_in, rows_filed, without, is_for, falls, is_id, lives}
use Rattle.wc_hooks.specs.Rows.{relays, others}
use Rattle.wc_hooks.specs.Filings.{Filing, filing_of, with_filing, without_filing, filed_under}
use Rattle.wc_hooks.specs.Passes.{hooks_on, due, entries_left, with_given, without_mark}

-- a kind and a key
pub record Topic : Type 0 where
  pub kind : HookKind
  pub key : List ℕ

-- an open pass: the entries of its snapshot that were not looked at yet, how many entries it looked
-- at, and the kind and key that it goes through, if an entry was filed there at its opening
pub record Going : Type 0 where
  pub left : List Entry
  pub looked : ℕ
  pub over : Option Topic

-- the entries that live, those that are marked as running, how many were ever hooked, what is
-- filed, and at each place for a pass the one that is open there; the last place is the one for
-- relay sessions
pub record Table : Type 0 where
  pub rows : List HookRow
  pub marks : List Entry
  pub hooked : ℕ
  pub filed : List Filing
  pub passes : List (Option Going)

abbrev pub new_table : Table
new_table = record { rows = []; marks = []; hooked = 0; filed = []; passes = replicate 17 None }

-- the pass that is open at this place, if one is
abbrev pub pass_at : Table → ℕ → Option Going
pass_at table place = slice_index_or table.passes place None

abbrev pub left_of : Option Going → List Entry
left_of None = []
left_of (Some pass) = pass.left

abbrev pub looked_of : Option Going → ℕ
looked_of None = 0
looked_of (Some pass) = pass.looked

abbrev pub over_of : Option Going → Option Topic
over_of None = None
over_of (Some pass) = pass.over

abbrev pub left_at : Table → ℕ → List Entry
left_at table place = left_of (pass_at table place)

abbrev pub looked_at : Table → ℕ → ℕ
looked_at table place = looked_of (pass_at table place)

abbrev pub over_at : Table → ℕ → Option Topic
over_at table place = over_of (pass_at table place)

abbrev pub IsOpen : Table → ℕ → Type 0
IsOpen table place = is_some (pass_at table place) ≡ true

-- how many passes of other kinds than the one of relay sessions are open
abbrev pub other_passes : Table → ℕ
other_passes table = length (filter is_some (take 16 table.passes))

abbrev pub any_open : List (Option Going) → Bool
any_open passes = list_any is_some passes

-- no pass of this kind can be opened
abbrev pub has_no_place : HookKind → Table → Bool
has_no_place kind table = not (is_relay kind) && (other_passes table == 16)

-- the place is one for passes of this kind
abbrev pub is_place_for : HookKind → ℕ → Bool
is_place_for kind place = if is_relay kind then place == 16 else nat_le place 15

-- no entry of this kind can be hooked
abbrev pub is_full_for : HookKind → Table → Bool
is_full_for kind table = not (is_relay kind) && (others table.rows == 960)

-- one more entry, with the next number
abbrev pub with_row : HookRow → Table → Table
with_row row table = record table {
  rows = put_in row table.rows;
  filed = with_filing (filing_of row) table.filed;
  hooked = table.hooked + 1;
}

-- under each kind and key are those that were there, and this one at its place where it is filed
-- there
abbrev pub IsFiled : HookRow → Table → Table → Type 0
IsFiled row old new =
    (kind : HookKind) (key : List ℕ) → rows_filed kind key new.rows ≡ (if is_for kind key row
    then put_in row (rows_filed kind key old.rows) else rows_filed kind key old.rows)

-- without the entry and its mark; it stays filed while a pass is open
abbrev pub without_row : HookId → Table → Table
without_row id table = record table {
  rows = without id table.rows;
  marks = without_mark id table.marks;
  filed = if any_open table.passes then table.filed
      else without_filing id table.filed;
}

abbrev pub with_rows : List HookRow → Table → Table
with_rows rows table = record table { rows = rows }

abbrev pub with_marks : List Entry → Table → Table
with_marks marks table = record table { marks = marks }

abbrev pub with_pass : ℕ → Option Going → Table → Table
with_pass place pass table = record table { passes = slice_set table.passes place pass }

-- the kind and key, if an entry is filed there
abbrev pub topic_in : HookKind → List ℕ → List Filing → Option Topic
topic_in kind key filings = if length (filed_under kind key filings) == 0 then None
    else Some (record { kind = kind; key = key })

-- a pass of this kind and key that opens now
abbrev pub opening : HookKind → List ℕ → Table → Going
opening kind key table = record {
  left = hooks_on kind key table.rows;
  looked = 0;
  over = topic_in kind key table.filed;
}

-- what the pass at this place gives next
abbrev pub next_of : Table → ℕ → Option Entry
next_of table place = due table.rows table.marks (left_at table place)

-- that is marked as running, what comes after it is left, and so many entries more were looked at
abbrev pub after_next : Table → ℕ → ℕ → Table
after_next table place steps =
    with_pass place (Some (record {
      left = entries_left table.rows table.marks
          (left_at table place);
      looked = looked_at table place + steps;
      over = over_at table place;
    }))
    (with_marks (with_given (next_of table place) table.marks) table)

-- no pass is open at this place; where none is open at all, only those that live are filed
abbrev pub without_pass : ℕ → Table → Table
without_pass place table = record table {
  passes = slice_set table.passes place None;
  filed = if any_open (slice_set table.passes place None) then table.filed
      else map filing_of table.rows;
}

-- the pass looked at no more entries than are filed under its kind and key
abbrev pub is_within : List Filing → Option Topic → ℕ → Bool
is_within filings None looked = looked == 0
is_within filings (Some topic) looked =
    nat_le looked (length (filed_under topic.kind topic.key filings))

abbrev pub is_bounded : Table → ℕ → Bool
is_bounded table place = is_within table.filed (over_at table place) (looked_at table place)

-- one of these has this number
abbrev pub is_among : HookId → List Entry → Bool
is_among id entries = list_any (λ entry. entry.id.0 == id.0) entries

-- no entry that lives has this number, nor one that is marked or left of an open pass
pub record IsUnusedId (id : HookId) (table : Table) : Type 0 where
  pub lives : lives id table.rows ≡ false
  pub marks : is_among id table.marks ≡ false
  pub left : (place : ℕ) → is_among id (left_at table place) ≡ false

-- all of these were drawn by now
abbrev pub are_drawn : ℕ → List Entry → Bool
are_drawn hooked entries = list_all (λ entry. nat_le entry.id.0 hooked) entries

-- what always holds of the table
pub record IsHookTable (table : Table) : Type 0 where
  pub falls : falls table.rows ≡ true
  pub once : (id : HookId) → length (filter (is_id id) table.rows) ≤ 1
  pub rows_drawn : list_all (λ row. nat_le row.id.0 table.hooked) table.rows ≡ true
  pub passes_drawn : list_all (λ pass. are_drawn table.hooked (left_of pass)) table.passes ≡ true
  pub marks_live : list_all (λ mark. lives mark.id table.rows) table.marks ≡ true
  pub most_relays : relays table.rows ≤ 64
  pub most_others : others table.rows ≤ 960
  pub places : length table.passes ≡ 17
  pub within : (place : ℕ) → is_bounded table place ≡ true
  pub all_live : any_open table.passes ≡ false → table.filed ≡ map filing_of table.rows
