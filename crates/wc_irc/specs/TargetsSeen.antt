-- What is told of buffers, by their handles.
use Rattle.std.specs.Prelude.{ℕ, List, [], ◌∷◌, ◌++◌, flat_map, Option, Some, None}
use Rattle.wc_text.specs.declared.names.Handle.{Handle}
use Rattle.wc_buffers.specs.declared.row.BufferEntry.{BufferEntry}
use Rattle.wc_buffers.specs.declared.row.BufferRow.{BufferRow}
use Rattle.wc_buffers.specs.Calls.{EntryGroups, buffer_of, entry_of}
use Rattle.wc_irc.specs.declared.act.Act.{Act}

-- the name of a buffer that is there
abbrev pub name_in : Option BufferRow → List (List ℕ)
name_in None = []
name_in (Some row) = row.full_name ∷ []

abbrev pub names_at : EntryGroups → List Handle → List (List ℕ)
names_at groups [] = []
names_at groups (h ∷ handles) = name_in (buffer_of h groups) ++ names_at groups handles

abbrev pub all_names_at : EntryGroups → List (List Handle) → List (List ℕ)
all_names_at groups [] = []
all_names_at groups (handles ∷ others) = names_at groups handles ++ all_names_at groups others

-- the acts of a buffer that is there
abbrev pub acts_in : (BufferEntry → List Act) → Option BufferEntry → List Act
acts_in acts None = []
acts_in acts (Some buffer) = acts buffer

abbrev pub acts_at : (BufferEntry → List Act) → EntryGroups → List Handle → List Act
acts_at acts groups handles = flat_map (λ h. acts_in acts (entry_of h groups)) handles

abbrev pub all_acts_at : (BufferEntry → List Act) → EntryGroups → List (List Handle) → List Act
all_acts_at acts groups handles = flat_map (acts_at acts groups) handles
