-- The private buffers of a server, by their handles.
use Rattle.std.specs.Prelude.{ℕ, ◌+◌, Bool, false, ◌&&◌, List, [], ◌∷◌, length, filter, codes}
use Rattle.std.specs.Prelude.{Option, Some, None}
use Rattle.wc_text.specs.declared.names.Handle.{Handle}
use Rattle.wc_text.specs.declared.names.Pair.{Pair}
use Rattle.wc_buffers.specs.Calls.{EntryGroups, vars_at}
use Rattle.wc_buffers.specs.Vars.{value_of}
use Rattle.wc_irc.specs.Servers.{ServerState}
use Rattle.wc_irc.specs.TalkActs.{has_value}

-- whether a buffer is one, by its variables, where it is there
abbrev pub is_private_by : ServerState → Option (List Pair) → Bool
is_private_by s None = false
is_private_by s (Some vars) = has_value s.name (value_of (codes "server") vars)
    && has_value (codes "private") (value_of (codes "type") vars)

-- how many there are
abbrev pub privates_at : EntryGroups → ServerState → List Handle → ℕ
privates_at groups s handles = length (filter (λ h. is_private_by s (vars_at h groups)) handles)

abbrev pub all_privates_at : EntryGroups → ServerState → List (List Handle) → ℕ
all_privates_at groups s [] = 0
all_privates_at groups s (handles ∷ others) = privates_at groups s handles
    + all_privates_at groups s others
