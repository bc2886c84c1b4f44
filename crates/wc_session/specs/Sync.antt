-- Which events a client asked for.
use Rattle.std.specs.Prelude.{ℕ, Bool, true, false, not, ◌==◌, ◌&&◌, ◌||◌, List, [], ◌∷◌, filter}
use Rattle.std.specs.Prelude.{fold, Option, Some, None, codes, if◌then◌else◌}
use Rattle.std.specs.List.{list_any}
use Rattle.std.specs.Str.{bytes_eq}
use Rattle.wc_text.specs.declared.names.Handle.{Handle}
use Rattle.wc_buffers.specs.Calls.{EntryGroups}
use Rattle.wc_model.specs.declared.notice.EventKind.{EventKind}
use Rattle.wc_model.specs.declared.notice.EventKind.TheVariants as kind
use Rattle.wc_keys.specs.declared.events.Asked.{Asked}
use Rattle.wc_keys.specs.declared.events.Asked.TheVariants as asked
use Rattle.wc_keys.specs.Events.{asked_of}
use Rattle.wc_session.specs.declared.sync_set.SyncSet.{SyncSet}
use Rattle.wc_session.specs.declared.sync_set.BufferSet.{BufferSet}
use Rattle.wc_session.specs.declared.client.Client.{Client}
use Rattle.wc_session.specs.Names.{buffer_named}

abbrev pub has : List ℕ → List (List ℕ) → Bool
has name names = list_any (λ other. bytes_eq other name) names

abbrev pub no_options : SyncSet
no_options = record {
  buffers = false;
  upgrade = false;
  buffer = false;
  nicklist = false;
  trims = false;
}

-- what a request asks for that names no option
abbrev pub usual_options : SyncSet
usual_options = record {
  buffers = true;
  upgrade = true;
  buffer = true;
  nicklist = true;
  trims = false;
}

-- the options of these names; other names are none
abbrev pub options_named : List (List ℕ) → SyncSet
options_named names = record {
  buffers = has (codes "buffers") names;
  upgrade = has (codes "upgrade") names;
  buffer = has (codes "buffer") names;
  nicklist = has (codes "nicklist") names;
  trims = has (codes "trims") names;
}

-- the options of a request, where none stand for the usual ones
abbrev pub options_asked : Option (List (List ℕ)) → SyncSet
options_asked None = usual_options
options_asked (Some names) = options_named names

-- of one buffer there are events of its own, of its nicklist, and of its lines that went, alone
abbrev pub of_buffer : SyncSet → SyncSet
of_buffer set = record set { buffers = false; upgrade = false }

abbrev pub union : SyncSet → SyncSet → SyncSet
union a b = record {
  buffers = a.buffers || b.buffers;
  upgrade = a.upgrade || b.upgrade;
  buffer = a.buffer || b.buffer;
  nicklist = a.nicklist || b.nicklist;
  trims = a.trims || b.trims;
}

abbrev pub difference : SyncSet → SyncSet → SyncSet
difference a b = record {
  buffers = a.buffers && not b.buffers;
  upgrade = a.upgrade
      && not b.upgrade;
  buffer = a.buffer && not b.buffer;
  nicklist = a.nicklist && not b.nicklist;
  trims = a.trims && not b.trims;
}

-- ---- the sets for single buffers

abbrev pub set_at : ℕ → List BufferSet → SyncSet
set_at buffer [] = no_options
set_at buffer (s ∷ sets) = if s.buffer.0 == buffer then s.set else set_at buffer sets

-- options put to the set of a buffer; the first ones make a set after the others
abbrev pub put_to : SyncSet → Handle → List BufferSet → List BufferSet
put_to options buffer [] = record { buffer = buffer; set = options } ∷ []
put_to options buffer (s ∷ sets) =
    if s.buffer.0 == buffer.0 then record { buffer = s.buffer; set = union s.set options } ∷ sets
    else s ∷ put_to options buffer sets

-- options taken from the set of a buffer, where it has one
abbrev pub without_options : SyncSet → Handle → List BufferSet → List BufferSet
without_options options buffer [] = []
without_options options buffer (s ∷ sets) =
    if s.buffer.0 == buffer.0 then record { buffer = s.buffer; set = difference s.set options } ∷
    sets else s ∷ without_options options buffer sets

-- what is done for a buffer that is named; one that is not there is passed over
abbrev pub at_named : (Handle → List BufferSet → List BufferSet) → List BufferSet → Option Handle →
    List BufferSet
at_named change sets None = sets
at_named change sets (Some buffer) = change buffer sets

abbrev pub at_each : EntryGroups → (Handle → List BufferSet → List BufferSet) → List BufferSet →
    List (List ℕ) → List BufferSet
at_each groups change sets names =
    fold (λ sets name. at_named change sets (buffer_named groups name)) sets names

-- The set for `*` is changed where `*` is among the buffers, and the sets of the buffers that are
-- named.
unfoldable pub synchronized : EntryGroups → Client → List (List ℕ) → Option (List (List ℕ)) → Client
synchronized groups client buffers options = record client {
  everywhere = if has (codes "*") buffers then union client.everywhere (options_asked options)
      else client.everywhere;
  sets = at_each groups (put_to (of_buffer (options_asked options))) client.sets buffers;
}

unfoldable pub desynchronized : EntryGroups → Client → List (List ℕ) →
    Option (List (List ℕ)) → Client
desynchronized groups client buffers options = record client {
  everywhere = if has (codes "*") buffers then difference client.everywhere (options_asked options)
      else client.everywhere;
  sets = at_each groups (without_options (of_buffer (options_asked options))) client.sets buffers;
}

-- ---- which events are for a client

-- whether a set has one of these options
abbrev pub asks : Asked → SyncSet → Bool
asks asked.Buffers set = set.buffers
asks asked.Buffer set = set.buffer
asks asked.Either set = set.buffers || set.buffer
asks asked.Nicklist set = set.nicklist
asks asked.Trims set = set.trims
asks asked.Nothing set = false

-- the options of which an event needs one
abbrev pub wants : EventKind → SyncSet → Bool
wants kind set = asks (asked_of kind) set

-- an event of a buffer is for a client where either set has an option that it needs
abbrev pub follows : EventKind → ℕ → Client → Bool
follows kind buffer client = wants kind (union client.everywhere (set_at buffer client.sets))

-- a closed buffer has no set
abbrev pub without_set : ℕ → List BufferSet → List BufferSet
without_set buffer sets = filter (λ (s : BufferSet). not (s.buffer.0 == buffer)) sets

abbrev pub sets_after : EventKind → ℕ → List BufferSet → List BufferSet
sets_after kind.Closing buffer sets = without_set buffer sets
sets_after _ buffer sets = sets

-- what is known of a client after an event, be it for the client or not
abbrev pub after_event : EventKind → ℕ → Client → Client
after_event kind buffer client = record client { sets = sets_after kind buffer client.sets }
