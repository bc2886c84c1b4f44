-- The message of an event, as it is put after the unsent bytes.
use Rattle.std.proofs.Common.{◌≡◌, ℕ, List, Option, Some, None, option_map, sym, ◌∙◌, append-nil}
use Rattle.std.specs.Str.{IsUtf8}
use Rattle.wc_text.specs.declared.names.Handle.{Handle}
use Rattle.wc_model.specs.World.{World, lines_at}
use Rattle.wc_model.specs.declared.notice.EventKind.TheVariants as kinds
use Rattle.wc_model.specs.declared.notice.Notice.{Notice}
use Rattle.wc_model.specs.Parts.{flag_part}
use Rattle.wc_keys.proofs.EventIds.{id_text}
use Rattle.wc_objects.specs.declared.object.Object.{Object}
use Rattle.wc_events.specs.BufferObjects.{event_objects, flagged_objects, id_of, objects_of}
use Rattle.wc_events.specs.EventBytes.{IsPut, IsTooLong}
use Rattle.wc_session.specs.Event.{event_messages, if_fits}
use Rattle.wc_session.specs.Sending.{message, Sends}
use Rattle.wc_session.proofs.SendingLemmas.{sends_one, sends_too_long}

put_sends : (old new id : List ℕ) (objects : Option (List Object)) → IsUtf8 id → IsPut old new id objects → Sends old new (if_fits (option_map (λ told. message id told) objects))
put_sends old new id None text put = record { bytes = put.bytes; spelt = tt }
put_sends old new id (Some told) text put = sends_one old new id told put.bytes put.fits text put.formed

long_sends : (old new id : List ℕ) (objects : Option (List Object)) → new ≡ old → IsTooLong id objects → Sends old new (if_fits (option_map (λ told. message id told) objects))
long_sends old new id None same long = record { bytes = same ∙ sym (append-nil old); spelt = tt }
long_sends old new id (Some told) same long = sends_too_long old new id told same long

pub event_put : (old new : List ℕ) (world : World) (notice : Notice) → IsPut old new (id_of notice.kind) (event_objects world notice) → Sends old new (event_messages world notice)
event_put old new world notice put = put_sends old new (id_of notice.kind) (event_objects world notice) (id_text notice.kind) put

pub event_too_long : (old new : List ℕ) (world : World) (notice : Notice) → new ≡ old → IsTooLong (id_of notice.kind) (event_objects world notice) → Sends old new (event_messages world notice)
event_too_long old new world notice same long = long_sends old new (id_of notice.kind) (event_objects world notice) same long

-- the same of flags
pub flags_put : (old new : List ℕ) (world : World) (buffer : Handle) (flips : List Handle) → IsPut old new (id_of kinds.LineDataChanged) (flagged_objects buffer flips (lines_at world buffer.0))
    → Sends old new (event_messages world (flag_part flips buffer.0))
unfolding objects_of
flags_put old new world buffer flips put = event_put old new world (flag_part flips buffer.0) put

pub flags_too_long : (old new : List ℕ) (world : World) (buffer : Handle) (flips : List Handle) → new ≡ old → IsTooLong (id_of kinds.LineDataChanged) (flagged_objects buffer flips (lines_at world buffer.0))
    → Sends old new (event_messages world (flag_part flips buffer.0))
unfolding objects_of
flags_too_long old new world buffer flips same long = event_too_long old new world (flag_part flips buffer.0) same long
