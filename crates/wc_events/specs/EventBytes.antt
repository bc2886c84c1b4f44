-- An event as bytes after others.
use Rattle.std.specs.Prelude.{◌≡◌, ℕ, ◌-◌, ◌^◌, ◌<◌, ◌≤◌, true, List, [], ◌++◌, length}
use Rattle.std.specs.Prelude.{Option, Some, None, IfSome}
use Rattle.wc_objects.specs.declared.object.Object.{Object}
use Rattle.wc_objects.specs.Forms.{well_formed}
use Rattle.wc_objects.specs.Spelling.{message_bytes}

-- the message of an event, and nothing where nothing is told
abbrev pub event_bytes : List ℕ → Option (List Object) → List ℕ
event_bytes id None = []
event_bytes id (Some objects) = message_bytes id objects

-- the event was put after the bytes that were there
pub record IsPut (old new id : List ℕ) (objects : Option (List Object)) : Type 0 where
  pub bytes : new ≡ old ++ event_bytes id objects
  pub formed : IfSome objects (λ told. well_formed told ≡ true)
  pub fits : length (event_bytes id objects) ≤ 2 ^ 31 - 1

-- its message is longer than one may be
abbrev pub IsTooLong : List ℕ → Option (List Object) → Type 0
IsTooLong id objects = 2 ^ 31 - 1 < length (event_bytes id objects)
