-- Messages as they are put after the unsent bytes.
use Rattle.std.specs.Prelude.{◌≡◌, ℕ, ◌^◌, ◌-◌, Bool, true, false, nat_le, List, [], ◌∷◌}
use Rattle.std.specs.Prelude.{◌++◌, length, if◌then◌else◌, None}
use Rattle.std.specs.List.{flat_map, AllByRecursion}
use Rattle.wc_objects.specs.declared.object.Object.{Object}
use Rattle.wc_objects.specs.declared.object.Object.TheVariants as o
use Rattle.wc_objects.specs.declared.object.Hda.{roll-Hda}
use Rattle.wc_objects.specs.declared.object.WireMessage.{WireMessage}
use Rattle.wc_objects.specs.Spelling.{message_bytes}
use Rattle.wc_objects.specs.Spells.{Spells}

abbrev pub message : List ℕ → List Object → WireMessage
message id objects = record { id = id; objects = objects }

abbrev pub spelling : WireMessage → List ℕ
spelling m = message_bytes m.id m.objects

-- a message has at most 2^31 - 1 bytes
abbrev pub fits : WireMessage → Bool
fits m = nat_le (length (spelling m)) (2 ^ 31 - 1)

-- this message, where it fits
unfoldable pub fitting : WireMessage → List WireMessage
fitting m = if fits m then m ∷ [] else []

-- the null hdata
abbrev pub null_hdata : List Object
null_hdata = o.Hda (roll-Hda (record { path = None; keys = None; items = [] })) ∷ []

-- The reply under an id: these objects; where they are too long for a message, the null hdata;
-- where the id alone is too long for one, nothing.
unfoldable pub reply : List ℕ → List Object → List WireMessage
reply id objects = if fits (message id objects) then message id objects ∷ []
    else fitting (message id null_hdata)

-- the bytes are those before and the spelling of each message, in order
pub record Sends (old new : List ℕ) (messages : List WireMessage) : Type 0 where
  pub bytes : new ≡ old ++ flat_map (λ m. spelling m) messages
  pub spelt : AllByRecursion (λ m. Spells m (spelling m)) messages

-- whether there is a message
abbrev pub is_owed : List WireMessage → Bool
is_owed [] = false
is_owed (m ∷ messages) = true

-- the answer to a path was put after the bytes, or nothing was, where the null hdata is to be told
abbrev pub IsTold : Bool → List ℕ → List ℕ → List ℕ → List Object → Type 0
IsTold true old new id objects = Sends old new (reply id objects) × (is_owed (reply id objects) ≡ true)
IsTold false old new id objects = (new ≡ old) × (reply id objects ≡ fitting (message id null_hdata))
