-- Messages that are put into frames.
use Rattle.std.specs.Prelude.{◌≡◌, ◌≢◌, ℕ, ◌≤◌, ◌<◌, ◌⊎◌, List, [], ◌∷◌, ◌++◌, length, take, drop}
use Rattle.std.specs.Prelude.{Option, None, Some, false}
use Rattle.std.specs.List.{flat_map}
use Rattle.std.specs.Int.{w32, from_be_bytes}
use Rattle.wc_framing.specs.declared.messages.Framed.{Framed}
use Rattle.wc_ws.specs.declared.names.PutRefused.{PutRefused}
use Rattle.wc_ws.specs.declared.names.PutRefused.TheVariants.{NotTaken}
use Rattle.wc_ws.specs.Link.{Link, binary_frame, takes_messages}

-- how many bytes a message states that it has
abbrev pub stated : List ℕ → ℕ
stated bytes = from_be_bytes w32 (take 4 bytes)

-- these bytes are one message: they state their length
pub record IsMessage (message : List ℕ) : Type 0 where
  pub least : 9 ≤ length message
  pub whole : length message ≡ stated message

-- no whole message is at the front
abbrev pub HasNoMessage : List ℕ → Type 0
HasNoMessage bytes = (message rest : List ℕ) → IsMessage message → bytes ≢ message ++ rest

-- the message at the front, where it is whole
abbrev pub FirstMessage : List ℕ → Option (List ℕ) → Type 0
FirstMessage bytes None = HasNoMessage bytes
FirstMessage bytes (Some message) = IsMessage message × ((rest : List ℕ) × (bytes ≡ message ++ rest))

abbrev pub concat : List (List ℕ) → List ℕ
concat [] = []
concat (bytes ∷ more) = bytes ++ concat more

abbrev pub AreMessages : List (List ℕ) → Type 0
AreMessages [] = Unit {0}
AreMessages (message ∷ messages) = IsMessage message × AreMessages messages

-- why no more messages were put: none is whole, or the next one was refused
abbrev pub StopsAt : List ℕ → Link → Option PutRefused → Type 0
StopsAt rest link None = HasNoMessage rest
StopsAt rest link (Some why) = (why ≡ NotTaken → takes_messages link ≡ false)

-- The messages at the front of the bytes, in order, each in a binary frame of its own after what was
-- to be sent; the rest begins with no whole message, or with one that was refused.
pub record Frames (bytes : List ℕ) (old : Link) (framed : Framed) (new : Link) : Type 0 where
  pub messages : List (List ℕ)
  pub rest : List ℕ
  pub are : AreMessages messages
  pub parts : bytes ≡ concat messages ++ rest
  pub count : framed.count ≡ length (concat messages)
  pub link : new ≡ record old { output = old.output ++ flat_map binary_frame messages }
  pub stops : StopsAt rest new framed.refused
