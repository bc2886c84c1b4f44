-- What the client makes of all that it was sent.
use Rattle.std.specs.Prelude.{ℕ, ◌≡◌, List, [], ◌∷◌, drop, Some, Ok, codes}
use Rattle.wc_objects.specs.declared.object.WireMessage.{WireMessage}
use Rattle.wc_objects.specs.Reading.{first_message}
use Rattle.wc_view.specs.Taking.{MirrorParts, nothing_taken, parts_after}
use Rattle.wc_demo.specs.declared.counts.Counts.{Counts}
use Rattle.wc_demo.specs.MirrorCounts.{mirror_counts_of}

-- a message is at the front of bytes, of which these are left after it, and a mirror folds it
pub record Takes (old : MirrorParts) (bytes : List ℕ) (message : WireMessage) (new : MirrorParts)
    (left : List ℕ) : Type 0 where
  pub size : ℕ
  pub front : first_message bytes ≡ Ok (Some (message, size))
  pub rest : left ≡ drop size bytes
  pub folds : parts_after old message ≡ Ok new

abbrev pub TakesOne : MirrorParts → List ℕ → MirrorParts → List ℕ → Type 0
TakesOne old bytes new left = (message : WireMessage) × Takes old bytes message new left

-- bytes are these messages, one after another, and a mirror folds each of them
abbrev pub TakesEach : List WireMessage → MirrorParts → List ℕ → MirrorParts → Type 0
TakesEach [] old bytes new = (bytes ≡ []) × (new ≡ old)
TakesEach (message ∷ messages) old bytes new = (between : MirrorParts) × (left : List ℕ)
    × Takes old bytes message between left × TakesEach messages between left new

pub record TakesAll (old : MirrorParts) (bytes : List ℕ) (new : MirrorParts) : Type 0 where
  pub messages : List WireMessage
  pub each : TakesEach messages old bytes new

-- a mirror takes all that was sent, and then all that is unsent
pub record TakesBoth (old : MirrorParts) (sent unsent : List ℕ) (new : MirrorParts) : Type 0 where
  pub between : MirrorParts
  pub sent_taken : TakesAll old sent between
  pub unsent_taken : TakesAll between unsent new

-- these are the counts of a mirror that takes both, holds so many lines of a buffer at most, and
-- follows the three dumps of the client
pub record IsCountedBy (limit : ℕ) (sent unsent : List ℕ) (counts : Counts) : Type 0 where
  pub parts : MirrorParts
  pub taken : TakesBoth (nothing_taken (Some limit) (codes "b") (codes "l") (codes "n")) sent unsent parts
  pub are : counts ≡ mirror_counts_of parts
