-- Which bytes spell a message, and which are too few.
use Rattle.std.specs.Prelude.{◌≡◌, ℕ, ◌<◌, ◌≤◌, ◌^◌, ◌-◌, Bool, true, ◌&&◌, ◌||◌}
use Rattle.std.specs.Prelude.{nat_lt, nat_le, List, length, take, Option, Some, None}
use Rattle.std.specs.Int.{w32, from_be_bytes}
use Rattle.std.specs.Str.{IsUtf8}
use Rattle.wc_objects.specs.declared.object.WireMessage.{WireMessage}
use Rattle.wc_objects.specs.Forms.{well_formed}
use Rattle.wc_objects.specs.Spelling.{message_bytes}
use Rattle.wc_objects.specs.Within.{IsWithin}

-- the bytes are the one spelling of a message that keeps the rules, and no longer than a message
-- may be
pub record Spells (message : WireMessage) (bytes : List ℕ) : Type 0 where
  pub id : IsUtf8 message.id
  pub formed : well_formed message.objects ≡ true
  pub spelling : bytes ≡ message_bytes message.id message.objects
  pub fits : length bytes ≤ 2 ^ 31 - 1

-- the front of the bytes, so many of them, spells the message, whose numbers are of their types
pub record FrontSpells (message : WireMessage) (size : ℕ) (bytes : List ℕ) : Type 0 where
  pub reaches : size ≤ length bytes
  pub spells : Spells message (take size bytes)
  pub within : IsWithin message

-- fewer bytes are there than a message needs: fewer than four, or fewer than the first four state,
-- from 9 to 2^31 - 1
abbrev pub misses_of : ℕ → ℕ → Bool
misses_of size there = nat_le 9 size && (nat_le size (2 ^ 31 - 1) && nat_lt there size)

abbrev pub misses_bytes : List ℕ → Bool
misses_bytes bytes = nat_lt (length bytes) 4 || misses_of (from_be_bytes w32 (take 4 bytes))
    (length bytes)

-- the front of the bytes, so many of them, is the spelling
pub record IsFront (spelling : List ℕ) (size : ℕ) (bytes : List ℕ) : Type 0 where
  pub reaches : size ≤ length bytes
  pub spelt : take size bytes ≡ spelling

-- null, or a text in UTF-8 that a length can state
abbrev pub IsStr : Option (List ℕ) → Type 0
IsStr None = Unit {0}
IsStr (Some text) = IsUtf8 text × (length text < 2 ^ 31)
