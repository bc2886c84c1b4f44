-- Handles that are passed over.
use Rattle.std.specs.Prelude.{ℕ, max, if◌then◌else◌, nat_le}
use Rattle.wc_model.specs.World.{World, last_handle}

-- The next handle after those below this one are passed over. Nothing is passed over where this one
-- is past the last handle, and a handle that was passed over stays so.
unfoldable pub next_from : ℕ → ℕ → ℕ
next_from handle next = if nat_le handle last_handle then max next handle else next

-- the world after the handles below this one are passed over
abbrev pub skip_world : ℕ → World → World
skip_world handle world = record world { next = next_from handle world.next }
