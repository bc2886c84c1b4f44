-- Lines that get another limit.
use Rattle.std.specs.Prelude.{◌≡◌, ℕ, ◌-◌, ◌≤◌, length, Option, Some, None, option_map, List}
use Rattle.std.specs.HashMap.{HashMap}
use Rattle.wc_lines.specs.Held.{RingView}
use Rattle.wc_lines.specs.Ring.{with_room}
use Rattle.wc_model.specs.declared.notice.Trim.{Trim}
use Rattle.wc_model.specs.Notices.{trim_of}
use Rattle.wc_world.specs.Flips.{stored_lines}
use Rattle.wc_world.specs.Kept.{held_at}

-- how many of the lines that are stored for a buffer pass a limit
abbrev pub stored_trim : {S : Type 0} → ℕ → HashMap ℕ RingView S → ℕ → List Trim
stored_trim limit m buffer = trim_of (record { 0 = buffer }) (length (stored_lines m buffer) - limit)

-- where lines are held there is room for so many
abbrev pub HasRoom : ℕ → Option RingView → Type 0
HasRoom limit None = Unit {0}
HasRoom limit (Some x) = limit ≤ x.room

-- the same is held, perhaps with more room
abbrev pub AreRoomier : {S T : Type 0} → HashMap ℕ RingView S → HashMap ℕ RingView T → Type 0
AreRoomier old new = (q : ℕ) → (room : ℕ) × (held_at new q ≡ option_map (with_room room)
    (held_at old q))
