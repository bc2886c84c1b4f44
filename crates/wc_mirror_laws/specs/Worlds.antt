-- What always holds of the world of the core.
use Rattle.std.specs.Prelude.{◌≡◌, ℕ, ◌+◌, ◌<◌, ◌≤◌, ◌^◌, true, false, [], length, All}
use Rattle.std.specs.List.{AllByRecursion}
use Rattle.wc_text.specs.declared.names.Pair.{Pair}
use Rattle.wc_buffers.specs.declared.row.BufferEntry.{BufferEntry}
use Rattle.wc_buffers.specs.Calls.{handle_of}
use Rattle.wc_buffers.specs.Groups.{rows, has}
use Rattle.wc_buffers.specs.Kept.{IsBuffer, handles}
use Rattle.wc_buffers.specs.Table.{AreGroups}
use Rattle.wc_lines.specs.Ring.{has_content}
use Rattle.wc_model.specs.World.{World, lines_at, row_count, row_limit}
use Rattle.wc_world.specs.Kept.{AreContentsApart}
use Rattle.wc_mirror_laws.specs.Nicks.{AreListsKept}
use Rattle.wc_mirror_laws.specs.Printed.{IsPrinted}

-- a variable with a short name
abbrev pub HasShortName : Pair → Type 0
HasShortName var = length var.name ≤ 64

-- a buffer within its limits, whose handles were drawn before the next one
pub record IsBufferKept (next : ℕ) (e : BufferEntry) : Type 0 where
  pub fit : IsBuffer e
  pub names : AllByRecursion HasShortName e.vars
  pub some : 0 < e.row.handle.0
  pub below : e.row.handle.0 < next
  pub own : e.row.own_lines.0 < next
  pub mixed : e.row.mixed_lines.0 < next

pub record IsWorldKept (limit : ℕ) (world : World) : Type 0 where
  pub same : world.limit ≡ limit
  pub started : 0 < world.next
  pub ended : world.next ≤ 2 ^ 62 + 1
  -- at most 256 buffers, each once, in groups that are not empty
  pub groups : AreGroups (handles world.groups)
  pub each : AllByRecursion (IsBufferKept world.next) (rows world.groups)
  pub within : (h : ℕ) → length (lines_at world h) ≤ limit
  pub printed : (h : ℕ) → All IsPrinted (lines_at world h)
  -- no two lines of a buffer have one content, and each was drawn
  pub apart : (h : ℕ) → AreContentsApart world.next (lines_at world h)
  -- a buffer that is not there has no lines
  pub none : (h : ℕ) → has handle_of h world.groups ≡ false → lines_at world h ≡ []
  -- so have the nicklists of all buffers together
  pub nicks : AreListsKept world.next world.groups world.nicks
  pub counted : row_count world ≤ row_limit

-- a buffer holds a line with this content
abbrev pub Holds : World → ℕ → ℕ → Type 0
Holds world buffer content = has_content (record { 0 = content }) (lines_at world buffer) ≡ true

-- no content is held by two buffers
abbrev pub AreHeldOnce : World → Type 0
AreHeldOnce world = (a b content : ℕ) → Holds world a content → Holds world b content → a ≡ b
