-- The lines of the buffers as they are stored, and what always holds of them.
use Rattle.std.specs.Prelude.{◌≡◌, ℕ, ◌+◌, ◌<◌, ◌≤◌, ◌^◌, true, false, nat_eq, Option, Some}
use Rattle.std.specs.Prelude.{List, [], ◌∷◌, map, is_some, if◌then◌else◌, option_map, unwrap_or}
use Rattle.std.specs.FinMap.{FinMap, from_entries, get}
use Rattle.std.specs.HashMap.{HashMap, get_by}
use Rattle.std.specs.Ordering.{nat_cmp}
use Rattle.wc_lines.specs.declared.line.Line.{Line}
use Rattle.wc_lines.specs.Held.{RingView}
use Rattle.wc_lines.specs.Ring.{has_content}
use Rattle.wc_nicklist.specs.declared.item.Row.{Row}
use Rattle.wc_buffers.specs.Calls.{EntryGroups, handle_of}
use Rattle.wc_buffers.specs.Groups.{has}
use Rattle.wc_model.specs.World.{World, printed_at}
use Rattle.wc_world.specs.declared.line_limit.LineLimit.{LineLimit}

-- what is held under a handle
abbrev pub held_at : {S : Type 0} → HashMap ℕ RingView S → ℕ → Option RingView
held_at m h = get_by (nat_eq h) m

-- what is seen of each buffer's lines, by its handle
abbrev pub field_map : {S Y : Type 0} → (RingView → Y) → HashMap ℕ RingView S → FinMap nat_cmp Y
field_map field m = from_entries (map (λ e. (e.0, field e.1)) m.entries)

-- the lines of each buffer, by its handle
abbrev pub lines_map : {S : Type 0} → HashMap ℕ RingView S → FinMap nat_cmp (List Line)
lines_map m = field_map (λ x. x.lines) m

-- how many lines were ever printed in each buffer, by its handle
abbrev pub printed_map : {S : Type 0} → HashMap ℕ RingView S → FinMap nat_cmp ℕ
printed_map m = field_map (λ x. x.pushed) m

-- how many lines were ever printed under a handle, where a buffer that is not there had none
abbrev pub printed_under : {S : Type 0} → HashMap ℕ RingView S → ℕ → ℕ
printed_under m h = unwrap_or (option_map (λ (x : RingView). x.pushed) (held_at m h)) 0

-- what is held under one handle changed by f, and all else as it was
abbrev pub IsHeldChanged : {S T : Type 0} → ℕ → (RingView → RingView) → HashMap ℕ RingView S →
    HashMap ℕ RingView T → Type 0
IsHeldChanged h f old new = (q : ℕ) →
    held_at new q ≡ (if nat_eq h q then option_map f (held_at old q) else held_at old q)

-- no two lines have one content, and all contents lie below the next handle
abbrev pub AreContentsApart : ℕ → List Line → Type 0
AreContentsApart next [] = Unit {0}
AreContentsApart next (line ∷ lines) = (line.content.0 < next)
    × (has_content line.content lines ≡ false) × AreContentsApart next lines

pub record IsHeldBuffer (limit : LineLimit) (next : ℕ) (x : RingView) : Type 0 where
  pub limited : x.limit ≡ limit.most
  -- there is room for as many lines as it may hold
  pub roomy : limit.most ≤ x.room
  pub apart : AreContentsApart next x.lines
  -- each line that was printed drew a handle
  pub counted : x.pushed < next

pub record IsWorld {S : Type 0} (groups : EntryGroups) (lines : HashMap ℕ RingView S)
    (limit : LineLimit) (next : ℕ) : Type 0 where
  -- each buffer has lines, and nothing else has
  pub stored : (h : ℕ) → is_some (held_at lines h) ≡ has handle_of h groups
  pub fit : (h : ℕ) (x : RingView) → held_at lines h ≡ Some x → IsHeldBuffer limit next x
  pub below : (h : ℕ) → has handle_of h groups ≡ true → h < next
  pub some : 1 ≤ limit.most
  pub most : limit.most ≤ 4096
  pub started : 1 < next
  pub ended : next ≤ 2 ^ 62 + 1

-- the world that these fields stand for
abbrev pub world_of : {S : Type 0} → EntryGroups → HashMap ℕ RingView S → FinMap nat_cmp (List Row)
    → LineLimit → ℕ → World
world_of groups held nicks limit next = record {
  groups = groups;
  lines = lines_map held;
  printed = printed_map held;
  nicks = nicks;
  limit = limit.most;
  limit_changes = limit.changes;
  next = next;
}

-- what a world knows of the lines of a buffer: how many it holds at most, the lines, and how many were
-- ever printed in it
pub record LinesView : Type 0 where
  pub limit : ℕ
  pub lines : List Line
  pub pushed : ℕ

-- lines but for the room that they have
abbrev pub lines_view : RingView → LinesView
lines_view x = record { limit = x.limit; lines = x.lines; pushed = x.pushed }

abbrev pub held_in : World → ℕ → Option LinesView
held_in world h = option_map (λ lines. record {
  limit = world.limit;
  lines = lines;
  pushed = printed_at world h;
}) (get world.lines h)
