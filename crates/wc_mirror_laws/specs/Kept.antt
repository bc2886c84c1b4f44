-- What always holds of the core, as far as its lines are told.
use Rattle.std.specs.Prelude.{◌≡◌, ℕ, ◌≤◌, ◌<◌, ◌^◌, Bool, true, false, not, ◌&&◌, ◌||◌, ◌==◌}
use Rattle.std.specs.Prelude.{if◌then◌else◌, List, [], ◌∷◌}
use Rattle.std.specs.List.{AllByRecursion}
use Rattle.std.specs.Str.{IsUtf8}
use Rattle.wc_hotlist.specs.declared.row.HotRow.{HotRow}
use Rattle.wc_session.specs.declared.client.Client.{Client}
use Rattle.wc_session.specs.declared.sync_set.BufferSet.{BufferSet}
use Rattle.wc_session.specs.declared.sync_set.SyncSet.{SyncSet}
use Rattle.wc_core.specs.Fitted.{AreShown}
use Rattle.wc_core.specs.State.{State}
use Rattle.wc_core.specs.Step.{client_link}
use Rattle.wc_mirror_laws.specs.News.{AreNews, AreThere}
use Rattle.wc_mirror_laws.specs.Nicks.{AreListsKept}
use Rattle.wc_mirror_laws.specs.Worlds.{IsWorldKept, AreHeldOnce}

abbrev pub asks_some : SyncSet → Bool
asks_some set = set.buffers || (set.upgrade || (set.buffer || (set.nicklist || set.trims)))

abbrev pub has_sets : List BufferSet → Bool
has_sets [] = false
has_sets (s ∷ sets) = true

-- whether a client asked for any events
abbrev pub asks_events : Client → Bool
asks_events client = asks_some client.everywhere || has_sets client.sets

-- no client of a link asked for an event
abbrev pub is_quiet : ℕ → List Client → Bool
is_quiet link [] = true
is_quiet link (client ∷ clients) = not (client_link client == link && asks_events client)
    && is_quiet link clients

-- nor did one after the first that has this link
abbrev pub is_first_alone : ℕ → List Client → Bool
is_first_alone link [] = true
is_first_alone link (client ∷ clients) = if client_link client == link then is_quiet link clients
    else is_first_alone link clients

-- a message can name the buffer of each row
abbrev pub AreSmall : List HotRow → Type 0
AreSmall rows = AllByRecursion (λ (row : HotRow). row.buffer.0 < 2 ^ 64) rows

-- What always holds of the core, where this is said of the flags of its lines.
pub record IsKeptWith (Flags : Type 0) (link : ℕ) (state : State) : Type 0 where
  pub most : state.world.limit ≤ 4096
  pub world : IsWorldKept state.world.limit state.world
  pub once : AreHeldOnce state.world
  pub shown : Flags
  -- rows were told of each buffer that is there, and of no other
  pub told : AreListsKept state.world.next state.world.groups state.told
  -- the commands of the start are text
  pub texts : AllByRecursion IsUtf8 state.commands
  pub rows : AreSmall state.hotlist
  pub news : AreNews state.world.groups state.hotlist
  pub there : AreThere state.world.groups state.hotlist
  pub first : is_first_alone link state.clients ≡ true

-- Each line has the flag that the filters give it.
abbrev pub IsStateKept : ℕ → State → Type 0
IsStateKept link state = IsKeptWith (AreShown state.filters state.world) link state

-- Lines may have any flags, as where flags are set that no filter asks for.
abbrev pub IsKeptButFlags : ℕ → State → Type 0
IsKeptButFlags link state = IsKeptWith (Unit {0}) link state
