-- The three parts of the state that a client may hold: the lines of all buffers, the buffers in
-- their groups, and the nicklists of all buffers.
use Rattle.std.specs.Prelude.{ℕ, Bool, false, List, Option, None, Result, Ok, Err, is_none}
use Rattle.std.specs.Prelude.{if◌then◌else◌, bytes_eq}
use Rattle.std.specs.FinMap.{empty}
use Rattle.wc_model.specs.World.{World}
use Rattle.wc_objects.specs.declared.object.WireMessage.{WireMessage}
use Rattle.wc_relaycmd.specs.declared.request.Command.{Command}
use Rattle.wc_relaycmd.specs.declared.request.Command.TheVariants as ask
use Rattle.wc_session.specs.Reply.{is_line_dump, is_buffer_dump}
use Rattle.wc_view.specs.Parts.{Part}
use Rattle.wc_view.specs.Fold.{fold_lines}
use Rattle.wc_view.specs.Views.{HasAll}
use Rattle.wc_view.specs.Grouped.{MirrorGroups}
use Rattle.wc_view.specs.BufferFold.{fold_buffers}
use Rattle.wc_view.specs.BufferViews.{HasBuffers}
use Rattle.wc_view.specs.NickFold.{NickPart, fold_nicks}
use Rattle.wc_view.specs.NickViews.{HasNicks}
use Rattle.wc_board.specs.Told.{Told}
use Rattle.wc_core.specs.State.{State}
use Rattle.wc_mirror_laws.specs.Roots.{RootPart, fold_roots, HasRoots}

pub data HeldPart : Type 0 where
  Lines : HeldPart
  Buffers : HeldPart
  Nicks : HeldPart

-- whether a command asks for the dump of a part
abbrev pub asks_dump : HeldPart → Command → Bool
asks_dump Lines (ask.Hdata path keys) = is_line_dump path keys
asks_dump Lines _ = false
asks_dump Buffers (ask.Hdata path keys) = is_buffer_dump path keys
asks_dump Buffers _ = false
asks_dump Nicks (ask.Nicklist buffer) = is_none buffer
asks_dump Nicks _ = false

-- the rows of each nicklist, or the place where a diff was refused, and the roots
pub record NicksHeld : Type 0 where
  pub rows : Result (Option NickPart) ℕ
  pub roots : RootPart

-- what a client has of a part
abbrev pub HeldOf : HeldPart → Type 0
HeldOf Lines = Option Part
HeldOf Buffers = Option MirrorGroups
HeldOf Nicks = NicksHeld

-- what it has before it takes the dump
abbrev pub nothing : (which : HeldPart) → HeldOf which
nothing Lines = None
nothing Buffers = None
nothing Nicks = record { rows = Ok None; roots = empty }

-- after a diff that was refused nothing but the dump is taken
abbrev pub fold_unrefused : List ℕ → Result (Option NickPart) ℕ → WireMessage →
    Result (Option NickPart) ℕ
fold_unrefused id (Ok part) message = fold_nicks id part message
fold_unrefused id (Err place) message = if bytes_eq message.id id then fold_nicks id None message
    else Err place

-- what it has after a message, where it keeps at most so many lines of a buffer, or no limit of its own
abbrev pub fold_one : (which : HeldPart) → Option ℕ → List ℕ → HeldOf which → WireMessage → HeldOf which
fold_one Lines limit id held message = fold_lines limit id held message
fold_one Buffers limit id held message = fold_buffers id held message
fold_one Nicks limit id held message = record {
  rows = fold_unrefused id held.rows message;
  roots = fold_roots id held.roots message;
}

-- the rows of each nicklist that were told, under the roots of their buffers; no diff was refused
pub record HasToldNicks (held : NicksHeld) (told : Told) : Type 0 where
  pub rows : HasNicks held.rows told
  pub roots : HasRoots held.roots told

-- What it has is what is held: the lines and the buffers of a world, and of nicklists the rows that
-- were told.
abbrev pub HasOf : (which : HeldPart) → HeldOf which → World → Told → Type 0
HasOf Lines held world told = HasAll held world
HasOf Buffers held world told = HasBuffers held world
HasOf Nicks held world told = HasToldNicks held told

-- It is what the state holds. After a tick the rows that were told are those of the world.
abbrev pub Has : (which : HeldPart) → HeldOf which → State → Type 0
Has which held state = HasOf which held state.world state.told
